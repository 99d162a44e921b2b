use Rattle.std.proofs.Common.{◌≡◌, ◌∙◌, sym, arith}
use Rattle.dos_vtoc.proofs.Next.{one_more, is_next, none_left}
use Rattle.dos_vtoc.proofs.vtoc.Vtoc.next_free.Goals as goal

pub loop-number-init : goal.loop-number-init
loop-number-init c = λ k behind below. absurd (omega (arith, c.place_at-number.ensures, behind, below))

pub returns-then-is_free-clause-some : goal.returns-then-is_free-clause-some
returns-then-is_free-clause-some c = (
  c.if-from-ge-PLACES.false,
  is_next c.args.self.now c.args.from c.loop-number.number c.place_at-place.result c.loop-number.invariant c.place_at-place.ensures
      (sym c.is_free.ensures ∙ c.if-is_free.true) (omega (arith, c.place_at-number.ensures, c.loop-number.auto.number)) c.loop-number-test.true,
)

pub loop-number-preserved : goal.loop-number-preserved
loop-number-preserved c =
    one_more c.args.self.now c.args.from c.loop-number.number c.place_at-place.result c.loop-number.invariant c.place_at-place.ensures
    (sym c.is_free.ensures ∙ c.if-is_free.false)

pub returns-clause-none : goal.returns-clause-none
returns-clause-none c = λ _ place. none_left c.args.self.now c.args.from c.loop-number.number place c.loop-number.invariant (omega (arith, c.loop-number-test.false))
