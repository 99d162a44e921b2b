use Rattle.std.proofs.Common.{◌≡◌, get_or, take, true, false, rules, arith, refl, sym, ap, subst, ◌∙◌, append_assoc, ◌++◌, ◌∷◌, []}
use Rattle.std.proofs.lemmas.List.{take_all, take_more}
use Rattle.ring_cert.specs.Seen.{HasMet, is_seen}
use Rattle.ring_cert.proofs.Repeats.{HasMet-push, IsFirstRepeat-met}
use Rattle.ring_cert.proofs.seen.Seen.insert_all.Goals as goal

pub returns-then-not-branch : goal.returns-then-not-branch
returns-then-not-branch g c = λ front met.
    let x = get_or c.args.numbers.now c.loop-number.number-index 0 in
    let seen : is_seen c.loop-number.self x ≡ true = search rules in
    IsFirstRepeat-met c.loop-number.self front c.args.numbers.now c.loop-number.number-index x
    (c.loop-number.invariant front met) c.loop-number-test.true refl seen

pub loop-number-preserved : goal.loop-number-preserved
loop-number-preserved g c = λ front met.
    let x = get_or c.args.numbers.now c.loop-number.number-index 0 in
    let new : is_seen c.loop-number.self x ≡ false = search rules in
    let more = take_more c.args.numbers.now c.loop-number.number-index 0 c.loop-number-test.true in
    subst (HasMet c.insert.new.self)
    (append_assoc front (take c.loop-number.number-index c.args.numbers.now) (x ∷ []) ∙ ap (λ xs. front ++ xs) (sym more))
    (HasMet-push c.loop-number.self c.insert.new.self _ x (c.loop-number.invariant front met) new c.in_ok-insert.ensures.seen)

pub returns : goal.returns
returns g c = λ front met.
    rw (take_all c.loop-number.number-index c.args.numbers.now (omega arith)) at (c.loop-number.invariant front met)
