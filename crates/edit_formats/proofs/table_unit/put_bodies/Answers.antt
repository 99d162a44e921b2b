use Rattle.std.proofs.Common.{◌≡◌, ◌<◌, ◌+◌, ◌*◌, ◌%◌, arith, false, length, refl, subst, sym, true}
use Rattle.a2_device.specs.declared.part.PartKind.TheVariants.{Body}
use Rattle.edit_formats.specs.Order.{part_at}
use Rattle.edit_formats.specs.Filling.{HasPointers}
use Rattle.edit_formats.specs.lemmas.Parts.{index_number, one_behind, part_is}
use Rattle.edit_formats.proofs.TableWrites.{pointer_more}
use Rattle.edit_formats.proofs.table_unit.put_bodies.Goals as goal

pub loop-k-preserved : goal.loop-k-preserved
loop-k-preserved c =
    let parts = c.args.parts.now in
    let places = c.args.places.now in
    let now = c.loop-k in
    let number = (part_at parts c.args.at).number in
    let own = (part_at parts now.k).number in
    let low : c.args.at < now.k = omega (arith, now.auto.k) in
    let body : (part_at parts now.k).kind ≡ Body = c.if-not-is_body.ensures.0 refl in
    let of = index_number c.requires.file.0 parts c.requires.file.1 c.args.at c.requires.at c.requires.index now.k low c.loop-k-test.true body now.invariant.bodies in
    let named = part_is (part_at parts now.k) Body (256 * number + own % 256) body (omega (arith, of)) in
    record {
      bodies = one_behind parts c.args.at now.k body now.invariant.bodies;
      has = subst (HasPointers parts places Body (256 * number) c.args.at (now.k + 1)) (sym c.set_pointer.ensures)
          (pointer_more parts places Body (256 * number) c.args.at now.k now.unit now.invariant.has (own % 256) (omega arith) low named);
    }

pub returns-then-not-is_body-clause-end : goal.returns-then-not-is_body-clause-end
returns-then-not-is_body-clause-end c = record {
  behind = omega (arith, c.loop-k.auto.k);
  within = omega (arith, c.loop-k-test.true);
  bodies = c.loop-k.invariant.bodies;
  next = λ more is. let no_way : false ≡ true = c.if-not-is_body.ensures.1 is in cc;
}

pub returns-then-not-is_body-clause-unit : goal.returns-then-not-is_body-clause-unit
returns-then-not-is_body-clause-unit c = c.loop-k.invariant.has

pub returns-clause-unit : goal.returns-clause-unit
returns-clause-unit c =
    let all : c.loop-k.k ≡ length c.args.parts.now = omega (arith, c.loop-k-test.false, c.loop-k.auto.k-end, c.requires.at) in
    subst (λ upto. HasPointers c.args.parts.now c.args.places.now Body (256 * (part_at c.args.parts.now c.args.at).number) c.args.at upto c.loop-k.unit) all c.loop-k.invariant.has
