use Rattle.std.proofs.Common.{◌≡◌, ◌<◌, ◌+◌, arith, false, length, refl, subst, sym, true}
use Rattle.a2_device.specs.declared.part.PartKind.TheVariants.{Body}
use Rattle.edit_formats.specs.Order.{part_at}
use Rattle.edit_formats.specs.Filling.{HasPairs}
use Rattle.edit_formats.proofs.ListWrites.{pair_more}
use Rattle.edit_formats.specs.lemmas.Parts.{list_number, one_behind}
use Rattle.edit_formats.proofs.list_unit.put_pairs.Goals as goal

pub loop-k-preserved : goal.loop-k-preserved
loop-k-preserved c =
    let parts = c.args.parts.now in
    let places = c.args.places.now in
    let now = c.loop-k in
    let low : c.args.at < now.k = omega (arith, now.auto.k) in
    let body : (part_at parts now.k).kind ≡ Body = c.if-not-is_body.ensures.0 refl in
    let number = list_number parts c.requires.file c.args.at c.requires.at c.requires.list now.k low c.loop-k-test.true body now.invariant.bodies in
    record {
      bodies = one_behind parts c.args.at now.k body now.invariant.bodies;
      has = subst (HasPairs parts places (part_at parts c.args.at).number c.args.at (now.k + 1)) (sym c.set_pair.ensures)
          (pair_more parts places (part_at parts c.args.at).number c.args.at now.k now.unit now.invariant.has low body number);
    }

pub returns-then-not-is_body-clause-end : goal.returns-then-not-is_body-clause-end
returns-then-not-is_body-clause-end c = record {
  behind = omega (arith, c.loop-k.auto.k);
  within = omega (arith, c.loop-k-test.true);
  bodies = c.loop-k.invariant.bodies;
  next = λ more is. let no_way : false ≡ true = c.if-not-is_body.ensures.1 is in cc;
}

pub returns-then-not-is_body-clause-unit : goal.returns-then-not-is_body-clause-unit
returns-then-not-is_body-clause-unit c = c.loop-k.invariant.has

pub returns-clause-unit : goal.returns-clause-unit
returns-clause-unit c =
    let all : c.loop-k.k ≡ length c.args.parts.now = omega (arith, c.loop-k-test.false, c.loop-k.auto.k-end, c.requires.at) in
    subst (λ upto. HasPairs c.args.parts.now c.args.places.now (part_at c.args.parts.now c.args.at).number c.args.at upto c.loop-k.unit) all c.loop-k.invariant.has
