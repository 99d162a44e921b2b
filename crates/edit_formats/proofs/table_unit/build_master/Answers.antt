use Rattle.std.proofs.Common.{◌≡◌, ◌<◌, ◌+◌, ◌∙◌, arith, false, length, refl, subst, sym, true}
use Rattle.a2_device.specs.declared.part.PartKind.TheVariants.{Index}
use Rattle.edit_formats.specs.Order.{part_at}
use Rattle.edit_formats.specs.Filling.{HasPointers}
use Rattle.edit_formats.specs.lemmas.Parts.{index_low, part_is}
use Rattle.edit_formats.proofs.TableWrites.{master_unit, pointer_more, pointer_passed}
use Rattle.edit_formats.proofs.table_unit.build_master.Goals as goal
use Rattle.edit_formats.proofs.table_unit.build_master.Goals.{then-is_index, else-is_index}

pub set_pointer-requires-clause-number : goal.set_pointer-requires-clause-number
set_pointer-requires-clause-number c =
    let low = index_low c.requires.file.0 c.args.parts.now c.requires.file.1 c.loop-k.k (omega (arith, c.loop-k.auto.k)) c.loop-k-test.true (c.if-is_index.ensures.0 refl) in
    omega (arith, low)

pub loop-k-preserved : goal.loop-k-preserved
loop-k-preserved c =
    let parts = c.args.parts.now in
    let places = c.args.places.now in
    let now = c.loop-k in
    let later : 0 < now.k = omega (arith, now.auto.k) in
    elim c.if-is_index.branch [
      | then-is_index w ↦
          let is : (part_at parts now.k).kind ≡ Index = w.if-is_index.ensures.0 refl in
          let low = index_low c.requires.file.0 parts c.requires.file.1 now.k later c.loop-k-test.true is in
          let named = part_is (part_at parts now.k) Index (0 + (part_at parts now.k).number) is (omega arith) in
          subst (HasPointers parts places Index 0 0 (now.k + 1)) (sym (w.unit-is ∙ w.set_pointer.ensures))
          (pointer_more parts places Index 0 0 now.k now.unit now.invariant (part_at parts now.k).number (omega (arith, low)) later named)
      | else-is_index w ↦
          subst (HasPointers parts places Index 0 0 (now.k + 1)) (sym w.unit-is)
          (pointer_passed parts places Index 0 0 now.k now.unit now.invariant (λ is. let no_way : false ≡ true = w.if-is_index.ensures.1 is in cc))
    ]

pub returns : goal.returns
returns c =
    let all : c.loop-k.k ≡ length c.args.parts.now = omega (arith, c.loop-k-test.false, c.loop-k.auto.k-end, c.requires.file.1.ordered.some) in
    master_unit c.args.parts.now c.args.places.now c.loop-k.unit c.requires.master (subst (λ upto. HasPointers c.args.parts.now c.args.places.now Index 0 0 upto c.loop-k.unit) all c.loop-k.invariant)
