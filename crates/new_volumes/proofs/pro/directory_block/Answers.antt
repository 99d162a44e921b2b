use Rattle.std.proofs.Common.{◌≡◌, ◌∙◌, Bool, true, false, [], ap, sym, arith}
use Rattle.std.specs.Prelude.{◌==◌, if◌then◌else◌}
use Rattle.std.proofs.lemmas.Bool.Decides.{nat_tests}
use Rattle.new_volumes.specs.Fields.{unit_with, with_fields}
use Rattle.new_volumes.specs.ProUnits.{directory_block, header_fields, link_fields}
use Rattle.new_volumes.proofs.pro.directory_block.Goals as goal

pub returns-then-block-eq-FIRST : goal.returns-then-block-eq-FIRST
unfolding directory_block
returns-then-block-eq-FIRST c =
    let header = header_fields c.args.name.now c.args.date.0 c.args.blocks in
    let test : (c.args.block == 2) ≡ true = grind (arith, nat_tests) in
    c.put_header.ensures.value
    ∙ ap (with_fields header) c.linked_block-unit.ensures
    ∙ sym (ap (λ (b : Bool). with_fields (if b then header else []) (unit_with 512 (link_fields c.args.block))) test)

pub returns-else-block-eq-FIRST : goal.returns-else-block-eq-FIRST
unfolding directory_block
returns-else-block-eq-FIRST c =
    let header = header_fields c.args.name.now c.args.date.0 c.args.blocks in
    let test : (c.args.block == 2) ≡ false = grind (arith, nat_tests) in
    c.linked_block-unit.ensures
    ∙ sym (ap (λ (b : Bool). with_fields (if b then header else []) (unit_with 512 (link_fields c.args.block))) test)
