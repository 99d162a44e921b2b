use Rattle.std.proofs.Common.{◌≡◌, ◌∙◌, ◌+◌, ◌*◌, ◌≤◌, ℕ, List, length, ap, arith, rules, sym, subst}
use Rattle.a2_image.specs.Lending.{written}
use Rattle.new_volumes.specs.Filling.{Filled}
use Rattle.new_volumes.specs.ProUnits.{IsEmptyBlock}
use Rattle.new_volumes.proofs.Fills.{Filled-more, apart_512}
use Rattle.new_volumes.proofs.pro.write_system.Goals as goal

pub loop-block-preserved : goal.loop-block-preserved
loop-block-preserved c =
    let Is : ℕ → List ℕ → Type 0 = IsEmptyBlock c.args.name.now c.args.date.0 c.args.blocks in
    let long : length c.system_block-unit.result ≡ 512 = search rules in
    let room : 512 * c.loop-block.block + 512 ≤ length c.args.image.now =
    omega (arith, c.loop-block-test.true, c.requires.image, c.requires.blocks, c.first_free-block-end.ensures.value) in
    subst (Filled 512 Is 2 (c.loop-block.block + 1) c.args.image.now) (sym (c.put_unit.ensures ∙ ap (λ n. written c.loop-block.image (512 * n) c.system_block-unit.result) c.from.ensures))
    (Filled-more 512 Is 2 c.loop-block.block c.args.image.now c.loop-block.image c.system_block-unit.result c.loop-block.invariant (omega arith) apart_512 long room
    c.system_block-unit.ensures)
