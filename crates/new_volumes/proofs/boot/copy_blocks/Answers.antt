use Rattle.std.proofs.Common.{◌≡◌, ◌∙◌, ◌+◌, ◌*◌, ◌<◌, ◌≤◌, ℕ, List, Some, length, arith, rules, sym, subst}
use Rattle.std.proofs.lemmas.Bool.{false≢true}
use Rattle.a2_image.specs.Blocks.{blocks}
use Rattle.a2_image.specs.Image.{block_count}
use Rattle.a2_image.proofs.BlockLemmas.{get_or-blocks}
use Rattle.a2_media.specs.Units.{unit_in}
use Rattle.a2_media.proofs.Images.{lacks_block}
use Rattle.new_volumes.specs.Filling.{Filled}
use Rattle.new_volumes.proofs.Fills.{Filled-more, apart_512}
use Rattle.new_volumes.proofs.boot.copy_blocks.Goals as goal

pub returns-in-Err-clause-none : goal.returns-in-Err-clause-none
returns-in-Err-clause-none c =
    let image = c.args.image.now in
    let below = c.loop-place-test.true in
    let within : c.loop-place.place < block_count image = omega (arith, below, c.requires.from) in
    (c.loop-place.place, below, lacks_block image c.loop-place.place within (λ has. false≢true (c.in-Err.ensures.ok.1 has)))

pub loop-place-preserved : goal.loop-place-preserved
loop-place-preserved c =
    let image = c.args.image.now in
    let below = c.loop-place-test.true in
    let within : c.loop-place.place < block_count image = omega (arith, below, c.requires.from) in
    let Is : ℕ → List ℕ → Type 0 = λ place unit. unit_in (blocks image) place ≡ Some unit in
    let long : length c.block.new.block ≡ 512 = search rules in
    let room : 512 * c.loop-place.place + 512 ≤ length c.args.volume.now = omega (arith, below, c.requires.into) in
    subst (Filled 512 Is 0 (c.loop-place.place + 1) c.args.volume.now) (sym c.put_unit.ensures)
    (Filled-more 512 Is 0 c.loop-place.place c.args.volume.now c.loop-place.volume c.block.new.block c.loop-place.invariant (omega arith) apart_512 long room
    (get_or-blocks image c.loop-place.place within ∙ c.in-Ok.ensures.value))
