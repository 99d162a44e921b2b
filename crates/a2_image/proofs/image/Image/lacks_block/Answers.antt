use Rattle.std.proofs.Common.{◌≡◌, ◌∙◌, ⊎_elim, None, get_or, ap, sym, arith, inl, inr}
use Rattle.a2_image.specs.Image.{block_count}
use Rattle.std.proofs.lemmas.Bool.{both_ways}
use Rattle.a2_image.proofs.BlockLemmas.{block_in-none, none-block_in, block_in-stored}
use Rattle.a2_image.proofs.image.Image.lacks_block.Goals as goal

pub returns-then-blocks-ne-DISK_BLOCKS : goal.returns-then-blocks-ne-DISK_BLOCKS
returns-then-blocks-ne-DISK_BLOCKS g c = (
  λ e. let never : ⊥ = cc in absurd never,
  λ none.
      let some = sym (block_in-stored c.args.self.now c.args.number (λ e. c.if-blocks-ne-DISK_BLOCKS.true (c.blocks-2.ensures.value ∙ e))) ∙ none in
      let never : ⊥ = cc in absurd never,
)

pub returns-then-lacks : goal.returns-then-lacks
returns-then-lacks g c =
    let disk : block_count c.args.self.now ≡ 280 = omega (arith, c.blocks-2.ensures.value) in (
      λ _. block_in-none c.args.self.now c.args.number disk
          (inl (ap (λ n. get_or c.args.self.now.sectors n None) (sym c.sectors_of_block-track.ensures.front) ∙ c.lacks.ensures.0 c.if-lacks.true)),
      λ _. c.if-lacks.true,
    )

pub returns-else-lacks : goal.returns-else-lacks
returns-else-lacks g c =
    let disk : block_count c.args.self.now ≡ 280 = omega (arith, c.blocks-2.ensures.value) in
    let front = ap (λ n. get_or c.args.self.now.sectors n None) c.sectors_of_block-track.ensures.front in
    let rear = ap (λ n. get_or c.args.self.now.sectors n None) c.sectors_of_block-track.ensures.rear in (
      λ e. block_in-none c.args.self.now c.args.number disk (inr (sym rear ∙ c.lacks-else-lacks.ensures.0 e)),
      λ none. ⊎_elim
          (λ first. absurd (both_ways _ c.if-lacks.false (c.lacks.ensures.1 (front ∙ first))))
          (λ second. c.lacks-else-lacks.ensures.1 (rear ∙ second))
          (none-block_in c.args.self.now c.args.number disk none),
    )
