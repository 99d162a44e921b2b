use Rattle.std.proofs.Common.{rules, ◌≡◌, ◌∙◌, ◌<◌, ℕ, List, Some, ap, sym, arith, length}
use Rattle.a2_image.specs.Image.{block_count}
use Rattle.a2_image.specs.Blocks.{bytes_of_block}
use Rattle.a2_device.specs.declared.order.Order.TheVariants.{Prodos}
use Rattle.a2_image.proofs.LawLemmas.{block_end-prodos, block_in-prodos}
use Rattle.a2_image.proofs.image.Image.block_ref.Goals as goal

pub slice_bounds-result-end : goal.slice_bounds-result-end
slice_bounds-result-end g c =
    let prodos : c.args.self.now.order ≡ Prodos = search rules in
    let within : c.args.number < block_count c.args.self.now = omega (arith, c.if-number-blocks.false, c.blocks-else-ne.ensures.value) in
    omega (arith, ap length c.as_slice.ensures, block_end-prodos c.args.self.now c.args.number prodos within)

pub returns-clause-value : goal.returns-clause-value
returns-clause-value g c =
    let prodos : c.args.self.now.order ≡ Prodos = search rules in
    let within : c.args.number < block_count c.args.self.now = omega (arith, c.if-number-blocks.false, c.blocks-else-ne.ensures.value) in
    block_in-prodos c.args.self.now c.args.number prodos c.order.ensures.holds within
    ∙ ap (λ (bytes : List ℕ). Some (bytes_of_block bytes c.args.number)) (sym c.as_slice.ensures)
