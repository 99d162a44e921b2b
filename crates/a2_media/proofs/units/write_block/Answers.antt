use Rattle.std.proofs.Common.{◌∙◌, subst, sym}
use Rattle.a2_image.specs.Blocks.{HasBlock}
use Rattle.a2_image.proofs.BlockLemmas.{get_or-blocks}
use Rattle.a2_media.proofs.Images.{lacks_block}
use Rattle.a2_device.proofs.Results.{on_ok, on_err}
use Rattle.a2_media.proofs.units.write_block.Goals as goal

pub returns-clause-there : goal.returns-clause-there
returns-clause-there g c =
    let same = c.write_lent_block.ensures.unchanged c.if-write_lent_block.false in
    on_ok c.set_block.result (λ is none. (subst (λ image. HasBlock image c.args.number) same (c.set_block.ensures.ok.0 is)).has
    (sym (get_or-blocks c.args.image.now c.args.number c.requires.number) ∙ none))

pub returns-clause-none : goal.returns-clause-none
returns-clause-none g c =
    let same = c.write_lent_block.ensures.unchanged c.if-write_lent_block.false in
    on_err c.set_block.result (λ fails. lacks_block c.args.image.now c.args.number c.requires.number
    (λ has. fails (c.set_block.ensures.ok.1 (subst (λ image. HasBlock image c.args.number) (sym same) has))))

pub returns-then-write_lent_block-clause-there : goal.returns-then-write_lent_block-clause-there
returns-then-write_lent_block-clause-there g c = λ none.
    (c.write_lent_block.ensures.there c.if-write_lent_block.true).has (sym (get_or-blocks c.args.image.now c.args.number c.requires.number) ∙ none)
