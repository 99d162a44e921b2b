use Rattle.std.proofs.Common.{◌∙◌}
use Rattle.a2_image.proofs.BlockLemmas.{get_or-blocks}
use Rattle.a2_media.proofs.Images.{lacks_block}
use Rattle.image_survey.proofs.disk.hash_block.Goals as goal

pub returns-in-Err : goal.returns-in-Err
returns-in-Err c = lacks_block c.args.image.now c.args.number c.requires (λ has. let never = c.in-Err.ensures.ok.1 has in absurd (cc))

pub returns-in-Ok : goal.returns-in-Ok
returns-in-Ok c =
    (c.block.new.block, get_or-blocks c.args.image.now c.args.number c.requires ∙ c.in-Ok.ensures.value, c.update.ensures)
