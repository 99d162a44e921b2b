use Rattle.std.proofs.Common.{◌∙◌, None, ap, sym, get_or}
use Rattle.a2_image.proofs.BlockLemmas.{get_or-blocks, block_in-disk, block_of_sectors-there}
use Rattle.a2_media.proofs.units.lent_block.Goals as goal

pub returns-in-Some-Some-clause-value : goal.returns-in-Some-Some-clause-value
returns-in-Some-Some-clause-value g c =
    let image = c.args.image.now in
    let number = c.args.number in
    let at = c.sectors_of_block-track.ensures in
    let lent = c.in-Some-Some in
    get_or-blocks image number (rw c.requires.disk c.requires.number)
    ∙ block_in-disk image number c.requires.disk
    ∙ block_of_sectors-there image.sectors number lent.front.now lent.rear.now
    (ap (λ n. get_or image.sectors n None) (sym at.front) ∙ lent.ensures.value)
    (ap (λ n. get_or image.sectors n None) (sym at.rear) ∙ lent.ensures'.value)
