use Rattle.std.proofs.Common.{◌∙◌, ap, arith, sym, Some}
use Rattle.std.proofs.lemmas.Result.{err_from_is_err_and}
use Rattle.a2_image.specs.Image.{IsOfDisk}
use Rattle.a2_image.proofs.BlockLemmas.{get_or-blocks}
use Rattle.a2_image.proofs.LawLemmas.{of_disk-not_lent}
use Rattle.a2_media.proofs.Images.{lacks_block}
use Rattle.a2_media.proofs.units.read_block.Goals as goal

pub returns-in-Some-clause-value : goal.returns-in-Some-clause-value
returns-in-Some-clause-value g c =
    get_or-blocks c.args.image.now c.args.number c.requires.number ∙ c.in-Some.ensures.value ∙ ap Some (sym c.copy_from_slice.ensures.after)

pub lent_block-requires-clause-disk : goal.lent_block-requires-clause-disk
lent_block-requires-clause-disk g c =
    of_disk-not_lent c.args.image.now c.args.number c.requires.number (λ can. let never = c.in_default.ensures.some.1 can in absurd (cc))

pub lent_block-requires-clause-number : goal.lent_block-requires-clause-number
lent_block-requires-clause-number g c =
    let disk : IsOfDisk c.args.image.now = lent_block-requires-clause-disk g c in
    omega (arith, c.requires.number, disk)

pub returns-in_err-block-clause-none : goal.returns-in_err-block-clause-none
returns-in_err-block-clause-none g c =
    let given = err_from_is_err_and c.from_residual.result c.from_residual.ensures.1 in
    rw given.1 (lacks_block c.args.image.now c.args.number c.requires.number (λ has. let never = c.in_err-block.ensures.ok.1 has in absurd (cc)))

pub returns-clause-value : goal.returns-clause-value
returns-clause-value g c =
    get_or-blocks c.args.image.now c.args.number c.requires.number ∙ c.in_ok-block.ensures.value ∙ ap Some (sym c.copy_from_slice-2.ensures.after)
