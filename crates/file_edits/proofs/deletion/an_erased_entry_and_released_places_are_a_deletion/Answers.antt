use Rattle.edit_formats.proofs.WholeDelete.{whole_delete}
use Rattle.file_edits.proofs.deletion.an_erased_entry_and_released_places_are_a_deletion.Goals as goal

pub returns : goal.returns
returns g c =
    let format = c.args.format.now in
    λ directory file places old start honest described inside erasing all own.
    (whole_delete (g.F.Format.meaning format) (g.met.F.Format.readable format) directory file places old start c.args.writes.now honest erasing all own).0
