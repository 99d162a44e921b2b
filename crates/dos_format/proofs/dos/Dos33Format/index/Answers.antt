use Rattle.std.proofs.Common.{◌∙◌, ap, subst, List, ℕ}
use Rattle.std.specs.Prelude.{IfNone, Contains}
use Rattle.dos_catalog.specs.Listed.{entries_of_catalog}
use Rattle.dos_format.specs.Dos.{DosRules, dos_available}
use Rattle.dos_format.proofs.Readers.{no_number-dos}
use Rattle.dos_format.proofs.dos.Dos33Format.index.Goals as goal

pub returns-clause-none : goal.returns-clause-none
returns-clause-none g c =
    let now = c.args.self.now in
    no_number-dos now.data_disk now.reserved c.args._volume.now.vtoc (entries_of_catalog c.args._volume.now.catalog) c.args.place c.number.result c.requires
    (subst (λ (xs : List ℕ). IfNone c.number.result (Contains xs c.args.place → ⊥))
    (c.self.invariant ∙ ap (λ (f : DosRules). dos_available f.data_disk f.reserved) c.self.view_is) c.number.ensures.none)
