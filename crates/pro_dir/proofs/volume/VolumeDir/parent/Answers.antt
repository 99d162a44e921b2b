use Rattle.std.proofs.Common.{◌≡◌, ◌<◌, ◌++◌, ◌∷◌, sym, subst, ap, true, ℕ, Option, List}
use Rattle.std.specs.Prelude.{IfSome, IfNone}
use Rattle.pro_dir.specs.Entry.{is_directory, name_of}
use Rattle.pro_dir.specs.Parents.{entry_in}
use Rattle.pro_dir.specs.Paths.{path_of}
use Rattle.pro_dir.proofs.Paths.{directory_before, directory_leads}
use Rattle.pro_dir.proofs.Folding.{path-below, path-top}
use Rattle.pro_dir.proofs.volume.VolumeDir.parent.Goals as goal

pub returns-clause-before : goal.returns-clause-before
returns-clause-before g c =
    let entries = c.args.self.now.entries.items in
    subst (λ (found : Option ℕ). IfSome found (λ parent. parent < c.args.entry)) (sym (rw c.as_slice.ensures.value at c.parent_of.ensures)) (directory_before entries c.args.entry (entry_in entries c.args.entry).directory)

pub returns-clause-directory : goal.returns-clause-directory
returns-clause-directory g c =
    let entries = c.args.self.now.entries.items in
    subst (λ (found : Option ℕ). IfSome found (λ parent. is_directory (entry_in entries parent) ≡ true)) (sym (rw c.as_slice.ensures.value at c.parent_of.ensures)) (directory_leads entries c.args.entry (entry_in entries c.args.entry).directory)

pub returns-clause-below : goal.returns-clause-below
returns-clause-below g c =
    let entries = c.args.self.now.entries.items in
    let entry = c.args.entry in
    subst (λ (found : Option ℕ). IfSome found (λ parent. path_of entries entry ≡ path_of entries parent ++ 0x2f ∷ name_of (entry_in entries entry).bytes)) (sym (rw c.as_slice.ensures.value at c.parent_of.ensures)) (path-below entries entry c.requires)

pub returns-clause-top : goal.returns-clause-top
returns-clause-top g c =
    let entries = c.args.self.now.entries.items in
    let entry = c.args.entry in
    subst (λ (found : Option ℕ). IfNone found (path_of entries entry ≡ name_of (entry_in entries entry).bytes)) (sym (rw c.as_slice.ensures.value at c.parent_of.ensures)) (path-top entries entry c.requires)
