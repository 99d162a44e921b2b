use Rattle.std.proofs.Common.{◌≡◌, ◌∙◌, ap, sym, arith, ℕ, Some, None, length}
use Rattle.pro_dir.specs.declared.entry.Entry.{Entry}
use Rattle.pro_dir.specs.Parents.{last_directory}
use Rattle.pro_dir.proofs.Noted.{still_last, still_none}
use Rattle.pro_dir.proofs.parents.parent_of.Goals as goal

pub returns-in-None : goal.returns-in-None
returns-in-None c =
    let entries = c.args.entries.now in
    let key : ℕ = c.entry_at.result.now.directory in
    let none : last_directory entries (length entries) key ≡ None = sym (c.requires.known key) ∙ sym c.known_at.ensures ∙ c.in-None.is in
    sym (still_none entries (length entries) c.args.number key (omega (arith, c.requires.within)) none) ∙ ap (λ (e : Entry). last_directory entries c.args.number e.directory) c.entry_at.ensures

pub returns-in-Some : goal.returns-in-Some
returns-in-Some c =
    let entries = c.args.entries.now in
    let key : ℕ = c.entry_at.result.now.directory in
    let some : last_directory entries (length entries) key ≡ Some c.in-Some.parent = sym (c.requires.known key) ∙ sym c.known_at.ensures ∙ c.in-Some.is in
    sym (still_last entries (length entries) c.args.number key c.in-Some.parent (omega (arith, c.requires.within)) c.if-parent-number.true some)
    ∙ ap (λ (e : Entry). last_directory entries c.args.number e.directory) c.entry_at.ensures
