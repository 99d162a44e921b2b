-- What the readers of a ProDOS volume answer of its entries.
use Rattle.std.proofs.Common.{◌≡◌, ◌<◌, ◌∙◌, ℕ, Bool, List, length, get_or, subst, sym, ap, arith}
use Rattle.std.specs.Prelude.{Result, IfOk, slice_index_or}
use Rattle.std.proofs.lemmas.List.{get_or_default}
use Rattle.pro_dir.specs.declared.entry.Entry.{Entry}
use Rattle.pro_dir.specs.Entry.{long}
use Rattle.pro_dir.specs.Paths.{path_of}
use Rattle.pro_dir.specs.Volume.{Directory as Tree, total_blocks}
use Rattle.vol_format.specs.Directory.{Listed, entries, entry_of}
use Rattle.pro_format.specs.Pro.{no_slot, entry_number, directory_with}
use Rattle.pro_format.specs.lemmas.ProDirectory.{length-listed, listed_at}
use Rattle.file_formats.specs.declared.listing.ListEntry.{ListEntry}
use Rattle.file_formats.specs.FileNames.{FileNameView}
use Rattle.file_formats.specs.ProFiles.{pro_shown, pro_matches, pro_body}
use Rattle.file_formats.specs.ProListing.{pro_list_entry}
use Rattle.file_formats.specs.lemmas.ProShown.{list_entry-pro, long_behind}

module _ (system : List Bool) (tree : Tree) (units : List (List ℕ)) (file : ℕ) (inside : file < entries (directory_with system tree units)) where
  pub in_tree : file < length tree.entries
  in_tree = omega (arith, inside, length-listed (total_blocks tree.header) tree.entries)

  pub in_shown : (shown : List Entry) → shown ≡ tree.entries → file < length shown
  in_shown shown is = omega (arith, in_tree, ap length is)

  pub listed : entry_of (directory_with system tree units) file ≡ entry_number (total_blocks tree.header) tree.entries file
  listed = listed_at (total_blocks tree.header) tree.entries file in_tree

  same_entry : (shown : List Entry) (e : Entry) → shown ≡ tree.entries → get_or shown file e ≡ slice_index_or tree.entries file no_slot
  same_entry shown e is = get_or_default shown file e no_slot (in_shown shown is) ∙ ap (λ es. slice_index_or es file no_slot) is

  pub matches-pro : (name : FileNameView) (answer : Bool) (shown : Tree) → shown ≡ tree → answer ≡ pro_matches name (path_of shown.entries file)
      → answer ≡ pro_matches name (entry_of (directory_with system tree units) file).path
  matches-pro name answer shown same is =
      is
      ∙ ap (λ (t : Tree). pro_matches name (path_of t.entries file)) same
      ∙ sym (ap (λ (entry : Listed). pro_matches name entry.path) listed)

  pub shown-pro : {A : Type 0} (shown : List Entry) (e : Entry) (path : List ℕ) (answer : ListEntry A) → shown ≡ tree.entries
      → answer ≡ pro_list_entry path (get_or shown file e) → (read : Tree) → read ≡ tree → path ≡ path_of read.entries file
      → answer ≡ pro_shown (entry_of (directory_with system tree units) file)
  shown-pro {A} shown e path answer is answer_is read same path_is =
      answer_is
      ∙ ap (λ p. pro_list_entry p (get_or shown file e)) (path_is ∙ ap (λ (t : Tree). path_of t.entries file) same)
      ∙ ap (λ (entry : Entry). pro_list_entry (path_of tree.entries file) entry) (same_entry shown e is)
      ∙ list_entry-pro (total_blocks tree.header) file (path_of tree.entries file) (slice_index_or tree.entries file no_slot)
      ∙ sym (ap (λ (entry : Listed). pro_shown entry) listed)

  pub eof-pro : (shown : List Entry) (e : Entry) (eof : ℕ) → shown ≡ tree.entries → eof ≡ long (get_or shown file e).bytes 0x15
      → eof ≡ long (entry_of (directory_with system tree units) file).bytes 0x13
  eof-pro shown e eof is eof_is =
      eof_is
      ∙ ap (λ (entry : Entry). long entry.bytes 0x15) (same_entry shown e is)
      ∙ sym (long_behind (slice_index_or tree.entries file no_slot).bytes)
      ∙ sym (ap (λ (entry : Listed). long entry.bytes 0x13) listed)

  pub body-pro : {A E : Type 0} (result : Result A E) (items_of : A → List ℕ) (eof whole : ℕ) (text : List ℕ) → eof ≡ whole
      → IfOk result (λ body. items_of body ≡ pro_body eof text) → IfOk result (λ body. items_of body ≡ pro_body whole text)
  body-pro result items_of eof whole text is so = subst (λ n. IfOk result (λ body. items_of body ≡ pro_body n text)) is so
