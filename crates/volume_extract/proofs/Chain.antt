-- The path of a name below the folder of a directory.
use Rattle.std.proofs.Common.{◌≡◌, ◌<◌, ◌+◌, ◌∙◌, ℕ, List, ◌++◌, Option, Some, None, length, refl, sym, ap, append_assoc, arith}
use Rattle.std.specs.Prelude.{codes}
use Rattle.vol_layout.specs.declared.form.PlaceForm.{PlaceForm}
use Rattle.vol_format.specs.Directory.{Directory, Listed, entry_of}
use Rattle.host_folders.specs.HostNames.{Entry, host_name}
use Rattle.host_folders.specs.declared.entry.Naming.{Naming}
use Rattle.volume_extract.specs.Items.{Item, host_below, item_at}
use Rattle.volume_extract.specs.declared.kept.Kept.{Kept}
use Rattle.volume_extract.specs.Kept.{AreKept, StandsBefore, head_entry, kept_at}

-- a path below a name below a directory
pub below_name : (items : List Item) (above : Option ℕ) (name path : List ℕ)
    → host_below items above name ++ codes "/" ++ path ≡ host_below items above (name ++ codes "/" ++ path)
below_name items None name path = refl
below_name items (Some above) name path =
    let host = (item_at items above).host in
    append_assoc (host ++ codes "/" ++ name) (codes "/") path
    ∙ append_assoc (host ++ codes "/") name (codes "/" ++ path)
    ∙ ap (λ (rest : List ℕ). (host ++ codes "/") ++ rest) (sym (append_assoc name (codes "/") path))

-- one directory more
module _ (form : PlaceForm) (own : Listed → List ℕ) (directory : Directory) (naming : Naming) (items : List Item) (kept : List Kept)
    (are : AreKept form own directory naming items kept) (number : ℕ) (inside : number < length kept) where
  pub in_items : number < length items
  in_items = omega (arith, inside, are.long)

  pub longer : (name path text : List ℕ)
      → name ≡ host_name naming (head_entry form (own (entry_of directory number)) (kept_at kept number).head) (kept_at kept number).head.number
      → text ≡ name ++ codes "/" ++ path → host_below items (Some number) path ≡ host_below items (kept_at kept number).head.above text
  longer name path text is text_is =
      let one = are.each number in_items in
      ap (λ (host : List ℕ). host ++ codes "/" ++ path)
      (one.host
      ∙ ap (λ (above : Option ℕ). host_below items above (host_name naming (item_at items number).entry (item_at items number).number)) (sym one.above)
      ∙ ap (λ (entry : Entry). host_below items (kept_at kept number).head.above (host_name naming entry (item_at items number).number)) one.entry
      ∙ ap (λ (n : ℕ). host_below items (kept_at kept number).head.above
      (host_name naming (head_entry form (own (entry_of directory number)) (kept_at kept number).head) n)) (sym one.numbered)
      ∙ ap (host_below items (kept_at kept number).head.above) (sym is))
      ∙ below_name items (kept_at kept number).head.above name path
      ∙ ap (host_below items (kept_at kept number).head.above) (sym text_is)

  -- it stands before what is kept
  pub still_before : (above : Option ℕ) → StandsBefore number above → StandsBefore (length kept) above
  still_before None before = tt
  still_before (Some above) before = omega (arith, before, inside)

-- how many entries there are up to a directory's
abbrev pub numbers_left : Option ℕ → ℕ
numbers_left None = 0
numbers_left (Some above) = above + 1

pub fewer_left : (number : ℕ) (above : Option ℕ) → StandsBefore number above → numbers_left above < numbers_left (Some number)
fewer_left number None before = omega arith
fewer_left number (Some above) before = omega (arith, before)
