-- What is kept of one item more.
use Rattle.std.proofs.Common.{◌≡◌, ◌<◌, ◌≤◌, ◌+◌, ◌⊎◌, ◌∙◌, ℕ, List, [], ◌∷◌, ◌++◌, Option, Some, None, length, refl, sym, ap, subst, arith, ⊎_elim}
use Rattle.std.proofs.Math.ListN.{get_or-append}
use Rattle.std.proofs.Math.Seq.{get_or-append_seam}
use Rattle.std.proofs.lemmas.List.{length_push}
use Rattle.std.specs.Prelude.{codes}
use Rattle.vol_layout.specs.declared.form.PlaceForm.{PlaceForm}
use Rattle.vol_format.specs.Directory.{Directory, Listed, entries, entry_of}
use Rattle.host_folders.specs.HostNames.{host_name}
use Rattle.host_folders.specs.declared.entry.Naming.{Naming}
use Rattle.volume_extract.specs.Items.{Item, host_below, item_at, no_item}
use Rattle.volume_extract.specs.Kept.{AreKept, IsKept, StandsBefore, kept_at}
use Rattle.volume_extract.specs.declared.kept.Kept.{Kept}

-- an earlier item stays
pub same_item : (items : List Item) (item : Item) (number : ℕ) → number < length items → item_at (items ++ item ∷ []) number ≡ item_at items number
same_item items item number inside = get_or-append items (item ∷ []) no_item number inside

pub last_item : (items : List Item) (item : Item) → item_at (items ++ item ∷ []) (length items) ≡ item
last_item items item = get_or-append_seam items item [] no_item

-- and so do paths below it
pub same_below : (items : List Item) (item : Item) (number : ℕ) (above : Option ℕ) (name : List ℕ) → number ≤ length items → StandsBefore number above
    → host_below (items ++ item ∷ []) above name ≡ host_below items above name
same_below items item number None name low before = refl
same_below items item number (Some above) name low before =
    ap (λ (one : Item). one.host ++ codes "/" ++ name) (same_item items item above (omega (arith, before, low)))

module _ (form : PlaceForm) (own : Listed → List ℕ) (directory : Directory) (naming : Naming) (items : List Item) (item : Item) where
  -- what is kept of an item, where one more comes behind all
  pub kept_on : (name : List ℕ) (number : ℕ) (one : Item) (kept : Kept) → number ≤ length items → IsKept form name naming items number one kept
      → IsKept form name naming (items ++ item ∷ []) number one kept
  kept_on name number one kept low is = record {
    above = is.above;
    before = is.before;
    numbered = is.numbered;
    some = is.some;
    depth = is.depth;
    shallow = is.shallow;
    entry = is.entry;
    outcome = is.outcome;
    host = is.host
        ∙ sym (same_below items item number one.above (host_name naming one.entry one.number) low (subst (StandsBefore number) is.above is.before));
  }

  module _ (kept : List Kept) (last : Kept) (are : AreKept form own directory naming items kept) (inside : length items < entries directory)
      (is : IsKept form (own (entry_of directory (length items))) naming items (length items) item last) where
    each : (number : ℕ) → number < length (items ++ item ∷ [])
        → IsKept form (own (entry_of directory number)) naming (items ++ item ∷ []) number (item_at (items ++ item ∷ []) number) (kept_at (kept ++ last ∷ []) number)
    each number low = by_place (below_or_last number (omega (arith, low, length_push items item)))
      where
        below_or_last : (number : ℕ) → number < length items + 1 → (number < length items) ⊎ (number ≡ length items)
        below_or_last number low = grind (arith, low)

        by_place : (number < length items) ⊎ (number ≡ length items)
            → IsKept form (own (entry_of directory number)) naming (items ++ item ∷ []) number (item_at (items ++ item ∷ []) number) (kept_at (kept ++ last ∷ []) number)
        by_place place =
            ⊎_elim
            (λ earlier.
            let one = kept_on (own (entry_of directory number)) number (item_at items number) (kept_at kept number) (omega (arith, earlier)) (are.each number earlier) in
            subst (λ (it : Item). IsKept form (own (entry_of directory number)) naming (items ++ item ∷ []) number it (kept_at (kept ++ last ∷ []) number))
            (sym (same_item items item number earlier))
            (subst (λ (it : Kept). IsKept form (own (entry_of directory number)) naming (items ++ item ∷ []) number (item_at items number) it)
            (sym (get_or-append kept (last ∷ []) _ number (omega (arith, earlier, are.long)))) one))
            (λ now.
            let one = kept_on (own (entry_of directory (length items))) (length items) item last (omega arith) is in
            let at_end : kept_at (kept ++ last ∷ []) (length items) ≡ last = ap (kept_at (kept ++ last ∷ [])) (sym are.long) ∙ get_or-append_seam kept last [] _ in
            subst (λ (n : ℕ). IsKept form (own (entry_of directory n)) naming (items ++ item ∷ []) n (item_at (items ++ item ∷ []) n) (kept_at (kept ++ last ∷ []) n))
            (sym now)
            (subst (λ (it : Item). IsKept form (own (entry_of directory (length items))) naming (items ++ item ∷ []) (length items) it (kept_at (kept ++ last ∷ []) (length items)))
            (sym (last_item items item))
            (subst (λ (it : Kept). IsKept form (own (entry_of directory (length items))) naming (items ++ item ∷ []) (length items) item it) (sym at_end) one)))
            place

    -- one item more is kept
    pub kept_more : AreKept form own directory naming (items ++ item ∷ []) (kept ++ last ∷ [])
    kept_more = record {
      long = length_push kept last ∙ ap (λ n. n + 1) are.long ∙ sym (length_push items item);
      within = omega (arith, inside, length_push items item);
      each = each;
    }
