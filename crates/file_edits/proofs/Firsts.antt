-- The first free places, as they are taken one after another.
use Rattle.std.specs.Prelude.{◌≡◌, ◌<◌, ◌≤◌, ◌+◌, ℕ, Bool, true, false, List, [], ◌∷◌, ◌++◌, Some, None, length, filter, take, drop, slice_get, Contains}
use Rattle.std.proofs.Common.{sym, ◌∙◌, ap, arith, cond, get_or}
use Rattle.std.proofs.Math.Seq.{take-append_seam}
use Rattle.std.proofs.lemmas.List.{append-nil, take_all, take-append-drop}
use Rattle.std.proofs.lemmas.List.Elements.{filter-append, filter_more}
use Rattle.std.proofs.lemmas.Option.{get_or_from_slice_get, slice_get-get_or, slice_get_within}
use Rattle.vol_format.specs.Directory.{Directory, is_free}
use Rattle.file_edits.specs.Places.{first_places, free_places}

-- those of the first available places, so many, that are marked free
abbrev pub free_of : Directory → ℕ → List ℕ
free_of directory number = filter (is_free directory) (take number directory.available)

module _ (directory : Directory) (number place : ℕ) (is : slice_get directory.available number ≡ Some place) where
  within : number < length directory.available
  within = slice_get_within directory.available number place is

  one_more : (free : Bool) → is_free directory place ≡ free → free_of directory (number + 1) ≡ free_of directory number ++ cond free (place ∷ []) []
  one_more free test =
      let here : get_or directory.available number 0 ≡ place = get_or_from_slice_get directory.available number place 0 is in
      filter_more (is_free directory) directory.available number 0 within
      ∙ ap (λ p. free_of directory number ++ cond (is_free directory p) (p ∷ []) []) here
      ∙ ap (λ b. free_of directory number ++ cond b (place ∷ []) []) test

  pub free_taken : is_free directory place ≡ true → free_of directory (number + 1) ≡ free_of directory number ++ place ∷ []
  free_taken test = one_more true test

  pub used_passed : is_free directory place ≡ false → free_of directory (number + 1) ≡ free_of directory number
  used_passed test = one_more false test ∙ append-nil (free_of directory number)

  pub place_has : Contains directory.available place
  place_has = (number, within, get_or_from_slice_get directory.available number place place is)

  pub next_within : number + 1 ≤ length directory.available
  next_within = omega (arith, within)

-- enough are taken
pub are_first : (directory : Directory) (number count : ℕ) (places : List ℕ) → places ≡ free_of directory number → length places ≡ count → places ≡ first_places directory count
are_first directory number count places are size =
    let rest = filter (is_free directory) (drop number directory.available) in
    are ∙ sym (take-append_seam (free_of directory number) rest)
    ∙ ap (λ n. take n (free_of directory number ++ rest)) (ap length (sym are) ∙ size)
    ∙ ap (take count) (sym (filter-append (is_free directory) (take number directory.available) (drop number directory.available))
    ∙ ap (filter (is_free directory)) (take-append-drop number directory.available))

-- all are
pub all_free : (directory : Directory) (number : ℕ) → slice_get directory.available number ≡ None → number ≤ length directory.available → free_of directory number ≡ free_places directory
all_free directory number none within = ap (filter (is_free directory)) (take_all number directory.available past)
  where
    past : length directory.available ≤ number
    past = omega (arith, not_inside)
      where
        not_inside : ¬ (number < length directory.available)
        not_inside inside = absurd (cc (none, slice_get-get_or directory.available number 0 inside))
