-- The first free places of a volume, as places for a new file.
use Rattle.std.specs.Prelude.{◌≡◌, ◌≢◌, ◌<◌, ◌≤◌, ℕ, List, length, All, AllPairs, Contains}
use Rattle.std.proofs.Common.{sym, ◌∙◌, subst, arith}
use Rattle.std.proofs.lemmas.List.{get_or-take, length-take-le}
use Rattle.std.proofs.lemmas.List.Elements.{All-contains_itself, All-filter, All-take, All-weaker, filter_passes}
use Rattle.std.proofs.lemmas.List.Kept.{AllPairs-filter}
use Rattle.vol_format.specs.Directory.{Directory, is_free}
use Rattle.vol_format.specs.Laws.{IsDirectory}
use Rattle.vol_format.specs.Meaning.{Meaning}
use Rattle.vol_laws.specs.Saving.{IsNewPlace}
use Rattle.edit_formats.specs.declared.new_part.NewPart.{NewPart}
use Rattle.edit_formats.specs.Placed.{HavePlaces}
use Rattle.file_edits.specs.Places.{first_places, free_places}

module _ (directory : Directory) (count : ℕ) where
  pub are_new : All (IsNewPlace directory) (first_places directory count)
  are_new = All-take (IsNewPlace directory) count (free_places directory) (λ i d within. record {
    available = All-filter (is_free directory) (Contains directory.available) directory.available (All-contains_itself directory.available) i d within;
    free = filter_passes (is_free directory) directory.available i d within;
  })

  -- what a format's directory says of each available place is true of them
  of_available : (P : ℕ → Type 0) → ((place : ℕ) → Contains directory.available place → P place) → All P (first_places directory count)
  of_available P each = All-weaker (IsNewPlace directory) P (λ place new. each place new.available) (first_places directory count) are_new

  module _ (format : Meaning) (is : IsDirectory format directory) where
    pub are_named : All (format.CanName directory.places) (first_places directory count)
    are_named = of_available (format.CanName directory.places) is.available_named

    pub are_inside : All (λ place. place < directory.places) (first_places directory count)
    are_inside = of_available (λ place. place < directory.places) (λ place has. ((is.available_of place).0 has).0)

    module _ (enough : count ≤ length (free_places directory)) where
      pub count_is : length (first_places directory count) ≡ count
      count_is = length-take-le count (free_places directory) enough

      are_once : AllPairs (λ place later. place ≢ later) (first_places directory count)
      are_once i j d less within =
          let low : j < count = omega (arith, within, count_is) in
          let once = AllPairs-filter (λ place later. place ≢ later) (is_free directory) directory.available is.available_once i j d less (omega (arith, low, enough)) in
          λ same. once (sym (get_or-take count (free_places directory) i d (omega (arith, less, low))) ∙ same ∙ get_or-take count (free_places directory) j d low)

      pub have_places : (parts : List NewPart) → count ≡ length parts → (places : ℕ) → directory.places ≡ places
          → HavePlaces (format.CanName places) parts (first_places directory count)
      have_places parts all places same = record {
        size = count_is ∙ all;
        named = subst (λ n. All (format.CanName n) (first_places directory count)) same are_named;
        once = are_once;
      }
