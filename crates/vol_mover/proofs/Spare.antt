-- Places that can be marked, and the units of the map that have their marks.
use Rattle.std.proofs.Common.{◌≡◌, ◌≢◌, ℕ, ◌<◌, ◌≤◌, ◌/◌, true, false, List, ◌∷◌, ◌++◌, length, get_or, refl, ap, ◌∙◌, arith, inl, inr}
use Rattle.std.specs.Prelude.{slice_index, None, Contains, All}
use Rattle.std.proofs.lemmas.Bool.{cases_order}
use Rattle.std.proofs.lemmas.List.{get_or_default}
use Rattle.std.proofs.lemmas.List.Elements.{Contains-append_left, Contains-append_right, Contains-append_cases}
use Rattle.vol_layout.proofs.Lists.{Contains-cons, one_place}
use Rattle.vol_format.specs.Directory.{Directory, map_place}
use Rattle.vol_format.specs.Laws.{IsDirectory}
use Rattle.vol_format.specs.Meaning.{Meaning}
use Rattle.vol_laws.specs.declared.mark.Mark.{Mark}
use Rattle.vol_mover.specs.Tasks.{Course, place_of, FitsMark}
use Rattle.vol_mover.specs.Writes.{used, freed}

-- an available place at which no part stands
pub record IsSpare (directory : Directory) (at : List ℕ) (place : ℕ) : Type 0 where
  pub available : Contains directory.available place
  pub no_part : (k : ℕ) → k < length at → place_of directory (slice_index at k) ≢ place

-- the course of the work between two moves
abbrev pub between : List ℕ → List ℕ → ℕ → ℕ → Course
between at lost writes moves = record { at = at; lost = lost; copied = None; writes = writes; moves = moves }

pub spare_used : (directory : Directory) (at lost : List ℕ) (w m place : ℕ) → IsSpare directory at place → FitsMark directory (between at lost w m) (map_place directory place) (used place)
spare_used directory at lost w m place spare = record {
  available = spare.available;
  here = refl;
  no_part = spare.no_part;
  lost = λ free. absurd (let e : false ≡ true = free in cc);
}

pub spare_freed : (directory : Directory) (at lost : List ℕ) (w m unit place : ℕ) → IsSpare directory at place → map_place directory place ≡ unit → Contains lost place
    → FitsMark directory (between at lost w m) unit (freed place)
spare_freed directory at lost w m unit place spare here has = record { available = spare.available; here = here; no_part = spare.no_part; lost = λ free. has }

-- a mark fits as well where one more place is lost
pub fits_more : (directory : Directory) (at before behind : List ℕ) (w v m unit place : ℕ) (mark : Mark)
    → FitsMark directory (between at (before ++ behind) w m) unit mark → FitsMark directory (between at (before ++ place ∷ behind) v m) unit mark
fits_more directory at before behind w v m unit place mark fits = record {
  available = fits.available;
  here = fits.here;
  no_part = fits.no_part;
  lost = λ free.
      elim (Contains-append_cases before behind mark.place (fits.lost free)) [
        | inl front ↦ Contains-append_left before (place ∷ behind) mark.place front
        | inr back ↦ Contains-append_right before (place ∷ behind) mark.place (Contains-cons place behind mark.place back)
      ];
}

module _ (format : Meaning) (directory : Directory) (is : IsDirectory format directory) where
  pub available_below : (place : ℕ) → Contains directory.available place → place < directory.places
  available_below place has = ((is.available_of place).0 has).0

  -- places with marks in two units show that the map has two
  pub two_units : (place other : ℕ) → Contains directory.available place → Contains directory.available other
      → map_place directory place ≢ map_place directory other → 2 ≤ length directory.map_units
  two_units place other has has_other ne =
      let i = is.map_counted place (available_below place has) in
      let j = is.map_counted other (available_below other has_other) in
      elim (cases_order (place / directory.map_size) (other / directory.map_size)) [
        | inl e ↦ absurd (ne (ap (slice_index directory.map_units) e))
        | inr (inl lt) ↦ omega (arith, i, j, lt)
        | inr (inr gt) ↦ omega (arith, i, j, gt)
      ]

  -- the place of a number at which no part stands
  pub spare_number : (at : List ℕ) (number : ℕ) → number < length directory.available → All (λ n. n < length directory.available) at
      → (Contains at number → ⊥) → IsSpare directory at (place_of directory number)
  spare_number at number within below free = record {
    available = (number, within, get_or_default directory.available number _ 0 within);
    no_part = λ k inside same.
        free (
          k,
          inside,
          get_or_default at k number 0 inside ∙ one_place directory.available (get_or at k 0) number is.available_once (below k 0 inside) within same,
        );
  }

  -- different numbers are those of different places
  pub different_places : (number other : ℕ) → number < length directory.available → other < length directory.available → number ≢ other
      → place_of directory number ≢ place_of directory other
  different_places number other within within_other ne same = ne (one_place directory.available number other is.available_once within within_other same)

-- lost places are the volume's
pub lost_below : (format : Meaning) (directory : Directory) → IsDirectory format directory → (lost : List ℕ) → All (Contains directory.available) lost → All (λ place. place < directory.places) lost
lost_below format directory is lost available i d within = available_below format directory is (get_or lost i d) (available i d within)
