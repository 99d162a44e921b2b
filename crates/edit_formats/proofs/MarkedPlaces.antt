-- The marks of some places in a unit of the map, one place after another.
use Rattle.std.specs.Prelude.{◌≡◌, ◌≢◌, ◌<◌, ◌≤◌, ◌+◌, ℕ, Bool, List, ◌∷◌, length, map, slice_index}
use Rattle.std.proofs.Common.{sym, ◌∙◌, ap, cond, drop}
use Rattle.std.proofs.lemmas.Bool.{eq-eqb, ne_eqb}
use Rattle.std.proofs.lemmas.List.{at_drop_all, at_drop_more}
use Rattle.vol_format.specs.Directory.{Directory, map_place}
use Rattle.vol_format.specs.Meaning.{Meaning}
use Rattle.vol_laws.specs.Marked.{with_marks}
use Rattle.vol_laws.specs.Markings.{mark_as}
use Rattle.edit_formats.specs.Markings.{marked_in}

module _ (format : Meaning) (free : Bool) (directory : Directory) (at : ℕ) where
  abbrev pub made : List ℕ → List ℕ → List ℕ
  made unit places = with_marks format unit (map (mark_as free) (marked_in directory at places))

  module _ (places : List ℕ) (i : ℕ) (unit all : List ℕ) (was : made unit (drop i places) ≡ all) where
    pub all_marked : length places ≤ i → unit ≡ all
    all_marked done = sym (at_drop_all (made unit) places i done) ∙ was

    module _ (below : i < length places) where
      abbrev place : ℕ
      place = slice_index places i

      abbrev by : Bool → List ℕ
      by test = with_marks format unit (map (mark_as free) (cond test (place ∷ marked_in directory at (drop (i + 1) places)) (marked_in directory at (drop (i + 1) places))))

      pub one_passed : map_place directory place ≢ at → made unit (drop (i + 1) places) ≡ all
      one_passed other = sym (ap by (ne_eqb (map_place directory place) at other)) ∙ sym (at_drop_more (made unit) places i 0 below) ∙ was

      pub one_marked : map_place directory place ≡ at → made (format.with_free unit place free) (drop (i + 1) places) ≡ all
      one_marked here = sym (ap by (eq-eqb (map_place directory place) at here)) ∙ sym (at_drop_more (made unit) places i 0 below) ∙ was
