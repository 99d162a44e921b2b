-- The writes of the map: places of one of its units that are marked alike, in one write (Beneath Apple DOS, chapter 4;
-- ProDOS 8 Technical Reference Manual, appendix B).
use Rattle.std.specs.Prelude.{ℕ, Bool, List, [], ◌∷◌, ◌++◌, map, slice_index_or}
use Rattle.a2_device.specs.Device.{unit_at}
use Rattle.vol_format.specs.Meaning.{Meaning}
use Rattle.vol_laws.specs.Marked.{with_marks}
use Rattle.vol_laws.specs.declared.mark.Mark.{Mark}
use Rattle.vol_laws.specs.Writes.{Write}

-- the place of a unit of the map, and places whose marks stand in it
pub record Marking : Type 0 where
  pub at : ℕ
  pub places : List ℕ

abbrev pub no_marking : Marking
no_marking = record { at = 0; places = [] }

abbrev pub marking_of : List Marking → ℕ → Marking
marking_of markings k = slice_index_or markings k no_marking

-- a mark that says that a place is free, or that it is used
abbrev pub mark_as : Bool → ℕ → Mark
mark_as free place = record { place = place; free = free }

-- the one write that marks these places free, or used
abbrev pub marking_write : Meaning → Bool → List (List ℕ) → Marking → Write
marking_write format free store marking = record {
  place = marking.at;
  unit = with_marks format (unit_at store marking.at) (map (mark_as free) marking.places);
}

-- the marks of these units, one unit after another
abbrev pub all_marks : Bool → List Marking → List Mark
all_marks free [] = []
all_marks free (marking ∷ markings) = map (mark_as free) marking.places ++ all_marks free markings
