-- The writes of units of the map, as markings.
use Rattle.std.specs.Prelude.{◌≡◌, ◌<◌, ◌==◌, ℕ, zero, suc, Bool, true, List, [], ◌∷◌, ◌++◌, length, map, slice_index_or, All, AllPairs, Contains, IsTrue}
use Rattle.std.proofs.Common.{refl, sym, ◌∙◌, ap, subst, arith}
use Rattle.std.proofs.lemmas.Bool.{eqb-true}
use Rattle.std.proofs.lemmas.List.{map-append, length-map, get_or-map}
use Rattle.std.proofs.lemmas.List.Elements.{All-map, All-filter, All-head, All-tail, All-contains_itself, filter_passes}
use Rattle.a2_device.specs.Device.{DeviceState}
use Rattle.vol_format.specs.Directory.{Directory, map_place}
use Rattle.vol_format.specs.Meaning.{Meaning}
use Rattle.vol_format.proofs.Filters.{in_filter}
use Rattle.vol_laws.specs.Markings.{Marking, no_marking, marking_of, marking_write}
use Rattle.vol_laws.specs.Writes.{Write}
use Rattle.edit_formats.specs.declared.writes.Prepared.{Prepared}
use Rattle.edit_formats.specs.Prepared.{write_of}
use Rattle.edit_formats.specs.Markings.{marked_in, IsMarking, AreMarked}
use Rattle.edit_formats.specs.lemmas.Numbers.{same_number}

module _ {A : Type 0} (format : Meaning) (free : Bool) (directory : Directory) (places : List ℕ) (old : DeviceState) (start writes : List (Prepared A))
    (honest : IsTrue old.honest) (all : AreMarked format free directory places old start writes) where
  abbrev was : IsMarking format free directory places old start all.0 writes
  was = all.1

  abbrev pub marking : Prepared A → Marking
  marking write = record { at = write.place; places = marked_in directory write.place places }

  abbrev pub markings : List Marking
  markings = map marking was.marked

  same_writes : (those : List (Prepared A)) → All (λ (write : Prepared A). write_of write ≡ marking_write format free old.store (marking write)) those
      → map write_of those ≡ map (marking_write format free old.store) (map marking those)
  same_writes [] same = refl
  same_writes (write ∷ those) same =
      ap (λ (w : Write). w ∷ map write_of those) (All-head (λ (w : Prepared A). write_of w ≡ marking_write format free old.store (marking w)) write those same)
      ∙ ap (λ (l : List Write). marking_write format free old.store (marking write) ∷ l)
      (same_writes those (All-tail (λ (w : Prepared A). write_of w ≡ marking_write format free old.store (marking w)) write those same))

  pub markings_are : map write_of writes ≡ map write_of start ++ map (marking_write format free old.store) markings
  markings_are = ap (λ (l : List (Prepared A)). map write_of l) was.are ∙ map-append write_of start was.marked
      ∙ ap (λ (l : List Write). map write_of start ++ l) (same_writes was.marked (was.prepared honest))

  all_rising : (those : List (Prepared A)) → AllPairs (λ (write later : Prepared A). write.place < later.place) those
      → (j k : ℕ) → j < k → k < length (map marking those) → (marking_of (map marking those) j).at < (marking_of (map marking those) k).at
  all_rising [] rising j k less inside = absurd (omega (arith, inside))
  all_rising (write ∷ those) rising j zero less inside = absurd (omega (arith, less))
  all_rising (write ∷ those) rising zero (suc k) less inside =
      All-map (λ (m : Marking). write.place < m.at) marking those (λ i d within. rising 0 (suc i) d (omega arith) (omega (arith, within)))
      k no_marking (omega (arith, inside))
  all_rising (write ∷ those) rising (suc j) (suc k) less inside =
      all_rising those (λ i i' d less' within. rising (suc i) (suc i') d (omega (arith, less')) (omega (arith, within))) j k (omega (arith, less)) (omega (arith, inside))

  pub markings_rising : (j k : ℕ) → j < k → k < length markings → (marking_of markings j).at < (marking_of markings k).at
  markings_rising = all_rising was.marked was.rising

  -- what is true of each write is true of each marking
  pub of_markings : (P : Marking → Type 0) → All (λ (write : Prepared A). P (marking write)) was.marked → (k : ℕ) → k < length markings → P (marking_of markings k)
  of_markings P each k inside = All-map P marking was.marked each k no_marking inside

  -- the places of a marking are some of these, and have their marks there
  pub marked_here : (at : ℕ) → All (λ place. Contains places place × (map_place directory place ≡ at)) (marked_in directory at places)
  marked_here at i d within =
      let test : (map_place directory (slice_index_or (marked_in directory at places) i d) == at) ≡ true = filter_passes (λ p. map_place directory p == at) places i d within in (
        All-filter (λ p. map_place directory p == at) (Contains places) places (All-contains_itself places) i d within,
        eqb-true (map_place directory (slice_index_or (marked_in directory at places) i d)) at test,
      )

  -- each place is marked
  pub marking_each : (place : ℕ) → Contains places place → (k : ℕ) × (k < length markings) × Contains (marking_of markings k).places place
  marking_each place has =
      let found = was.each place has (all.2 place has) in
      let write = found.0 in
      let k = found.1.0 in
      let is : marking_of markings k ≡ marking write = get_or-map marking was.marked k write no_marking found.1.1 ∙ ap marking found.1.2 in (
        k,
        omega (arith, found.1.1, length-map was.marked marking),
        subst (λ (m : Marking). Contains m.places place) (sym is)
            (in_filter (λ p. map_place directory p == write.place) places place has (same_number (map_place directory place) write.place (sym found.2))),
      )

  -- and no marking is without a place
  pub marking_some : (k : ℕ) → k < length markings → 0 < length (marking_of markings k).places
  marking_some = of_markings (λ (m : Marking). 0 < length m.places) (λ i d within.
      let write = slice_index_or was.marked i d in
      let has = was.own i d within in
      let mine = in_filter (λ p. map_place directory p == write.place) places has.0 has.1 (same_number (map_place directory has.0) write.place has.2) in
      omega (arith, mine.1))
