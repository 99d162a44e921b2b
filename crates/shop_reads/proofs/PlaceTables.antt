-- What a table of places has come to is the states of the places.
use Rattle.std.proofs.Common.{◌≡◌, ◌≢◌, ◌∙◌, ◌<◌, ◌+◌, ℕ, Bool, true, false, List, get_or, length, map, refl, sym, ap, subst, arith, inl, inr, ⊎_elim}
use Rattle.std.specs.Prelude.{◌==◌, Contains, Some, nat_lt, slice_get, slice_index, slice_set, if◌then◌else◌}
use Rattle.std.specs.List.{range_with_len}
use Rattle.std.proofs.lemmas.Bool.{cases_eq, false≢true}
use Rattle.std.proofs.lemmas.Bool.Decides.{nat_tests}
use Rattle.std.proofs.lemmas.List.{get_or_default, get_or-set_other, get_or-set_same, length-map, length-set}
use Rattle.std.proofs.lemmas.List.FromFn.{get_or-map-range_with_len, length-map-range_with_len}
use Rattle.std.proofs.lemmas.Option.{get_or_from_slice_get, slice_get_within}
use Rattle.a2_device.specs.declared.part.Part.{Part}
use Rattle.vol_format.specs.Directory.{Directory, is_free, is_system}
use Rattle.vol_format.specs.Laws.{IsDirectory}
use Rattle.vol_format.specs.Meaning.{Meaning}
use Rattle.vol_format.specs.Reach.{IsPartsOf, Reach}
use Rattle.vol_format.specs.Standing.{index_in, layout_of, no_part}
use Rattle.vol_check.specs.Told.{IsToldOf, Told}
use Rattle.shop_reads.specs.MapStates.{AreStates, IsInState, Mapped}
use Rattle.shop_reads.specs.MapSteps.{PutsAt, PutsParts, TellsReserved, part_state, reserved_state, state_at, vacant_state}
use Rattle.shop_reads.specs.declared.place_state.PlaceState.{PlaceState}
use Rattle.shop_reads.specs.declared.place_state.PlaceState.TheVariants as states

-- a place that has a number is none of the system's
pub outside_system : (format : Meaning) (directory : Directory) (place number : ℕ) → IsDirectory format directory
    → slice_get directory.available number ≡ Some place → is_system directory place ≡ false
outside_system format directory place number of named = ((of.available_of place).0 (
  number,
  slice_get_within directory.available number place named,
  get_or_from_slice_get directory.available number place place named,
)).1

module _ (format : Meaning) (store : List (List ℕ)) (directory : Directory) (parts : List Part) where
  -- the volume, as long as nothing is known of what is reserved
  abbrev pub bare : Mapped
  bare = record { directory = directory; own = directory; parts = parts }

  abbrev layout : List ℕ
  layout = layout_of directory parts

  abbrev Is : ℕ → PlaceState → Type 0
  Is place state = IsInState format store bare place state

  module _ (of : IsDirectory format directory) (are : IsPartsOf format directory store parts) where
    unreached : (place : ℕ) → ((k : ℕ) → k < length parts → (get_or parts k no_part).place ≢ place)
        → (part : Part) → Reach format directory store part → part.place ≢ place
    unreached place none part reached =
        let held = (are.members part).1 reached in
        λ at. none held.0 held.1 (ap (λ (p : Part). p.place) (get_or_default parts held.0 no_part part held.1 ∙ held.2) ∙ at)

    vacant : (place : ℕ) → place < directory.places → ((k : ℕ) → k < length parts → (get_or parts k no_part).place ≢ place)
        → (system free : Bool) → is_system directory place ≡ system → is_free directory place ≡ free
        → Is place (if system then states.System else (if free then states.Free else states.Lost))
    vacant place low none true free owned marked = (owned, owned)
    vacant place low none false true owned marked = ((of.available_of place).1 (low, owned), marked)
    vacant place low none false false owned marked = record {
      available = (of.available_of place).1 (low, owned);
      marked = marked;
      unreached = unreached place none;
    }

    standing : (place k : ℕ) → k < length parts → (get_or parts k no_part).place ≡ place → Is place (part_state k (slice_index layout k))
    standing place k below at = by_test (slice_index layout k == k) refl
      where
        by_test : (b : Bool) → (slice_index layout k == k) ≡ b → Is place (if b then states.InOrder else states.Elsewhere)
        by_test true test = (k, (below, at), grind (arith, nat_tests))
        by_test false test =
            let many : length layout ≡ length parts = length-map parts (λ (part : Part). index_in directory.available part.place) in
            (k, (below, at), (omega (arith, below, many), λ same. absurd (grind (arith, nat_tests))))

    -- first those at which no part stands, then the parts'
    pub put_are : (old new : List PlaceState) → old ≡ map (vacant_state directory) (range_with_len 0 directory.places)
        → PutsParts (length parts) parts layout old new → AreStates format store bare new
    put_are old new is puts = record {
      all = puts.size ∙ size;
      each = λ place low. by_part place low (puts.each place (omega (arith, low, size)));
    }
      where
        size : length old ≡ directory.places
        size = ap length is ∙ length-map-range_with_len (vacant_state directory) 0 directory.places

        before : (place : ℕ) → place < directory.places → state_at old place ≡ vacant_state directory place
        before place low =
            ap (λ (table : List PlaceState). state_at table place) is
            ∙ get_or-map-range_with_len (vacant_state directory) 0 directory.places place place states.Free low (omega arith)

        by_part : (place : ℕ) → place < directory.places → PutsAt (length parts) parts layout old new place → Is place (state_at new place)
        by_part place low at = ⊎_elim
            (λ none. subst (λ (state : PlaceState). Is place state) (sym (none.1 ∙ before place low))
            (vacant place low none.0 (is_system directory place) (is_free directory place) refl refl))
            (λ some. subst (λ (state : PlaceState). Is place state) (sym some.3) (standing place some.0 some.1 some.2))
            at

  -- ---- and last what is reserved
  module _ (own : Directory) where
    abbrev pub full : Mapped
    full = record { directory = directory; own = own; parts = parts }

    told : (place : ℕ) (b : Bool) → is_system own place ≡ b → (state : PlaceState) → Is place state
        → IsInState format store full place (reserved_state b state)
    told place true owned states.System is = (is.0, owned)
    told place false owned states.System is = (is.0, owned)
    told place b owned states.Reserved is = absurd (false≢true (sym is.1 ∙ is.0))
    told place true owned states.InOrder is = is
    told place false owned states.InOrder is = is
    told place true owned states.Elsewhere is = is
    told place false owned states.Elsewhere is = is
    told place true owned states.Lost is = is
    told place false owned states.Lost is = is
    told place true owned states.Free is = is
    told place false owned states.Free is = is

    pub reserved_are : (old new : List PlaceState) → AreStates format store bare old → TellsReserved directory.places own old new
        → AreStates format store full new
    reserved_are old new are tells = record {
      all = tells.size ∙ are.all;
      each = λ place low.
          let inside : nat_lt place directory.places ≡ true = grind (arith, nat_tests) in
          let is : state_at new place ≡ reserved_state (is_system own place) (state_at old place) =
          tells.each place ∙ ap (λ (b : Bool). if b then reserved_state (is_system own place) (state_at old place) else state_at old place) inside in
          subst (λ (state : PlaceState). IsInState format store full place state) (sym is)
          (told place (is_system own place) refl (state_at old place) (are.each place low));
    }

-- the parts of a volume that was checked stand in it
pub parts_inside : (directory : Directory) (volume : Told) (parts : List Part) → IsToldOf directory volume → parts ≡ volume.parts
    → (k : ℕ) (part : Part) → k < length parts → (get_or parts k part).place < directory.places
parts_inside directory volume parts told are k part low =
    told.places (get_or parts k part)
    (subst (λ (ps : List Part). Contains ps (get_or parts k part)) are (k, low, get_or_default parts k (get_or parts k part) part low))

-- one part more is put into a table
module _ (parts : List Part) (at : List ℕ) (old now : List PlaceState) (k : ℕ) (part : Part) (state : PlaceState) (low : k < length parts)
    (inside : (get_or parts k part).place < length old) (is_state : state ≡ part_state k (slice_index at k)) (puts : PutsParts k parts at old now) where
  abbrev place : ℕ
  place = (get_or parts k part).place

  stands : (get_or parts k no_part).place ≡ place
  stands = ap (λ (p : Part). p.place) (get_or_default parts k no_part part low)

  none_more : (other : ℕ) → other ≢ place → ((j : ℕ) → j < k → (get_or parts j no_part).place ≢ other)
      → (j : ℕ) → j < k + 1 → (get_or parts j no_part).place ≢ other
  none_more other apart none j below at_other = by_test (nat_lt j k) refl
    where
      by_test : (b : Bool) → nat_lt j k ≡ b → ⊥
      by_test true test = none j (grind (arith, nat_tests)) at_other
      by_test false test =
          let last : j ≡ k = grind (arith, nat_tests) in
          apart (sym at_other ∙ ap (λ (i : ℕ). (get_or parts i no_part).place) last ∙ stands)

  elsewhere : (other : ℕ) → other ≢ place → PutsAt k parts at old now other → PutsAt (k + 1) parts at old (slice_set now place state) other
  elsewhere other apart before =
      let kept : state_at (slice_set now place state) other ≡ state_at now other = get_or-set_other now place other state states.Free apart in
      ⊎_elim
      (λ none. inl (none_more other apart none.0, kept ∙ none.1))
      (λ some. inr (some.0, omega (arith, some.1), some.2, kept ∙ some.3))
      before

  pub part_put : PutsParts (k + 1) parts at old (slice_set now place state)
  part_put = record {
    size = length-set now place state ∙ puts.size;
    each = λ other within. elim (cases_eq other place) [
      | inl same ↦
          let told = get_or-set_same now place state states.Free (omega (arith, inside, puts.size)) in
          inr (k, omega arith, stands ∙ sym same, ap (λ (p : ℕ). state_at (slice_set now place state) p) same ∙ told ∙ is_state)
      | inr apart ↦ elsewhere other apart (puts.each other within)
    ];
  }
