-- The number of a place in a list that has it once.
use Rattle.std.proofs.Common.{◌≡◌, ◌≢◌, ◌<◌, ℕ, zero, suc, ◌+◌, Bool, true, false, List, [], ◌∷◌, length, get_or, Some, refl, sym, ◌∙◌, ap, subst, arith}
use Rattle.std.specs.Prelude.{◌==◌, if◌then◌else◌, slice_get}
use Rattle.std.specs.List.{Contains, AllPairs, All}
use Rattle.std.proofs.lemmas.Bool.Decides.{nat_tests}
use Rattle.std.proofs.lemmas.Option.{slice_get_within, get_or_from_slice_get}
use Rattle.std.proofs.lemmas.List.{get_or-map, get_or_default, length-map}
use Rattle.a2_device.specs.declared.part.Part.{Part}
use Rattle.a2_device.specs.declared.part.PartKind.TheVariants.{Body}
use Rattle.vol_layout.specs.Layouts.{AreDistinct, IsInRange}
use Rattle.vol_format.specs.Directory.{Directory, is_system}
use Rattle.vol_format.specs.Meaning.{Meaning}
use Rattle.vol_format.specs.Laws.{IsDirectory}
use Rattle.vol_format.specs.Standing.{index_in, layout_of}

apart_tail : (x : ℕ) (xs : List ℕ) → AllPairs (λ place later. place ≢ later) (x ∷ xs) → AllPairs (λ place later. place ≢ later) xs
apart_tail x xs apart i j d less within = apart (suc i) (suc j) d (omega arith) (omega arith)

same_some : (a b : ℕ) → Some a ≡ Some b → a ≡ b
same_some a b e = cc

pub index_in-from_slice_get : (xs : List ℕ) (n place : ℕ) → AllPairs (λ place later. place ≢ later) xs → slice_get xs n ≡ Some place → n ≡ index_in xs place
index_in-from_slice_get [] n place apart is = absurd (cc)
index_in-from_slice_get (x ∷ xs) zero place apart is = here (x == place) refl
  where
    here : (same : Bool) → (x == place) ≡ same → zero ≡ (if same then 0 else (index_in xs place + 1))
    here true at = refl
    here false at =
        let differ : x ≢ place = grind (arith, nat_tests) in absurd (differ (same_some x place is))
index_in-from_slice_get (x ∷ xs) (suc n) place apart is = further (x == place) refl (index_in-from_slice_get xs n place (apart_tail x xs apart) is)
  where
    further : (same : Bool) → (x == place) ≡ same → n ≡ index_in xs place → suc n ≡ (if same then 0 else (index_in xs place + 1))
    further true at rest =
        let same : x ≡ place = grind (arith, nat_tests) in
        let within = slice_get_within xs n place is in
        absurd (apart zero (suc n) place (omega arith) (omega (arith, within)) (same ∙ sym (get_or_from_slice_get xs n place place is)))
    further false at rest = omega (arith, rest)

-- a place of the list is the one with its number
pub slice_get-index_in : (xs : List ℕ) (place : ℕ) → Contains xs place → slice_get xs (index_in xs place) ≡ Some place
slice_get-index_in [] place has = absurd (omega (arith, has.1))
slice_get-index_in (x ∷ xs) place has = by_test (slice_get-index_in xs place) (x == place) refl
  where
    later : x ≢ place → (n : ℕ) → (within : n < length (x ∷ xs)) → get_or (x ∷ xs) n place ≡ place → Contains xs place
    later differ zero within at = absurd (differ at)
    later differ (suc n) within at = (n, omega (arith, within), at)

    by_test : (Contains xs place → slice_get xs (index_in xs place) ≡ Some place) → (same : Bool) → (x == place) ≡ same
        → slice_get (x ∷ xs) (if same then 0 else (index_in xs place + 1)) ≡ Some place
    by_test rest true at =
        let same : x ≡ place = grind (arith, nat_tests) in ap Some same
    by_test rest false at =
        let differ : x ≢ place = grind (arith, nat_tests) in
        let next : index_in xs place + 1 ≡ suc (index_in xs place) = omega arith in
        ap (slice_get (x ∷ xs)) next ∙ rest (later differ has.0 has.1 has.2)

-- parts that stand apart at available places have a layout
module _ (format : Meaning) (directory : Directory) (of : IsDirectory format directory) (parts : List Part)
    (places : All (λ (part : Part). part.place < directory.places) parts) (outside : All (λ (part : Part). is_system directory part.place ≡ false) parts) where
  nowhere : Part
  nowhere = record { file = 0; kind = Body; number = 0; place = 0 }

  part_index : (k : ℕ) → k < length parts → slice_get directory.available (get_or (layout_of directory parts) k 0) ≡ Some (get_or parts k nowhere).place
  part_index k within =
      let part = get_or parts k nowhere in
      ap (slice_get directory.available) (get_or-map (λ (p : Part). index_in directory.available p.place) parts k nowhere 0 within)
      ∙ slice_get-index_in directory.available part.place ((of.available_of part.place).1 (places k nowhere within, outside k nowhere within))

  layout_in_range : IsInRange (layout_of directory parts) (length directory.available)
  layout_in_range = (
    λ k d within.
        let inside : k < length parts = omega (arith, within, length-map parts (λ (p : Part). index_in directory.available p.place)) in
        subst (λ n. n < length directory.available) (get_or_default (layout_of directory parts) k 0 d within)
        (slice_get_within directory.available _ _ (part_index k inside)),
    omega (arith, of.few_available),
  )

  layout_distinct : AllPairs (λ (part later : Part). part.place ≢ later.place) parts → AreDistinct (layout_of directory parts)
  layout_distinct apart i j d less within same =
      let inside : j < length parts = omega (arith, within, length-map parts (λ (p : Part). index_in directory.available p.place)) in
      let first = part_index i (omega arith) in
      let second = part_index j inside in
      let equal : get_or (layout_of directory parts) i 0 ≡ get_or (layout_of directory parts) j 0 =
      get_or_default (layout_of directory parts) i 0 d (omega arith) ∙ same ∙ sym (get_or_default (layout_of directory parts) j 0 d within) in
      apart i j nowhere less inside (same_some _ _ (sym first ∙ ap (slice_get directory.available) equal ∙ second))

  -- the same of numbers and a count that were found
  pub found_in_range : (at : List ℕ) (count : ℕ) → at ≡ layout_of directory parts → count ≡ length directory.available → IsInRange at count
  found_in_range at count at_is count_is =
      subst (λ xs. IsInRange xs count) (sym at_is) (subst (IsInRange (layout_of directory parts)) (sym count_is) layout_in_range)

  pub found_distinct : (at : List ℕ) → at ≡ layout_of directory parts → AllPairs (λ (part later : Part). part.place ≢ later.place) parts → AreDistinct at
  found_distinct at at_is apart = subst AreDistinct (sym at_is) (layout_distinct apart)
