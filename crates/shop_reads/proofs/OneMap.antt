-- A volume has one map.
use Rattle.std.proofs.Common.{◌≡◌, ◌∙◌, ◌<◌, ℕ, Bool, true, false, List, get_or, length, refl, sym, ap, subst, arith, ⊎_elim}
use Rattle.std.specs.Prelude.{Contains, nat_lt, slice_index}
use Rattle.std.proofs.lemmas.Bool.{false≢true}
use Rattle.std.proofs.lemmas.Bool.Decides.{nat_tests}
use Rattle.std.proofs.lemmas.List.{ext_get_or, get_or_default}
use Rattle.a2_device.specs.declared.part.Part.{Part}
use Rattle.vol_format.specs.Accepted.{IsAccepted}
use Rattle.vol_format.specs.Directory.{Directory, is_free, is_system}
use Rattle.vol_format.specs.Laws.{IsDirectory, IsReadable}
use Rattle.vol_format.specs.Meaning.{Meaning}
use Rattle.vol_format.specs.Reach.{Before, IsPartsOf, Reach}
use Rattle.vol_format.specs.Standing.{no_part}
use Rattle.vol_format.proofs.OneList.{one_parts}
use Rattle.shop_reads.specs.MapStates.{AreStates, IsInState, IsMap, Mapped, StandsAt, layout_in}
use Rattle.shop_reads.specs.declared.place_state.PlaceState.{PlaceState}
use Rattle.shop_reads.specs.declared.place_state.PlaceState.TheVariants.{System, Reserved, InOrder, Elsewhere, Lost, Free}

clash : {b : Bool} → b ≡ true → b ≡ false → ⊥
clash yes' no' = false≢true (sym no' ∙ yes')

module _ (format : Meaning) (store : List (List ℕ)) (volume : Mapped) (of : IsDirectory format volume.directory)
    (accepted : IsAccepted format volume.directory store) (are : IsPartsOf format volume.directory store volume.parts) where
  abbrev part_of : ℕ → Part
  part_of k = get_or volume.parts k no_part

  reached : (k : ℕ) → k < length volume.parts → Reach format volume.directory store (part_of k)
  reached k below = (are.members (part_of k)).0 (k, below, get_or_default volume.parts k (part_of k) no_part below)

  not_before : (part other : Part) → part ≡ other → Before format part other → ⊥
  not_before part other same before = ⊎_elim
      (λ earlier. absurd (omega (arith, earlier, ap (λ (p : Part). p.file) same)))
      (λ within. absurd (omega (arith, within.1, ap format.rank same)))
      before

  one_number : (k j : ℕ) → k < length volume.parts → j < length volume.parts → part_of k ≡ part_of j → k ≡ j
  one_number k j below below' same = by_test (nat_lt k j) (nat_lt j k) refl refl
    where
      by_test : (a b : Bool) → nat_lt k j ≡ a → nat_lt j k ≡ b → k ≡ j
      by_test true b before after = absurd (not_before (part_of k) (part_of j) same (are.ordered k j no_part (grind (arith, nat_tests)) below'))
      by_test false true before after = absurd (not_before (part_of j) (part_of k) (sym same) (are.ordered j k no_part (grind (arith, nat_tests)) below))
      by_test false false before after = grind (arith, nat_tests)

  module _ (place : ℕ) where
    abbrev Is : PlaceState → Type 0
    Is state = IsInState format store volume place state

    available : Contains volume.directory.available place → is_system volume.directory place ≡ false
    available is = ((of.available_of place).0 is).1

    outside : (k : ℕ) → StandsAt volume.parts k place → is_system volume.directory place ≡ false
    outside k stands = subst (λ (p : ℕ). is_system volume.directory p ≡ false) stands.1 (accepted.sound (part_of k) (reached k stands.0)).outside_system

    used : (k : ℕ) → StandsAt volume.parts k place → is_free volume.directory place ≡ false
    used k stands = subst (λ (p : ℕ). is_free volume.directory p ≡ false) stands.1 (accepted.sound (part_of k) (reached k stands.0)).marked

    one_there : (k j : ℕ) → StandsAt volume.parts k place → StandsAt volume.parts j place → k ≡ j
    one_there k j stands stands' =
        one_number k j stands.0 stands'.0
        (accepted.once (part_of k) (part_of j) (reached k stands.0) (reached j stands'.0) (stands.1 ∙ sym stands'.1))

    not_both : Is InOrder → Is Elsewhere → ⊥
    not_both is other = other.2.1 (subst (λ (k : ℕ). slice_index (layout_in volume) k ≡ k) (one_there is.0 other.0 is.1 other.1) is.2)

    -- whether the system has a place
    owned : PlaceState → Bool
    owned System = true
    owned Reserved = true
    owned state = false

    is_owned : (state : PlaceState) → Is state → is_system volume.directory place ≡ owned state
    unfolding owned
    is_owned System is = is.0
    is_owned Reserved is = is.0
    is_owned InOrder is = outside is.0 is.1
    is_owned Elsewhere is = outside is.0 is.1
    is_owned Lost is = available is.available
    is_owned Free is = available is.0

    apart : (state other : PlaceState) → Is state → Is other → owned state ≡ true → owned other ≡ false → ⊥
    apart state other is is' mine yours = clash (is_owned state is ∙ mine) (is_owned other is' ∙ yours)

    pub one_state : (state other : PlaceState) → Is state → Is other → state ≡ other
    unfolding owned
    one_state System System is is' = refl
    one_state System Reserved is is' = absurd (clash is.1 is'.1)
    one_state Reserved System is is' = absurd (clash is'.1 is.1)
    one_state Reserved Reserved is is' = refl
    one_state InOrder InOrder is is' = refl
    one_state InOrder Elsewhere is is' = absurd (not_both is is')
    one_state InOrder Lost is is' = absurd (is'.unreached (part_of is.0) (reached is.0 is.1.0) is.1.1)
    one_state InOrder Free is is' = absurd (clash is'.1 (used is.0 is.1))
    one_state Elsewhere InOrder is is' = absurd (not_both is' is)
    one_state Elsewhere Elsewhere is is' = refl
    one_state Elsewhere Lost is is' = absurd (is'.unreached (part_of is.0) (reached is.0 is.1.0) is.1.1)
    one_state Elsewhere Free is is' = absurd (clash is'.1 (used is.0 is.1))
    one_state Lost InOrder is is' = absurd (is.unreached (part_of is'.0) (reached is'.0 is'.1.0) is'.1.1)
    one_state Lost Elsewhere is is' = absurd (is.unreached (part_of is'.0) (reached is'.0 is'.1.0) is'.1.1)
    one_state Lost Lost is is' = refl
    one_state Lost Free is is' = absurd (clash is'.1 is.marked)
    one_state Free InOrder is is' = absurd (clash is.1 (used is'.0 is'.1))
    one_state Free Elsewhere is is' = absurd (clash is.1 (used is'.0 is'.1))
    one_state Free Lost is is' = absurd (clash is.1 is'.marked)
    one_state Free Free is is' = refl
    one_state System InOrder is is' = absurd (apart System InOrder is is' refl refl)
    one_state System Elsewhere is is' = absurd (apart System Elsewhere is is' refl refl)
    one_state System Lost is is' = absurd (apart System Lost is is' refl refl)
    one_state System Free is is' = absurd (apart System Free is is' refl refl)
    one_state Reserved InOrder is is' = absurd (apart Reserved InOrder is is' refl refl)
    one_state Reserved Elsewhere is is' = absurd (apart Reserved Elsewhere is is' refl refl)
    one_state Reserved Lost is is' = absurd (apart Reserved Lost is is' refl refl)
    one_state Reserved Free is is' = absurd (apart Reserved Free is is' refl refl)
    one_state InOrder System is is' = absurd (apart System InOrder is' is refl refl)
    one_state Elsewhere System is is' = absurd (apart System Elsewhere is' is refl refl)
    one_state Lost System is is' = absurd (apart System Lost is' is refl refl)
    one_state Free System is is' = absurd (apart System Free is' is refl refl)
    one_state InOrder Reserved is is' = absurd (apart Reserved InOrder is' is refl refl)
    one_state Elsewhere Reserved is is' = absurd (apart Reserved Elsewhere is' is refl refl)
    one_state Lost Reserved is is' = absurd (apart Reserved Lost is' is refl refl)
    one_state Free Reserved is is' = absurd (apart Reserved Free is' is refl refl)

  pub one_table : (places others : List PlaceState) → AreStates format store volume places → AreStates format store volume others → places ≡ others
  one_table places others are is' = ext_get_or Free places others (are.all ∙ sym is'.all) (λ place within.
      let low : place < volume.directory.places = omega (arith, within, are.all) in
      one_state place (get_or places place Free) (get_or others place Free) (are.each place low) (is'.each place low))

abbrev volume_with : Directory → Directory → List Part → Mapped
volume_with directory own parts = record { directory = directory; own = own; parts = parts }

-- two maps of one volume are one
module _ (format unreserved : Meaning) (laws : IsReadable format) (others : IsReadable unreserved)
    (described : (store : List (List ℕ)) (directory : Directory) → format.Describes store directory → IsDirectory format directory) where
  same_volume : (store : List (List ℕ)) (parts parts' : ℕ) (places places' : List PlaceState) (is : IsMap format unreserved store parts places)
      (is' : IsMap format unreserved store parts' places') → is.volume ≡ is'.volume
  same_volume store parts parts' places places' is is' =
      let directory = laws.one_directory store is.volume.directory is'.volume.directory is.accepted.described is'.accepted.described in
      let own = others.one_directory store is.volume.own is'.volume.own is.own is'.own in
      let one = one_parts format is.volume.directory store is.volume.parts is'.volume.parts is.are_parts
      (subst (λ (d : Directory). IsPartsOf format d store is'.volume.parts) (sym directory) is'.are_parts) in
      ap (λ (d : Directory). volume_with d is.volume.own is.volume.parts) directory
      ∙ ap (λ (o : Directory). volume_with is'.volume.directory o is.volume.parts) own
      ∙ ap (λ (ps : List Part). volume_with is'.volume.directory is'.volume.own ps) one

  pub one_map : (store : List (List ℕ)) (parts parts' : ℕ) (places places' : List PlaceState) → IsMap format unreserved store parts places
      → IsMap format unreserved store parts' places' → (parts ≡ parts') × (places ≡ places')
  one_map store parts parts' places places' is is' =
      let same = same_volume store parts parts' places places' is is' in (
        is.many ∙ ap (λ (volume : Mapped). length volume.parts) same ∙ sym is'.many,
        one_table format store is.volume (described store is.volume.directory is.accepted.described) is.accepted is.are_parts places places' is.are_states
            (subst (λ (volume : Mapped). AreStates format store volume places') (sym same) is'.are_states),
      )
