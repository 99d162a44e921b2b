-- A volume without an entry and without a lost place is empty, and no other one is.
use Rattle.std.proofs.Common.{◌≡◌, ◌≢◌, ◌<◌, ℕ, List, length, get_or, arith, inl, inr, ap, sym, ◌∙◌, subst}
use Rattle.std.specs.Prelude.{◌↔◌, Contains}
use Rattle.std.proofs.lemmas.Bool.{cases_Bool, false≢true}
use Rattle.std.proofs.lemmas.List.Elements.{Contains-get_or}
use Rattle.a2_device.specs.declared.part.Part.{Part}
use Rattle.vol_format.specs.Accepted.{IsAccepted}
use Rattle.vol_format.specs.Directory.{Directory, entries, is_free}
use Rattle.vol_format.specs.Laws.{IsReadable}
use Rattle.vol_format.specs.Meaning.{Meaning}
use Rattle.vol_format.specs.Reach.{Reach, at_root, at_child}
use Rattle.vol_format.specs.Standing.{IsLost}
use Rattle.new_volumes.specs.Empty.{IsEmptyVolume}

no_part : (format : Meaning) (directory : Directory) (store : List (List ℕ)) (part : Part) → entries directory ≡ 0 → Reach format directory store part → ⊥
no_part format directory store part none (at_root file inside root) = omega (arith, inside, none)
no_part format directory store part none (at_child pointer parent link) = no_part format directory store _ none parent

in_none : (place : ℕ) (lost : List ℕ) → length lost ≡ 0 → Contains lost place → ⊥
in_none place lost none there = grind (arith, there)

module _ (format : Meaning) (directory : Directory) (store : List (List ℕ)) (lost : List ℕ) (accepted : IsAccepted format directory store)
    (told : (place : ℕ) → Contains lost place ↔ IsLost format directory store place) where
  pub empty_of : entries directory ≡ 0 → length lost ≡ 0 → IsEmptyVolume format store
  empty_of none few = record {
    directory = directory;
    accepted = accepted;
    none = none;
    free = λ place available. elim (cases_Bool (is_free directory place)) [
      | inl free ↦ free
      | inr used ↦ absurd (in_none place lost few ((told place).1 (record { available = available; marked = used; unreached = λ part reach. absurd (no_part format directory store part none reach) })))
    ];
  }

  one : IsReadable format → (empty : IsEmptyVolume format store) → empty.directory ≡ directory
  one laws empty = laws.one_directory store empty.directory directory empty.accepted.described accepted.described

  pub has_entry : IsReadable format → entries directory ≢ 0 → ¬ IsEmptyVolume format store
  has_entry laws some = λ empty. some (ap (λ (d : Directory). entries d) (sym (one laws empty)) ∙ empty.none)

  pub has_lost : IsReadable format → length lost ≢ 0 → ¬ IsEmptyVolume format store
  has_lost laws some = λ empty.
      let within : 0 < length lost = omega (arith, some) in
      let is = (told (get_or lost 0 0)).0 (Contains-get_or lost 0 0 within) in
      let same = one laws empty in
      let free = empty.free (get_or lost 0 0) (subst (λ (d : Directory). Contains d.available (get_or lost 0 0)) (sym same) is.available) in
      false≢true (sym is.marked ∙ ap (λ (d : Directory). is_free d (get_or lost 0 0)) (sym same) ∙ free)
