-- What a check answers, over what its calls ensure.
use Rattle.std.proofs.Common.{◌≡◌, ◌≢◌, ℕ, Bool, true, false, List, [], ◌∷◌, length, get_or, refl, sym, ◌∙◌, ap, subst, arith, ⊎_elim, inl}
use Rattle.std.specs.Prelude.{◌==◌, IsTrue, not, ◌&&◌, filter, slice_index_or, if◌then◌else◌}
use Rattle.std.specs.List.{Contains, All, AllPairs, list_any}
use Rattle.std.proofs.lemmas.List.Folds.{list_any_at, list_any_none}
use Rattle.std.proofs.lemmas.Bool.Decides.{nat_tests}
use Rattle.a2_device.specs.Device.{DeviceState, OnlyReads}
use Rattle.a2_device.specs.declared.part.Part.{Part}
use Rattle.a2_device.specs.declared.fault.Fault.{Fault}
use Rattle.a2_device.specs.declared.fault.Fault.TheVariants.{OutOfRange, StorageType, InSystem, Shared, MarkedFree, Geometry, CatalogLink, DirLink, MapPointer}
use Rattle.vol_format.specs.Directory.{Directory, entries, is_system, is_free, files}
use Rattle.vol_format.specs.Meaning.{Meaning}
use Rattle.vol_format.specs.Accepted.{PartFaultAt, FaultAt, IsAccepted}
use Rattle.vol_format.specs.Standing.{layout_of, lost_places}
use Rattle.vol_format.specs.Laws.{IsReadable}
use Rattle.vol_check.specs.Answer.{AreFaults}
use Rattle.vol_check.specs.Judgement.{IfAccepted}
use Rattle.vol_check.specs.Told.{Told, IsToldOf}
use Rattle.vol_check.specs.declared.checked.Checked.{Checked}
use Rattle.vol_check.specs.declared.judgement.Judgement.{Judgement}
use Rattle.vol_check.specs.declared.judgement.Judgement.TheVariants.{Accepted}
use Rattle.vol_check.specs.Walk.{Lists, IsSound, is_visited}
use Rattle.vol_check.specs.Walking.{IsWalking, None}
use Rattle.vol_check.proofs.Pushed.{only, element_at}

true_not_false : true ≡ false → ⊥
true_not_false e = cc

-- a store in which something is broken is not accepted
part_refused : (format : Meaning) (directory : Directory) (store : List (List ℕ)) (fault : Fault) → PartFaultAt format directory store fault → IsAccepted format directory store → ⊥
part_refused format directory store (Geometry place) at accepted = at
part_refused format directory store (CatalogLink place) at accepted = at
part_refused format directory store (DirLink place) at accepted = at
part_refused format directory store (MapPointer place) at accepted = at
part_refused format directory store (StorageType place) at accepted = accepted.no_other_type at.0 at.1 at.3
part_refused format directory store (OutOfRange place) at accepted =
    ⊎_elim (λ root. accepted.no_wild root.0 root.1 root.3) (λ part. (accepted.sound part.0 part.1).no_wild part.3.0 part.3.1) at
part_refused format directory store (InSystem place) at accepted = true_not_false (sym at.3 ∙ ap (is_system directory) (sym at.2) ∙ (accepted.sound at.0 at.1).outside_system)
part_refused format directory store (Shared place) at accepted = at.6 (accepted.once at.0 at.1 at.2 at.3 (at.4 ∙ sym at.5))
part_refused format directory store (MarkedFree place) at accepted = true_not_false (sym at.3 ∙ ap (is_free directory) (sym at.2) ∙ (accepted.sound at.0 at.1).marked)

refused : (format : Meaning) (store : List (List ℕ)) (fault : Fault) → IsReadable format → FaultAt format store fault → (directory : Directory) → IsAccepted format directory store → ⊥
refused format store fault laws at directory accepted =
    ⊎_elim (λ header. laws.header_fault store directory fault header accepted.described)
    (λ part. part_refused format directory store fault
    (subst (λ (d : Directory). PartFaultAt format d store fault) (laws.one_directory store part.0 directory part.1 accepted.described) part.2) accepted) at

pub nothing : {X : Type 0} (xs : List X) → length xs ≡ 0 → xs ≡ []
nothing [] is = refl
nothing (x ∷ xs) is = absurd (omega arith)

-- one fault of the header
pub one_fault : (format : Meaning) (store : List (List ℕ)) (fault : Fault) (faults : List Fault) → IsReadable format → format.HeaderFaultAt store fault → faults ≡ fault ∷ []
    → AreFaults format store faults
one_fault format store fault faults laws at is = record {
  some = omega (arith, ap length is);
  there = λ f has. subst (FaultAt format store) (sym (only fault f (subst (λ (fs : List Fault). Contains fs f) is has))) (inl at);
  refused = refused format store fault laws (inl at);
}

-- several
pub some_faults : (format : Meaning) (store : List (List ℕ)) (faults : List Fault) → IsReadable format → ((f : Fault) → Contains faults f → FaultAt format store f) → (length faults ≡ 0 → ⊥)
    → AreFaults format store faults
some_faults format store [] laws each some = absurd (some refl)
some_faults format store (fault ∷ faults) laws each some =
    record { some = omega arith; there = each; refused = refused format store fault laws (each fault (0, omega arith, refl)) }

-- the walk over the volume as it was read
pub walked : (format : Meaning) (directory : Directory) (old new : DeviceState) (walk : Lists) → OnlyReads false old new → IsTrue old.honest
    → (IsTrue new.honest → IsWalking format directory new.store (entries directory) None walk) → IsWalking format directory old.store (entries directory) None walk
walked format directory old new walk read honest walking =
    subst (λ (d : DeviceState). IsWalking format directory d.store (entries directory) None walk) (read.kept honest refl)
    (walking (subst IsTrue (sym read.same.honest) honest))

-- what holds of each part, by number
pub each_part : (P : Part → Type 0) (parts walked : List Part) → parts ≡ walked → ((part : Part) → Contains walked part → P part) → All P parts
each_part P parts walked is each k d within = each (get_or parts k d) (subst (λ ps. Contains ps (get_or parts k d)) is (element_at parts k d within))

same_filter : (p q : ℕ → Bool) (xs : List ℕ) → ((x : ℕ) → p x ≡ q x) → filter p xs ≡ filter q xs
same_filter p q [] same = refl
same_filter p q (x ∷ xs) same =
    ap (λ b. if b then x ∷ filter p xs else filter p xs) (same x) ∙ ap (λ rest. if q x then x ∷ rest else rest) (same_filter p q xs same)

module _ (format : Meaning) (directory : Directory) (walk : Lists) (sound : IsSound format directory walk) where
  -- the table has the places of the parts
  in_table : (place : ℕ) → slice_index_or walk.visited place false ≡ list_any (λ (part : Part). part.place == place) walk.parts
  in_table place = by_test (slice_index_or walk.visited place false) refl
    where
      here : (part : Part) → part.place ≡ place → (part.place == place) ≡ true
      here part at = grind (arith, nat_tests)

      elsewhere : (part : Part) → part.place ≢ place → (part.place == place) ≡ false
      elsewhere part at = grind (arith, nat_tests)

      by_test : (met : Bool) → slice_index_or walk.visited place false ≡ met → met ≡ list_any (λ (part : Part). part.place == place) walk.parts
      by_test true is =
          let at = sound.by_part place is in
          sym (list_any_at (λ (part : Part). part.place == place) walk.parts at.1.0 at.0 at.1.1
          (here (get_or walk.parts at.1.0 at.0) (ap (λ (part : Part). part.place) at.1.2 ∙ at.2)))
      by_test false is = sym (list_any_none (λ (part : Part). part.place == place) walk.parts
          (λ k d within. elsewhere (get_or walk.parts k d)
          (λ same. true_not_false (sym (sound.met (get_or walk.parts k d) (element_at walk.parts k d within)) ∙ ap (is_visited walk) same ∙ is))))

  pub all_told : (told : Told) (shown : List Part) (table : List Bool) → told.parts ≡ walk.parts → shown ≡ walk.parts → table ≡ walk.visited
      → told.files ≡ length (files directory)
      → told.layout ≡ record { at = layout_of directory shown; places = length directory.available }
      → told.lost ≡ filter (λ place. not (is_free directory place) && not (slice_index_or table place false)) directory.available
      → IsToldOf directory told
  all_told told shown table parts shown_is table_is files_is layout lost = record {
    files = files_is;
    layout = layout ∙ ap (λ ps. record { at = layout_of directory ps; places = length directory.available }) (shown_is ∙ sym parts);
    lost = lost
        ∙ same_filter _ _ directory.available (λ place. ap (λ met. not (is_free directory place) && not met) (ap (λ visited. slice_index_or visited place false) table_is ∙ in_table place))
        ∙ ap (lost_places directory) (sym parts);
    places = λ p has. sound.part_place p (subst (λ ps. Contains ps p) parts has);
    in_files = λ p has. sound.part_file p (subst (λ ps. Contains ps p) parts has);
    apart = subst (λ ps. AllPairs (λ (part later : Part). part.place ≢ later.place) ps) (sym parts) sound.apart;
  }

-- what holds of an accepted volume holds of the one that is
pub when_accepted : {V A : Type 0} (P : Checked V A → Type 0) (judgement : Judgement V A) (checked : Checked V A) → judgement ≡ Accepted checked → IfAccepted P judgement → P checked
when_accepted P judgement checked is holds = subst (IfAccepted P) is holds
