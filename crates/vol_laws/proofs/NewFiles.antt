-- A planned file entered.
use Rattle.std.specs.Prelude.{◌≡◌, ◌≢◌, ◌↔◌, ◌<◌, ◌≤◌, ℕ, false, List, length}
use Rattle.std.proofs.Common.{sym, ◌∙◌, ap, subst, inl, inr}
use Rattle.a2_device.specs.declared.part.Part.{Part}
use Rattle.vol_format.specs.Accepted.{IsAccepted}
use Rattle.vol_format.specs.Directory.{Directory, Listed, entries, is_directory, leads_to_directory}
use Rattle.vol_format.specs.Laws.{IsReadable, IsMovable}
use Rattle.vol_format.specs.Meaning.{Meaning}
use Rattle.vol_format.specs.Standing.{IsLost}
use Rattle.vol_format.specs.Files.{File, HasFiles}
use Rattle.vol_laws.specs.Built.{Planned, place_of, IsBuilt, AreHeld, IsPlannedFile}
use Rattle.vol_laws.specs.EditLaws.{IsFileFree}
use Rattle.vol_laws.specs.Entered.{HasSameRest, IsNewFile, HasEntered}
use Rattle.vol_laws.specs.Inserted.{insert_at, inserted, files_before}
use Rattle.vol_laws.proofs.Building.{planned_part, part_planned, built_new, built_file}
use Rattle.vol_laws.proofs.Entering.{entered}
use Rattle.vol_laws.proofs.Keeping.{held_after}
use Rattle.vol_laws.proofs.WholeLists.{volume_entered}

module _ (format : Meaning) (laws : IsReadable format) (movable : IsMovable format) (free : IsFileFree format)
    (few : Directory) (at : ℕ) (entry : Listed) (old new : List (List ℕ)) (planned : List Planned) (file : File)
    (within : at ≤ entries few) (accepted : IsAccepted format few old) (rest : HasSameRest few old new) (described : format.Describes new (inserted few at entry))
    (is : IsPlannedFile format few old planned entry file) where
  built : IsBuilt format (length new) planned entry.root
  built = subst (λ n. IsBuilt format n planned entry.root) (sym rest.size) is.built

  held : AreHeld new planned
  held = held_after format few (movable.described old few accepted.described) old new planned is.lost rest is.held

  new_file : IsNewFile format few old new entry.root
  new_file = built_new format laws new planned entry.root built held few (movable.described old few accepted.described) old is.lost

  of_file : is_directory entry ≡ false
  of_file = elim is.built.entry [
    | inl none ↦ ap leads_to_directory none
    | inr named ↦ ap leads_to_directory named.2
  ]

  pub planned_entered : HasEntered format few at entry old new
  planned_entered = entered format laws movable free few at entry old new within rest accepted described new_file

  pub planned_listed : (others : List File) → HasFiles format old others → HasFiles format new (insert_at (files_before few at) file others)
  planned_listed others has = volume_entered format laws movable free few at entry within of_file old new file others accepted rest described new_file
      (built_file format laws new planned entry file built held is.path is.bytes is.body) has

  pub planned_lost : (place : ℕ) → IsLost format (inserted few at entry) new place
      ↔ (IsLost format few old place × ((k : ℕ) → k < length planned → place_of planned k ≢ place))
  planned_lost place =
      let both = planned_entered.lost place in (
        λ lost.
            let was = both.0 lost in
            (was.0, λ k below same. was.1 (_, part_planned format laws new planned entry.root built held k below, same)),
        λ was. both.1 (
          was.0,
          λ taken.
              let k = planned_part format laws new planned entry.root built held taken.0 taken.1 in
              was.1 k.0 k.1 (sym (ap (λ (part : Part). part.place) k.2) ∙ taken.2),
        ),
      )
