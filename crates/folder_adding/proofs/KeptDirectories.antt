-- Directories that are there or are made, one after the other.
use Rattle.std.proofs.Common.{◌≡◌, ◌∙◌, ◌+◌, ◌<◌, ◌≤◌, ℕ, Bool, suc, List, [], ◌∷◌, ◌++◌, refl, sym, ap, subst, arith, inl, inr, length, take, take_all}
use Rattle.std.specs.Prelude.{true, false, IsTrue, OnOk, Result, drop, slice_index_or}
use Rattle.std.proofs.lemmas.List.{length-take, take_more}
use Rattle.std.proofs.Math.Seq.{split_at}
use Rattle.a2_device.specs.Device.{DeviceState, IsSameDevice}
use Rattle.file_edits.specs.Directories.{DirectoryMeaning, KeepsFiles}
use Rattle.edit_formats.specs.declared.error.EditError.{EditError}
use Rattle.folder_adding.specs.Directories.{AreKept, HasDirectories, HasKept, HasNoDirectory, IsKept, IsLooked, IsMadeAnew, IsNotKept, KeepFiles, KeepsVolume, Making, making_by}
use Rattle.folder_adding.specs.HostPaths.{Text}
use Rattle.folder_adding.proofs.Outcomes.{tells_changed}
use Rattle.folder_adding.proofs.Same.{same_on}
use Rattle.shop_replies.specs.declared.reply.Reply.{Reply}
use Rattle.vol_format.specs.Accepted.{IsVolume}
use Rattle.vol_format.specs.Meaning.{Meaning}

module _ (making : Making) where
  -- ---- every device

  pub one_more : (paths : List Text) (path : Text) (old mid new : DeviceState) → AreKept making paths old mid → IsKept making path mid new
      → AreKept making (paths ++ path ∷ []) old new
  one_more [] path old mid new kept last = (new, subst (λ (before : DeviceState). IsKept making path before new) kept last, refl)
  one_more (first ∷ paths) path old mid new kept last = (kept.0, kept.1, one_more paths path kept.0 mid new kept.2 last)

  -- ---- an honest device

  looked_same : (there : Bool) (path : Text) (old new : DeviceState) → IsTrue old.honest → IsLooked making there path old new → new ≡ old
  looked_same there path old new honest looked = looked.reads.kept honest refl

  made_stored : (path : Text) (old new : DeviceState) → IsTrue old.honest → IsMadeAnew making path old new → making.directories.HasMade old.store path making.date new.store
  made_stored path old new honest made =
      let same = looked_same false path old made.looked honest made.lacks in
      let still = subst (λ (d : DeviceState). IsTrue d.honest) (sym same) honest in
      let done = tells_changed made.made.result made.made.told in
      subst (λ (d : DeviceState). making.directories.HasMade d.store path making.date new.store) same
      (subst (λ (result : Result (Unit {0}) EditError). OnOk result (making.directories.HasMade made.looked.store path making.date new.store)) done (made.made.made still))

  pub kept_stored : (path : Text) (old new : DeviceState) → IsTrue old.honest → IsKept making path old new → HasKept making path old.store new.store
  kept_stored path old new honest kept = elim kept [
    | inl there ↦ inl (there.is honest, ap (λ (d : DeviceState). d.store) (looked_same true path old new honest there))
    | inr made ↦ inr (made.lacks.is honest, made_stored path old new honest made)
  ]

  kept_honest : (path : Text) (old new : DeviceState) → IsKept making path old new → new.honest ≡ old.honest
  kept_honest path old new kept = elim kept [
    | inl there ↦ there.reads.same.honest
    | inr made ↦ made.made.edited.same.honest ∙ made.lacks.reads.same.honest
  ]

  pub all_stored : (paths : List Text) (old new : DeviceState) → IsTrue old.honest → AreKept making paths old new → HasDirectories making paths old.store new.store
  all_stored [] old new honest kept = ap (λ (d : DeviceState). d.store) kept
  all_stored (path ∷ paths) old new honest kept =
      let still = subst IsTrue (sym (kept_honest path old kept.0 kept.1)) honest in
      (kept.0.store, kept_stored path old kept.0 honest kept.1, all_stored paths kept.0 new still kept.2)

  -- ---- the files

  module _ (keeps : KeepsFiles making.format making.directories) where
    one_keeps : (path : Text) (old new : List (List ℕ)) → IsVolume making.format old → HasKept making path old new → KeepsVolume making.format old new
    one_keeps path old new volume kept = elim kept [
      | inl there ↦ subst (λ (store : List (List ℕ)). KeepsVolume making.format old store) (sym there.1)
          (record { volume = volume; files = λ all has. has; lost = λ place. ((λ lost. lost), (λ lost. lost)) })
      | inr made ↦ record {
        volume = keeps.volume old path making.date new made.1;
        files = keeps.files old path making.date new made.1;
        lost = keeps.lost old path making.date new made.1;
      }
    ]

    pub all_keep : (paths : List Text) (old new : List (List ℕ)) → IsVolume making.format old → HasDirectories making paths old new → KeepsVolume making.format old new
    all_keep [] old new volume same =
        subst (λ (store : List (List ℕ)). KeepsVolume making.format old store) (sym same)
        (record { volume = volume; files = λ all has. has; lost = λ place. ((λ lost. lost), (λ lost. lost)) })
    all_keep (path ∷ paths) old new volume kept =
        let first = one_keeps path old kept.0 volume kept.1 in
        let rest = all_keep paths kept.0 new first.volume kept.2 in
        record {
          volume = rest.volume;
          files = λ all has. rest.files all (first.files all has);
          lost = λ place. ((λ lost. (first.lost place).0 ((rest.lost place).0 lost)), (λ lost. (rest.lost place).1 ((first.lost place).1 lost)));
        }

-- ---- what the loop keeps, and what it ends with

-- The first so many directories are there.
pub record AreKeptTo (making : Making) (paths : List Text) (number : ℕ) (old new : DeviceState) : Type 0 where
  pub same : IsSameDevice old new
  pub kept : AreKept making (take number paths) old new
  pub volume : IsTrue old.honest → IsVolume making.format new.store

pub none_kept : (making : Making) (paths : List Text) (device : DeviceState) → (IsTrue device.honest → IsVolume making.format device.store) → AreKeptTo making paths 0 device device
none_kept making paths device volume = record {
  same = record { places = refl; unit_size = refl; image = refl; honest = refl; unreadable = refl };
  kept = refl;
  volume = volume;
}

abbrev pub path_at : List Text → ℕ → Text
path_at paths number = slice_index_or paths number []

module _ (making : Making) (keeps : KeepsFiles making.format making.directories) (paths : List Text) (number : ℕ) (old mid : DeviceState)
    (so_far : AreKeptTo making paths number old mid) where
  still_honest : IsTrue old.honest → IsTrue mid.honest
  still_honest = subst IsTrue (sym so_far.same.honest)

  pub still_accepted : IsTrue mid.honest → IsVolume making.format mid.store
  still_accepted honest = so_far.volume (subst IsTrue so_far.same.honest honest)

  module _ (inside : number < length paths) (new : DeviceState) (path : Text) (here : path_at paths number ≡ path) where
    pub went_on : IsSameDevice mid new → IsKept making path mid new → AreKeptTo making paths (number + 1) old new
    went_on same kept = record {
      same = same_on old mid new so_far.same same;
      kept = subst (λ (list : List Text). AreKept making list old new) (sym (take_more paths number [] inside ∙ ap (λ (p : Text). take number paths ++ p ∷ []) here))
          (one_more making (take number paths) path old mid new so_far.kept kept);
      volume = λ honest. (one_keeps making keeps path mid.store new.store (so_far.volume honest) (kept_stored making path mid new (still_honest honest) kept)).volume;
    }

    pub stopped_at : (reply : Reply) → IsNotKept making path mid new reply → HasNoDirectory making paths old new (record { directory = number; reply = reply })
    stopped_at reply refusal = record {
      before = take number paths;
      path = path;
      behind = drop (suc number) paths;
      all = split_at paths number [] inside ∙ ap (λ (p : Text). take number paths ++ p ∷ drop (suc number) paths) here;
      number = sym (omega (arith, length-take number paths));
      mid = mid;
      kept = so_far.kept;
      refusal = refusal;
    }

  module _ (all : length paths ≤ number) where
    pub all_kept : AreKept making paths old mid
    all_kept = subst (λ (list : List Text). AreKept making list old mid) (take_all number paths all) so_far.kept

    pub all_held : IsTrue old.honest → HasDirectories making paths old.store mid.store
    all_held honest = all_stored making paths old mid honest all_kept

-- ---- the law

pub keep_files : (directories : DirectoryMeaning) (format : Meaning) → KeepsFiles format directories → KeepFiles directories format
keep_files directories format keeps = λ date paths old new volume kept. all_keep (making_by directories format date) keeps paths old new volume kept
