-- Items that are saved one after the other.
use Rattle.std.proofs.Common.{◌≡◌, ◌∙◌, ◌+◌, ◌≤◌, ℕ, List, [], ◌∷◌, ◌++◌, refl, sym, ap, subst, arith, length, take, take_all}
use Rattle.std.specs.Prelude.{IsTrue, IfSome, Option, Some, None, OnOk, Result, slice_get, suc, zero}
use Rattle.std.proofs.lemmas.List.{length-take}
use Rattle.a2_device.specs.Device.{DeviceState}
use Rattle.edit_formats.specs.declared.error.EditError.{EditError}
use Rattle.folder_adding.specs.Added.{AreAdded, HasAdded, IsFileAdded, IsItemAdded}
use Rattle.folder_adding.specs.Items.{BatchView, ItemView, file_at, new_file, new_files, said_by}
use Rattle.folder_adding.specs.Reads.{AreGivenBack, GivesBack, IsAlike}
use Rattle.folder_adding.specs.declared.item.Second.{Second}
use Rattle.folder_adding.proofs.Outcomes.{said_quiet, said_same, said_saved, tells_changed}
use Rattle.edit_formats.specs.Saves.{SaveMeaning}
use Rattle.shop_changes.specs.GivenFile.{most_input}
use Rattle.shop_changes.specs.SaidFile.{Gives}
use Rattle.shop_changes.specs.Saves.{HasGivenSaved}
use Rattle.shop_changes.specs.declared.outcome.Outcome.TheVariants.{Changed}
use Rattle.vol_format.specs.Accepted.{IsVolume}
use Rattle.vol_format.specs.Meaning.{Meaning}

-- of a text that is no longer than is taken, all was read
whole : (most : ℕ) (bytes read : List ℕ) → read ≡ take (most + 1) bytes → length read ≤ most → read ≡ bytes
whole most bytes read is short = is ∙ take_all (most + 1) bytes (omega (arith, length-take (most + 1) bytes, ap (λ (l : List ℕ). length l) is))

module _ (batch : BatchView) (saves : SaveMeaning) (format : Meaning) where
  -- ---- every device

  pub one_more : (holds : Option (ℕ → List ℕ)) (number : ℕ) (items : List ItemView) (item : ItemView) (old mid new : DeviceState) → AreAdded batch holds saves format number items old mid
      → IsItemAdded batch holds saves format (file_at batch (number + length items)) item mid new → AreAdded batch holds saves format number (items ++ item ∷ []) old new
  one_more holds number [] item old mid new added last =
      let here = subst (λ (n : ℕ). IsItemAdded batch holds saves format (file_at batch n) item mid new) (omega arith) last in
      (new, subst (λ (before : DeviceState). IsItemAdded batch holds saves format (file_at batch number) item before new) added here, refl)
  one_more holds number (first ∷ items) item old mid new added last = (
    added.0,
    added.1,
    one_more holds (number + 1) items item added.0 mid new added.2
        (subst (λ (n : ℕ). IsItemAdded batch holds saves format (file_at batch n) item mid new) (omega arith) last),
  )

  pub item_honest : (holds : Option (ℕ → List ℕ)) (file : ℕ) (item : ItemView) (old new : DeviceState) → IsItemAdded batch holds saves format file item old new → new.honest ≡ old.honest
  item_honest holds file item old new added = (said_same item.path (said_by batch item added.bytes) saves format old new Changed added.saved).honest

  pub item_volume : (holds : Option (ℕ → List ℕ)) (file : ℕ) (item : ItemView) (old new : DeviceState) → IsTrue old.honest → IsItemAdded batch holds saves format file item old new
      → IsVolume format new.store
  item_volume holds file item old new honest added =
      let tried = said_saved item.path (said_by batch item added.bytes) saves format old new added.saved in
      let done = tells_changed tried.tried.result tried.tried.told in
      let saved = subst (λ (result : Result (Unit {0}) EditError). OnOk result (HasGivenSaved item.path tried.given saves format old.store new.store)) done (tried.tried.saved honest) in
      saved.saved.volume

  pub added_quiet : (holds : Option (ℕ → List ℕ)) (number : ℕ) (items : List ItemView) (old new : DeviceState) → AreAdded batch holds saves format number items old new → new.faults ≡ old.faults
  added_quiet holds number [] old new added = ap (λ (d : DeviceState). d.faults) added
  added_quiet holds number (item ∷ items) old new added =
      added_quiet holds (number + 1) items added.0 new added.2
      ∙ said_quiet item.path (said_by batch item added.1.bytes) saves format old added.0 added.1.saved

  -- ---- an honest device, and known files

  module _ (contents : ℕ → List ℕ) where
    item_stored : (file : ℕ) (item : ItemView) (old new : DeviceState) → IsTrue old.honest → IsItemAdded batch (Some contents) saves format file item old new
        → IsFileAdded saves format (new_file batch item (contents file)) old.store new.store
    item_stored file item old new honest added =
        let path = item.path in
        let tried = said_saved path (said_by batch item added.bytes) saves format old new added.saved in
        let bytes = whole most_input (contents file) added.bytes added.read.read tried.short in
        let done = tells_changed tried.tried.result tried.tried.told in
        record {
          given = tried.given;
          gives = subst (λ (read : List ℕ). Gives (said_by batch item read) tried.given) bytes tried.gives;
          saved = subst (λ (result : Result (Unit {0}) EditError). OnOk result (HasGivenSaved path tried.given saves format old.store new.store)) done (tried.tried.saved honest);
        }

    pub stored : (number : ℕ) (items : List ItemView) (old new : DeviceState) → IsTrue old.honest → AreAdded batch (Some contents) saves format number items old new
        → HasAdded saves format (new_files batch contents number items) old.store new.store
    stored number [] old new honest added = ap (λ (d : DeviceState). d.store) added
    stored number (item ∷ items) old new honest added =
        let mid = added.0 in
        let file = file_at batch number in
        let still = subst IsTrue (sym (item_honest (Some contents) file item old mid added.1)) honest in
        (mid.store, item_stored file item old mid honest added.1, stored (number + 1) items mid new still added.2)

    -- ---- readable forms

    given_back : (bytes : List ℕ) (file : ℕ) (second : Second) → bytes ≡ contents file → IsAlike batch.file_system (Some contents) bytes second
        → GivesBack batch.file_system second.form (contents second.file) (contents file)
    given_back bytes file second is alike =
        let given = whole most_input (contents second.file) alike.given alike.read alike.short in
        subst (λ (text : List ℕ). GivesBack batch.file_system second.form text (contents file)) given
        (subst (λ (read : List ℕ). GivesBack batch.file_system second.form alike.given read) is alike.gives)

    item_alike : (file : ℕ) (item : ItemView) (second : Second) (old new : DeviceState) → IsItemAdded batch (Some contents) saves format file item old new
        → item.second ≡ Some second → GivesBack batch.file_system second.form (contents second.file) (contents file)
    item_alike file item second old new added beside =
        let short = (said_saved item.path (said_by batch item added.bytes) saves format old new added.saved).short in
        let alike = subst (λ (found : Option Second). IfSome found (IsAlike batch.file_system (Some contents) added.bytes)) beside (added.read.alike short) in
        given_back added.bytes file second (whole most_input (contents file) added.bytes added.read.read short) alike

    pub alike : (number : ℕ) (items : List ItemView) (old new : DeviceState) → AreAdded batch (Some contents) saves format number items old new
        → (place : ℕ) (item : ItemView) (second : Second) → slice_get items place ≡ Some item → item.second ≡ Some second
        → GivesBack batch.file_system second.form (contents second.file) (contents (file_at batch (number + place)))
    alike number [] old new added place item second there beside = absurd cc
    alike number (first ∷ items) old new added zero item second there beside =
        let same : first ≡ item = cc in
        subst (λ (n : ℕ). GivesBack batch.file_system second.form (contents second.file) (contents (file_at batch n))) (omega arith)
        (item_alike (file_at batch number) item second old added.0
        (subst (λ (i : ItemView). IsItemAdded batch (Some contents) saves format (file_at batch number) i old added.0) same added.1) beside)
    alike number (first ∷ items) old new added (suc place) item second there beside =
        subst (λ (n : ℕ). GivesBack batch.file_system second.form (contents second.file) (contents (file_at batch n))) (omega arith)
        (alike (number + 1) items added.0 new added.2 place item second there beside)

  pub known_alike : (holds : Option (ℕ → List ℕ)) (old new : DeviceState) → AreAdded batch holds saves format 0 batch.items old new
      → IfSome holds (λ contents. AreGivenBack batch contents)
  known_alike None old new added = tt
  known_alike (Some contents) old new added = λ number item second there beside.
      subst (λ (n : ℕ). GivesBack batch.file_system second.form (contents second.file) (contents (file_at batch n))) (omega arith)
      (alike contents 0 batch.items old new added number item second there beside)

  pub known_stored : (holds : Option (ℕ → List ℕ)) (items : List ItemView) (old new : DeviceState) → IsTrue old.honest → AreAdded batch holds saves format 0 items old new
      → IfSome holds (λ contents. HasAdded saves format (new_files batch contents 0 items) old.store new.store)
  known_stored None items old new honest added = tt
  known_stored (Some contents) items old new honest added = stored contents 0 items old new honest added
