-- How an extraction begins, and how it ends.
use Rattle.std.proofs.Common.{◌≡◌, ◌≤◌, ℕ, List, [], length, refl, sym, ap, arith, inl, inr, ⊎_elim, append-nil}
use Rattle.std.specs.Prelude.{IsTrue}
use Rattle.std.proofs.lemmas.List.Elements.{All-nil}
use Rattle.a2_device.specs.Device.{DeviceState}
use Rattle.vol_format.specs.Directory.{Directory}
use Rattle.file_cmds.specs.ReadingOn.{ReadsOn}
use Rattle.host_folders.specs.Folder.{FolderState, Made}
use Rattle.host_folders.specs.Path.{IsSafePath}
use Rattle.host_folders.specs.declared.folder.FolderFailure.{FolderFailure}
use Rattle.volume_extract.specs.Counts.{AreCounted}
use Rattle.volume_extract.specs.ExtractText.{totals_of}
use Rattle.volume_extract.specs.Extraction.{AreWithin, HasStopped, IsExtraction, IsRefused, IsStopped, Plan, source_with}
use Rattle.volume_extract.specs.Items.{Item, no_items}
use Rattle.volume_extract.specs.Made.{after_items}
use Rattle.volume_extract.specs.Progress.{HasStoppedAt, IsDone, IsExtracting}
use Rattle.volume_extract.specs.Source.{IsTooDeep, Source, contents_at, contents_since}
use Rattle.volume_extract.specs.declared.error.ExtractError.{ExtractError}
use Rattle.volume_extract.specs.declared.error.ExtractError.TheVariants.{Check, Device, Folder, Memory, TooDeep, TooLarge}
use Rattle.volume_extract.specs.declared.kept.Kept.{Kept}
use Rattle.volume_extract.specs.declared.names.Names.{Names}
use Rattle.volume_extract.specs.declared.totals.Totals.{Totals}
use Rattle.volume_extract.proofs.Wider.{items_here, named_here, next_here}

abbrev with_made : FolderState → List Made → FolderState
with_made folder made = record folder { made = made }

-- nothing is made of no items
none_made : (folder : FolderState) → folder ≡ after_items [] folder
none_made folder = ap (with_made folder) (sym (append-nil folder.made))

none_within : (most : ℕ) → AreWithin most []
none_within most = record {
  shallow = All-nil (λ (item : Item). item.depth ≤ 64);
  short = All-nil (λ (item : Item). length item.host ≤ 1024);
  few = omega arith;
}

-- no item was made yet
pub begun : (source : Source) (most : ℕ) (start now : DeviceState) (folder : FolderState) (kept : List Kept) (totals : Totals) (names : Names)
    → ReadsOn start now → kept ≡ [] → totals ≡ totals_of [] → AreCounted [] names
    → IsExtracting source most start now folder folder [] kept totals names
begun source most start now folder kept totals names reads empty none counted = record {
  reads = reads;
  are_items = no_items;
  are_kept = record { long = ap length empty; within = omega arith; each = λ number low. absurd (omega (arith, low)) };
  counts = none;
  counted = counted;
  safe = All-nil (λ (item : Item). IsSafePath item.host);
  within = none_within most;
  honest = refl;
  made = λ honest. none_made folder;
}

pub stopped_at_once : {O : Type 0} (state : O → FolderState) (may_fail : O → FolderFailure → Type 0) (source : Source) (most : ℕ) (start now : DeviceState) (folder : FolderState)
    → HasStoppedAt state may_fail source most start now folder folder Memory
stopped_at_once state may_fail source most start now folder = record {
  items = [];
  are_items = no_items;
  inside = omega arith;
  within = none_within most;
  stopped = λ honest. none_made folder;
}

-- ---- of an honest device

module _ (plan : Plan) (directory : Directory) (device last : DeviceState) (honest : IsTrue device.honest) (described : plan.meaning.Describes device.store directory)
    (folder folder_now : FolderState) where
  pub extraction : (Tells : List Item → Type 0) → IsDone (source_with plan directory) plan.most device last folder folder_now Tells
      → IsExtraction plan device last folder folder_now Tells
  extraction Tells done = record {
    directory = directory;
    described = described;
    items = done.items;
    are_items = items_here (source_with plan directory) device last honest done.items done.are_items;
    all = done.all;
    within = done.within;
    made = done.made;
    tells = done.tells;
  }

  module _ {O : Type 0} (state : O → FolderState) (may_fail : O → FolderFailure → Type 0) where
    deep_here : (items : List Item) → IsTooDeep (source_with plan directory) device (contents_since (source_with plan directory) device last) items
        → IsTooDeep (source_with plan directory) device (contents_at (source_with plan directory) device last) items
    deep_here items is =
        ⊎_elim
        (λ deep. inl deep)
        (λ path. inr (record { item = path.item; named = named_here (source_with plan directory) device last honest items path.item path.named; long = path.long }))
        is

    stopped_here : (items : List Item) (error : ExtractError)
        → IsStopped state may_fail (source_with plan directory) plan.most device (contents_since (source_with plan directory) device last) folder folder_now items error
        → IsStopped state may_fail (source_with plan directory) plan.most device (contents_at (source_with plan directory) device last) folder folder_now items error
    stopped_here items TooDeep is = (deep_here items is.0, is.1)
    stopped_here items TooLarge is =
        (record { item = is.0.item; next = next_here (source_with plan directory) device last honest items is.0.item is.0.next; large = is.0.large }, is.1)
    stopped_here items (Folder failure) is = record {
      item = is.item;
      next = next_here (source_with plan directory) device last honest items is.item is.next;
      failed = is.failed;
    }
    stopped_here items Memory is = is
    stopped_here items Check is = is
    stopped_here items Device is = is

    has_stopped : (error : ExtractError) → HasStoppedAt state may_fail (source_with plan directory) plan.most device last folder folder_now error
        → HasStopped state may_fail plan device last folder folder_now error
    has_stopped error is = record {
      directory = directory;
      described = described;
      items = is.items;
      are_items = items_here (source_with plan directory) device last honest is.items is.are_items;
      inside = is.inside;
      within = is.within;
      stopped = stopped_here is.items error is.stopped;
    }

    pub refusal : (error : ExtractError) → HasStoppedAt state may_fail (source_with plan directory) plan.most device last folder folder_now error
        → IsRefused state may_fail plan device last folder folder_now error
    refusal TooDeep is = has_stopped TooDeep is
    refusal TooLarge is = has_stopped TooLarge is
    refusal (Folder failure) is = has_stopped (Folder failure) is
    refusal Memory is = inr (has_stopped Memory is)
    refusal Check is = absurd is.stopped
    refusal Device is = absurd is.stopped
