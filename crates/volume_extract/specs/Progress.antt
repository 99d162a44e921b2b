-- How far a volume is extracted.
use Rattle.std.specs.Prelude.{◌≡◌, ◌<◌, ◌≤◌, ℕ, ◌+◌, List, [], ◌∷◌, ◌++◌, IsTrue, length, string_bytes}
use Rattle.std.specs.List.{All}
use Rattle.a2_device.specs.Device.{DeviceState}
use Rattle.vol_format.specs.Directory.{entries, entry_of}
use Rattle.file_cmds.specs.ReadingOn.{ReadsOn}
use Rattle.host_folders.specs.Folder.{FolderState}
use Rattle.host_folders.specs.Path.{IsSafePath}
use Rattle.host_folders.specs.declared.folder.FolderFailure.{FolderFailure}
use Rattle.volume_extract.specs.Counts.{AreCounted}
use Rattle.volume_extract.specs.ExtractText.{outcome_of, totals_of, totals_with}
use Rattle.volume_extract.specs.Extraction.{AreWithin, IsStopped}
use Rattle.volume_extract.specs.Items.{Contents, Found, Item, bytes_found, made_by}
use Rattle.volume_extract.specs.Keys.{keys_of}
use Rattle.volume_extract.specs.Kept.{AreKept, IsKept}
use Rattle.volume_extract.specs.Looked.{body_view}
use Rattle.volume_extract.specs.Made.{HasFailedCall, after_item, after_items}
use Rattle.volume_extract.specs.Source.{AreItemsAt, IsNextAt, IsTooDeep, Source, contents_since}
use Rattle.volume_extract.specs.declared.error.ExtractError.{ExtractError}
use Rattle.volume_extract.specs.declared.error.ExtractError.TheVariants.{Check, Device, Folder, Memory, TooDeep, TooLarge}
use Rattle.volume_extract.specs.declared.items.Next.{Next}
use Rattle.volume_extract.specs.declared.kept.Kept.{Kept}
use Rattle.volume_extract.specs.declared.names.Names.{Names}
use Rattle.volume_extract.specs.declared.totals.Totals.{Totals}

-- what is kept of an item that is ready to be made
abbrev pub kept_of : Next → Kept
kept_of next = record { head = next.head; outcome = outcome_of (body_view next.body) }

-- an item is ready to be made, behind these
pub record IsReady (source : Source) (items : List Item) (item : Item) (next : Next) : Type 0 where
  pub kept : IsKept source.form (source.own (entry_of source.directory (length items))) source.naming items
      (length items) item (kept_of next)
  pub host : string_bytes next.host ≡ item.host
  pub short : length item.host ≤ 1024
  pub body : body_view next.body ≡ item.found

-- an entry is ready, and its name is counted
pub record HasNext (source : Source) (device : DeviceState) (contents : Contents) (items : List Item) (names : Names)
    (next : Next) : Type 0 where
  pub item : Item
  pub is_next : IsNextAt source device contents items item
  pub ready : IsReady source items item next
  pub counted : AreCounted (keys_of source.naming (items ++ item ∷ [])) names

-- or why it isn't
abbrev pub HasNoNext : Source → DeviceState → Contents → List Item → ExtractError → Type 0
HasNoNext source device contents items TooDeep = IsTooDeep source device contents items
HasNoNext source device contents items Memory = Unit {0}
HasNoNext source device contents items TooLarge = ⊥
HasNoNext source device contents items (Folder failure) = ⊥
HasNoNext source device contents items Check = ⊥
HasNoNext source device contents items Device = ⊥

-- an item that was ready is made
pub record IsTaken (most : ℕ) (next : Next) (old new : List Kept) (totals totals_now : Totals)
    (folder folder_now : FolderState) : Type 0 where
  pub kept : new ≡ old ++ kept_of next ∷ []
  pub counts : totals_now ≡ totals_with totals (outcome_of (body_view next.body))
      (totals.bytes + bytes_found (body_view next.body))
  pub few : totals.bytes + bytes_found (body_view next.body) ≤ most
  pub made : IsTrue folder.honest → folder_now ≡ after_item (string_bytes next.host) (body_view next.body) folder

-- why an item was not made: a call of the folder failed, or there was no memory and no call was done
abbrev pub IsNotMadeOf : {O : Type 0} → (O → FolderState) → (O → FolderFailure → Type 0) → List ℕ → Found → O
    → FolderState → ExtractError → Type 0
IsNotMadeOf state may_fail host found folder folder_now (Folder failure) =
    HasFailedCall state may_fail (made_by host found) (state folder) folder_now failure
IsNotMadeOf state may_fail host found folder folder_now Memory = folder_now ≡ state folder
IsNotMadeOf state may_fail host found folder folder_now TooDeep = ⊥
IsNotMadeOf state may_fail host found folder folder_now TooLarge = ⊥
IsNotMadeOf state may_fail host found folder folder_now Check = ⊥
IsNotMadeOf state may_fail host found folder folder_now Device = ⊥

-- or why it isn't
abbrev pub IsNotTaken : {O : Type 0} → (O → FolderState) → (O → FolderFailure → Type 0) → ℕ → Next → Totals → O
    → FolderState → ExtractError → Type 0
IsNotTaken state may_fail most next totals folder folder_now TooLarge =
    (most < totals.bytes + bytes_found (body_view next.body)) × (folder_now ≡ state folder)
IsNotTaken state may_fail most next totals folder folder_now (Folder failure) =
    HasFailedCall state may_fail (made_by (string_bytes next.host) (body_view next.body))
    (state folder) folder_now failure
IsNotTaken state may_fail most next totals folder folder_now Memory = folder_now ≡ state folder
IsNotTaken state may_fail most next totals folder folder_now TooDeep = ⊥
IsNotTaken state may_fail most next totals folder folder_now Check = ⊥
IsNotTaken state may_fail most next totals folder folder_now Device = ⊥

-- These items of the first entries were made.
pub record IsExtracting (source : Source) (most : ℕ) (device device_now : DeviceState) (folder folder_now : FolderState)
    (items : List Item) (kept : List Kept) (totals : Totals) (names : Names) : Type 0 where
  pub reads : ReadsOn device device_now
  pub are_items : AreItemsAt source device (contents_since source device device_now) items
  pub are_kept : AreKept source.form source.own source.directory source.naming items kept
  pub counts : totals ≡ totals_of items
  pub counted : AreCounted (keys_of source.naming items) names
  pub safe : All (λ (item : Item). IsSafePath item.host) items
  pub within : AreWithin most items
  pub honest : folder_now.honest ≡ folder.honest
  pub made : IsTrue folder.honest → folder_now ≡ after_items items folder

-- one more was made
abbrev pub HasOneMore : Source → ℕ → DeviceState → DeviceState → FolderState → FolderState → List Item → List Kept
    → Totals → Names → Type 0
HasOneMore source most device device_now folder folder_now items kept totals names =
    (item : Item) × IsExtracting source most device device_now folder folder_now (items ++ item ∷ []) kept totals names

-- all items were made
pub record IsDone (source : Source) (most : ℕ) (device device_now : DeviceState) (folder folder_now : FolderState)
    (Tells : List Item → Type 0) : Type 0 where
  pub items : List Item
  pub are_items : AreItemsAt source device (contents_since source device device_now) items
  pub all : length items ≡ entries source.directory
  pub within : AreWithin most items
  pub made : IsTrue folder.honest → folder_now ≡ after_items items folder
  pub tells : Tells items

-- the first ones were made, and behind them it stopped
pub record HasStoppedAt {O : Type 0} (state : O → FolderState) (may_fail : O → FolderFailure → Type 0) (source : Source)
    (most : ℕ) (device device_now : DeviceState) (folder folder_now : FolderState) (error : ExtractError) : Type 0 where
  pub items : List Item
  pub are_items : AreItemsAt source device (contents_since source device device_now) items
  pub inside : length items ≤ entries source.directory
  pub within : AreWithin most items
  pub stopped : IsStopped state may_fail source most device (contents_since source device device_now) folder
      folder_now items error
