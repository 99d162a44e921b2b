-- What an extraction of a volume is, and why a volume is not extracted.
use Rattle.std.specs.Prelude.{◌≡◌, ◌⊎◌, ◌<◌, ◌≤◌, ℕ, ◌+◌, List, IsTrue, length}
use Rattle.std.specs.List.{All}
use Rattle.a2_device.specs.Device.{DeviceState}
use Rattle.vol_format.specs.Directory.{Directory, Listed, entries}
use Rattle.vol_format.specs.Meaning.{Meaning}
use Rattle.vol_layout.specs.declared.form.PlaceForm.{PlaceForm}
use Rattle.file_formats.specs.Files.{FileMeaning}
use Rattle.file_formats.specs.Listing.{HasHeaderFault}
use Rattle.file_cmds.specs.ReadingOn.{FailedBetween}
use Rattle.host_folders.specs.Folder.{FolderState}
use Rattle.host_folders.specs.declared.entry.Naming.{Naming}
use Rattle.host_folders.specs.declared.folder.FolderFailure.{FolderFailure}
use Rattle.volume_extract.specs.Items.{Contents, Item, bytes_in, bytes_of, made_of}
use Rattle.volume_extract.specs.Made.{HasFailedCall, after_items}
use Rattle.volume_extract.specs.Source.{AreItemsAt, IsNextAt, IsTooDeep, Source, contents_at, source_of}
use Rattle.volume_extract.specs.Texts.{texts_for}
use Rattle.volume_extract.specs.declared.error.ExtractError.{ExtractError}
use Rattle.volume_extract.specs.declared.error.ExtractError.TheVariants.{Check, Device, Folder, Memory, TooDeep, TooLarge}
use Rattle.volume_extract.specs.declared.texts.Options.{Options}
use Rattle.volume_extract.specs.declared.texts.Texts.{Texts}

-- How a volume is extracted, whatever its directory is: what its places are called, how its entries are named, what
-- becomes of readable forms, what its files are, what its units mean, which own name an entry's bytes say, and how many
-- bytes may be put into the folder.
pub record Plan : Type 1 where
  pub form : PlaceForm
  pub naming : Naming
  pub texts : Texts
  pub files : FileMeaning
  pub meaning : Meaning
  pub own : Listed → List ℕ
  pub most : ℕ

abbrev pub plan_of : PlaceForm → Options → FileMeaning → Meaning → (Listed → List ℕ) → Plan
plan_of form options files meaning own = record {
  form = form;
  naming = options.naming;
  texts = texts_for options.naming options.texts;
  files = files;
  meaning = meaning;
  own = own;
  most = options.most;
}

abbrev pub source_with : Plan → Directory → Source
source_with plan directory = source_of plan.form plan.naming plan.texts plan.files plan.meaning plan.own directory

-- no item is too deep, and what is made of them has no more bytes than it may
pub record AreWithin (most : ℕ) (items : List Item) : Type 0 where
  pub shallow : All (λ (item : Item). item.depth ≤ 64) items
  pub short : All (λ (item : Item). length item.host ≤ 1024) items
  pub few : bytes_in items ≤ most

-- The items of all entries of the directory that a store describes; of an honest folder it is known that just they were
-- made in it, in order. `Tells` says what is told.
pub record IsExtraction (plan : Plan) (device device_now : DeviceState) (folder folder_now : FolderState)
    (Tells : List Item → Type 0) : Type 0 where
  pub directory : Directory
  pub described : plan.meaning.Describes device.store directory
  pub items : List Item
  pub are_items : AreItemsAt (source_with plan directory) device
      (contents_at (source_with plan directory) device device_now) items
  pub all : length items ≡ entries directory
  pub within : AreWithin plan.most items
  pub made : IsTrue folder.honest → folder_now ≡ after_items items folder
  pub tells : Tells items

-- ---- refusals

-- behind these items comes one with which all that is made has too many bytes
pub record IsTooLarge (source : Source) (device : DeviceState) (contents : Contents) (most : ℕ)
    (items : List Item) : Type 0 where
  pub item : Item
  pub next : IsNextAt source device contents items item
  pub large : most < bytes_in items + bytes_of item

-- Behind these items comes one of which the folder refused a call, as it may; of a file a front of its bytes may have
-- been made.
pub record IsNotMade {O : Type 0} (state : O → FolderState) (may_fail : O → FolderFailure → Type 0) (source : Source)
    (device : DeviceState) (contents : Contents) (folder folder_now : FolderState) (items : List Item)
    (failure : FolderFailure) : Type 0 where
  pub item : Item
  pub next : IsNextAt source device contents items item
  pub failed : HasFailedCall state may_fail (made_of item) (after_items items folder) folder_now failure

-- just these items were made
abbrev pub AreMade : FolderState → FolderState → List Item → Type 0
AreMade folder folder_now items = IsTrue folder.honest → folder_now ≡ after_items items folder

-- why the entry behind these items is none of them
abbrev pub IsStopped : {O : Type 0} → (O → FolderState) → (O → FolderFailure → Type 0) → Source → ℕ → DeviceState
    → Contents → FolderState → FolderState → List Item → ExtractError → Type 0
IsStopped state may_fail source most device contents folder folder_now items TooDeep =
    IsTooDeep source device contents items × AreMade folder folder_now items
IsStopped state may_fail source most device contents folder folder_now items TooLarge =
    IsTooLarge source device contents most items × AreMade folder folder_now items
IsStopped state may_fail source most device contents folder folder_now items (Folder failure) =
    IsNotMade state may_fail source device contents folder folder_now items failure
IsStopped state may_fail source most device contents folder folder_now items Memory = AreMade folder folder_now items
IsStopped state may_fail source most device contents folder folder_now items Check = ⊥
IsStopped state may_fail source most device contents folder folder_now items Device = ⊥

-- Among the entries of the directory that a store describes there are first ones, of which none is too deep, and whose
-- files have no more bytes than they may; behind them it stopped.
pub record HasStopped {O : Type 0} (state : O → FolderState) (may_fail : O → FolderFailure → Type 0) (plan : Plan)
    (device device_now : DeviceState) (folder folder_now : FolderState) (error : ExtractError) : Type 0 where
  pub directory : Directory
  pub described : plan.meaning.Describes device.store directory
  pub items : List Item
  pub are_items : AreItemsAt (source_with plan directory) device
      (contents_at (source_with plan directory) device device_now) items
  pub inside : length items ≤ entries directory
  pub within : AreWithin plan.most items
  pub stopped : IsStopped state may_fail (source_with plan directory) plan.most device
      (contents_at (source_with plan directory) device device_now)
      folder folder_now items error

-- nothing was made
abbrev pub NothingIsMade : FolderState → FolderState → Type 0
NothingIsMade folder folder_now = IsTrue folder.honest → folder_now ≡ folder

-- Why a volume is not extracted, and what was made then in an honest folder.
abbrev pub IsRefused : {O : Type 0} → (O → FolderState) → (O → FolderFailure → Type 0) → Plan → DeviceState
    → DeviceState → FolderState → FolderState → ExtractError → Type 0
IsRefused state may_fail plan device device_now folder folder_now Check =
    HasHeaderFault plan.meaning device.store × NothingIsMade folder folder_now
IsRefused state may_fail plan device device_now folder folder_now Device =
    FailedBetween device device_now × NothingIsMade folder folder_now
IsRefused state may_fail plan device device_now folder folder_now Memory =
    NothingIsMade folder folder_now ⊎ HasStopped state may_fail plan device device_now folder folder_now Memory
IsRefused state may_fail plan device device_now folder folder_now TooDeep =
    HasStopped state may_fail plan device device_now folder folder_now TooDeep
IsRefused state may_fail plan device device_now folder folder_now TooLarge =
    HasStopped state may_fail plan device device_now folder folder_now TooLarge
IsRefused state may_fail plan device device_now folder folder_now (Folder failure) =
    HasStopped state may_fail plan device device_now folder folder_now (Folder failure)
