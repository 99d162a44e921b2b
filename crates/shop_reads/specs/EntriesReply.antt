-- What is told of a volume whose entries are told as data.
use Rattle.std.specs.Prelude.{◌≡◌, ◌⊎◌, ◌<◌, ◌≤◌, ◌+◌, ◌*◌, ◌||◌, ◌&&◌, not, ℕ, Bool, true, false, List, Option, Some, None, Contains, length, sum_by, slice_index_or, if◌then◌else◌}
use Rattle.std.specs.declared.alloc.Global.{Global}
use Rattle.std.specs.declared.vec.Vec.{Vec}
use Rattle.sha2.specs.Sha256.{sha256}
use Rattle.a2_device.specs.Device.{DeviceState}
use Rattle.a2_device.specs.declared.part.Part.{Part}
use Rattle.vol_layout.specs.declared.form.PlaceForm.{PlaceForm}
use Rattle.vol_format.specs.Directory.{Directory, entries, entry_of, is_directory}
use Rattle.vol_format.specs.Meaning.{Meaning}
use Rattle.vol_format.specs.Reach.{Reach}
use Rattle.file_formats.specs.DosFiles.{number_at}
use Rattle.file_formats.specs.Files.{FileMeaning}
use Rattle.file_formats.specs.Listing.{HasHeaderFault}
use Rattle.file_cmds.specs.FileParts.{IsPartsAlone}
use Rattle.file_cmds.specs.Text.{IsEntryText, IsWholeTextOf}
use Rattle.row_text.specs.declared.row.Digested.{Digested}
use Rattle.row_text.specs.declared.row.Digested.TheVariants.{Untold, Missing, Of}
use Rattle.file_listings.specs.Known.{FileFacts, FileParts, no_facts}
use Rattle.file_listings.specs.Known as known
use Rattle.file_listings.specs.declared.facts.Facts.{Facts}
use Rattle.file_listings.specs.declared.style.EntryStyle.{EntryStyle}
use Rattle.file_listings.specs.declared.style.EntryStyle.TheVariants as styles
use Rattle.file_listings.specs.declared.style.Style.TheVariants.{Entries}
use Rattle.shop_jobs.specs.declared.looks.ListForm.{ListForm}
use Rattle.shop_jobs.specs.declared.looks.ListForm.TheVariants as forms
use Rattle.shop_jobs.specs.declared.looks.ListOptions.{ListOptions}
use Rattle.shop_replies.specs.declared.refusal.Refusal.TheVariants as refusals
use Rattle.shop_replies.specs.declared.refusal.Failure.TheVariants as failures
use Rattle.shop_replies.specs.declared.reply.Reply.{Reply}
use Rattle.shop_replies.specs.declared.reply.Status.{Status}
use Rattle.shop_replies.specs.declared.reply.Status.TheVariants.{Done, Wrong}
use Rattle.shop_replies.specs.Reply.{failed, refused}
use Rattle.shop_replies.specs.Volume.{LacksUnit}
use Rattle.file_cmds.specs.Address.{is_binary}
use Rattle.volume_compare.specs.Contents.{IsUnread, SeenVolume, volume_in}
use Rattle.shop_reads.specs.CatalogReply.{TellsListing}

-- ---- what is wanted

abbrev pub is_names : ListForm → Bool
is_names forms.Names = true
is_names form = false

abbrev pub is_json : ListForm → Bool
is_json forms.Json = true
is_json form = false

-- places are told in JSON alone
abbrev pub wants_places : ListOptions → Bool
wants_places options = options.places && is_json options.form

-- files are read, for their digests, their addresses or their places
abbrev pub reads_files : ListOptions → Bool
reads_files options = options.digests || not (is_names options.form)

-- how entries are told that are asked for so
abbrev pub names_style : Bool → EntryStyle
names_style digests = if digests then styles.Sums else styles.Names

abbrev pub style_in : ListForm → Bool → EntryStyle
style_in forms.Names digests = names_style digests
style_in forms.Json digests = styles.Json
style_in forms.Csv digests = styles.Csv digests

abbrev pub style_of : ListOptions → EntryStyle
style_of options = style_in options.form options.digests

-- ---- what is known of a file

abbrev pub wants_address : SeenVolume → ListOptions → ℕ → Bool
wants_address volume options file =
    not (is_names options.form) && is_binary volume.form
    (volume.files.shown {A = Global} (entry_of volume.directory file))

-- the first two bytes of the whole text, where this can be read
abbrev pub IsAddress : SeenVolume → (ℕ → Type 0) → ℕ → Option ℕ → Type 0
IsAddress volume failed file (Some address) =
    (text : List ℕ) × IsWholeTextOf volume.meaning volume.directory volume.store file text
    × (address ≡ number_at text 0)
IsAddress volume failed file None = IsUnread volume failed file

-- how many bytes the text has, and their SHA-256; a directory has none, nor what can't be read
abbrev pub IsDigest : SeenVolume → (ℕ → Type 0) → ℕ → Digested → Type 0
IsDigest volume failed file (Of digest) =
    (is_directory (entry_of volume.directory file) ≡ false)
    × (text : List ℕ) × IsEntryText volume.meaning volume.files volume.directory volume.store file false text
    × (digest.count ≡ length text) × (digest.sha256 ≡ sha256 text)
IsDigest volume failed file Missing =
    (is_directory (entry_of volume.directory file) ≡ true) ⊎ IsUnread volume failed file
IsDigest volume failed file Untold = ⊥

-- the parts of the file, in order; a directory has none, nor a file with a fault of its own, or of which a list or an
-- index can't be read
abbrev pub AreParts : SeenVolume → (ℕ → Type 0) → ℕ → FileParts → Type 0
AreParts volume failed file (known.Of parts) =
    (is_directory (entry_of volume.directory file) ≡ false)
    × IsPartsAlone volume.meaning volume.directory volume.store file parts
AreParts volume failed file known.Missing =
    (is_directory (entry_of volume.directory file) ≡ true) ⊎ IsUnread volume failed file
AreParts volume failed file known.Untold = ⊥

abbrev pub AddressIs : Bool → SeenVolume → (ℕ → Type 0) → ℕ → Option ℕ → Type 0
AddressIs true volume failed file address = IsAddress volume failed file address
AddressIs false volume failed file address = address ≡ None

abbrev pub DigestIs : Bool → SeenVolume → (ℕ → Type 0) → ℕ → Digested → Type 0
DigestIs true volume failed file digest = IsDigest volume failed file digest
DigestIs false volume failed file digest = digest ≡ Untold

abbrev pub PartsAre : Bool → SeenVolume → (ℕ → Type 0) → ℕ → FileParts → Type 0
PartsAre true volume failed file parts = AreParts volume failed file parts
PartsAre false volume failed file parts = parts ≡ known.Untold

-- nothing of a file is wanted beside its entry
pub record WantsNothing (volume : SeenVolume) (options : ListOptions) (file : ℕ) : Type 0 where
  pub address : wants_address volume options file ≡ false
  pub digest : options.digests ≡ false
  pub places : wants_places options ≡ false

-- what is told of the text of a file, where it is wanted
pub record AreTextFacts (volume : SeenVolume) (options : ListOptions) (failed : ℕ → Type 0) (file : ℕ)
    (facts : Facts) : Type 0 where
  pub address : AddressIs (wants_address volume options file) volume failed file facts.address
  pub digest : DigestIs options.digests volume failed file facts.digest

-- what is told of a file beside its entry, where it is wanted
pub record AreFacts (volume : SeenVolume) (options : ListOptions) (failed : ℕ → Type 0) (file : ℕ)
    (facts : FileFacts) : Type 0 where
  pub address : AddressIs (wants_address volume options file) volume failed file facts.address
  pub digest : DigestIs options.digests volume failed file facts.digest
  pub parts : PartsAre (wants_places options) volume failed file facts.parts

-- those of the files of the first entries
pub record AreFactsUpTo (volume : SeenVolume) (options : ListOptions) (failed : ℕ → Type 0) (many : ℕ)
    (facts : List FileFacts) : Type 0 where
  pub within : many ≤ entries volume.directory
  pub each : (file : ℕ) → file < many → AreFacts volume options failed file (slice_index_or facts file no_facts)

-- ---- what is made of the texts of a file

-- whether its address and its digest are wanted
abbrev pub wants_digest : SeenVolume → ListOptions → ℕ → Bool
wants_digest volume options file = options.digests && not (is_directory (entry_of volume.directory file))

abbrev pub digest_by : List ℕ → Digested
digest_by text = Of (record { count = length text; sha256 = sha256 text })

-- that of a file that is not read
abbrev pub no_digest : Bool → Digested
no_digest digests = if digests then Missing else Untold

abbrev pub unread_facts : Bool → Facts
unread_facts digests = record { address = None; digest = no_digest digests }

-- the parts that were found of a file, or none
abbrev pub parts_found : Bool → Option (Vec Part Global) → FileParts
parts_found false parts = known.Untold
parts_found true None = known.Missing
parts_found true (Some parts) = known.Of parts.items

-- ---- how many bytes were read, and whether each file was

abbrev pub bytes_of : Digested → ℕ
bytes_of (Of digest) = digest.count
bytes_of Missing = 0
bytes_of Untold = 0

-- the units of the parts that are told, of so many bytes each
abbrev pub bytes_of_parts : ℕ → FileParts → ℕ
bytes_of_parts unit_size (known.Of parts) = length parts * unit_size
bytes_of_parts unit_size known.Missing = 0
bytes_of_parts unit_size known.Untold = 0

abbrev pub bytes_told : ℕ → FileFacts → ℕ
bytes_told unit_size facts = bytes_of facts.digest + bytes_of_parts unit_size facts.parts

abbrev pub bytes_read : ℕ → List FileFacts → ℕ
bytes_read unit_size facts = sum_by (bytes_told unit_size) facts

abbrev pub is_missing : Digested → Bool
is_missing Missing = true
is_missing digest = false

-- a file has no digest
abbrev pub lacks_digest : Directory → List FileFacts → ℕ → Bool
lacks_digest directory facts file =
    not (is_directory (entry_of directory file)) && is_missing (slice_index_or facts file no_facts).digest

-- whether each of the first files has a digest, where digests are told
abbrev pub IsCompleteUpTo : Directory → List FileFacts → ℕ → Bool → Type 0
IsCompleteUpTo directory facts many true = (file : ℕ) → file < many → lacks_digest directory facts file ≡ false
IsCompleteUpTo directory facts many false = (file : ℕ) × (file < many) × (lacks_digest directory facts file ≡ true)

-- a job that told a file without a digest has found something wrong
abbrev pub list_status : Bool → Status
list_status complete = if complete then Done else Wrong

-- the files of the first entries, and the units of their parts that are told, have more bytes than they may
pub record ReadTooMuch (volume : SeenVolume) (options : ListOptions) (failed : ℕ → Type 0) : Type 0 where
  pub facts : List FileFacts
  pub are : AreFactsUpTo volume options failed (length facts) facts
  pub many : options.most < bytes_read volume.meaning.unit_size facts

-- ---- the reply

-- A unit of the file could not be read: where no failure is to come it is one that can't be, and else some unit of the
-- device can't be.
pub record LacksUnitOf (format : Meaning) (directory : Directory) (device : DeviceState) (file : ℕ) : Type 0 where
  pub part : Part
  pub reached : Reach format directory device.store part
  pub in_file : part.file ≡ file
  pub lacks : LacksUnit device
  pub unreadable : device.read_failures ≡ Some 0 → Contains device.unreadable part.place

-- the entries of what the header, the directory and the map of the volume say, with what is known of each file
pub record IsEntriesReply (options : ListOptions) (form : PlaceForm) (files : FileMeaning) (format : Meaning)
    (device : DeviceState) (reply : Reply) : Type 0 where
  pub directory : Directory
  pub described : format.Describes device.store directory
  pub facts : List FileFacts
  pub are : AreFactsUpTo (volume_in form files format directory device.store) options
      (LacksUnitOf format directory device) (entries directory) facts
  pub few : bytes_read format.unit_size facts ≤ options.most
  pub complete : Bool
  pub ended : IsCompleteUpTo directory facts (entries directory) complete
  pub told : TellsListing (list_status complete) (Entries (style_of options)) form directory facts reply

-- the files of what they say have more bytes than they may
pub record IsTooLarge (options : ListOptions) (form : PlaceForm) (files : FileMeaning) (format : Meaning)
    (device : DeviceState) : Type 0 where
  pub directory : Directory
  pub described : format.Describes device.store directory
  pub read : ReadTooMuch (volume_in form files format directory device.store) options
      (LacksUnitOf format directory device)

-- The reply to `list`: the entries; `Check` where the header, the directory or the map's pointer has a fault;
-- `TooLarge` where the files that are read have too many bytes; a failure where a unit of these can't be read; or want
-- of memory.
abbrev pub IsEntriesTold : ListOptions → PlaceForm → FileMeaning → Meaning → DeviceState → Reply → Type 0
IsEntriesTold options form files format device reply =
    IsEntriesReply options form files format device reply
    ⊎ ((reply ≡ refused refusals.Check) × HasHeaderFault format device.store)
    ⊎ ((reply ≡ refused refusals.TooLarge) × IsTooLarge options form files format device)
    ⊎ ((reply ≡ failed failures.Device) × LacksUnit device)
    ⊎ (reply ≡ failed failures.Memory)
