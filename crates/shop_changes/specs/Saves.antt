-- A new file: its writes, what they leave, and why it is not saved.
use Rattle.std.specs.Prelude.{ℕ, List, length}
use Rattle.vol_format.specs.Accepted.{IsVolume}
use Rattle.vol_format.specs.Meaning.{Meaning}
use Rattle.vol_laws.specs.Writes.{Write}
use Rattle.edit_formats.specs.Saves.{SaveMeaning}
use Rattle.edit_formats.specs.declared.target.Attributes.{Attributes}
use Rattle.file_edits.specs.Saved.{HasFewPlaces, HasFullDirectory, HasNameInUse, HasNoDirectory, HasNoName, HasSaved, IsOldOrSaved, IsSaveEdit, IsTooLong}
use Rattle.shop_changes.specs.GivenFile.{GivenView, content, stored_units, unit_bytes}
use Rattle.shop_replies.specs.declared.refusal.Refusal.{Refusal}
use Rattle.shop_replies.specs.declared.refusal.Refusal.TheVariants as refusals

-- what its owner says of a file, and how many bytes it has
abbrev pub attributes_of : GivenView → Attributes
attributes_of given = record { kind = given.kind; aux = given.aux; eof = length given.bytes; date = given.date }

-- the file is saved under this path, with its head and all of its bytes, by these writes
abbrev pub AreSaveWrites : List ℕ → GivenView → SaveMeaning → Meaning → List (List ℕ) → List Write → Type 0
AreSaveWrites path given saves format store =
    IsSaveEdit format saves store path (attributes_of given) (stored_units format.unit_size (content given))
    (unit_bytes format.unit_size (content given))

-- the volume has the files of before and this one
abbrev pub HasGivenSaved : List ℕ → GivenView → SaveMeaning → Meaning → List (List ℕ) → List (List ℕ) → Type 0
HasGivenSaved path given saves format =
    HasSaved format saves path (attributes_of given) (stored_units format.unit_size (content given))
    (unit_bytes format.unit_size (content given))

-- the same store, or one with the files of before, or one with this file too
abbrev pub IsOldOrGivenSaved : List ℕ → GivenView → SaveMeaning → Meaning → List (List ℕ) → List (List ℕ) → Type 0
IsOldOrGivenSaved path given saves format old new =
    IsOldOrSaved format saves path (attributes_of given) (stored_units format.unit_size (content given))
    (unit_bytes format.unit_size (content given)) old new

-- Why a file is not saved: the volume is not accepted; it has no such directory; no file can have the name, or an entry
-- of the directory has it; the file is longer than a file can be; the directory has no free entry, or too few places
-- are free. Nothing else is told as refused.
abbrev pub IsSaveCause : Refusal → List ℕ → GivenView → SaveMeaning → Meaning → List (List ℕ) → Type 0
IsSaveCause refusals.Check path given saves format store = ¬ IsVolume format store
IsSaveCause refusals.NotFound path given saves format store = HasNoDirectory format saves store path
IsSaveCause refusals.Name path given saves format store = HasNoName format saves store path
IsSaveCause refusals.Exists path given saves format store = HasNameInUse format saves store path
IsSaveCause refusals.TooLong path given saves format store =
    IsTooLong format saves store path (attributes_of given) (stored_units format.unit_size (content given))
IsSaveCause refusals.DirFull path given saves format store =
    HasFullDirectory format saves store path (attributes_of given) (stored_units format.unit_size (content given))
IsSaveCause refusals.VolumeFull path given saves format store =
    HasFewPlaces format saves store path (attributes_of given) (stored_units format.unit_size (content given))
IsSaveCause refusal path given saves format store = ⊥
