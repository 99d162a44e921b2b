-- The rows of a listing as values of JSON: an object for the volume, and one for each entry.
use Rattle.std.specs.Prelude.{ℕ, Bool, List, [], ◌∷◌, Option, Some, None, map, codes, decimal}
use Rattle.serde_json.specs.Data.{Data, unsigned, null, boolean, number, string, array, object, Items, no_items, item, Members, no_members, member}
use Rattle.row_text.specs.Shown.{Text, shown, lower_hex, upper_hex}
use Rattle.row_text.specs.Places.{PlacesView, places_view}
use Rattle.row_text.specs.Places as places
use Rattle.row_text.specs.declared.row.Digested.{Digested}
use Rattle.row_text.specs.declared.row.Digested.TheVariants.{Untold, Missing, Of}
use Rattle.row_text.specs.declared.row.Row.{Row}
use Rattle.row_text.specs.declared.volume.FileSystem.{FileSystem}
use Rattle.row_text.specs.declared.volume.FileSystem.TheVariants.{Dos, Prodos}
use Rattle.row_text.specs.declared.volume.VolumeName.{VolumeName}
use Rattle.row_text.specs.declared.volume.VolumeName.TheVariants.{Number, Name}
use Rattle.row_text.specs.declared.volume.JsonVolume.{JsonVolume}

-- what is told of an entry, with lists in the place of slices
pub record RowView : Type 0 where
  pub access : Option ℕ
  pub aux : Option ℕ
  pub created : Option (List ℕ)
  pub directory : Bool
  pub eof : Option ℕ
  pub kind : ℕ
  pub locked : Bool
  pub modified : Option (List ℕ)
  pub path : List ℕ
  pub size : ℕ
  pub stored : List ℕ
  pub type_word : List ℕ
  pub digest : Digested
  pub places : PlacesView

abbrev pub row_view : Row → RowView
row_view r = record {
  access = r.access;
  aux = r.aux;
  created = r.created;
  directory = r.directory;
  eof = r.eof;
  kind = r.kind;
  locked = r.locked;
  modified = r.modified;
  path = r.path.now;
  size = r.size;
  stored = r.stored.now;
  type_word = r.type_word.now;
  digest = r.digest;
  places = places_view r.places;
}

-- ---- values

abbrev pub number_value : ℕ → Data
number_value n = number (unsigned n)

abbrev pub number_or_null : Option ℕ → Data
number_or_null None = null
number_or_null (Some n) = number_value n

-- a text as it is shown
abbrev pub text_value : List ℕ → Data
text_value bytes = string (map shown bytes)

abbrev pub text_or_null : Option (List ℕ) → Data
text_or_null None = null
text_or_null (Some bytes) = text_value bytes

-- texts, as a list of strings
abbrev pub texts_items : List Text → Items
texts_items [] = no_items
texts_items (text ∷ texts) = item (string text) (texts_items texts)

abbrev pub texts_value : List Text → Data
texts_value texts = array (texts_items texts)

-- ---- an entry: its members, in rising order of their keys, and for each key those from it on

abbrev pub size_on : RowView → Members
size_on r = member (codes "size") (number_value r.size)
    (member (codes "stored") (string (upper_hex r.stored))
    (member (codes "type") (text_value r.type_word) no_members))

-- where digests are told, the SHA-256, or null of an entry that has none
abbrev pub with_sha256 : Digested → Members → Members
with_sha256 Untold more = more
with_sha256 Missing more = member (codes "sha256") null more
with_sha256 (Of digest) more = member (codes "sha256") (string (lower_hex digest.sha256)) more

abbrev pub sha256_on : RowView → Members
sha256_on r = with_sha256 r.digest (size_on r)

abbrev pub path_on : RowView → Members
path_on r = member (codes "path") (text_value r.path) (sha256_on r)

-- where places are told, the parts of the file, or null of an entry whose parts are not known
abbrev pub with_parts : PlacesView → Members → Members
with_parts places.Untold more = more
with_parts places.Missing more = member (codes "parts") null more
with_parts (places.Of texts) more = member (codes "parts") (texts_value texts) more

abbrev pub parts_on : RowView → Members
parts_on r = with_parts r.places (path_on r)

abbrev pub kind_on : RowView → Members
kind_on r = member (codes "kind") (number_value r.kind)
    (member (codes "locked") (boolean r.locked)
    (member (codes "modified") (text_or_null r.modified) (parts_on r)))

abbrev pub directory_on : RowView → Members
directory_on r = member (codes "directory") (boolean r.directory)
    (member (codes "eof") (number_or_null r.eof) (kind_on r))

abbrev pub created_on : RowView → Members
created_on r = member (codes "created") (text_or_null r.created) (directory_on r)

-- where digests are told, how many bytes the file has
abbrev pub with_bytes : Digested → Members → Members
with_bytes Untold more = more
with_bytes Missing more = member (codes "bytes") null more
with_bytes (Of digest) more = member (codes "bytes") (number_value digest.count) more

abbrev pub bytes_on : RowView → Members
bytes_on r = with_bytes r.digest (created_on r)

abbrev pub row_members : RowView → Members
row_members r = member (codes "access") (number_or_null r.access)
    (member (codes "aux") (number_or_null r.aux) (bytes_on r))

abbrev pub row_data : RowView → Data
row_data r = object (row_members r)

-- ---- the volume

-- what is told of a volume, with its number or its name as a text
pub record VolumeView : Type 0 where
  pub entries : ℕ
  pub free : ℕ
  pub file_system : FileSystem
  pub places : ℕ
  pub volume : Text

abbrev pub system_word : FileSystem → Text
system_word Dos = codes "dos"
system_word Prodos = codes "prodos"

-- a number in decimal, or a name as it is shown
abbrev pub volume_text : VolumeName → Text
volume_text (Number n) = decimal n
volume_text (Name bytes) = map shown bytes.now

abbrev pub volume_view : JsonVolume → VolumeView
volume_view v = record {
  entries = v.entries;
  free = v.free;
  file_system = v.file_system;
  places = v.places;
  volume = volume_text v.volume;
}

abbrev pub volume_members : VolumeView → Members
volume_members v = member (codes "entries") (number_value v.entries)
    (member (codes "free") (number_value v.free)
    (member (codes "fs") (string (system_word v.file_system))
    (member (codes "places") (number_value v.places)
    (member (codes "volume") (string v.volume) no_members))))

abbrev pub volume_data : VolumeView → Data
volume_data v = object (volume_members v)
