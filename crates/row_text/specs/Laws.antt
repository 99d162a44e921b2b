-- What the laws on lines speak of.
use Rattle.std.specs.Prelude.{◌≡◌, ℕ, ◌^◌, ◌<◌, ◌≤◌, ⊤, List, Option, Some, None, map, option_map, slice_index}
use Rattle.std.specs.List.{All}
use Rattle.serde_json.specs.Data.{Data}
use Rattle.serde_json.specs.Read.{read}
use Rattle.serde_json.specs.Written.{compact_text}
use Rattle.row_text.specs.Shown.{Text, shown}
use Rattle.row_text.specs.Row.{RowView, VolumeView}
use Rattle.row_text.specs.declared.row.Digested.{Digested}
use Rattle.row_text.specs.declared.row.Digested.TheVariants.{Untold, Missing, Of}

-- the text of the value reads as the value
abbrev pub ReadsBack : Data → Type 0
ReadsBack d = read (compact_text d) ≡ Some d

-- no character of the text is a control character, and so none ends a line
abbrev pub IsOneLine : Text → Type 0
IsOneLine text = All (λ x. 32 ≤ x) text

-- the number fits 64 bits, where there is one
abbrev pub FitsIfTold : Option ℕ → Type 0
FitsIfTold None = ⊤
FitsIfTold (Some n) = n < 2 ^ 64

abbrev pub CountFits : Digested → Type 0
CountFits Untold = ⊤
CountFits Missing = ⊤
CountFits (Of digest) = digest.count < 2 ^ 64

-- each number of the row fits 64 bits
pub record RowFits (r : RowView) : Type 0 where
  pub access : FitsIfTold r.access
  pub aux : FitsIfTold r.aux
  pub eof : FitsIfTold r.eof
  pub kind : r.kind < 2 ^ 64
  pub size : r.size < 2 ^ 64
  pub digest : CountFits r.digest

pub record VolumeFits (v : VolumeView) : Type 0 where
  pub entries : v.entries < 2 ^ 64
  pub free : v.free < 2 ^ 64
  pub places : v.places < 2 ^ 64

abbrev pub AreBytes : List ℕ → Type 0
AreBytes bytes = (i : ℕ) → slice_index bytes i < 256

abbrev pub DigestHasBytes : Digested → Type 0
DigestHasBytes Untold = ⊤
DigestHasBytes Missing = ⊤
DigestHasBytes (Of digest) = AreBytes digest.sha256

-- what a row has in hexadecimal digits is bytes
pub record HasBytes (r : RowView) : Type 0 where
  pub stored : AreBytes r.stored
  pub digest : DigestHasBytes r.digest

-- The rows are the same but for how a text is shown: stored texts that differ may be shown alike.
pub record AreAlike (r s : RowView) : Type 0 where
  pub access : r.access ≡ s.access
  pub aux : r.aux ≡ s.aux
  pub created : option_map (map shown) r.created ≡ option_map (map shown) s.created
  pub directory : r.directory ≡ s.directory
  pub eof : r.eof ≡ s.eof
  pub kind : r.kind ≡ s.kind
  pub locked : r.locked ≡ s.locked
  pub modified : option_map (map shown) r.modified ≡ option_map (map shown) s.modified
  pub path : map shown r.path ≡ map shown s.path
  pub size : r.size ≡ s.size
  pub stored : r.stored ≡ s.stored
  pub type_word : map shown r.type_word ≡ map shown s.type_word
  pub digest : r.digest ≡ s.digest
  pub places : r.places ≡ s.places
