-- What is known of the files of a volume beside its entries.
use Rattle.std.specs.Prelude.{◌≡◌, ◌≤◌, ◌-◌, ℕ, zero, suc, Bool, true, false, List, [], ◌∷◌, ◌++◌, Option, Some, None, map, take, drop, length, slice_index_or}
use Rattle.std.specs.Borrow.{Bor}
use Rattle.std.specs.Int.{w64, from_le_bytes}
use Rattle.std.specs.List.{range_with_len}
use Rattle.a2_device.specs.declared.part.Part.{Part}
use Rattle.vol_layout.specs.declared.form.PlaceForm.{PlaceForm}
use Rattle.row_text.specs.Places.{PlacesView, part_text}
use Rattle.row_text.specs.Places as places
use Rattle.row_text.specs.declared.row.Digested.{Digested}
use Rattle.row_text.specs.declared.row.Digested.TheVariants as digests
use Rattle.file_listings.specs.declared.facts.Facts.{Facts}
use Rattle.file_listings.specs.declared.facts.Kept.{Kept}
use Rattle.file_listings.specs.declared.facts.KeptDigest.{KeptDigest}
use Rattle.file_listings.specs.declared.facts.KeptDigest.TheVariants as kept
use Rattle.file_listings.specs.declared.facts.KnownFile.{KnownFile}
use Rattle.file_listings.specs.declared.facts.KnownParts.{KnownParts}
use Rattle.file_listings.specs.declared.facts.KnownParts.TheVariants as known
use Rattle.file_listings.specs.declared.known.KnownFiles.{KnownFiles}

-- whether the parts of files are told, and those of a file
pub data FileParts : Type 0 where
  Untold : FileParts
  Missing : FileParts
  Of : List Part → FileParts

-- what is known of a file beside its entry
pub record FileFacts : Type 0 where
  pub address : Option ℕ
  pub digest : Digested
  pub parts : FileParts

-- nothing is known
abbrev pub no_facts : FileFacts
no_facts = record { address = None; digest = digests.Untold; parts = Untold }

abbrev pub facts_with : Facts → FileParts → FileFacts
facts_with facts parts = record { address = facts.address; digest = facts.digest; parts = parts }

-- the parts of a file as a row tells them
abbrev pub places_told : PlaceForm → FileParts → PlacesView
places_told form Untold = places.Untold
places_told form Missing = places.Missing
places_told form (Of parts) = places.Of (map (part_text form) parts)

-- ---- one file, out of those that are known

abbrev pub parts_view : KnownParts → FileParts
parts_view known.Untold = Untold
parts_view known.Missing = Missing
parts_view (known.Of parts) = Of parts.now

abbrev pub facts_of : KnownFile → FileFacts
facts_of file = facts_with file.facts (parts_view file.parts)

-- ---- how it is kept

-- a digest, whose count is kept in eight bytes, the low one first
abbrev pub digest_kept : KeptDigest → Digested
digest_kept kept.Untold = digests.Untold
digest_kept kept.Missing = digests.Missing
digest_kept (kept.Of count sha256) = digests.Of (record { count = from_le_bytes w64 count; sha256 = sha256 })

-- where the parts of the files before one end in the list of all
abbrev pub end_at : List ℕ → ℕ → ℕ
end_at ends zero = 0
end_at ends (suc file) = slice_index_or ends file 0

-- the parts of a file: those behind the files before it, up to where its own end
abbrev pub run_at : List ℕ → List Part → ℕ → List Part
run_at ends parts file = take (slice_index_or ends file 0 - end_at ends file) (drop (end_at ends file) parts)

abbrev pub parts_kept : Bool → Bool → List Part → FileParts
parts_kept false placed parts = Untold
parts_kept true false parts = Missing
parts_kept true true parts = Of parts

abbrev pub parts_given : Bool → Option (Bor (List Part)) → FileParts
parts_given false parts = Untold
parts_given true None = Missing
parts_given true (Some parts) = Of parts.now

abbrev pub no_kept : Kept
no_kept = record { address = None; digest = kept.Untold; placed = false }

abbrev pub facts_at : {A : Type 0} → KnownFiles A → ℕ → FileFacts
facts_at files file =
    let own = slice_index_or files.kept.items file no_kept in
    record {
      address = own.address;
      digest = digest_kept own.digest;
      parts = parts_kept files.places own.placed (run_at files.ends.items files.parts.items file);
    }

-- what is known of each file
abbrev pub facts_in : {A : Type 0} → KnownFiles A → List FileFacts
facts_in files = map (facts_at files) (range_with_len 0 (length files.kept.items))

-- the parts of all files, and where those of each end, with one file more
abbrev pub all_parts : Bool → List Part → List Part → List Part
all_parts false parts more = parts
all_parts true parts more = parts ++ more

abbrev pub all_ends : Bool → List ℕ → List Part → List ℕ
all_ends false ends parts = ends
all_ends true ends parts = ends ++ length parts ∷ []

-- Where places are told, the parts of each file end within the list of all, and those of the last file at its end.
pub record AreRuns (files : ℕ) (ends : List ℕ) (parts : ℕ) : Type 0 where
  pub each : length ends ≡ files
  pub within : (file : ℕ) → slice_index_or ends file 0 ≤ parts
  pub last : end_at ends files ≡ parts

abbrev pub HasRuns : {A : Type 0} → KnownFiles A → Type 0
HasRuns files = files.places ≡ true → AreRuns (length files.kept.items) files.ends.items (length files.parts.items)
