-- The line of a row, and that of a volume, reads as what it tells.
use Rattle.std.proofs.Common.{◌≡◌, ℕ, true, Option, Some, None, List, [], ◌∷◌, refl}
use Rattle.serde_json.specs.Data.{Members, no_members}
use Rattle.row_text.specs.Laws.{FitsIfTold, CountFits, ReadsBack, RowFits, VolumeFits}
use Rattle.row_text.specs.Row.{RowView, VolumeView, number_or_null, text_or_null, texts_items, with_bytes, with_parts, with_sha256}
use Rattle.row_text.specs.Row.{size_on, sha256_on, path_on, parts_on, kind_on, created_on, row_members, row_data}
use Rattle.row_text.specs.Row.{volume_members, volume_data}
use Rattle.row_text.specs.Places.{PlacesView}
use Rattle.row_text.specs.Places as places
use Rattle.row_text.specs.Shown.{Text}
use Rattle.row_text.specs.declared.row.Digested.{Digested}
use Rattle.row_text.specs.declared.row.Digested.TheVariants.{Untold, Missing, Of}
use Rattle.row_text.proofs.Flat.{AreTexts, IsFlat, AreFlat, rises, flat_reads_back}

flat_number : (o : Option ℕ) → FitsIfTold o → IsFlat (number_or_null o)
flat_number None h = tt
flat_number (Some n) h = h

flat_text : (o : Option (List ℕ)) → IsFlat (text_or_null o)
flat_text None = tt
flat_text (Some bytes) = tt

flat_bytes : (digest : Digested) (more : Members) → CountFits digest → AreFlat more → AreFlat (with_bytes digest more)
flat_bytes Untold more fits flat = flat
flat_bytes Missing more fits flat = (tt, flat)
flat_bytes (Of digest) more fits flat = (fits, flat)

flat_sha256 : (digest : Digested) (more : Members) → AreFlat more → AreFlat (with_sha256 digest more)
flat_sha256 Untold more flat = flat
flat_sha256 Missing more flat = (tt, flat)
flat_sha256 (Of digest) more flat = (tt, flat)

flat_texts : (texts : List Text) → AreTexts (texts_items texts)
flat_texts [] = tt
flat_texts (text ∷ texts) = (tt, flat_texts texts)

flat_parts : (told : PlacesView) (more : Members) → AreFlat more → AreFlat (with_parts told more)
flat_parts places.Untold more flat = flat
flat_parts places.Missing more flat = (tt, flat)
flat_parts (places.Of texts) more flat = (flat_texts texts, flat)

pub flat_row : (r : RowView) → RowFits r → AreFlat (row_members r)
flat_row r h =
    let last : AreFlat (sha256_on r) = flat_sha256 r.digest (size_on r) (h.size, (tt, (tt, tt))) in
    let parts : AreFlat (parts_on r) = flat_parts r.places (path_on r) (tt, last) in
    let middle : AreFlat (kind_on r) = (h.kind, (tt, (flat_text r.modified, parts))) in
    let front : AreFlat (created_on r) = (flat_text r.created, (tt, (flat_number r.eof h.eof, middle))) in
    (flat_number r.access h.access, (flat_number r.aux h.aux, flat_bytes r.digest (created_on r) h.digest front))

rises_by : (r : RowView) (digest : Digested) (told : PlacesView)
    → rises no_members (row_members (record r { digest = digest; places = told })) ≡ true
rises_by r Untold places.Untold = refl
rises_by r Untold places.Missing = refl
rises_by r Untold (places.Of texts) = refl
rises_by r Missing places.Untold = refl
rises_by r Missing places.Missing = refl
rises_by r Missing (places.Of texts) = refl
rises_by r (Of digest) places.Untold = refl
rises_by r (Of digest) places.Missing = refl
rises_by r (Of digest) (places.Of texts) = refl

pub row_reads_back : (r : RowView) → RowFits r → ReadsBack (row_data r)
row_reads_back r h = flat_reads_back (row_members r) (flat_row r h) (rises_by r r.digest r.places)

pub flat_volume : (v : VolumeView) → VolumeFits v → AreFlat (volume_members v)
flat_volume v h = (h.entries, (h.free, (tt, (h.places, (tt, tt)))))

pub volume_reads_back : (v : VolumeView) → VolumeFits v → ReadsBack (volume_data v)
volume_reads_back v h = flat_reads_back (volume_members v) (flat_volume v h) refl
