-- The sectors of an image that keeps the field of each.
use Rattle.a2_image.proofs.Sectors.{IsDisk-map}
use Rattle.a2_image.specs.Image.{IsDisk, zeros}
use Rattle.std.proofs.Common.{◌≡◌, ◌≢◌, ℕ, ◌+◌, ◌*◌, ◌/◌, ◌%◌, ◌<◌, ◌-◌, List, [], ◌++◌, length, set, get_or, Some, None, refl, sym, ◌∙◌, ap, subst, arith, ⊎_elim}
use Rattle.std.specs.Prelude.{Option, slice_get, unwrap_or}
use Rattle.std.proofs.lemmas.Bool.{cases_eq, cases_lt}
use Rattle.std.proofs.lemmas.List.{get_or_append_left, get_or-append_right, length-append}
use Rattle.std.proofs.lemmas.List.FromFn.{length-map-range_with_len, get_or-map-range_with_len}
use Rattle.std.proofs.lemmas.Option.{slice_get-get_or}
use Rattle.a2_nibble.specs.declared.search.Field.{Field}
use Rattle.a2_nibble.specs.Field.{content_of, byte_of}
use Rattle.a2_nibble.specs.Search.{FindsSector}
use Rattle.a2_nibble.specs.Sector.{SectorOf, IsFieldOf, WritesSector}
use Rattle.a2_nibble.specs.Track.{field_at}
use Rattle.a2_nibble.proofs.AnswerLemmas.{same_answer}
use Rattle.a2_nibble.proofs.FieldLemmas.{Gives-content_of}
use Rattle.a2_nibble.proofs.OneLemmas.{one_content}
use Rattle.a2_nibble.proofs.RingLemmas.{length-field_at}
use Rattle.a2_nibble.proofs.WriteLemmas.{same_fields}
use Rattle.a2_device.specs.declared.order.Order.TheVariants.{Nibble}
use Rattle.a2_image.specs.Tracks.{track_of, HoldsSector, HoldsTracks}
use Rattle.a2_image.specs.Kept.{content_at, kept_sector, kept_sectors, KeepsFields}
use Rattle.a2_image.proofs.TrackLemmas.{HoldsTracks-one, HoldsTracks-written}

-- a field gives the content that is computed from its bytes
SectorOf-field : (nibbles : List ℕ) (track sector volume data_at : ℕ) → IsFieldOf nibbles track sector volume data_at → SectorOf nibbles track sector (content_of (field_at nibbles data_at))
SectorOf-field nibbles track sector volume data_at h = record {
  volume = volume;
  data_at = data_at;
  field = h;
  gives = Gives-content_of (field_at nibbles data_at) (length-field_at nibbles data_at) h.counts.counts;
}

-- and no other
pub content_of-field : (nibbles : List ℕ) (track sector volume data_at : ℕ) (content : List ℕ) → IsFieldOf nibbles track sector volume data_at
    → SectorOf nibbles track sector content → content ≡ content_of (field_at nibbles data_at)
content_of-field nibbles track sector volume data_at content h s = one_content nibbles track sector content _ s (SectorOf-field nibbles track sector volume data_at h)

content_at-holds : (nibbles : List ℕ) (track sector : ℕ) → track < 35 → sector < 16 → (answer : Option Field) → FindsSector nibbles track sector answer
    → HoldsSector nibbles track sector (content_at nibbles answer)
content_at-holds nibbles track sector lt ls None h = λ content s. h.none lt ls s.volume s.data_at s.field
content_at-holds nibbles track sector lt ls (Some field) h = SectorOf-field nibbles track sector field.volume field.data_at h.found.2

-- the sector of each number
pub get_or-kept : (bytes : List ℕ) (fields : List (Option Field)) (track sector : ℕ) → track < 35 → sector < 16
    → get_or (kept_sectors Nibble bytes fields) (16 * track + sector) None ≡ content_at (track_of bytes track) (get_or fields (16 * track + sector) None)
unfolding kept_sectors kept_sector
get_or-kept bytes fields track sector lt ls =
    let at : (16 * track + sector) / 16 ≡ track = omega arith in
    get_or-map-range_with_len (kept_sector bytes fields) 0 560 (16 * track + sector) (16 * track + sector) None (omega arith) (omega arith)
    ∙ ap (λ t. content_at (track_of bytes t) (get_or fields (16 * track + sector) None)) at

pub KeepsFields-at : (bytes : List ℕ) (fields : List (Option Field)) → KeepsFields bytes fields → (track sector : ℕ) → track < 35 → sector < 16
    → FindsSector (track_of bytes track) track sector (get_or fields (16 * track + sector) None)
KeepsFields-at bytes fields h track sector lt ls =
    let at : (16 * track + sector) / 16 ≡ track = omega arith in
    let here : (16 * track + sector) % 16 ≡ sector = omega arith in
    subst (λ t. FindsSector (track_of bytes t) t sector (get_or fields (16 * track + sector) None)) at
    (subst (λ s. FindsSector (track_of bytes ((16 * track + sector) / 16)) ((16 * track + sector) / 16) s (get_or fields (16 * track + sector) None)) here
    (h.finds (16 * track + sector) (omega arith)))

pub HoldsTracks-kept : (bytes : List ℕ) (fields : List (Option Field)) → KeepsFields bytes fields → HoldsTracks bytes (kept_sectors Nibble bytes fields)
unfolding kept_sectors
HoldsTracks-kept bytes fields h = record {
  count = length-map-range_with_len (kept_sector bytes fields) 0 560;
  each = λ t s lt ls. subst (HoldsSector (track_of bytes t) t s) (sym (get_or-kept bytes fields t s lt ls))
      (content_at-holds (track_of bytes t) t s lt ls _ (KeepsFields-at bytes fields h t s lt ls));
}

-- one sector is written: the fields are the same, and one sector is another
module _ (old new : List ℕ) (fields : List (Option Field)) (track sector : ℕ) (content : List ℕ) (track_fits : track < 35) (sector_fits : sector < 16)
    (writes : WritesSector (track_of old track) (track_of new track) track sector content)
    (others : (other : ℕ) → other ≢ track → track_of new other ≡ track_of old other) (h : KeepsFields old fields) where
  pub KeepsFields-written : KeepsFields new fields
  KeepsFields-written = record {
    count = h.count;
    finds = λ n l. ⊎_elim
        (λ same. subst (λ t. FindsSector (track_of new t) t (n % 16) (get_or fields n None)) (sym same)
        ((same_answer (track_of old track) (track_of new track) track (n % 16) (same_fields _ _ track sector content writes track (n % 16)) (get_or fields n None)).0
        (subst (λ t. FindsSector (track_of old t) t (n % 16) (get_or fields n None)) same (h.finds n l))))
        (λ other. subst (λ nibbles. FindsSector nibbles (n / 16) (n % 16) (get_or fields n None)) (sym (others (n / 16) other)) (h.finds n l))
        (cases_eq (n / 16) track);
  }

  pub kept_sectors-written : kept_sectors Nibble new fields ≡ set (kept_sectors Nibble old fields) (16 * track + sector) (Some content)
  kept_sectors-written = HoldsTracks-one new _ _ (HoldsTracks-kept new fields KeepsFields-written)
      (HoldsTracks-written old new track sector content track_fits sector_fits writes others _ (HoldsTracks-kept old fields h))

-- the fields of the first tracks
pub record FieldsBelow (bytes : List ℕ) (fields : List (Option Field)) (tracks : ℕ) : Type 0 where
  pub count : length fields ≡ 16 * tracks
  pub finds : (n : ℕ) → n < 16 * tracks → FindsSector (track_of bytes (n / 16)) (n / 16) (n % 16) (get_or fields n None)

pub FieldsBelow-none : (bytes : List ℕ) → FieldsBelow bytes [] 0
FieldsBelow-none bytes = record { count = refl; finds = λ n l. absurd (omega arith) }

pub FieldsBelow-more : (bytes : List ℕ) (fields found : List (Option Field)) (track : ℕ) → length found ≡ 16
    → ((sector : ℕ) (answer : Option Field) → slice_get found sector ≡ Some answer → FindsSector (track_of bytes track) track sector answer)
    → FieldsBelow bytes fields track → FieldsBelow bytes (fields ++ found) (track + 1)
FieldsBelow-more bytes fields found track long finds h = record {
  count = length-append fields found ∙ omega (arith, long, h.count);
  finds = λ n l. ⊎_elim
      (λ before. subst (FindsSector (track_of bytes (n / 16)) (n / 16) (n % 16)) (sym (get_or_append_left fields found None n (omega (arith, h.count)))) (h.finds n before))
      (λ behind.
      let at : track ≡ n / 16 = omega arith in
      let here : n - 16 * track ≡ n % 16 = omega (arith, at) in
      let small : n % 16 < length found = omega (arith, long) in
      let read = get_or-append_right fields found (16 * track) n None h.count behind ∙ ap (λ k. get_or found k None) here in
      subst (λ t. FindsSector (track_of bytes t) t (n % 16) (get_or (fields ++ found) n None)) at
      (subst (FindsSector (track_of bytes track) track (n % 16)) (sym read)
      (finds (n % 16) (get_or found (n % 16) None) (slice_get-get_or found (n % 16) None small))))
      (cases_lt n (16 * track));
}

pub KeepsFields-below : (bytes : List ℕ) (fields : List (Option Field)) → FieldsBelow bytes fields 35 → KeepsFields bytes fields
KeepsFields-below bytes fields h = record { count = h.count; finds = λ n l. h.finds n (omega arith) }

length-content_of : (bytes : List ℕ) → length (content_of bytes) ≡ 256
unfolding content_of
length-content_of bytes = length-map-range_with_len (byte_of bytes) 0 256

length-zeros : length zeros ≡ 256
unfolding zeros
length-zeros = refl

length-content_at : (nibbles : List ℕ) (answer : Option Field) → length (unwrap_or (content_at nibbles answer) zeros) ≡ 256
length-content_at nibbles None = length-zeros
length-content_at nibbles (Some field) = length-content_of (field_at nibbles field.data_at)

-- what an image in nibble order holds
pub IsDisk-kept : (bytes : List ℕ) (fields : List (Option Field)) → KeepsFields bytes fields → IsDisk (kept_sectors Nibble bytes fields)
unfolding kept_sectors kept_sector
IsDisk-kept bytes fields h = IsDisk-map (kept_sector bytes fields) (λ n l. length-content_at (track_of bytes (n / 16)) (get_or fields n None))
