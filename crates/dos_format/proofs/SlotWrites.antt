-- A slot that is filled, or emptied, by bytes written into it.
use Rattle.std.specs.Prelude.{◌≡◌, ◌≢◌, ◌<◌, ℕ, ◌+◌, Bool, true, false, List, [], length, slice_index, slice_set, Contains}
use Rattle.std.proofs.Common.{sym, ◌∙◌, ap, arith, subst, inl}
use Rattle.std.proofs.lemmas.List.{length-set, get_or-set_same, get_or-set_other}
use Rattle.a2_device.specs.Device.{unit_at}
use Rattle.dos_catalog.specs.Entry.{entry_at, is_in_use, entries_in}
use Rattle.dos_catalog.specs.Catalog.{IsCatalog}
use Rattle.dos_catalog.specs.Writes.{slot_offset}
use Rattle.dos_catalog.specs.lemmas.Chain.{one_catalog}
use Rattle.vol_format.specs.Directory.{Directory, is_system}
use Rattle.dos_format.specs.Dos.{dos_directory, DescribesDos}
use Rattle.dos_format.specs.lemmas.DosChain.{IsOnTrack, sectors_on_track}
use Rattle.dos_format.specs.lemmas.DosMarks.{track_inside}
use Rattle.vol_laws.specs.Entered.{HasSameRest}
use Rattle.dos_format.proofs.OneMore.{IsFilled}
use Rattle.dos_format.proofs.Places.{system_written}
use Rattle.dos_format.proofs.Windows.{IsSameOutside, other_slot}

module _ (store : List (List ℕ)) (place slot : ℕ) (unit : List ℕ) (inside : place < length store) (below : slot < 7)
    (size : length unit ≡ length (unit_at store place)) (same : IsSameOutside (unit_at store place) unit (slot_offset slot) (slot_offset slot + 35)) where
  here : unit_at (slice_set store place unit) place ≡ unit
  here = get_or-set_same store place unit [] inside

  elsewhere : (other : ℕ) → other ≢ place → unit_at (slice_set store place unit) other ≡ unit_at store other
  elsewhere other differ = get_or-set_other store place other unit [] differ

  other_there : (other : ℕ) → other ≢ slot → entry_at place (unit_at (slice_set store place unit) place) other ≡ entry_at place (unit_at store place) other
  other_there other apart = ap (λ u. entry_at place u other) here ∙ other_slot (unit_at store place) unit slot (slot_offset slot) size (omega arith) same place other apart

  byte_there : (byte : ℕ) → byte < 11 → slice_index (unit_at (slice_set store place unit) place) byte ≡ slice_index (unit_at store place) byte
  byte_there byte low = ap (λ u. slice_index u byte) here ∙ same byte (inl (omega (arith, low)))

  -- a slot is filled
  pub fills : is_in_use (entry_at place (unit_at store place) slot) ≡ false → is_in_use (entry_at place unit slot) ≡ true
      → IsFilled store (slice_set store place unit) place slot
  fills unused used = record {
    size = length-set store place unit;
    elsewhere = elsewhere;
    below = below;
    unused = unused;
    used = ap (λ u. is_in_use (entry_at place u slot)) here ∙ used;
    others = other_there;
    track = byte_there 1 (omega arith);
    sector = byte_there 2 (omega arith);
  }

  -- a slot is emptied
  pub empties : is_in_use (entry_at place (unit_at store place) slot) ≡ true → is_in_use (entry_at place unit slot) ≡ false
      → IsFilled (slice_set store place unit) store place slot
  empties used unused = record {
    size = sym (length-set store place unit);
    elsewhere = λ other differ. sym (elsewhere other differ);
    below = below;
    unused = ap (λ u. is_in_use (entry_at place u slot)) here ∙ unused;
    used = used;
    others = λ other apart. sym (other_there other apart);
    track = sym (byte_there 1 (omega arith));
    sector = sym (byte_there 2 (omega arith));
  }

module _ (data_disk : Bool) (reserved : List Bool) (store : List (List ℕ)) (directory : Directory) (sectors : List ℕ)
    (described : DescribesDos data_disk reserved store directory) (catalog : IsCatalog store sectors) where
  pub says_of : directory ≡ dos_directory data_disk reserved (unit_at store 272) (entries_in store sectors)
  says_of = described.says ∙ ap (λ ps. dos_directory data_disk reserved (unit_at store 272) (entries_in store ps)) (one_catalog store sectors described.sectors catalog described.catalog)

  module _ (place : ℕ) (has : Contains sectors place) where
    pub on_catalog : IsOnTrack place
    on_catalog = subst IsOnTrack has.2 (sectors_on_track store 272 sectors catalog.last catalog.leads has.0 place has.1)

    pub below_last : place < length store
    below_last = omega (arith, on_catalog.1, described.size)

    pub sector_inside : (place < length store) × (is_system directory place ≡ true)
    sector_inside = (below_last, track_inside data_disk reserved store directory described place (omega (arith, on_catalog.0), on_catalog.1))

    pub sector_written : (unit : List ℕ) → HasSameRest directory store (slice_set store place unit)
    sector_written unit = system_written directory store place unit sector_inside.1
