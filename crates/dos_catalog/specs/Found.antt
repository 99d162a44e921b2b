-- What holds of a catalog that was walked over, whatever the device tells.
use Rattle.std.specs.Prelude.{◌<◌, ◌≤◌, ℕ, List, length, All}
use Rattle.dos_catalog.specs.declared.entry.Entry.{Entry}

-- The entries stand in slots 0 to 6 of sectors 1 to 15 of track 17, and there are no more of them than slots.
pub record AreOnTrack (entries : List Entry) : Type 0 where
  pub places : All (λ (entry : Entry). (272 < entry.place) × (entry.place < 288)) entries
  pub slots : All (λ (entry : Entry). entry.slot < 7) entries
  pub few : length entries ≤ 112

-- a free slot is one of slots 0 to 6 of such a sector: its place, and its number there
abbrev pub IsSlotOnTrack : ℕ × ℕ → Type 0
IsSlotOnTrack slot = (272 < slot.0) × (slot.0 < 288) × (slot.1 < 7)
