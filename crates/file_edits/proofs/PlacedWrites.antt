-- The writes of the parts and those that mark their places: where they go, and how long they are.
use Rattle.std.specs.Prelude.{◌≡◌, ◌<◌, ℕ, Bool, false, List, length, map, slice_index, slice_index_or, All}
use Rattle.std.proofs.Common.{sym, ◌∙◌, ap, subst, arith}
use Rattle.std.proofs.lemmas.List.{get_or-map, length-map}
use Rattle.std.proofs.lemmas.List.Elements.{All-append}
use Rattle.a2_device.specs.Device.{DeviceState}
use Rattle.vol_format.specs.Directory.{Directory}
use Rattle.vol_format.specs.Meaning.{Meaning}
use Rattle.vol_laws.specs.Writes.{Write}
use Rattle.edit_formats.specs.declared.new_part.NewPart.{NewPart}
use Rattle.edit_formats.specs.declared.writes.Prepared.{Prepared}
use Rattle.edit_formats.specs.Markings.{AreMarked}
use Rattle.edit_formats.specs.Prepared.{write_of}
use Rattle.edit_formats.specs.Writes.{no_write}
use Rattle.edit_formats.specs.Saves.{SaveMeaning}
use Rattle.file_edits.specs.Parts.{HasPartWrites}

module _ {A : Type 0} (format : Meaning) (saves : SaveMeaning) (directory : Directory) (size : ℕ) (parts : List NewPart) (places : List ℕ) (stored : List Bool) (text : List ℕ)
    (old : DeviceState) (start writes : List (Prepared A))
    (are : HasPartWrites saves size parts places stored text (length parts) (map write_of start))
    (all : AreMarked format false directory places old start writes) where
  in_parts : (i : ℕ) → i < length start → i < length parts
  in_parts i within = omega (arith, within, are.count_is, length-map start write_of)

  write_is : (i : ℕ) (d : Prepared A) → i < length start → slice_index_or (map write_of start) i no_write ≡ write_of (slice_index_or start i d)
  write_is i d within = get_or-map write_of start i d no_write within

  pub all_inside : (n : ℕ) → directory.places ≡ n → length places ≡ length parts → All (λ place. place < directory.places) places
      → All (λ (write : Prepared A). write.place < n) writes
  all_inside n same count inside = subst (All (λ (write : Prepared A). write.place < n)) (sym all.1.are)
      (All-append (λ (write : Prepared A). write.place < n) start all.1.marked
      (λ i d within.
      let place : (slice_index_or start i d).place ≡ slice_index places i =
      ap (λ (write : Write). write.place) (sym (write_is i d within)) ∙ (are.each i (in_parts i within)).place in
      omega (arith, place, same, inside i 0 (omega (arith, in_parts i within, count))))
      (λ i d within. omega (arith, same, all.1.inside i d within)))

  pub all_sizes : (n : ℕ) → size ≡ n → old.unit_size ≡ n → All (λ (write : Prepared A). length write.unit.items ≡ n) writes
  all_sizes n same old_same = subst (All (λ (write : Prepared A). length write.unit.items ≡ n)) (sym all.1.are)
      (All-append (λ (write : Prepared A). length write.unit.items ≡ n) start all.1.marked
      (λ i d within. ap (λ (write : Write). length write.unit) (sym (write_is i d within)) ∙ (are.each i (in_parts i within)).size_is ∙ same)
      (λ i d within. all.1.sizes i d within ∙ old_same))
