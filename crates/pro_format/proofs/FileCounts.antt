-- The count of files of a directory, written into its header.
use Rattle.std.specs.Prelude.{◌≡◌, ℕ, Bool, List, length, slice_set, Contains}
use Rattle.std.proofs.Common.{refl, sym, subst, arith}
use Rattle.a2_device.specs.Device.{unit_at}
use Rattle.pro_dir.specs.Walk.{IsKeyOf}
use Rattle.pro_dir.specs.Writes.{with_bytes, word_bytes}
use Rattle.vol_format.specs.Directory.{Directory}
use Rattle.pro_format.specs.Pro.{DescribesPro}
use Rattle.pro_format.specs.lemmas.ProDescribed.{block_below}
use Rattle.pro_format.specs.Slots.{HasSameDirectory, IsSlotOf}
use Rattle.pro_format.proofs.Counting.{count_kept}
use Rattle.pro_format.proofs.OneKey.{key_run}
use Rattle.pro_format.proofs.SlotLaws.{slot_inside}
use Rattle.pro_format.proofs.SlotWrites.{but_written, counted}
use Rattle.pro_format.proofs.SystemBlocks.{same_rest}

pub pro_counts : (reserved : List Bool) (store : List (List ℕ)) (directory : Directory) (described : DescribesPro reserved store directory) (key count : ℕ)
    → IsKeyOf described.tree.entries key → length (unit_at store key) ≡ 512
    → HasSameDirectory reserved directory store (slice_set store key (with_bytes 0x25 (word_bytes count) (unit_at store key)))
pro_counts reserved store directory described key count is_key whole =
    let tree = described.tree in
    let its = key_run store tree.blocks tree.entries described.described.tree key is_key in
    let has : Contains its.0 key = subst (λ bs. Contains bs key) (sym its.1.is) (0, omega arith, refl) in
    let second : IsSlotOf store key key 1 = record { own = its.0; run = its.1; has = has; below = omega arith; no_header = λ first same. omega (arith, first) } in
    let inside = slot_inside store tree.blocks tree.entries described.described.tree key key 1 is_key second in
    let below = (block_below store tree.blocks tree.entries described.described.tree key inside).1 in
    let unit = with_bytes 0x25 (word_bytes count) (unit_at store key) in
    record {
      described = count_kept store (slice_set store key unit) key
          (counted store key unit below (but_written (unit_at store key) (word_bytes count) 0x25 (omega (arith, whole))))
          reserved directory described inside is_key its.0 its.1;
      rest = same_rest reserved store directory described key unit inside;
    }
