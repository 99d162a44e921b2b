-- The sectors or the blocks of a disk, hashed one by one.
use Rattle.std.specs.Prelude.{◌≡◌, ◌<◌, ◌+◌, ◌==◌, ℕ, Bool, true, false, List, [], ◌∷◌, ◌++◌, Option, Some, None, if◌then◌else◌, length, take}
use Rattle.std.specs.List.{concat}
use Rattle.sha2.specs.Hashers.{Holds256}
use Rattle.sha2.specs.Sha256.{sha256}
use Rattle.sha2.specs.declared.Sha256.{Sha256}
use Rattle.std.proofs.Common.{refl, sym, ◌∙◌, ap, subst, arith, append-nil}
use Rattle.std.proofs.lemmas.List.{map-append, take_all, take_more}
use Rattle.std.proofs.lemmas.List.Folds.{concat-append}
use Rattle.std.proofs.lemmas.List.FromFn.{length-map-range_with_len}
use Rattle.a2_image.specs.Blocks.{block_in, blocks}
use Rattle.a2_image.specs.Image.{DiskImage, block_count}
use Rattle.a2_media.specs.DosPlaces.{sector_at, sectors_by_place}
use Rattle.a2_media.specs.Units.{unit_in}
use Rattle.image_survey.specs.Disk.{IsDigestOfAll, place_count, units_of}
use Rattle.image_survey.specs.DiskHashing.{AreHashedTo}

many_sectors : (sectors : List (Option (List ℕ))) → length (sectors_by_place sectors) ≡ 560
unfolding sectors_by_place
many_sectors sectors = length-map-range_with_len (sector_at sectors) 0 560

many_blocks : (image : DiskImage) → length (blocks image) ≡ block_count image
unfolding blocks
many_blocks image = length-map-range_with_len (block_in image) 0 (block_count image)

pub many_units : (image : DiskImage) → length (units_of image) ≡ place_count image
many_units image = by_size (block_count image == 280)
  where
    by_size : (is_disk : Bool)
        → length (if is_disk then sectors_by_place image.sectors else blocks image) ≡ (if is_disk then 560 else block_count image)
    by_size true = many_sectors image.sectors
    by_size false = many_blocks image

pub none_hashed : (units : List (Option (List ℕ))) (hasher : Sha256) → Holds256 hasher [] → AreHashedTo units 0 hasher
none_hashed units hasher holds = record { contents = []; are = refl; hashed = holds }

pub one_hashed : (units : List (Option (List ℕ))) (place : ℕ) (content : List ℕ) (old new : Sha256) → place < length units → unit_in units place ≡ Some content
    → ((text : List ℕ) → Holds256 old text → Holds256 new (text ++ content)) → AreHashedTo units place old → AreHashedTo units (place + 1) new
one_hashed units place content old new within is holds before = record {
  contents = before.contents ++ content ∷ [];
  are =
      take_more units place None within
      ∙ ap (λ (unit : Option (List ℕ)). take place units ++ unit ∷ []) is
      ∙ ap (λ (front : List (Option (List ℕ))). front ++ Some content ∷ []) before.are
      ∙ sym (map-append (λ (c : List ℕ). Some c) before.contents (content ∷ []));
  hashed = subst (Holds256 new)
      (ap (λ (c : List ℕ). concat before.contents ++ c) (sym (append-nil content)) ∙ sym (concat-append before.contents (content ∷ [])))
      (holds (concat before.contents) before.hashed);
}

pub all_hashed : (units : List (Option (List ℕ))) (many : ℕ) (hasher : Sha256) (digest : List ℕ) → many ≡ length units → (hashed : AreHashedTo units many hasher)
    → ((text : List ℕ) → Holds256 hasher text → digest ≡ sha256 text) → IsDigestOfAll units digest
all_hashed units many hasher digest all hashed says = record {
  contents = hashed.contents;
  all = sym (take_all many units (omega (arith, all))) ∙ hashed.are;
  is = says (concat hashed.contents) hashed.hashed;
}
