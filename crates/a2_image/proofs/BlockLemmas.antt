-- The blocks of an image.
use Rattle.std.proofs.lemmas.Bool.{cond-false, false_from_ne_true, eqb-true}
use Rattle.std.proofs.Common.{◌≡◌, ◌≢◌, ℕ, ◌+◌, ◌*◌, ◌<◌, List, ◌++◌, length, map, take, drop, set, get_or, Some, None, refl, sym, ◌∙◌, ap, arith, length-set, inl, inr, ⊎_elim}
use Rattle.std.specs.Prelude.{Option, ◌==◌, if◌then◌else◌, ◌⊎◌}
use Rattle.std.specs.List.{range_with_len}
use Rattle.std.proofs.lemmas.List.{get_or-set_same, get_or-set_other, take-append-drop}
use Rattle.std.proofs.lemmas.List.FromFn.{get_or-map-range_with_len}
use Rattle.a2_image.specs.Image.{DiskImage, block_count, IsOfDisk, HasSector}
use Rattle.a2_image.specs.Blocks.{joined, sector_of_half, block_of_sectors, bytes_of_block, block_in, blocks, with_block, HasBlock}
use Rattle.a2_image.proofs.Skews.{half_once, half_fits}
use Rattle.a2_image.proofs.Sectors.{map_set}

pub get_or-blocks : (image : DiskImage) (b : ℕ) → b < block_count image → get_or (blocks image) b None ≡ block_in image b
unfolding blocks
get_or-blocks image b h = get_or-map-range_with_len (block_in image) 0 (block_count image) b b None h (omega arith)

pub block_in-disk : (image : DiskImage) (b : ℕ) → IsOfDisk image → block_in image b ≡ block_of_sectors image.sectors b
unfolding block_in
block_in-disk image b disk =
    ap (λ n. if n == 280 then block_of_sectors image.sectors b else Some (bytes_of_block image.bytes b)) disk

-- a block whose two sectors are there
pub block_of_sectors-there : (all : List (Option (List ℕ))) (b : ℕ) (front rear : List ℕ)
    → get_or all (sector_of_half (2 * b)) None ≡ Some front → get_or all (sector_of_half (2 * b + 1)) None ≡ Some rear
    → block_of_sectors all b ≡ Some (front ++ rear)
block_of_sectors-there all b front rear is is' =
    ap (λ o. joined o (get_or all (sector_of_half (2 * b + 1)) None)) is ∙ ap (joined (Some front)) is'

-- the two sectors of a block written over
module _ (all : List (Option (List ℕ))) (b : ℕ) (content : List ℕ) (disk : length all ≡ 560) (within : b < 280) where
  abbrev written : List (Option (List ℕ))
  written = with_block all b content

  pub block_of_sectors-set : block_of_sectors written b ≡ Some content
  block_of_sectors-set =
      let first = set all (sector_of_half (2 * b)) (Some (take 256 content)) in
      let low = half_fits (2 * b) (omega (arith, within)) in
      let high = half_fits (2 * b + 1) (omega (arith, within)) in
      let apart : sector_of_half (2 * b) ≢ sector_of_half (2 * b + 1) = λ same. let one = half_once (2 * b) (2 * b + 1) same in omega (arith, one) in
      block_of_sectors-there written b (take 256 content) (drop 256 content)
      (get_or-set_other first (sector_of_half (2 * b + 1)) (sector_of_half (2 * b)) (Some (drop 256 content)) None apart
      ∙ get_or-set_same all (sector_of_half (2 * b)) (Some (take 256 content)) None (omega (arith, disk, low)))
      (get_or-set_same first (sector_of_half (2 * b + 1)) (Some (drop 256 content)) None (omega (arith, disk, high, length-set all (sector_of_half (2 * b)) (Some (take 256 content)))))
      ∙ ap Some (take-append-drop 256 content)

  half_kept : (h : ℕ) → h ≢ 2 * b → h ≢ 2 * b + 1 → get_or written (sector_of_half h) None ≡ get_or all (sector_of_half h) None
  half_kept h front rear =
      get_or-set_other (set all (sector_of_half (2 * b)) (Some (take 256 content))) (sector_of_half (2 * b + 1)) (sector_of_half h) (Some (drop 256 content)) None
      (λ same. rear (half_once h (2 * b + 1) same))
      ∙ get_or-set_other all (sector_of_half (2 * b)) (sector_of_half h) (Some (take 256 content)) None (λ same. front (half_once h (2 * b) same))

  pub block_of_sectors-set_other : (k : ℕ) → k ≢ b → block_of_sectors written k ≡ block_of_sectors all k
  block_of_sectors-set_other k differ =
      ap (λ o. joined o (get_or written (sector_of_half (2 * k + 1)) None)) (half_kept (2 * k) (λ e. differ (omega (arith, e))) (λ e. let odd : ⊥ = omega (arith, e) in odd))
      ∙ ap (joined (get_or all (sector_of_half (2 * k)) None)) (half_kept (2 * k + 1) (λ e. let odd : ⊥ = omega (arith, e) in odd) (λ e. differ (omega (arith, e))))

-- the blocks of an image of which one is written over
pub blocks-set : (old new : DiskImage) (b : ℕ) (content : List ℕ) → b < block_count old → block_count new ≡ block_count old
    → block_in new b ≡ Some content → ((k : ℕ) → k < block_count old → k ≢ b → block_in new k ≡ block_in old k)
    → blocks new ≡ set (blocks old) b (Some content)
unfolding blocks
blocks-set old new b content within count written others =
    ap (λ n. map (block_in new) (range_with_len 0 n)) count
    ∙ map_set (block_in old) (block_in new) (block_count old) b (Some content) None within written others

-- a block is missing where one of its sectors is
joined-none : (a b : Option (List ℕ)) → (a ≡ None) ⊎ (b ≡ None) → joined a b ≡ None
joined-none None b none = refl
joined-none (Some a) None none = refl
joined-none (Some a) (Some b) none = ⊎_elim (λ e. let never : ⊥ = cc in absurd never) (λ e. let never : ⊥ = cc in absurd never) none

none-joined : (a b : Option (List ℕ)) → joined a b ≡ None → (a ≡ None) ⊎ (b ≡ None)
none-joined None b e = inl refl
none-joined (Some a) None e = inr refl
none-joined (Some a) (Some b) e = let never : ⊥ = cc in absurd never

module _ (image : DiskImage) (b : ℕ) (disk : IsOfDisk image) where
  pub block_in-none : (get_or image.sectors (sector_of_half (2 * b)) None ≡ None) ⊎ (get_or image.sectors (sector_of_half (2 * b + 1)) None ≡ None) → block_in image b ≡ None
  block_in-none none = block_in-disk image b disk ∙ joined-none _ _ none

  pub none-block_in : block_in image b ≡ None → (get_or image.sectors (sector_of_half (2 * b)) None ≡ None) ⊎ (get_or image.sectors (sector_of_half (2 * b + 1)) None ≡ None)
  none-block_in none = none-joined _ _ (sym (block_in-disk image b disk) ∙ none)

  -- the sectors of a block that is there
  module _ (there : HasBlock image b) (track sector : ℕ) (track_fits : track < 35) (sector_fits : sector < 16) where
    pub HasSector-front : 16 * track + sector ≡ sector_of_half (2 * b) → HasSector image track sector
    HasSector-front at = record {
      track_fits = track_fits;
      sector_fits = sector_fits;
      disk = disk;
      has = λ none. there.has (block_in-none (inl (ap (λ n. get_or image.sectors n None) (sym at) ∙ none)));
    }

    pub HasSector-rear : 16 * track + sector ≡ sector_of_half (2 * b + 1) → HasSector image track sector
    HasSector-rear at = record {
      track_fits = track_fits;
      sector_fits = sector_fits;
      disk = disk;
      has = λ none. there.has (block_in-none (inr (ap (λ n. get_or image.sectors n None) (sym at) ∙ none)));
    }

-- an image of another size than a disk has each block
pub block_in-stored : (image : DiskImage) (b : ℕ) → block_count image ≢ 280 → block_in image b ≡ Some (bytes_of_block image.bytes b)
unfolding block_in
block_in-stored image b other = cond-false (block_count image == 280) _ _ (false_from_ne_true _ (λ e. other (eqb-true _ _ e)))

-- a block of a disk is written over
pub blocks-halves : (old new : DiskImage) (b : ℕ) (content : List ℕ) → IsOfDisk old → length old.sectors ≡ 560 → b < block_count old → block_count new ≡ block_count old
    → new.sectors ≡ with_block old.sectors b content → blocks new ≡ set (blocks old) b (Some content)
blocks-halves old new b content disk long within count written =
    let small : b < 280 = omega (arith, disk, within) in
    blocks-set old new b content within count
    (block_in-disk new b (count ∙ disk) ∙ ap (λ all. block_of_sectors all b) written ∙ block_of_sectors-set old.sectors b content long small)
    (λ k l differ. block_in-disk new k (count ∙ disk) ∙ ap (λ all. block_of_sectors all k) written
    ∙ block_of_sectors-set_other old.sectors b content long small k differ ∙ sym (block_in-disk old k disk))

-- the second sector of a block whose first is written over
pub HasSector-second : (image new : DiskImage) (b : ℕ) (content : List ℕ) → HasBlock image b → IsOfDisk image → (track front rear : ℕ) → track < 35 → rear < 16
    → 16 * track + front ≡ sector_of_half (2 * b) → 16 * track + rear ≡ sector_of_half (2 * b + 1) → block_count new ≡ block_count image
    → new.sectors ≡ set image.sectors (16 * track + front) (Some content) → HasSector new track rear
HasSector-second image new b content there disk track front rear lt ls at at' count written =
    let apart : 16 * track + rear ≢ 16 * track + front = λ same. let one = half_once (2 * b + 1) (2 * b) (sym at' ∙ same ∙ at) in omega (arith, one) in
    record {
      track_fits = lt;
      sector_fits = ls;
      disk = count ∙ disk;
      has = λ none. (HasSector-rear image b disk there track rear lt ls at').has
          (sym (get_or-set_other image.sectors (16 * track + front) (16 * track + rear) (Some content) None apart) ∙ ap (λ all. get_or all (16 * track + rear) None) (sym written) ∙ none);
    }

-- a block of a disk is written over, one sector after the other
module _ (old mid : DiskImage) (b track front rear : ℕ) (content : List ℕ) (disk : IsOfDisk old) (long : length old.sectors ≡ 560) (within : b < block_count old)
    (at : 16 * track + front ≡ sector_of_half (2 * b)) (at' : 16 * track + rear ≡ sector_of_half (2 * b + 1))
    (first : mid.sectors ≡ set old.sectors (16 * track + front) (Some (take 256 content))) where
  pub blocks-both_halves : (new : DiskImage) → block_count new ≡ block_count old → new.sectors ≡ set mid.sectors (16 * track + rear) (Some (drop 256 content))
      → blocks new ≡ set (blocks old) b (Some content)
  blocks-both_halves new count second =
      blocks-halves old new b content disk long within count
      (second
      ∙ ap (λ n. set mid.sectors n (Some (drop 256 content))) at'
      ∙ ap (λ all. set all (sector_of_half (2 * b + 1)) (Some (drop 256 content)))
      (first ∙ ap (λ n. set old.sectors n (Some (take 256 content))) at))

  pub HasBlock-both_halves : HasSector old track front → HasSector mid track rear → HasBlock old b
  HasBlock-both_halves there there' =
      let apart : 16 * track + rear ≢ 16 * track + front = λ same. let one = half_once (2 * b + 1) (2 * b) (sym at' ∙ same ∙ at) in omega (arith, one) in
      let kept : get_or mid.sectors (16 * track + rear) None ≡ get_or old.sectors (16 * track + rear) None =
      ap (λ all. get_or all (16 * track + rear) None) first ∙ get_or-set_other old.sectors (16 * track + front) (16 * track + rear) (Some (take 256 content)) None apart in
      record {
        within = within;
        has = λ none. ⊎_elim
            (λ lacks. there.has (ap (λ n. get_or old.sectors n None) at ∙ lacks))
            (λ lacks. there'.has (kept ∙ ap (λ n. get_or old.sectors n None) at' ∙ lacks))
            (none-block_in old b disk none);
      }
