-- The sectors of an image in another order.
use Rattle.std.proofs.Common.{◌≡◌, ◌≢◌, ℕ, ◌+◌, ◌*◌, ◌/◌, ◌%◌, ◌<◌, List, [], length, set, get_or, Some, None, refl, sym, ◌∙◌, ap, subst, arith, ⊎_elim, length-set}
use Rattle.std.specs.Prelude.{Option}
use Rattle.std.proofs.lemmas.Bool.{cases_eq}
use Rattle.std.proofs.lemmas.List.{same_lists, get_or_default, get_or-set_same, get_or-set_other}
use Rattle.std.proofs.lemmas.List.FromFn.{length-map-range_with_len}
use Rattle.std.proofs.lemmas.Option.{slice_get-get_or}
use Rattle.a2_nibble.specs.declared.search.Field.{Field}
use Rattle.a2_nibble.specs.Search.{FindsSector}
use Rattle.a2_nibble.specs.Sector.{IsFieldOf}
use Rattle.a2_nibble.proofs.MakeLemmas.{made_fields, made_contents}
use Rattle.a2_device.specs.declared.order.Order.{Order}
use Rattle.a2_device.specs.declared.order.Order.TheVariants.{Dos, Prodos, Nibble}
use Rattle.a2_device.specs.Order.{IsImageLength, blocks_of}
use Rattle.a2_image.specs.Image.{DiskImage, IsOfDisk, sectors_by, sector_in, number_in, bytes_of_sector}
use Rattle.a2_image.specs.Tracks.{track_of, HoldsSector, HoldsTracks}
use Rattle.a2_image.specs.Kept.{KeepsFields, IsKept, kept_sectors}
use Rattle.a2_image.specs.Converting.{HasAll, MakesTrack, AreMadeFields}
use Rattle.a2_image.proofs.TrackLemmas.{HoldsTracks-one}
use Rattle.a2_image.proofs.KeptLemmas.{HoldsTracks-kept}

length-sectors_by : (order : Order) (bytes : List ℕ) → length (sectors_by order bytes) ≡ 560
unfolding sectors_by
length-sectors_by order bytes = length-map-range_with_len (λ n. Some (bytes_of_sector bytes (number_in order n))) 0 560

-- the sectors below a number are copied
pub record CopiedBelow (order : Order) (bytes : List ℕ) (sectors : List (Option (List ℕ))) (n : ℕ) : Type 0 where
  pub whole : length bytes ≡ 143360
  pub same : (k : ℕ) → k < n → get_or (sectors_by order bytes) k None ≡ get_or sectors k None
  pub there : (k : ℕ) → k < n → get_or sectors k None ≢ None

pub CopiedBelow-more : (order : Order) (old new : List ℕ) (sectors : List (Option (List ℕ))) (n : ℕ) (content : List ℕ) → n < 560 → length new ≡ length old
    → sectors_by order new ≡ set (sectors_by order old) (16 * (n / 16) + n % 16) (Some content) → sector_in sectors (n / 16) (n % 16) ≡ Some content
    → CopiedBelow order old sectors n → CopiedBelow order new sectors (n + 1)
CopiedBelow-more order old new sectors n content within long written is h =
    let at : 16 * (n / 16) + n % 16 ≡ n = omega arith in
    let here : get_or sectors n None ≡ Some content = ap (λ k. get_or sectors k None) (sym at) ∙ is in
    let now : sectors_by order new ≡ set (sectors_by order old) n (Some content) = written ∙ ap (λ k. set (sectors_by order old) k (Some content)) at in
    record {
      whole = long ∙ h.whole;
      same = λ k l. ap (λ all. get_or all k None) now ∙ ⊎_elim
          (λ e. subst (λ k. get_or (set (sectors_by order old) n (Some content)) k None ≡ get_or sectors k None) (sym e)
          (get_or-set_same (sectors_by order old) n (Some content) None (omega (arith, within, length-sectors_by order old)) ∙ sym here))
          (λ differ. get_or-set_other (sectors_by order old) n k (Some content) None differ ∙ h.same k (omega (arith, differ)))
          (cases_eq k n);
      there = λ k l none. ⊎_elim
          (λ e. let wrong = sym here ∙ ap (λ k. get_or sectors k None) (sym e) ∙ none in let never : ⊥ = cc in never)
          (λ differ. h.there k (omega (arith, differ)) none)
          (cases_eq k n);
    }

pub sectors_by-copied : (order : Order) (bytes : List ℕ) (sectors : List (Option (List ℕ))) → length sectors ≡ 560 → CopiedBelow order bytes sectors 560 → sectors_by order bytes ≡ sectors
sectors_by-copied order bytes sectors count h = same_lists (sectors_by order bytes) sectors (length-sectors_by order bytes ∙ sym count) (λ k d l.
    let small : k < 560 = omega (arith, length-sectors_by order bytes) in
    get_or_default (sectors_by order bytes) k d None l ∙ h.same k small ∙ get_or_default sectors k None d (omega (arith, count)))

pub HasAll-there : (image : DiskImage) → IsOfDisk image → ((k : ℕ) → k < 560 → get_or image.sectors k None ≢ None) → HasAll image
HasAll-there image disk there track sector lt ls = record {
  track_fits = lt;
  sector_fits = ls;
  disk = disk;
  has = there (16 * track + sector) (omega arith);
}

-- a track that is made of the sectors holds them
module _ (nibbles : List ℕ) (volume track : ℕ) (sectors : List (Option (List ℕ))) (small : volume < 256) (few : track < 35) (h : MakesTrack nibbles volume track sectors) where
  made_field_of : (sector : ℕ) → sector < 16 → IsFieldOf nibbles track sector volume (71 + 396 * sector)
  made_field_of sector l = made_fields nibbles volume track h.contents h.are.sixteen small (omega arith) h.made sector l

  made_holds : (sector : ℕ) → sector < 16 → HoldsSector nibbles track sector (sector_in sectors track sector)
  made_holds sector l = subst (HoldsSector nibbles track sector) (sym (h.are.are sector l))
      (made_contents nibbles volume track h.contents h.are.sixteen small (omega arith) h.made sector _ (slice_get-get_or h.contents sector [] (omega (arith, h.are.sixteen, l))))

-- all tracks made of the sectors
module _ (bytes : List ℕ) (volume : ℕ) (sectors : List (Option (List ℕ))) (small : volume < 256) (made : (track : ℕ) → track < 35 → MakesTrack (track_of bytes track) volume track sectors) where
  pub HoldsTracks-made : length sectors ≡ 560 → HoldsTracks bytes sectors
  HoldsTracks-made count = record { count = count; each = λ t s lt ls. made_holds (track_of bytes t) volume t sectors small lt (made t lt) s ls }

  pub KeepsFields-made : (fields : List (Option Field)) → AreMadeFields volume fields → KeepsFields bytes fields
  KeepsFields-made fields are = record {
    count = are.count;
    finds = λ n l. subst (FindsSector (track_of bytes (n / 16)) (n / 16) (n % 16)) (sym (are.are n l)) (record {
      found = (omega arith, omega arith, made_field_of (track_of bytes (n / 16)) volume (n / 16) sectors small (omega arith) (made (n / 16) (omega arith)) (n % 16) (omega arith));
      none = tt;
    });
  }

  pub kept_sectors-made : (fields : List (Option Field)) → length sectors ≡ 560 → AreMadeFields volume fields → kept_sectors Nibble bytes fields ≡ sectors
  kept_sectors-made fields count are = HoldsTracks-one bytes _ _ (HoldsTracks-kept bytes fields (KeepsFields-made fields are)) (HoldsTracks-made count)

  pub there-made : (track sector : ℕ) → track < 35 → sector < 16 → sector_in sectors track sector ≢ None
  there-made track sector lt ls none = let some = sym ((made track lt).are.are sector ls) ∙ none in let never : ⊥ = cc in never

pub CopiedBelow-none : (order : Order) (bytes : List ℕ) (sectors : List (Option (List ℕ))) → length bytes ≡ 143360 → CopiedBelow order bytes sectors 0
CopiedBelow-none order bytes sectors whole = record { whole = whole; same = λ k l. absurd (omega arith); there = λ k l. absurd (omega arith) }

-- the sectors of a track below a number are read
pub record ReadBelow (sectors : List (Option (List ℕ))) (track : ℕ) (contents : List (List ℕ)) (n : ℕ) : Type 0 where
  pub sixteen : length contents ≡ 16
  pub are : (sector : ℕ) → sector < n → sector_in sectors track sector ≡ Some (get_or contents sector [])

pub ReadBelow-more : (sectors : List (Option (List ℕ))) (track : ℕ) (contents : List (List ℕ)) (n : ℕ) (content : List ℕ) → n < 16 → sector_in sectors track n ≡ Some content
    → ReadBelow sectors track contents n → ReadBelow sectors track (set contents n content) (n + 1)
ReadBelow-more sectors track contents n content within is h = record {
  sixteen = length-set contents n content ∙ h.sixteen;
  are = λ s l. ⊎_elim
      (λ e. subst (λ s. sector_in sectors track s ≡ Some (get_or (set contents n content) s [])) (sym e)
      (is ∙ ap Some (sym (get_or-set_same contents n content [] (omega (arith, h.sixteen, within))))))
      (λ differ. h.are s (omega (arith, differ)) ∙ ap Some (sym (get_or-set_other contents n s content [] differ)))
      (cases_eq s n);
}

-- the tracks below a number are made
pub record MadeBelow (bytes : List ℕ) (volume : ℕ) (sectors : List (Option (List ℕ))) (n : ℕ) : Type 0 where
  pub whole : length bytes ≡ 232960
  pub made : (track : ℕ) → track < n → MakesTrack (track_of bytes track) volume track sectors

pub MadeBelow-more : (old new : List ℕ) (volume : ℕ) (sectors : List (Option (List ℕ))) (n : ℕ) → length new ≡ length old → MakesTrack (track_of new n) volume n sectors
    → ((other : ℕ) → other ≢ n → track_of new other ≡ track_of old other) → MadeBelow old volume sectors n → MadeBelow new volume sectors (n + 1)
MadeBelow-more old new volume sectors n long made others h = record {
  whole = long ∙ h.whole;
  made = λ t l. ⊎_elim
      (λ e. subst (λ t. MakesTrack (track_of new t) volume t sectors) (sym e) made)
      (λ differ. subst (λ nibbles. MakesTrack nibbles volume t sectors) (sym (others t differ)) (h.made t (omega (arith, differ))))
      (cases_eq t n);
}

-- the fields below a number are set
pub record MadeFieldsBelow (volume : ℕ) (fields : List (Option Field)) (n : ℕ) : Type 0 where
  pub count : length fields ≡ 560
  pub are : (k : ℕ) → k < n → get_or fields k None ≡ Some (record { data_at = 71 + 396 * (k % 16); volume = volume })

pub MadeFieldsBelow-more : (volume : ℕ) (fields : List (Option Field)) (n : ℕ) (field : Field) → n < 560 → field ≡ record { data_at = 71 + 396 * (n % 16); volume = volume }
    → MadeFieldsBelow volume fields n → MadeFieldsBelow volume (set fields n (Some field)) (n + 1)
MadeFieldsBelow-more volume fields n field within is h = record {
  count = length-set fields n (Some field) ∙ h.count;
  are = λ k l. ⊎_elim
      (λ e. subst (λ k. get_or (set fields n (Some field)) k None ≡ Some (record { data_at = 71 + 396 * (k % 16); volume = volume })) (sym e)
      (get_or-set_same fields n (Some field) None (omega (arith, h.count, within)) ∙ ap Some is))
      (λ differ. get_or-set_other fields n k (Some field) None differ ∙ h.are k (omega (arith, differ)))
      (cases_eq k n);
}

-- bytes of a disk in DOS order or in ProDOS order
pub plain_image : (order : Order) (bytes : List ℕ) → order ≢ Nibble → length bytes ≡ 143360 → IsImageLength order (length bytes) × (blocks_of order (length bytes) ≡ 280)
unfolding IsImageLength blocks_of
plain_image Dos bytes plain long = (long, refl)
plain_image Prodos bytes plain long = ((omega (arith, long), omega (arith, long), omega (arith, long)), omega (arith, long))
plain_image Nibble bytes plain long = absurd (plain refl)

pub IsKept-plain : (order : Order) (bytes : List ℕ) (fields : List (Option Field)) → order ≢ Nibble → length bytes ≡ 143360 → IsKept order bytes fields
IsKept-plain order bytes fields plain long = record { long = (plain_image order bytes plain long).0; keeps = λ e. absurd (plain e) }

-- bytes of tracks
pub blocks_of-nibble : (bytes : ℕ) → blocks_of Nibble bytes ≡ 280
unfolding blocks_of
blocks_of-nibble bytes = refl

nibble_long : (bytes : ℕ) → bytes ≡ 232960 → IsImageLength Nibble bytes
unfolding IsImageLength
nibble_long bytes long = long

pub IsKept-nibble : (bytes : List ℕ) (fields : List (Option Field)) → length bytes ≡ 232960 → KeepsFields bytes fields → IsKept Nibble bytes fields
IsKept-nibble bytes fields long keeps = record { long = nibble_long (length bytes) long; keeps = λ _. keeps }
