-- The sectors that tracks hold: there is one list of them, and a write changes one member.
use Rattle.std.proofs.Common.{◌≡◌, ◌≢◌, ℕ, ◌+◌, ◌*◌, ◌/◌, ◌%◌, ◌<◌, List, set, get_or, Some, None, refl, sym, ◌∙◌, ap, subst, arith, ⊎_elim, length-set, inl, inr}
use Rattle.std.specs.Prelude.{Option, ◌⊎◌}
use Rattle.std.proofs.lemmas.Bool.{cases_eq}
use Rattle.std.proofs.lemmas.List.{same_lists, get_or_default, get_or-set_same, get_or-set_other}
use Rattle.a2_nibble.specs.Sector.{WritesSector, SameSector}
use Rattle.a2_nibble.proofs.OneLemmas.{one_content}
use Rattle.a2_nibble.proofs.WriteLemmas.{written_sector, keeps_others}
use Rattle.a2_image.specs.Tracks.{track_of, HoldsSector, HoldsTracks}

-- a track holds one content of a sector at most
HoldsSector-one : (nibbles : List ℕ) (track sector : ℕ) (a b : Option (List ℕ)) → HoldsSector nibbles track sector a → HoldsSector nibbles track sector b → a ≡ b
HoldsSector-one nibbles track sector None None h k = refl
HoldsSector-one nibbles track sector None (Some b) h k = absurd (h b k)
HoldsSector-one nibbles track sector (Some a) None h k = absurd (k a h)
HoldsSector-one nibbles track sector (Some a) (Some b) h k = ap Some (one_content nibbles track sector a b h k)

pub HoldsTracks-one : (bytes : List ℕ) (a b : List (Option (List ℕ))) → HoldsTracks bytes a → HoldsTracks bytes b → a ≡ b
HoldsTracks-one bytes a b h k = same_lists a b (h.count ∙ sym k.count) (λ n d l.
    let track : n / 16 < 35 = omega (arith, h.count) in
    let sector : n % 16 < 16 = omega arith in
    let at : 16 * (n / 16) + n % 16 ≡ n = omega arith in
    get_or_default a n d None l
    ∙ subst (λ m. get_or a m None ≡ get_or b m None) at (HoldsSector-one (track_of bytes (n / 16)) (n / 16) (n % 16) _ _ (h.each (n / 16) (n % 16) track sector) (k.each (n / 16) (n % 16) track sector))
    ∙ get_or_default b n None d (omega (arith, h.count, k.count)))

-- tracks that have the same contents of a sector
HoldsSector-same : (old new : List ℕ) (track sector : ℕ) → SameSector old new track sector → (a : Option (List ℕ)) → HoldsSector old track sector a → HoldsSector new track sector a
HoldsSector-same old new track sector same None h = λ content k. h content ((same content).1 k)
HoldsSector-same old new track sector same (Some a) h = (same a).0 h

-- one sector is written
module _ (old new : List ℕ) (track sector : ℕ) (content : List ℕ) (track_fits : track < 35) (sector_fits : sector < 16)
    (writes : WritesSector (track_of old track) (track_of new track) track sector content)
    (others : (other : ℕ) → other ≢ track → track_of new other ≡ track_of old other) where
  -- every other sector is as it was
  HoldsSector-other : (t s : ℕ) → t < 35 → s < 16 → (t ≢ track) ⊎ (s ≢ sector) → (a : Option (List ℕ)) → HoldsSector (track_of old t) t s a → HoldsSector (track_of new t) t s a
  HoldsSector-other t s lt ls differ a h = ⊎_elim
      (λ same. subst (λ n. HoldsSector n t s a) (ap (track_of new) (sym same))
      (HoldsSector-same (track_of old track) (track_of new track) t s
      ((keeps_others _ _ track sector content writes (omega arith) (omega arith)).contents t s (omega arith) (omega arith) differ) a
      (subst (λ n. HoldsSector n t s a) (ap (track_of old) same) h)))
      (λ other. subst (λ n. HoldsSector n t s a) (sym (others t other)) h)
      (cases_eq t track)

  pub HoldsTracks-written : (sectors : List (Option (List ℕ))) → HoldsTracks old sectors → HoldsTracks new (set sectors (16 * track + sector) (Some content))
  HoldsTracks-written sectors h = record {
    count = length-set sectors (16 * track + sector) (Some content) ∙ h.count;
    each = λ t s lt ls. ⊎_elim
        (λ same.
        let st : track ≡ t = omega (arith, same) in
        let ss : sector ≡ s = omega (arith, same) in
        subst (λ t. HoldsSector (track_of new t) t s (get_or (set sectors (16 * track + sector) (Some content)) (16 * t + s) None)) st
        (subst (λ s. HoldsSector (track_of new track) track s (get_or (set sectors (16 * track + sector) (Some content)) (16 * track + s) None)) ss
        (subst (HoldsSector (track_of new track) track sector) (sym (get_or-set_same sectors (16 * track + sector) (Some content) None (omega (arith, h.count))))
        (written_sector _ _ track sector content writes))))
        (λ differ. subst (HoldsSector (track_of new t) t s) (sym (get_or-set_other sectors (16 * track + sector) (16 * t + s) (Some content) None differ))
        (HoldsSector-other t s lt ls (apart t s differ) (get_or sectors (16 * t + s) None) (h.each t s lt ls)))
        (cases_eq (16 * t + s) (16 * track + sector));
  }
    where
      apart : (t s : ℕ) → 16 * t + s ≢ 16 * track + sector → (t ≢ track) ⊎ (s ≢ sector)
      apart t s differ = ⊎_elim (λ same. inr (λ e. differ (omega (arith, same, e)))) (λ other. inl other) (cases_eq t track)
