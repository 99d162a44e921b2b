-- What a write over the 343 bytes of one field leaves of the other fields.
use Rattle.std.proofs.Common.{◌≡◌, ◌≢◌, ◌⊎◌, ◌↔◌, ℕ, zero, suc, ◌+◌, ◌-◌, ◌%◌, ◌<◌, ◌≤◌, List, refl, sym, ap, ◌∙◌, subst, arith, ⊎_elim, add-zero}
use Rattle.std.proofs.lemmas.Bool.{cases_lt, cases_order, cases_eq}
use Rattle.a2_nibble.specs.DiskBytes.{value_of}
use Rattle.a2_nibble.specs.Field.{IsDataField, Gives}
use Rattle.a2_nibble.specs.Address.{address_field}
use Rattle.a2_nibble.specs.Track.{nibble_at, StandsAt, SameOutside, field_at, behind}
use Rattle.a2_nibble.specs.Sector.{HasMark, IsFieldFrom, IsFieldOf, SectorOf, SameSector, KeepsOthers, WritesSector, data_mark}
use Rattle.a2_nibble.proofs.RingLemmas.{nibble_at-along, length-field_at, get_or-field_at, field_at-from}
use Rattle.a2_nibble.proofs.AddressLemmas.{length-address_field, address_mark, no_second_mark, no_data_mark, track_from_address, sector_from_address}

pub value_of-D5 : value_of 0xD5 ≡ 64
unfolding value_of
value_of-D5 = refl

pub value_of-AA : value_of 0xAA ≡ 64
unfolding value_of
value_of-AA = refl

-- new is old with the 343 disk bytes of a data field rewritten
pub record Rewrites (old new : List ℕ) (at : ℕ) : Type 0 where
  pub on_track : at < 6656
  pub old_mark : StandsAt old (at + 6653) data_mark
  pub new_mark : StandsAt new (at + 6653) data_mark
  pub old_table : (k : ℕ) → k < 343 → value_of (nibble_at old (at + k)) < 64
  pub new_table : (k : ℕ) → k < 343 → value_of (nibble_at new (at + k)) < 64
  pub old_counts : IsDataField (field_at old at)
  pub new_counts : IsDataField (field_at new at)
  pub same : SameOutside old new at

flipped : (old new : List ℕ) (at : ℕ) → Rewrites old new at → Rewrites new old at
flipped old new at w = record {
  on_track = w.on_track;
  old_mark = w.new_mark;
  new_mark = w.old_mark;
  old_table = w.new_table;
  new_table = w.old_table;
  old_counts = w.new_counts;
  new_counts = w.old_counts;
  same = λ q l. sym (w.same q l);
}

module _ (old new : List ℕ) (at : ℕ) (w : Rewrites old new at) where
  -- a byte that is in no table is not among the 343
  outside : (q : ℕ) → value_of (nibble_at old q) ≡ 64 → 343 ≤ behind at q
  outside q e = ⊎_elim
      (λ inside.
      let same : nibble_at old q ≡ nibble_at old (at + behind at q) = nibble_at-along old q _ (omega (arith, w.on_track)) in
      absurd (omega (arith, w.old_table (behind at q) inside, e, ap value_of same)))
      (λ far. far)
      (cases_lt (behind at q) 343)

  -- one enters the 343 bytes only over AD
  next : (q : ℕ) → 343 ≤ behind at q → nibble_at old q ≢ 0xAD → 343 ≤ behind at (q + 1)
  next q far apart = ⊎_elim
      (λ inside.
      let same : nibble_at old q ≡ nibble_at old (at + 6653 + 2) = nibble_at-along old q _ (omega (arith, w.on_track)) in
      absurd (apart (same ∙ w.old_mark 2 (omega arith))))
      (λ far. far)
      (cases_lt (behind at (q + 1)) 343)

  address_outside : (place volume track sector : ℕ) → StandsAt old place (address_field volume track sector) →
      (k : ℕ) → k < 11 → 343 ≤ behind at (place + k)
  address_outside place v t s h zero l =
      outside (place + 0) (ap (λ q. value_of (nibble_at old q)) (add-zero place) ∙ ap value_of (address_mark old place v t s h) ∙ value_of-D5)
  address_outside place v t s h (suc k) l =
      let before = address_outside place v t s h k (omega arith) in
      let here = next (place + k) before (no_data_mark old place v t s h k (omega arith)) in
      let one : place + k + 1 ≡ place + suc k = omega arith in
      subst (λ q. 343 ≤ behind at q) one here

  module _ (m : ℕ) (h : StandsAt old m data_mark) where
    mark_first : nibble_at old m ≡ 0xD5
    mark_first = ap (nibble_at old) (sym (add-zero m)) ∙ h 0 (omega arith)

    second_outside : 343 ≤ behind at (m + 1)
    second_outside = outside (m + 1) (ap value_of (h 1 (omega arith)) ∙ value_of-AA)

    third_outside : 343 ≤ behind at (m + 2)
    third_outside =
        let here = next (m + 1) second_outside (λ e. let aa = h 1 (omega arith) in omega (arith, aa, e)) in
        let one : m + 1 + 1 ≡ m + 2 = omega arith in
        subst (λ q. 343 ≤ behind at q) one here

    mark_outside : (k : ℕ) → k < 3 → 343 ≤ behind at (m + k)
    mark_outside zero l = outside (m + 0) (ap value_of (h 0 (omega arith)) ∙ value_of-D5)
    mark_outside (suc zero) l = second_outside
    mark_outside (suc (suc zero)) l = third_outside
    mark_outside (suc (suc (suc k))) l = absurd (omega arith)

  address_kept : (place volume track sector : ℕ) → StandsAt old place (address_field volume track sector) → StandsAt new place (address_field volume track sector)
  address_kept place v t s h = λ k l. w.same (place + k) (address_outside place v t s h k (omega (arith, length-address_field v t s))) ∙ h k l

  -- another data field that counts stands clear of the 343 bytes
  module _ (d m : ℕ) (other : d ≢ at) (e : d ≡ (m + 3) % 6656) (h : StandsAt old m data_mark)
      (table : (k : ℕ) → k < 343 → value_of (nibble_at old (d + k)) < 64) where
    clash : (p j x : ℕ) → p < 343 → j < 3 → (d + p) % 6656 ≡ (at + 6653 + j) % 6656 → nibble_at old (at + 6653 + j) ≡ x → value_of x ≡ 64 → ⊥
    clash p j x l b same is none =
        let here : nibble_at old (d + p) ≡ x = nibble_at-along old _ _ same ∙ is in
        omega (arith, table p l, ap value_of here, none)

    not_inside : (k : ℕ) → k < 343 → behind at (d + k) < 343 → ⊥
    not_inside k l inside = ⊎_elim
        (λ over. ⊎_elim
        (λ near. ⊎_elim
        (λ one.
        let same : nibble_at old (m + 2) ≡ nibble_at old (at + 6653 + 1) = nibble_at-along old _ _ (omega (arith, w.on_track)) in
        let aa = w.old_mark 1 (omega arith) in
        let ad = h 2 (omega arith) in
        omega (arith, same, aa, ad))
        (λ two. clash 0 1 0xAA (omega arith) (omega arith) (omega (arith, w.on_track)) (w.old_mark 1 (omega arith)) value_of-AA)
        (cases_lt k (behind at (d + k) + 2)))
        (λ far. clash (k - behind at (d + k) - 3) 0 0xD5 (omega arith) (omega arith) (omega (arith, w.on_track)) (w.old_mark 0 (omega arith)) value_of-D5)
        (cases_lt k (behind at (d + k) + 3)))
        (λ under. let third = third_outside m h in omega (arith, third, w.on_track))
        (cases_lt (behind at (d + k)) k)

    data_outside : (k : ℕ) → k < 343 → 343 ≤ behind at (d + k)
    data_outside k l = ⊎_elim (λ inside. absurd (not_inside k l inside)) (λ far. far) (cases_lt (behind at (d + k)) 343)

  -- a D5 on the new track is outside
  still : (q : ℕ) → nibble_at new q ≡ 0xD5 → 343 ≤ behind at q
  still q e = ⊎_elim
      (λ inside.
      let same : nibble_at new q ≡ nibble_at new (at + behind at q) = nibble_at-along new _ _ (omega (arith, w.on_track)) in
      absurd (omega (arith, w.new_table (behind at q) inside, ap value_of same, ap value_of e, value_of-D5)))
      (λ far. far)
      (cases_lt (behind at q) 343)

  mark_kept : (start d : ℕ) → HasMark old start d → HasMark new start d
  mark_kept start d h = record {
    gap = h.gap;
    near = h.near;
    first = λ k l e. h.first k l (sym (w.same (start + k) (still (start + k) e)) ∙ e);
    mark = λ k l. w.same (start + h.gap + k) (mark_outside (start + h.gap) h.mark k l) ∙ h.mark k l;
    behind = h.behind;
  }

  table_at : (d : ℕ) → IsDataField (field_at old d) → (k : ℕ) → k < 343 → value_of (nibble_at old (d + k)) < 64
  table_at d h k l =
      subst (λ b. value_of b < 64) (get_or-field_at old d k l) (h.in_table k 0 (omega (arith, length-field_at old d)))

  pub bytes_kept : (track sector place volume d : ℕ) → d ≢ at → IsFieldFrom old track sector place volume d → field_at old d ≡ field_at new d
  bytes_kept t s place v d other h = field_at-from new (field_at old d) d (length-field_at old d)
      (λ k l. get_or-field_at old d k l
      ∙ sym (w.same (d + k) (data_outside d (place + 11 + h.mark.gap) other h.mark.behind h.mark.mark (table_at d h.counts) k l)))

  -- each field that counts still counts
  from_kept : (track sector place volume d : ℕ) → IsFieldFrom old track sector place volume d → IsFieldFrom new track sector place volume d
  from_kept t s place v d h = record {
    volume_fits = h.volume_fits;
    address = address_kept place v t s h.address;
    mark = mark_kept (place + 11) d h.mark;
    counts = ⊎_elim
        (λ here. subst (λ a. IsDataField (field_at new a)) (sym here) w.new_counts)
        (λ other. subst IsDataField (bytes_kept t s place v d other h) h.counts)
        (cases_eq d at);
  }

-- the fields are the same
pub field_kept : (old new : List ℕ) (at : ℕ) → Rewrites old new at → (track sector volume d : ℕ) →
    IsFieldOf old track sector volume d → IsFieldOf new track sector volume d
field_kept old new at w t s v d h = record {
  place = h.place;
  on_track = h.on_track;
  counts = from_kept old new at w t s h.place v d h.counts;
  least = λ q l v' d' h'. h.least q l v' d' (from_kept new old at (flipped old new at w) t s q v' d' h');
}

-- a data field is that of one address field
module _ (nibbles : List ℕ) (t s p v d t' s' p' v' d' : ℕ) (same : d ≡ d')
    (h : IsFieldFrom nibbles t s p v d) (h' : IsFieldFrom nibbles t' s' p' v' d') where
  -- the first address field can't stand behind the second
  not_between : h.mark.gap < h'.mark.gap → ⊥
  not_between less =
      let e = h.mark.behind in
      let e' = h'.mark.behind in
      let step : p % 6656 ≡ (p' + (h'.mark.gap - h.mark.gap)) % 6656 = omega (arith, e, e', same, h.mark.near, h'.mark.near) in
      let here : nibble_at nibbles (p' + (h'.mark.gap - h.mark.gap)) ≡ 0xD5 =
      sym (nibble_at-along nibbles _ _ step) ∙ address_mark nibbles p v t s h.address in
      ⊎_elim
      (λ inside. no_second_mark nibbles p' v' t' s' h'.address (h'.mark.gap - h.mark.gap) (omega arith) inside here)
      (λ past.
      let at : p' + 11 + (h'.mark.gap - h.mark.gap - 11) ≡ p' + (h'.mark.gap - h.mark.gap) = omega arith in
      h'.mark.first (h'.mark.gap - h.mark.gap - 11) (omega arith) (ap (nibble_at nibbles) at ∙ here))
      (cases_lt (h'.mark.gap - h.mark.gap) 11)

one_place : (nibbles : List ℕ) (t s p v d t' s' p' v' d' : ℕ) → d ≡ d' → p < 6656 → p' < 6656 →
    IsFieldFrom nibbles t s p v d → IsFieldFrom nibbles t' s' p' v' d' → p ≡ p'
one_place nibbles t s p v d t' s' p' v' d' same l l' h h' = ⊎_elim
    (λ gaps. let e = h.mark.behind in let e' = h'.mark.behind in omega (arith, e, e', same, gaps))
    (λ other. absurd (⊎_elim
    (not_between nibbles t s p v d t' s' p' v' d' same h h')
    (not_between nibbles t' s' p' v' d' t s p v d (sym same) h' h)
    other))
    (cases_order h.mark.gap h'.mark.gap)

pub one_sector : (nibbles : List ℕ) (t s p v t' s' v' : ℕ) → t < 256 → s < 256 → t' < 256 → s' < 256 →
    StandsAt nibbles p (address_field v t s) → StandsAt nibbles p (address_field v' t' s') → (t ≡ t') × (s ≡ s')
one_sector nibbles t s p v t' s' v' lt ls lt' ls' h h' = (
  sym (track_from_address nibbles p v t s h lt) ∙ track_from_address nibbles p v' t' s' h' lt',
  sym (sector_from_address nibbles p v t s h ls) ∙ sector_from_address nibbles p v' t' s' h' ls',
)

apart : (nibbles : List ℕ) (t s p v d t' s' p' v' d' : ℕ) → p < 6656 → p' < 6656 → t < 256 → s < 256 → t' < 256 → s' < 256 →
    (t' ≢ t) ⊎ (s' ≢ s) → IsFieldFrom nibbles t s p v d → IsFieldFrom nibbles t' s' p' v' d' → d' ≢ d
apart nibbles t s p v d t' s' p' v' d' l l' lt ls lt' ls' other h h' e =
    let place = one_place nibbles t' s' p' v' d' t s p v d e l' l h' h in
    let both = one_sector nibbles t' s' p v' t s v lt' ls' lt ls
    (subst (λ q. StandsAt nibbles q (address_field v' t' s')) place h'.address) h.address in
    ⊎_elim (λ ne. ne both.0) (λ ne. ne both.1) other

-- the write of a sector
module _ (old new : List ℕ) (track sector : ℕ) (content : List ℕ) (w : WritesSector old new track sector content) where
  rewrites : Rewrites old new w.data_at
  rewrites =
      let m = w.field.place + 11 + w.field.counts.mark.gap in
      let e = w.field.counts.mark.behind in
      let mark : StandsAt old (w.data_at + 6653) data_mark =
      λ k l. nibble_at-along old _ _ (omega (arith, e, l)) ∙ w.field.counts.mark.mark k l in
      record {
        on_track = omega (arith, e);
        old_mark = mark;
        new_mark = λ k l. w.others (w.data_at + 6653 + k) (omega (arith, e, l)) ∙ mark k l;
        old_table = λ k l. subst (λ b. value_of b < 64) (get_or-field_at old w.data_at k l)
            (w.field.counts.counts.in_table k 0 (omega (arith, length-field_at old w.data_at)));
        new_table = λ k l. subst (λ b. value_of b < 64) (get_or-field_at new w.data_at k l)
            (w.written.counts.in_table k 0 (omega (arith, length-field_at new w.data_at)));
        old_counts = w.field.counts.counts;
        new_counts = w.written.counts;
        same = w.others;
      }

  back : Rewrites new old w.data_at
  back = flipped old new w.data_at rewrites

  pub same_fields : (t s v d : ℕ) → IsFieldOf old t s v d ↔ IsFieldOf new t s v d
  same_fields t s v d = (field_kept old new w.data_at rewrites t s v d, field_kept new old w.data_at back t s v d)

  pub written_sector : SectorOf new track sector content
  written_sector = record {
    volume = w.volume;
    data_at = w.data_at;
    field = field_kept old new w.data_at rewrites track sector w.volume w.data_at w.field;
    gives = w.written.gives;
  }

  module _ (lt : track < 256) (ls : sector < 256) (t s : ℕ) (lt' : t < 256) (ls' : s < 256) (other : (t ≢ track) ⊎ (s ≢ sector)) where
    apart_old : (v d : ℕ) → IsFieldOf old t s v d → d ≢ w.data_at
    apart_old v d h = apart old track sector w.field.place w.volume w.data_at t s h.place v d w.field.on_track h.on_track
        lt ls lt' ls' other w.field.counts h.counts

    pub same_sector : SameSector old new t s
    same_sector bytes = (
      λ h. record {
        volume = h.volume;
        data_at = h.data_at;
        field = field_kept old new w.data_at rewrites t s h.volume h.data_at h.field;
        gives = subst (λ f. Gives f bytes)
            (bytes_kept old new w.data_at rewrites t s h.field.place h.volume h.data_at (apart_old h.volume h.data_at h.field) h.field.counts) h.gives;
      },
      λ h.
          let field = field_kept new old w.data_at back t s h.volume h.data_at h.field in
          record {
            volume = h.volume;
            data_at = h.data_at;
            field = field;
            gives = subst (λ f. Gives f bytes)
                (bytes_kept new old w.data_at back t s h.field.place h.volume h.data_at (apart_old h.volume h.data_at field) h.field.counts) h.gives;
          },
    )

  pub keeps_others : track < 256 → sector < 256 → KeepsOthers old new track sector
  keeps_others lt ls = record {
    fields = same_fields;
    contents = λ t s lt' ls' other. same_sector lt ls t s lt' ls' other;
  }
