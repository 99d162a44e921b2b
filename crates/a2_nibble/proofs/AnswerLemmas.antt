-- What a search for a sector answers, and that there is one answer.
use Rattle.std.proofs.Common.{◌≡◌, ◌≢◌, ℕ, ◌+◌, ◌<◌, ◌≤◌, ◌⊎◌, ◌↔◌, List, length, get_or, set, Option, Some, None, sym, ap, ◌∙◌, subst, arith, ⊎_elim}
use Rattle.std.specs.Prelude.{IfSome, IfNone, slice_get}
use Rattle.std.proofs.lemmas.Bool.{cases_lt, cases_eq}
use Rattle.std.proofs.lemmas.Grind.{get_or-set_at}
use Rattle.std.proofs.lemmas.List.{length-set, get_or-set_other}
use Rattle.std.proofs.lemmas.Option.{get_or_from_slice_get, slice_get-get_or, slice_get_within}
use Rattle.a2_nibble.specs.declared.search.Field.{Field}
use Rattle.a2_nibble.specs.Address.{number_of}
use Rattle.a2_nibble.specs.Track.{nibble_at, field_at}
use Rattle.a2_nibble.specs.Sector.{IsFieldFrom, IsFieldOf, HasNoSector}
use Rattle.a2_nibble.specs.Search.{FindsSector, FindsBelow}
use Rattle.a2_nibble.proofs.AddressLemmas.{address_mark, sector_from_address}
use Rattle.a2_nibble.proofs.RingLemmas.{length-field_at}
use Rattle.a2_nibble.proofs.FieldLemmas.{some_content}
use Rattle.a2_nibble.proofs.OneLemmas.{one_data, one_volume}

-- what holds of each slot holds still where one is set
pub slots-set : (P : ℕ → Option Field → Type 0) (fields : List (Option Field)) (slot : ℕ) (new : Option Field) →
    slot < length fields → P slot new → ((s : ℕ) (answer : Option Field) → s ≢ slot → slice_get fields s ≡ Some answer → P s answer) →
    (s : ℕ) (answer : Option Field) → slice_get (set fields slot new) s ≡ Some answer → P s answer
slots-set P fields slot new room here others s answer is =
    let read : get_or (set fields slot new) s new ≡ answer = get_or_from_slice_get (set fields slot new) s answer new is in
    let within : s < length fields = omega (arith, slice_get_within (set fields slot new) s answer is, length-set fields slot new) in
    ⊎_elim
    (λ same.
    let now : new ≡ answer = sym (get_or-set_at fields slot s new new same room) ∙ read in
    subst (P s) now (subst (λ n. P n new) (sym same) here))
    (λ other. others s answer other
    (slice_get-get_or fields s new within ∙ ap Some (sym (get_or-set_other fields slot s new new other) ∙ read)))
    (cases_eq s slot)

module _ (nibbles : List ℕ) (track sector : ℕ) where
  one_field : (f g : Field) → IsFieldOf nibbles track sector f.volume f.data_at → IsFieldOf nibbles track sector g.volume g.data_at → f ≡ g
  one_field f g h k =
      ap (λ d. let field : Field = record { data_at = d; volume = f.volume } in field) (one_data nibbles track sector _ _ _ _ h k)
      ∙ ap (λ v. let field : Field = record { data_at = g.data_at; volume = v } in field) (one_volume nibbles track sector _ _ _ _ h k)

  pub one_answer : (a b : Option Field) → FindsSector nibbles track sector a → FindsSector nibbles track sector b → a ≡ b
  one_answer None None h k = cc
  one_answer None (Some g) h k = absurd (h.none k.found.0 k.found.1 g.volume g.data_at k.found.2)
  one_answer (Some f) None h k = absurd (k.none h.found.0 h.found.1 f.volume f.data_at h.found.2)
  one_answer (Some f) (Some g) h k = ap Some (one_field f g h.found.2 k.found.2)

  -- no field is from a place where no mark stands
  pub no_field_off_mark : (place : ℕ) → nibble_at nibbles place ≢ 0xD5 → (v d : ℕ) → IsFieldFrom nibbles track sector place v d → ⊥
  no_field_off_mark place off v d h = off (address_mark nibbles place v track sector h.address)

  -- nor from a place where another sector's number stands
  pub no_field_of_other : (place number : ℕ) → sector < 256 → number ≡ number_of (nibble_at nibbles (place + 7)) (nibble_at nibbles (place + 7 + 1)) →
      number ≢ sector → (v d : ℕ) → IsFieldFrom nibbles track sector place v d → ⊥
  no_field_of_other place number small e other v d h =
      let at : place + 7 + 1 ≡ place + 8 = omega arith in
      other (e ∙ ap (λ q. number_of (nibble_at nibbles (place + 7)) (nibble_at nibbles q)) at
      ∙ sector_from_address nibbles place v track sector h.address small)

  -- one more place that gives the sector no field
  pub FindsBelow-more : (place : ℕ) → ((v d : ℕ) → IsFieldFrom nibbles track sector place v d → ⊥) →
      (answer : Option Field) → FindsBelow nibbles track sector place answer → FindsBelow nibbles track sector (place + 1) answer
  FindsBelow-more place absent (Some f) h = record { found = h.found; none = tt }
  FindsBelow-more place absent None h = record { found = tt; none = none_below }
    where
      none_below : (q : ℕ) → q < place + 1 → (v d : ℕ) → IsFieldFrom nibbles track sector q v d → ⊥
      none_below q l v d k = ⊎_elim
          (λ under. h.none q under v d k)
          (λ over. let at : q ≡ place = omega arith in absent v d (subst (λ p. IsFieldFrom nibbles track sector p v d) at k))
          (cases_lt q place)

  -- a place where another sector's number stands
  pub FindsBelow-other : (place number : ℕ) → sector < 256 → number ≡ number_of (nibble_at nibbles (place + 7)) (nibble_at nibbles (place + 7 + 1)) →
      sector ≢ number → (answer : Option Field) → FindsBelow nibbles track sector place answer → FindsBelow nibbles track sector (place + 1) answer
  FindsBelow-other place number small e other = FindsBelow-more place (no_field_of_other place number small e (λ same. other (sym same)))

  -- the first place that gives the sector a field, or one more that gives none
  pub FindsBelow-from : (place : ℕ) → place < 6656 → FindsBelow nibbles track sector place None → (answer : Option Field) →
      IfSome answer (λ f. IsFieldFrom nibbles track sector place f.volume f.data_at) →
      IfNone answer ((v d : ℕ) → IsFieldFrom nibbles track sector place v d → ⊥) →
      FindsBelow nibbles track sector (place + 1) answer
  FindsBelow-from place l h None some none = FindsBelow-more place none None h
  FindsBelow-from place l h (Some f) some none = record {
    found = record { place = place; on_track = l; counts = some; least = h.none };
    none = tt;
  }

  -- the whole track is searched
  pub FindsSector-from_below : track < 35 → sector < 16 → (answer : Option Field) → FindsBelow nibbles track sector 6656 answer → FindsSector nibbles track sector answer
  FindsSector-from_below lt ls (Some f) h = record { found = (lt, ls, h.found); none = tt }
  FindsSector-from_below lt ls None h = record { found = tt; none = λ _ _ v d k. h.none k.place k.on_track v d k.counts }

  -- a sector with a field has a content
  pub no_sector : HasNoSector nibbles track sector → (v d : ℕ) → IsFieldOf nibbles track sector v d → ⊥
  no_sector absent v d h =
      let some = some_content (field_at nibbles d) (length-field_at nibbles d) h.counts.counts in
      absent some.0 (record { volume = v; data_at = d; field = h; gives = some.1 })

  -- a track or a number out of range has no field
  pub FindsSector-out_of_range : (35 ≤ track) ⊎ (16 ≤ sector) → FindsSector nibbles track sector None
  FindsSector-out_of_range out = record { found = tt; none = λ lt ls v d k. ⊎_elim (λ t. absurd (omega arith)) (λ s. absurd (omega arith)) out }

-- the answers are the same where the fields are
answer_kept : (old new : List ℕ) (track sector : ℕ) → ((v d : ℕ) → IsFieldOf old track sector v d ↔ IsFieldOf new track sector v d) →
    (answer : Option Field) → FindsSector old track sector answer → FindsSector new track sector answer
answer_kept old new track sector same None h = record { found = tt; none = λ lt ls v d k. h.none lt ls v d ((same v d).1 k) }
answer_kept old new track sector same (Some f) h = record { found = (h.found.0, h.found.1, (same f.volume f.data_at).0 h.found.2); none = tt }

pub same_answer : (old new : List ℕ) (track sector : ℕ) → ((v d : ℕ) → IsFieldOf old track sector v d ↔ IsFieldOf new track sector v d) →
    (answer : Option Field) → FindsSector old track sector answer ↔ FindsSector new track sector answer
same_answer old new track sector same answer = (
  answer_kept old new track sector same answer,
  answer_kept new old track sector (λ v d. ((same v d).1, (same v d).0)) answer,
)
