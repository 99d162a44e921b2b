-- What a search finds, and that it finds no other.
use Rattle.std.proofs.Common.{◌≡◌, ◌≢◌, ℕ, ◌+◌, ◌-◌, ◌%◌, ◌<◌, ◌≤◌, List, Option, Some, None, sym, ap, ◌∙◌, subst, arith, ⊎_elim, add-zero}
use Rattle.std.specs.Prelude.{IfNone}
use Rattle.std.proofs.lemmas.Bool.{cases_order}
use Rattle.a2_nibble.specs.Track.{nibble_at, StandsAt}
use Rattle.a2_nibble.specs.Sector.{HasMark, IsFieldOf, data_mark}

pub IfNone_then : {X P Q : Type 0} (r : Option X) → IfNone r P → (P → Q) → IfNone r Q
IfNone_then None p f = f p
IfNone_then (Some x) p f = p

pub IfNone-from : {X P : Type 0} (r : Option X) → P → IfNone r P
IfNone-from None p = p
IfNone-from (Some x) p = tt

module _ (nibbles : List ℕ) (start place : ℕ) (from : start ≤ place) (till : place < start + 64)
    (before : (k : ℕ) → start + k < place → nibble_at nibbles (start + k) ≢ 0xD5) where
  pub HasMark-from : (data_at : ℕ) → data_at ≡ (place + 3) % 6656 → StandsAt nibbles place data_mark → HasMark nibbles start data_at
  HasMark-from data_at e mark =
      let at : place ≡ start + (place - start) = omega arith in
      record {
        gap = place - start;
        near = omega arith;
        first = λ k l. before k (omega arith);
        mark = subst (λ p. StandsAt nibbles p data_mark) at mark;
        behind = e ∙ ap (λ p. (p + 3) % 6656) at;
      }

  pub mark_from : nibble_at nibbles place ≡ 0xD5 → (data_at : ℕ) → HasMark nibbles start data_at → StandsAt nibbles place data_mark
  mark_from here data_at h = ⊎_elim
      (λ same. subst (λ p. StandsAt nibbles p data_mark) same h.mark)
      (λ other. absurd (⊎_elim
      (λ less. before h.gap less (ap (nibble_at nibbles) (sym (add-zero (start + h.gap))) ∙ h.mark 0 (omega arith)))
      (λ more. let at : start + (place - start) ≡ place = omega arith in
      h.first (place - start) (omega arith) (ap (nibble_at nibbles) at ∙ here))
      other))
      (cases_order (start + h.gap) place)

pub no_mark : (nibbles : List ℕ) (start : ℕ) → ((k : ℕ) → k < 64 → nibble_at nibbles (start + k) ≢ 0xD5) →
    (data_at : ℕ) → HasMark nibbles start data_at → ⊥
no_mark nibbles start none data_at h = none h.gap h.near (ap (nibble_at nibbles) (sym (add-zero (start + h.gap))) ∙ h.mark 0 (omega arith))

-- one address field has one data field
pub one_gap : (nibbles : List ℕ) (start d e : ℕ) (h : HasMark nibbles start d) (k : HasMark nibbles start e) → h.gap ≡ k.gap
one_gap nibbles start d e h k = ⊎_elim
    (λ same. same)
    (λ other. absurd (⊎_elim
    (λ less. k.first h.gap less (mark_at d h))
    (λ more. h.first k.gap more (mark_at e k))
    other))
    (cases_order h.gap k.gap)
  where
    mark_at : (d : ℕ) (h : HasMark nibbles start d) → nibble_at nibbles (start + h.gap) ≡ 0xD5
    mark_at d h = ap (nibble_at nibbles) (sym (add-zero (start + h.gap))) ∙ h.mark 0 (omega arith)

pub one_mark : (nibbles : List ℕ) (start d e : ℕ) → HasMark nibbles start d → HasMark nibbles start e → d ≡ e
one_mark nibbles start d e h k = h.behind ∙ ap (λ g. (start + g + 3) % 6656) (one_gap nibbles start d e h k) ∙ sym k.behind

pub data_below : (nibbles : List ℕ) (track sector volume data_at : ℕ) → IsFieldOf nibbles track sector volume data_at → data_at < 6656
data_below nibbles track sector volume data_at h = omega (arith, h.counts.mark.behind)
