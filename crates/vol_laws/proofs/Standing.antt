-- Where the parts stand after a write.
use Rattle.std.specs.Prelude.{◌≡◌, ◌≢◌, ◌<◌, ℕ, List, length, Contains, slice_index, slice_index_or, slice_set}
use Rattle.std.proofs.Common.{sym, ◌∙◌, ap, subst, arith, inl, inr, get_or}
use Rattle.std.proofs.lemmas.Bool.{cases_eq, cases_lt}
use Rattle.std.proofs.lemmas.List.{get_or-set_same, get_or-set_other, get_or_default, length-set}
use Rattle.a2_device.specs.declared.part.Part.{Part}
use Rattle.vol_layout.specs.Layouts.{AreDistinct, IsLayout}
use Rattle.vol_layout.proofs.PlanLemmas.{IsLayout-moved}
use Rattle.vol_format.specs.Directory.{Directory}
use Rattle.vol_format.specs.Meaning.{Meaning}
use Rattle.vol_format.specs.Reach.{Reach}
use Rattle.vol_format.specs.Standing.{Stands, at_place, no_part, part_now}
use Rattle.vol_format.proofs.Frames.{same_available}
use Rattle.vol_laws.specs.Kept.{IsKept, IsUnreached}
use Rattle.vol_laws.specs.Moved.{moved, HasMoved}
use Rattle.vol_laws.proofs.Moving.{stays, goes}

-- no two places of a list are one
same_index : (places : List ℕ) (i j d : ℕ) → AreDistinct places → i < length places → j < length places → get_or places i d ≡ get_or places j d → i ≡ j
same_index places i j d once hi hj same = elim (cases_lt i j) [
  | inl less ↦ absurd (once i j d less hj same)
  | inr not_less ↦ elim (cases_lt j i) [
    | inl more ↦ absurd (once j i d more hi (sym same))
    | inr not_more ↦ omega arith
  ]
]

module _ (format : Meaning) (before after : Directory) (old new : List (List ℕ)) (parts : List Part) where
  pub kept_stands : (layout : List ℕ) → IsKept format before after old new → Stands format before old parts layout → Stands format after new parts layout
  kept_stands layout kept stands =
      let same = same_available before after kept.frame in
      record {
        ordered = stands.ordered;
        size = stands.size;
        is_layout = subst (λ places. IsLayout layout (length places)) (sym same) stands.is_layout;
        reached = λ k inside. subst (λ places. Reach format after new (part_now parts places layout k)) (sym same)
            ((kept.parts (part_now parts before.available layout k)).0 (stands.reached k inside));
        all = λ part reach.
            let at = stands.all part ((kept.parts part).1 reach) in
            (at.0, at.1, at.2 ∙ ap (λ places. part_now parts places layout at.0) (sym same));
      }

  -- a part moves to the place of a number
  module _ (layout : List ℕ) (k number : ℕ) (once : AreDistinct before.available) (inside : k < length parts) (number_inside : number < length before.available)
      (stands : Stands format before old parts layout) (unreached : IsUnreached format before old (slice_index before.available number)) where
    abbrev part : Part
    part = part_now parts before.available layout k

    abbrev place : ℕ
    place = slice_index before.available number

    inside_layout : (j : ℕ) → j < length parts → j < length layout
    inside_layout j within = omega (arith, stands.size)

    inside_parts : (j : ℕ) → j < length layout → j < length parts
    inside_parts j within = omega (arith, stands.size)

    not_taken : Contains layout number → ⊥
    not_taken has =
        let at : slice_index layout has.0 ≡ number = get_or_default layout has.0 0 number has.1 ∙ has.2 in
        unreached (part_now parts before.available layout has.0) (stands.reached has.0 (inside_parts has.0 has.1)) (ap (slice_index before.available) at)

    elsewhere : (j : ℕ) → j < length parts → j ≢ k → (part_now parts before.available layout j).place ≢ part.place
    elsewhere j within differ same =
        let numbers = same_index before.available (slice_index layout j) (slice_index layout k) 0 once
        (stands.is_layout.below j 0 (inside_layout j within)) (stands.is_layout.below k 0 (inside_layout k inside)) same in
        absurd (differ (same_index layout j k 0 stands.is_layout.distinct (inside_layout j within) (inside_layout k inside) numbers))

    now : (j : ℕ) → j < length parts → moved part place (part_now parts before.available layout j) ≡ part_now parts before.available (slice_set layout k number) j
    now j within = elim (cases_eq j k) [
      | inl same ↦
          goes part place (part_now parts before.available layout j) (ap (λ n. (part_now parts before.available layout n).place) same)
          ∙ ap (λ n. at_place (slice_index_or parts j no_part) (slice_index before.available n))
          (sym (get_or-set_same layout k number 0 (inside_layout k inside)) ∙ ap (slice_index (slice_set layout k number)) (sym same))
      | inr differ ↦
          stays part place (part_now parts before.available layout j) (elsewhere j within differ)
          ∙ ap (λ n. at_place (slice_index_or parts j no_part) (slice_index before.available n)) (sym (get_or-set_other layout k j number 0 differ))
    ]

    pub moved_stands : HasMoved format before after (part_now parts before.available layout k) (slice_index before.available number) old new
        → Stands format after new parts (slice_set layout k number)
    moved_stands has =
        let same = same_available before after has.frame in
        record {
          ordered = stands.ordered;
          size = length-set layout k number ∙ stands.size;
          is_layout = subst (λ places. IsLayout (slice_set layout k number) (length places)) (sym same)
              (IsLayout-moved layout (length before.available) (record { part = k; to = number }) stands.is_layout
              (record { part = inside_layout k inside; place = number_inside; free = not_taken }));
          reached = λ j within. subst (λ places. Reach format after new (part_now parts places (slice_set layout k number) j)) (sym same)
              (subst (Reach format after new) (now j within) (has.keeps (part_now parts before.available layout j) (stands.reached j within)));
          all = λ x reach.
              let was = has.adds_none x reach in
              let j = stands.all was.0 was.1 in
              (j.0, j.1, was.2 ∙ ap (moved part place) j.2 ∙ now j.0 j.1 ∙ ap (λ places. part_now parts places (slice_set layout k number) j.0) (sym same));
        }
