-- Plans: where their moves lead, and that they leave a layout.
use Rattle.std.proofs.Common.{◌≡◌, ◌≢◌, ℕ, ◌<◌, ◌↔◌, ◌⊎◌, List, [], ◌∷◌, ◌++◌, length, get_or, set, arith, refl, sym, ap, ◌∙◌, inl, inr}
use Rattle.std.specs.List.{Contains}
use Rattle.std.proofs.lemmas.List.{get_or_default, get_or-set_same, get_or-set_other, length-set}
use Rattle.std.proofs.lemmas.List.Elements.{All-set}
use Rattle.std.proofs.lemmas.Bool.{cases_eq}
use Rattle.vol_layout.specs.declared.moves.Move.{Move}
use Rattle.vol_layout.specs.Layouts.{AreDistinct, IsLayout}
use Rattle.vol_layout.specs.Plans.{IsLegal, IsPlan, moved, after}
use Rattle.vol_layout.proofs.Lists.{one_place}

-- where parts stand after a move
pub Contains-moved :
    (c : List ℕ) (k place q : ℕ) → AreDistinct c → k < length c
    → Contains (set c k place) q ↔ ((q ≡ place) ⊎ (Contains c q × (q ≢ get_or c k 0)))
Contains-moved c k place q distinct part = (
  (λ (i, lt, e).
      let within : i < length c = rw length-set at lt in
      elim (cases_eq i k) [
        | inl same ↦ inl (sym e ∙ (ap (λ j. get_or (set c k place) j q) same ∙ get_or-set_same c k place q part))
        | inr other ↦
            let at : get_or c i q ≡ q = sym (get_or-set_other c k i place q other) ∙ e in
            inr (
              (i, within, at),
              λ there. other (one_place c i k distinct within part (get_or_default c i 0 q within ∙ (at ∙ there))),
            )
      ]),
  (λ where_it_is.
      elim where_it_is [
        | inl e ↦ (k, rw length-set part, get_or-set_same c k place q part ∙ sym e)
        | inr stays ↦
            let (i, lt, at) = stays.0 in
            let other : i ≢ k = λ e. stays.1 (sym at ∙ (ap (λ j. get_or c j q) e ∙ get_or_default c k q 0 part)) in
            (i, rw length-set lt, get_or-set_other c k i place q other ∙ at)
      ]),
)

-- a legal move leaves a layout
pub IsLayout-moved : (c : List ℕ) (places : ℕ) (m : Move) → IsLayout c places → IsLegal c places m → IsLayout (moved c m) places
IsLayout-moved c places m layout legal =
    record {
      distinct = λ i j d before h.
          let in_j : j < length c = rw length-set at h in
          let in_i : i < length c = omega arith in
          elim (cases_eq i m.part) [
            | inl e ↦
                let ne : j ≢ m.part = λ e'. omega arith in
                let here : get_or (moved c m) i d ≡ m.to = ap (λ k. get_or (moved c m) k d) e ∙ get_or-set_same c m.part m.to d legal.part in
                let there = get_or-set_other c m.part j m.to d ne in
                λ same. legal.free (j, in_j, get_or_default c j m.to d in_j ∙ (sym there ∙ (sym same ∙ here)))
            | inr ne ↦
                let here = get_or-set_other c m.part i m.to d ne in
                elim (cases_eq j m.part) [
                  | inl e ↦
                      let there : get_or (moved c m) j d ≡ m.to = ap (λ k. get_or (moved c m) k d) e ∙ get_or-set_same c m.part m.to d legal.part in
                      λ same. legal.free (i, in_i, get_or_default c i m.to d in_i ∙ (sym here ∙ (same ∙ there)))
                  | inr off ↦
                      let there = get_or-set_other c m.part j m.to d off in
                      λ same. layout.distinct i j d before in_j (sym here ∙ (same ∙ there))
                ]
          ];
      below = All-set (λ place. place < places) c m.part m.to legal.place layout.below;
    }

-- and so does a plan
pub IsLayout-after : (c : List ℕ) (places : ℕ) (ms : List Move) → IsLayout c places → IsPlan c places ms → IsLayout (after c ms) places
IsLayout-after c places [] layout legal = layout
IsLayout-after c places (m ∷ ms) layout legal = IsLayout-after (moved c m) places ms (IsLayout-moved c places m layout legal.0) legal.1

-- both parts of a plan are plans
pub plan_parts : (c : List ℕ) (places : ℕ) (ms ns : List Move) → IsPlan c places (ms ++ ns) → IsPlan c places ms × IsPlan (after c ms) places ns
plan_parts c places [] ns legal = (tt, legal)
plan_parts c places (m ∷ ms) ns legal = let rest = plan_parts (moved c m) places ms ns legal.1 in ((legal.0, rest.0), rest.1)

-- where a plan leads goes by its parts
pub after-append : (c : List ℕ) (ms ns : List Move) → after c (ms ++ ns) ≡ after (after c ms) ns
after-append c [] ns = refl
after-append c (m ∷ ms) ns = after-append (moved c m) ms ns

-- one more move
pub IsPlan-push : (c : List ℕ) (places : ℕ) (ms : List Move) (m : Move) → IsPlan c places ms → IsLegal (after c ms) places m → IsPlan c places (ms ++ m ∷ [])
IsPlan-push c places [] m plan legal = (legal, tt)
IsPlan-push c places (x ∷ ms) m plan legal = (plan.0, IsPlan-push (moved c x) places ms m plan.1 legal)

pub after-push : (c : List ℕ) (ms : List Move) (m : Move) → after c (ms ++ m ∷ []) ≡ moved (after c ms) m
after-push c [] m = refl
after-push c (x ∷ ms) m = after-push (moved c x) ms m
