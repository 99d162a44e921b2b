-- Which places are taken, as parts are put there and moved.
use Rattle.std.proofs.Common.{◌≡◌, ℕ, ◌+◌, ◌<◌, List, Bool, true, false, [], ◌∷◌, ◌++◌, length, get_or, set, take, replicate, sym, ap, subst, ◌∙◌, inl, inr}
use Rattle.std.specs.List.{Contains}
use Rattle.std.proofs.lemmas.Bool.{cases_eq, cases_lt, false≢true}
use Rattle.std.proofs.lemmas.List.{get_or-set_same, get_or-set_other, length-set, get_or-replicate, get_or_past, length-replicate, take_more}
use Rattle.std.proofs.lemmas.List.Elements.{Contains-append_left, Contains-push, Contains-push_cases}
use Rattle.vol_layout.specs.Layouts.{AreDistinct}
use Rattle.vol_layout.proofs.Lists.{Contains-nil}
use Rattle.vol_layout.proofs.PlanLemmas.{Contains-moved}
use Rattle.ring_cert.specs.Boards.{TellsTaken}

-- no place is taken yet
nothing_taken : (places place : ℕ) → get_or (replicate places false) place false ≡ false
nothing_taken places place =
    elim (cases_lt place places) [
      | inl lt ↦ get_or-replicate places place false false lt
      | inr past ↦ get_or_past (replicate places false) place false (rw length-replicate past)
    ]

pub TellsTaken-none : (places : ℕ) (taken : List Bool) → taken ≡ replicate places false → TellsTaken [] taken
TellsTaken-none places taken e place = (
  (λ yes. absurd (false≢true (sym (ap (λ t. get_or t place false) e ∙ nothing_taken places place) ∙ yes))),
  (λ some. absurd (Contains-nil place some)),
)

-- one more part
pub TellsTaken-push : (at : List ℕ) (taken : List Bool) (x : ℕ) → x < length taken → TellsTaken at taken → TellsTaken (at ++ x ∷ []) (set taken x true)
TellsTaken-push at taken x room tells q =
    elim (cases_eq q x) [
      | inl e ↦ (
        (λ _. subst (Contains (at ++ x ∷ [])) (sym e) (Contains-push at x)),
        (λ _. ap (λ p. get_or (set taken x true) p false) e ∙ get_or-set_same taken x true false room),
      )
      | inr other ↦
          let same = get_or-set_other taken x q true false other in (
            (λ yes. Contains-append_left at (x ∷ []) q ((tells q).0 (sym same ∙ yes))),
            (λ some.
                elim (Contains-push_cases at x q some) [
                  | inl before ↦ same ∙ (tells q).1 before
                  | inr last ↦ absurd (other (sym last))
                ]),
          )
    ]

-- a part goes to a place where none stands
pub TellsTaken-moved :
    (at : List ℕ) (taken : List Bool) (k place left : ℕ) → AreDistinct at → k < length at → left ≡ get_or at k 0
    → left < length taken → place < length taken → TellsTaken at taken
    → TellsTaken (set at k place) (set (set taken left false) place true)
TellsTaken-moved at taken k place left distinct part left_is within room tells q =
    let stands = Contains-moved at k place q distinct part in
    elim (cases_eq q place) [
      | inl here ↦
          let long : place < length (set taken left false) = rw length-set room in (
            (λ _. stands.1 (inl here)),
            (λ _. ap (λ p. get_or (set (set taken left false) place true) p false) here ∙ get_or-set_same (set taken left false) place true false long),
          )
      | inr off ↦
          let one = get_or-set_other (set taken left false) place q true false off in
          elim (cases_eq q left) [
            | inl at_left ↦
                let nothing = ap (λ p. get_or (set taken left false) p false) at_left ∙ get_or-set_same taken left false false within in (
                  (λ yes. absurd (false≢true (sym (one ∙ nothing) ∙ yes))),
                  (λ some.
                      elim (stands.0 some) [
                        | inl here ↦ absurd (off here)
                        | inr stays ↦ absurd (stays.1 (at_left ∙ left_is))
                      ]),
                )
            | inr away ↦
                let two = get_or-set_other taken left q false false away in (
                  (λ yes. stands.1 (inr ((tells q).0 (sym (one ∙ two) ∙ yes), λ e. away (e ∙ sym left_is)))),
                  (λ some.
                      elim (stands.0 some) [
                        | inl here ↦ absurd (off here)
                        | inr stays ↦ (one ∙ two) ∙ (tells q).1 stays.0
                      ]),
                )
          ]
    ]

-- so many places, and those of the first i parts are told as taken
pub record TakenTo (at : List ℕ) (places : ℕ) (taken : List Bool) (i : ℕ) : Type 0 where
  pub size : length taken ≡ places
  pub tells : TellsTaken (take i at) taken

pub TakenTo-more :
    (at : List ℕ) (places : ℕ) (taken : List Bool) (i : ℕ) → i < length at → get_or at i 0 < places → TakenTo at places taken i
    → TakenTo at places (set taken (get_or at i 0) true) (i + 1)
TakenTo-more at places taken i within below to =
    let room : get_or at i 0 < length taken = rw to.size below in
    record {
      size = rw length-set to.size;
      tells = rw (take_more at i 0 within) (TellsTaken-push (take i at) taken (get_or at i 0) room to.tells);
    }
