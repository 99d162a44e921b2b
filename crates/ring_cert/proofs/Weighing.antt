-- The walk over the lists that a certificate tells as rings.
use Rattle.std.proofs.Common.{◌≡◌, ℕ, ◌+◌, ◌<◌, List, [], ◌++◌, true, false, length, get_or, take, Option, None, Some, MatchOption, sym, ap, subst, ◌∙◌}
use Rattle.std.specs.List.{All, concat}
use Rattle.std.specs.Option.{is_none}
use Rattle.std.proofs.lemmas.Bool.{false≢true}
use Rattle.std.proofs.lemmas.List.{get_or_default}
use Rattle.std.proofs.lemmas.List.Elements.{All-more}
use Rattle.vol_layout.specs.Rings.{IsRing}
use Rattle.ring_cert.specs.declared.seen.Seen.{Seen}
use Rattle.ring_cert.specs.Good.{IsFirstNot}
use Rattle.ring_cert.specs.Seen.{HasMet}
use Rattle.ring_cert.proofs.Repeats.{concat_more}

-- the first of the first i lists that is no ring
abbrev pub IsBrokenTo : List ℕ → List (List ℕ) → ℕ → Option ℕ → Type 0
IsBrokenTo at rings i broken = MatchOption broken (All (IsRing at) (take i rings)) (IsFirstNot (IsRing at) rings)

-- the numbers of the first i lists were met, and the first of these lists that is no ring is known
pub record WeighedTo {A : Type 0} (at : List ℕ) (rings : List (List ℕ)) (seen : Seen A) (broken : Option ℕ) (i : ℕ) : Type 0 where
  pub met : HasMet seen (concat (take i rings))
  pub first : IsBrokenTo at rings i broken

-- the numbers of one more list
pub numbers_more :
    (rings : List (List ℕ)) (i : ℕ) (numbers : List ℕ) → i < length rings → numbers ≡ get_or rings i []
    → concat (take i rings) ++ numbers ≡ concat (take (i + 1) rings)
numbers_more rings i numbers within is = ap (λ xs. concat (take i rings) ++ xs) is ∙ sym (concat_more rings i [] within)

module _ (at : List ℕ) (rings : List (List ℕ)) (i : ℕ) (within : i < length rings) where
  -- the list at i is the first that is no ring
  pub broken_here :
      (broken : Option ℕ) → is_none broken ≡ true → IsBrokenTo at rings i broken → (IsRing at (get_or rings i []) → ⊥)
      → IsFirstNot (IsRing at) rings i
  broken_here None none before not =
      record {
        within = within;
        before = before;
        here = λ d ring. not (subst (IsRing at) (get_or_default rings i d [] within) ring);
      }
  broken_here (Some x) none before not = absurd (false≢true none)

  -- the list at i is a ring
  pub whole_here :
      (broken : Option ℕ) → is_none broken ≡ true → IsBrokenTo at rings i broken → IsRing at (get_or rings i [])
      → IsBrokenTo at rings (i + 1) broken
  whole_here None none before ring = All-more (IsRing at) rings i [] within before ring
  whole_here (Some x) none before ring = absurd (false≢true none)

  -- one before is none
  pub broken_before : (broken : Option ℕ) → is_none broken ≡ false → IsBrokenTo at rings i broken → IsBrokenTo at rings (i + 1) broken
  broken_before None none before = absurd (false≢true (sym none))
  broken_before (Some x) none before = before
