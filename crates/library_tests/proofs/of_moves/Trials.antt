-- Lists that are written out are tried by computation.
use Rattle.std.proofs.Common.{◌≡◌, ◌≢◌, ℕ, ◌<◌, Bool, true, false, List, [], ◌∷◌, length, refl, arith}
use Rattle.std.specs.Prelude.{◌==◌, ◌&&◌, not, nat_lt, slice_index, Contains, All}
use Rattle.std.proofs.lemmas.Bool.Decides.{nat_tests}
use Rattle.std.proofs.lemmas.List.Elements.{All-cons}
use Rattle.std.proofs.lemmas.List.Kept.{AllPairs-cons}
use Rattle.vol_layout.specs.Layouts.{AreDistinct, IsTarget}
use Rattle.vol_layout.specs.Plans.{IsPlan, after, moved}
use Rattle.vol_layout.specs.declared.moves.Move.{Move}
use Rattle.vol_layout.proofs.Lists.{has, has-Contains, Contains-has}
use Rattle.vol_format.specs.Directory.{Directory}
use Rattle.vol_mover.specs.Work.{LeadsToTarget, AreSpare}

both : (a b : Bool) → (a && b) ≡ true → (a ≡ true) × (b ≡ true)
both true b is = (refl, is)
both false b is = absurd (let e : false ≡ true = is in cc)

none : (test : Bool) → not test ≡ true → test ≡ true → ⊥
none true fails holds = absurd (let e : false ≡ true = fails in cc)
none false fails holds = absurd (let e : false ≡ true = holds in cc)

-- each element passes a test
abbrev pub passes : (ℕ → Bool) → List ℕ → Bool
passes test [] = true
passes test (x ∷ xs) = test x && passes test xs

all_pass : (test : ℕ → Bool) (P : ℕ → Type 0) → ((x : ℕ) → test x ≡ true → P x) → (xs : List ℕ) → passes test xs ≡ true → All P xs
all_pass test P sound [] is = λ i d within. absurd (omega (arith, within))
all_pass test P sound (x ∷ xs) is = let parts = both (test x) (passes test xs) is in All-cons P x xs (sound x parts.0) (all_pass test P sound xs parts.1)

-- no two are equal
abbrev pub differ : List ℕ → Bool
differ [] = true
differ (x ∷ xs) = passes (λ y. not (x == y)) xs && differ xs

all_differ : (xs : List ℕ) → differ xs ≡ true → AreDistinct xs
all_differ [] is = λ i j d order within. absurd (omega (arith, order, within))
all_differ (x ∷ xs) is =
    let parts = both (passes (λ y. not (x == y)) xs) (differ xs) is in
    AllPairs-cons (λ a b. a ≢ b) x xs (all_pass (λ y. not (x == y)) (λ y. x ≢ y) (λ y fails same. none (x == y) fails (grind (arith, nat_tests))) xs parts.0) (all_differ xs parts.1)

-- each move is legal
abbrev pub plans : List ℕ → ℕ → List Move → Bool
plans at places [] = true
plans at places (move ∷ moves) =
    (nat_lt move.part (length at) && (nat_lt move.to places && not (has move.to at))) && plans (moved at move) places moves

is_plan : (at : List ℕ) (places : ℕ) (moves : List Move) → plans at places moves ≡ true → IsPlan at places moves
is_plan at places [] is = tt
is_plan at places (move ∷ moves) is =
    let parts = both (nat_lt move.part (length at) && (nat_lt move.to places && not (has move.to at))) (plans (moved at move) places moves) is in
    let here = both (nat_lt move.part (length at)) (nat_lt move.to places && not (has move.to at)) parts.0 in
    let there = both (nat_lt move.to places) (not (has move.to at)) here.1 in (
      record {
        part = let e = here.0 in grind (arith, nat_tests);
        place = let e = there.0 in grind (arith, nat_tests);
        free = λ inside. none (has move.to at) there.1 (has-Contains move.to at inside);
      },
      is_plan (moved at move) places moves parts.1,
    )

pub tried_plan : (available at : List ℕ) (moves : List Move) → (differ at && (passes (λ n. nat_lt n (length available)) at && plans at (length available) moves)) ≡ true
    → IsTarget (after at moves) → (directory : Directory) → directory.available ≡ available → LeadsToTarget directory at moves
tried_plan available at moves is target directory same =
    let parts = both (differ at) (passes (λ n. nat_lt n (length available)) at && plans at (length available) moves) is in
    let rest = both (passes (λ n. nat_lt n (length available)) at) (plans at (length available) moves) parts.1 in
    record {
      layout = record {
        distinct = all_differ at parts.0;
        below = rw same (all_pass (λ n. nat_lt n (length available)) (λ n. n < length available) (λ n e. grind (arith, nat_tests)) at rest.0);
      };
      legal = rw same (is_plan at (length available) moves rest.1);
      target = target;
    }

pub tried_spare : (available at lost : List ℕ)
    → (differ lost && (passes (λ place. nat_lt place 560) lost && (passes (λ place. has place available) lost && passes (λ n. not (has (slice_index available n) lost)) at))) ≡ true
    → (directory : Directory) → directory.available ≡ available → directory.map_size ≡ 560 → AreSpare directory at lost
tried_spare available at lost is directory same size =
    let first = both (differ lost) (passes (λ place. nat_lt place 560) lost && (passes (λ place. has place available) lost && passes (λ n. not (has (slice_index available n) lost)) at)) is in
    let second = both (passes (λ place. nat_lt place 560) lost) (passes (λ place. has place available) lost && passes (λ n. not (has (slice_index available n) lost)) at) first.1 in
    let third = both (passes (λ place. has place available) lost) (passes (λ n. not (has (slice_index available n) lost)) at) second.1 in
    let below = all_pass (λ place. nat_lt place 560) (λ place. place < 560) (λ place e. grind (arith, nat_tests)) lost second.0 in
    let apart = all_pass (λ n. not (has (slice_index available n) lost)) (λ n. Contains lost (slice_index available n) → ⊥)
    (λ n e inside. none (has (slice_index available n) lost) e (has-Contains (slice_index available n) lost inside)) at third.1 in
    record {
      available = rw same (all_pass (λ place. has place available) (Contains available) (λ place e. Contains-has place available e) lost third.0);
      once = all_differ lost first.0;
      by_unit = rw size (λ i j d order within. omega (arith, below i d (omega (arith, order, within)), below j d within));
      no_part = rw same (λ k inside. apart k 0 inside);
    }
