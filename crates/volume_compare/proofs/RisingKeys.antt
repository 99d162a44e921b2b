-- Keys in rising order.
use Rattle.std.specs.Prelude.{◌≡◌, ◌<◌, ◌≤◌, ◌+◌, ℕ, true, false, List, [], ◌∷◌, ◌++◌, Option, Some, None, length}
use Rattle.std.specs.List.{Contains}
use Rattle.std.specs.List.Sorted.{IsNonDecreasingBy, IsPartitionPoint, IsPermutation, IsSortedByKey}
use Rattle.std.specs.Ordering.{is_lt, nat_cmp, ordering_then}
use Rattle.std.specs.declared.cmp.Ordering.{Ordering}
use Rattle.std.proofs.lemmas.Bool.Decides.{nat_tests}
use Rattle.std.proofs.Common.{refl, sym, ◌∙◌, ap, subst, arith, inl, inr, ltb, leb}
use Rattle.std.proofs.lemmas.Bool.{cases_lt, ltb-true, leb-false}
use Rattle.std.proofs.lemmas.List.{get_or_default, length_push}
use Rattle.std.proofs.lemmas.List.Elements.{Contains-append_left, Contains-push, Contains-push_cases}
use Rattle.std.proofs.lemmas.List.Sorted.{Contains-permutation, IsPermutation-sym, length_permutation, ranks_by, sorted_far}
use Rattle.std.proofs.lemmas.Cmp.{nat_cmp_total, on_total, then_total}
use Rattle.volume_compare.specs.Pairs.{path_at}
use Rattle.volume_compare.specs.Candidates.{AreKeysUpTo, AreRising, IsKey, IsRun, key_at, key_of, no_key}
use Rattle.volume_compare.specs.declared.keys.Key.{Key}

-- between the first that is not less, and the first that is greater
pub run_of : (keys : List Key) (hash start end : ℕ) → start ≤ length keys → end ≤ length keys
    → IsPartitionPoint (λ (key : Key). ltb key.hash hash ≡ true) (λ (key : Key). ltb key.hash hash ≡ false) keys start
    → IsPartitionPoint (λ (key : Key). leb key.hash hash ≡ true) (λ (key : Key). leb key.hash hash ≡ false) keys end
    → IsRun keys hash start end
run_of keys hash start end begun ended low high = record { begun = begun; ended = ended; all = all }
  where
    all : (place : ℕ) → place < length keys → (key_at keys place).hash ≡ hash → (start ≤ place) × (place < end)
    all place inside is = (
      elim (cases_lt place start) [
        | inl before ↦ absurd (omega (arith, ltb-true (key_at keys place).hash hash (low.0 place no_key (omega arith) before), is))
        | inr behind ↦ behind
      ],
      elim (cases_lt place end) [
        | inl before ↦ before
        | inr behind ↦ absurd (omega (arith, leb-false (key_at keys place).hash hash (high.1 place no_key behind inside), is))
      ],
    )

module _ (paths : List (Option (List ℕ))) (file : ℕ) (keys : List Key) (before : AreKeysUpTo paths file keys) where
  -- the next entry is that of a file
  pub keys_more : (path : List ℕ) → path_at paths file ≡ Some path → AreKeysUpTo paths (file + 1) (keys ++ key_of path file ∷ [])
  keys_more path is = record {
    short = omega (arith, length_push keys (key_of path file), before.short);
    each = λ key has. elim (Contains-push_cases keys (key_of path file) key has) [
      | inl old ↦ before.each key old
      | inr here ↦ subst (IsKey paths) here (path, is, refl)
    ];
    all = all;
  }
    where
      all : (any : ℕ) (other : List ℕ) → any < file + 1 → path_at paths any ≡ Some other → Contains (keys ++ key_of path file ∷ []) (key_of other any)
      all any other low has = elim (cases_lt any file) [
        | inl old ↦ Contains-append_left keys (key_of path file ∷ []) (key_of other any) (before.all any other old has)
        | inr high ↦
            let here : any ≡ file = omega arith in
            let same : path ≡ other = cc (is, has, here) in
            let one : key_of path file ≡ key_of other any = ap (λ (p : List ℕ). key_of p file) same ∙ ap (key_of other) (sym here) in
            subst (Contains (keys ++ key_of path file ∷ [])) one (Contains-push keys (key_of path file))
      ]

  -- the next entry is that of a directory
  pub keys_less : path_at paths file ≡ None → AreKeysUpTo paths (file + 1) keys
  keys_less is = record {
    short = omega (arith, before.short);
    each = before.each;
    all = λ any other low has. elim (cases_lt any file) [
      | inl old ↦ before.all any other old has
      | inr high ↦ absurd (let here : any ≡ file = omega arith in cc (is, has, here))
    ];
  }

-- keys in another order
pub keys_moved : (paths : List (Option (List ℕ))) (many : ℕ) (keys moved : List Key) → IsPermutation keys moved → AreKeysUpTo paths many keys → AreKeysUpTo paths many moved
keys_moved paths many keys moved same are = record {
  short = omega (arith, are.short, length_permutation keys moved same);
  each = λ key has. are.each key (Contains-permutation moved keys key (IsPermutation-sym keys moved same) has);
  all = λ file path low is. Contains-permutation keys moved (key_of path file) same (are.all file path low is);
}

-- keys that rise do so by their hashes
pub by_hash : (keys : List Key) → AreRising keys → IsNonDecreasingBy (λ (key : Key). key.hash) keys
by_hash keys rising place later d order inside =
    let low : place < length keys = omega arith in
    let one = ap (λ (key : Key). key.hash) (get_or_default keys place d no_key low) in
    let other = ap (λ (key : Key). key.hash) (get_or_default keys later d no_key inside) in
    omega (arith, one, other, rising.hashes place later order inside)

-- ---- after the sort

abbrev pub in_pair : Key → ℕ × ℕ
in_pair key = (key.hash, key.file)

abbrev pub pair_cmp : ℕ × ℕ → ℕ × ℕ → Ordering
pair_cmp one other = ordering_then (nat_cmp one.0 other.0) (nat_cmp one.1 other.1)

not_below : (a b c d : ℕ) → is_lt (ordering_then (nat_cmp a b) (nat_cmp c d)) ≡ false → (b ≤ a) × (b ≡ a → d ≤ c)
not_below a b c d is = (grind (arith, nat_tests), λ same. grind (arith, nat_tests))

pub rising : (keys : List Key) → IsSortedByKey in_pair pair_cmp keys → AreRising keys
rising keys sorted = record {
  hashes = λ place later order inside. (at place later order inside).0;
  files = λ place later order inside same. (at place later order inside).1 same;
}
  where
    at : (place later : ℕ) → place ≤ later → later < length keys
        → ((key_at keys place).hash ≤ (key_at keys later).hash) × ((key_at keys place).hash ≡ (key_at keys later).hash → (key_at keys place).file ≤ (key_at keys later).file)
    at place later order inside =
        not_below (key_at keys later).hash (key_at keys place).hash (key_at keys later).file (key_at keys place).file
        (sorted_far (λ (one other : Key). is_lt (pair_cmp (in_pair one) (in_pair other)))
        (ranks_by (then_total (on_total (λ (pair : ℕ × ℕ). pair.0) nat_cmp_total) (on_total (λ (pair : ℕ × ℕ). pair.1) nat_cmp_total)) in_pair)
        keys sorted place later no_key order inside)
