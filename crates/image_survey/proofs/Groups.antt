-- Groups of images that are the same.
use Rattle.std.specs.Prelude.{Bool, true, false, IsTrue, ◌≡◌, ◌≢◌, ◌<◌, ◌≤◌, ◌+◌, ℕ, zero, suc, List, [], ◌∷◌, ◌++◌, Option, Some, None, Contains, length, slice_index, slice_index_or}
use Rattle.std.proofs.Common.{sym, ◌∙◌, ap, subst, arith, inl, inr, append-nil, append_assoc}
use Rattle.std.proofs.lemmas.Bool.{cases_lt}
use Rattle.std.proofs.lemmas.List.{length_push, get_or_default}
use Rattle.std.proofs.lemmas.List.Elements.{All-contains, All-push, All-weaker, Contains-append_left, Contains-push}
use Rattle.std.proofs.lemmas.List.Quantifiers.{all_pairs_push}
use Rattle.vol_format.proofs.Lists.{element}
use Rattle.image_survey.specs.Grouping.{AreGrouped}
use Rattle.image_survey.specs.Same.{AreAlike, AreGroupsUpTo, AreSameLines, IsGroup, IsShared, group_lines, key_at, lines_from}
use Rattle.image_survey.specs.declared.same.SameLine.{SameLine}

-- the lines of one group more
pub lines_more : (number : ℕ) (groups : List (List ℕ)) (group : List ℕ)
    → lines_from number (groups ++ group ∷ []) ≡ lines_from number groups ++ group_lines (number + length groups) group
lines_more number [] group = append-nil (group_lines number group) ∙ ap (λ n. group_lines n group) (omega arith)
lines_more number (first ∷ groups) group =
    ap (λ lines. group_lines number first ++ lines) (lines_more (number + 1) groups group)
    ∙ sym (append_assoc (group_lines number first) (lines_from (number + 1) groups) (group_lines (number + 1 + length groups) group))
    ∙ ap (λ n. group_lines number first ++ lines_from (number + 1) groups ++ group_lines n group) (omega arith)

-- an image without a key is the same as none
pub without_key : (keys : List (Option (List ℕ))) (n : ℕ) (groups : List (List ℕ)) → key_at keys n ≡ None → AreGroupsUpTo keys n groups
    → AreGroupsUpTo keys (n + 1) groups
without_key keys n groups none before = record {
  each = before.each;
  all = λ m shared. elim (cases_lt m n) [
    | inl low ↦
        before.all m (record { first = low; other = shared.other; within = shared.within; apart = shared.apart; key = shared.key; has = shared.has; same = shared.same })
    | inr high ↦
        let at : m ≡ n = omega (arith, high, shared.first) in
        absurd (cc (none, subst (λ k. key_at keys k ≡ Some shared.key) at shared.has))
  ];
  begun = All-weaker (λ group. slice_index group 0 < n) (λ group. slice_index group 0 < n + 1) (λ group low. omega (arith, low)) groups before.begun;
  in_order = before.in_order;
}

module _ (keys : List (Option (List ℕ))) (n : ℕ) (within : n < length keys) (key : List ℕ) (of : key_at keys n ≡ Some key) (numbers : List ℕ)
    (alike : AreAlike keys key numbers) where
  itself : Contains numbers n
  itself = (alike.members n).1 (within, of)

  -- another image with a key that this one has
  key_of : (other : List ℕ) → key_at keys n ≡ Some other → other ≡ key
  key_of other is = cc (of, is)

  -- the group that begins with this image
  module _ (groups : List (List ℕ)) (before : AreGroupsUpTo keys n groups) where
    pub one_more : 2 ≤ length numbers → slice_index numbers 0 ≡ n → AreGroupsUpTo keys (n + 1) (groups ++ numbers ∷ [])
    one_more several first = record {
      each = All-push (IsGroup keys) groups numbers before.each (record { key = key; alike = alike; several = several });
      all = all;
      begun = All-push (λ group. slice_index group 0 < n + 1) groups numbers
          (All-weaker (λ group. slice_index group 0 < n) (λ group. slice_index group 0 < n + 1) (λ group low. omega (arith, low)) groups before.begun)
          (omega (arith, first));
      in_order = all_pairs_push (λ group later. slice_index group 0 < slice_index later 0) groups numbers before.in_order
          (λ k d low. omega (arith, before.begun k d low, first));
    }
      where
        all : (m : ℕ) → IsShared keys (n + 1) m → (group : List ℕ) × Contains (groups ++ numbers ∷ []) group × Contains group m
        all m shared = elim (cases_lt m n) [
          | inl low ↦
              let old = before.all m (record { first = low; other = shared.other; within = shared.within; apart = shared.apart; key = shared.key; has = shared.has; same = shared.same }) in
              (old.0, Contains-append_left groups (numbers ∷ []) old.0 old.1, old.2)
          | inr high ↦
              let at : n ≡ m = omega (arith, high, shared.first) in
              (numbers, Contains-push groups numbers, subst (Contains numbers) at itself)
        ]

    -- no group begins with it: it is the same as none, or as one before it
    pub none_more : ((2 ≤ length numbers) × (slice_index numbers 0 ≡ n) → ⊥) → AreGroupsUpTo keys (n + 1) groups
    none_more none = record {
      each = before.each;
      all = all;
      begun = All-weaker (λ group. slice_index group 0 < n) (λ group. slice_index group 0 < n + 1) (λ group low. omega (arith, low)) groups before.begun;
      in_order = before.in_order;
    }
      where
        -- the first of the images with its content
        head : ℕ
        head = slice_index numbers 0

        in_group : (m : ℕ) → m < n → key_at keys m ≡ Some key → (group : List ℕ) × Contains groups group × Contains group n
        in_group m low has =
            let old = before.all m (record { first = low; other = n; within = within; apart = λ is. omega (arith, low, is); key = key; has = has; same = of }) in
            let is = All-contains (IsGroup keys) groups old.0 before.each old.1 in
            let same = ((is.alike.members m).0 old.2).1 in
            (old.0, old.1, (is.alike.members n).1 (within, of ∙ sym has ∙ same))

        all : (m : ℕ) → IsShared keys (n + 1) m → (group : List ℕ) × Contains groups group × Contains group m
        all m shared = elim (cases_lt m n) [
          | inl low ↦ before.all m (record { first = low; other = shared.other; within = shared.within; apart = shared.apart; key = shared.key; has = shared.has; same = shared.same })
          | inr high ↦
              let at : n ≡ m = omega (arith, high, shared.first) in
              let same = key_of shared.key (subst (λ k. key_at keys k ≡ Some shared.key) (sym at) shared.has) in
              let other = (alike.members shared.other).1 (shared.within, shared.same ∙ ap (λ (k : List ℕ). Some k) same) in
              subst (λ k. (group : List ℕ) × Contains groups group × Contains group k) at (from_other shared.other other (λ is. shared.apart (sym at ∙ is)))
        ]
          where
            from_other : (o : ℕ) → Contains numbers o → n ≢ o → (group : List ℕ) × Contains groups group × Contains group n
            from_other o has apart = at_place itself.0 itself.1 itself.2
              where
                one_place : (a b : ℕ) → a ≡ b → a < length numbers → slice_index_or numbers a n ≡ n → slice_index_or numbers b o ≡ o → n ≡ o
                one_place a b same low is other =
                    sym is ∙ get_or_default numbers a n o low ∙ ap (λ k. slice_index_or numbers k o) same ∙ other

                several : (a : ℕ) → a < length numbers → slice_index_or numbers a n ≡ n → 2 ≤ length numbers
                several a low is = elim (cases_lt a has.0) [
                  | inl less ↦ omega (arith, less, has.1)
                  | inr high ↦ elim (cases_lt has.0 a) [
                    | inl less ↦ omega (arith, less, low)
                    | inr low' ↦ absurd (apart (one_place a has.0 (omega arith) low is has.2))
                  ]
                ]

                at_place : (a : ℕ) → a < length numbers → slice_index_or numbers a n ≡ n
                    → (group : List ℕ) × Contains groups group × Contains group n
                at_place zero low is = absurd (none (several zero low is, get_or_default numbers 0 0 n low ∙ is))
                at_place (suc a) low is =
                    let less : head < slice_index_or numbers (suc a) 0 = alike.rising 0 (suc a) 0 (omega arith) low in
                    let before_it : head < n = omega (arith, less, get_or_default numbers (suc a) 0 n low, is) in
                    let here : Contains numbers head = element numbers 0 0 (omega (arith, low)) in
                    in_group head before_it ((alike.members head).0 here).1

-- no groups begin before the first image
pub none_yet : (keys : List (Option (List ℕ))) → AreGroupsUpTo keys 0 []
none_yet keys = record {
  each = λ k d low. absurd (omega (arith, low));
  all = λ n shared. absurd (omega (arith, shared.first));
  begun = λ k d low. absurd (omega (arith, low));
  in_order = λ i j d less low. absurd (omega (arith, low));
}

module _ (keys : List (Option (List ℕ))) (n : ℕ) (within : n < length keys) (key : List ℕ) (of : key_at keys n ≡ Some key) (numbers : List ℕ)
    (alike : AreAlike keys key numbers) (count : ℕ) (lines : List SameLine) (before : AreGrouped keys n count lines) where
  pub grouped_more : 2 ≤ length numbers → slice_index numbers 0 ≡ n → AreGrouped keys (n + 1) (count + 1) (lines ++ group_lines (count + 1) numbers)
  grouped_more several first = record {
    groups = before.groups ++ numbers ∷ [];
    are = one_more keys n within key of numbers alike before.groups before.are several first;
    counted = omega (arith, before.counted, length_push before.groups numbers);
    few = omega (arith, before.few);
    is =
        ap (λ (some : List SameLine). some ++ group_lines (count + 1) numbers) before.is
        ∙ ap (λ number. lines_from 1 before.groups ++ group_lines number numbers) (omega (arith, before.counted))
        ∙ sym (lines_more 1 before.groups numbers);
  }

  pub grouped_same : ((2 ≤ length numbers) × (slice_index numbers 0 ≡ n) → ⊥) → AreGrouped keys (n + 1) count lines
  grouped_same none = record {
    groups = before.groups;
    are = none_more keys n within key of numbers alike before.groups before.are none;
    counted = before.counted;
    few = omega (arith, before.few);
    is = before.is;
  }

-- the group of an image without a key
pub grouped_without : (keys : List (Option (List ℕ))) (n count : ℕ) (lines : List SameLine) → key_at keys n ≡ None → AreGrouped keys n count lines
    → AreGrouped keys (n + 1) count lines
grouped_without keys n count lines none before = record {
  groups = before.groups;
  are = without_key keys n before.groups none before.are;
  counted = before.counted;
  few = omega (arith, before.few);
  is = before.is;
}

pub same_lines_are : (keys : List (Option (List ℕ))) (many count : ℕ) (lines : List SameLine) → many ≡ length keys → AreGrouped keys many count lines → AreSameLines keys lines
same_lines_are keys many count lines all grouped = record {
  groups = grouped.groups;
  are = subst (λ n. AreGroupsUpTo keys n grouped.groups) all grouped.are;
  is = grouped.is;
}

-- what a test that is true says
pub says_true : (b : Bool) → b ≡ true → IsTrue b
says_true b is = is

pub says_false : (b : Bool) → b ≡ false → IsTrue b → ⊥
says_false b is holds = cc
