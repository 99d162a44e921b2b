-- The images with one key, out of all in rising order of their keys.
use Rattle.std.specs.Prelude.{◌≡◌, ◌<◌, ◌==◌, ◌&&◌, not, ℕ, Bool, true, false, List, [], Option, Some, AllPairs, Contains, filter, length, map, slice_index_or, take, drop}
use Rattle.std.specs.Cmp.Lexicographic.{nat_list_cmp_total, slice_cmp}
use Rattle.std.specs.FinMap.{nat_cmp-IsAntisymmetric, slice_cmp-IsAntisymmetric}
use Rattle.std.specs.List.Sorted.{IsPartitionPoint, IsPartitionedBy, ties}
use Rattle.std.specs.Ordering.{is_le, is_lt, nat_cmp, ordering_index, ordering_reverse}
use Rattle.std.specs.declared.cmp.Ordering.{Ordering}
use Rattle.std.specs.declared.cmp.Ordering.TheVariants.{Less, Equal, Greater}
use Rattle.std.proofs.Common.{refl, sym, ◌∙◌, ap, subst, arith, ltb, leb}
use Rattle.std.proofs.lemmas.Cmp.{tied_itself}
use Rattle.std.proofs.lemmas.List.{get_or-map, length-map}
use Rattle.std.proofs.lemmas.List.Elements.{filter_agree}
use Rattle.std.proofs.lemmas.List.Kept.{AllPairs-filter}
use Rattle.std.proofs.lemmas.List.Sorted.{IsNonDecreasingBy-drop, IsPartitionedBy-leb, IsPartitionedBy-ltb, searchable_from_sorted}
use Rattle.file_cmds.proofs.Runs.{run_of}
use Rattle.vol_format.proofs.Lists.{in_filter, in_map, out_of_filter, out_of_map}
use Rattle.image_survey.specs.Grouping.{AreNumbered, AreSorted, key_of, number_of}
use Rattle.image_survey.specs.Same.{AreAlike, key_at}
use Rattle.image_survey.specs.declared.same.NumberedKey.{NumberedKey}

-- ---- orders, and tests of them

below_one : (o : Ordering) → ltb (ordering_index o) 1 ≡ is_lt o
below_one Less = refl
below_one Equal = refl
below_one Greater = refl

upto_one : (o : Ordering) → leb (ordering_index o) 1 ≡ is_le o
upto_one Less = refl
upto_one Equal = refl
upto_one Greater = refl

neither_less : (o : Ordering) → (ordering_index o == 1) ≡ (not (is_lt (ordering_reverse o)) && not (is_lt o))
neither_less Less = refl
neither_less Equal = refl
neither_less Greater = refl

is_equal : (o : Ordering) → (ordering_index o == 1) ≡ true → o ≡ Equal
is_equal Less is = absurd (cc)
is_equal Equal is = refl
is_equal Greater is = absurd (cc)

no_key : NumberedKey
no_key = record { key = []; number = 0 }

-- two tests that agree
module _ {X : Type 0} (p q : X → Bool) (same : (x : X) → p x ≡ q x) (xs : List X) where
  pub partitioned_alike : IsPartitionedBy p xs → IsPartitionedBy q xs
  partitioned_alike is i j d order within holds =
      sym (same (slice_index_or xs i d)) ∙ is i j d order within (same (slice_index_or xs j d) ∙ holds)

  pub point_alike : (at : ℕ) → IsPartitionPoint (λ x. p x ≡ true) (λ x. p x ≡ false) xs at → IsPartitionPoint (λ x. q x ≡ true) (λ x. q x ≡ false) xs at
  point_alike at is = (
    λ k d low high. sym (same (slice_index_or xs k d)) ∙ is.0 k d low high,
    λ k d low high. sym (same (slice_index_or xs k d)) ∙ is.1 k d low high,
  )

module _ (key : List ℕ) where
  abbrev pub order_to : NumberedKey → Ordering
  order_to one = slice_cmp nat_cmp one.key key

  abbrev pub index_to : NumberedKey → ℕ
  index_to one = ordering_index (order_to one)

  abbrev pub is_of : NumberedKey → Bool
  is_of one = index_to one == 1

  abbrev pub is_less : NumberedKey → Bool
  is_less one = is_lt (order_to one)

  abbrev pub is_upto : NumberedKey → Bool
  is_upto one = is_le (order_to one)

  abbrev pub at_key : NumberedKey
  at_key = record { key = key; number = 0 }

  -- whether an image has the key, as a sort that keeps ties asks
  abbrev pub tied : NumberedKey → Bool
  tied = ties (λ (one other : NumberedKey). is_lt (slice_cmp nat_cmp one.key other.key)) at_key

  -- ---- where the images with the key stand

  module _ (keys : List (Option (List ℕ))) (all : List NumberedKey) (sorted : AreSorted keys all) where
    pub less_first : IsPartitionedBy is_less all
    less_first =
        partitioned_alike (λ one. ltb (index_to one) 1) is_less (λ one. below_one (order_to one)) all
        (IsPartitionedBy-ltb index_to all 1 (searchable_from_sorted nat_list_cmp_total key_of all key sorted.sorted))

    pub upto_first : (start : ℕ) → IsPartitionedBy is_upto (drop start all)
    upto_first start =
        partitioned_alike (λ one. leb (index_to one) 1) is_upto (λ one. upto_one (order_to one)) (drop start all)
        (IsPartitionedBy-leb index_to (drop start all) 1
        (IsNonDecreasingBy-drop index_to start all (searchable_from_sorted nat_list_cmp_total key_of all key sorted.sorted)))

    pub run_is : (start count : ℕ) → IsPartitionPoint (λ one. is_less one ≡ true) (λ one. is_less one ≡ false) all start
        → IsPartitionPoint (λ one. is_upto one ≡ true) (λ one. is_upto one ≡ false) (drop start all) count
        → take count (drop start all) ≡ filter is_of sorted.numbered
    run_is start count low high =
        sym (run_of index_to 1 all start count
        (point_alike is_less (λ one. ltb (index_to one) 1) (λ one. sym (below_one (order_to one))) all start low)
        (point_alike is_upto (λ one. leb (index_to one) 1) (λ one. sym (upto_one (order_to one))) (drop start all) count high))
        ∙ filter_agree is_of tied tie all
        ∙ sorted.stable at_key
        ∙ sym (filter_agree is_of tied tie sorted.numbered)
      where
        tie : (one : NumberedKey) → is_of one ≡ tied one
        tie one =
            neither_less (order_to one)
            ∙ ap (λ (o : Ordering). not (is_lt o) && not (is_lt (order_to one))) (sym (nat_list_cmp_total.antisymm key one.key))

  -- ---- which images they are

  module _ (keys : List (Option (List ℕ))) (numbered : List NumberedKey) (are : AreNumbered keys (length keys) numbered) where
    pub alike : AreAlike keys key (map number_of (filter is_of numbered))
    alike = record {
      members = λ n. (member n, λ is. has n is.0 is.1);
      rising = rising;
    }
      where
        member : (n : ℕ) → Contains (map number_of (filter is_of numbered)) n → (n < length keys) × (key_at keys n ≡ Some key)
        member n has =
            let from = out_of_map number_of (filter is_of numbered) n has in
            let passes = out_of_filter is_of numbered from.0 from.1 in
            let at = are.each from.0 passes.0 in
            let same : from.0.key ≡ key = slice_cmp-IsAntisymmetric nat_cmp-IsAntisymmetric from.0.key key (is_equal (order_to from.0) passes.1) in
            (omega (arith, at.0, from.2), subst (λ k. key_at keys k ≡ Some key) from.2 (at.1 ∙ ap (λ (k : List ℕ). Some k) same))

        has : (n : ℕ) → n < length keys → key_at keys n ≡ Some key → Contains (map number_of (filter is_of numbered)) n
        has n low is =
            in_map number_of (filter is_of numbered) (record { key = key; number = n })
            (in_filter is_of numbered (record { key = key; number = n }) (are.all n key low is)
            (ap (λ (o : Ordering). ordering_index o == 1) (tied_itself nat_list_cmp_total key)))

        rising : AllPairs (λ n later. n < later) (map number_of (filter is_of numbered))
        rising i j d less within =
            let inside : j < length (filter is_of numbered) = omega (arith, within, length-map (filter is_of numbered) number_of) in
            let one = get_or-map number_of (filter is_of numbered) i no_key d (omega arith) in
            let other = get_or-map number_of (filter is_of numbered) j no_key d inside in
            omega (arith, one, other, AllPairs-filter (λ (one later : NumberedKey). one.number < later.number) is_of numbered are.rising i j no_key less inside)
