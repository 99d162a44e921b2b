-- Files in the order of their paths.
use Rattle.std.specs.Prelude.{ℕ, List, Option, count_by, is_some, length}
use Rattle.std.specs.Cmp.{IsStrictWeakOrder}
use Rattle.std.specs.Cmp.Lexicographic.{nat_list_cmp_total}
use Rattle.std.specs.List.Sorted.{IsPermutation, IsSortedBy}
use Rattle.std.proofs.Common.{◌∙◌, ap, arith, take_all}
use Rattle.std.proofs.lemmas.Cmp.{nat_cmp_total, on_total, then_total}
use Rattle.std.proofs.lemmas.List.Sorted.{Contains-permutation, IsPermutation-sym, length_permutation, ranks_by, sorted_far}
use Rattle.volume_compare.proofs.Ranks.{has_entry}
use Rattle.image_survey.specs.Naming.{AreNamed, AreSorted}
use Rattle.image_survey.specs.Ordered.{AreInOrder, is_before}
use Rattle.image_survey.specs.declared.ordered.Named.{Named}

-- by path and then by entry is an order
pub before_ranks : IsStrictWeakOrder is_before
before_ranks =
    ranks_by (then_total (on_total (λ (named : Named). named.path) nat_list_cmp_total) (on_total (λ (named : Named). named.file) nat_cmp_total))
    (λ (named : Named). named)

pub far_sorted : (named : List Named) → IsSortedBy is_before named → AreSorted named
far_sorted named sorted i j d less within = sorted_far is_before before_ranks named sorted i j d (omega (arith, less)) within

pub in_order : (paths : List (Option (List ℕ))) (named moved : List Named) → AreNamed paths (length paths) named → IsPermutation named moved → AreSorted moved
    → AreInOrder paths moved
in_order paths named moved are same sorted = record {
  each = λ one has. are.each one (Contains-permutation moved named one (IsPermutation-sym named moved same) has);
  all = λ file path is.
      Contains-permutation named moved (record { path = path; file = file }) same
      (are.all file path (has_entry paths file path is) is);
  once = length_permutation named moved same ∙ are.once ∙ ap (count_by is_some) (take_all (length paths) paths (omega arith));
  rising = sorted;
}
