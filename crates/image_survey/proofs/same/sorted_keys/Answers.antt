use Rattle.std.proofs.Common.{rules, subst, map, sym}
use Rattle.std.specs.Cmp.Lexicographic.{nat_list_cmp_total, slice_cmp}
use Rattle.std.specs.Ordering.{is_lt, nat_cmp}
use Rattle.std.proofs.lemmas.List.Sorted.{answers_always, ranks_by}
use Rattle.image_survey.specs.Grouping.{AreNumbered, key_of}
use Rattle.image_survey.specs.Told.{candidate_of, keys_by}
use Rattle.image_survey.specs.declared.same.NumberedKey.{NumberedKey}
use Rattle.image_survey.proofs.Keys.{many_keys}
use Rattle.image_survey.proofs.same.sorted_keys.Goals as goal

pub returns : goal.returns
returns c =
    let keys = keys_by c.args.likeness (map candidate_of c.args.kept.now) in
    record {
      numbered = c.in_ok-keys.keys.items;
      are = subst (λ n. AreNumbered keys n c.in_ok-keys.keys.items) (sym (many_keys c.args.likeness c.args.kept.now)) c.in_ok-keys.ensures;
      sorted = c.in_ok-sort_by.ensures.sorted (λ (one other : NumberedKey). is_lt (slice_cmp nat_cmp one.key other.key))
          (ranks_by nat_list_cmp_total key_of) (answers_always _ _ _ (λ f a r f' k. search rules));
      stable = c.in_ok-sort_by.ensures.stable (λ (one other : NumberedKey). is_lt (slice_cmp nat_cmp one.key other.key))
          (ranks_by nat_list_cmp_total key_of) (answers_always _ _ _ (λ f a r f' k. search rules));
    }
