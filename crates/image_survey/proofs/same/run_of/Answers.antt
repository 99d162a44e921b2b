use Rattle.std.proofs.Common.{rules, ◌≡◌, ◌∙◌, ap, sym, subst, List, take, true, false, map}
use Rattle.std.specs.List.Sorted.{IsPartitionPoint, IsPartitionedBy}
use Rattle.std.proofs.lemmas.List.{take_rest}
use Rattle.std.proofs.lemmas.List.Sorted.{IsPartitionPoint-from_clause}
use Rattle.image_survey.specs.Grouping.{number_of}
use Rattle.image_survey.specs.Same.{AreAlike}
use Rattle.image_survey.specs.declared.same.NumberedKey.{NumberedKey}
use Rattle.image_survey.proofs.Alike.{alike, is_less, is_upto, less_first, run_is, upto_first}
use Rattle.image_survey.proofs.same.run_of.Goals as goal

pub returns : goal.returns
returns c = λ all sorted.
    let keys = c.args.keys.now in
    let key = c.args.key.now in
    let start = c.partition_point-start.result in
    let count = c.partition_point-count.result in
    let rest = take_rest keys start in
    let low = IsPartitionPoint-from_clause (is_less key) _ _ c.partition_point-start.ensures.partitioned
    (less_first key all keys sorted) (λ a r q k. search rules) in
    let high = IsPartitionPoint-from_clause (is_upto key) _ _ c.partition_point-count.ensures.partitioned
    (subst (λ (later : List NumberedKey). IsPartitionedBy (is_upto key) later) (sym rest) (upto_first key all keys sorted start))
    (λ a r q k. search rules) in
    subst (λ (run : List NumberedKey). AreAlike all key (map number_of run))
    (sym (ap (take count) rest ∙ run_is key all keys sorted start count low
    (subst (λ (later : List NumberedKey). IsPartitionPoint (λ one. is_upto key one ≡ true) (λ one. is_upto key one ≡ false) later count) rest high)))
    (alike key all sorted.numbered sorted.are)
