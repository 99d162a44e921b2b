use Rattle.std.proofs.Common.{rules, ltb, leb}
use Rattle.std.proofs.lemmas.List.Sorted.{IsPartitionPoint-from_clause, IsPartitionedBy-leb, IsPartitionedBy-ltb}
use Rattle.volume_compare.specs.declared.keys.Key.{Key}
use Rattle.volume_compare.proofs.RisingKeys.{by_hash, run_of}
use Rattle.volume_compare.proofs.candidates.run_of.Goals as goal

pub returns : goal.returns
returns c =
    let keys = c.args.keys.now in
    let hash = c.args.hash in
    let rising = by_hash keys c.requires in
    run_of keys hash c.partition_point.result c.partition_point-2.result c.partition_point.ensures.bound c.partition_point-2.ensures.bound
    (IsPartitionPoint-from_clause (λ (key : Key). ltb key.hash hash) _ _ c.partition_point.ensures.partitioned
    (IsPartitionedBy-ltb (λ (key : Key). key.hash) keys hash rising) (λ a r q k. search rules))
    (IsPartitionPoint-from_clause (λ (key : Key). leb key.hash hash) _ _ c.partition_point-2.ensures.partitioned
    (IsPartitionedBy-leb (λ (key : Key). key.hash) keys hash rising) (λ a r q k. search rules))
