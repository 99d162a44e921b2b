use Rattle.std.proofs.Common.{rules, ◌≡◌, sym, subst, List, ltb, leb, drop, take, false, true, ap, ◌∙◌}
use Rattle.std.specs.List.Sorted.{IsPartitionedBy, IsPartitionPoint}
use Rattle.std.proofs.lemmas.List.{take_rest}
use Rattle.std.proofs.lemmas.List.Sorted.{IsNonDecreasingBy-drop, IsPartitionPoint-from_clause, IsPartitionedBy-leb, IsPartitionedBy-ltb}
use Rattle.a2_device.specs.declared.part.Part.{Part}
use Rattle.file_cmds.proofs.Runs.{run_of}
use Rattle.file_cmds.proofs.each_file.parts_of.Goals as goal

pub returns-clause-run : goal.returns-clause-run
returns-clause-run c = λ rising.
    let parts = c.args.parts.now in
    let file = c.args.file in
    let start = c.partition_point-start.result in
    let count = c.partition_point-count.result in
    let rest = take_rest parts start in
    let low = IsPartitionPoint-from_clause (λ (part : Part). ltb part.file file) _ _ c.partition_point-start.ensures.partitioned
    (IsPartitionedBy-ltb (λ (part : Part). part.file) parts file rising) (λ a r q k. search rules) in
    let high = IsPartitionPoint-from_clause (λ (part : Part). leb part.file file) _ _ c.partition_point-count.ensures.partitioned
    (subst (λ (later : List Part). IsPartitionedBy (λ (part : Part). leb part.file file) later) (sym rest)
    (IsPartitionedBy-leb (λ (part : Part). part.file) (drop start parts) file (IsNonDecreasingBy-drop (λ (part : Part). part.file) start parts rising)))
    (λ a r q k. search rules) in
    ap (take count) rest
    ∙ sym (run_of (λ (part : Part). part.file) file parts start count low
    (subst (λ (later : List Part). IsPartitionPoint (λ (part : Part). leb part.file file ≡ true) (λ (part : Part). leb part.file file ≡ false) later count) rest high))
