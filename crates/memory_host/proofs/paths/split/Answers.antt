use Rattle.memory_host.proofs.Splits.{empty, in_below, in_none, in_root, none_of, not_empty, parts_of}
use Rattle.memory_host.proofs.paths.split.Goals as goal

pub returns-in-None : goal.returns-in-None
returns-in-None c = in_none c.args.path.now (none_of c.args.path.now c.in-None.ensures.cases)

pub returns-in-Some : goal.returns-in-Some
returns-in-Some c =
    let h = c.in-Some.ensures.cases in
    in_root c.args.path.now c.in-Some.folder.now c.in-Some.name.now
    (parts_of c.args.path.now c.in-Some.folder.now c.in-Some.name.now h.0 h.1 h.2 h.3 h.4)
    (empty c.in-Some.folder.now c.is_empty.result c.is_empty.ensures c.if-is_empty.true)

pub returns-in-Some-2 : goal.returns-in-Some-2
returns-in-Some-2 c =
    let h = c.in-Some.ensures.cases in
    in_below c.args.path.now c.in-Some.folder.now c.in-Some.name.now
    (parts_of c.args.path.now c.in-Some.folder.now c.in-Some.name.now h.0 h.1 h.2 h.3 h.4)
    (not_empty c.in-Some.folder.now c.is_empty.result c.is_empty.ensures c.if-is_empty.false)
