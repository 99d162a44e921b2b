use Rattle.std.proofs.Common.{rules}
use Rattle.std.specs.Ordering.{nat_cmp}
use Rattle.std.specs.BTreeSet.{IsFromIterResult}
use Rattle.vol_layout.proofs.Lists.{btree_set_len-Decides}
use Rattle.vol_layout.proofs.table.are_distinct.Goals as goal

pub returns : goal.returns
returns g c =
    let made : IsFromIterResult nat_cmp c.args.numbers.now c.in_ok-set.set = search rules in
    rw c.len.ensures.len (btree_set_len-Decides c.args.numbers.now c.in_ok-set.set made)
