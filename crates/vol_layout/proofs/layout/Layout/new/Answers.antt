use Rattle.std.proofs.Common.{rules}
use Rattle.vol_layout.specs.Layouts.{AreDistinct, IsInRange}
use Rattle.vol_layout.specs.Table.{IsTableOf}
use Rattle.vol_layout.proofs.Lists.{length_distinct}
use Rattle.vol_layout.proofs.layout.Layout.new.Goals as goal

pub invariant_of-result : goal.invariant_of-result
invariant_of-result g c =
    let distinct : AreDistinct c.args.at.items = search rules in
    let range : IsInRange c.args.at.items c.args.places = search rules in
    let table : IsTableOf c.args.at.items c.args.places c.in-Some.part_at.items = search rules in
    record {
      layout = record { distinct = distinct; below = range.0 };
      few = range.1;
      parts = length_distinct c.args.places c.args.at.items distinct range.0;
      table = table;
    }

pub returns-in-Some-clause-parts : goal.returns-in-Some-clause-parts
returns-in-Some-clause-parts g c =
    let distinct : AreDistinct c.args.at.items = search rules in
    let range : IsInRange c.args.at.items c.args.places = search rules in
    length_distinct c.args.places c.args.at.items distinct range.0
