use Rattle.std.proofs.Common.{rules, ◌≡◌}
use Rattle.vol_layout.proofs.layout.Layout.copy.Goals as goal

pub invariant_of-result : goal.invariant_of-result
invariant_of-result g c =
    let at : c.in_ok-at.at.items ≡ c.self.inside.at.items = search rules in
    let table : c.in_ok-part_at.part_at.items ≡ c.self.inside.part_at.items = search rules in
    let kept = c.self.invariant in
    record { layout = rw at kept.layout; few = kept.few; parts = rw at kept.parts; table = rw (at, table) kept.table }
