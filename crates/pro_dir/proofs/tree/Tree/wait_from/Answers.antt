use Rattle.std.proofs.Common.{◌≡◌, ◌++◌, ◌∙◌, ap, arith, ℕ, drop, map}
use Rattle.std.specs.Prelude.{reverse}
use Rattle.pro_dir.specs.Walk.{whole_block}
use Rattle.pro_dir.proofs.tree.Tree.wait_from.Goals as goal

pub returns-clause-pending : goal.returns-clause-pending
returns-clause-pending g c =
    let old = c.args.self.now in
    let now = c.loop-number in
    let end : now.number ≡ c.args.first = omega (arith, c.loop-number-test.false, now.invariant.from) in
    now.invariant.pending ∙ ap (λ (n : ℕ). old.pending.items ++ reverse (map (whole_block c.args.key) (drop n old.blocks.items))) end
