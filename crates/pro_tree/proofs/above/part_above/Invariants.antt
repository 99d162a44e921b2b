-- from here on, parts of the same file that don't name part k
use Rattle.std.proofs.Common.{◌≡◌, ◌<◌, ◌≤◌, ℕ, false}
use Rattle.pro_tree.specs.Above.{part_of, is_above}
use Rattle.pro_tree.proofs.above.part_above.Given as goal

abbrev pub invariant-loop-above : goal.invariant-loop-above
invariant-loop-above l = (later : ℕ) → l.above ≤ later → later < l.k
    → ((part_of l.parts later).file ≡ (part_of l.parts l.k).file) × (is_above (part_of l.parts later).kind (part_of l.parts l.k).kind ≡ false)
