-- Which blocks a handle refuses, by their numbers from 0 in the order in which they are asked, and which allocator has
-- the others.
use Rattle.std.specs.Prelude.{ℕ, ◌<◌, ◌≤◌}
use Rattle.test_volumes.specs.declared.refusing.Refusing.{Refusing}

-- the block of this number is refused
abbrev pub IsRefused : {B : Type 0} → Refusing B → ℕ → Type 0
IsRefused heap number = (heap.rule.first ≤ number) × (number < heap.rule.end)

-- the allocator that has the other blocks
abbrev pub inner_of : {B : Type 0} → Refusing B → B
inner_of heap = heap.inner
