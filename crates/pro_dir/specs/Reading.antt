-- What a step of a walk over directories keeps.
use Rattle.std.specs.Prelude.{◌≡◌, ℕ, All, OnOk, Result}
use Rattle.pro_dir.specs.declared.tree.Tree.{Tree}
use Rattle.pro_dir.specs.Walk.{IsTable}
use Rattle.pro_dir.specs.Within.{IsKeptWithin}

-- the blocks that were met are those of the walk
abbrev pub HasTable : {A : Type 0} → ℕ → Tree A → Type 0
HasTable places tree = IsTable places tree.met.items tree.blocks.items

-- what is known of entries and of slots stays
abbrev pub KeepsEntries : {A : Type 0} → Tree A → Tree A → Type 0
KeepsEntries old new = (new.entries ≡ old.entries) × (new.pending ≡ old.pending) × (new.free ≡ old.free)

-- the free slots still lie within a volume of so many places
abbrev pub KeepsFree : {A T E : Type 0} → ℕ → Tree A → Tree A → Result T E → Type 0
KeepsFree places old new result =
    All (IsKeptWithin places) old.free.items → OnOk result (All (IsKeptWithin places) new.free.items)
