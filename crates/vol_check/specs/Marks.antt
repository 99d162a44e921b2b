-- What a walk leaves in its tables, so that they can be cleared at the cost of its parts and faults.
use Rattle.std.specs.Prelude.{◌≡◌, ◌⊎◌, ℕ, Bool, false, List, length, slice_index_or, Contains}
use Rattle.a2_device.specs.declared.part.Part.{Part}
use Rattle.a2_device.specs.declared.fault.Fault.{Fault}
use Rattle.vol_check.specs.Known.{none_known, place_of}
use Rattle.vol_check.specs.Walk.{Lists}
use Rattle.vol_check.specs.declared.known.Known.{Known}

-- each entry of a table is as it was when nothing was met, or one of these items stands at its place
abbrev pub IsMarkedBy : {T X : Type 0} → T → (X → ℕ) → List X → List T → Type 0
IsMarkedBy {T} {X} nothing place_of items table =
    (place : ℕ) → (slice_index_or table place nothing ≡ nothing)
    ⊎ ((item : X) × Contains items item × (place_of item ≡ place))

-- The tables have an entry for each place. A place is marked as met for a part that was taken up, and a fault is noted
-- for one that was told: nothing else is marked.
pub record AreOwnMarks (places : ℕ) (parts : List Part) (faults : List Fault) (visited : List Bool)
    (known : List Known) : Type 0 where
  pub visited_size : length visited ≡ places
  pub known_size : length known ≡ places
  pub met : IsMarkedBy false (λ (part : Part). part.place) parts visited
  pub noted : IsMarkedBy none_known place_of faults known

abbrev pub HasOwnMarks : ℕ → Lists → Type 0
HasOwnMarks places walk = AreOwnMarks places walk.parts walk.faults walk.visited walk.known

-- a step of a walk that marks for its own parts and faults alone
abbrev pub KeepsMarks : Lists → Lists → Type 0
KeepsMarks old new = (places : ℕ) → HasOwnMarks places old → HasOwnMarks places new
