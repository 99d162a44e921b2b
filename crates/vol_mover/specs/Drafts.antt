-- An agenda that is being made.
use Rattle.std.specs.Prelude.{◌≤◌, ◌==◌, ℕ, if◌then◌else◌, Option, Some, None, List, [], ◌∷◌, ◌++◌, length, drop, All}
use Rattle.vol_laws.specs.declared.mark.Mark.{Mark}
use Rattle.vol_mover.specs.Tasks.{Task, Map}
use Rattle.vol_mover.specs.Entries.{tasks_of, HasMarks}
use Rattle.vol_mover.specs.declared.draft.Draft.TheInside.{Inside}

-- the writes so far, and the marks so far of the next write of the map
pub record Drafted : Type 0 where
  pub tasks : List Task
  pub marks : List Mark

-- the marks from `first` on are those of the next write of the map
abbrev pub drafted : {A : Type 0} → Inside A → Drafted
drafted draft = record {
  tasks = tasks_of draft.marks.items draft.entries.items;
  marks = drop draft.first draft.marks.items;
}

-- each entry has its marks
pub record IsDraft {A : Type 0} (draft : Inside A) : Type 0 where
  pub marks : All (HasMarks draft.marks.items) draft.entries.items
  pub first : draft.first ≤ length draft.marks.items

-- an agenda whose next write of the map is of one unit, if of any, before a mark in the unit at a place
abbrev pub turned_to : Option ℕ → ℕ → Drafted → Drafted
turned_to None at draft = draft
turned_to (Some unit) at draft = if unit == at then draft else record {
  tasks = draft.tasks ++ Map unit draft.marks ∷ [];
  marks = [];
}
