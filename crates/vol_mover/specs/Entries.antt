-- The writes of an agenda as they are kept: those of the map with ranges of one list of marks.
use Rattle.std.specs.Prelude.{◌≡◌, ◌≤◌, ℕ, Option, Some, List, [], length, map, drop, slice_range, All}
use Rattle.vol_laws.specs.declared.mark.Mark.{Mark}
use Rattle.vol_mover.specs.Tasks.{Task, Map, Copy, Pointer, moves_of}
use Rattle.vol_mover.specs.declared.agenda.Agenda.TheInside.{Inside}
use Rattle.vol_mover.specs.declared.entry.Entry.{Entry}
use Rattle.vol_mover.specs.declared.entry.Entry.TheVariants.{Map as MapEntry, Copy as CopyEntry, Pointer as PointerEntry}
use Rattle.vol_mover.specs.declared.write.Write.{Write}
use Rattle.vol_mover.specs.declared.write.Write.TheVariants.{Map as MapWrite, Copy as CopyWrite, Pointer as PointerWrite}

-- the write of an entry, without its marks
abbrev pub write_of : Entry → Write
write_of (MapEntry at first end) = MapWrite at
write_of (CopyEntry move) = CopyWrite move
write_of (PointerEntry move) = PointerWrite move

-- how many moves a write ends
abbrev pub moves_ended : Option Write → ℕ
moves_ended (Some (PointerWrite move)) = 1
moves_ended write = 0

-- its marks
abbrev pub marks_of : List Mark → Entry → List Mark
marks_of marks (MapEntry at first end) = slice_range marks first end
marks_of marks entry = []

-- an entry with its marks
abbrev pub task_of : List Mark → Entry → Task
task_of marks (MapEntry at first end) = Map at (slice_range marks first end)
task_of marks (CopyEntry move) = Copy move
task_of marks (PointerEntry move) = Pointer move

abbrev pub tasks_of : List Mark → List Entry → List Task
tasks_of marks entries = map (task_of marks) entries

-- the marks of an entry are there
abbrev pub HasMarks : List Mark → Entry → Type 0
HasMarks marks (MapEntry at first end) = (first ≤ end) × (end ≤ length marks)
HasMarks marks entry = Unit {0}

-- the writes that are still to be made
abbrev pub tasks_left : {A : Type 0} → Inside A → List Task
tasks_left agenda = drop agenda.next (tasks_of agenda.marks.items agenda.entries.items)

-- each entry has its marks, and the moves are counted
pub record IsKept {A : Type 0} (agenda : Inside A) : Type 0 where
  pub marks : All (HasMarks agenda.marks.items) agenda.entries.items
  pub next : agenda.next ≤ length agenda.entries.items
  pub moves : agenda.moves_left ≡ length (moves_of (tasks_left agenda))
