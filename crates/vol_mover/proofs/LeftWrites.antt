-- What is left of an agenda from an entry on.
use Rattle.std.proofs.Common.{◌<◌, inl, inr, ◌≡◌, ℕ, zero, suc, ◌+◌, ◌-◌, List, [], ◌∷◌, length, drop, refl, ap, sym, ◌∙◌, arith, subst}
use Rattle.std.specs.Prelude.{◌≢◌, Some, None, slice_get, All}
use Rattle.std.proofs.lemmas.Bool.{cases_lt}
use Rattle.std.proofs.lemmas.List.{drop_all, drop-drop, length-map}
use Rattle.std.proofs.lemmas.Option.{none-some, get_or_from_slice_get, slice_get_within}
use Rattle.vol_layout.specs.declared.moves.Move.{Move}
use Rattle.vol_laws.specs.declared.mark.Mark.{Mark}
use Rattle.vol_mover.specs.Agenda.{next_write, next_marks}
use Rattle.vol_mover.specs.Tasks.{Task, Map, Copy, Pointer, moves_of}
use Rattle.vol_mover.specs.Entries.{write_of, marks_of, task_of, tasks_of, moves_ended, HasMarks, tasks_left, IsKept}
use Rattle.vol_mover.specs.declared.agenda.Agenda.TheInside.{Inside}
use Rattle.vol_mover.specs.declared.entry.Entry.{Entry}
use Rattle.vol_mover.specs.declared.entry.Entry.TheVariants.{Map as MapEntry, Copy as CopyEntry, Pointer as PointerEntry}

pub left_at : (marks : List Mark) (entries : List Entry) (i : ℕ) (entry : Entry) → slice_get entries i ≡ Some entry
    → drop i (tasks_of marks entries) ≡ task_of marks entry ∷ drop (suc i) (tasks_of marks entries)
left_at marks [] i entry is = absurd (none-some entry is)
left_at marks (e ∷ es) zero entry is = cc
left_at marks (e ∷ es) (suc i) entry is = left_at marks es i entry is

pub left_past : (marks : List Mark) (entries : List Entry) (i : ℕ) → slice_get entries i ≡ None → drop i (tasks_of marks entries) ≡ []
left_past marks [] zero is = refl
left_past marks [] (suc i) is = refl
left_past marks (e ∷ es) zero is = absurd (none-some e (sym is))
left_past marks (e ∷ es) (suc i) is = left_past marks es i is

-- the next write, and its marks, by the entry that is next
write_of_task : (marks : List Mark) (entry : Entry) (tasks : List Task) → next_write (task_of marks entry ∷ tasks) ≡ Some (write_of entry)
write_of_task marks (MapEntry at first end) tasks = refl
write_of_task marks (CopyEntry move) tasks = refl
write_of_task marks (PointerEntry move) tasks = refl

pub next_at : (marks : List Mark) (entries : List Entry) (i : ℕ) (entry : Entry) → slice_get entries i ≡ Some entry
    → next_write (drop i (tasks_of marks entries)) ≡ Some (write_of entry)
next_at marks entries i entry is = ap next_write (left_at marks entries i entry is) ∙ write_of_task marks entry (drop (suc i) (tasks_of marks entries))

marks_of_task : (marks : List Mark) (entry : Entry) (tasks : List Task) → next_marks (task_of marks entry ∷ tasks) ≡ marks_of marks entry
marks_of_task marks (MapEntry at first end) tasks = refl
marks_of_task marks (CopyEntry move) tasks = refl
marks_of_task marks (PointerEntry move) tasks = refl

pub marks_at : (marks : List Mark) (entries : List Entry) (i : ℕ) (entry : Entry) → slice_get entries i ≡ Some entry
    → next_marks (drop i (tasks_of marks entries)) ≡ marks_of marks entry
marks_at marks entries i entry is = ap next_marks (left_at marks entries i entry is) ∙ marks_of_task marks entry (drop (suc i) (tasks_of marks entries))

-- an entry has its marks
pub has_marks : (marks : List Mark) (entries : List Entry) (i : ℕ) (entry : Entry) → All (HasMarks marks) entries → slice_get entries i ≡ Some entry → HasMarks marks entry
has_marks marks entries i entry all is = subst (HasMarks marks) (get_or_from_slice_get entries i entry entry is) (all i entry (slice_get_within entries i entry is))

-- past the next write
pub past_next : (tasks : List Task) (i : ℕ) → drop (i + 1) tasks ≡ drop 1 (drop i tasks)
past_next tasks i = sym (drop-drop 1 i tasks)

-- an agenda of which something is left is not at its end
pub before_end : (marks : List Mark) (entries : List Entry) (i : ℕ) → drop i (tasks_of marks entries) ≢ [] → i < length entries
before_end marks entries i left = elim (cases_lt i (length entries)) [ inl lt ↦ lt | inr ge ↦ absurd (left (drop_all i (tasks_of marks entries) (rw length-map ge))) ]

counted_head : (tasks : List Task) → length (moves_of tasks) ≡ moves_ended (next_write tasks) + length (moves_of (drop 1 tasks))
counted_head [] = refl
counted_head (Map at marks ∷ tasks) = omega arith
counted_head (Copy move ∷ tasks) = omega arith
counted_head (Pointer move ∷ tasks) = omega arith

pub kept_past : {A : Type 0} (agenda : Inside A) → IsKept agenda → tasks_left agenda ≢ []
    → IsKept (record agenda { next = agenda.next + 1; moves_left = agenda.moves_left - moves_ended (next_write (tasks_left agenda)) })
kept_past agenda kept left = record {
  marks = kept.marks;
  next = omega (arith, before_end agenda.marks.items agenda.entries.items agenda.next left);
  moves =
      let counted = counted_head (tasks_left agenda) in
      rw past_next (omega (arith, kept.moves, counted));
}

-- an agenda of which all is left
pub kept_whole : {A : Type 0} (agenda : Inside A) (tasks : List Task) (moves : List Move) → agenda.next ≡ 0 → All (HasMarks agenda.marks.items) agenda.entries.items
    → tasks_of agenda.marks.items agenda.entries.items ≡ tasks → moves_of tasks ≡ moves → agenda.moves_left ≡ length moves → IsKept agenda
kept_whole agenda tasks moves start marks are of count = record {
  marks = marks;
  next = omega (arith, start);
  moves = rw start (count ∙ ap length (sym (ap moves_of are ∙ of)));
}
