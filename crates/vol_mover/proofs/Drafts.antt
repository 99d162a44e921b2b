-- A mark more in an agenda that is being made.
use Rattle.std.proofs.Common.{◌≡◌, ℕ, ◌-◌, ◌≤◌, List, [], ◌∷◌, ◌++◌, length, take, drop, refl, ap, ◌∙◌, arith, length-drop}
use Rattle.std.specs.Prelude.{slice_range, All}
use Rattle.std.proofs.lemmas.List.{drop-append-le, take-append-le}
use Rattle.std.proofs.lemmas.List.Elements.{All-head, All-tail}
use Rattle.vol_laws.specs.declared.mark.Mark.{Mark}
use Rattle.vol_mover.specs.Drafts.{drafted, IsDraft}
use Rattle.vol_mover.specs.Entries.{task_of, tasks_of, HasMarks}
use Rattle.vol_mover.specs.Tasks.{Map}
use Rattle.vol_mover.specs.declared.draft.Draft.TheInside.{Inside}
use Rattle.vol_mover.specs.declared.entry.Entry.{Entry}
use Rattle.vol_mover.specs.declared.entry.Entry.TheVariants.{Map as MapEntry, Copy as CopyEntry, Pointer as PointerEntry}

same_range : (marks : List Mark) (mark : Mark) (first end : ℕ) → first ≤ end → end ≤ length marks → slice_range (marks ++ mark ∷ []) first end ≡ slice_range marks first end
same_range marks mark first end order within =
    ap (take (end - first)) (drop-append-le first marks (mark ∷ []) (omega arith))
    ∙ take-append-le (end - first) (drop first marks) (mark ∷ []) (omega (arith, length-drop first marks))

same_task : (marks : List Mark) (mark : Mark) (entry : Entry) → HasMarks marks entry → task_of (marks ++ mark ∷ []) entry ≡ task_of marks entry
same_task marks mark (MapEntry at first end) has = ap (Map at) (same_range marks mark first end has.0 has.1)
same_task marks mark (CopyEntry move) has = refl
same_task marks mark (PointerEntry move) has = refl

same_tasks : (marks : List Mark) (mark : Mark) (entries : List Entry) → All (HasMarks marks) entries → tasks_of (marks ++ mark ∷ []) entries ≡ tasks_of marks entries
same_tasks marks mark [] has = refl
same_tasks marks mark (entry ∷ entries) has =
    let here = same_task marks mark entry (All-head (HasMarks marks) entry entries has) in
    let rest = same_tasks marks mark entries (All-tail (HasMarks marks) entry entries has) in
    cc

pub drafted-mark : {A : Type 0} (draft : Inside A) (mark : Mark) (now : List Mark) → IsDraft draft → now ≡ draft.marks.items ++ mark ∷ []
    → record { tasks = tasks_of now draft.entries.items; marks = drop draft.first now } ≡ record (drafted draft) { marks = (drafted draft).marks ++ mark ∷ [] }
drafted-mark draft mark now is pushed =
    let tasks = ap (λ marks. tasks_of marks draft.entries.items) pushed ∙ same_tasks draft.marks.items mark draft.entries.items is.marks in
    let marks = ap (drop draft.first) pushed ∙ drop-append-le draft.first draft.marks.items (mark ∷ []) is.first in
    cc
