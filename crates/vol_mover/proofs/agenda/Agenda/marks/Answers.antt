use Rattle.std.proofs.Common.{ap, sym, ◌∙◌}
use Rattle.vol_mover.specs.Agenda.{next_marks}
use Rattle.vol_mover.proofs.LeftWrites.{marks_at, left_past}
use Rattle.vol_mover.proofs.agenda.Agenda.marks.Goals as goal

pub returns-in-Some : goal.returns-in-Some
returns-in-Some g c =
    let left = c.self.inside in
    let is = rw c.deref.ensures.value at (sym c.entry_at.ensures ∙ c.in-Some.is) in
    let marks = rw c.deref-in-Some.ensures.value at c.marks_in.ensures in
    rw (← c.self.view_is) (marks ∙ sym (marks_at left.marks.items left.entries.items left.next c.in-Some.entry is))

pub returns-in-None : goal.returns-in-None
returns-in-None g c =
    let left = c.self.inside in
    let is = rw c.deref.ensures.value at (sym c.entry_at.ensures ∙ c.in-None.is) in
    rw (← c.self.view_is) (sym (ap next_marks (left_past left.marks.items left.entries.items left.next is)))
