use Rattle.std.proofs.Common.{ap, sym, ◌∙◌}
use Rattle.std.specs.Prelude.{Some}
use Rattle.vol_mover.specs.Agenda.{next_write}
use Rattle.vol_mover.proofs.LeftWrites.{next_at, left_past}
use Rattle.vol_mover.proofs.agenda.Agenda.next.Goals as goal

pub returns-in-Some : goal.returns-in-Some
returns-in-Some g c =
    let left = c.self.inside in
    let is = rw c.deref.ensures.value at (sym c.entry_at.ensures ∙ c.in-Some.is) in
    rw (← c.self.view_is) (ap Some c.write.ensures ∙ sym (next_at left.marks.items left.entries.items left.next c.in-Some.entry is))

pub returns-in-None : goal.returns-in-None
returns-in-None g c =
    let left = c.self.inside in
    let is = rw c.deref.ensures.value at (sym c.entry_at.ensures ∙ c.in-None.is) in
    rw (← c.self.view_is) (sym (ap next_write (left_past left.marks.items left.entries.items left.next is)))
