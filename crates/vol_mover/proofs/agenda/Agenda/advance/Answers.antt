use Rattle.std.proofs.Common.{ap, sym, ◌∙◌}
use Rattle.std.specs.Prelude.{drop}
use Rattle.vol_mover.specs.Agenda.{next_write}
use Rattle.vol_mover.specs.Entries.{tasks_of, moves_ended}
use Rattle.vol_mover.proofs.LeftWrites.{kept_past, past_next}
use Rattle.vol_mover.proofs.agenda.Agenda.advance.Goals as goal

pub invariant_of-self : goal.invariant_of-self
invariant_of-self g c =
    let moves = c.moves_ended.ensures ∙ ap (λ left. moves_ended (next_write left)) (sym c.self.view_is) in
    rw moves (kept_past c.self.inside c.self.invariant (λ none. c.requires (sym c.self.view_is ∙ none)))

pub returns : goal.returns
returns g c = let left = c.self.inside in past_next (tasks_of left.marks.items left.entries.items) left.next ∙ ap (drop 1) c.self.view_is
