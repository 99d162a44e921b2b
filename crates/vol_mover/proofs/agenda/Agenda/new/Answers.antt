use Rattle.std.proofs.Common.{refl, sym, ap, ◌∙◌, subst, length}
use Rattle.vol_mover.specs.Drafts.{Drafted}
use Rattle.vol_mover.specs.Tasks.{IsAgenda, at_first, moves_of}
use Rattle.vol_mover.specs.Work.{IsWork}
use Rattle.vol_mover.specs.Writes.{writes_of}
use Rattle.vol_mover.proofs.LeftWrites.{kept_whole}
use Rattle.vol_mover.proofs.Spare.{lost_below}
use Rattle.vol_mover.proofs.Totals.{moves_of-writes_of, writes_are_work}
use Rattle.vol_mover.proofs.Whole.{writes_are_agenda}
use Rattle.vol_mover.proofs.agenda.Agenda.new.Goals as goal

pub draft_of-requires-clause-lost : goal.draft_of-requires-clause-lost
draft_of-requires-clause-lost g c =
    lost_below (g.F.Format.meaning c.args.format.now) (g.F.Format.directory c.args.format.now c.args.volume.now) (g.met.F.Format.rooted c.args.format.now c.args.volume.now)
    c.args.lost.now c.requires.spare.available

pub invariant_of-result : goal.invariant_of-result
invariant_of-result g c =
    let directory = g.F.Format.directory c.args.format.now c.args.volume.now in
    let tasks = writes_of directory c.args.at.now c.args.lost.now c.args.moves.now in
    let parts = c.into_parts-entries in
    kept_whole (record { entries = parts.result.0; marks = parts.result.1; next = 0; moves_left = length c.args.moves.now }) tasks c.args.moves.now refl parts.ensures.marks
    (parts.ensures.tasks ∙ ap (λ (draft : Drafted). draft.tasks) c.in_ok-draft.ensures) (moves_of-writes_of directory c.args.at.now c.args.lost.now c.args.moves.now) refl

pub returns-clause-agenda : goal.returns-clause-agenda
returns-clause-agenda g c =
    let directory = g.F.Format.directory c.args.format.now c.args.volume.now in
    let is = c.into_parts-entries.ensures.tasks ∙ ap (λ (draft : Drafted). draft.tasks) c.in_ok-draft.ensures in
    subst (IsAgenda directory (length c.args.lost.now) (at_first c.args.at.now c.args.lost.now)) (sym is)
    (writes_are_agenda (g.F.Format.meaning c.args.format.now) directory (g.met.F.Format.rooted c.args.format.now c.args.volume.now) c.args.at.now c.args.lost.now c.requires.spare
    c.args.moves.now c.requires.plan)

pub returns-clause-moves : goal.returns-clause-moves
returns-clause-moves g c =
    let directory = g.F.Format.directory c.args.format.now c.args.volume.now in
    let is = c.into_parts-entries.ensures.tasks ∙ ap (λ (draft : Drafted). draft.tasks) c.in_ok-draft.ensures in
    ap moves_of is ∙ moves_of-writes_of directory c.args.at.now c.args.lost.now c.args.moves.now

pub returns-clause-writes : goal.returns-clause-writes
returns-clause-writes g c =
    let directory = g.F.Format.directory c.args.format.now c.args.volume.now in
    let is = c.into_parts-entries.ensures.tasks ∙ ap (λ (draft : Drafted). draft.tasks) c.in_ok-draft.ensures in
    subst (λ tasks. IsWork (length directory.map_units) c.args.at.now c.args.lost.now c.args.moves.now (length tasks)) (sym is)
    (writes_are_work (g.F.Format.meaning c.args.format.now) directory (g.met.F.Format.rooted c.args.format.now c.args.volume.now) c.args.at.now c.args.lost.now
    c.args.moves.now c.requires.plan c.requires.spare)
