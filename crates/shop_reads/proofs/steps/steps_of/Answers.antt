use Rattle.std.proofs.Common.{◌∙◌, List, length, arith, subst, sym, ap, take_all}
use Rattle.a2_device.specs.declared.part.Part.{Part}
use Rattle.vol_layout.specs.declared.moves.Move.{Move}
use Rattle.vol_mover.specs.Opening.{told_in}
use Rattle.shop_reads.specs.Steps.{AreSteps}
use Rattle.shop_reads.proofs.StepLemmas.{told_below, told_legal, told_length, told_more}
use Rattle.shop_reads.proofs.steps.steps_of.Goals as goal

abbrev no_move : Move
no_move = record { part = 0; to = 0 }

pub step_of-requires-clause-parts : goal.step_of-requires-clause-parts
step_of-requires-clause-parts g c =
    let opening = c.args.opening.now in
    let directory = g.F.Format.directory c.args.format.now opening.volume in
    told_length directory (told_in directory opening) opening.plan.moves.items c.requires.told c.requires.plan.legal c.at.ensures.layout
    c.loop-next.next-index c.loop-next.layout.items c.as_slice.result.now c.loop-next.steps.items c.deref-next-items.result.now c.loop-next.invariant
    c.as_slice.ensures.value c.deref-next-items.ensures.value
    ∙ ap (λ (xs : List Part). length xs) (sym c.as_slice-parts.ensures.value)

pub step_of-requires-clause-below : goal.step_of-requires-clause-below
step_of-requires-clause-below g c =
    let opening = c.args.opening.now in
    let directory = g.F.Format.directory c.args.format.now opening.volume in
    told_below directory (told_in directory opening) opening.plan.moves.items c.requires.told c.requires.plan.legal c.at.ensures.layout
    c.loop-next.next-index c.loop-next.layout.items c.as_slice.result.now c.loop-next.steps.items c.deref-next-items.result.now c.loop-next.invariant
    c.as_slice.ensures.value c.deref-next-items.ensures.value

pub step_of-requires-clause-legal : goal.step_of-requires-clause-legal
step_of-requires-clause-legal g c =
    let opening = c.args.opening.now in
    let directory = g.F.Format.directory c.args.format.now opening.volume in
    told_legal directory (told_in directory opening) opening.plan.moves.items c.requires.told c.requires.plan.legal c.at.ensures.layout
    c.loop-next.next-index c.loop-next.layout.items c.as_slice.result.now c.loop-next.steps.items c.deref-next-items.result.now c.loop-next.invariant
    c.as_slice.ensures.value c.deref-next-items.ensures.value no_move c.loop-next-test.true

pub index_mut-requires : goal.index_mut-requires
index_mut-requires g c =
    let opening = c.args.opening.now in
    let directory = g.F.Format.directory c.args.format.now opening.volume in
    let legal = told_legal directory (told_in directory opening) opening.plan.moves.items c.requires.told c.requires.plan.legal c.at.ensures.layout
    c.loop-next.next-index c.loop-next.layout.items c.as_slice.result.now c.loop-next.steps.items c.deref-next-items.result.now c.loop-next.invariant
    c.as_slice.ensures.value c.deref-next-items.ensures.value no_move c.loop-next-test.true in
    let here = legal.part in
    omega (arith, here, c.as_slice.ensures.len)

pub loop-next-preserved : goal.loop-next-preserved
loop-next-preserved g c =
    let opening = c.args.opening.now in
    let directory = g.F.Format.directory c.args.format.now opening.volume in
    told_more directory (told_in directory opening) opening.plan.moves.items c.requires.told c.requires.plan.legal c.at.ensures.layout
    c.loop-next.next-index c.loop-next.layout.items c.as_slice.result.now c.loop-next.steps.items c.deref-next-items.result.now c.loop-next.invariant
    c.as_slice.ensures.value c.deref-next-items.ensures.value no_move c.loop-next-test.true
    c.as_slice-parts.result.now c.step_of.result c.push.new.self.items c.as_slice-parts.ensures.value c.in_ok-push.ensures.items c.step_of.ensures

pub returns-clause-steps : goal.returns-clause-steps
returns-clause-steps g c =
    let opening = c.args.opening.now in
    let moves = opening.plan.moves.items in
    let all = take_all c.loop-next.next-index moves (omega (arith, c.loop-next-test.false, ap (λ (ms : List Move). length ms) c.deref-next-items.ensures.value)) in
    subst (λ (ms : List Move). AreSteps opening.parts.items (g.F.Format.directory c.args.format.now opening.volume).available opening.layout.at ms c.loop-next.steps.items)
    all c.loop-next.invariant.are

pub returns-clause-files : goal.returns-clause-files
returns-clause-files g c = c.loop-next.invariant.in_files

pub bounds-next-items-next-index : goal.bounds-next-items-next-index
bounds-next-items-next-index g c = c.loop-next-test.true
