use Rattle.std.proofs.Common.{refl}
use Rattle.std.proofs.lemmas.Bool.{false≢true}
use Rattle.vol_layout.specs.declared.moves.Move.{Move}
use Rattle.std.proofs.lemmas.Result.{err_from_is_err_and}
use Rattle.ring_cert.proofs.Walks.{ReachesTo-none, ReachesTo-more, ReachesTo-all, ReachesTo-illegal}
use Rattle.ring_cert.proofs.verifying.end_of.Goals as goal

abbrev none : Move
none = record { part = 0; to = 0 }

pub returns-then-not-make-clause-illegal : goal.returns-then-not-make-clause-illegal
returns-then-not-make-clause-illegal g c =
    ReachesTo-illegal c.args.layout.now c.loop-index.now c.args.moves.now c.loop-index.index none c.loop-index-test.true c.loop-index.invariant
    (λ legal. false≢true (c.if-not-make.ensures.legal.1 legal))

pub loop-index-preserved : goal.loop-index-preserved
loop-index-preserved g c =
    ReachesTo-more c.args.layout.now c.loop-index.now c.make.new.self c.args.moves.now c.loop-index.index none
    c.loop-index-test.true c.loop-index.invariant (c.if-not-make.ensures.legal.0 refl) (c.if-not-make.ensures.made refl)

pub returns-in_err-now-clause-illegal : goal.returns-in_err-now-clause-illegal
returns-in_err-now-clause-illegal g c =
    let given = err_from_is_err_and c.from_residual.result c.from_residual.ensures.1 in
    rw (given.1, given.2) tt

pub loop-index-init : goal.loop-index-init
loop-index-init g c = ReachesTo-none c.args.layout.now c.in_ok-now.now c.args.moves.now c.in_ok-now.ensures

pub returns-clause-plan : goal.returns-clause-plan
returns-clause-plan g c = (ReachesTo-all c.args.layout.now c.loop-index.now c.args.moves.now c.loop-index.index c.loop-index-test.false c.loop-index.invariant).0

pub returns-clause-end : goal.returns-clause-end
returns-clause-end g c = (ReachesTo-all c.args.layout.now c.loop-index.now c.args.moves.now c.loop-index.index c.loop-index-test.false c.loop-index.invariant).1
