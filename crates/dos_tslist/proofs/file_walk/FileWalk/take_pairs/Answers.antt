use Rattle.std.proofs.Common.{◌≡◌, ◌∙◌, ℕ, List, sym, subst, IfErr}
use Rattle.std.proofs.lemmas.Result.{err_from_is_err_and}
use Rattle.a2_device.specs.declared.fault.Fault.{Fault}
use Rattle.a2_device.specs.declared.fault.WalkError.TheVariants.{Fault as AFault}
use Rattle.dos_tslist.specs.Reach.{FileFaultAt}
use Rattle.dos_tslist.proofs.Steps.{pairing_on, pairing_refused}
use Rattle.dos_tslist.proofs.file_walk.FileWalk.take_pairs.Goals as goal

pub returns-in_err-follow-clause-refused : goal.returns-in_err-follow-clause-refused
returns-in_err-follow-clause-refused g c = λ store first entry at here table before.
    let given = err_from_is_err_and c.from_residual.result c.from_residual.ensures.1 in
    let old = c.args.self.now in
    let now = c.loop-index in
    subst (λ r. IfErr r (λ e. (fault : Fault) → e ≡ AFault fault → FileFaultAt store old.file first entry fault)) (sym given.1)
    (λ fault same.
    let gives = given.2 in
    let mine : c.in_err-follow.field-0.0 ≡ AFault fault = cc in
    pairing_refused old.file c.args.number c.args.holder c.args.unit.now old.met now.self.met old.parts.items now.self.parts.items now.index c.pair.result
    c.loop-index-test.true c.pair.ensures now.invariant.pairing store first entry at here table before fault (c.in_err-follow.ensures.refused fault mine))

pub loop-index-preserved : goal.loop-index-preserved
loop-index-preserved g c =
    let old = c.args.self.now in
    let now = c.loop-index in
    record {
      file = c.follow.ensures.file ∙ now.invariant.file;
      size = c.follow.ensures.size;
      pairing = pairing_on old.file c.args.number c.args.holder c.args.unit.now old.met now.self.met old.parts.items now.self.parts.items now.index c.pair.result
          c.loop-index-test.true c.pair.ensures now.invariant.pairing now.self.file c.follow.new.self.met c.follow.new.self.parts.items now.invariant.file
          c.in_ok-follow.ensures.tame c.in_ok-follow.ensures.parts c.in_ok-follow.ensures.table c.in_ok-follow.ensures.unmet;
    }
