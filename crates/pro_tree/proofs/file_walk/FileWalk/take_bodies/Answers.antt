use Rattle.std.proofs.Common.{◌≡◌, ◌∙◌, sym, subst, IfErr}
use Rattle.std.proofs.lemmas.Result.{err_from_is_err_and}
use Rattle.a2_device.specs.declared.fault.Fault.{Fault}
use Rattle.a2_device.specs.declared.fault.WalkError.TheVariants.{Fault as AFault}
use Rattle.pro_tree.specs.Parts.{FileFaultAt}
use Rattle.pro_tree.specs.Walk.{IsRefusedAt}
use Rattle.pro_tree.proofs.Steps.{named_is, body_followed, body_refused}
use Rattle.pro_tree.proofs.file_walk.FileWalk.take_bodies.Goals as goal

pub returns-in_err-follow-clause-refused : goal.returns-in_err-follow-clause-refused
returns-in_err-follow-clause-refused g c = λ store file storage key entry size read reached.
    let given = err_from_is_err_and c.from_residual.result c.from_residual.ensures.1 in
    let old = c.args.self.now in
    let index = c.args.index.now in
    let now = c.loop-number in
    let link = c.child.ensures ∙ sym (named_is store index now.self.places c.args.unit.now now.number (size ∙ sym now.invariant.places) read) in
    subst (λ r. IfErr r (λ e. (fault : Fault) → e ≡ AFault fault → FileFaultAt store file storage key entry fault)) (sym given.1)
    (λ fault same.
    let gives = given.2 in
    let mine : c.in_err-follow.field-0.0 ≡ AFault fault = cc in
    body_refused store file storage key entry index old.met.items now.self.met.items old.parts.items now.self.parts.items now.number
    c.requires.kind (now.invariant.taking store size read) now.invariant.table reached fault
    (subst (λ l. IsRefusedAt now.self.met.items index.place l fault) link (c.in_err-follow.ensures.refused fault mine)))

pub loop-number-preserved : goal.loop-number-preserved
loop-number-preserved g c =
    let old = c.args.self.now in
    let index = c.args.index.now in
    let now = c.loop-number in
    record {
      places = c.follow.ensures.places ∙ now.invariant.places;
      size = c.follow.ensures.size ∙ now.invariant.size;
      table = λ met. c.in_ok-follow.ensures.table (now.invariant.table met);
      taking = λ store size read.
          let link = c.child.ensures ∙ sym (named_is store index now.self.places c.args.unit.now now.number (size ∙ sym now.invariant.places) read) in
          body_followed store index old.parts.items now.self.parts.items c.follow.new.self.parts.items now.number c.child.result
          c.requires.kind (now.invariant.taking store size read) (sym link) c.in_ok-follow.ensures.tame c.in_ok-follow.ensures.parts;
    }
