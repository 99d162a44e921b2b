use Rattle.std.proofs.Common.{◌≡◌, ◌∙◌, sym}
use Rattle.std.proofs.lemmas.Result.{err_from_is_err_and}
use Rattle.integer_basic.specs.declared.error.ListError.TheVariants.{Form}
use Rattle.integer_basic.proofs.Programs.{at_end, no_line, no_text, step}
use Rattle.integer_basic.proofs.listing.list.Goals as goal

pub loop-rest-preserved : goal.loop-rest-preserved
loop-rest-preserved g c =
    step _ _ _ c.in-Some.line.number c.in-Some.line.body.now _ _ c.loop-rest.invariant c.in-Some.ensures.some c.in_ok-push_line.ensures.put

pub returns-in_default-clause-form : goal.returns-in_default-clause-form
returns-in_default-clause-form g c same =
    no_line _ _ _ c.loop-rest.invariant (sym c.is_end.ensures ∙ c.loop-rest-test.true) c.in_default.ensures.none

pub returns-in_err-push_line-clause-form : goal.returns-in_err-push_line-clause-form
returns-in_err-push_line-clause-form g c same =
    let given = err_from_is_err_and c.from_residual.result c.from_residual.ensures.1 in
    let gives = given.2 in
    let mine : c.in_err-push_line.field-0.0 ≡ Form = cc in
    no_text _ _ _ c.in-Some.line.number c.in-Some.line.body.now _ c.loop-rest.invariant c.in-Some.ensures.some (c.in_err-push_line.ensures.form (cc))

pub returns-clause-listed : goal.returns-clause-listed
returns-clause-listed g c = at_end _ _ _ c.loop-rest.invariant (sym c.is_end.ensures ∙ c.loop-rest-test.false)
