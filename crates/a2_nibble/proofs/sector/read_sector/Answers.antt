use Rattle.std.proofs.lemmas.Result.{err_from_is_err_and}
use Rattle.a2_nibble.proofs.sector.read_sector.Goals as goal

pub returns-in_err-field-clause-none : goal.returns-in_err-field-clause-none
returns-in_err-field-clause-none c =
    let given = err_from_is_err_and c.from_residual.result c.from_residual.ensures.1 in
    let is = given.1 in
    let gives = given.2 in (
      λ e. c.in_err-field.ensures.none.0 (cc),
      λ h. let e = c.in_err-field.ensures.none.1 h in (cc),
    )

pub returns-clause-only : goal.returns-clause-only
returns-clause-only c = λ other h. c.read_field.ensures.only c.args.track c.args.sector other c.in_ok-field.ensures.found h
