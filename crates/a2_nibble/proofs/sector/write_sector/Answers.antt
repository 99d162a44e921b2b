use Rattle.std.proofs.lemmas.Result.{err_from_is_err_and}
use Rattle.a2_nibble.proofs.sector.write_sector.Goals as goal

pub returns-in_err-field-clause-none : goal.returns-in_err-field-clause-none
returns-in_err-field-clause-none c =
    let given = err_from_is_err_and c.from_residual.result c.from_residual.ensures.1 in
    let is = given.1 in
    let gives = given.2 in (
      λ e. c.in_err-field.ensures.none.0 (cc),
      λ h. let e = c.in_err-field.ensures.none.1 h in (cc),
    )
