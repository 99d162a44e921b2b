use Rattle.std.proofs.Common.{◌∙◌}
use Rattle.pro_dates.proofs.NoMinutes.{no_minute}
use Rattle.pro_dates.proofs.shown.minute_of.Goals as goal

pub returns-in_err-to_civil : goal.returns-in_err-to_civil
returns-in_err-to_civil c = c.from_residual.ensures ∙ no_minute c.args.date.0 c.to_civil.result c.to_civil.ensures.known c.in_err-to_civil.was
