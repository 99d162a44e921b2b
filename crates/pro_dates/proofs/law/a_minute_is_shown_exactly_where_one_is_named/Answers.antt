use Rattle.pro_dates.proofs.DatesDecided.{moment_decided}
use Rattle.pro_dates.proofs.law.a_minute_is_shown_exactly_where_one_is_named.Goals as goal

pub returns : goal.returns
returns c = moment_decided c.args.date.0
