use Rattle.std.proofs.Common.{◌*◌, ◌+◌, List, ℕ, ap, arith, FitsSigned, w16, get_or}
use Rattle.std.proofs.lemmas.Int.{ints, to_z-of_z}
use Rattle.pro_dates.proofs.Small.{moment_of}
use Rattle.pro_dates.proofs.civil.from_civil.Goals as goal

pub returns-clause-moment : goal.returns-clause-moment
returns-clause-moment c =
    let date = c.to_plain-plain.result.date in
    let time = c.to_plain-plain.result.time in
    let fits : FitsSigned w16 date.year = omega (arith, ints, date.year_in) in
    let year = simp to_z-of_z at c.in_ok-year.ensures.value in
    let bytes = c.to_le_bytes.ensures in
    moment_of c.in_ok-year.year date.month date.day time.hour time.minute _ _ (512 * c.in_ok-year.year + 32 * date.month + date.day) date.year c.in_ok-year.ensures.digits year
    date.year_in date.month_in date.day_in time.hour_in time.minute_in (omega arith) (ap (λ (b : List ℕ). get_or b 0 0) bytes) (ap (λ (b : List ℕ). get_or b 1 0) bytes)
