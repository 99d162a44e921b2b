use Rattle.std.proofs.Common.{◌∙◌, sym}
use Rattle.pro_dates.proofs.SaidDates.{date_said, none_said, read_as}
use Rattle.pro_dates.proofs.said.date.Goals as goal

pub returns-in_ok-ok-in-Some-clause-said : goal.returns-in_ok-ok-in-Some-clause-said
returns-in_ok-ok-in-Some-clause-said c =
    let moment = c.in_ok-ok-in-Some.field-0 in
    let read = read_as c.in-Some.text.now c.parse.result moment c.parse.ensures.value (sym c.ok.ensures.value ∙ c.in_ok-ok-in-Some.was) in
    rw c.in-Some.is
    (date_said c.in-Some.text.now moment c.from_civil.result read c.from_civil.ensures.known c.from_civil.ensures.moment c.from_civil.ensures.value)

pub returns-in_ok-ok-in-Some-clause-none : goal.returns-in_ok-ok-in-Some-clause-none
returns-in_ok-ok-in-Some-clause-none c =
    let moment = c.in_ok-ok-in-Some.field-0 in
    let read = read_as c.in-Some.text.now c.parse.result moment c.parse.ensures.value (sym c.ok.ensures.value ∙ c.in_ok-ok-in-Some.was) in
    rw c.in-Some.is (none_said c.in-Some.text.now moment c.from_civil.result read c.from_civil.ensures.known)
