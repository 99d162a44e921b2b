use Rattle.std.proofs.Common.{◌∙◌, List, ℕ, arith, subst, tests}
use Rattle.shop_replies.specs.Reply.{IsWritten}
use Rattle.shop_changes.specs.Outcome.{line_of_report}
use Rattle.shop_changes.proofs.Telling.{both_written, only_first}
use Rattle.shop_changes.proofs.outcome.tell_report.Goals as goal

pub returns-then-written-eq-FAILED : goal.returns-then-written-eq-FAILED
returns-then-written-eq-FAILED g c =
    let front_is = c.as_bytes.ensures.value ∙ c.as_str.ensures.value ∙ c.line_of-line.ensures in
    let report = c.args.report.now in
    only_first _ _ (line_of_report report) report.cert.items c.written.result
    (subst (λ (f : List ℕ). IsWritten 0 f c.written.result (g.T.Write.contents c.args.text.now) (g.T.Write.contents c.written.new.writer)) front_is c.written.ensures)
    (omega (arith, tests, c.if-written-eq-FAILED.true))

pub returns : goal.returns
returns g c =
    let front_is = c.as_bytes.ensures.value ∙ c.as_str.ensures.value ∙ c.line_of-line.ensures in
    let report = c.args.report.now in
    both_written (g.T.Write.contents c.args.text.now) (g.T.Write.contents c.written.new.writer) (g.T.Write.contents c.written-2.new.writer)
    (line_of_report report) report.cert.items c.written.result c.written-2.result
    (subst (λ (f : List ℕ). IsWritten 0 f c.written.result (g.T.Write.contents c.args.text.now) (g.T.Write.contents c.written.new.writer)) front_is c.written.ensures)
    (λ failed. omega (arith, tests, failed, c.if-written-eq-FAILED.false))
    (subst (λ (f : List ℕ). IsWritten 0 f c.written-2.result (g.T.Write.contents c.written.new.writer) (g.T.Write.contents c.written-2.new.writer)) c.as_slice.ensures.value c.written-2.ensures)
