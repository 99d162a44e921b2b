use Rattle.shop_changes.proofs.Lines.{line_is}
use Rattle.shop_changes.proofs.report_line.line_of.Goals as goal

pub returns : goal.returns
returns c =
    let report = c.args.report.now in
    line_is report.moves report.rings report.misplaced report.map_writes report.finished _ _ _ _ _ _ _ c.new-line.ensures c.put_number.ensures.bytes c.put_number-2.ensures.bytes
    c.put_number-3.ensures.bytes c.put_number-4.ensures.bytes c.end_word.ensures.word c.push_str.ensures.bytes
