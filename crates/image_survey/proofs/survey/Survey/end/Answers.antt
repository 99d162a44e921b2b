use Rattle.shop_replies.proofs.Appended.{all_front}
use Rattle.image_survey.proofs.Ends.{ended, ended_early}
use Rattle.image_survey.proofs.Groups.{says_true}
use Rattle.image_survey.proofs.survey.Survey.end.Goals as goal

pub returns-then-not-write_all_lines : goal.returns-then-not-write_all_lines
returns-then-not-write_all_lines g c = λ told is.
    let old = g.T.Write.contents c.args.text.now in
    let new = g.T.Write.contents c.write_all_lines.new.text in
    ended_early told c.args.self is c.in-Ok.same.items c.in-Ok-same_lines.twins.items (rw c.as_slice.ensures.value at c.in-Ok.ensures)
    (rw c.as_slice-2.ensures.value at c.in-Ok-same_lines.ensures) c.args.passed old old new
    (rw (c.as_slice-3.ensures.value, c.as_slice-same.ensures.value, c.as_slice-twins.ensures.value) at c.write_all_lines.ensures.front)

pub returns-in-Ok-last_line : goal.returns-in-Ok-last_line
returns-in-Ok-last_line g c = λ told is.
    let old = g.T.Write.contents c.args.text.now in
    let mid = g.T.Write.contents c.write_all_lines.new.text in
    let new = g.T.Write.contents c.written.new.writer in
    let wrote = c.write_all_lines.ensures.whole (says_true c.write_all_lines.result c.if-not-write_all_lines.false) in
    ended told c.args.self is c.in-Ok.same.items c.in-Ok-same_lines.twins.items (rw c.as_slice.ensures.value at c.in-Ok.ensures)
    (rw c.as_slice-2.ensures.value at c.in-Ok-same_lines.ensures) c.args.passed old mid new c.written.result
    (rw (c.as_slice-3.ensures.value, c.as_slice-same.ensures.value, c.as_slice-twins.ensures.value) at wrote)
    (rw (c.status.ensures, c.as_bytes.ensures.value, c.in-Ok-last_line.ensures, c.as_slice-same.ensures.value, c.as_slice-twins.ensures.value)
    at c.written.ensures)

pub returns : goal.returns
returns g c = λ told is.
    let old = g.T.Write.contents c.args.text.now in
    let new = g.T.Write.contents c.write_all_lines.new.text in
    let wrote = c.write_all_lines.ensures.whole (says_true c.write_all_lines.result c.if-not-write_all_lines.false) in
    ended_early told c.args.self is c.in-Ok.same.items c.in-Ok-same_lines.twins.items (rw c.as_slice.ensures.value at c.in-Ok.ensures)
    (rw c.as_slice-2.ensures.value at c.in-Ok-same_lines.ensures) c.args.passed old old new
    (all_front old new _ (rw (c.as_slice-3.ensures.value, c.as_slice-same.ensures.value, c.as_slice-twins.ensures.value) at wrote))
