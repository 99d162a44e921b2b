use Rattle.std.proofs.Common.{flat_map, map}
use Rattle.shop_replies.proofs.Appended.{appends_both, front_before, front_behind}
use Rattle.image_survey.specs.Survey.{same_line}
use Rattle.image_survey.specs.Told.{candidate_of}
use Rattle.image_survey.specs.declared.likeness.Likeness.TheVariants.{Files, Disk}
use Rattle.image_survey.proofs.Groups.{says_true}
use Rattle.image_survey.proofs.survey.write_all_lines.Goals as goal

pub returns-then-not-write_lines-clause-front : goal.returns-then-not-write_lines-clause-front
returns-then-not-write_lines-clause-front g c =
    let images = map candidate_of c.args.kept.now in
    front_before (g.T.Write.contents c.args.text.now) (g.T.Write.contents c.write_lines.new.text)
    (flat_map (same_line c.args.form Files images) c.args.same.now) (flat_map (same_line c.args.form Disk images) c.args.twins.now)
    c.write_lines.ensures.front

pub returns-clause-whole : goal.returns-clause-whole
returns-clause-whole g c = λ all.
    let images = map candidate_of c.args.kept.now in
    appends_both (g.T.Write.contents c.args.text.now) (g.T.Write.contents c.write_lines.new.text) (g.T.Write.contents c.write_lines-2.new.text)
    (flat_map (same_line c.args.form Files images) c.args.same.now) (flat_map (same_line c.args.form Disk images) c.args.twins.now)
    (c.write_lines.ensures.whole (says_true c.write_lines.result c.if-not-write_lines.false)) (c.write_lines-2.ensures.whole all)

pub returns-clause-front : goal.returns-clause-front
returns-clause-front g c =
    let images = map candidate_of c.args.kept.now in
    front_behind (g.T.Write.contents c.args.text.now) (g.T.Write.contents c.write_lines.new.text) (g.T.Write.contents c.write_lines-2.new.text)
    (flat_map (same_line c.args.form Files images) c.args.same.now) (flat_map (same_line c.args.form Disk images) c.args.twins.now)
    (c.write_lines.ensures.whole (says_true c.write_lines.result c.if-not-write_lines.false)) c.write_lines-2.ensures.front
