use Rattle.std.proofs.Common.{flat_map, List, map, subst, take_all}
use Rattle.std.specs.Io.KnownBytes.{Appends}
use Rattle.shop_replies.proofs.Appended.{all_front, texts_stopped}
use Rattle.image_survey.specs.Survey.{same_line}
use Rattle.image_survey.specs.Told.{candidate_of}
use Rattle.image_survey.specs.declared.same.SameLine.{SameLine}
use Rattle.image_survey.proofs.survey.write_lines.Goals as goal

pub returns-then-not-write_same-clause-front : goal.returns-then-not-write_same-clause-front
returns-then-not-write_same-clause-front g c =
    let line : SameLine → List _ = same_line c.args.form c.args.likeness (map candidate_of c.args.kept.now) in
    texts_stopped line c.args.lines.now (record { group = 0; image = 0 }) c.loop-same.same-index (g.T.Write.contents c.args.text.now)
    (g.T.Write.contents c.loop-same.text) (g.T.Write.contents c.write_same.new.text) c.loop-same-test.true c.loop-same.invariant c.write_same.ensures.front

pub returns-clause-front : goal.returns-clause-front
returns-clause-front g c =
    let line : SameLine → List _ = same_line c.args.form c.args.likeness (map candidate_of c.args.kept.now) in
    let old = g.T.Write.contents c.args.text.now in
    let new = g.T.Write.contents c.loop-same.text in
    all_front old new (flat_map line c.args.lines.now)
    (subst (λ (some : List SameLine). Appends old new (flat_map line some))
    (take_all c.loop-same.same-index c.args.lines.now c.loop-same-test.false) c.loop-same.invariant)
