use Rattle.std.proofs.Common.{◌+◌, List, arith, map, subst, sym}
use Rattle.std.proofs.lemmas.List.{length-map}
use Rattle.image_survey.specs.Grouping.{AreGrouped, number_of}
use Rattle.image_survey.specs.declared.same.SameLine.{SameLine}
use Rattle.image_survey.proofs.Groups.{grouped_more, grouped_same, says_false, says_true}
use Rattle.image_survey.proofs.same.Groups.add.Goals as goal

pub returns-in_ok-add_lines : goal.returns-in_ok-add_lines
returns-in_ok-add_lines c = λ keys key within of alike grouped.
    let begins = c.begins_group.ensures.0 (says_true c.begins_group.result c.if-begins_group.true) in
    subst (λ (lines : List SameLine). AreGrouped keys (c.args.number + 1) (c.args.self.now.count + 1) lines) (sym c.in_ok-add_lines.ensures.lines)
    (grouped_more keys c.args.number within key of (map number_of c.args.run.now) alike c.args.self.now.count c.args.self.now.lines.items grouped
    (omega (arith, begins.0, length-map c.args.run.now number_of)) begins.1)

pub returns-else-begins_group : goal.returns-else-begins_group
returns-else-begins_group c = λ keys key within of alike grouped.
    grouped_same keys c.args.number within key of (map number_of c.args.run.now) alike c.args.self.now.count c.args.self.now.lines.items grouped
    (λ is. says_false c.begins_group.result c.if-begins_group.false (c.begins_group.ensures.1 (omega (arith, is.0, length-map c.args.run.now number_of), is.1)))
