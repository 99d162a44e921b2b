use Rattle.std.proofs.Common.{◌≡◌, ◌++◌, map, take}
use Rattle.image_survey.specs.Grouping.{number_of}
use Rattle.image_survey.specs.Same.{group_lines}
use Rattle.image_survey.proofs.same.Groups.add_lines.Given as goal

abbrev pub invariant-loop-key : goal.invariant-loop-key
invariant-loop-key l = record {
  lines : l.self.lines.items ≡ l.fn.self.lines.items ++ group_lines l.group (map number_of (take l.key-index l.run));
  count : l.self.count ≡ l.fn.self.count;
}
