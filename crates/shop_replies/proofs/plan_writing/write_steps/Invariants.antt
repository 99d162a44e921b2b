use Rattle.std.proofs.Common.{◌≡◌, flat_map, take}
use Rattle.std.specs.Io.KnownBytes.{Appends}
use Rattle.file_listings.specs.ProSteps.{plan_in, plan_line}
use Rattle.shop_replies.proofs.plan_writing.write_steps.Given as goal

abbrev pub invariant-loop-number : goal.invariant-loop-number
invariant-loop-number g l = record {
  plan : plan_in l.lines ≡ plan_in l.fn.lines;
  grown : Appends (g.W.Write.contents l.fn.writer) (g.W.Write.contents l.writer) (flat_map (plan_line (plan_in l.fn.lines)) (take l.number (plan_in l.fn.lines).steps));
}
