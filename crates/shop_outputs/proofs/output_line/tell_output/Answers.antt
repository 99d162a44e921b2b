use Rattle.std.proofs.Common.{inl, refl}
use Rattle.shop_outputs.proofs.output_line.tell_output.Goals as goal

pub returns-then-lacks_output : goal.returns-then-lacks_output
returns-then-lacks_output g c = inl (c.lacks_output.ensures.0 c.if-lacks_output.true, refl, c.written.ensures)
