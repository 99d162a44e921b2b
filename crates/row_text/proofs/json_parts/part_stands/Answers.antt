use Rattle.std.proofs.Common.{arith}
use Rattle.row_text.proofs.Parts.{part_stands}
use Rattle.row_text.proofs.json_parts.part_stands.Goals as goal

pub returns : goal.returns
returns c = part_stands c.args.form c.args.part (omega arith) (omega arith)
