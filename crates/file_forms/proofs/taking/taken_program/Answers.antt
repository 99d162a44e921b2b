use Rattle.std.proofs.Common.{ap, Err}
use Rattle.file_forms.proofs.taking.taken_program.Goals as goal

pub returns-in-Err-BadLine-clause-refused : goal.returns-in-Err-BadLine-clause-refused
returns-in-Err-BadLine-clause-refused g c = λ line told can. c.in-Err-BadLine.ensures.refused c.in-Err-BadLine.line (ap Err c.in-Err-BadLine.field-0-is) can.1.0 can.1.1
