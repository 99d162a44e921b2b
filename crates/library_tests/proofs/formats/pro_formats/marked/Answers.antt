use Rattle.std.proofs.Common.{arith}
use Rattle.library_tests.proofs.formats.pro_formats.marked.Goals as goal

pub mark-requires-clause-place : goal.mark-requires-clause-place
mark-requires-clause-place c = (8192, (omega arith, omega arith), omega arith)

pub mark-requires-2-clause-place : goal.mark-requires-2-clause-place
mark-requires-2-clause-place c = (8192, (omega arith, omega arith), omega arith)

pub release-requires-clause-place : goal.release-requires-clause-place
release-requires-clause-place c = (8192, (omega arith, omega arith), omega arith)
