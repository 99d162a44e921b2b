use Rattle.std.proofs.Common.{arith}
use Rattle.library_tests.proofs.formats.pro_formats.pointed.Goals as goal

pub put_pointer-requires-clause-place : goal.put_pointer-requires-clause-place
put_pointer-requires-clause-place c = (8192, ((omega arith, omega arith), omega arith))
