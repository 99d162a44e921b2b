use Rattle.pro_bitmap.proofs.Next.{NoneBelow}
use Rattle.pro_bitmap.proofs.bitmap.Bitmap.next_free.Given as goal

abbrev pub invariant-loop-block : goal.invariant-loop-block
invariant-loop-block g l = NoneBelow l.self l.from l.block
