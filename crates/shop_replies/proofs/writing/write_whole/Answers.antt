use Rattle.std.proofs.Common.{ℕ, ◌≤◌, length, List, take, arith, subst, sym}
use Rattle.std.proofs.Math.ListN.{drop}
use Rattle.std.proofs.lemmas.List.{take_rest, length-drop}
use Rattle.std.specs.Io.KnownBytes.{Appends}
use Rattle.shop_replies.proofs.Appended.{appends_on, appends_kept}
use Rattle.shop_replies.proofs.writing.write_whole.Goals as goal
use Rattle.shop_replies.proofs.writing.write_whole.Goals.{in-Ok, in-Err}

pub loop-preserved : goal.loop-preserved
loop-preserved g c =
    let bytes = c.args.bytes.now in
    let old = g.W.Write.contents c.args.writer.now in
    let mid = g.W.Write.contents c.loop.writer in
    let new = g.W.Write.contents c.write.new.self in
    elim c.match-write.branch [
      | in-Ok w ↦
          let rest = take_rest bytes c.loop.taken in
          let bound : w.in-Ok.count ≤ length (drop c.loop.taken bytes) = subst (λ (xs : List ℕ). w.in-Ok.count ≤ length xs) rest (w.in-Ok.ensures).bound in
          let more : Appends mid new (take w.in-Ok.count (drop c.loop.taken bytes)) = subst (λ (xs : List ℕ). Appends mid new (take w.in-Ok.count xs)) rest (w.in-Ok.ensures).bytes in
          record {
            within = omega (arith, w.taken-is, bound, length-drop c.loop.taken bytes, c.loop.invariant.within);
            grown = subst (λ n. Appends old new (take n bytes)) (sym w.taken-is) (appends_on old mid new bytes c.loop.taken w.in-Ok.count c.loop.invariant.grown more);
          }
      | in-Err w ↦ record {
        within = omega (arith, w.taken-is, c.loop.invariant.within);
        grown = subst (λ n. Appends old new (take n bytes)) (sym w.taken-is) (appends_kept old mid new (take c.loop.taken bytes) c.loop.invariant.grown (w.in-Err.ensures).bytes);
      }
    ]
