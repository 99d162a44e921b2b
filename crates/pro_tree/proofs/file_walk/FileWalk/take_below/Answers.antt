use Rattle.std.proofs.Common.{◌+◌, ◌*◌, ◌≤◌, ℕ, sym, subst, arith}
use Rattle.pro_tree.specs.Reach.{pro_pointers}
use Rattle.pro_tree.specs.Parts.{rank}
use Rattle.pro_tree.specs.Walk.{IsTaking}
use Rattle.pro_tree.proofs.Ends.{taking_all, leaf_taking, no_pointers, on_ok}
use Rattle.pro_tree.proofs.file_walk.FileWalk.take_below.Goals as goal

pub returns-in-Master-clause-taken : goal.returns-in-Master-clause-taken
returns-in-Master-clause-taken g c = λ honest.
    let store = (g.D.Device.state c.args.device.now).store in
    let part = c.args.part.now in
    let old = c.args.self.now.parts.items in
    let new = c.take_tree.new.self.parts.items in
    let few : pro_pointers part.kind ≤ 128 = subst (λ k. pro_pointers k ≤ 128) (sym c.in-Master.is) (omega arith) in
    on_ok (IsTaking store part old new 128 (1 + 257 * 128)) ((below : ℕ) × IsTaking store part old new 256 below) c.take_tree.result
    (λ taken. (1 + 257 * 128, taking_all store part old new 128 (1 + 257 * 128) few taken)) (c.take_tree.ensures.taken honest)

pub returns-in_default-clause-taken : goal.returns-in_default-clause-taken
returns-in_default-clause-taken g c = λ honest.
    let store = (g.D.Device.state c.args.device.now).store in
    let part = c.args.part.now in
    (rank part + 1, leaf_taking store part c.args.self.now.parts.items (no_pointers part.kind c.in_default.not-Master c.in_default.not-Index))
