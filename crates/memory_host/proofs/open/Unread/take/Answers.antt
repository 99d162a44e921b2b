use Rattle.std.proofs.Common.{◌≤◌, ◌∙◌, List, ℕ, ap, drop, length, subst, take}
use Rattle.memory_host.proofs.Consumed.{consumed}
use Rattle.memory_host.proofs.open.Unread.take.Goals as goal

pub returns-clause-bytes : goal.returns-clause-bytes
returns-clause-bytes c =
    let n = c.moved-count.result in
    consumed c.args.self.now.bytes.items c.copy_from_slice.new.self (drop n c.args.bytes.now) c.args.self.now.read n
    (subst (λ (left : List ℕ). n ≤ length left) c.left-left.ensures c.moved-count.ensures.within.0)
    (c.copy_from_slice.ensures.after ∙ ap (take n) c.left-left.ensures)
