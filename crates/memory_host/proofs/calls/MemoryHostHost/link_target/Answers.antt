use Rattle.memory_host.proofs.Leading.{follows}
use Rattle.memory_host.proofs.calls.MemoryHostHost.link_target.Goals as goal

pub returns : goal.returns
returns c = λ honest. follows c.args.path.now c.target.result c.args.self.now.store c.count.new.self.store c.in_ok-count.ensures.store c.target.ensures
