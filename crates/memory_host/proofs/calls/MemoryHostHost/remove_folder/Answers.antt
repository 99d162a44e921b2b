use Rattle.memory_host.proofs.Emptied.{emptied}
use Rattle.memory_host.proofs.calls.MemoryHostHost.remove_folder.Goals as goal

pub returns : goal.returns
returns c = λ honest.
    emptied c.args.path.now c.keep.result c.args.self.now.store c.count.new.self.store c.keep.new.self.store
    c.in_ok-count.ensures.store c.keep.ensures.done c.keep.ensures.failed
