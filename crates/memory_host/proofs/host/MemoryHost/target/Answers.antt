use Rattle.std.proofs.Common.{◌∙◌, ap}
use Rattle.shop_host.specs.Paths.{behind}
use Rattle.shop_host.specs.State.{Path}
use Rattle.memory_host.specs.Journal.{memory_state}
use Rattle.memory_host.proofs.host.MemoryHost.target.Goals as goal

pub returns-then-branch : goal.returns-then-branch
returns-then-branch c = λ folder name inside.
    c.in_ok-leads_by.ensures c.if-branch.true folder name inside
    ∙ ap (λ (to : Path). (memory_state c.args.self.now.store).leads (behind folder to)) c.as_str.ensures.value
