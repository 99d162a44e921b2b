use Rattle.std.proofs.Common.{◌∙◌}
use Rattle.memory_host.specs.Journal.{memory_state}
use Rattle.memory_host.proofs.Leading.{its_name}
use Rattle.memory_host.proofs.store.Store.leads_to_its_name.Goals as goal

pub returns : goal.returns
returns c =
    its_name (memory_state c.args.self.now).leads c.args.path.now _ _ c.as_str-2.result.now c.as_str.result.now c.as_str-3.result.now
    c.split.ensures (c.as_str-2.ensures.value ∙ c.in_ok-own.ensures) (c.as_str.ensures.value ∙ c.in_ok-own_folder.ensures)
    (c.as_str-3.ensures.value ∙ c.in_ok-named.ensures) c.eq.result c.eq.ensures
