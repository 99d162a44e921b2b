use Rattle.std.proofs.Common.{List, ℕ, ap, subst, string_bytes}
use Rattle.std.specs.Prelude.{Option, option_map}
use Rattle.shop_jobs.specs.Job.{creation_view, new_volume_view}
use Rattle.shop_commands.proofs.Created.{IsProdosTold, prodos_told}
use Rattle.shop_commands.proofs.creating.create_reply.Goals as goal

pub returns-in-Prodos : goal.returns-in-Prodos
returns-in-Prodos c =
    let words = creation_view c.args.options.now in
    let boot = option_map (λ v. v.items) c.args.boot in
    let blocks = c.in-Prodos.blocks in
    let name = option_map string_bytes c.in-Prodos.name in
    let date = option_map string_bytes c.in-Prodos.date in
    let reply = c.prodos_reply.result in
    prodos_told words boot blocks name date reply (ap new_volume_view c.in-Prodos.is)
    (subst (λ (name : Option (List ℕ)). IsProdosTold words boot blocks name date reply) c.as_deref.ensures.value
    (subst (λ (date : Option (List ℕ)). IsProdosTold words boot blocks (option_map (λ s. s.now) c.as_deref.result) date reply) c.as_deref-in-Prodos.ensures.value
    c.prodos_reply.ensures))
