use Rattle.std.proofs.Common.{ℕ, List, subst}
use Rattle.host_folders.specs.declared.said.Content.{Content}
use Rattle.host_folders.specs.HostEntries.{SaysFolder, SaysTail}
use Rattle.host_folders.proofs.InOneWay.{no_file, no_file_name, no_file_tail, not_found}
use Rattle.host_folders.proofs.saying.file_of.Goals as goal

pub returns-in_default : goal.returns-in_default
returns-in_default g c = no_file c.args.form c.args.name.now c.in_default.ensures.none

pub returns-in_default-read : goal.returns-in_default-read
returns-in_default-read g c =
    no_file_tail c.args.form c.args.name.now c.in-Some.front.now c.in-Some.tail.now c.in-Some.ensures.some
    (subst (λ (tail : List ℕ). (type aux : ℕ) (content : Content) → ¬ SaysTail tail type aux content)
    c.as_bytes.ensures.value
    c.in_default-read.ensures.none)

pub returns-in_default-2 : goal.returns-in_default-2
returns-in_default-2 g c =
    no_file_name c.args.form c.args.name.now c.in-Some.front.now c.in-Some.tail.now c.in-Some.ensures.some
    (not_found c.in_ok-name.field-0 (λ v. v.items) (SaysFolder c.args.form c.in-Some.front.now) c.in_default-2.is
    c.in_ok-name.ensures)
