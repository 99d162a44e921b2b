use Rattle.disk_container.proofs.Shells.{shell_taken}
use Rattle.disk_container.proofs.shell.take_shell.Goals as goal

pub returns-clause-parts : goal.returns-clause-parts
returns-clause-parts g c =
    shell_taken c.args.file.now.items c.in_ok-front.front.items c.keep_range.new.bytes.items c.in_ok-back.back.items c.deref.result.now c.deref-2.result.now
    c.args.container c.requires c.in_ok-front.ensures.items c.deref.ensures.value c.keep_range.ensures c.in_ok-back.ensures.items c.deref-2.ensures.value
