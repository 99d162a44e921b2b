use Rattle.file_cmds.proofs.Texts.{zeros_behind}
use Rattle.file_cmds.proofs.text.add_zeros.Goals as goal

pub loop-preserved : goal.loop-preserved
loop-preserved g c =
    zeros_behind c.args.text.now.items c.loop.text.items c.args.zeros.now c.extend_from_slice.new.self.items c.loop.counter
    c.loop.invariant c.requires c.in_ok-extend_from_slice.ensures.items
