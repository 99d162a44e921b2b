use Rattle.host_folders.proofs.Begins.{no_marked, on_none}
use Rattle.host_folders.proofs.pieces.first_marked.Goals as goal

pub returns-in_err-byte-clause-none : goal.returns-in_err-byte-clause-none
returns-in_err-byte-clause-none c =
    on_none c.from_residual.result (no_marked c.args.text.now c.in_err-byte.ensures.none)
