use Rattle.host_folders.proofs.Begins.{no_byte, none_map}
use Rattle.host_folders.proofs.pieces.first_byte.Goals as goal

pub returns-in-None-clause-none : goal.returns-in-None-clause-none
returns-in-None-clause-none c =
    none_map c.first_escaped.result (no_byte c.args.form c.args.text.now c.in-None.ensures.none)
    c.first_escaped.ensures.none
