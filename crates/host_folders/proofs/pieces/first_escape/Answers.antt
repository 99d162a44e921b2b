use Rattle.std.proofs.Common.{arith}
use Rattle.host_folders.proofs.Begins.{after_percent, never_escape, none_map}
use Rattle.host_folders.proofs.pieces.first_escape.Goals as goal

pub returns-in-37-clause-none : goal.returns-in-37-clause-none
returns-in-37-clause-none c =
    none_map c.first_number.result
    (never_escape c.args.text.now _ (after_percent c.args.text.now (omega arith) (omega arith)))
    c.first_number.ensures.none
