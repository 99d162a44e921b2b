use Rattle.apple_single.proofs.Exits.{on_none, refuted}
use Rattle.apple_single.proofs.Readings.{no_fork, no_header, no_info, not_sound}
use Rattle.apple_single.proofs.reading.read.Goals as goal

pub returns-in_err-table-clause-none : goal.returns-in_err-table-clause-none
returns-in_err-table-clause-none c = on_none c.from_residual.result (no_header _ c.in_err-table.ensures.none)

pub returns-then-not-are_sound-clause-none : goal.returns-then-not-are_sound-clause-none
returns-then-not-are_sound-clause-none c =
    not_sound c.args.file.now c.in_ok-table.table.now c.in_ok-table.ensures.some
    (λ entries is. refuted c.are_sound.result (c.are_sound.ensures entries is) c.if-not-are_sound.true)

pub returns-in_err-fork-clause-none : goal.returns-in_err-fork-clause-none
returns-in_err-fork-clause-none c =
    on_none c.from_residual-in_err-fork.result
    (no_fork c.args.file.now c.in_ok-table.table.now c.in_ok-table.ensures.some c.in_err-fork.ensures.none)

pub returns-in_err-info-clause-none : goal.returns-in_err-info-clause-none
returns-in_err-info-clause-none c =
    on_none c.from_residual-in_err-info.result
    (no_info c.args.file.now c.in_ok-table.table.now c.in_ok-table.ensures.some c.in-Some.bytes.now
    c.in-Some.ensures.some c.in_err-info.ensures.none)
