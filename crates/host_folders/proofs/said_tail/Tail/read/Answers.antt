use Rattle.std.proofs.Common.{◌≡◌, ℕ, ◌+◌, ◌*◌, arith, subst}
use Rattle.host_folders.specs.HostEntries.{SaysTail}
use Rattle.host_folders.proofs.Begins.{on_none}
use Rattle.host_folders.proofs.Tails.{no_content, no_high, no_low, no_type, tail_says}
use Rattle.host_folders.proofs.said_tail.Tail.read.Goals as goal

pub returns-in_err-file_type-clause-none : goal.returns-in_err-file_type-clause-none
returns-in_err-file_type-clause-none c =
    on_none c.from_residual.result (no_type c.args.text.now c.in_err-file_type.ensures.none)

pub returns-in_err-high-clause-none : goal.returns-in_err-high-clause-none
returns-in_err-high-clause-none c =
    on_none c.from_residual-in_err-high.result
    (no_high c.args.text.now c.in_ok-file_type.file_type c.in_ok-file_type.rest.now c.in_ok-file_type.ensures.some
    c.in_err-high.ensures.none)

pub returns-in_err-low-clause-none : goal.returns-in_err-low-clause-none
returns-in_err-low-clause-none c =
    on_none c.from_residual-in_err-low.result
    (no_low c.args.text.now c.in_ok-file_type.file_type c.in_ok-high.high c.in_ok-file_type.rest.now
    c.in_ok-high.rest.now
    c.in_ok-file_type.ensures.some c.in_ok-high.ensures.some c.in_err-low.ensures.none)

pub returns-in_err-content-clause-none : goal.returns-in_err-content-clause-none
returns-in_err-content-clause-none c =
    on_none c.from_residual-in_err-content.result
    (no_content c.args.text.now c.in_ok-file_type.file_type c.in_ok-high.high c.in_ok-low.low c.in_ok-file_type.rest.now
    c.in_ok-high.rest.now c.in_ok-low.end.now c.in_ok-file_type.ensures.some c.in_ok-high.ensures.some
    c.in_ok-low.ensures.some
    c.in_err-content.ensures.none)

pub returns-clause-some : goal.returns-clause-some
returns-clause-some c =
    let aux : 256 * c.in_ok-high.high + c.in_ok-low.low ≡ c.from_be_bytes.result = omega arith in
    subst (λ (n : ℕ). SaysTail c.args.text.now c.in_ok-file_type.file_type n c.in_ok-content.content) aux
    (tail_says c.args.text.now c.in_ok-file_type.rest.now c.in_ok-high.rest.now c.in_ok-low.end.now
    c.in_ok-file_type.file_type
    c.in_ok-high.high c.in_ok-low.low c.in_ok-content.content c.in_ok-file_type.ensures.some c.in_ok-high.ensures.some
    c.in_ok-low.ensures.some c.in_ok-content.ensures.some)
