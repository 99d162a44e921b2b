use Rattle.std.proofs.Common.{ℕ, subst}
use Rattle.host_folders.specs.Reading.{BeginsWithEscape}
use Rattle.host_folders.proofs.Begins.{no_escaped, no_escaped_marked, none_map, on_none}
use Rattle.host_folders.proofs.pieces.first_escaped.Goals as goal

pub returns-in_err-n-clause-none : goal.returns-in_err-n-clause-none
returns-in_err-n-clause-none c =
    on_none c.from_residual.result (no_escaped c.args.form c.args.text.now c.in_err-n.ensures.none)

pub returns-in-Sector-clause-none : goal.returns-in-Sector-clause-none
returns-in-Sector-clause-none c =
    let mark =
    subst (λ (n : ℕ). BeginsWithEscape c.args.text.now n c.in_ok-n.rest.now) c.if-n-eq127.true c.in_ok-n.ensures.some in
    none_map c.first_marked.result
    (no_escaped_marked c.args.form c.args.text.now c.in_ok-n.rest.now c.in-Sector.is mark)
    c.first_marked.ensures.none
