use Rattle.std.proofs.Common.{◌≡◌, ◌/◌, ◌%◌, subst, arith}
use Rattle.std.specs.Option.{MatchOption}
use Rattle.std.specs.Fmt.{decimal}
use Rattle.vol_layout.proofs.Places.{cut}
use Rattle.vol_layout.proofs.words.sector_of.Goals as goal

pub returns-in_err-track-clause-none : goal.returns-in_err-track-clause-none
returns-in_err-track-clause-none c =
    rw c.from_residual.ensures (λ place within is.
    subst (λ r. MatchOption r ⊥ (λ x. (x.0.now ≡ decimal (place / 16)) × (x.1.now ≡ decimal (place % 16)))) c.in_err-track.was
    (cut c.args.word.now place within is c.split_once.result c.split_once.ensures.cases))

pub returns-in_err-track-2-clause-none : goal.returns-in_err-track-2-clause-none
returns-in_err-track-2-clause-none c =
    rw c.from_residual-in_err-track-2.ensures (λ place within is.
    let parts = subst (λ r. MatchOption r ⊥ (λ x. (x.0.now ≡ decimal (place / 16)) × (x.1.now ≡ decimal (place % 16)))) c.in_ok-track.was
    (cut c.args.word.now place within is c.split_once.result c.split_once.ensures.cases) in
    c.in_err-track-2.ensures.none (place / 16) (omega (arith, within)) parts.0)

pub returns-in_err-sector-clause-none : goal.returns-in_err-sector-clause-none
returns-in_err-sector-clause-none c =
    rw c.from_residual-in_err-sector.ensures (λ place within is.
    let parts = subst (λ r. MatchOption r ⊥ (λ x. (x.0.now ≡ decimal (place / 16)) × (x.1.now ≡ decimal (place % 16)))) c.in_ok-track.was
    (cut c.args.word.now place within is c.split_once.result c.split_once.ensures.cases) in
    c.in_err-sector.ensures.none (place % 16) (omega arith) parts.1)
