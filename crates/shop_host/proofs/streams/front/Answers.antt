use Rattle.std.proofs.Common.{sym, subst}
use Rattle.std.specs.Io.KnownBytes.{Consumes}
use Rattle.std.proofs.KnownBytes.{Consumes-trans}
use Rattle.shop_host.proofs.streams.front.Goals as goal

pub returns-in_err-read_more-clause-looked : goal.returns-in_err-read_more-clause-looked
returns-in_err-read_more-clause-looked g c = λ honest.
    let (few, read, looked) = c.loop.invariant in
    g.S.Stream.then _ _ _ (looked honest) (c.read_more.ensures.looked (g.S.Stream.honest _ _ honest (looked honest)))

pub returns-then-not-branch-clause-looked : goal.returns-then-not-branch-clause-looked
returns-then-not-branch-clause-looked g c = λ honest.
    let (few, read, looked) = c.loop.invariant in
    g.S.Stream.then _ _ _ (looked honest) (c.read_more.ensures.looked (g.S.Stream.honest _ _ honest (looked honest)))

pub loop-preserved : goal.loop-preserved
loop-preserved g c =
    let (few, read, looked) = c.loop.invariant in
    let (got, grown, consumed, end) = c.in_ok-read_more.ensures.read in (
      c.read_more.ensures.few,
      subst (Consumes _ _) (sym grown) (Consumes-trans _ _ _ _ _ read consumed),
      λ honest. g.S.Stream.then _ _ _ (looked honest)
          (c.read_more.ensures.looked (g.S.Stream.honest _ _ honest (looked honest))),
    )
