use Rattle.std.proofs.Common.{rules, arith, ap, suc, ◌≡◌, ◌+◌}
use Rattle.file_listings.specs.Known.{end_at}
use Rattle.file_listings.proofs.KnownLists.{longer, none_longer}
use Rattle.file_listings.proofs.known.longest_run.Goals as goal

pub loop-end-preserved : goal.loop-end-preserved
loop-end-preserved c =
    let i = c.loop-end.end-index in
    let next : suc i ≡ i + 1 = omega arith in
    record {
      start = ap (end_at c.args.ends.now) next;
      longest = longer c.args.ends.now i c.loop-end.longest c.loop-end.start c.saturating_sub.result c.max-longest.result c.loop-end.invariant.start c.loop-end.invariant.longest
          c.saturating_sub.ensures (search rules) (search rules);
    }

pub returns : goal.returns
returns c = λ file parts. none_longer c.args.ends.now c.loop-end.end-index c.loop-end.longest c.loop-end.invariant.longest (omega (arith, c.loop-end-test.false)) file parts
