use Rattle.std.proofs.Common.{◌≡◌}
use Rattle.image_readings.specs.BestReading.{choice_of, ways_given}
use Rattle.image_readings.specs.Ranking.{IsVerdict}
use Rattle.image_readings.proofs.best.best_reading.Goals as goal

pub choice_of-requires : goal.choice_of-requires
choice_of-requires c = rw c.as_slice-3.ensures.value (rw c.as_slice-2.ensures.value at c.rank-verdict.ensures)

pub returns-clause-choice : goal.returns-clause-choice
returns-clause-choice c =
    let items = c.in_ok-readings.readings.items in
    let are = rw c.as_slice.ensures.value at c.in_ok-readings.ensures.readings in
    let ways : c.in_ok-ways.ways.items ≡ ways_given c.args.file_system c.args.order = c.in_ok-ways.ensures in
    let verdict : IsVerdict items c.rank-verdict.result = rw c.as_slice-2.ensures.value at c.rank-verdict.ensures in
    let chosen : c.choice_of.result ≡ choice_of items c.rank-verdict.result = rw c.as_slice-3.ensures.value at c.choice_of.ensures in
    record {
      readings = items;
      are = rw ways at are;
      verdict = c.rank-verdict.result;
      is = verdict;
      chosen = chosen;
    }
