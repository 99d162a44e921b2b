-- Telling of a row changes nothing.
use Rattle.std.proofs.Common.{IsTrue}
use Rattle.shop_host.specs.Runs.{IsLooking}
use Rattle.shop_files.proofs.telling.tell_rows.Given as goal

abbrev pub invariant-loop-row : goal.invariant-loop-row
invariant-loop-row g l = IsTrue (g.H.Host.state l.initial.host).honest
    → IsLooking (g.H.Host.state l.initial.host) (g.H.Host.state l.host)
