-- The names that were tried are those of files aside.
use Rattle.std.proofs.Common.{IsTrue}
use Rattle.std.specs.Prelude.{option_map}
use Rattle.shop_host.specs.Runs.{IsRun}
use Rattle.shop_outputs.specs.Asides.{may_beside}
use Rattle.shop_outputs.proofs.aside.create_beside.Given as goal

abbrev pub invariant-loop-number : goal.invariant-loop-number
invariant-loop-number g l = IsTrue (g.H.Host.state l.initial.host).honest
    → IsRun (may_beside l.fn.target (option_map (λ s. s.now) l.fn.apart))
    (g.H.Host.state l.initial.host) (g.H.Host.state l.host)
