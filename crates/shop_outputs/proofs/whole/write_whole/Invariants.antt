-- What is gone from `rest` was written behind what the file had, and nothing else has changed.
use Rattle.std.proofs.Common.{◌≡◌, ℕ, List, ◌++◌, IsTrue}
use Rattle.shop_host.specs.State.{unflushed}
use Rattle.shop_host.specs.Runs.{IsRun}
use Rattle.shop_outputs.specs.Asides.{may_at}
use Rattle.shop_outputs.proofs.whole.write_whole.Given as goal

abbrev pub invariant-loop : goal.invariant-loop
invariant-loop g l = (g.H.Host.place l.file ≡ g.H.Host.place l.initial.file)
    × (IsTrue (g.H.Host.state l.initial.host).honest → IsRun (may_at (g.H.Host.place l.initial.file))
    (g.H.Host.state l.initial.host) (g.H.Host.state l.host))
    × (IsTrue (g.H.Host.state l.initial.host).honest → (held : List ℕ)
    → (g.H.Host.state l.initial.host).files (g.H.Host.place l.initial.file) ≡ unflushed held
    → (done : List ℕ) × (l.initial.rest ≡ done ++ l.rest)
    × ((g.H.Host.state l.host).files (g.H.Host.place l.initial.file) ≡ unflushed (held ++ done)))
