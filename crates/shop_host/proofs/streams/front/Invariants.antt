-- What is gone from the stream was read, and there is room for what is read next.
use Rattle.std.proofs.Common.{◌≤◌, ◌+◌, IsTrue, length}
use Rattle.std.specs.Io.KnownBytes.{Consumes}
use Rattle.shop_host.proofs.streams.front.Given as goal

abbrev pub invariant-loop : goal.invariant-loop
invariant-loop g l = (length l.bytes.items ≤ l.most)
    × Consumes (g.S.Stream.rest l.initial.host l.initial.stream) (g.S.Stream.rest l.host l.stream) l.bytes.items
    × (IsTrue (g.H.Host.state l.initial.host).honest
    → g.S.Stream.looks (g.H.Host.state l.initial.host) (g.H.Host.state l.host))
