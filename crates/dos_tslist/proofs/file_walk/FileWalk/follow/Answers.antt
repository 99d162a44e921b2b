use Rattle.std.proofs.Common.{rules, ◌≡◌, ◌++◌, ◌<◌, [], ◌∷◌, sym, subst, length, arith}
use Rattle.dos_tslist.specs.Walk.{part_of}
use Rattle.a2_device.specs.Table.{IsTable}
use Rattle.a2_device.proofs.Tables.{tabled}
use Rattle.dos_tslist.proofs.file_walk.FileWalk.follow.Goals as goal

pub returns-clause-table : goal.returns-clause-table
returns-clause-table g c = λ table.
    let now = c.args.self.now in
    let part = part_of now.file c.args.kind c.args.number c.in-Some.place in
    let within : c.in-Some.place < length now.met = search rules in
    subst (λ ps. IsTable c.take.new.self.met ps) (sym c.in_ok-take.ensures.parts)
    (subst (λ met. IsTable met (now.parts.items ++ part ∷ [])) (sym c.in_ok-take.ensures.met)
    (tabled now.met now.parts.items part within c.if-self-place.false table))
