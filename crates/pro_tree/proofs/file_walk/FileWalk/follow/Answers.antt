use Rattle.std.proofs.Common.{◌∙◌, false, ◌++◌, ◌<◌, [], ◌∷◌, sym, subst, length}
use Rattle.std.proofs.lemmas.List.{get_or_default}
use Rattle.a2_device.specs.Table.{IsTable}
use Rattle.a2_device.proofs.Tables.{tabled}
use Rattle.pro_tree.proofs.file_walk.FileWalk.follow.Goals as goal

pub returns-clause-table : goal.returns-clause-table
returns-clause-table g c = λ table.
    let now = c.args.self.now in
    let part = c.in-To.part in
    let within : part.place < length now.met.items = c.requires.place part c.in-To.is in
    subst (λ ps. IsTable c.take.new.self.met.items ps) (sym c.in_ok-take.ensures.parts)
    (subst (λ met. IsTable met (now.parts.items ++ part ∷ [])) (sym c.take.ensures.met)
    (tabled now.met.items now.parts.items part within (get_or_default now.met.items part.place false c.index.result.now within ∙ sym c.index.ensures ∙ c.if-index.false) table))
