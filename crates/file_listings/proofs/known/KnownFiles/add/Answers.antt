use Rattle.std.proofs.Common.{◌∙◌, ◌++◌, ◌∷◌, [], List, ap}
use Rattle.std.specs.Borrow.{Bor}
use Rattle.std.specs.declared.vec.Vec.{Vec}
use Rattle.a2_device.specs.declared.part.Part.{Part}
use Rattle.file_listings.specs.Known.{FileFacts, facts_in}
use Rattle.file_listings.specs.declared.facts.Kept.{Kept}
use Rattle.file_listings.proofs.KnownLists.{fact_given, more_facts}
use Rattle.file_listings.proofs.known.KnownFiles.add.Goals as goal

pub returns-clause-facts : goal.returns-clause-facts
returns-clause-facts g c = λ runs.
    let old = c.args.self.now in
    let mid = c.add_parts.new.self in
    let own = c.of.result in
    let more = c.unwrap_or.result.now in
    more_facts old (record mid { kept = c.push.new.self }) own more c.in_ok-add_parts.ensures.places
    (c.in_ok-push.ensures.items ∙ ap (λ (kept : Vec Kept g.row.A.Denot). kept.items ++ own ∷ []) c.in_ok-add_parts.ensures.kept)
    c.in_ok-add_parts.ensures.parts c.in_ok-add_parts.ensures.ends runs
    ∙ ap (λ (last : FileFacts). facts_in old ++ last ∷ [])
    (fact_given old.places own c.args.facts c.args.parts _ more c.of.ensures.address c.of.ensures.digest
    (c.of.ensures.placed ∙ c.is_some-placed.ensures) (ap (λ (parts : Bor (List Part)). parts.now) c.unwrap_or.ensures))
