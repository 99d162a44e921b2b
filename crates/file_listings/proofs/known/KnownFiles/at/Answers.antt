use Rattle.std.proofs.Common.{rules, ◌≡◌, ◌≤◌, ◌<◌, ◌∙◌, sym, length}
use Rattle.std.specs.Prelude.{slice_index_or}
use Rattle.file_listings.specs.Known.{no_kept}
use Rattle.file_listings.proofs.KnownLists.{known_at, known_past, told_facts}
use Rattle.file_listings.proofs.known.KnownFiles.at.Goals as goal

pub returns-in-Some : goal.returns-in-Some
returns-in-Some g c =
    let files = c.args.self.now in
    let low : c.args.file < length files.kept.items = search rules in
    let own : c.in-Some.kept.now ≡ slice_index_or files.kept.items c.args.file no_kept = search rules in
    told_facts files c.args.file c.in-Some.kept.now c.facts.result c.parts_kept.result own c.deref-in-Some.result.now c.deref-in-Some-2.result.now c.run_of-run.result.now
    c.deref-in-Some.ensures.value c.deref-in-Some-2.ensures.value c.run_of-run.ensures c.facts.ensures c.parts_kept.ensures
    ∙ sym (known_at files c.args.file low)

pub returns-in-None : goal.returns-in-None
returns-in-None g c =
    let high : length c.args.self.now.kept.items ≤ c.args.file = search rules in
    sym (known_past c.args.self.now c.args.file high)
