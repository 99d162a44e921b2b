use Rattle.std.proofs.Common.{◌∙◌, ◌++◌, flat_map, subst}
use Rattle.std.specs.Io.KnownBytes.{Appends}
use Rattle.file_listings.specs.ProLines.{ListedDirectory, lines_of, listed_in}
use Rattle.file_listings.specs.ProText.{first_line, last_line}
use Rattle.shop_replies.specs.Reply.{AppendsFront}
use Rattle.shop_replies.proofs.Appended.{appends_both, front_before, front_behind}
use Rattle.shop_replies.proofs.writing.write_lines.Goals as goal

pub returns-then-not-write_first-clause-front : goal.returns-then-not-write_first-clause-front
returns-then-not-write_first-clause-front g c =
    let d = listed_in c.args.lines.now in
    let old = g.W.Write.contents c.args.writer.now in
    let new = g.W.Write.contents c.write_first.new.writer in
    front_before old new (first_line d.style d.directory ++ flat_map (λ text. text) (lines_of d)) (last_line d.style d.directory)
    (front_before old new (first_line d.style d.directory) (flat_map (λ text. text) (lines_of d)) c.write_first.ensures.front)

pub returns-then-not-write_entries-clause-front : goal.returns-then-not-write_entries-clause-front
returns-then-not-write_entries-clause-front g c =
    let d = listed_in c.args.lines.now in
    let old = g.W.Write.contents c.args.writer.now in
    let mid = g.W.Write.contents c.write_first.new.writer in
    let new = g.W.Write.contents c.write_entries.new.writer in
    front_before old new (first_line d.style d.directory ++ flat_map (λ text. text) (lines_of d)) (last_line d.style d.directory)
    (front_behind old mid new (first_line d.style d.directory) (flat_map (λ text. text) (lines_of d)) (c.write_first.ensures.whole c.if-not-write_first.false)
    (subst (λ (d : ListedDirectory). AppendsFront mid new (flat_map (λ text. text) (lines_of d))) c.write_first.ensures.lines c.write_entries.ensures.front))

pub returns-clause-whole : goal.returns-clause-whole
returns-clause-whole g c = λ all.
    let d = listed_in c.args.lines.now in
    let old = g.W.Write.contents c.args.writer.now in
    let one = g.W.Write.contents c.write_first.new.writer in
    let two = g.W.Write.contents c.write_entries.new.writer in
    let new = g.W.Write.contents c.write_last.new.writer in
    appends_both old two new (first_line d.style d.directory ++ flat_map (λ text. text) (lines_of d)) (last_line d.style d.directory)
    (appends_both old one two (first_line d.style d.directory) (flat_map (λ text. text) (lines_of d)) (c.write_first.ensures.whole c.if-not-write_first.false)
    (subst (λ (d : ListedDirectory). Appends one two (flat_map (λ text. text) (lines_of d))) c.write_first.ensures.lines (c.write_entries.ensures.whole c.if-not-write_entries.false)))
    (subst (λ (d : ListedDirectory). Appends two new (last_line d.style d.directory)) (c.write_entries.ensures.lines ∙ c.write_first.ensures.lines) (c.write_last.ensures.whole all))

pub returns-clause-front : goal.returns-clause-front
returns-clause-front g c =
    let d = listed_in c.args.lines.now in
    let old = g.W.Write.contents c.args.writer.now in
    let one = g.W.Write.contents c.write_first.new.writer in
    let two = g.W.Write.contents c.write_entries.new.writer in
    let new = g.W.Write.contents c.write_last.new.writer in
    front_behind old two new (first_line d.style d.directory ++ flat_map (λ text. text) (lines_of d)) (last_line d.style d.directory)
    (appends_both old one two (first_line d.style d.directory) (flat_map (λ text. text) (lines_of d)) (c.write_first.ensures.whole c.if-not-write_first.false)
    (subst (λ (d : ListedDirectory). Appends one two (flat_map (λ text. text) (lines_of d))) c.write_first.ensures.lines (c.write_entries.ensures.whole c.if-not-write_entries.false)))
    (subst (λ (d : ListedDirectory). AppendsFront two new (last_line d.style d.directory)) (c.write_entries.ensures.lines ∙ c.write_first.ensures.lines) c.write_last.ensures.front)
