use Rattle.std.proofs.Common.{◌<◌, ◌∙◌, [], arith, flat_map, length, take_all, slice_index_or, subst}
use Rattle.std.specs.Io.KnownBytes.{Appends}
use Rattle.file_listings.specs.ProLines.{ListedDirectory, lines_of, listed_in}
use Rattle.shop_replies.specs.Reply.{AppendsFront}
use Rattle.shop_replies.proofs.Appended.{all_front, texts_grown, texts_stopped}
use Rattle.shop_replies.proofs.writing.write_entries.Goals as goal

pub returns-then-not-write_entry-clause-front : goal.returns-then-not-write_entry-clause-front
returns-then-not-write_entry-clause-front g c =
    let within : c.loop-entry.entry < length (lines_of (listed_in c.args.lines.now)) = omega (arith, c.loop-entry-test.true, c.entries-entry-end.ensures) in
    let mid = g.W.Write.contents c.loop-entry.writer in
    let new = g.W.Write.contents c.write_entry.new.writer in
    texts_stopped (λ text. text) (lines_of (listed_in c.args.lines.now)) [] c.loop-entry.entry (g.W.Write.contents c.args.writer.now) mid new within c.loop-entry.invariant.grown
    (subst (λ (d : ListedDirectory). AppendsFront mid new (slice_index_or (lines_of d) c.loop-entry.entry [])) c.loop-entry.invariant.lines c.write_entry.ensures.front)

pub loop-entry-preserved : goal.loop-entry-preserved
loop-entry-preserved g c =
    let within : c.loop-entry.entry < length (lines_of (listed_in c.args.lines.now)) = omega (arith, c.loop-entry-test.true, c.entries-entry-end.ensures) in
    let mid = g.W.Write.contents c.loop-entry.writer in
    let new = g.W.Write.contents c.write_entry.new.writer in
    record {
      lines = c.write_entry.ensures.lines ∙ c.loop-entry.invariant.lines;
      grown = texts_grown (λ text. text) (lines_of (listed_in c.args.lines.now)) [] c.loop-entry.entry (g.W.Write.contents c.args.writer.now) mid new within c.loop-entry.invariant.grown
          (subst (λ (d : ListedDirectory). Appends mid new (slice_index_or (lines_of d) c.loop-entry.entry [])) c.loop-entry.invariant.lines (c.write_entry.ensures.whole c.if-not-write_entry.false));
    }

pub returns-clause-front : goal.returns-clause-front
returns-clause-front g c =
    let listed = lines_of (listed_in c.args.lines.now) in
    all_front (g.W.Write.contents c.args.writer.now) (g.W.Write.contents c.loop-entry.writer) (flat_map (λ text. text) listed)
    (subst (λ entries. Appends (g.W.Write.contents c.args.writer.now) (g.W.Write.contents c.loop-entry.writer) (flat_map (λ text. text) entries))
    (take_all c.loop-entry.entry listed (omega (arith, c.loop-entry-test.false, c.entries-entry-end.ensures))) c.loop-entry.invariant.grown)
