use Rattle.std.proofs.Common.{◌<◌, List, ℕ, arith, flat_map, length, subst, take_all}
use Rattle.std.specs.Io.KnownBytes.{Appends}
use Rattle.file_listings.specs.DosText.{line}
use Rattle.shop_replies.proofs.Appended.{all_front, appends_none, texts_grown, texts_stopped}
use Rattle.volume_extract.specs.ExtractText.{item_text}
use Rattle.volume_extract.specs.Items.{Item, no_item}
use Rattle.shop_commands.proofs.telling.write_lines.Goals as goal

abbrev line_of : Item → List ℕ
line_of item = line (item_text item)

pub loop-entry-init : goal.loop-entry-init
loop-entry-init g c = record { grown = λ items tells. appends_none (g.T.Write.contents c.args.text.now) }

pub returns-then-not-write_line-clause-front : goal.returns-then-not-write_line-clause-front
returns-then-not-write_line-clause-front g c = λ items tells.
    let many = c.entries-entry-end.ensures items tells in
    let within : c.loop-entry.entry < length items = omega (arith, c.loop-entry-test.true, many) in
    texts_stopped (λ (item : Item). line (item_text item)) items no_item c.loop-entry.entry (g.T.Write.contents c.args.text.now) (g.T.Write.contents c.loop-entry.text)
    (g.T.Write.contents c.write_line.new.text) within (c.loop-entry.invariant.grown items tells) (c.write_line.ensures.front items tells)

pub loop-entry-preserved : goal.loop-entry-preserved
loop-entry-preserved g c = record {
  grown = λ items tells.
      let many = c.entries-entry-end.ensures items tells in
      let within : c.loop-entry.entry < length items = omega (arith, c.loop-entry-test.true, many) in
      texts_grown (λ (item : Item). line (item_text item)) items no_item c.loop-entry.entry (g.T.Write.contents c.args.text.now) (g.T.Write.contents c.loop-entry.text)
      (g.T.Write.contents c.write_line.new.text) within (c.loop-entry.invariant.grown items tells) (c.write_line.ensures.whole items tells c.if-not-write_line.false);
}

pub returns-clause-whole : goal.returns-clause-whole
returns-clause-whole g c = λ items tells all.
    let many = c.entries-entry-end.ensures items tells in
    subst (λ (made : List Item). Appends (g.T.Write.contents c.args.text.now) (g.T.Write.contents c.loop-entry.text) (flat_map (λ (item : Item). line (item_text item)) made))
    (take_all c.loop-entry.entry items (omega (arith, c.loop-entry-test.false, many))) (c.loop-entry.invariant.grown items tells)

pub returns-clause-front : goal.returns-clause-front
returns-clause-front g c = λ items tells.
    let many = c.entries-entry-end.ensures items tells in
    all_front (g.T.Write.contents c.args.text.now) (g.T.Write.contents c.loop-entry.text) (flat_map (λ (item : Item). line (item_text item)) items)
    (subst (λ (made : List Item). Appends (g.T.Write.contents c.args.text.now) (g.T.Write.contents c.loop-entry.text) (flat_map (λ (item : Item). line (item_text item)) made))
    (take_all c.loop-entry.entry items (omega (arith, c.loop-entry-test.false, many))) (c.loop-entry.invariant.grown items tells))
