use Rattle.std.proofs.Common.{◌≡◌, ◌∙◌, ap, List, ℕ, flat_map, subst}
use Rattle.std.specs.Io.KnownBytes.{Appends}
use Rattle.file_listings.specs.DosText.{line}
use Rattle.shop_replies.specs.Reply.{AppendsFront}
use Rattle.shop_replies.proofs.Appended.{all_front, appends_both, front_before, front_behind}
use Rattle.volume_extract.specs.ExtractText.{item_text, totals_of, totals_text}
use Rattle.volume_extract.specs.Items.{Item}
use Rattle.volume_extract.specs.declared.totals.Totals.{Totals}
use Rattle.shop_commands.proofs.telling.write_extraction.Goals as goal

abbrev lines_of : List Item → List ℕ
lines_of items = flat_map (λ item. line (item_text item)) items

pub returns-then-not-write_lines-clause-front : goal.returns-then-not-write_lines-clause-front
returns-then-not-write_lines-clause-front g c = λ items tells.
    front_before (g.T.Write.contents c.args.text.now) (g.T.Write.contents c.write_lines.new.text) (lines_of items) (line (totals_text (totals_of items)))
    (c.write_lines.ensures.front items tells)

-- the last line is that of these items
last_is : (text : List ℕ) (totals : Totals) (items : List Item) → text ≡ line (totals_text totals) → totals ≡ totals_of items → text ≡ line (totals_text (totals_of items))
last_is text totals items is same = is ∙ ap (λ (t : Totals). line (totals_text t)) same

pub returns-in-Ok-clause-whole : goal.returns-in-Ok-clause-whole
returns-in-Ok-clause-whole g c = λ items tells all.
    appends_both (g.T.Write.contents c.args.text.now) (g.T.Write.contents c.write_lines.new.text) (g.T.Write.contents c.write_whole.new.writer)
    (lines_of items) (line (totals_text (totals_of items))) (c.write_lines.ensures.whole items tells c.if-not-write_lines.false)
    (subst (λ (bytes : List ℕ). Appends (g.T.Write.contents c.write_lines.new.text) (g.T.Write.contents c.write_whole.new.writer) bytes)
    (c.as_bytes.ensures.value ∙ last_is _ c.args.told.now.totals items c.in-Ok.ensures tells.counts) (c.write_whole.ensures.whole all))

pub returns-in-Ok-clause-front : goal.returns-in-Ok-clause-front
returns-in-Ok-clause-front g c = λ items tells.
    front_behind (g.T.Write.contents c.args.text.now) (g.T.Write.contents c.write_lines.new.text) (g.T.Write.contents c.write_whole.new.writer)
    (lines_of items) (line (totals_text (totals_of items))) (c.write_lines.ensures.whole items tells c.if-not-write_lines.false)
    (subst (λ (bytes : List ℕ). AppendsFront (g.T.Write.contents c.write_lines.new.text) (g.T.Write.contents c.write_whole.new.writer) bytes)
    (c.as_bytes.ensures.value ∙ last_is _ c.args.told.now.totals items c.in-Ok.ensures tells.counts) c.write_whole.ensures.front)

pub returns-in-Err-clause-front : goal.returns-in-Err-clause-front
returns-in-Err-clause-front g c = λ items tells.
    front_before (g.T.Write.contents c.args.text.now) (g.T.Write.contents c.write_lines.new.text) (lines_of items) (line (totals_text (totals_of items)))
    (all_front (g.T.Write.contents c.args.text.now) (g.T.Write.contents c.write_lines.new.text) (lines_of items) (c.write_lines.ensures.whole items tells c.if-not-write_lines.false))
