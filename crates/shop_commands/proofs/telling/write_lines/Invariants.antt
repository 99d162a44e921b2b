use Rattle.std.proofs.Common.{List, flat_map, take}
use Rattle.std.specs.Io.KnownBytes.{Appends}
use Rattle.file_listings.specs.DosText.{line}
use Rattle.volume_extract.specs.ExtractText.{item_text}
use Rattle.volume_extract.specs.Items.{Item}
use Rattle.volume_extract.specs.Kept.{TellsItems}
use Rattle.shop_commands.proofs.telling.write_lines.Given as goal

abbrev pub invariant-loop-entry : goal.invariant-loop-entry
invariant-loop-entry g l = record {
  grown : (items : List Item) → TellsItems l.fn.told.opened.form (g.F.TreeFormat.own l.fn.told.opened.format.now)
      (g.F.Format.directory l.fn.told.opened.format.now l.fn.told.opened.volume) l.fn.told.opened.naming items l.fn.told.kept.items l.fn.told.totals
      → Appends (g.T.Write.contents l.fn.text) (g.T.Write.contents l.text) (flat_map (λ (item : Item). line (item_text item)) (take l.entry items));
}
