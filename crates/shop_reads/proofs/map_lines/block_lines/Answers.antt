use Rattle.std.proofs.Common.{string_bytes}
use Rattle.shop_reads.specs.MapText.{block_line}
use Rattle.shop_reads.proofs.Pictures.{line_pushed}
use Rattle.shop_reads.proofs.map_lines.block_lines.Goals as goal

pub loop-number-preserved : goal.loop-number-preserved
loop-number-preserved c =
    line_pushed (block_line c.args.places.now) (string_bytes c.loop-number.text) (string_bytes c.push_blocks.new.text) c.loop-number.number
    c.loop-number.invariant c.in_ok-push_blocks.ensures
