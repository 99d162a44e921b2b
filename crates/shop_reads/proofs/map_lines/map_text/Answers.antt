use Rattle.std.proofs.Common.{◌∙◌, ◌++◌, ap, string_bytes}
use Rattle.shop_reads.specs.MapText.{last_line}
use Rattle.shop_reads.proofs.Pictures.{counted}
use Rattle.shop_reads.proofs.map_lines.map_text.Goals as goal

pub returns : goal.returns
returns c =
    c.in_ok-writeln.ensures.bytes
    ∙ ap (λ t. string_bytes c.in_ok-text.text ++ t)
    (counted c.args.parts c.how_many.result c.how_many-2.result c.how_many-3.result c.how_many-4.result c.args.places.now
    c.how_many.ensures c.how_many-2.ensures c.how_many-3.ensures c.how_many-4.ensures)
    ∙ ap (λ t. t ++ last_line c.args.parts c.args.places.now) c.in_ok-text.ensures
