use Rattle.std.proofs.Common.{◌∙◌, ◌++◌, ◌∷◌, [], ap, arith, map, string_bytes}
use Rattle.std.specs.List.{range_with_len}
use Rattle.std.specs.Fmt.{styled_decimal}
use Rattle.shop_reads.specs.MapText.{right_in, sector_character}
use Rattle.shop_reads.proofs.Pictures.{line_done, right_aligned}
use Rattle.shop_reads.proofs.map_lines.push_sector.Goals as goal

pub returns : goal.returns
returns c =
    line_done (string_bytes c.args.text.now) (string_bytes c.write.new.self) (string_bytes c.push_tracks.new.text) (string_bytes c.push.new.self)
    (right_in 2 c.args.sector) (map (sector_character c.args.places.now c.args.sector) (range_with_len 0 35))
    (c.in_ok-write.ensures.bytes
    ∙ ap (λ spec. string_bytes c.args.text.now ++ (styled_decimal spec c.args.sector ++ 32 ∷ [])) c.laid_out.ensures
    ∙ ap (λ t. string_bytes c.args.text.now ++ (t ++ 32 ∷ [])) (right_aligned 2 c.args.sector))
    c.in_ok-push_tracks.ensures
    (c.in_ok-push.ensures.bytes ∙ ap (λ t. string_bytes c.push_tracks.new.text ++ t) (c.push.ensures.ascii (omega arith)))
