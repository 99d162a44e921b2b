use Rattle.std.proofs.Common.{◌∙◌, ◌++◌, ◌*◌, ◌∷◌, [], ap, arith, map, string_bytes, take}
use Rattle.std.specs.Prelude.{drop}
use Rattle.std.specs.Fmt.{styled_decimal}
use Rattle.shop_reads.specs.MapText.{character_of, right_in}
use Rattle.shop_reads.proofs.Pictures.{cut_short, line_done, right_aligned}
use Rattle.shop_reads.proofs.map_lines.push_blocks.Goals as goal

pub returns : goal.returns
returns c =
    let cut = cut_short c.args.places.now (64 * c.args.number) c.min-behind.result 64 (omega (arith, c.requires)) c.min-behind.ensures in
    line_done (string_bytes c.args.text.now) (string_bytes c.write.new.self) (string_bytes c.push_places.new.text) (string_bytes c.push.new.self)
    (right_in 5 (64 * c.args.number)) (map character_of (take 64 (drop (64 * c.args.number) c.args.places.now)))
    (c.in_ok-write.ensures.bytes
    ∙ ap (λ spec. string_bytes c.args.text.now ++ (styled_decimal spec (64 * c.args.number) ++ 32 ∷ [])) c.laid_out.ensures
    ∙ ap (λ t. string_bytes c.args.text.now ++ (t ++ 32 ∷ [])) (right_aligned 5 (64 * c.args.number)))
    (c.in_ok-push_places.ensures ∙ ap (λ xs. string_bytes c.write.new.self ++ map character_of xs) cut)
    (c.in_ok-push.ensures.bytes ∙ ap (λ t. string_bytes c.push_places.new.text ++ t) (c.push.ensures.ascii (omega arith)))
