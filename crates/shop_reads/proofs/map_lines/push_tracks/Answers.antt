use Rattle.std.proofs.Common.{◌∙◌, ◌++◌, ap, string_bytes}
use Rattle.shop_reads.specs.MapText.{sector_character}
use Rattle.shop_reads.proofs.Pictures.{pushed_behind}
use Rattle.shop_reads.proofs.map_lines.push_tracks.Goals as goal

pub loop-track-preserved : goal.loop-track-preserved
loop-track-preserved c =
    pushed_behind (sector_character c.args.places.now c.args.sector) (string_bytes c.args.text.now) (string_bytes c.loop-track.text) (string_bytes c.push.new.self)
    c.loop-track.track c.character.result c.loop-track.invariant
    (c.in_ok-push.ensures.bytes ∙ ap (λ t. string_bytes c.loop-track.text ++ t) (c.push.ensures.ascii c.character.ensures.ascii))
    (c.character.ensures.value ∙ c.state_at.ensures)
