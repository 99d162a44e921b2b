use Rattle.std.proofs.Common.{◌≡◌, subst, length}
use Rattle.a2_nibble.specs.Search.{FindsSector}
use Rattle.a2_image.proofs.KeptLemmas.{FieldsBelow-more}
use Rattle.a2_image.proofs.nibble.fields_of_disk.Goals as goal

pub loop-track-preserved : goal.loop-track-preserved
loop-track-preserved g c =
    let long : length c.fields_of_track-found.result ≡ 16 = c.fields_of_track-found.ensures.long in
    rw c.in_ok-extend_from_slice.ensures.items (FieldsBelow-more c.args.bytes.now c.loop-track.fields.items c.fields_of_track-found.result c.loop-track.track long
    (λ sector answer e. subst (λ n. FindsSector n c.loop-track.track sector answer) c.copied_track.ensures (c.fields_of_track-found.ensures.finds sector answer e))
    c.loop-track.invariant)
