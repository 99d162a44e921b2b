use Rattle.a2_image.proofs.ConvertLemmas.{MadeBelow}
use Rattle.a2_image.proofs.image.Image.fill_tracks.Given as goal

abbrev pub invariant-loop-track : goal.invariant-loop-track
invariant-loop-track g l = MadeBelow l.bytes l.volume l.self.sectors l.track
