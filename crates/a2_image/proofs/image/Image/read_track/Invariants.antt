use Rattle.a2_image.proofs.ConvertLemmas.{ReadBelow}
use Rattle.a2_image.proofs.image.Image.read_track.Given as goal

abbrev pub invariant-loop-sector : goal.invariant-loop-sector
invariant-loop-sector g l = ReadBelow l.self.sectors l.track l.contents l.sector
