use Rattle.std.proofs.Common.{◌≡◌, string_bytes, take}
use Rattle.std.specs.Prelude.{flat_map}
use Rattle.file_listings.specs.Steps.{step_line}
use Rattle.shop_reads.proofs.plan_words.steps_text.Given as goal

abbrev pub invariant-loop-step : goal.invariant-loop-step
invariant-loop-step g l =
    string_bytes l.text ≡ flat_map (step_line l.form (g.F.FileFormat.files l.format) (g.F.Format.directory l.format l.volume)) (take l.step-index l.steps)
