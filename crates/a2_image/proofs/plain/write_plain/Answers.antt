use Rattle.std.proofs.Common.{◌≡◌, ◌+◌, ◌*◌, ◌∙◌, ap, sym, arith, ⊎_elim, inl, inr}
use Rattle.std.specs.Prelude.{length, slice_range}
use Rattle.std.proofs.lemmas.Bool.{cases_order}
use Rattle.a2_image.specs.Image.{bytes_of_sector}
use Rattle.a2_image.proofs.Sectors.{sectors_by-replaced}
use Rattle.a2_image.proofs.plain.write_plain.Goals as goal

pub returns : goal.returns
returns c =
    let size : 256 * c.stored_number-start.result + 256 ≡ 256 * c.stored_number-start.result + length c.args.content.now = omega (arith, c.told-content) in
    let number = c.stored_number-start.ensures.value in
    sectors_by-replaced c.args.order c.args.bytes.now c.replace.new.bytes (16 * c.args.track + c.args.sector) c.args.content.now (omega arith)
    (ap (bytes_of_sector c.replace.new.bytes) (sym number) ∙ ap (slice_range c.replace.new.bytes (256 * c.stored_number-start.result)) size ∙ c.replace.ensures.written)
    (λ other differ. c.replace.ensures.others (256 * other) (256 * other + 256) (omega arith)
    (⊎_elim
    (λ same. absurd (differ (same ∙ number)))
    (λ apart. ⊎_elim (λ less. inl (omega (arith, less))) (λ more. inr (omega (arith, more))) apart)
    (cases_order other c.stored_number-start.result)))
