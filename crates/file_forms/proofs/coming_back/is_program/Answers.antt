use Rattle.std.proofs.Common.{◌∙◌, ap, subst, sym, List, ℕ, Err}
use Rattle.std.proofs.lemmas.Bool.{false≢true}
use Rattle.std.proofs.lemmas.Slice.Eq.{bytes_eq-Decides}
use Rattle.applesoft.specs.Tokens.{IsTokenized}
use Rattle.file_forms.proofs.coming_back.is_program.Goals as goal

pub returns-in-Ok : goal.returns-in-Ok
returns-in-Ok g c =
    let text = c.args.text.now in
    let program = c.args.program.now in
    let taken = c.in-Ok.taken.items in
    let decides = bytes_eq-Decides c.as_slice.result.now program in
    let made = c.in-Ok.ensures.tokenized in (
      λ yes. subst (λ (p : List ℕ). IsTokenized text p) (sym c.as_slice.ensures.value ∙ decides.0 (sym c.eq.ensures ∙ yes)) made,
      λ is. c.eq.ensures ∙ decides.1 (c.as_slice.ensures.value ∙ c.a_text_is_one_program.ensures text taken program made is),
    )

pub returns-in-Err-BadLine : goal.returns-in-Err-BadLine
returns-in-Err-BadLine g c = (
  λ never. absurd (false≢true never),
  λ is. absurd (c.in-Err-BadLine.ensures.refused c.in-Err-BadLine.field-0-0 (ap Err c.in-Err-BadLine.field-0-is) c.args.program.now is),
)
