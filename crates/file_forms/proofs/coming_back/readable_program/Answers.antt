use Rattle.std.proofs.Common.{◌∙◌, subst, sym, List, ℕ}
use Rattle.std.proofs.lemmas.Bool.{false≢true}
use Rattle.applesoft.specs.Tokens.{IsTokenized}
use Rattle.file_forms.proofs.coming_back.readable_program.Goals as goal

pub returns-else-branch-clause-none : goal.returns-else-branch-clause-none
returns-else-branch-clause-none g c = λ other listed is.
    let body = c.args.body.now in
    let same = c.a_program_has_one_listing.ensures body c.in-Ok.text.items other c.in-Ok.ensures.listed listed in
    let tokenized = subst (λ (t : List ℕ). IsTokenized t body) (sym same ∙ sym c.as_slice.ensures.value) is in
    absurd (false≢true (sym c.if-branch.false ∙ c.in_ok-is_program-in-Ok.ensures.1 tokenized))
