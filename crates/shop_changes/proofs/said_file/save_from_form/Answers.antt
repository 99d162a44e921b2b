use Rattle.std.proofs.Common.{inl, inr, refl, subst, sym}
use Rattle.std.specs.Prelude.{Option}
use Rattle.file_forms.specs.Taken.{taken_view}
use Rattle.file_forms.specs.declared.form.GivenForm.{GivenForm}
use Rattle.shop_changes.specs.SaidFile.{IsNotGivenBy, said_view}
use Rattle.shop_changes.proofs.said_file.save_from_form.Goals as goal

pub returns : goal.returns
returns g c =
    let said = said_view c.args.said in
    let given_none = subst (λ (form : Option GivenForm). IsNotGivenBy said form c.refused.result) (sym c.requires.form)
    (inr (inr (inl (c.refused.ensures, record { file = taken_view c.in-Ok.file; taken = c.in-Ok.ensures.taken; kind = sym c.in-None.ensures })))) in
    inr (inl (c.requires.short, (c.refused.result, refl, given_none, refl)))
