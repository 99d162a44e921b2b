use Rattle.std.proofs.Common.{refl, subst, sym}
use Rattle.std.specs.Prelude.{Option}
use Rattle.file_forms.specs.declared.form.GivenForm.{GivenForm}
use Rattle.shop_changes.specs.EditRules.{ChangedMeaning, edit_rules}
use Rattle.shop_changes.specs.Replaced.{IsPlainSaid, IsTakenSaid}
use Rattle.shop_changes.specs.SaidFile.{SaidView, said_view}
use Rattle.shop_changes.proofs.ReplacedImage.{replaced_so}
use Rattle.shop_changes.proofs.replacing_in_image.replace_said.Goals as goal

pub returns-in-None : goal.returns-in-None
returns-in-None g c =
    let said : SaidView = said_view c.args.said in
    let format : ChangedMeaning = record {
      files = g.F.FileFormat.files c.args.format.now;
      directories = g.F.DirectoryFormat.directories c.args.format.now;
      edits = edit_rules (g.F.EditableFormat.edits c.args.format.now) (g.F.EditableFormat.names c.args.format.now)
          (g.F.EditableFormat.erasures c.args.format.now) (g.F.SavableFormat.saves c.args.format.now);
      units = g.F.Format.meaning c.args.format.now;
    } in
    replaced_so c.args.path.now said format _ _ said _ c.if-said-gt-MOST_INPUT.false c.kind_unsaid-unsaid.ensures
    (subst (λ (form : Option GivenForm). IsPlainSaid said form said) (sym c.in-None.is) refl) c.replace_plain.ensures

pub returns-in-Ok : goal.returns-in-Ok
returns-in-Ok g c =
    let said : SaidView = said_view c.args.said in
    let plain : SaidView = said_view c.said-said.result in
    let format : ChangedMeaning = record {
      files = g.F.FileFormat.files c.args.format.now;
      directories = g.F.DirectoryFormat.directories c.args.format.now;
      edits = edit_rules (g.F.EditableFormat.edits c.args.format.now) (g.F.EditableFormat.names c.args.format.now)
          (g.F.EditableFormat.erasures c.args.format.now) (g.F.SavableFormat.saves c.args.format.now);
      units = g.F.Format.meaning c.args.format.now;
    } in
    let taken : IsTakenSaid said c.in-Some.form plain =
    subst (λ (p : SaidView). IsTakenSaid said c.in-Some.form p) (sym c.said-said.ensures) c.in-Ok.ensures.taken in
    replaced_so c.args.path.now said format _ _ plain _ c.if-said-gt-MOST_INPUT.false c.kind_unsaid-unsaid.ensures
    (subst (λ (form : Option GivenForm). IsPlainSaid said form plain) (sym c.in-Some.is) taken) c.replace_plain-in-Ok.ensures
