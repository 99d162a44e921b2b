-- A file that takes the place of none.
use Rattle.std.proofs.Common.{◌≡◌, ℕ, ap, refl, subst, sym}
use Rattle.std.specs.Prelude.{Option, Some, None, IsSome, option_and_then, unwrap_or}
use Rattle.std.specs.Option.{option_or}
use Rattle.file_forms.specs.Taken.{IsTakenFrom, TakenView}
use Rattle.file_forms.specs.declared.form.GivenForm.{GivenForm}
use Rattle.shop_changes.specs.GivenWords.{binary_kind, kind_for, kind_unsaid, usual_kind}
use Rattle.shop_changes.specs.Replaced.{IsPlainSaid, given_over, kind_left}
use Rattle.shop_changes.specs.SaidFile.{IsGivenBy, IsGivenIn, SaidView, given_with, kind_of}
use Rattle.shop_jobs.specs.declared.input.FileSystem.{FileSystem}
use Rattle.shop_jobs.specs.declared.input.FileSystem.TheVariants.{Dos, Prodos}
use Rattle.shop_replies.specs.Volume.{form_of}

there : (o : Option ℕ) (other : ℕ) → IsSome o → o ≡ Some (unwrap_or o other)
there (Some n) other some = refl
there None other some = cc

-- the type that is left open is that of binary files
kind_is : (file_system : FileSystem) (said type : Option ℕ) → IsSome (option_or said (kind_for file_system (unwrap_or type 0x06)))
    → option_or said (kind_for file_system (unwrap_or type 0x06))
    ≡ Some (unwrap_or (option_or said (option_and_then (kind_for file_system) type)) (binary_kind file_system))
kind_is file_system (Some kind) type some = refl
kind_is file_system None (Some type) some = there (kind_for file_system type) (binary_kind file_system) some
kind_is Dos None None some = refl
kind_is Prodos None None some = refl

aux_is : (said aux : Option ℕ) → unwrap_or (option_or said aux) 0 ≡ unwrap_or said (unwrap_or aux 0)
aux_is (Some n) aux = refl
aux_is None aux = refl

-- what was taken from a form, as it is said
abbrev said_of : SaidView → TakenView → SaidView
said_of said file = record said { kind = kind_left said file; aux = option_or said.aux file.aux_type; form = None; bytes = file.bytes }

taken_as_new : (said : SaidView) (form : GivenForm) (file : TakenView) → IsTakenFrom (form_of said.file_system) form said.bytes file
    → IsSome (kind_of said file) → IsGivenIn said form (given_over (said_of said file) (binary_kind said.file_system) None)
taken_as_new said form file taken some = record {
  file = file;
  taken = taken;
  kind = kind_is said.file_system said.kind file.file_type some;
  is = ap (λ (aux : ℕ). given_with (record said { aux = Some aux }) (unwrap_or (kind_left said file) (binary_kind said.file_system)) 0 file.bytes)
      (aux_is said.aux file.aux_type);
}

pub given_as_new : (said : SaidView) (form : Option GivenForm) (plain : SaidView) → IsPlainSaid said form plain
    → IsGivenBy said form (given_over plain (kind_unsaid said.file_system form) None)
given_as_new said None plain is = ap (λ (p : SaidView). given_over p (usual_kind said.file_system) None) is
given_as_new said (Some form) plain is =
    subst (λ (p : SaidView). IsGivenIn said form (given_over p (binary_kind said.file_system) None)) (sym is.is)
    (taken_as_new said form is.file is.taken is.kind)
