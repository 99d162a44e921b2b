-- The new files that are given in a form.
use Rattle.std.specs.Prelude.{◌≡◌, ℕ, Bool, true, false, List, Option, Some, None}
use Rattle.apple_single.specs.Single.{IsSingle}
use Rattle.apple_single.specs.declared.single.FileInfo.{FileInfo}
use Rattle.apple_text.specs.Taken as texts
use Rattle.apple_text.specs.declared.form.HighBit.{HighBit}
use Rattle.apple_text.specs.declared.form.TextForm.{TextForm}
use Rattle.applesoft.specs.Tokens as programs
use Rattle.vol_layout.specs.declared.form.PlaceForm.{PlaceForm}
use Rattle.vol_layout.specs.declared.form.PlaceForm.TheVariants.{Sector, Block}
use Rattle.file_forms.specs.declared.form.GivenForm.{GivenForm}
use Rattle.file_forms.specs.declared.form.GivenForm.TheVariants.{Text, Applesoft, Single}
use Rattle.file_forms.specs.declared.taking.TakenFile.{TakenFile}

-- a new file: its type and aux type of ProDOS, where what is given says them, and its bytes
pub record TakenView : Type 0 where
  pub file_type : Option ℕ
  pub aux_type : Option ℕ
  pub bytes : List ℕ

abbrev pub taken_view : {A : Type 0} → TakenFile A → TakenView
taken_view file = record { file_type = file.file_type; aux_type = file.aux_type; bytes = file.bytes.items }

-- a file with this type and aux type
abbrev pub taken : Option ℕ → Option ℕ → List ℕ → TakenView
taken file_type aux_type bytes = record { file_type = file_type; aux_type = aux_type; bytes = bytes }

-- in DOS 3.3 a $00 would end a text
abbrev pub may_be_zero : PlaceForm → Bool
may_be_zero Sector = false
may_be_zero Block = true

abbrev pub text_form : PlaceForm → HighBit → TextForm
text_form system high = record { high = high; zeros = may_be_zero system }

-- an AppleSingle file may say nothing of the type
abbrev pub of_single : Option FileInfo → List ℕ → TakenView
of_single (Some info) fork = taken (Some info.file_type) (Some info.aux_type) fork
of_single None fork = taken None None fork

-- The file that is given so: a text ($04), of which no aux type is said; a program in Applesoft BASIC ($FC, for $0801);
-- or what an AppleSingle file has.
abbrev pub IsTakenFrom : PlaceForm → GivenForm → List ℕ → TakenView → Type 0
IsTakenFrom system (Text high) given file =
    (bytes : List ℕ) × texts.IsTaken (text_form system high) given bytes × (file ≡ taken (Some 0x04) None bytes)
IsTakenFrom system Applesoft given file =
    (bytes : List ℕ) × programs.IsTokenized given bytes × (file ≡ taken (Some 0xfc) (Some 0x0801) bytes)
IsTakenFrom system Single given file =
    (info : Option FileInfo) × (fork : List ℕ) × IsSingle given info fork × (file ≡ of_single info fork)

abbrev pub CanBeTakenFrom : PlaceForm → GivenForm → List ℕ → Type 0
CanBeTakenFrom system form given = (file : TakenView) × IsTakenFrom system form given file

-- the first line of what is given, from 1, that can't be taken
abbrev pub IsBadLine : PlaceForm → GivenForm → List ℕ → ℕ → Type 0
IsBadLine system (Text high) given line = texts.IsBadLine (text_form system high) given line
IsBadLine system Applesoft given line = programs.IsBadLine given line
IsBadLine system Single given line = ⊥
