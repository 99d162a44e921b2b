-- A file of a volume that was read.
use Rattle.std.specs.Prelude.{ℕ, suc, ◌==◌, if◌then◌else◌, List, [], ◌∷◌, take}
use Rattle.apple_single.specs.declared.single.FileInfo.{FileInfo}
use Rattle.vol_layout.specs.declared.form.PlaceForm.{PlaceForm}
use Rattle.vol_layout.specs.declared.form.PlaceForm.TheVariants.{Sector, Block}
use Rattle.file_forms.specs.declared.found.FoundFile.{FoundFile}

-- its system, its name, its access, type and aux type, all bytes of its units, and its body
pub record FileView : Type 0 where
  pub system : PlaceForm
  pub name : List ℕ
  pub info : FileInfo
  pub whole : List ℕ
  pub body : List ℕ

abbrev pub file_view : FoundFile → FileView
file_view file = record {
  system = file.system;
  name = file.name.now;
  info = file.info;
  whole = file.whole.now;
  body = file.body.now;
}

-- how many bytes stand before the first $00
abbrev pub zero_at : List ℕ → ℕ
zero_at [] = 0
zero_at (byte ∷ bytes) = if byte == 0 then 0 else suc (zero_at bytes)

-- these bytes
abbrev pub before_zero : List ℕ → List ℕ
before_zero bytes = take (zero_at bytes) bytes

-- The bytes of a text: in DOS 3.3 a $00 ends it, and what stands behind fills its sectors up (Beneath Apple DOS,
-- chapter 4, TEXT files); in ProDOS the end of the file does.
abbrev pub text_in : PlaceForm → List ℕ → List ℕ → List ℕ
text_in Sector whole body = before_zero whole
text_in Block whole body = body

abbrev pub text_bytes : FileView → List ℕ
text_bytes file = text_in file.system file.whole file.body
