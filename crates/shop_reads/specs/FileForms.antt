-- A file of a volume as its forms are made of it.
use Rattle.std.specs.Prelude.{◌≡◌, ◌==◌, not, ℕ, ◌-◌, List, Option, Some, None, drop, length, map, if◌then◌else◌}
use Rattle.std.specs.List.{suffix_len}
use Rattle.std.specs.declared.alloc.Global.{Global}
use Rattle.apple_single.specs.declared.single.FileInfo.{FileInfo}
use Rattle.apple_text.specs.Shown.{low}
use Rattle.file_formats.specs.DosFiles.{number_at}
use Rattle.file_formats.specs.Files.{FileMeaning}
use Rattle.file_formats.specs.declared.listing.ListEntry.{ListEntry}
use Rattle.file_forms.specs.Found.{FileView}
use Rattle.file_forms.specs.Shown.{HasForm, IsInForm, form_of}
use Rattle.file_forms.specs.declared.form.FileForm.{FileForm}
use Rattle.host_folders.specs.HostNames.{aux_in, name_bytes, type_in}
use Rattle.vol_layout.specs.declared.form.PlaceForm.{PlaceForm}
use Rattle.vol_layout.specs.declared.form.PlaceForm.TheVariants.{Sector, Block}
use Rattle.shop_jobs.specs.declared.looks.ReadForm.{ReadForm}
use Rattle.shop_jobs.specs.declared.looks.ReadForm.TheVariants as reads
use Rattle.vol_format.specs.Directory.{Listed}

-- The name in an AppleSingle file: of DOS 3.3 the low seven bits of the bytes that count, of ProDOS what stands behind
-- the last slash of the path.
abbrev pub real_name : PlaceForm → List ℕ → List ℕ
real_name Sector path = map low (name_bytes Sector path)
real_name Block path = drop (length path - suffix_len (λ byte. not (byte == 0x2f)) path) path

-- The access of ProDOS (ProDOS 8 Technical Reference Manual, chapter 4.4): the entry's; a file of DOS 3.3 may be
-- destroyed, renamed, written and read, or where it is locked read alone.
abbrev pub access_in : {A : Type 0} → PlaceForm → ListEntry A → ℕ
access_in Sector entry = if entry.locked then 0x01 else 0xc3
access_in Block entry = entry.access

-- the aux type of ProDOS, or the address that a file of DOS 3.3 with this whole text begins with
abbrev pub address_in : {A : Type 0} → PlaceForm → ListEntry A → List ℕ → ℕ
address_in Sector entry whole = number_at whole 0
address_in Block entry whole = entry.aux

-- access, type and aux type; of DOS 3.3 those of ProDOS for it
abbrev pub info_in : {A : Type 0} → PlaceForm → ListEntry A → List ℕ → FileInfo
info_in form entry whole = record {
  access = access_in form entry;
  file_type = type_in form entry.kind;
  aux_type = aux_in form entry.kind (address_in form entry whole);
}

-- the file of an entry that is shown so, with this whole text and this body
abbrev pub found_as : {A : Type 0} → PlaceForm → ListEntry A → List ℕ → List ℕ → FileView
found_as form entry whole body = record {
  system = form;
  name = real_name form entry.path;
  info = info_in form entry whole;
  whole = whole;
  body = body;
}

abbrev pub found_in : PlaceForm → FileMeaning → Listed → List ℕ → FileView
found_in form files entry whole = found_as form (files.shown {A = Global} entry) whole (files.body entry.bytes whole)

-- the form that is wanted of a file of a type; none where its bytes are
abbrev pub form_wanted : ReadForm → ℕ → Option FileForm
form_wanted reads.Body file_type = None
form_wanted reads.Whole file_type = None
form_wanted (reads.As form) file_type = Some form
form_wanted reads.Shown file_type = form_of file_type

-- the file is these bytes in the form that is wanted of it
abbrev pub IsInWantedForm : ReadForm → FileView → List ℕ → Type 0
IsInWantedForm wanted file bytes =
    (form : FileForm) × (form_wanted wanted file.info.file_type ≡ Some form) × IsInForm form file bytes

-- it has no such form
abbrev pub LacksWantedForm : ReadForm → FileView → Type 0
LacksWantedForm wanted file = (form : FileForm) → form_wanted wanted file.info.file_type ≡ Some form
    → ¬ HasForm form file
