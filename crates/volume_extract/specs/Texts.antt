-- What is put into the folder of the readable form of a file.
use Rattle.std.specs.Prelude.{◌≡◌, ◌⊎◌, ℕ, Bool, true, false, List, []}
use Rattle.vol_layout.specs.declared.form.PlaceForm.{PlaceForm}
use Rattle.file_forms.specs.Found.{FileView}
use Rattle.file_forms.specs.Readable.{IsReadable}
use Rattle.file_forms.specs.Shown.{IsInForm}
use Rattle.file_forms.specs.declared.form.FileForm.TheVariants.{Integer}
use Rattle.host_folders.specs.HostNames.{type_in}
use Rattle.host_folders.specs.declared.entry.Naming.{Naming}
use Rattle.host_folders.specs.declared.entry.Naming.TheVariants.{Naps, Plain}
use Rattle.volume_extract.specs.declared.texts.Texts.{Texts}
use Rattle.volume_extract.specs.declared.texts.Texts.TheVariants.{Without, Beside, Alone}

-- where readable forms are wanted, they stand beside files with a type in their names, and in the place of others
abbrev pub texts_for : Naming → Bool → Texts
texts_for naming false = Without
texts_for Naps true = Beside
texts_for Plain true = Alone

abbrev pub are_alone : Texts → Bool
are_alone Without = false
are_alone Beside = false
are_alone Alone = true

-- a file of a kind as its forms see it; these ask neither for its name, nor for its access or its aux type
abbrev pub view_of : PlaceForm → ℕ → List ℕ → List ℕ → FileView
view_of form kind whole body = record {
  system = form;
  name = [];
  info = record { access = 0; file_type = type_in form kind; aux_type = 0 };
  whole = whole;
  body = body;
}

-- the listing of a program in Integer BASIC, of which no program is taken
abbrev pub IsIntegerListing : FileView → List ℕ → Type 0
IsIntegerListing file text = (file.info.file_type ≡ 0xfa) × IsInForm Integer file text

-- The readable form that is put into the folder. Beside a file it is one that gives the bytes of the file back; in the
-- place of a file it may be a listing in Integer BASIC too.
abbrev pub HasText : Texts → FileView → List ℕ → Type 0
HasText Without file text = ⊥
HasText Beside file text = IsReadable file text
HasText Alone file text = IsReadable file text ⊎ IsIntegerListing file text
