-- What the laws on what names say speak of.
use Rattle.std.specs.Prelude.{◌≡◌, ℕ, List}
use Rattle.vol_layout.specs.declared.form.PlaceForm.{PlaceForm}
use Rattle.host_folders.specs.HostNames.{Entry, aux_of, host_name, name_bytes, text_beside, type_of}
use Rattle.host_folders.specs.declared.entry.Naming.{Naming}
use Rattle.host_folders.specs.declared.entry.Naming.TheVariants.{Naps}
use Rattle.host_folders.specs.declared.said.Content.{Content}
use Rattle.host_folders.specs.declared.said.Content.TheVariants.{Bytes, Text, Program}
use Rattle.host_folders.specs.HostEntries.{FileView, SaysFile, SaysFolder}

-- a name says one file at most
abbrev pub SaysOneFile : PlaceForm → List ℕ → Type 0
SaysOneFile form text = (one other : FileView) → SaysFile form text one → SaysFile form text other → one ≡ other

-- and the stored name of one folder at most
abbrev pub SaysOneFolder : PlaceForm → List ℕ → Type 0
SaysOneFolder form text = (one other : List ℕ) → SaysFolder form text one → SaysFolder form text other → one ≡ other

-- the file of an entry: its stored name, but for the spaces that fill it up in DOS 3.3, its type and its aux type
abbrev pub entry_file : Entry → Content → FileView
entry_file e content = record {
  name = name_bytes e.form e.name;
  file_type = type_of e;
  aux_type = aux_of e;
  content = content;
}

-- the name under which a file stands on the host says the file
abbrev pub IsReadBack : Entry → ℕ → Type 0
IsReadBack e number = SaysFile e.form (host_name Naps e number) (entry_file e Bytes)

-- and that of its readable form beside it says it too, for the types that have one
pub record IsTextReadBack (e : Entry) (number : ℕ) : Type 0 where
  pub text : type_of e ≡ 0x04 → SaysFile e.form (text_beside (host_name Naps e number)) (entry_file e Text)
  pub program : type_of e ≡ 0xfc → SaysFile e.form (text_beside (host_name Naps e number)) (entry_file e Program)

-- the name under which a folder stands on the host says its stored name
abbrev pub IsFolderReadBack : Naming → Entry → ℕ → Type 0
IsFolderReadBack naming e number = SaysFolder e.form (host_name naming e number) (name_bytes e.form e.name)
