-- What the laws on names speak of.
use Rattle.std.specs.Prelude.{◌≡◌, ◌≢◌, ℕ, ◌^◌, ◌<◌, ◌≤◌, true, Some, None, All, if◌then◌else◌}
use Rattle.host_folders.specs.HostNames.{Entry, aux_of, bare_name, entry_named, folded, has_tail, host_name, kind_of, name_bytes, text_beside, type_of}
use Rattle.host_folders.specs.declared.entry.Naming.{Naming}

-- an entry as the bytes of a volume can say it
pub record IsEntry (e : Entry) : Type 0 where
  pub bytes : All (λ byte. byte < 256) e.name
  pub kind : e.kind < 256
  pub aux : e.aux < 65536

-- a number of an entry among those with its bare name
pub record IsNumber (number : ℕ) : Type 0 where
  pub some : 1 ≤ number
  pub fits : number < 2 ^ 32

-- the name of the file or folder says the stored name, but for the spaces that fill it up in DOS 3.3, and with a tail
-- the type and the aux type
abbrev pub SaysEntry : Naming → Entry → ℕ → Type 0
SaysEntry naming e number = entry_named e.form naming e.directory e.text (host_name naming e number) ≡ record {
  name = name_bytes e.form e.name;
  type_and_aux = if has_tail naming e.directory then Some (type_of e, aux_of e) else None;
}

-- type and aux type say the kind
abbrev pub SaysKind : Entry → Type 0
SaysKind e = kind_of e.form (type_of e) (aux_of e) ≡ e.kind

-- names that are one without regard to case are of entries whose bare names are, and have one number
abbrev pub AreApart : Naming → Entry → Entry → ℕ → ℕ → Type 0
AreApart naming one other m n = folded (host_name naming one m) ≡ folded (host_name naming other n)
    → (folded (bare_name naming one) ≡ folded (bare_name naming other)) × (m ≡ n)

-- a file with a tail, whose readable form may stand beside it
pub record IsFile (naming : Naming) (e : Entry) : Type 0 where
  pub fits : IsEntry e
  pub tail : has_tail naming e.directory ≡ true

-- the name of the readable form of a file is that of no file, without regard to case, and of no other readable form
pub record IsApartBeside (naming : Naming) (one other : Entry) (m n : ℕ) : Type 0 where
  pub file : folded (text_beside (host_name naming one m)) ≢ folded (host_name naming other n)
  pub text : folded (text_beside (host_name naming one m)) ≡ folded (text_beside (host_name naming other n))
      → folded (host_name naming one m) ≡ folded (host_name naming other n)
