-- The names that `host_name` makes are read back.
use Rattle.std.proofs.Common.{◌≡◌, ◌≢◌, ℕ, ◌+◌, ◌*◌, ◌/◌, ◌%◌, ◌^◌, ◌<◌, Bool, true, false, List, [], ◌∷◌, ◌++◌, arith, refl, sym, ap, ◌∙◌, subst, inl, inr, append_assoc, codes, decimal, length}
use Rattle.std.specs.Prelude.{◌==◌, IsTrue}
use Rattle.std.specs.List.{AllByRecursion, list_all}
use Rattle.std.specs.Char.{digit_char, is_ascii_digit}
use Rattle.std.proofs.lemmas.Bool.{cases_Bool}
use Rattle.std.proofs.lemmas.Fmt.{decimal_nonempty}
use Rattle.std.proofs.lemmas.List.{append-nil}
use Rattle.vol_layout.specs.declared.form.PlaceForm.{PlaceForm}
use Rattle.host_folders.specs.HostNames.{Entry, aux_of, digits, has_tail, host_name, name_bytes, text_tail, told_number, told_tail, type_of}
use Rattle.host_folders.specs.Laws.{IsEntry, IsNumber}
use Rattle.host_folders.specs.declared.entry.Naming.{Naming}
use Rattle.host_folders.specs.declared.entry.Naming.TheVariants.{Naps, Plain}
use Rattle.host_folders.proofs.Ends.{IsDigit, aux_fits, decimal_digits, number_more, number_one, tail_none, tail_some, type_fits}
use Rattle.host_folders.specs.declared.said.Content.{Content}
use Rattle.host_folders.specs.declared.said.Content.TheVariants.{Bytes, Text, Program}
use Rattle.host_folders.specs.HostEntries.{FileView, IsHexadecimal, IsNumbering, first, further, SaysContent, stored, readable, listed, SaysFile, SaysFolder, SaysName, SaysTail}
use Rattle.host_folders.specs.ReadBack.{IsFolderReadBack, IsReadBack, IsTextReadBack, entry_file}
use Rattle.host_folders.proofs.HostStems.{digits_say, host_begins}
use Rattle.host_folders.proofs.Tails.{twice_two}

-- ---- the number

digit_passes : (c : ℕ) → IsDigit c → is_ascii_digit c ≡ true
digit_passes c h = grind arith

digits_pass : (text : List ℕ) → AllByRecursion IsDigit text → IsTrue (list_all is_ascii_digit text)
digits_pass [] h = refl
digits_pass (c ∷ cs) h = rw (digit_passes c h.0) (digits_pass cs h.1)

some_decimal : (text : List ℕ) → 0 < length text → text ≢ []
some_decimal [] h e = omega arith
some_decimal (c ∷ cs) h e = cc

numbering : (number : ℕ) → IsNumber number → IsNumbering (told_number number)
numbering number counts = elim (cases_Bool (number == 1)) [
  | inl one ↦ subst IsNumbering (sym (number_one number one)) first
  | inr other ↦
      let fits : number < 2 ^ 64 = omega (arith, counts.fits) in
      subst IsNumbering (sym (number_more number other))
      (further (decimal number) (some_decimal (decimal number) (decimal_nonempty number fits))
      (digits_pass (decimal number) (decimal_digits number fits)))
]

-- ---- the tail

aux_says : (aux : ℕ) → aux < 65536 → IsHexadecimal 4 (digits (aux / 256) ++ digits (aux % 256)) aux
aux_says aux h =
    let whole : 256 * (aux / 256) + aux % 256 ≡ aux = omega arith in
    subst (IsHexadecimal 4 (digits (aux / 256) ++ digits (aux % 256))) whole
    (twice_two (digit_char (aux / 256 / 16)) (digit_char (aux / 256 % 16)) (digit_char (aux % 256 / 16))
    (digit_char (aux % 256 % 16))
    (aux / 256) (aux % 256) (digits_say (aux / 256) (omega arith)) (digits_say (aux % 256) (omega arith)))

tail_says : (type aux : ℕ) (end : List ℕ) (content : Content) → type < 256 → aux < 65536 → SaysContent end type content
    → SaysTail (digits type ++ (digits (aux / 256) ++ digits (aux % 256)) ++ end) type aux content
tail_says type aux end content h k says = record {
  type_digits = digits type;
  aux_digits = digits (aux / 256) ++ digits (aux % 256);
  end = end;
  split = refl;
  says_type = digits_say type h;
  says_aux = aux_says aux k;
  says_content = says;
}

-- ---- files

abbrev file : List ℕ → ℕ → ℕ → Content → FileView
file name type aux content = record { name = name; file_type = type; aux_type = aux; content = content }

folder_says : (form : PlaceForm) (stem name : List ℕ) (number : ℕ) → IsNumber number → SaysName form stem name
    → SaysFolder form (stem ++ told_number number) name
folder_says form stem name number counts says =
    record { stem = stem; number = told_number number; split = refl; says = says; numbering = numbering number counts }

file_says : (form : PlaceForm) (stem name : List ℕ) (number type aux : ℕ) (end : List ℕ) (content : Content)
    → IsNumber number → type < 256 → aux < 65536 → SaysName form stem name → SaysContent end type content
    → SaysFile form ((stem ++ (told_number number ++ told_tail type aux)) ++ end) (file name type aux content)
file_says form stem name number type aux end content counts h k says is = record {
  front = stem ++ told_number number;
  tail = digits type ++ (digits (aux / 256) ++ digits (aux % 256)) ++ end;
  split = ap (λ (t : List ℕ). t ++ end) (sym (append_assoc stem (told_number number) (told_tail type aux)))
      ∙ append_assoc (stem ++ told_number number) (told_tail type aux) end;
  says_name = folder_says form stem name number counts says;
  says_tail = tail_says type aux end content h k is;
}

has_naps : (directory : Bool) → directory ≡ false → has_tail Naps directory ≡ true
has_naps true e = absurd cc
has_naps false e = refl

-- a name of a file with something behind it
read_behind : (e : Entry) (number : ℕ) (end : List ℕ) (content : Content) → IsEntry e → IsNumber number
    → e.directory ≡ false → SaysContent end (type_of e) content
    → SaysFile e.form (host_name Naps e number ++ end) (entry_file e content)
read_behind e number end content fits counts kept is =
    let begins = host_begins Naps e number fits counts in
    let name =
    begins.is ∙ ap (λ (t : List ℕ). begins.text ++ (told_number number ++ t))
    (tail_some Naps e (has_naps e.directory kept)) in
    subst (λ (t : List ℕ). SaysFile e.form (t ++ end) (entry_file e content)) (sym name)
    (file_says e.form begins.text (name_bytes e.form e.name) number (type_of e) (aux_of e) end content counts
    (type_fits e fits) (aux_fits e fits) begins.says is)

pub file_read_back : (e : Entry) (number : ℕ) → IsEntry e → IsNumber number → e.directory ≡ false → IsReadBack e number
file_read_back e number fits counts kept =
    subst (λ (t : List ℕ). SaysFile e.form t (entry_file e Bytes)) (append-nil (host_name Naps e number))
    (read_behind e number [] Bytes fits counts kept (stored [] (type_of e) (inl refl)))

pub text_read_back : (e : Entry) (number : ℕ) → IsEntry e → IsNumber number → e.directory ≡ false
    → IsTextReadBack e number
text_read_back e number fits counts kept = record {
  text = λ is. read_behind e number (codes ".utf8.txt") Text fits counts kept
      (subst (λ (type : ℕ). SaysContent (codes ".utf8.txt") type Text) (sym is) readable);
  program = λ is. read_behind e number (codes ".utf8.txt") Program fits counts kept
      (subst (λ (type : ℕ). SaysContent (codes ".utf8.txt") type Program) (sym is) listed);
}

-- ---- folders

no_tail : (naming : Naming) (directory : Bool) → directory ≡ true → has_tail naming directory ≡ false
no_tail naming false e = absurd cc
no_tail Naps true e = refl
no_tail Plain true e = refl

no_text : (naming : Naming) (text : Bool) → text ≡ false → text_tail naming text ≡ []
no_text Naps text e = refl
no_text Plain true e = absurd cc
no_text Plain false e = refl

pub folder_read_back : (naming : Naming) (e : Entry) (number : ℕ) → IsEntry e → IsNumber number → e.directory ≡ true
    → e.text ≡ false → IsFolderReadBack naming e number
folder_read_back naming e number fits counts folder no_form =
    let begins = host_begins naming e number fits counts in
    let none = tail_none naming e (no_tail naming e.directory folder) ∙ no_text naming e.text no_form in
    let name = begins.is
    ∙ ap (λ (t : List ℕ). begins.text ++ (told_number number ++ t)) none
    ∙ ap (λ (t : List ℕ). begins.text ++ t) (append-nil (told_number number)) in
    subst (λ (t : List ℕ). SaysFolder e.form t (name_bytes e.form e.name)) (sym name)
    (folder_says e.form begins.text (name_bytes e.form e.name) number counts begins.says)
