-- The names of files and folders: what they say, and that they say it in one way.
use Rattle.std.proofs.Common.{◌≡◌, ◌≢◌, ◌⊎◌, ℕ, Bool, true, false, Option, Some, None, Result, Ok, Err, IfOk, List, [], ◌∷◌, ◌++◌, All, arith, refl, sym, ap, ap₂, ◌∙◌, subst, inl, inr, codes}
use Rattle.std.specs.Prelude.{◌==◌, not, IsTrue, MatchOption}
use Rattle.std.specs.List.{AllByRecursion, before_first, list_all}
use Rattle.std.specs.Char.{is_ascii_alphanumeric, is_digit}
use Rattle.std.proofs.lemmas.Grind.{common_steps}
use Rattle.vol_layout.specs.declared.form.PlaceForm.{PlaceForm}
use Rattle.host_folders.specs.HostNames.{is_plain}
use Rattle.host_folders.proofs.Ends.{all_append, all_map, by_place, by_recursion}
use Rattle.host_folders.proofs.Says.{before_end, before_more}
use Rattle.host_folders.specs.declared.said.Content.{Content}
use Rattle.host_folders.specs.HostEntries.{FileView, IsCharacter, plain, doubled, IsExtension, IsHexadecimal, IsNumbering, first, further, SaysByte, character, escaped, marked, SaysBytes, none, more, SaysContent, stored, readable, listed, SaysFile, SaysFolder, SaysName, empty, some, SaysTail}
use Rattle.host_folders.specs.Reading.{IsAroundHash, IsBeforeNumber}
use Rattle.host_folders.proofs.Begins.{both}
use Rattle.host_folders.proofs.Parts.{no_hash}
use Rattle.host_folders.proofs.SoFar.{same_bytes}

-- ---- answers of readers

-- what was found says this where what it says is the same
pub found_map : {V E : Type 0} (result : Result (Option V) E) (items : V → List ℕ) (Says Told : List ℕ → Type 0)
    → ((name : List ℕ) → Says name → Told name) → ((name : List ℕ) → Told name → Says name)
    → IfOk result (λ found. MatchOption found ((name : List ℕ) → ¬ Says name) (λ v. Says (items v)))
    → IfOk result (λ found. MatchOption found ((name : List ℕ) → ¬ Told name) (λ v. Told (items v)))
found_map (Ok None) items Says Told on back never = λ name told. never name (back name told)
found_map (Ok (Some v)) items Says Told on back says = on (items v) says
found_map (Err e) items Says Told on back is = tt

pub not_found : {V : Type 0} (found : Option V) (items : V → List ℕ) (Says : List ℕ → Type 0) → found ≡ None
    → MatchOption found ((name : List ℕ) → ¬ Says name) (λ v. Says (items v)) → (name : List ℕ) → ¬ Says name
not_found None items Says e never = never
not_found (Some v) items Says e is = absurd cc

-- ---- stems

no_text : (form : PlaceForm) (text name : List ℕ) → SaysBytes form text name → name ≡ [] → text ≡ []
no_text form _ _ none e = refl
no_text form _ _ (more piece rest byte bytes says behind) e = absurd cc

pub nothing_says : (form : PlaceForm) (stem : List ℕ) → stem ≡ [] → (name : List ℕ) → ¬ SaysName form stem name
nothing_says form _ e _ empty = cc
nothing_says form _ e _ (some stem name named says) =
    named (same_bytes form [] name [] (subst (λ (t : List ℕ). SaysBytes form t name) e says) none)

pub percent_says : (form : PlaceForm) (stem name : List ℕ) → stem ≡ codes "%" → name ≡ [] → SaysName form stem name
percent_says form stem name e none_named =
    subst (λ (t : List ℕ). SaysName form t name) (sym e) (subst (SaysName form (codes "%")) (sym none_named) empty)

pub bytes_say : (form : PlaceForm) (stem : List ℕ) → stem ≢ [] → (name : List ℕ) → SaysBytes form stem name
    → SaysName form stem name
bytes_say form stem some_text name says = some stem name (λ e. some_text (no_text form stem name says e)) says

pub say_bytes : (form : PlaceForm) (stem : List ℕ) → stem ≢ codes "%" → (name : List ℕ) → SaysName form stem name
    → SaysBytes form stem name
say_bytes form _ other _ empty = absurd (other refl)
say_bytes form _ other _ (some stem name named says) = says

-- ---- characters

pub pass_all : (p : ℕ → Bool) (xs : List ℕ) → IsTrue (list_all p xs) → AllByRecursion (λ c. p c ≡ true) xs
pass_all p [] h = tt
pass_all p (x ∷ xs) h = let parts = both (p x) (list_all p xs) h in (parts.0, pass_all p xs parts.1)

abbrev Lacks : ℕ → List ℕ → Type 0
Lacks c text = AllByRecursion (λ d. d ≢ c) text

plain_no_tilde : (c : ℕ) → IsTrue (is_plain c) → c ≢ 126
plain_no_tilde c h e = grind (arith, common_steps)

hex_no_tilde : (c : ℕ) → is_digit c 16 ≡ true → c ≢ 126
hex_no_tilde c h e = grind (arith, common_steps)

hex_no_hash : (c : ℕ) → is_digit c 16 ≡ true → c ≢ 35
hex_no_hash c h e = grind (arith, common_steps)

letter_no_hash : (c : ℕ) → is_ascii_alphanumeric c ≡ true → c ≢ 35
letter_no_hash c h e = grind (arith, common_steps)

digits_lack_tilde : (count : ℕ) (digits : List ℕ) (n : ℕ) → IsHexadecimal count digits n → Lacks 126 digits
digits_lack_tilde count digits n is =
    all_map _ (λ d. d ≢ 126) hex_no_tilde digits (pass_all (λ c. is_digit c 16) digits is.digits)

digits_lack_hash : (count : ℕ) (digits : List ℕ) (n : ℕ) → IsHexadecimal count digits n → Lacks 35 digits
digits_lack_hash count digits n is =
    all_map _ (λ d. d ≢ 35) hex_no_hash digits (pass_all (λ c. is_digit c 16) digits is.digits)

character_lacks : (piece : List ℕ) (c : ℕ) → IsCharacter piece c → Lacks 126 piece
character_lacks _ _ (plain c h) = (plain_no_tilde c h, tt)
character_lacks _ _ doubled = (λ e. omega arith, (λ e. omega arith, tt))

piece_lacks : (form : PlaceForm) (piece : List ℕ) (byte : ℕ) → SaysByte form piece byte → Lacks 126 piece
piece_lacks form _ _ (character piece c is) = character_lacks piece c is
piece_lacks form _ _ (escaped digits n is alone) = (λ e. omega arith, digits_lack_tilde 2 digits n is)
piece_lacks form _ _ (marked mark digits n sector is_mark is seen low) = (
  λ e. omega arith,
  all_append (λ d. d ≢ 126) mark (37 ∷ digits) (digits_lack_tilde 2 mark 127 is_mark)
      (λ e. omega arith, digits_lack_tilde 2 digits n is),
)

bytes_lack : (form : PlaceForm) (text name : List ℕ) → SaysBytes form text name → Lacks 126 text
bytes_lack form _ _ none = tt
bytes_lack form _ _ (more piece rest byte name says behind) =
    all_append (λ d. d ≢ 126) piece rest (piece_lacks form piece byte says) (bytes_lack form rest name behind)

name_lacks : (form : PlaceForm) (stem name : List ℕ) → SaysName form stem name → Lacks 126 stem
name_lacks form _ _ empty = (λ e. omega arith, tt)
name_lacks form _ _ (some stem name named says) = bytes_lack form stem name says

-- ---- what stands before the number

no_tilde : (c : ℕ) → c ≢ 126 → (c == 126) ≡ false
no_tilde c h = grind arith

before_numbering : (number : List ℕ) → IsNumbering number → before_first (λ c. c == 126) number ≡ []
before_numbering _ first = refl
before_numbering _ (further digits named all) = before_end (λ c. c == 126) 126 digits refl

before_is : (front number : List ℕ) → Lacks 126 front → IsNumbering number
    → before_first (λ c. c == 126) (front ++ number) ≡ front
before_is [] number lacks numbering = before_numbering number numbering
before_is (c ∷ front) number lacks numbering =
    before_more (λ d. d == 126) c (front ++ number) (no_tilde c lacks.0)
    ∙ ap (λ (t : List ℕ). c ∷ t) (before_is front number lacks.1 numbering)

before_same : (text one other : List ℕ) → IsBeforeNumber text one → IsBeforeNumber text other → one ≡ other
before_same text one other is also =
    sym (before_is one is.number (by_recursion (λ d. d ≢ 126) one is.lacks) is.numbering)
    ∙ ap (before_first (λ c. c == 126)) (sym is.split ∙ also.split)
    ∙ before_is other also.number (by_recursion (λ d. d ≢ 126) other also.lacks) also.numbering

pub folder_before : (form : PlaceForm) (text name : List ℕ) (says : SaysFolder form text name)
    → IsBeforeNumber text says.stem
folder_before form text name says = record {
  number = says.number;
  split = says.split;
  numbering = says.numbering;
  lacks = by_place (λ d. d ≢ 126) says.stem (name_lacks form says.stem name says.says);
}

pub stem_says : (form : PlaceForm) (text front : List ℕ) → IsBeforeNumber text front → (name : List ℕ)
    → SaysName form front name → SaysFolder form text name
stem_says form text front is name says =
    record { stem = front; number = is.number; split = is.split; says = says; numbering = is.numbering }

pub says_stem : (form : PlaceForm) (text front : List ℕ) → IsBeforeNumber text front → (name : List ℕ)
    → SaysFolder form text name → SaysName form front name
says_stem form text front is name says =
    let same = before_same text says.stem front (folder_before form text name says) is in
    subst (λ (t : List ℕ). SaysName form t name) same says.says

pub no_folder : (form : PlaceForm) (text : List ℕ) → ((front : List ℕ) → ¬ IsBeforeNumber text front)
    → (name : List ℕ) → ¬ SaysFolder form text name
no_folder form text never name says = never says.stem (folder_before form text name says)

-- ---- round the last `#`

extension_lacks : (end : List ℕ) → IsExtension end → Lacks 35 end
extension_lacks end is = subst (Lacks 35) (sym is.split) (
  λ e. omega arith,
  all_map _ (λ d. d ≢ 35) letter_no_hash is.letters
      (pass_all is_ascii_alphanumeric is.letters is.allowed),
)

end_lacks : (end : List ℕ) → (end ≡ []) ⊎ IsExtension end → Lacks 35 end
end_lacks end (inl is) = subst (Lacks 35) (sym is) tt
end_lacks end (inr is) = extension_lacks end is

text_lacks : Lacks 35 (codes ".utf8.txt")
text_lacks = pass_lacks (codes ".utf8.txt") refl
  where
    differs : (c : ℕ) → not (c == 35) ≡ true → c ≢ 35
    differs c h e = grind (arith, common_steps)

    pass_lacks : (xs : List ℕ) → IsTrue (list_all (λ c. not (c == 35)) xs) → Lacks 35 xs
    pass_lacks xs h = all_map (λ c. not (c == 35) ≡ true) (λ d. d ≢ 35) differs xs (pass_all (λ c. not (c == 35)) xs h)

content_lacks : (end : List ℕ) (type : ℕ) (content : Content) → SaysContent end type content → Lacks 35 end
content_lacks _ _ _ (stored end type is) = end_lacks end is
content_lacks _ _ _ readable = text_lacks
content_lacks _ _ _ listed = text_lacks

tail_lacks : (tail : List ℕ) (type aux : ℕ) (content : Content) → SaysTail tail type aux content → Lacks 35 tail
tail_lacks tail type aux content is = subst (Lacks 35) (sym is.split)
    (all_append (λ d. d ≢ 35) is.type_digits (is.aux_digits ++ is.end)
    (digits_lack_hash 2 is.type_digits type is.says_type)
    (all_append (λ d. d ≢ 35) is.aux_digits is.end (digits_lack_hash 4 is.aux_digits aux is.says_aux)
    (content_lacks is.end type content is.says_content)))

pub file_around : (form : PlaceForm) (name : List ℕ) (file : FileView) (says : SaysFile form name file)
    → IsAroundHash name says.front says.tail
file_around form name file says = record {
  split = says.split;
  lacks = by_place (λ d. d ≢ 35) says.tail
      (tail_lacks says.tail file.file_type file.aux_type file.content says.says_tail);
}

-- a text is split in one way at its last `#`
one_split : (p n q m : List ℕ) → p ++ 35 ∷ n ≡ q ++ 35 ∷ m → All (λ c. c ≢ 35) n → All (λ c. c ≢ 35) m
    → (p ≡ q) × (n ≡ m)
one_split [] n [] m same one two = (refl, cc)
one_split [] n (y ∷ q) m same one two = let rest : n ≡ q ++ 35 ∷ m = cc in absurd (no_hash n one q m rest)
one_split (x ∷ p) n [] m same one two = let rest : m ≡ p ++ 35 ∷ n = cc in absurd (no_hash m two p n rest)
one_split (x ∷ p) n (y ∷ q) m same one two =
    let head : x ≡ y = cc in
    let rest : p ++ 35 ∷ n ≡ q ++ 35 ∷ m = cc in
    let behind = one_split p n q m rest one two in
    (ap₂ (λ (c : ℕ) (t : List ℕ). c ∷ t) head behind.0, behind.1)

pub around_same : (name front tail other end : List ℕ) → IsAroundHash name front tail → IsAroundHash name other end
    → (front ≡ other) × (tail ≡ end)
around_same name front tail other end is also =
    one_split front tail other end (sym is.split ∙ also.split) is.lacks also.lacks

-- ---- files

pub no_file : (form : PlaceForm) (name : List ℕ) → ((front tail : List ℕ) → ¬ IsAroundHash name front tail)
    → (file : FileView) → ¬ SaysFile form name file
no_file form name never file says = never says.front says.tail (file_around form name file says)

pub no_file_tail : (form : PlaceForm) (name front tail : List ℕ) → IsAroundHash name front tail
    → ((type aux : ℕ) (content : Content) → ¬ SaysTail tail type aux content)
    → (file : FileView) → ¬ SaysFile form name file
no_file_tail form name front tail is never file says =
    let same = around_same name says.front says.tail front tail (file_around form name file says) is in
    never file.file_type file.aux_type file.content
    (subst (λ (t : List ℕ). SaysTail t file.file_type file.aux_type file.content) same.1 says.says_tail)

pub no_file_name : (form : PlaceForm) (name front tail : List ℕ) → IsAroundHash name front tail
    → ((folder : List ℕ) → ¬ SaysFolder form front folder) → (file : FileView) → ¬ SaysFile form name file
no_file_name form name front tail is never file says =
    let same = around_same name says.front says.tail front tail (file_around form name file says) is in
    never file.name (subst (λ (t : List ℕ). SaysFolder form t file.name) same.0 says.says_name)
