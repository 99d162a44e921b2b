-- A name says one thing at most.
use Rattle.std.proofs.Common.{◌≡◌, ◌≢◌, ◌⊎◌, ℕ, ◌+◌, ◌*◌, List, [], ◌++◌, arith, refl, sym, ap, ap₂, ◌∙◌, subst, inl, inr, length, codes}
use Rattle.vol_layout.specs.declared.form.PlaceForm.{PlaceForm}
use Rattle.host_folders.specs.declared.said.Content.{Content}
use Rattle.host_folders.specs.HostEntries.{FileView, IsExtension, SaysBytes, SaysContent, stored, readable, listed, SaysFolder, SaysName, empty, some, SaysTail}
use Rattle.host_folders.specs.ReadBack.{SaysOneFile, SaysOneFolder}
use Rattle.host_folders.proofs.Begins.{no_first_behind_percent, number_same}
use Rattle.host_folders.proofs.InOneWay.{around_same, file_around, folder_before, says_stem}
use Rattle.host_folders.proofs.SoFar.{first_of, same_bytes}
use Rattle.host_folders.proofs.Tails.{tail_read, third}

-- ---- stored names

no_bytes_alone : (form : PlaceForm) (name : List ℕ) → name ≢ [] → SaysBytes form (codes "%") name → ⊥
no_bytes_alone form name named says =
    let first = first_of form (codes "%") name named says in
    no_first_behind_percent form first.0 first.1 first.2

one_name : (form : PlaceForm) (stem other one two : List ℕ) → SaysName form stem one → SaysName form other two
    → stem ≡ other → one ≡ two
one_name form _ _ _ _ empty empty e = refl
one_name form _ _ _ _ empty (some stem name named says) e =
    absurd (no_bytes_alone form name named (subst (λ (t : List ℕ). SaysBytes form t name) (sym e) says))
one_name form _ _ _ _ (some stem name named says) empty e =
    absurd (no_bytes_alone form name named (subst (λ (t : List ℕ). SaysBytes form t name) e says))
one_name form _ _ _ _ (some stem name named says) (some stem' name' named' says') e =
    same_bytes form stem name name' says (subst (λ (t : List ℕ). SaysBytes form t name') (sym e) says')

pub one_folder : (form : PlaceForm) (text : List ℕ) → SaysOneFolder form text
one_folder form text one other is also =
    one_name form is.stem is.stem one other is.says
    (says_stem form text is.stem (folder_before form text one is) other also) refl

-- ---- tails

no_extension : (codes ".utf8.txt" ≡ []) ⊎ IsExtension (codes ".utf8.txt") → ⊥
no_extension (inl is) = cc
no_extension (inr is) =
    let same : codes "." ++ codes "utf8.txt" ≡ codes "." ++ is.letters = is.split in
    let long : 9 ≡ length (codes "." ++ is.letters) = ap length same in
    let most = is.most in
    omega (arith, long, most)

one_content : (end other : List ℕ) (type type' : ℕ) (one two : Content) → SaysContent end type one
    → SaysContent other type' two → end ≡ other → type ≡ type' → one ≡ two
one_content _ _ _ _ _ _ (stored end type is) (stored end' type' is') e f = refl
one_content _ _ _ _ _ _ (stored end type is) readable e f =
    absurd (no_extension (subst (λ (t : List ℕ). (t ≡ []) ⊎ IsExtension t) e is))
one_content _ _ _ _ _ _ (stored end type is) listed e f =
    absurd (no_extension (subst (λ (t : List ℕ). (t ≡ []) ⊎ IsExtension t) e is))
one_content _ _ _ _ _ _ readable (stored end type is) e f =
    absurd (no_extension (subst (λ (t : List ℕ). (t ≡ []) ⊎ IsExtension t) (sym e) is))
one_content _ _ _ _ _ _ readable readable e f = refl
one_content _ _ _ _ _ _ readable listed e f = absurd (omega arith)
one_content _ _ _ _ _ _ listed (stored end type is) e f =
    absurd (no_extension (subst (λ (t : List ℕ). (t ≡ []) ⊎ IsExtension t) (sym e) is))
one_content _ _ _ _ _ _ listed readable e f = absurd (omega arith)
one_content _ _ _ _ _ _ listed listed e f = refl

record AreOne (type aux type' aux' : ℕ) (content content' : Content) : Type 0 where
  types : type ≡ type'
  auxes : aux ≡ aux'
  contents : content ≡ content'

one_tail : (tail : List ℕ) (type aux type' aux' : ℕ) (content content' : Content) → SaysTail tail type aux content
    → SaysTail tail type' aux' content' → AreOne type aux type' aux' content content'
one_tail tail type aux type' aux' content content' is also =
    let read = tail_read tail type aux content is in
    let first = tail_read tail type' aux' content' also in
    let left =
    third tail type read.high read.behind_type read.behind_high read.begins_type read.begins_high type' aux' content'
    also in
    let low = number_same read.behind_high read.low left.0 read.end left.1 read.begins_low left.2 in
    record {
      types = (number_same tail type type' read.behind_type first.behind_type read.begins_type first.begins_type).0;
      auxes = read.value ∙ ap (λ (l : ℕ). 256 * read.high + l) low.0 ∙ sym left.3;
      contents = one_content read.end left.1 type type content content' read.says left.4 low.1 refl;
    }

-- ---- files

abbrev file : List ℕ → ℕ → ℕ → Content → FileView
file name type aux content = record { name = name; file_type = type; aux_type = aux; content = content }

pub one_file : (form : PlaceForm) (text : List ℕ) → SaysOneFile form text
one_file form text one other is also =
    let around =
    around_same text is.front is.tail also.front also.tail (file_around form text one is)
    (file_around form text other also) in
    let tails = one_tail also.tail one.file_type one.aux_type other.file_type other.aux_type one.content other.content
    (subst (λ (t : List ℕ). SaysTail t one.file_type one.aux_type one.content) around.1 is.says_tail) also.says_tail in
    let names = one_folder form also.front one.name other.name
    (subst (λ (t : List ℕ). SaysFolder form t one.name) around.0 is.says_name) also.says_name in
    ap₂ (λ (name : List ℕ) (type : ℕ). file name type one.aux_type one.content) names tails.types
    ∙ ap₂ (λ (aux : ℕ) (content : Content). file other.name other.file_type aux content) tails.auxes tails.contents
