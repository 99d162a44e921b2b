-- What the path of a readable form says, and that of the file beside it.
use Rattle.std.proofs.Common.{◌≡◌, ◌≢◌, ◌⊎◌, ◌≤◌, ◌∙◌, ℕ, List, [], ◌∷◌, ◌++◌, ap, inl, inr, refl, sym, subst, arith, length, true, false, codes}
use Rattle.std.specs.Prelude.{◌==◌, All, Bool, cond}
use Rattle.std.specs.List.{onto_first}
use Rattle.std.proofs.lemmas.List.{append-nil, append_assoc, append_cancel_right, take_at}
use Rattle.std.proofs.lemmas.List.Elements.{All-take}
use Rattle.std.proofs.lemmas.List.Splits.{length-slice_split}
use Rattle.folder_adding.specs.HostEntries.{readable_path}
use Rattle.folder_adding.specs.HostPaths.{SaidPath, SayPartsIn, SaysPath, Text, parts}
use Rattle.folder_adding.specs.Verdicts.{is_readable}
use Rattle.host_folders.specs.HostEntries.{FileView, SaysContent, SaysFile, listed, readable, stored}
use Rattle.host_folders.specs.declared.said.Content.{Content}
use Rattle.host_folders.specs.declared.said.Content.TheVariants.{Bytes}
use Rattle.shop_jobs.specs.declared.input.FileSystem.{FileSystem}
use Rattle.shop_jobs.specs.declared.input.FileSystem.TheVariants.{Dos, Prodos}
use Rattle.vol_layout.specs.declared.form.PlaceForm.{PlaceForm}
use Rattle.vol_layout.specs.declared.form.PlaceForm.TheVariants.{Block, Sector}

abbrev ending : Text
ending = codes ".utf8.txt"

-- ---- the name

-- the bytes of the file are those that it is to have
abbrev pub plain : FileView → FileView
plain file = record { name = file.name; file_type = file.file_type; aux_type = file.aux_type; content = Bytes }

content_case : (end : Text) (type : ℕ) (content : Content) → SaysContent end type content → is_readable content ≡ true
    → (end ≡ ending) × ((type ≡ 0x04) ⊎ (type ≡ 0xfc))
content_case _ _ _ (stored end type extended) is = absurd (cc)
content_case _ _ _ readable is = (refl, inl refl)
content_case _ _ _ listed is = (refl, inr refl)

module _ (form : PlaceForm) (text : Text) (file : FileView) (says : SaysFile form (readable_path text) file) (is : is_readable file.content ≡ true) where
  pub type_beside : (file.file_type ≡ 0x04) ⊎ (file.file_type ≡ 0xfc)
  type_beside = (content_case says.says_tail.end file.file_type file.content says.says_tail.says_content is).1

  pub file_beside : SaysFile form text (plain file)
  file_beside =
      let front = says.front in
      let digits = says.says_tail.type_digits in
      let aux = says.says_tail.aux_digits in
      let end = (content_case says.says_tail.end file.file_type file.content says.says_tail.says_content is).0 in
      let tail : says.tail ≡ (digits ++ aux) ++ ending =
      says.says_tail.split ∙ ap (λ (e : Text). digits ++ (aux ++ e)) end ∙ sym (append_assoc digits aux ending) in
      let whole : text ++ ending ≡ (front ++ (codes "#" ++ (digits ++ aux))) ++ ending =
      says.split ∙ ap (λ (t : Text). front ++ (codes "#" ++ t)) tail ∙ sym (append_assoc front (codes "#" ++ (digits ++ aux)) ending) in
      record {
        front = front;
        tail = digits ++ aux;
        split = append_cancel_right text (front ++ (codes "#" ++ (digits ++ aux))) ending whole;
        says_name = says.says_name;
        says_tail = record {
          type_digits = digits;
          aux_digits = aux;
          end = [];
          split = ap (λ (t : Text). digits ++ t) (sym (append-nil aux));
          says_type = says.says_tail.says_type;
          says_aux = says.says_tail.says_aux;
          says_content = stored [] file.file_type (inl refl);
        };
      }

-- ---- the path

-- the parts of a path behind whose last one this stands
ended : Text → List Text → List Text
ended end [] = []
ended end (last ∷ []) = (last ++ end) ∷ []
ended end (part ∷ next ∷ behind) = part ∷ ended end (next ∷ behind)

below : (end : Text) (part : Text) (behind : List Text) → 1 ≤ length behind → ended end (part ∷ behind) ≡ part ∷ ended end behind
unfolding ended
below end part [] some = absurd (omega (arith, some))
below end part (next ∷ behind) some = refl

first_more : (end : Text) (byte : ℕ) (ps : List Text) → 1 ≤ length ps → onto_first byte (ended end ps) ≡ ended end (onto_first byte ps)
unfolding ended
first_more end byte [] some = absurd (omega (arith, some))
first_more end byte (last ∷ []) some = refl
first_more end byte (part ∷ next ∷ behind) some = refl

some_part : (path : Text) → 1 ≤ length (parts path)
some_part path = omega (arith, length-slice_split (λ byte. byte == 47) path)

parts_more : (path : Text) → parts (path ++ ending) ≡ ended ending (parts path)
unfolding ended
parts_more [] = refl
parts_more (byte ∷ path) = by (parts_more path) (byte == 47)
  where
    by : parts (path ++ ending) ≡ ended ending (parts path) → (slash : Bool)
        → cond slash ([] ∷ parts (path ++ ending)) (onto_first byte (parts (path ++ ending)))
        ≡ ended ending (cond slash ([] ∷ parts path) (onto_first byte (parts path)))
    by rest true = ap (λ (ps : List Text). [] ∷ ps) rest ∙ sym (below ending [] (parts path) (some_part path))
    by rest false = ap (onto_first byte) rest ∙ first_more ending byte (parts path) (some_part path)

module _ (file : FileView) (is : is_readable file.content ≡ true) where
  parts_beside : (ps names : List Text) → SayPartsIn (SaysFile Block) (ended ending ps) names file → SayPartsIn (SaysFile Block) ps names (plain file)
  unfolding ended
  parts_beside [] names says = absurd says
  parts_beside (last ∷ []) [] says = file_beside Block last file says is
  parts_beside (last ∷ []) (name ∷ names) says = absurd says
  parts_beside (folder ∷ last ∷ []) [] says = absurd says
  parts_beside (folder ∷ last ∷ []) (name ∷ names) says = (says.0, parts_beside (last ∷ []) names says.1)
  parts_beside (folder ∷ next ∷ more ∷ behind) [] says = absurd says
  parts_beside (folder ∷ next ∷ more ∷ behind) (name ∷ names) says = (says.0, parts_beside (next ∷ more ∷ behind) names says.1)

  parts_type : (ps names : List Text) → SayPartsIn (SaysFile Block) (ended ending ps) names file → (file.file_type ≡ 0x04) ⊎ (file.file_type ≡ 0xfc)
  unfolding ended
  parts_type [] names says = absurd says
  parts_type (last ∷ []) [] says = type_beside Block last file says is
  parts_type (last ∷ []) (name ∷ names) says = absurd says
  parts_type (folder ∷ last ∷ []) [] says = absurd says
  parts_type (folder ∷ last ∷ []) (name ∷ names) says = parts_type (last ∷ []) names says.1
  parts_type (folder ∷ next ∷ more ∷ behind) [] says = absurd says
  parts_type (folder ∷ next ∷ more ∷ behind) (name ∷ names) says = parts_type (next ∷ more ∷ behind) names says.1

-- what the path of a file says, where a readable form beside it says this
abbrev pub plain_path : SaidPath → SaidPath
plain_path said = record { directories = said.directories; file = plain said.file }

pub path_beside : (file_system : FileSystem) (path : Text) (said : SaidPath) → is_readable said.file.content ≡ true → SaysPath file_system (readable_path path) said
    → SaysPath file_system path (plain_path said)
path_beside Dos path said is says = (
  subst (All (λ byte. byte ≢ 47)) (take_at path ending (length path) refl) (All-take (λ byte. byte ≢ 47) (length path) (readable_path path) says.0),
  says.1,
  file_beside Sector path said.file says.2 is,
)
path_beside Prodos path said is says =
    parts_beside said.file is (parts path) said.directories
    (subst (λ (ps : List Text). SayPartsIn (SaysFile Block) ps said.directories said.file) (parts_more path) says)

pub type_of_path : (file_system : FileSystem) (path : Text) (said : SaidPath) → is_readable said.file.content ≡ true → SaysPath file_system (readable_path path) said
    → (said.file.file_type ≡ 0x04) ⊎ (said.file.file_type ≡ 0xfc)
type_of_path Dos path said is says = type_beside Sector path said.file says.2 is
type_of_path Prodos path said is says =
    parts_type said.file is (parts path) said.directories
    (subst (λ (ps : List Text). SayPartsIn (SaysFile Block) ps said.directories said.file) (parts_more path) says)
