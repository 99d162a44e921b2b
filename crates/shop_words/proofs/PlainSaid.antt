-- What the proofs of all commands' plain lists share: a job is there where each part of it is, and a part is there where its
-- word is one of those that the form takes.
use Rattle.std.proofs.Common.{◌≡◌, ℕ, refl, Bool, true, List, [], ◌∷◌, Option, Some, None, ◌&&◌, codes, is_some, length, option_map, option_and_then, arith}
use Rattle.std.proofs.lemmas.Bool.{and_parts}
use Rattle.std.specs.List.{list_all, list_any}
use Rattle.shop_jobs.specs.Input.{BesideView, ReadingView, SourceView}
use Rattle.shop_jobs.specs.Job.{AskView, TargetView}
use Rattle.shop_words.specs.Job.{ask_by, beside_by, file_system_by, file_system_meant, job_by, job_of, line_job, names_directory, order_meant, output_by, reading_by, source_by, volume_by, volume_in}
use Rattle.shop_words.specs.Plain.{IsPlainLine, Use, is_number, positional_names, value_of}
use Rattle.shop_words.specs.Table.{FormView, Text}
use Rattle.shop_words.specs.Ways.{Said, is_on}
use Rattle.shop_words.proofs.PlainUsed.{is_needed_name, named_only, needed_said, number_ensures, takes_number, takes_words, value_passes, words_ensure}

-- ---- a list of as many positional words as its form has

abbrev pub HasJobOf : FormView → List Text → Type 0
HasJobOf f positionals = (uses : List Use) → IsPlainLine f positionals uses → is_some (line_job f positionals uses) ≡ true

abbrev pub HasJob : FormView → Type 0
HasJob f = (positionals : List Text) → HasJobOf f positionals

pub of_none : (f : FormView) → length (positional_names f) ≡ 0 → HasJobOf f [] → HasJob f
of_none f many job [] uses plain = job uses plain
of_none f many job (a ∷ rest) uses plain = let same = plain.as_many in absurd (omega (arith, same, many))

pub of_one : (f : FormView) → length (positional_names f) ≡ 1 → ((a : Text) → HasJobOf f (a ∷ [])) → HasJob f
of_one f many job [] uses plain = let same = plain.as_many in absurd (omega (arith, same, many))
of_one f many job (a ∷ []) uses plain = job a uses plain
of_one f many job (a ∷ b ∷ rest) uses plain = let same = plain.as_many in absurd (omega (arith, same, many))

pub of_two : (f : FormView) → length (positional_names f) ≡ 2 → ((a b : Text) → HasJobOf f (a ∷ b ∷ [])) → HasJob f
of_two f many job [] uses plain = let same = plain.as_many in absurd (omega (arith, same, many))
of_two f many job (a ∷ []) uses plain = let same = plain.as_many in absurd (omega (arith, same, many))
of_two f many job (a ∷ b ∷ []) uses plain = job a b uses plain
of_two f many job (a ∷ b ∷ c ∷ rest) uses plain = let same = plain.as_many in absurd (omega (arith, same, many))

pub of_three : (f : FormView) → length (positional_names f) ≡ 3 → ((a b c : Text) → HasJobOf f (a ∷ b ∷ c ∷ [])) → HasJob f
of_three f many job [] uses plain = let same = plain.as_many in absurd (omega (arith, same, many))
of_three f many job (a ∷ []) uses plain = let same = plain.as_many in absurd (omega (arith, same, many))
of_three f many job (a ∷ b ∷ []) uses plain = let same = plain.as_many in absurd (omega (arith, same, many))
of_three f many job (a ∷ b ∷ c ∷ []) uses plain = job a b c uses plain
of_three f many job (a ∷ b ∷ c ∷ d ∷ rest) uses plain = let same = plain.as_many in absurd (omega (arith, same, many))

-- ---- what is there where its parts are

pub one : {X Z : Type 0} (a : Option X) (made : Option X → Option Z) → ((x : X) → is_some (made (Some x)) ≡ true)
    → is_some a ≡ true → is_some (made a) ≡ true
one None made each p = cc
one (Some x) made each p = each x

pub both : {X Y Z : Type 0} (a : Option X) (b : Option Y) (made : Option X → Option Y → Option Z)
    → ((x : X) (y : Y) → is_some (made (Some x) (Some y)) ≡ true) → is_some a ≡ true → is_some b ≡ true → is_some (made a b) ≡ true
both None b made each p q = cc
both (Some x) None made each p q = cc
both (Some x) (Some y) made each p q = each x y

pub three : {X Y V Z : Type 0} (a : Option X) (b : Option Y) (c : Option V) (made : Option X → Option Y → Option V → Option Z)
    → ((x : X) (y : Y) (v : V) → is_some (made (Some x) (Some y) (Some v)) ≡ true)
    → is_some a ≡ true → is_some b ≡ true → is_some c ≡ true → is_some (made a b c) ≡ true
three None b c made each p q r = cc
three (Some x) None c made each p q r = cc
three (Some x) (Some y) None made each p q r = cc
three (Some x) (Some y) (Some v) made each p q r = each x y v

pub mapped_there : {X Y : Type 0} (f : X → Y) (o : Option X) → is_some o ≡ true → is_some (option_map f o) ≡ true
mapped_there f None p = cc
mapped_there f (Some x) p = refl

-- a job, where each part of it is there
parts_there : (image : Option SourceView) (reading : Option ReadingView) (beside : Option BesideView) (ask : Option AskView) (output : Option TargetView)
    (certificate : Option Text) → is_some image ≡ true → is_some reading ≡ true → is_some beside ≡ true → is_some ask ≡ true → is_some output ≡ true
    → is_some (job_of image reading beside ask output certificate) ≡ true
parts_there None reading beside ask output certificate p q r s t = cc
parts_there (Some i) None beside ask output certificate p q r s t = cc
parts_there (Some i) (Some v) None ask output certificate p q r s t = cc
parts_there (Some i) (Some v) (Some b) None output certificate p q r s t = cc
parts_there (Some i) (Some v) (Some b) (Some a) None certificate p q r s t = cc
parts_there (Some i) (Some v) (Some b) (Some a) (Some o) certificate p q r s t = refl

pub job_there : (f : FormView) (said : Said) → is_some (source_by f.verb said) ≡ true → is_some (reading_by f.verb f.reading said) ≡ true
    → is_some (beside_by f.verb f.reading said) ≡ true → is_some (ask_by f.verb said) ≡ true → is_some (output_by f.verb said) ≡ true
    → is_some (job_by f said) ≡ true
job_there f said = parts_there (source_by f.verb said) (reading_by f.verb f.reading said) (beside_by f.verb f.reading said) (ask_by f.verb said)
    (output_by f.verb said) (said (codes "cert"))

-- what is said or not is read
pub read_there : {X : Type 0} (read : Option Text → Option X) (said : Option Text) → is_some (read None) ≡ true
    → ((v : Text) → said ≡ Some v → is_some (read (Some v)) ≡ true) → is_some (read said) ≡ true
read_there read None none some = none
read_there read (Some v) none some = some v refl

-- ---- of a plain list

module _ (f : FormView) (positionals : List Text) (uses : List Use) (plain : IsPlainLine f positionals uses) where
  pub words_pass : (name : Text) (test : Text → Bool) → list_all (named_only name (takes_words test)) f.parameters ≡ true
      → (v : Text) → value_of name uses ≡ Some v → test v ≡ true
  words_pass name test only = value_passes f.parameters name (takes_words test) test uses refl (words_ensure test) only plain.known

  -- an option of some words, which may be left out
  pub word_there : {X : Type 0} (name : Text) (read : Option Text → Option X)
      → list_all (named_only name (takes_words (λ w. is_some (read (Some w))))) f.parameters ≡ true → is_some (read None) ≡ true
      → is_some (read (value_of name uses)) ≡ true
  word_there name read only none = read_there read (value_of name uses) none (words_pass name (λ w. is_some (read (Some w))) only)

  -- an option of a number
  pub number_there : {X : Type 0} (name : Text) (greatest : ℕ) (read : Option Text → Option X)
      → list_all (named_only name (takes_number greatest)) f.parameters ≡ true → is_some (read None) ≡ true
      → ((v : Text) → is_number greatest v ≡ true → is_some (read (Some v)) ≡ true) → is_some (read (value_of name uses)) ≡ true
  number_there name greatest read only none some = read_there read (value_of name uses) none (λ v is. some v
      (value_passes f.parameters name (takes_number greatest) (is_number greatest) uses refl (number_ensures greatest) only plain.known v is))

  -- an option that is said
  pub needed : (name : Text) → list_any (is_needed_name name) f.parameters ≡ true → (v : Text) × (value_of name uses ≡ Some v)
  needed name is = needed_said f.parameters name uses is plain.complete

  pub needed_there : {X : Type 0} (name : Text) (made : Text → X) → list_any (is_needed_name name) f.parameters ≡ true
      → is_some (option_map made (value_of name uses)) ≡ true
  needed_there name made is = let said = needed name is in rw said.1 refl

  -- an option of some words that is said
  pub needed_word : {X : Type 0} (name : Text) (named : Text → Option X) → list_any (is_needed_name name) f.parameters ≡ true
      → list_all (named_only name (takes_words (λ w. is_some (named w)))) f.parameters ≡ true
      → is_some (option_and_then named (value_of name uses)) ≡ true
  needed_word name named is only =
      let said = needed name is in
      rw said.1 (words_pass name (λ w. is_some (named w)) only said.0 said.1)

-- ---- the reading

-- the options `--fs` and `--order` of a form are needed, and each of their values says something
abbrev has_file_system_option : Bool → FormView → Bool
has_file_system_option in_directory f = list_any (is_needed_name (codes "fs")) f.parameters
    && list_all (named_only (codes "fs") (takes_words (λ w. is_some (file_system_meant in_directory w)))) f.parameters

abbrev has_order_option : FormView → Bool
has_order_option f = list_any (is_needed_name (codes "order")) f.parameters
    && list_all (named_only (codes "order") (takes_words (λ w. is_some (order_meant f.reading w)))) f.parameters

file_system_by-line : (f : FormView) (positionals : List Text) (uses : List Use) → IsPlainLine f positionals uses → (in_directory : Bool)
    → has_file_system_option in_directory f ≡ true → is_some (option_and_then (file_system_meant in_directory) (value_of (codes "fs") uses)) ≡ true
file_system_by-line f positionals uses plain in_directory has =
    let parts = and_parts (list_any (is_needed_name (codes "fs")) f.parameters) _ has in
    needed_word f positionals uses plain (codes "fs") (file_system_meant in_directory) parts.0 parts.1

pub order_by-line : (f : FormView) (positionals : List Text) (uses : List Use) → IsPlainLine f positionals uses → has_order_option f ≡ true
    → is_some (option_and_then (order_meant f.reading) (value_of (codes "order") uses)) ≡ true
order_by-line f positionals uses plain has =
    let parts = and_parts (list_any (is_needed_name (codes "order")) f.parameters) _ has in
    needed_word f positionals uses plain (codes "order") (order_meant f.reading) parts.0 parts.1

pub volume_by-line : (f : FormView) (positionals : List Text) (uses : List Use) → IsPlainLine f positionals uses → (said : Said)
    → has_file_system_option (names_directory f.verb (said (codes "into"))) f ≡ true → has_order_option f ≡ true
    → said (codes "fs") ≡ value_of (codes "fs") uses → said (codes "order") ≡ value_of (codes "order") uses
    → is_some (volume_by f.reading (file_system_by f.verb said) said) ≡ true
volume_by-line f positionals uses plain said has_fs has_order fs_said order_said =
    let in_directory = names_directory f.verb (said (codes "into")) in
    rw (fs_said, order_said) (both (option_and_then (file_system_meant in_directory) (value_of (codes "fs") uses))
    (option_and_then (order_meant f.reading) (value_of (codes "order") uses))
    (λ a b. volume_in a b (is_on (said (codes "data-disk"))) (said (codes "reserve"))) (λ x y. refl)
    (file_system_by-line f positionals uses plain in_directory has_fs) (order_by-line f positionals uses plain has_order))
