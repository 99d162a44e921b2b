-- Defaults leave what the words gave.
use Rattle.std.proofs.Common.{◌≡◌, ◌∙◌, ◌⊎◌, inl, inr, sym, ap, refl, Bool, true, false, List, [], ◌∷◌, ◌++◌, Some, cond, ◌||◌, fold, append_assoc, find}
use Rattle.std.proofs.lemmas.List.Folds.{find-append, list_any-append}
use Rattle.std.proofs.lemmas.Bool.{and_parts}
use Rattle.std.proofs.lemmas.List.{append-nil}
use Rattle.std.specs.Str.{bytes_eq}
use Rattle.std.specs.List.{list_all}
use Rattle.clap.specs.Facts.{explicit_source}
use Rattle.clap.specs.Walk.{Row, Rule, Text, has_row, with_default, default_rows, more_values, reading_by}
use Rattle.clap.specs.Takes.{is_given}
use Rattle.clap.specs.declared.parser.matches.ValueSource.TheVariants.{DefaultValue}
use Rattle.clap.specs.declared.builder.value_parser.Reading.{Reading}
use Rattle.shop_words.specs.Plain.{Use, alone, valued}
use Rattle.shop_words.proofs.PlainUses.{use_rows, at_row-missing}
use Rattle.shop_words.proofs.PlainLine.{positional_rows}

is_either : (b : Bool) → (b ≡ true) ⊎ (b ≡ false)
is_either true = inl refl
is_either false = inr refl

default_rows-adds : (id : Text) (how : Reading) (values : List Text) (rows : List Row) → has_row id rows ≡ false
    → (more : List Row) × (default_rows id how values rows ≡ rows ++ more)
default_rows-adds id how [] rows e = ([], sym (append-nil rows))
default_rows-adds id how (v ∷ vs) rows e = (_, at_row-missing id (more_values DefaultValue (v ∷ vs)) _ rows e)

with_default-adds : (rows : List Row) (a : Rule) → (more : List Row) × (with_default rows a ≡ rows ++ more)
with_default-adds rows a = elim (is_either (has_row a.id rows)) [
  | inl e ↦ ([], rw e (sym (append-nil rows)))
  | inr e ↦ let adds = default_rows-adds a.id (reading_by a) a.defaults rows e in (adds.0, rw e adds.1)
]

pub defaults_add : (c : List Rule) (rows : List Row) → (more : List Row) × (fold with_default rows c ≡ rows ++ more)
defaults_add [] rows = ([], sym (append-nil rows))
defaults_add (a ∷ c) rows =
    let one = with_default-adds rows a in
    let rest = defaults_add c (rows ++ one.0) in
    (one.0 ++ rest.0, ap (λ (r : List Row). fold with_default r c) one.1 ∙ rest.1 ∙ append_assoc rows one.0 rest.0)

pub find_some-append : (p : Row → Bool) (rows more : List Row) (r : Row) → find p rows ≡ Some r → find p (rows ++ more) ≡ Some r
find_some-append p rows more r e = find-append p rows more ∙ rw e refl

-- every row is of the words
abbrev pub all_given : List Row → Bool
all_given rows = list_all (λ r. explicit_source r.source) rows

abbrev Given : Text → List Row → Type 0
Given id rows = (r : Row) × (find (λ x. bytes_eq x.id id) rows ≡ Some r) × (explicit_source r.source ≡ true)

pub find_given : (id : Text) (rows : List Row) → has_row id rows ≡ true → all_given rows ≡ true → Given id rows
find_given id [] e all = cc
find_given id (x ∷ rows) e all =
    let parts = and_parts (explicit_source x.source) (all_given rows) all in
    by_test (bytes_eq x.id id) (λ later. find_given id rows later parts.1) parts.0 e where
      by_test : (b : Bool) → (has_row id rows ≡ true → Given id rows) → explicit_source x.source ≡ true → (b || has_row id rows) ≡ true
          → (r : Row) × (cond b (Some x) (find (λ y. bytes_eq y.id id) rows) ≡ Some r) × (explicit_source r.source ≡ true)
      by_test true later given e = (x, refl, given)
      by_test false later given e = later e

-- what the words gave is there among the defaults
pub is_given-finished : (id : Text) (rows : List Row) (c : List Rule) → has_row id rows ≡ true → all_given rows ≡ true
    → is_given id (fold with_default rows c) ≡ true
is_given-finished id rows c e all =
    let found = find_given id rows e all in
    let adds = defaults_add c rows in
    rw (adds.1, find_some-append (λ x. bytes_eq x.id id) rows adds.0 found.0 found.1) found.2

pub all_given-append : (xs ys : List Row) → all_given xs ≡ true → all_given ys ≡ true → all_given (xs ++ ys) ≡ true
all_given-append [] ys p q = q
all_given-append (x ∷ xs) ys p q =
    let parts = and_parts (explicit_source x.source) (all_given xs) p in rw (parts.0, all_given-append xs ys parts.1 q) refl

pub all_given-uses : (uses : List Use) → all_given (use_rows uses) ≡ true
all_given-uses [] = refl
all_given-uses (alone name ∷ us) = all_given-uses us
all_given-uses (valued name value ∷ us) = all_given-uses us

pub all_given-positionals : (names values : List Text) → all_given (positional_rows names values) ≡ true
all_given-positionals [] vs = refl
all_given-positionals (n ∷ ns) [] = refl
all_given-positionals (n ∷ ns) (v ∷ vs) = all_given-positionals ns vs

pub has_row-append : (id : Text) (xs ys : List Row) → has_row id (xs ++ ys) ≡ (has_row id xs || has_row id ys)
has_row-append id xs ys = list_any-append (λ r. bytes_eq r.id id) xs ys
