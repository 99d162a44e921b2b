-- What a plain list says under the name of an option that it has.
use Rattle.std.proofs.Common.{◌≡◌, ◌∙◌, ℕ, ◌<◌, sym, ap, subst, refl, Bool, true, false, List, [], ◌∷◌, Some, None, codes, cond, ◌||◌, ◌&&◌, ◌==◌, map, not, length, find, All, Contains, arith, eqb-true, is_some, option_map, slice_index_or, zero, suc}
use Rattle.std.proofs.lemmas.Bool.{and_parts}
use Rattle.std.proofs.lemmas.List.Elements.{All-contains, All-head, All-tail}
use Rattle.std.proofs.lemmas.List.Sums.{AllPass-from_list_all}
use Rattle.std.proofs.lemmas.Slice.Eq.{bytes_eq-Decides}
use Rattle.std.specs.List.{list_all, list_any}
use Rattle.std.specs.Str.{bytes_eq}
use Rattle.shop_words.specs.Table.{Text, ValuesView, address, between, one_of, number, short, KindView, positional, needed, way, optional, flag, parameter, ParameterView}
use Rattle.shop_words.specs.Plain.{Use, address_named, alone, valued, use_name, is_between, is_needed, is_number, is_short, IsOfValues, IsUseOf, TakesValue, use_value, value_of}
use Rattle.shop_words.specs.Ways.{is_on}

-- a test of an option's kind
abbrev pub KindTest : Type 0
KindTest = KindView → Bool

-- each value of a kind that passes one test passes the other
abbrev pub Ensures : KindTest → (Text → Bool) → Type 0
Ensures only test = (k : KindView) (value : Text) → only k ≡ true → TakesValue k value → test value ≡ true

-- a test of the values that an option takes
abbrev pub ValuesTest : Type 0
ValuesTest = ValuesView → Bool

abbrev pub option_test : ValuesTest → KindTest
option_test only (needed values) = only values
option_test only (way values) = only values
option_test only (optional values) = only values
option_test only _ = false

abbrev words_only : (Text → Bool) → ValuesTest
words_only test (one_of words) = list_all test words
words_only test _ = false

abbrev number_only : ℕ → ValuesTest
number_only greatest (number n) = n == greatest
number_only greatest _ = false

abbrev between_only : ℕ → ℕ → ValuesTest
between_only least greatest (between n m) = n == least && m == greatest
between_only least greatest _ = false

abbrev address_only : ValuesTest
address_only address = true
address_only _ = false

abbrev short_only : ℕ → ValuesTest
short_only most (short n) = n == most
short_only most _ = false

-- the option takes some of these words, or a number up to the greatest
abbrev pub takes_words : (Text → Bool) → KindTest
takes_words test = option_test (words_only test)

abbrev pub takes_number : ℕ → KindTest
takes_number greatest = option_test (number_only greatest)

abbrev pub takes_between : ℕ → ℕ → KindTest
takes_between least greatest = option_test (between_only least greatest)

abbrev pub takes_address : KindTest
takes_address = option_test address_only

abbrev pub takes_short : ℕ → KindTest
takes_short most = option_test (short_only most)

-- what has the name is an option whose kind passes the test
abbrev pub named_only : Text → KindTest → ParameterView → Bool
named_only name only p = not (bytes_eq p.name name) || only p.kind

-- a use passes the test, as an option with a value that does
abbrev UsePasses : (Text → Bool) → Use → Type 0
UsePasses test u = test (use_value u) ≡ true

option_ensures : (only : ValuesTest) (test : Text → Bool)
    → ((values : ValuesView) (value : Text) → only values ≡ true → IsOfValues values value → test value ≡ true)
    → Ensures (option_test only) test
option_ensures only test each positional value passes takes = absurd takes
option_ensures only test each (needed values) value passes takes = each values value passes takes
option_ensures only test each (way values) value passes takes = each values value passes takes
option_ensures only test each (optional values) value passes takes = each values value passes takes
option_ensures only test each flag value passes takes = absurd takes

pub words_ensure : (test : Text → Bool) → Ensures (takes_words test) test
words_ensure test = option_ensures (words_only test) test each where
  each : (values : ValuesView) (value : Text) → words_only test values ≡ true → IsOfValues values value → test value ≡ true
  each (one_of words) value passes takes =
      All-contains (λ w. test w ≡ true) words value (AllPass-from_list_all test words passes) takes
  each _ value passes takes = cc

pub number_ensures : (greatest : ℕ) → Ensures (takes_number greatest) (is_number greatest)
number_ensures greatest = option_ensures (number_only greatest) (is_number greatest) each where
  each : (values : ValuesView) (value : Text) → number_only greatest values ≡ true → IsOfValues values value → is_number greatest value ≡ true
  each (number n) value passes takes = subst (λ m. is_number m value ≡ true) (eqb-true n greatest passes) takes
  each _ value passes takes = cc

pub between_ensures : (least greatest : ℕ) → Ensures (takes_between least greatest) (is_between least greatest)
between_ensures least greatest = option_ensures (between_only least greatest) (is_between least greatest) each where
  each : (values : ValuesView) (value : Text) → between_only least greatest values ≡ true → IsOfValues values value
      → is_between least greatest value ≡ true
  each (between n m) value passes takes =
      let same = and_parts (n == least) (m == greatest) passes in
      subst (λ k. is_between k greatest value ≡ true) (eqb-true n least same.0)
      (subst (λ k. is_between n k value ≡ true) (eqb-true m greatest same.1) takes)
  each _ value passes takes = cc

abbrev pub names_address : Text → Bool
names_address word = is_some (address_named word)

pub address_ensures : Ensures takes_address names_address
address_ensures = option_ensures address_only names_address each where
  each : (values : ValuesView) (value : Text) → address_only values ≡ true → IsOfValues values value → names_address value ≡ true
  each address value passes takes = takes
  each _ value passes takes = cc

pub short_ensures : (most : ℕ) → Ensures (takes_short most) (is_short most)
short_ensures most = option_ensures (short_only most) (is_short most) each where
  each : (values : ValuesView) (value : Text) → short_only most values ≡ true → IsOfValues values value → is_short most value ≡ true
  each (short m) value passes takes = subst (λ n. is_short n value ≡ true) (eqb-true m most passes) takes
  each _ value passes takes = cc

where_named : (b c : Bool) → (not b || c) ≡ true → b ≡ true → c ≡ true
where_named true c passes is = passes
where_named false c passes is = cc

-- a flag, and nothing with a value
abbrev pub is_flag : KindTest
is_flag flag = true
is_flag _ = false

flags_ensure : (test : Text → Bool) → Ensures is_flag test
flags_ensure test flag value only takes = absurd takes
flags_ensure test _ value only takes = cc

-- what a flag says passes the test, where a flag does
abbrev PassesFlag : KindTest → (Text → Bool) → Type 0
PassesFlag only test = only flag ≡ true → test (codes "true") ≡ true

-- a use of the name passes the test
use_passes-named : (ps : List ParameterView) (name : Text) (only : KindTest) (test : Text → Bool) (u : Use) → PassesFlag only test → Ensures only test
    → list_all (named_only name only) ps ≡ true → IsUseOf ps u → use_name u ≡ name → UsePasses test u
use_passes-named ps name only test (alone n) flagged ensured named fits same =
    let at : named_only name only (parameter n flag) ≡ true =
    All-contains (λ p. named_only name only p ≡ true) ps (parameter n flag) (AllPass-from_list_all (named_only name only) ps named) fits in
    flagged (where_named (bytes_eq n name) (only flag) at ((bytes_eq-Decides n name).1 same))
use_passes-named ps name only test (valued n value) flagged ensured named fits same =
    let p = fits.0.1 in
    let at : named_only name only p ≡ true =
    All-contains (λ q. named_only name only q ≡ true) ps p (AllPass-from_list_all (named_only name only) ps named) (fits.0.0, fits.0.2, fits.0.3) in
    ensured p.kind value (where_named (bytes_eq p.name name) _ at ((bytes_eq-Decides p.name name).1 (fits.0.4.0 ∙ same))) fits.0.4.1

-- a name that is not the first of the list is later in it
contained_later : (first name : Text) (names : List Text) (k : ℕ) → k < length (first ∷ names) → slice_index_or (first ∷ names) k name ≡ name
    → bytes_eq first name ≡ false → Contains names name
contained_later first name names zero lt at other = let never : true ≡ false = sym ((bytes_eq-Decides first name).1 at) ∙ other in cc
contained_later first name names (suc k) lt at other = (k, omega (arith, lt), at)

contains_more : (first name : Text) (names : List Text) → Contains names name → Contains (first ∷ names) name
contains_more first name names at = (suc at.0, omega (arith, at.1), at.2)

-- what a name says passes the test
said_passes : (ps : List ParameterView) (name : Text) (only : KindTest) (test : Text → Bool) (uses : List Use) → PassesFlag only test → Ensures only test
    → list_all (named_only name only) ps ≡ true → All (IsUseOf ps) uses → (v : Text) → value_of name uses ≡ Some v → test v ≡ true
said_passes ps name only test [] flagged ensured named known v said = cc
said_passes ps name only test (u ∷ us) flagged ensured named known v said =
    by_test (bytes_eq (use_name u) name) refl
    (said_passes ps name only test us flagged ensured named (All-tail (IsUseOf ps) u us known) v) said where
      by_test : (b : Bool) → bytes_eq (use_name u) name ≡ b → (value_of name us ≡ Some v → test v ≡ true)
          → option_map use_value (cond b (Some u) (find (λ x. bytes_eq (use_name x) name) us)) ≡ Some v → test v ≡ true
      by_test true same later is =
          let value : use_value u ≡ v = cc in
          ap test (sym value) ∙ use_passes-named ps name only test u flagged ensured named (All-head (IsUseOf ps) u us known) ((bytes_eq-Decides (use_name u) name).0 same)
      by_test false other later is = later is

-- an option's value passes the test
pub value_passes : (ps : List ParameterView) (name : Text) (only : KindTest) (test : Text → Bool) (uses : List Use) → only flag ≡ false → Ensures only test
    → list_all (named_only name only) ps ≡ true → All (IsUseOf ps) uses → (v : Text) → value_of name uses ≡ Some v → test v ≡ true
value_passes ps name only test uses no_flag = said_passes ps name only test uses (λ is. cc)

-- a flag says `true`
pub flag_says : (ps : List ParameterView) (name : Text) (uses : List Use) → list_all (named_only name is_flag) ps ≡ true → All (IsUseOf ps) uses
    → (v : Text) → value_of name uses ≡ Some v → is_on (Some v) ≡ true
flag_says ps name uses = said_passes ps name is_flag (λ v. is_on (Some v)) uses (λ is. refl) (flags_ensure (λ v. is_on (Some v)))

-- a name that is used says something
pub value_said : (name : Text) (uses : List Use) → Contains (map use_name uses) name → (v : Text) × (value_of name uses ≡ Some v)
value_said name [] at = let lt = at.1 in absurd (omega (arith, lt))
value_said name (u ∷ us) at =
    by_test (bytes_eq (use_name u) name) refl
    (λ other. value_said name us (contained_later (use_name u) name (map use_name us) at.0 at.1 at.2 other)) where
      by_test : (b : Bool) → bytes_eq (use_name u) name ≡ b
          → (bytes_eq (use_name u) name ≡ false → (v : Text) × (value_of name us ≡ Some v))
          → (v : Text) × (value_of name (u ∷ us) ≡ Some v)
      by_test true same later = (use_value u, rw same refl)
      by_test false other later = let rest = later other in (rest.0, rw other rest.1)

-- a name that is not used says nothing
pub nothing_said : (name : Text) (uses : List Use) → ¬ Contains (map use_name uses) name → value_of name uses ≡ None
nothing_said name [] unused = refl
nothing_said name (u ∷ us) unused =
    by_test (bytes_eq (use_name u) name) refl (nothing_said name us (λ at. unused (contains_more (use_name u) name (map use_name us) at))) where
      by_test : (b : Bool) → bytes_eq (use_name u) name ≡ b → value_of name us ≡ None → value_of name (u ∷ us) ≡ None
      by_test true same later = absurd (unused (0, omega arith, (bytes_eq-Decides (use_name u) name).0 same))
      by_test false other later = rw other later

-- a name that says `true` is used
pub use_said : (name : Text) (uses : List Use) → is_on (value_of name uses) ≡ true → Contains (map use_name uses) name
use_said name [] on = absurd (cc)
use_said name (u ∷ us) on = by_test (bytes_eq (use_name u) name) refl (use_said name us) on
  where
    by_test : (b : Bool) → bytes_eq (use_name u) name ≡ b → (is_on (value_of name us) ≡ true → Contains (map use_name us) name)
        → is_on (option_map use_value (cond b (Some u) (find (λ x. bytes_eq (use_name x) name) us))) ≡ true
        → Contains (map use_name (u ∷ us)) name
    by_test true same later on = (0, omega arith, (bytes_eq-Decides (use_name u) name).0 same)
    by_test false other later on = contains_more (use_name u) name (map use_name us) (later on)

-- ---- the options of a form

-- a plain list says it
abbrev pub is_needed_name : Text → ParameterView → Bool
is_needed_name name p = is_needed p.kind && bytes_eq p.name name

pub needed_said : (ps : List ParameterView) (name : Text) (uses : List Use) → list_any (is_needed_name name) ps ≡ true
    → All (λ p. is_needed p.kind ≡ true → Contains (map use_name uses) p.name) ps → (v : Text) × (value_of name uses ≡ Some v)
needed_said [] name uses e complete = cc
needed_said (p ∷ ps) name uses e complete =
    let Used : ParameterView → Type 0 = λ q. is_needed q.kind ≡ true → Contains (map use_name uses) q.name in
    by_test (is_needed p.kind) (bytes_eq p.name name) refl (All-head Used p ps complete)
    (λ later. needed_said ps name uses later (All-tail Used p ps complete)) e where
      by_test : (needs same : Bool) → bytes_eq p.name name ≡ same → (needs ≡ true → Contains (map use_name uses) p.name)
          → (list_any (is_needed_name name) ps ≡ true → (v : Text) × (value_of name uses ≡ Some v))
          → ((needs && same) || list_any (is_needed_name name) ps) ≡ true → (v : Text) × (value_of name uses ≡ Some v)
      by_test true true is used later at =
          subst (λ (n : Text). (v : Text) × (value_of n uses ≡ Some v)) ((bytes_eq-Decides p.name name).0 is) (value_said p.name uses (used refl))
      by_test true false is used later at = later at
      by_test false same is used later at = later at
