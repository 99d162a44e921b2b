-- What the rows of a plain list say of a name.
use Rattle.std.proofs.Common.{◌≡◌, ◌∙◌, sym, ap, refl, Bool, true, false, List, [], ◌∷◌, ◌++◌, Option, Some, None, cond, ◌||◌, fold, not, find, option_map, option_and_then, slice_get, is_some, if◌then◌else◌}
use Rattle.std.proofs.lemmas.Bool.{and_parts, not-true}
use Rattle.std.specs.Str.{bytes_eq}
use Rattle.std.specs.List.{list_all}
use Rattle.clap.specs.Walk.{Row, Rule, Text, first_of, has_row, with_default, default_rows, more_values, reading_by}
use Rattle.clap.specs.declared.parser.matches.ValueSource.TheVariants.{DefaultValue}
use Rattle.shop_words.specs.Plain.{Use, alone, valued, use_name, use_value, value_of}
use Rattle.shop_words.proofs.PlainUses.{use_row, use_rows, text_row, at_row-missing}
use Rattle.shop_words.proofs.PlainGiven.{find_some-append, defaults_add}
use Rattle.shop_words.proofs.PlainLine.{positional_rows}
use Rattle.shop_words.specs.Job.{positional_said}

-- the rows say v of the name, and the defaults leave it
pub record Says (id : Text) (rows : List Row) (v : Text) : Type 0 where
  pub row : Row
  pub found : find (λ r. bytes_eq r.id id) rows ≡ Some row
  pub values : row.values ≡ v ∷ []

pub first_of-says : (id : Text) (rows : List Row) (v : Text) → Says id rows v → first_of id rows ≡ Some v
first_of-says id rows v says = rw (says.found, says.values) refl

pub says-finished : (id : Text) (rows : List Row) (v : Text) (c : List Rule) → Says id rows v → Says id (fold with_default rows c) v
says-finished id rows v c says =
    let adds = defaults_add c rows in
    record { row = says.row; found = rw adds.1 (find_some-append (λ r. bytes_eq r.id id) rows adds.0 says.row says.found); values = says.values }

pub says-use : (id : Text) (uses : List Use) (v : Text) → value_of id uses ≡ Some v → Says id (use_rows uses) v
says-use id [] v e = cc
says-use id (u ∷ us) v e = by_test (bytes_eq (use_name u) id) (row_of u) (says-use id us v) e where
  -- the row of a use has its name and says its value
  row_of : (x : Use) → (bytes_eq (use_row x).id id ≡ bytes_eq (use_name x) id) × ((use_row x).values ≡ use_value x ∷ [])
  row_of (alone name) = (refl, refl)
  row_of (valued name value) = (refl, refl)

  by_test : (b : Bool) → (bytes_eq (use_row u).id id ≡ b) × ((use_row u).values ≡ use_value u ∷ [])
      → (value_of id us ≡ Some v → Says id (use_rows us) v)
      → option_map use_value (cond b (Some u) (find (λ x. bytes_eq (use_name x) id) us)) ≡ Some v → Says id (use_rows (u ∷ us)) v
  by_test true row later e =
      let same : use_value u ≡ v = cc in
      record { row = use_row u; found = rw row.0 refl; values = row.1 ∙ ap (λ x. x ∷ []) same }
  by_test false row later e =
      let rest = later e in record { row = rest.row; found = rw row.0 rest.found; values = rest.values }

-- a test that `None` does not pass
abbrev pub Test : Type 0
Test = Option Text → Bool

-- the defaults do not pass the test
abbrev pub is_off : Test → List Text → Bool
is_off q [] = true
is_off q (v ∷ vs) = not (q (Some v))

abbrev pub leaves_off : Test → Text → Rule → Bool
leaves_off q id a = not (bytes_eq a.id id) || is_off q a.defaults

off-append : (q : Test) → q None ≡ false → (id : Text) (rows : List Row) (r : Row) (v : Text) (vs : List Text) → r.values ≡ v ∷ vs
    → (not (bytes_eq r.id id) || not (q (Some v))) ≡ true
    → q (first_of id rows) ≡ false → q (first_of id (rows ++ r ∷ [])) ≡ false
off-append q none id [] r v vs values off e = by_test (bytes_eq r.id id) off where
  by_test : (b : Bool) → (not b || not (q (Some v))) ≡ true
      → q (option_and_then (λ x. slice_get x.values 0) (cond b (Some r) None)) ≡ false
  by_test true h = rw values (not-true (q (Some v)) h)
  by_test false h = none
off-append q none id (x ∷ rows) r v vs values off e = by_test (bytes_eq x.id id) (off-append q none id rows r v vs values off) e where
  by_test : (b : Bool) → (q (first_of id rows) ≡ false → q (first_of id (rows ++ r ∷ [])) ≡ false)
      → q (option_and_then (λ y. slice_get y.values 0) (cond b (Some x) (find (λ y. bytes_eq y.id id) rows))) ≡ false
      → q (option_and_then (λ y. slice_get y.values 0) (cond b (Some x) (find (λ y. bytes_eq y.id id) (rows ++ r ∷ [])))) ≡ false
  by_test true later h = h
  by_test false later h = later h

off-default : (q : Test) → q None ≡ false → (id : Text) (rows : List Row) (a : Rule) → leaves_off q id a ≡ true → q (first_of id rows) ≡ false
    → q (first_of id (with_default rows a)) ≡ false
off-default q none id rows a off e = by_test (has_row a.id rows) refl where
  adds : (ds : List Text) → (not (bytes_eq a.id id) || is_off q ds) ≡ true → has_row a.id rows ≡ false
      → q (first_of id (default_rows a.id (reading_by a) ds rows)) ≡ false
  adds [] h new = e
  adds (v ∷ vs) h new =
      rw (at_row-missing a.id (more_values DefaultValue (v ∷ vs)) _ rows new) (off-append q none id rows _ v vs refl h e)

  by_test : (b : Bool) → has_row a.id rows ≡ b → q (first_of id (if b then rows else default_rows a.id (reading_by a) a.defaults rows)) ≡ false
  by_test true h = e
  by_test false h = adds a.defaults off h

pub off-finished : (q : Test) → q None ≡ false → (id : Text) (rows : List Row) (c : List Rule) → list_all (leaves_off q id) c ≡ true
    → q (first_of id rows) ≡ false → q (first_of id (fold with_default rows c)) ≡ false
off-finished q none id rows [] off e = e
off-finished q none id rows (a ∷ c) off e =
    let parts = and_parts (leaves_off q id a) (list_all (leaves_off q id) c) off in
    off-finished q none id (with_default rows a) c parts.1 (off-default q none id rows a parts.0 e)

-- ---- a whole line

says-line : (names positionals : List Text) (uses : List Use) (id v : Text) → positional_said names positionals (λ x. value_of x uses) id ≡ Some v
    → Says id (positional_rows names positionals ++ use_rows uses) v
says-line [] positionals uses id v e = says-use id uses v e
says-line (n ∷ ns) [] uses id v e = says-use id uses v e
says-line (n ∷ ns) (p ∷ ps) uses id v e = by_test (bytes_eq n id) refl (says-line ns ps uses id v) e where
  by_test : (b : Bool) → bytes_eq n id ≡ b
      → (positional_said ns ps (λ x. value_of x uses) id ≡ Some v → Says id (positional_rows ns ps ++ use_rows uses) v)
      → (if b then Some p else positional_said ns ps (λ x. value_of x uses) id) ≡ Some v
      → Says id (text_row n p ∷ (positional_rows ns ps ++ use_rows uses)) v
  by_test true is later h =
      let same : p ≡ v = cc in record { row = text_row n p; found = rw is refl; values = ap (λ x. x ∷ []) same }
  by_test false is later h = let rest = later h in record { row = rest.row; found = rw is rest.found; values = rest.values }

none-uses : (uses : List Use) (id : Text) → value_of id uses ≡ None → first_of id (use_rows uses) ≡ None
none-uses [] id e = refl
none-uses (u ∷ us) id e = by_test u (bytes_eq (use_name u) id) refl (none-uses us id) e where
  by_test : (x : Use) (b : Bool) → bytes_eq (use_name x) id ≡ b → (value_of id us ≡ None → first_of id (use_rows us) ≡ None)
      → option_map use_value (cond b (Some x) (find (λ y. bytes_eq (use_name y) id) us)) ≡ None
      → first_of id (use_row x ∷ use_rows us) ≡ None
  by_test x true is later h = cc
  by_test (alone name) false is later h = rw is (later h)
  by_test (valued name value) false is later h = rw is (later h)

none-line : (names positionals : List Text) (uses : List Use) (id : Text) → positional_said names positionals (λ x. value_of x uses) id ≡ None
    → first_of id (positional_rows names positionals ++ use_rows uses) ≡ None
none-line [] positionals uses id e = none-uses uses id e
none-line (n ∷ ns) [] uses id e = none-uses uses id e
none-line (n ∷ ns) (p ∷ ps) uses id e = by_test (bytes_eq n id) refl (none-line ns ps uses id) e where
  by_test : (b : Bool) → bytes_eq n id ≡ b
      → (positional_said ns ps (λ x. value_of x uses) id ≡ None → first_of id (positional_rows ns ps ++ use_rows uses) ≡ None)
      → (if b then Some p else positional_said ns ps (λ x. value_of x uses) id) ≡ None
      → first_of id (text_row n p ∷ (positional_rows ns ps ++ use_rows uses)) ≡ None
  by_test true is later h = cc
  by_test false is later h = rw is (later h)

is_none : (o : Option Text) → is_some o ≡ false → o ≡ None
is_none None h = refl
is_none (Some x) h = cc

-- an option has what the line says
pub option_same : (names positionals : List Text) (uses : List Use) (c : List Rule) (id : Text) → list_all (leaves_off is_some id) c ≡ true
    → first_of id (fold with_default (positional_rows names positionals ++ use_rows uses) c) ≡ positional_said names positionals (λ x. value_of x uses) id
option_same names positionals uses c id off = by_value (positional_said names positionals (λ x. value_of x uses) id) refl where
  by_value : (o : Option Text) → positional_said names positionals (λ x. value_of x uses) id ≡ o
      → first_of id (fold with_default (positional_rows names positionals ++ use_rows uses) c) ≡ o
  by_value (Some v) e = first_of-says id _ v (says-finished id _ v c (says-line names positionals uses id v e))
  by_value None e = is_none _ (off-finished is_some refl id _ c off (ap is_some (none-line names positionals uses id e)))

-- a test says the same of both
pub test_same : (q : Test) → q None ≡ false → (names positionals : List Text) (uses : List Use) (c : List Rule) (id : Text)
    → list_all (leaves_off q id) c ≡ true
    → q (first_of id (fold with_default (positional_rows names positionals ++ use_rows uses) c)) ≡ q (positional_said names positionals (λ x. value_of x uses) id)
test_same q none names positionals uses c id off = by_value (positional_said names positionals (λ x. value_of x uses) id) refl where
  by_value : (o : Option Text) → positional_said names positionals (λ x. value_of x uses) id ≡ o
      → q (first_of id (fold with_default (positional_rows names positionals ++ use_rows uses) c)) ≡ q o
  by_value (Some v) e = ap q (first_of-says id _ v (says-finished id _ v c (says-line names positionals uses id v e)))
  by_value None e = off-finished q none id _ c off (ap q (none-line names positionals uses id e) ∙ none) ∙ sym none
