-- What clap has to know of a form, so that it takes each of the form's plain lists.
use Rattle.std.proofs.Common.{◌≡◌, ◌∙◌, ℕ, ◌+◌, sym, ap, ap₂, refl, subst, Bool, true, false, List, [], ◌∷◌, ◌++◌, Some, ◌||◌, fold, map, append_assoc, not, find, length, All, Any, Contains, arith, unwrap_or, min}
use Rattle.std.proofs.lemmas.Bool.{and_from, and_parts, or_right, not-true, or_from}
use Rattle.std.proofs.lemmas.List.Elements.{All-contains, All-head, All-tail, All-cons}
use Rattle.std.proofs.lemmas.List.{append-nil, map-append}
use Rattle.std.proofs.lemmas.List.Folds.{list_any-append}
use Rattle.std.proofs.lemmas.List.Sums.{AllPass-from_list_all, list_all-from_AllPass}
use Rattle.std.specs.Str.{bytes_eq}
use Rattle.std.specs.List.{IsDistinct, list_any, list_all}
use Rattle.clap.specs.Lexer.{usize_max}
use Rattle.clap.specs.Walk.{Names, Row, Rule, Text, Walk, answers_to, arg_by_id, arg_by_index, has_row, nothing_held, walk_from, walked, with_default}
use Rattle.clap.specs.Simple.{Shape, built, label_of, names_of, new_shape}
use Rattle.clap.specs.Takes.{default_passes, is_valid, level_passes, turn_passes, is_given}
use Rattle.shop_words.specs.Table.{KindView, positional, needed, way, optional, flag, parameter, ParameterView, FormView}
use Rattle.shop_words.specs.Plain.{Use, alone, valued, use_name, all_use_words, is_plain_word, is_positional, is_needed, IsPlainLine, IsUseOf, TakesValue, positional_names}
use Rattle.shop_words.proofs.Shop.{whole}
use Rattle.shop_words.proofs.PlainWalk.{HasOption, HasFlag, positional_built}
use Rattle.shop_words.proofs.PlainUses.{FitsUse, FitUses, Walks, text_row, use_row, use_rows}
use Rattle.shop_words.proofs.PlainLine.{FitPositionals, positional_rows, walks_line, level_passes-line}
use Rattle.shop_words.proofs.PlainGiven.{is_given-finished, all_given, all_given-append, all_given-uses, all_given-positionals, has_row-append}
use Rattle.shop_words.proofs.PlainNames.{has_row-ids, has_row-positional_rows, has_row-use_rows, id-use_row, ids-positional_rows, none_before}

-- the built command of a name
abbrev pub shape_named : Text → Shape
shape_named name = unwrap_or (find (λ s. answers_to name (label_of s)) (built whole).subs) (new_shape name)

abbrev pub top_rules : List Rule
top_rules = (built whole).top.rules

abbrev pub top_names : Names
top_names = names_of (built whole)

-- the walk of the program's own words, once it met the command
abbrev pub stopped_at : Text → List Text → Walk
stopped_at name words = record (walk_from nothing_held) { stopped = Some (name, words) }

abbrev pub KnowsKind : Shape → KindView → Text → Type 0
KnowsKind s positional name = Unit {0}
KnowsKind s (needed values) name = HasOption s.rules true name
KnowsKind s (way values) name = HasOption s.rules false name
KnowsKind s (optional values) name = HasOption s.rules false name
KnowsKind s flag name = HasFlag s.rules name

abbrev pub Knows : Shape → ParameterView → Type 0
Knows s p = KnowsKind s p.kind p.name

abbrev pub KnowsAll : Shape → List ParameterView → Type 0
KnowsAll s [] = Unit {0}
KnowsAll s (p ∷ ps) = Knows s p × KnowsAll s ps

all_known : (s : Shape) (ps : List ParameterView) → KnowsAll s ps → All (Knows s) ps
all_known s [] know = λ k d lt. absurd (omega arith)
all_known s (p ∷ ps) know = All-cons (Knows s) p ps know.0 (all_known s ps know.1)

-- the positional words of the command, from the i-th on, after those of the names `met`
abbrev pub KnowsPositionals : Shape → ℕ → List Text → List Text → Type 0
KnowsPositionals s i met [] = Unit {0}
KnowsPositionals s i met (n ∷ ns) = (arg_by_index s.rules i ≡ Some (positional_built i n)) × (arg_by_id s.rules n ≡ Some (positional_built i n))
    × (list_any (λ m. bytes_eq m n) met ≡ false) × KnowsPositionals s (min (i + 1) usize_max) (met ++ n ∷ []) ns

abbrev pub is_omittable : KindView → Bool
is_omittable positional = false
is_omittable (needed values) = false
is_omittable _ = true

-- what may not be left out is given
abbrev pub is_complete : List ParameterView → List Row → Bool
is_complete parameters rows = list_all (λ p. is_omittable p.kind || is_given p.name rows) parameters

-- a flag or an option has no name of a positional word
abbrev pub is_apart : List Text → ParameterView → Bool
is_apart names p = is_positional p.kind || not (list_any (λ n. bytes_eq n p.name) names)

-- the built command s is that of the form, as far as the walk asks
pub record IsKnown (f : FormView) (s : Shape) : Type 0 where
  pub named : find (λ x. answers_to f.name (label_of x)) (built whole).subs ≡ Some s
  pub met : walked top_rules top_names (walk_from nothing_held) f.name ≡ stopped_at f.name []
  pub first : turn_passes (built whole).top top_names (walk_from nothing_held) f.name ≡ true
  pub parameters : KnowsAll s f.parameters
  pub positionals : KnowsPositionals s 1 [] (positional_names f)
  pub positional_parameters : list_all (λ p. not (is_positional p.kind) || list_any (λ n. bytes_eq n p.name) (positional_names f)) f.parameters ≡ true
  pub apart : list_all (is_apart (positional_names f)) f.parameters ≡ true
  pub defaults : list_all default_passes s.rules ≡ true
  pub valid : (rows : List Row) → is_complete f.parameters rows ≡ true → is_valid s rows false ≡ true

-- ---- from a plain line to what the walk asks

fit_positionals : (s : Shape) (i : ℕ) (met names values : List Text) (rows : List Row) → KnowsPositionals s i met names → map (λ r. r.id) rows ≡ met
    → length values ≡ length names → list_all is_plain_word values ≡ true → FitPositionals s i rows names values
fit_positionals s i met [] [] rows know ids same plain = tt
fit_positionals s i met [] (v ∷ vs) rows know ids same plain = absurd (omega (arith, same))
fit_positionals s i met (n ∷ ns) [] rows know ids same plain = absurd (omega (arith, same))
fit_positionals s i met (n ∷ ns) (v ∷ vs) rows know ids same plain =
    let parts = and_parts (is_plain_word v) (list_all is_plain_word vs) plain in
    let more : map (λ (r : Row). r.id) (rows ++ text_row n v ∷ []) ≡ met ++ n ∷ [] = map-append (λ (r : Row). r.id) rows (text_row n v ∷ []) ∙ ap (λ ms. ms ++ n ∷ []) ids in (
      know.0,
      know.1,
      rw (has_row-ids n rows, ids) know.2,
      parts.0,
      fit_positionals s (min (i + 1) usize_max) (met ++ n ∷ []) ns vs (rows ++ text_row n v ∷ []) know.3 more (omega (arith, same)) parts.1,
    )

flag_known : (s : Shape) (ps : List ParameterView) (name : Text) → KnowsAll s ps → Contains ps (parameter name flag) → HasFlag s.rules name
flag_known s ps name know at = subst (Knows s) at.2 (all_known s ps know at.0 (parameter name flag) at.1)

option_of_kind : (s : Shape) (k : KindView) (name value : Text) → KnowsKind s k name → TakesValue k value → (required : Bool) × HasOption s.rules required name
option_of_kind s positional name value know takes = absurd takes
option_of_kind s (needed values) name value know takes = (true, know)
option_of_kind s (way values) name value know takes = (false, know)
option_of_kind s (optional values) name value know takes = (false, know)
option_of_kind s flag name value know takes = absurd takes

option_known : (s : Shape) (ps : List ParameterView) (name value : Text) → KnowsAll s ps
    → Any (λ p. (p.name ≡ name) × TakesValue p.kind value) ps → (required : Bool) × HasOption s.rules required name
option_known s ps name value know at =
    let here : Knows s at.1 = subst (Knows s) at.3 (all_known s ps know at.0 at.1 at.2) in
    option_of_kind s at.1.kind name value (subst (λ n. KnowsKind s at.1.kind n) at.4.0 here) at.4.1

fit_use : (s : Shape) (ps : List ParameterView) (rows : List Row) (u : Use) → KnowsAll s ps → IsUseOf ps u
    → has_row (use_name u) rows ≡ false → FitsUse s rows u
fit_use s ps rows (alone name) know fits new = (flag_known s ps name know fits, new)
fit_use s ps rows (valued name value) know fits new = (option_known s ps name value know fits.0, new, fits.1)

takes-not_positional : (k : KindView) (value : Text) (b : Bool) → TakesValue k value → (is_positional k || b) ≡ true → b ≡ true
takes-not_positional positional value b takes e = absurd takes
takes-not_positional (needed values) value b takes e = e
takes-not_positional (way values) value b takes e = e
takes-not_positional (optional values) value b takes e = e
takes-not_positional flag value b takes e = e

-- a use has no name of a positional word
name_apart : (ps : List ParameterView) (names : List Text) (u : Use) → list_all (is_apart names) ps ≡ true → IsUseOf ps u
    → list_any (λ n. bytes_eq n (use_name u)) names ≡ false
name_apart ps names (alone name) apart fits =
    not-true _ (All-contains (λ p. is_apart names p ≡ true) ps (parameter name flag) (AllPass-from_list_all (is_apart names) ps apart) fits)
name_apart ps names (valued name value) apart fits =
    let p = fits.0.1 in
    let here = All-contains (λ q. is_apart names q ≡ true) ps p (AllPass-from_list_all (is_apart names) ps apart) (fits.0.0, fits.0.2, fits.0.3) in
    subst (λ (m : Text). list_any (λ n. bytes_eq n m) names ≡ false) fits.0.4.0 (not-true _ (takes-not_positional p.kind value _ fits.0.4.1 here))

-- `used` are the names of the uses so far
fit_uses : (s : Shape) (ps : List ParameterView) (names used : List Text) (uses : List Use) (rows : List Row) → KnowsAll s ps
    → list_all (is_apart names) ps ≡ true → map (λ r. r.id) rows ≡ names ++ used → All (IsUseOf ps) uses
    → IsDistinct bytes_eq (used ++ map use_name uses) → FitUses s rows uses
fit_uses s ps names used [] rows know apart ids fits once = tt
fit_uses s ps names used (u ∷ us) rows know apart ids fits once =
    let name = use_name u in
    let fits_first = All-head (IsUseOf ps) u us fits in
    let fresh : has_row name rows ≡ false =
    rw (has_row-ids name rows, ids, list_any-append (λ n. bytes_eq n name) names used)
    (or_from _ _ (name_apart ps names u apart fits_first) (none_before used name (map use_name us) once)) in
    let more : map (λ (r : Row). r.id) (rows ++ use_row u ∷ []) ≡ names ++ (used ++ name ∷ []) =
    map-append (λ (r : Row). r.id) rows (use_row u ∷ []) ∙ ap₂ (λ ms m. ms ++ m ∷ []) ids (id-use_row u) ∙ append_assoc names used (name ∷ []) in (
      fit_use s ps rows u know fits_first fresh,
      fit_uses s ps names (used ++ name ∷ []) us (rows ++ use_row u ∷ []) know apart more (All-tail (IsUseOf ps) u us fits)
          (rw (append_assoc used (name ∷ []) (map use_name us)) once),
    )

complete_line : (ps : List ParameterView) (names : List Text) (uses : List Use) (rows : List Row) (c : List Rule)
    → list_all (λ p. not (is_positional p.kind) || list_any (λ n. bytes_eq n p.name) names) ps ≡ true
    → All (λ p. is_needed p.kind ≡ true → Contains (map use_name uses) p.name) ps
    → ((name : Text) → list_any (λ n. bytes_eq n name) names ≡ true → has_row name rows ≡ true)
    → ((name : Text) → Contains (map use_name uses) name → has_row name rows ≡ true)
    → all_given rows ≡ true → is_complete ps (fold with_default rows c) ≡ true
complete_line [] names uses rows c named used in_positionals in_uses given = refl
complete_line (p ∷ ps) names uses rows c named used in_positionals in_uses given =
    let parts = and_parts _ (list_all (λ x. not (is_positional x.kind) || list_any (λ m. bytes_eq m x.name) names) ps) named in
    let Used : ParameterView → Type 0 = λ x. is_needed x.kind ≡ true → Contains (map use_name uses) x.name in
    and_from _ _ (one p.kind parts.0 (All-head Used p ps used)) (complete_line ps names uses rows c parts.1 (All-tail Used p ps used) in_positionals in_uses given) where
      one : (k : KindView) → (not (is_positional k) || list_any (λ m. bytes_eq m p.name) names) ≡ true
          → (is_needed k ≡ true → Contains (map use_name uses) p.name) → (is_omittable k || is_given p.name (fold with_default rows c)) ≡ true
      one positional a b = is_given-finished p.name rows c (in_positionals p.name a) given
      one (needed values) a b = is_given-finished p.name rows c (in_uses p.name (b refl)) given
      one (way values) a b = refl
      one (optional values) a b = refl
      one flag a b = refl

-- ---- the whole list

abbrev pub line_rows : FormView → List Text → List Use → List Row
line_rows f positionals uses = positional_rows (positional_names f) positionals ++ use_rows uses

pub line_walks : (f : FormView) (s : Shape) (positionals : List Text) (uses : List Use) → IsKnown f s → IsPlainLine f positionals uses
    → Walks s 1 nothing_held (positionals ++ all_use_words uses) (positional_rows (positional_names f) positionals ++ use_rows uses)
line_walks f s positionals uses known plain =
    let names = positional_names f in
    walks_line s 1 names positionals uses [] nothing_held (record { rows_are = refl; passes = refl })
    (fit_positionals s 1 [] names positionals [] known.positionals refl plain.as_many (list_all-from_AllPass is_plain_word positionals plain.plain))
    (fit_uses s f.parameters names [] uses (positional_rows names positionals) known.parameters known.apart
    (ids-positional_rows names positionals plain.as_many ∙ sym (append-nil names)) plain.known plain.once)

pub line_passes : (f : FormView) (s : Shape) (positionals : List Text) (uses : List Use) → IsKnown f s → IsPlainLine f positionals uses
    → level_passes s [] nothing_held (positionals ++ all_use_words uses) false ≡ true
line_passes f s positionals uses known plain =
    let names = positional_names f in
    let rows : List Row = positional_rows names positionals ++ use_rows uses in
    let in_positionals : (name : Text) → list_any (λ n. bytes_eq n name) names ≡ true → has_row name rows ≡ true =
    λ name e. rw (has_row-append name (positional_rows names positionals) (use_rows uses), has_row-positional_rows names positionals name plain.as_many e) refl in
    let in_uses : (name : Text) → Contains (map use_name uses) name → has_row name rows ≡ true =
    λ name at. rw (has_row-append name (positional_rows names positionals) (use_rows uses)) (or_right (has_row name (positional_rows names positionals)) _ (has_row-use_rows name uses at)) in
    let given : all_given rows ≡ true = all_given-append (positional_rows names positionals) (use_rows uses) (all_given-positionals names positionals) (all_given-uses uses) in
    let complete = complete_line f.parameters names uses rows s.rules known.positional_parameters plain.complete in_positionals in_uses given in
    level_passes-line s (positionals ++ all_use_words uses) rows (line_walks f s positionals uses known plain) known.defaults (known.valid _ complete)
