-- That clap knows a form is decided by one test, which computes.
use Rattle.std.proofs.Common.{◌≡◌, ℕ, ◌<◌, ◌+◌, ap, refl, subst, Bool, true, false, List, [], ◌∷◌, ◌++◌, Option, Some, None, ◌||◌, ◌&&◌, not, find, length, Contains, arith, unwrap_or, is_some, min, slice_index_or, zero, suc}
use Rattle.std.proofs.lemmas.Bool.{and_from, and_parts, or_right, not-true}
use Rattle.std.proofs.lemmas.List.Elements.{All-contains}
use Rattle.std.proofs.lemmas.List.Sums.{AllPass-from_list_all}
use Rattle.std.proofs.lemmas.Slice.Eq.{bytes_eq-Decides}
use Rattle.std.specs.List.{list_all, list_any}
use Rattle.std.specs.Str.{bytes_eq}
use Rattle.clap.proofs.OnLiterals.{clap_on_literals}
use Rattle.clap.specs.Lexer.{long_of, usize_max}
use Rattle.clap.specs.Simple.{Shape, built, label_of, new_shape}
use Rattle.clap.specs.Takes.{default_passes, is_given, is_valid, turn_passes}
use Rattle.clap.specs.Walk.{Names, Row, Rule, Text, answers_to, arg_by_id, arg_by_index, arg_by_long, idle, nothing_held, subcommand_met, walk_from, walked}
use Rattle.shop_words.specs.Plain.{dashed, is_positional, positional_names}
use Rattle.shop_words.specs.Table.{FormView, KindView, ParameterView, flag, forms, needed, optional, positional, way}
use Rattle.shop_words.proofs.PlainForms.{IsKnown, KnowsAll, KnowsKind, KnowsPositionals, is_apart, is_complete, is_omittable, shape_named, stopped_at, top_names, top_rules}
use Rattle.shop_words.proofs.Shop.{whole}
use Rattle.shop_words.proofs.PlainWalk.{HasFlag, HasOption, flag_built, needed_built, positional_built}
use Rattle.shop_words.proofs.RuleTests.{Sound, option-is, rule-is, same_option, same_rule, text-is}

-- ---- what clap finds by a parameter's name

abbrev is_rule : Option Rule → Rule → Bool
is_rule found rule = same_option same_rule found (Some rule)

rule_is : (found : Option Rule) (rule : Rule) → is_rule found rule ≡ true → found ≡ Some rule
rule_is found rule e = option-is same_rule rule-is found (Some rule) e

abbrev is_alone : Text × Option Text → Text × Option Text → Bool
is_alone p q = bytes_eq p.0 q.0 && same_option bytes_eq p.1 q.1

alone-is : Sound is_alone
alone-is p q e =
    let parts = and_parts (bytes_eq p.0 q.0) (same_option bytes_eq p.1 q.1) e in
    let names = text-is p.0 q.0 parts.0 in
    let values = option-is bytes_eq text-is p.1 q.1 parts.1 in
    λ i. (names i, values i)

-- the word with two hyphens is a long one of this name
abbrev is_long : Text → Bool
is_long name = same_option is_alone (long_of (dashed name)) (Some (name, None)) && not (bytes_eq (dashed name) (45 ∷ 45 ∷ []))

abbrev knows_option : List Rule → Bool → Text → Bool
knows_option c required name = is_rule (arg_by_long c name) (needed_built required name)
    && (is_rule (arg_by_id c name) (needed_built required name) && is_long name)

option_known : (c : List Rule) (required : Bool) (name : Text) → knows_option c required name ≡ true → HasOption c required name
option_known c required name e =
    let parts = and_parts (is_rule (arg_by_long c name) (needed_built required name)) _ e in
    let more = and_parts (is_rule (arg_by_id c name) (needed_built required name)) (is_long name) parts.1 in
    let long = and_parts (same_option is_alone (long_of (dashed name)) (Some (name, None))) (not (bytes_eq (dashed name) (45 ∷ 45 ∷ []))) more.1 in
    record {
      by_long = rule_is (arg_by_long c name) (needed_built required name) parts.0;
      by_id = rule_is (arg_by_id c name) (needed_built required name) more.0;
      same = (bytes_eq-Decides name name).1 refl;
      long = option-is is_alone alone-is (long_of (dashed name)) (Some (name, None)) long.0;
      dashes = not-true (bytes_eq (dashed name) (45 ∷ 45 ∷ [])) long.1;
    }

abbrev knows_flag : List Rule → Text → Bool
knows_flag c name = is_rule (arg_by_long c name) (flag_built name) && is_long name

flag_known : (c : List Rule) (name : Text) → knows_flag c name ≡ true → HasFlag c name
flag_known c name e =
    let parts = and_parts (is_rule (arg_by_long c name) (flag_built name)) (is_long name) e in
    let long = and_parts (same_option is_alone (long_of (dashed name)) (Some (name, None))) (not (bytes_eq (dashed name) (45 ∷ 45 ∷ []))) parts.1 in
    record {
      by_long = rule_is (arg_by_long c name) (flag_built name) parts.0;
      long = option-is is_alone alone-is (long_of (dashed name)) (Some (name, None)) long.0;
      dashes = not-true (bytes_eq (dashed name) (45 ∷ 45 ∷ [])) long.1;
    }

abbrev knows_kind : Shape → KindView → Text → Bool
knows_kind s positional name = true
knows_kind s (needed values) name = knows_option s.rules true name
knows_kind s (way values) name = knows_option s.rules false name
knows_kind s (optional values) name = knows_option s.rules false name
knows_kind s flag name = knows_flag s.rules name

kind_known : (s : Shape) (k : KindView) (name : Text) → knows_kind s k name ≡ true → KnowsKind s k name
kind_known s positional name e = tt
kind_known s (needed values) name e = option_known s.rules true name e
kind_known s (way values) name e = option_known s.rules false name e
kind_known s (optional values) name e = option_known s.rules false name e
kind_known s flag name e = flag_known s.rules name e

parameters_known : (s : Shape) (ps : List ParameterView) → list_all (λ p. knows_kind s p.kind p.name) ps ≡ true → KnowsAll s ps
parameters_known s [] e = tt
parameters_known s (p ∷ ps) e =
    let parts = and_parts (knows_kind s p.kind p.name) (list_all (λ x. knows_kind s x.kind x.name) ps) e in
    (kind_known s p.kind p.name parts.0, parameters_known s ps parts.1)

abbrev knows_positional : Shape → ℕ → List Text → Text → Bool
knows_positional s i met n = is_rule (arg_by_index s.rules i) (positional_built i n)
    && (is_rule (arg_by_id s.rules n) (positional_built i n) && not (list_any (λ m. bytes_eq m n) met))

abbrev knows_positionals : Shape → ℕ → List Text → List Text → Bool
knows_positionals s i met [] = true
knows_positionals s i met (n ∷ ns) = knows_positional s i met n && knows_positionals s (min (i + 1) usize_max) (met ++ n ∷ []) ns

positionals_known : (s : Shape) (i : ℕ) (met names : List Text) → knows_positionals s i met names ≡ true → KnowsPositionals s i met names
positionals_known s i met [] e = tt
positionals_known s i met (n ∷ ns) e =
    let parts = and_parts (knows_positional s i met n) (knows_positionals s (min (i + 1) usize_max) (met ++ n ∷ []) ns) e in
    let here = and_parts (is_rule (arg_by_index s.rules i) (positional_built i n)) _ parts.0 in
    let more = and_parts (is_rule (arg_by_id s.rules n) (positional_built i n)) (not (list_any (λ m. bytes_eq m n) met)) here.1 in (
      rule_is (arg_by_index s.rules i) (positional_built i n) here.0,
      rule_is (arg_by_id s.rules n) (positional_built i n) more.0,
      not-true (list_any (λ m. bytes_eq m n) met) more.1,
      positionals_known s (min (i + 1) usize_max) (met ++ n ∷ []) ns parts.1,
    )

-- ---- what clap requires is what a plain list says

-- the argument is a parameter that may not be left out
abbrev stands_for : Text → ParameterView → Bool
stands_for id p = not (is_omittable p.kind) && bytes_eq p.name id

required_given : (id : Text) (rows : List Row) (ps : List ParameterView) → list_any (stands_for id) ps ≡ true → is_complete ps rows ≡ true
    → is_given id rows ≡ true
required_given id rows [] e complete = cc
required_given id rows (p ∷ ps) e complete =
    let parts = and_parts (is_omittable p.kind || is_given p.name rows) (is_complete ps rows) complete in
    by_test (is_omittable p.kind) (bytes_eq p.name id) refl parts.0 (λ later. required_given id rows ps later parts.1) e where
      by_test : (omit same : Bool) → bytes_eq p.name id ≡ same → (omit || is_given p.name rows) ≡ true
          → (list_any (stands_for id) ps ≡ true → is_given id rows ≡ true)
          → ((not omit && same) || list_any (stands_for id) ps) ≡ true → is_given id rows ≡ true
      by_test false true is given later at = subst (λ n. is_given n rows ≡ true) ((bytes_eq-Decides p.name id).0 is) given
      by_test false false is given later at = later at
      by_test true same is given later at = later at

abbrev is_owed : List ParameterView → Rule → Bool
is_owed ps a = not a.required || list_any (stands_for a.id) ps

all_given : (ps : List ParameterView) (rows : List Row) (c : List Rule) → list_all (is_owed ps) c ≡ true → is_complete ps rows ≡ true
    → list_all (λ a. not a.required || is_given a.id rows) c ≡ true
all_given ps rows [] e complete = refl
all_given ps rows (a ∷ c) e complete =
    let parts = and_parts (is_owed ps a) (list_all (is_owed ps) c) e in
    and_from _ _ (one a.required parts.0) (all_given ps rows c parts.1 complete) where
      one : (required : Bool) → (not required || list_any (stands_for a.id) ps) ≡ true → (not required || is_given a.id rows) ≡ true
      one false h = refl
      one true h = required_given a.id rows ps h complete

-- nothing but the parameters is required
abbrev requires_only : Shape → List ParameterView → Bool
requires_only s ps = not s.arg_required_else_help && (not s.subcommand_required && (list_all (λ a. a.is_free) s.rules
    && list_all (is_owed ps) s.rules))

valid_known : (s : Shape) (ps : List ParameterView) → requires_only s ps ≡ true → (rows : List Row) → is_complete ps rows ≡ true
    → is_valid s rows false ≡ true
valid_known s ps e rows complete =
    let parts = and_parts (not s.arg_required_else_help) _ e in
    let more = and_parts (not s.subcommand_required) _ parts.1 in
    let free = and_parts (list_all (λ a. a.is_free) s.rules) (list_all (is_owed ps) s.rules) more.1 in
    and_from _ _ (rw parts.0 refl) (and_from _ _ (rw more.0 refl) (and_from _ _ free.0
    (or_right (s.subcommand_negates_reqs && false) _ (all_given ps rows s.rules free.1 complete))))

-- ---- the command's name

abbrev is_met : Text → Bool
is_met name = same_option bytes_eq (subcommand_met top_names idle name) (Some name)

met_by : (c : List Rule) (names : Names) (name : Text) → subcommand_met names idle name ≡ Some name
    → walked c names (walk_from nothing_held) name ≡ stopped_at name []
unfolding walked
met_by c names name e = rw e refl

there : {X : Type 0} (found : Option X) (otherwise : X) → is_some found ≡ true → found ≡ Some (unwrap_or found otherwise)
there None otherwise e = cc
there (Some x) otherwise e = refl

-- ---- one test of a form

abbrev is_named : FormView → Bool
is_named f = is_some (find (λ x. answers_to f.name (label_of x)) (built whole).subs)
    && (is_met f.name && turn_passes (built whole).top top_names (walk_from nothing_held) f.name)

abbrev are_parameters_known : FormView → Shape → Bool
are_parameters_known f s = list_all (λ p. knows_kind s p.kind p.name) f.parameters
    && knows_positionals s 1 [] (positional_names f)

abbrev is_built_well : FormView → Shape → Bool
is_built_well f s = list_all (λ p. not (is_positional p.kind) || list_any (λ n. bytes_eq n p.name) (positional_names f)) f.parameters
    && (list_all (is_apart (positional_names f)) f.parameters && (list_all default_passes s.rules
    && requires_only s f.parameters))

abbrev is_known_form : FormView → Bool
is_known_form f = is_named f && (are_parameters_known f (shape_named f.name) && is_built_well f (shape_named f.name))

forms_known : list_all is_known_form forms ≡ true
unfolding forms clap_on_literals
forms_known = refl

known_by : (f : FormView) → is_known_form f ≡ true → IsKnown f (shape_named f.name)
known_by f e =
    let s = shape_named f.name in
    let parts = and_parts (is_named f) _ e in
    let shape = and_parts (are_parameters_known f s) (is_built_well f s) parts.1 in
    let n1 = and_parts (is_some (find (λ x. answers_to f.name (label_of x)) (built whole).subs)) _ parts.0 in
    let n2 = and_parts (is_met f.name) (turn_passes (built whole).top top_names (walk_from nothing_held) f.name) n1.1 in
    let p = and_parts (list_all (λ x. knows_kind s x.kind x.name) f.parameters) (knows_positionals s 1 [] (positional_names f)) shape.0 in
    let b1 = and_parts (list_all (λ x. not (is_positional x.kind) || list_any (λ n. bytes_eq n x.name) (positional_names f)) f.parameters) _ shape.1 in
    let b2 = and_parts (list_all (is_apart (positional_names f)) f.parameters) _ b1.1 in
    let b3 = and_parts (list_all default_passes s.rules) (requires_only s f.parameters) b2.1 in
    record {
      named = there (find (λ x. answers_to f.name (label_of x)) (built whole).subs) (new_shape f.name) n1.0;
      met = met_by top_rules top_names f.name (option-is bytes_eq text-is (subcommand_met top_names idle f.name) (Some f.name) n2.0);
      first = n2.1;
      parameters = parameters_known s f.parameters p.0;
      positionals = positionals_known s 1 [] (positional_names f) p.1;
      positional_parameters = b1.0;
      apart = b2.0;
      defaults = b3.0;
      valid = valid_known s f.parameters b3.1;
    }

-- a form of the table passes a test that all of them pass
pub of_forms : (test : FormView → Bool) → list_all test forms ≡ true → (f : FormView) → Contains forms f → test f ≡ true
of_forms test all f at = All-contains (λ g. test g ≡ true) forms f (AllPass-from_list_all test forms all) at

pub known : (f : FormView) → Contains forms f → IsKnown f (shape_named f.name)
known f at = known_by f (of_forms is_known_form forms_known f at)

-- ---- a form is found by its name

abbrev are_apart : List FormView → Bool
are_apart [] = true
are_apart (f ∷ fs) = list_all (λ g. not (bytes_eq f.name g.name)) fs && are_apart fs

found_in : (fs : List FormView) (f : FormView) (k : ℕ) → are_apart fs ≡ true → k < length fs → slice_index_or fs k f ≡ f
    → find (λ g. bytes_eq g.name f.name) fs ≡ Some f
found_in [] f k apart lt at = absurd (omega (arith, lt))
found_in (g ∷ gs) f zero apart lt at = rw ((bytes_eq-Decides g.name f.name).1 (ap (λ (x : FormView). x.name) at)) (ap Some at)
found_in (g ∷ gs) f (suc k) apart lt at =
    let parts = and_parts (list_all (λ x. not (bytes_eq g.name x.name)) gs) (are_apart gs) apart in
    let within : k < length gs = omega (arith, lt) in
    let other : bytes_eq g.name f.name ≡ false = not-true _
    (All-contains (λ x. not (bytes_eq g.name x.name) ≡ true) gs f (AllPass-from_list_all (λ x. not (bytes_eq g.name x.name)) gs parts.0) (k, within, at)) in
    rw other (found_in gs f k parts.1 within at)

forms_apart : are_apart forms ≡ true
unfolding forms
forms_apart = refl

pub found_by_name : (f : FormView) → Contains forms f → find (λ g. bytes_eq g.name f.name) forms ≡ Some f
found_by_name f at = found_in forms f at.0 forms_apart at.1 at.2
