-- Rules of clap that pass a test are the same.
use Rattle.std.proofs.Common.{◌≡◌, ap, refl, Bool, true, false, List, [], ◌∷◌, Option, Some, None, ◌==◌, ◌&&◌, not, eqb-true, ℕ}
use Rattle.std.proofs.lemmas.Bool.{and_parts}
use Rattle.std.proofs.lemmas.Slice.Eq.{bytes_eq-Decides}
use Rattle.std.specs.Str.{bytes_eq}
use Rattle.clap.specs.Walk.{Rule}
use Rattle.clap.specs.declared.builder.action.ArgAction.{ArgAction}
use Rattle.clap.specs.declared.builder.action.ArgAction.TheVariants.{Set, SetTrue}
use Rattle.clap.specs.declared.builder.range.ValueRange.{ValueRange}
use Rattle.clap.specs.declared.builder.value_parser.ValueParser.{ValueParser}
use Rattle.clap.specs.declared.builder.value_parser.ValueParser.TheVariants as parsers

-- what passes the test is the same
abbrev pub Sound : {X : Type 0} → (X → X → Bool) → Type 0
Sound {X} same = (x y : X) → same x y ≡ true → x ≡ y

abbrev pub same_option : {X : Type 0} → (X → X → Bool) → Option X → Option X → Bool
same_option same None None = true
same_option same (Some x) (Some y) = same x y
same_option same _ _ = false

pub option-is : {X : Type 0} (same : X → X → Bool) → Sound same → Sound (same_option same)
option-is same is None None e = refl
option-is same is (Some x) (Some y) e = ap Some (is x y e)
option-is same is None (Some y) e = cc
option-is same is (Some x) None e = cc

abbrev same_list : {X : Type 0} → (X → X → Bool) → List X → List X → Bool
same_list same [] [] = true
same_list same (x ∷ xs) (y ∷ ys) = same x y && same_list same xs ys
same_list same _ _ = false

list-is : {X : Type 0} (same : X → X → Bool) → Sound same → Sound (same_list same)
list-is same is [] [] e = refl
list-is same is (x ∷ xs) (y ∷ ys) e =
    let parts = and_parts (same x y) (same_list same xs ys) e in λ i. is x y parts.0 i ∷ list-is same is xs ys parts.1 i
list-is same is [] (y ∷ ys) e = cc
list-is same is (x ∷ xs) [] e = cc

pub text-is : Sound bytes_eq
text-is x y e = (bytes_eq-Decides x y).0 e

number-is : Sound {X = ℕ} (λ x y. x == y)
number-is x y e = eqb-true x y e

abbrev same_bool : Bool → Bool → Bool
same_bool true b = b
same_bool false b = not b

bool-is : Sound same_bool
bool-is true true e = refl
bool-is false false e = refl
bool-is true false e = cc
bool-is false true e = cc

abbrev same_action : ArgAction → ArgAction → Bool
same_action Set Set = true
same_action SetTrue SetTrue = true
same_action _ _ = false

action-is : Sound same_action
action-is Set Set e = refl
action-is SetTrue SetTrue e = refl
action-is _ _ e = cc

abbrev same_parser : ValueParser → ValueParser → Bool
same_parser parsers.String parsers.String = true
same_parser parsers.Bool parsers.Bool = true
same_parser _ _ = false

parser-is : Sound same_parser
parser-is parsers.String parsers.String e = refl
parser-is parsers.Bool parsers.Bool e = refl
parser-is _ _ e = cc

abbrev same_range : ValueRange → ValueRange → Bool
same_range a b = a.start_inclusive == b.start_inclusive && a.end_inclusive == b.end_inclusive

range-is : Sound same_range
range-is a b e =
    let parts = and_parts (a.start_inclusive == b.start_inclusive) (a.end_inclusive == b.end_inclusive) e in
    let starts = eqb-true a.start_inclusive b.start_inclusive parts.0 in
    let ends = eqb-true a.end_inclusive b.end_inclusive parts.1 in
    λ i. record { start_inclusive = starts i; end_inclusive = ends i }

-- what a rule is called by
abbrev same_names : Rule → Rule → Bool
same_names a b = bytes_eq a.id b.id && (same_option bytes_eq a.long b.long && (same_list bytes_eq a.aliases b.aliases
    && (same_option (λ x y. x == y) a.short b.short && (same_list (λ x y. x == y) a.short_aliases b.short_aliases
    && same_option (λ x y. x == y) a.index b.index))))

-- what it takes
abbrev same_values : Rule → Rule → Bool
same_values a b = same_option same_action a.action b.action && (same_option same_range a.range b.range
    && (a.value_names == b.value_names && (same_list bytes_eq a.defaults b.defaults
    && (same_list bytes_eq a.missing b.missing && same_option same_parser a.parser b.parser))))

abbrev same_flags : Rule → Rule → Bool
same_flags a b = same_bool a.trailing_var_arg b.trailing_var_arg && (same_bool a.ignore_case b.ignore_case
    && (same_bool a.required b.required && (same_bool a.is_simple b.is_simple && same_bool a.is_free b.is_free)))

abbrev pub same_rule : Rule → Rule → Bool
same_rule a b = same_names a b && (same_values a b && same_flags a b)

pub rule-is : Sound same_rule
rule-is a b e =
    let parts = and_parts (same_names a b) (same_values a b && same_flags a b) e in
    let more = and_parts (same_values a b) (same_flags a b) parts.1 in
    let n1 = and_parts (bytes_eq a.id b.id) _ parts.0 in
    let n2 = and_parts (same_option bytes_eq a.long b.long) _ n1.1 in
    let n3 = and_parts (same_list bytes_eq a.aliases b.aliases) _ n2.1 in
    let n4 = and_parts (same_option (λ x y. x == y) a.short b.short) _ n3.1 in
    let n5 = and_parts (same_list (λ x y. x == y) a.short_aliases b.short_aliases) (same_option (λ x y. x == y) a.index b.index) n4.1 in
    let v1 = and_parts (same_option same_action a.action b.action) _ more.0 in
    let v2 = and_parts (same_option same_range a.range b.range) _ v1.1 in
    let v3 = and_parts (a.value_names == b.value_names) _ v2.1 in
    let v4 = and_parts (same_list bytes_eq a.defaults b.defaults) _ v3.1 in
    let v5 = and_parts (same_list bytes_eq a.missing b.missing) (same_option same_parser a.parser b.parser) v4.1 in
    let f1 = and_parts (same_bool a.trailing_var_arg b.trailing_var_arg) _ more.1 in
    let f2 = and_parts (same_bool a.ignore_case b.ignore_case) _ f1.1 in
    let f3 = and_parts (same_bool a.required b.required) _ f2.1 in
    let f4 = and_parts (same_bool a.is_simple b.is_simple) (same_bool a.is_free b.is_free) f3.1 in
    let id = text-is a.id b.id n1.0 in
    let long = option-is bytes_eq text-is a.long b.long n2.0 in
    let aliases = list-is bytes_eq text-is a.aliases b.aliases n3.0 in
    let short = option-is (λ x y. x == y) number-is a.short b.short n4.0 in
    let short_aliases = list-is (λ x y. x == y) number-is a.short_aliases b.short_aliases n5.0 in
    let index = option-is (λ x y. x == y) number-is a.index b.index n5.1 in
    let action = option-is same_action action-is a.action b.action v1.0 in
    let range = option-is same_range range-is a.range b.range v2.0 in
    let value_names = eqb-true a.value_names b.value_names v3.0 in
    let defaults = list-is bytes_eq text-is a.defaults b.defaults v4.0 in
    let missing = list-is bytes_eq text-is a.missing b.missing v5.0 in
    let parser = option-is same_parser parser-is a.parser b.parser v5.1 in
    let trailing_var_arg = bool-is a.trailing_var_arg b.trailing_var_arg f1.0 in
    let ignore_case = bool-is a.ignore_case b.ignore_case f2.0 in
    let required = bool-is a.required b.required f3.0 in
    let is_simple = bool-is a.is_simple b.is_simple f4.0 in
    let is_free = bool-is a.is_free b.is_free f4.1 in
    λ i. record {
      id = id i;
      long = long i;
      aliases = aliases i;
      short = short i;
      short_aliases = short_aliases i;
      index = index i;
      action = action i;
      range = range i;
      value_names = value_names i;
      defaults = defaults i;
      missing = missing i;
      trailing_var_arg = trailing_var_arg i;
      parser = parser i;
      ignore_case = ignore_case i;
      required = required i;
      is_simple = is_simple i;
      is_free = is_free i;
    }
