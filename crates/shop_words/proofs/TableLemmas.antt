-- A command with one more argument, and a program with one more command.
use Rattle.std.proofs.Common.{◌≡◌, ◌∙◌, ℕ, ◌+◌, ◌<◌, sym, ap, append_assoc, map, take, length, get_or, List, Bool, ◌++◌, ◌∷◌, [], codes}
use Rattle.std.proofs.lemmas.List.{map_more, map-append}
use Rattle.clap.specs.Walk.{Rule}
use Rattle.clap.specs.Simple.{App, Shape, new_shape, with_rule, with_subcommand}
use Rattle.clap.proofs.SimpleLemmas.{not_empty}
use Rattle.shop_words.specs.Grammar.{bare_app, rule_of_parameter, leaf_app, leaf_of, program_over, program_rule, with_program_rules}
use Rattle.shop_words.specs.Table.{FormView, Text, parameter_view, form_view}
use Rattle.shop_words.specs.declared.table.Parameter.{Parameter}
use Rattle.shop_words.specs.declared.table.Form.{Form}

pub with_rule-leaf : (name : Text) (xs : List Parameter) (i : ℕ) (d : Parameter) → i < length xs
    → with_rule (bare_app name (map parameter_view (take i xs))) (rule_of_parameter (parameter_view (get_or xs i d)))
    ≡ bare_app name (map parameter_view (take (i + 1) xs))
with_rule-leaf name xs i d lt =
    let more = ap (map rule_of_parameter) (map_more parameter_view xs i d lt) ∙ map-append rule_of_parameter (map parameter_view (take i xs)) (parameter_view (get_or xs i d) ∷ []) in
    let app : List Rule → App = λ rules. record { top = record (new_shape name) { rules = rules }; subs = [] } in
    ap app (sym more)

-- with the flags of the program behind its parameters
pub with_program_rules-leaf : (f : FormView) → with_program_rules (bare_app f.name f.parameters) ≡ leaf_app f
with_program_rules-leaf f =
    let app : List Rule → App = λ rules. record { top = record (new_shape f.name) { rules = rules }; subs = [] } in
    ap app (append_assoc (map rule_of_parameter f.parameters) (program_rule (codes "auto") ∷ []) (program_rule (codes "explain") ∷ []))

pub with_subcommand-shop : (xs : List Form) (i : ℕ) (d : Form) → i < length xs
    → with_subcommand (program_over (map leaf_of (map form_view (take i xs)))) (leaf_of (form_view (get_or xs i d)))
    ≡ program_over (map leaf_of (map form_view (take (i + 1) xs)))
with_subcommand-shop xs i d lt =
    let so_far = map leaf_of (map form_view (take i xs)) in
    let more = ap (map leaf_of) (map_more form_view xs i d lt) ∙ map-append leaf_of (map form_view (take i xs)) (form_view (get_or xs i d) ∷ []) in
    let app : Bool → List Shape → App = λ leaf subs. record (program_over subs) { top = record (program_over subs).top { is_leaf = leaf } } in
    ap (λ leaf. app leaf (so_far ++ leaf_of (form_view (get_or xs i d)) ∷ [])) (sym (not_empty so_far (leaf_of (form_view (get_or xs i d)))))
    ∙ ap program_over (sym more)
