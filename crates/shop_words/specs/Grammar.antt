-- The commands as clap's contracts see them: what its parser reads of each parameter and command.
use Rattle.std.specs.Prelude.{List, [], ◌∷◌, ◌++◌, map, true, Some, codes}
use Rattle.shop_words.specs.Table.{Text, KindView, positional, needed, way, optional, flag, ParameterView, FormView, forms}
use Rattle.clap.specs.Walk.{Rule, is_empty}
use Rattle.clap.specs.Simple.{App, Shape, new_rule, new_shape, with_rule}
use Rattle.clap.specs.declared.builder.action.ArgAction.TheVariants.{Count, SetTrue}

-- a positional word, an option of one value or a flag
abbrev pub rule_by : KindView → Text → Rule
rule_by positional name = record (new_rule name) { required = true }
rule_by (needed values) name = record (new_rule name) { long = Some name; required = true }
rule_by (way values) name = record (new_rule name) { long = Some name }
rule_by (optional values) name = record (new_rule name) { long = Some name }
rule_by flag name = record (new_rule name) { long = Some name; action = Some SetTrue }

abbrev pub rule_of_parameter : ParameterView → Rule
rule_of_parameter p = rule_by p.kind p.name

-- the flags of the program itself, `--auto` and `--explain`: they may stand more than once, before the command's name
-- and behind it
abbrev pub program_rule : Text → Rule
program_rule name = record (new_rule name) { long = Some name; action = Some Count }

abbrev pub program_rules : List Rule
program_rules = program_rule (codes "auto") ∷ program_rule (codes "explain") ∷ []

-- a command that takes them too
abbrev pub with_program_rules : App → App
with_program_rules app =
    with_rule (with_rule app (program_rule (codes "auto"))) (program_rule (codes "explain"))

-- a command with these parameters alone
abbrev pub bare_app : Text → List ParameterView → App
bare_app name parameters = record {
  top = record (new_shape name) { rules = map rule_of_parameter parameters };
  subs = [];
}

abbrev pub leaf_of : FormView → Shape
leaf_of f = record (new_shape f.name) { rules = map rule_of_parameter f.parameters ++ program_rules }

-- a command by itself
abbrev pub leaf_app : FormView → App
leaf_app f = record { top = leaf_of f; subs = [] }

-- the program without its commands and flags
abbrev pub bare_program : App
bare_program = record {
  top = record (new_shape (codes "a2shop")) {
    has_version = true;
    no_binary_name = true;
    subcommand_required = true;
  };
  subs = [];
}

-- the program with these commands, one of which is needed
abbrev pub program_over : List Shape → App
program_over subs = record {
  top = record (new_shape (codes "a2shop")) {
    rules = program_rules;
    has_version = true;
    is_leaf = is_empty subs;
    no_binary_name = true;
    subcommand_required = true;
  };
  subs = subs;
}

-- the program with the commands of the table
unfoldable pub shop : App
shop = program_over (map leaf_of forms)
