use Rattle.std.proofs.Common.{◌≡◌, map, take, false}
use Rattle.clap.specs.Simple.{app_of}
use Rattle.clap.specs.declared.builder.command.Command.TheViews.{out-Command}
use Rattle.shop_words.specs.Grammar.{bare_app}
use Rattle.shop_words.specs.Table.{parameter_view}
use Rattle.shop_words.proofs.grammar.command_of.Given as goal

abbrev pub invariant-loop-parameter : goal.invariant-loop-parameter
invariant-loop-parameter l = record {
  app : app_of l.command ≡ bare_app l.form.name.now (map parameter_view (take l.parameter-index l.parameter-items));
  items : l.parameter-items ≡ l.form.parameters.now;
  local : (out-Command l.command).has_globals ≡ false;
}
