use Rattle.std.proofs.Common.{rules, ◌∙◌, ap₂, refl}
use Rattle.shop_words.proofs.TableLemmas.{with_rule-leaf}
use Rattle.clap.specs.Simple.{with_rule}
use Rattle.shop_words.proofs.grammar.command_of.Goals as goal

pub loop-parameter-preserved : goal.loop-parameter-preserved
loop-parameter-preserved c =
    let adds = c.in_ok-command.ensures in
    let shape = adds.shape c.argument.ensures.local in
    record {
      app = shape ∙ ap₂ with_rule c.loop-parameter.invariant.app c.argument.ensures.rule ∙ with_rule-leaf _ _ _ _ c.loop-parameter-test.true;
      items = refl;
      local = search rules;
    }
