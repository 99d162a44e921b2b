use Rattle.std.proofs.Common.{◌∙◌, ap, ap₂}
use Rattle.shop_words.proofs.TableLemmas.{with_subcommand-shop}
use Rattle.clap.specs.Simple.{App, with_subcommand}
use Rattle.shop_words.specs.Grammar.{with_program_rules}
use Rattle.shop_words.proofs.grammar.program.Goals as goal

pub loop-form-init : goal.loop-form-init
loop-form-init c = record {
  app = c.in_ok-program.ensures.app ∙ ap with_program_rules c.in_ok-bare_program.ensures.app;
  items = c.all_forms-form-items.ensures;
}

pub loop-form-preserved : goal.loop-form-preserved
loop-form-preserved c =
    let shape = c.in_ok-program-2.ensures.shape c.in_ok-command_of.ensures.local in
    record {
      app = shape ∙ ap₂ with_subcommand c.loop-form.invariant.app (ap (λ (a : App). a.top) c.in_ok-command_of.ensures.app) ∙ with_subcommand-shop _ _ _ c.loop-form-test.true;
      items = c.all_forms-form-items.ensures;
    }
