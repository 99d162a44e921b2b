use Rattle.std.proofs.Common.{◌≡◌, map, take}
use Rattle.clap.specs.Simple.{app_of}
use Rattle.shop_words.specs.Grammar.{program_over, leaf_of}
use Rattle.shop_words.specs.Table.{form_view, forms}
use Rattle.shop_words.proofs.grammar.program.Given as goal

abbrev pub invariant-loop-form : goal.invariant-loop-form
invariant-loop-form l = record {
  app : app_of l.program ≡ program_over (map leaf_of (map form_view (take l.form-index l.form-items)));
  items : map form_view l.form-items ≡ forms;
}
