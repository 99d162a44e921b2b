use Rattle.std.proofs.Common.{sym, ◌∙◌}
use Rattle.integer_basic.specs.Words.{word_text}
use Rattle.integer_basic.proofs.Showing.{none_left}
use Rattle.integer_basic.proofs.words.word_of.Goals as goal

pub returns-then-is_empty-clause-none : goal.returns-then-is_empty-clause-none
unfolding word_text
returns-then-is_empty-clause-none c =
    sym c.word_in-word.ensures ∙ none_left c.word_in-word.result.now _ c.is_empty.ensures c.if-is_empty.true

pub returns-else-is_empty-clause-some : goal.returns-else-is_empty-clause-some
unfolding word_text
returns-else-is_empty-clause-some c = sym c.word_in-word.ensures
