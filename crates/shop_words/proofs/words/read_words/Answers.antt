use Rattle.std.proofs.Common.{◌∙◌, ap₂, sym, map, string_bytes}
use Rattle.shop_words.specs.Asked.{found_asked}
use Rattle.shop_words.specs.Job.{meant_words}
use Rattle.shop_words.proofs.AskedLemmas.{plain_taken}
use Rattle.shop_words.proofs.CommandRows.{none_is_some}
use Rattle.shop_words.proofs.Ends.{ends_of-is, ends_so}
use Rattle.shop_words.proofs.words.read_words.Goals as goal

pub returns-in-Err-clause-unread : goal.returns-in-Err-clause-unread
returns-in-Err-clause-unread c = ends_so (meant_words (map string_bytes c.args.words.now)) c.in-Err.error c.in-Err.ensures.kinds

pub returns-in-Err-clause-plain : goal.returns-in-Err-clause-plain
returns-in-Err-clause-plain c plain = c.in-Err.ensures.taken (plain_taken (map string_bytes c.args.words.now) plain).0

pub returns-in-Some-clause-asked : goal.returns-in-Some-clause-asked
returns-in-Some-clause-asked c = sym (c.in-Some.ensures ∙ ap₂ found_asked c.in-Ok.ensures.found.0 c.in-Ok.ensures.found.1)

pub returns-in-Some-clause-ends : goal.returns-in-Some-clause-ends
returns-in-Some-clause-ends c = sym (ends_of-is (meant_words (map string_bytes c.args.words.now))) ∙ c.in-Ok.ensures.kinds

pub returns-in-None-clause-taken : goal.returns-in-None-clause-taken
returns-in-None-clause-taken c taken some =
    absurd (none_is_some _ (sym (c.in-None.ensures ∙ ap₂ found_asked c.in-Ok.ensures.found.0 c.in-Ok.ensures.found.1)) some)

pub returns-in-None-clause-plain : goal.returns-in-None-clause-plain
returns-in-None-clause-plain c plain =
    absurd (none_is_some _ (sym (c.in-None.ensures ∙ ap₂ found_asked c.in-Ok.ensures.found.0 c.in-Ok.ensures.found.1))
    (plain_taken (map string_bytes c.args.words.now) plain).1)

pub returns-in-None-clause-unread : goal.returns-in-None-clause-unread
returns-in-None-clause-unread c = (
  (sym (ends_of-is (meant_words (map string_bytes c.args.words.now))) ∙ c.in-Ok.ensures.kinds),
  sym (c.in-None.ensures ∙ ap₂ found_asked c.in-Ok.ensures.found.0 c.in-Ok.ensures.found.1),
)
