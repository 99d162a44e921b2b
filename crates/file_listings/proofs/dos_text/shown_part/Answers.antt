use Rattle.std.proofs.Common.{◌∙◌, take, sym, ap}
use Rattle.std.proofs.lemmas.List.{take-map}
use Rattle.row_text.specs.Shown.{shown}
use Rattle.file_listings.proofs.Names.{as_many_shown}
use Rattle.file_listings.proofs.dos_text.shown_part.Goals as goal

pub returns-clause-text : goal.returns-clause-text
returns-clause-text c = sym (take-map shown _ _) ∙ c.shown_len.ensures.text

pub returns-clause-part : goal.returns-clause-part
returns-clause-part c =
    ap (λ n. take n c.args.name.now) (as_many_shown c.args.name.now c.shown_len.result c.shown_len.ensures.within c.shown_len.ensures.text)
