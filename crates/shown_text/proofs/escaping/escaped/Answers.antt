use Rattle.std.proofs.Common.{◌∙◌, sym, ap, map-id}
use Rattle.std.specs.Prelude.{flat_map}
use Rattle.std.proofs.lemmas.Iterator.{YieldsList-from_chars}
use Rattle.std.proofs.lemmas.Iterator.Consumers.{YieldsList-end}
use Rattle.shown_text.specs.Escaping.{shown_character}
use Rattle.shown_text.proofs.escaping.escaped.Goals as goal

pub returns : goal.returns
returns c =
    let end = YieldsList-end (YieldsList-from_chars c.args.word.now c.utf8.word cc) c.loop-character.yielded _ c.loop-character.yielded_by _ _ c.in-None.is c.next.ensures.steps in
    c.loop-character.invariant ∙ ap (flat_map shown_character) (sym (map-id c.loop-character.yielded) ∙ end.0)
