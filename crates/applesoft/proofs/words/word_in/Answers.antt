use Rattle.std.proofs.Common.{sym, ◌∙◌, ℕ, List, [], Bor}
use Rattle.std.proofs.lemmas.List.{get_or-map}
use Rattle.applesoft.proofs.words.word_in.Goals as goal

pub returns : goal.returns
returns c = c.as_bytes.ensures.value ∙ sym (get_or-map (λ (w : Bor (List ℕ)). w.now) c.args.words.now c.args.token _ [] c.requires)
