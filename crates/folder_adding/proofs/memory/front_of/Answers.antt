use Rattle.std.proofs.Common.{◌∙◌, ℕ, ap, take}
use Rattle.std.proofs.lemmas.List.{take_min}
use Rattle.folder_adding.proofs.memory.front_of.Goals as goal

pub returns : goal.returns
returns c =
    let bytes = c.args.bytes.now in
    ap (λ (n : ℕ). take n bytes) c.min-len.ensures ∙ take_min 16777217 bytes
