use Rattle.std.proofs.Common.{◌∙◌, ◌++◌, ap, drop, length, replicate, List, ℕ}
use Rattle.std.proofs.lemmas.List.{drop-replicate}
use Rattle.file_formats.proofs.dos.filled_name.Goals as goal

pub returns : goal.returns
returns c =
    let bytes = c.args.bytes.now in
    let spaces : List ℕ = replicate 30 0xa0 in
    ap (λ (front : List ℕ). front ++ drop (length bytes) spaces) c.copy_from_slice.ensures.after
    ∙ ap (λ (rest : List ℕ). bytes ++ rest) (drop-replicate (length bytes) 30 0xa0)
