use Rattle.std.proofs.Common.{◌++◌, sym, ◌∙◌, append_assoc}
use Rattle.std.specs.Prelude.{codes, decimal, string_bytes}
use Rattle.std.proofs.lemmas.Result.{IfOk-weaker}
use Rattle.shop_outputs.specs.Folders.{IsBeside}
use Rattle.shop_outputs.proofs.folder.path_beside.Goals as goal

pub returns : goal.returns
returns c =
    let folder = c.args.folder.now in
    let number = decimal c.args.number in
    IfOk-weaker c.format.result _ (λ path. IsBeside folder (string_bytes path))
    (λ path told. (c.args.number, c.requires, told ∙ sym (append_assoc (folder ++ codes ".") number (codes ".new") ∙ append_assoc folder (codes ".") (number ++ codes ".new"))))
    c.format.ensures.ok
