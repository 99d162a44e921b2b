use Rattle.std.proofs.Common.{ℕ, List, subst}
use Rattle.std.specs.Fmt.{HasWritten}
use Rattle.row_text.proofs.Parts.{list_text}
use Rattle.row_text.proofs.json_parts.PartsListDisplay.fmt.Goals as goal

pub returns-in-len1-up-clause-writes : goal.returns-in-len1-up-clause-writes
returns-in-len1-up-clause-writes g c = λ plain ok.
    subst (λ (text : List ℕ). HasWritten g.W.Write.write_str_gives c.args.f.now text c.write-in-len1-up.new.self)
    (list_text c.args.self.now.form c.args.self.now.parts.now _ c.in-len1-up.len_at_least)
    (c.write-in-len1-up.ensures.writes plain ok)
