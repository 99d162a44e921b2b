use Rattle.std.proofs.Common.{◌∷◌, ◌++◌, [], ap}
use Rattle.row_text.proofs.Plain.{escape_lower_hex}
use Rattle.image_survey.proofs.json_row.digits_stand.Goals as goal

pub returns : goal.returns
returns c = ap (λ text. 34 ∷ (text ++ 34 ∷ [])) (escape_lower_hex _ c.type_inv.bytes)
