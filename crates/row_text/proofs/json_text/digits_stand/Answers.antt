use Rattle.row_text.proofs.Plain.{escape_lower_hex, escape_upper_hex}
use Rattle.row_text.proofs.json_text.digits_stand.Goals as goal

pub returns : goal.returns
returns c = record { lower = escape_lower_hex _ c.type_inv.bytes; upper = escape_upper_hex _ c.type_inv.bytes }
