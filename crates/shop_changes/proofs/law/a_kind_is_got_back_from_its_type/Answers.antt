use Rattle.shop_changes.proofs.Types.{kind_back, type_back}
use Rattle.shop_changes.proofs.law.a_kind_is_got_back_from_its_type.Goals as goal

pub returns : goal.returns
returns c = record { kind = kind_back; file_type = type_back }
