use Rattle.a2_nibble.proofs.AddressLemmas.{both_decodings}
use Rattle.a2_nibble.proofs.address.address_field_decodes.Goals as goal

pub returns : goal.returns
returns c = both_decodings
