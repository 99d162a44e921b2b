use Rattle.std.proofs.Common.{arith}
use Rattle.std.proofs.lemmas.Nat.{from_le_bytes-to_le_bytes_8}
use Rattle.file_listings.proofs.facts.count_stays.Goals as goal

pub returns : goal.returns
returns c = from_le_bytes-to_le_bytes_8 c.args.count (omega arith)
