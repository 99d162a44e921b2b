use Rattle.std.proofs.Common.{ap, arith}
use Rattle.shop_reads.specs.MapText.{character_of}
use Rattle.shop_reads.specs.declared.place_state.PlaceState.TheVariants as states
use Rattle.shop_reads.proofs.map_lines.state_at.Goals as goal

pub returns-in-Some : goal.returns-in-Some
returns-in-Some c = ap character_of (c.in-Some.ensures.lookup.4 (omega arith) states.Free)

pub returns-in-None : goal.returns-in-None
returns-in-None c = ap character_of (c.in-None.ensures.lookup.4 (omega arith) states.Free)
