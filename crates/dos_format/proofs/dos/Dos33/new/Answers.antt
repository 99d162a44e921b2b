use Rattle.dos_format.proofs.Readers.{below_last, few_places}
use Rattle.dos_format.proofs.dos.Dos33.new.Goals as goal

pub new-requires-clause-below : goal.new-requires-clause-below
new-requires-clause-below g c = below_last c.args.data_disk c.args.reserved c.in_ok-places.places.items c.in_ok-places.ensures

pub new-requires-clause-few : goal.new-requires-clause-few
new-requires-clause-few g c = few_places c.args.data_disk c.args.reserved c.in_ok-places.places.items c.in_ok-places.ensures
