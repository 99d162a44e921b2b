use Rattle.image_readings.proofs.Ways.{added}
use Rattle.image_readings.proofs.identify.add_reading.Goals as goal

pub returns-clause-added : goal.returns-clause-added
returns-clause-added c =
    added c.args.image.now.items c.args.way c.args.readings.now.items c.push.new.self.items c.in_ok-reading.reading
    c.in_ok-reading.ensures.reading c.in_ok-reading.ensures.found c.in_ok-push.ensures.items
