use Rattle.std.proofs.Common.{◌∙◌, sym}
use Rattle.folder_adding.specs.Weighing.{number_by}
use Rattle.folder_adding.proofs.SecondsBeside.{put}
use Rattle.folder_adding.proofs.seconds.FormNumbers.put_first.Goals as goal

pub returns-in_ok-insert : goal.returns-in_ok-insert
returns-in_ok-insert c = λ other.
    put (number_by c.args.self.now) c.args.path.now c.args.number (sym c.contains_key.ensures ∙ c.if-not-contains_key.true) other _
    (c.in_ok-insert.ensures.updates.0 (record { ref_ptr = (0, 0); now = other }))
