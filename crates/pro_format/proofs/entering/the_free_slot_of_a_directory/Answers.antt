use Rattle.std.proofs.Common.{sym, ◌∙◌}
use Rattle.pro_dir.specs.Listed.{directory_of}
use Rattle.pro_format.proofs.FreeSlots.{first_free_slot, no_free_slot}
use Rattle.pro_format.proofs.OneKey.{key_run}
use Rattle.pro_format.proofs.entering.the_free_slot_of_a_directory.Goals as goal

pub returns-clause-some : goal.returns-clause-some
returns-clause-some g c = λ store key place slot says kept is_key is.
    let its = key_run store (directory_of c.args.volume.now).blocks (directory_of c.args.volume.now).entries says.tree key is_key in
    first_free_slot store key place slot its.0 its.1 (sym (kept key its.0 is_key its.1) ∙ is)

pub returns-clause-none : goal.returns-clause-none
returns-clause-none g c = λ store key place slot says kept is_key is.
    let its = key_run store (directory_of c.args.volume.now).blocks (directory_of c.args.volume.now).entries says.tree key is_key in
    no_free_slot store key place slot its.0 its.1 (sym (kept key its.0 is_key its.1) ∙ is)
