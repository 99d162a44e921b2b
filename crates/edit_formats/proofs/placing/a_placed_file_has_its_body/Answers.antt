use Rattle.edit_formats.proofs.Bodies.{body_placed}
use Rattle.edit_formats.proofs.placing.a_placed_file_has_its_body.Goals as goal

pub returns : goal.returns
returns c = body_placed
