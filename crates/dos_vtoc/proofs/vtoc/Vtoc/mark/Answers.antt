use Rattle.std.proofs.Common.{◌∙◌, ap}
use Rattle.dos_vtoc.specs.Vtoc.{is_free}
use Rattle.dos_vtoc.proofs.Bits.{is_free-marked_same, is_free-marked_other}
use Rattle.dos_vtoc.proofs.vtoc.Vtoc.mark.Goals as goal

pub returns-clause-used : goal.returns-clause-used
returns-clause-used c =
    ap (λ b. is_free b c.args.place) c.set_used.ensures
    ∙ is_free-marked_same c.self.inside.bytes c.args.place c.self.told c.requires

pub returns-clause-others : goal.returns-clause-others
returns-clause-others c = λ other _ apart.
    ap (λ b. is_free b other) c.set_used.ensures
    ∙ is_free-marked_other c.self.inside.bytes c.args.place c.self.told c.requires other apart
    ∙ ap (λ b. is_free b other) c.self.view_is
