use Rattle.std.proofs.Common.{refl, ap, ◌∙◌}
use Rattle.dos_format.specs.Dos.{DosRules, dos_available}
use Rattle.library_tests.proofs.moves.agendas.agenda_of.Goals as goal

pub new-requires-in-Ok-clause-plan : goal.new-requires-in-Ok-clause-plan
new-requires-in-Ok-clause-plan g c =
    let same = ap (λ (rules : DosRules). dos_available rules.data_disk rules.reserved) c.in_ok-format.ensures ∙ ap (dos_available c.args.data_disk) c.none.ensures in
    c.requires.plan _ same

pub new-requires-in-Ok-clause-spare : goal.new-requires-in-Ok-clause-spare
new-requires-in-Ok-clause-spare g c =
    let same = ap (λ (rules : DosRules). dos_available rules.data_disk rules.reserved) c.in_ok-format.ensures ∙ ap (dos_available c.args.data_disk) c.none.ensures in
    c.requires.spare _ same refl
