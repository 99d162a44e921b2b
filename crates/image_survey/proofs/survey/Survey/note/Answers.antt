use Rattle.std.proofs.Common.{◌∙◌, ap, subst, sym}
use Rattle.std.specs.List.{filter_map}
use Rattle.std.specs.Prelude.{Option, option_map}
use Rattle.image_survey.specs.Told.{AreKept, Told, candidate}
use Rattle.image_survey.specs.declared.survey.Survey.{Survey}
use Rattle.image_survey.specs.declared.surveyed.BestReading.{BestReading}
use Rattle.image_survey.proofs.Told.{survey_with, survey_without}
use Rattle.image_survey.proofs.survey.Survey.note.Goals as goal
use Rattle.image_survey.proofs.survey.Survey.note.Goals.{in-Some-best+in_ok-add, in_default-best}
use denote.Ref.{Bor}

abbrev seen : Option (Bor BestReading) → Option BestReading
seen best = option_map (λ b. b.now) best

pub returns-clause-noted : goal.returns-clause-noted
returns-clause-noted c = λ told is.
    let one : Told = record { path = c.args.path.now; file = c.args.file; found = c.args.found.now } in
    let new : Survey = record { form = c.match-best.self.form; counts = c.in-Some.counts; images = c.match-best.self.images } in
    elim c.match-best.branch [
      | in-Some-best+in_ok-add w ↦
          survey_with told one c.args.self.now new is c.in-Some.ensures w.in-Some-best.best.now
          (c.best.ensures ∙ ap seen w.in-Some-best.is)
          (subst (AreKept _) (sym (ap (λ (s : Survey). s.images) w.self-is)) (w.in_ok-add.ensures.added (filter_map candidate told) is.kept))
      | in_default-best w ↦
          survey_without told one c.args.self.now new is c.in-Some.ensures (c.best.ensures ∙ ap seen w.in_default-best.is)
          (subst (AreKept (filter_map candidate told)) (sym (ap (λ (s : Survey). s.images) w.self-is)) is.kept)
    ]
