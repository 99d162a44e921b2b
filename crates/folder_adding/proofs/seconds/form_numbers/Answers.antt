use Rattle.std.proofs.Common.{◌∙◌, ap}
use Rattle.folder_adding.specs.Weighing.{number_by}
use Rattle.folder_adding.specs.declared.seconds.FormNumbers.{FormNumbers}
use Rattle.folder_adding.proofs.SecondsBeside.{none_more, one_form_more}
use Rattle.folder_adding.proofs.seconds.form_numbers.Goals as goal
use Rattle.folder_adding.proofs.seconds.form_numbers.Goals.{in-Some+in_ok-put_first, in_default}

pub loop-number-preserved : goal.loop-number-preserved
loop-number-preserved c = λ path.
    let inside = c.loop-number-test.true in
    let entries = c.args.entries.now in
    let number = c.loop-number.number in
    let entry = c.index-entries-number.result in
    elim c.match-path_beside.branch [
      | in-Some+in_ok-put_first w ↦
          one_form_more entries number entry inside c.index-entries-number.is path w.in-Some.file.now w.in-Some.ensures.some.0 w.in-Some.ensures.some.1
          (number_by c.loop-number.forms path) (number_by c.match-path_beside.forms path) (c.loop-number.invariant path)
          (ap (λ (forms : FormNumbers). number_by forms path) w.forms-is ∙ w.in_ok-put_first.ensures path)
      | in_default w ↦
          none_more entries number entry inside c.index-entries-number.is path w.in_default.ensures.none (number_by c.match-path_beside.forms path)
          (ap (λ (forms : FormNumbers). number_by forms path) w.forms-is ∙ c.loop-number.invariant path)
    ]
