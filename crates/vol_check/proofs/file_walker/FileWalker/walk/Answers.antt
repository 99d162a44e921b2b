use Rattle.std.proofs.Common.{◌≡◌, ◌∙◌, ap, arith, get_or, length, subst, sym}
use Rattle.std.proofs.lemmas.Bool.Decides.{nat_tests}
use Rattle.std.proofs.lemmas.List.{with_items_is}
use Rattle.vol_check.specs.Marks.{HasOwnMarks}
use Rattle.vol_check.specs.Walk.{lists, unseen}
use Rattle.vol_check.proofs.Files.{start_sound}
use Rattle.vol_check.proofs.Marks.{unseen_marks}
use Rattle.vol_check.proofs.OneFile.{begins, faultless, refused}
use Rattle.vol_check.proofs.Pushed.{element_at}
use Rattle.vol_check.proofs.file_walker.FileWalker.walk.Goals as goal

pub walk_file-requires-clause-pending : goal.walk_file-requires-clause-pending
walk_file-requires-clause-pending g c = ap (λ (walk : _). walk.pending) (c.forget.ensures _ c.requires.tables.marks)

pub walk_file-requires-clause-sound : goal.walk_file-requires-clause-sound
walk_file-requires-clause-sound g c =
    start_sound (g.F.Format.meaning c.args.format.now) (g.met.F.Format.readable c.args.format.now) (g.F.Format.directory c.args.format.now c.args.volume.now)
    (lists c.forget.new.walk) (c.forget.ensures _ c.requires.tables.marks ∙ ap unseen (sym c.requires.places))

pub walk_file-requires-clause-walking : goal.walk_file-requires-clause-walking
walk_file-requires-clause-walking g c = λ honest.
    begins (g.F.Format.meaning c.args.format.now) (g.met.F.Format.readable c.args.format.now) (g.F.Format.directory c.args.format.now c.args.volume.now)
    (g.D.Device.state c.args.device.now).store c.args.file c.requires.alone
    (lists c.forget.new.walk) (c.forget.ensures _ c.requires.tables.marks ∙ ap unseen (sym c.requires.places))

pub returns-in_err-walk_file-clause-tables : goal.returns-in_err-walk_file-clause-tables
returns-in_err-walk_file-clause-tables g c =
    let old = g.D.Device.state c.args.device.now in
    let walked = c.walk_file.ensures in
    let size : length c.walk_file.new.unit ≡ length c.args.self.now.unit.items = c.walk_file.auto.unit ∙ ap length c.as_mut_slice.ensures.value in
    record {
      marks = subst (λ places. HasOwnMarks places (lists c.walk_file.new.walk)) (sym walked.device.same.places)
          (walked.marks old.places (subst (HasOwnMarks old.places) (sym (c.forget.ensures old.places c.requires.tables.marks)) (unseen_marks old.places)));
      unit = ap length (with_items_is c.args.self.now.unit c.walk_file.new.unit (size ∙ sym c.args.self.now.unit.ok.0)) ∙ size ∙ c.requires.tables.unit
          ∙ sym walked.device.same.unit_size;
    }

pub returns-clause-tables : goal.returns-clause-tables
returns-clause-tables g c =
    let old = g.D.Device.state c.args.device.now in
    let walked = c.walk_file.ensures in
    let size : length c.walk_file.new.unit ≡ length c.args.self.now.unit.items = c.walk_file.auto.unit ∙ ap length c.as_mut_slice.ensures.value in
    record {
      marks = subst (λ places. HasOwnMarks places (lists c.walk_file.new.walk)) (sym walked.device.same.places)
          (walked.marks old.places (subst (HasOwnMarks old.places) (sym (c.forget.ensures old.places c.requires.tables.marks)) (unseen_marks old.places)));
      unit = ap length (with_items_is c.args.self.now.unit c.walk_file.new.unit (size ∙ sym c.args.self.now.unit.ok.0)) ∙ size ∙ c.requires.tables.unit
          ∙ sym walked.device.same.unit_size;
    }

pub returns-clause-within : goal.returns-clause-within
returns-clause-within g c = λ k d within.
    omega (
      arith,
      c.in_ok-walk_file.ensures.sound.part_place (get_or c.walk_file.new.walk.parts.items k d) (element_at c.walk_file.new.walk.parts.items k d within),
      c.requires.places,
      c.walk_file.ensures.device.same.places,
    )

pub returns-clause-faultless : goal.returns-clause-faultless
returns-clause-faultless g c = λ honest none.
    faultless (g.F.Format.meaning c.args.format.now) (g.met.F.Format.readable c.args.format.now) (g.F.Format.directory c.args.format.now c.args.volume.now)
    (g.D.Device.state c.args.device.now).store c.args.file c.requires.alone c.requires.file (c.requires.described honest)
    (lists c.walk_file.new.walk) c.in_ok-walk_file.ensures.pending (c.in_ok-walk_file.ensures.walking honest)
    (grind (arith, nat_tests, c.is_empty.ensures, c.walk_file.new.walk.faults.ok.0, none))

pub returns-clause-refused : goal.returns-clause-refused
returns-clause-refused g c = λ honest some.
    refused (g.F.Format.meaning c.args.format.now) (g.met.F.Format.readable c.args.format.now) (g.F.Format.directory c.args.format.now c.args.volume.now)
    (g.D.Device.state c.args.device.now).store c.args.file c.requires.alone c.requires.file (c.requires.described honest)
    (lists c.walk_file.new.walk) c.in_ok-walk_file.ensures.pending (c.in_ok-walk_file.ensures.walking honest)
    (λ none. absurd (grind (arith, nat_tests, c.is_empty.ensures, c.walk_file.new.walk.faults.ok.0, some, none)))
