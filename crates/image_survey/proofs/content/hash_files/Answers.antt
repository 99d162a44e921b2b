use Rattle.std.proofs.Common.{◌≡◌, ◌∙◌, arith, length, subst, sym, refl}
use Rattle.std.specs.Prelude.{slice_index_or}
use Rattle.std.proofs.lemmas.List.{length-map, length_push}
use Rattle.a2_device.specs.Device.{DeviceState}
use Rattle.file_cmds.specs.lemmas.Reading.{read_twice}
use Rattle.volume_compare.proofs.Ranks.{has_entry}
use Rattle.volume_compare.specs.Contents.{volume_in}
use Rattle.volume_compare.specs.Pairs.{file_path, paths_of}
use Rattle.image_survey.specs.FileLine.{IsLineOf}
use Rattle.image_survey.specs.declared.ordered.Named.{Named}
use Rattle.image_survey.proofs.Hashed.{lines_more}
use Rattle.image_survey.proofs.content.hash_files.Goals as goal

pub line_of-requires-clause-file : goal.line_of-requires-clause-file
line_of-requires-clause-file g c =
    let files = g.F.FileFormat.files c.args.format.now in
    let directory = g.F.Format.directory c.args.format.now c.args.volume.now in
    let named = c.named-item.result in
    let has = c.requires.ordered.each named (c.loop-named.named-index, c.loop-named-test.true, sym c.named-item.is) in
    omega (arith, has_entry (paths_of files directory) named.file named.path has, length-map directory.listed (file_path files))

pub returns-then-not-branch-clause-content : goal.returns-then-not-branch-clause-content
returns-then-not-branch-clause-content g c =
    let start = g.D.Device.state c.args.device.now in
    let now = g.D.Device.state c.loop-named.device in
    let directory = g.F.Format.directory c.args.format.now c.args.volume.now in
    let meaning = g.F.Format.meaning c.args.format.now in
    let volume = volume_in c.args.form (g.F.FileFormat.files c.args.format.now) meaning directory in
    let before = c.loop-named.invariant.hashed in
    let order = c.args.order.now in
    let named = c.named-item.result in
    let told = c.in_ok-told.told in
    let next : IsLineOf (volume start.store) start.unreadable named.file told =
    subst (λ (d : DeviceState). IsLineOf (volume d.store) d.unreadable named.file told) (c.loop-named.invariant.reads.kept c.requires.honest) c.in_ok-told.ensures.told in
    let at : named ≡ slice_index_or order (length before.lines) named =
    c.named-item.is ∙ subst (λ k. slice_index_or order c.loop-named.named-index named ≡ slice_index_or order k named) (sym before.long) refl in
    let added = c.in_ok-add.ensures before.lines before.hashed in
    record {
      lines = _;
      are_lines = lines_more (volume start.store) start.unreadable order before.lines told named (omega (arith, before.long, c.loop-named-test.true)) before.are_lines
          (subst (λ (one : Named). IsLineOf (volume start.store) start.unreadable one.file told) at next);
      many = rw c.if-not-branch.true at added;
    }

pub loop-named-preserved : goal.loop-named-preserved
loop-named-preserved g c =
    let start = g.D.Device.state c.args.device.now in
    let now = g.D.Device.state c.loop-named.device in
    let after = g.D.Device.state c.line_of.new.device in
    let directory = g.F.Format.directory c.args.format.now c.args.volume.now in
    let meaning = g.F.Format.meaning c.args.format.now in
    let volume = volume_in c.args.form (g.F.FileFormat.files c.args.format.now) meaning directory in
    let before = c.loop-named.invariant.hashed in
    let order = c.args.order.now in
    let named = c.named-item.result in
    let told = c.in_ok-told.told in
    let next : IsLineOf (volume start.store) start.unreadable named.file told =
    subst (λ (d : DeviceState). IsLineOf (volume d.store) d.unreadable named.file told) (c.loop-named.invariant.reads.kept c.requires.honest) c.in_ok-told.ensures.told in
    let at : named ≡ slice_index_or order (length before.lines) named =
    c.named-item.is ∙ subst (λ k. slice_index_or order c.loop-named.named-index named ≡ slice_index_or order k named) (sym before.long) refl in
    let added = c.in_ok-add.ensures before.lines before.hashed in
    record {
      reads = read_twice start now after c.loop-named.invariant.reads c.in_ok-told.ensures.reads;
      opened = c.in_ok-told.ensures.kept;
      hashed = record {
        lines = _;
        are_lines = lines_more (volume start.store) start.unreadable order before.lines told named (omega (arith, before.long, c.loop-named-test.true)) before.are_lines
            (subst (λ (one : Named). IsLineOf (volume start.store) start.unreadable one.file told) at next);
        long = omega (arith, before.long, length_push before.lines told);
        hashed = rw c.if-not-branch.false at added;
      };
    }
