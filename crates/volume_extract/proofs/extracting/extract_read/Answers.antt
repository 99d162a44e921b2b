use Rattle.std.proofs.Common.{◌≡◌, ◌≤◌, ◌+◌, ◌∙◌, ◌++◌, ◌∷◌, [], ap, refl, sym, subst, arith, length, List}
use Rattle.std.proofs.lemmas.List.{length_push}
use Rattle.file_cmds.specs.EachFile.{AreFilesOf}
use Rattle.file_cmds.specs.lemmas.EachFile.{still_open}
use Rattle.file_cmds.specs.lemmas.Reading.{read_twice}
use Rattle.vol_format.specs.Directory.{entries}
use Rattle.volume_extract.specs.Items.{Item}
use Rattle.volume_extract.specs.Kept.{TellsItems}
use Rattle.volume_extract.specs.Progress.{HasStoppedAt, IsDone, IsExtracting}
use Rattle.volume_extract.specs.Source.{source_of}
use Rattle.volume_extract.specs.declared.opened.Opened.{Opened}
use Rattle.volume_extract.proofs.Ends.{begun, stopped_at_once}
use Rattle.volume_extract.proofs.Wider.{items_later}
use Rattle.volume_extract.proofs.extracting.extract_read.Goals as goal

pub returns-in_default-clause-stopped : goal.returns-in_default-clause-stopped
returns-in_default-clause-stopped g c =
    let opened = c.args.opened in
    stopped_at_once g.O.Folder.state g.O.Folder.may_fail
    (source_of opened.form opened.naming opened.texts (g.F.FileFormat.files opened.format.now) (g.F.Format.meaning opened.format.now)
    (g.F.TreeFormat.own opened.format.now) (g.F.Format.directory opened.format.now opened.volume))
    opened.most (g.D.Device.state c.args.device.now) (g.D.Device.state c.open.new.device) (g.O.Folder.state c.args.folder.now)

pub loop-entry-init : goal.loop-entry-init
loop-entry-init g c =
    let opened = c.args.opened in
    let start = g.D.Device.state c.args.device.now in
    let now = g.D.Device.state c.open.new.device in
    record {
      reads = c.in-Ok.ensures.reads;
      opened = refl;
      same = refl;
      within = omega arith;
      files = still_open (g.F.Format.meaning opened.format.now) (g.F.Format.directory opened.format.now opened.volume) start now c.in-Ok.files
          c.in-Ok.ensures.reads c.in-Ok.ensures.opened;
      items = (
        [],
        refl,
        begun
            (source_of opened.form opened.naming opened.texts (g.F.FileFormat.files opened.format.now) (g.F.Format.meaning opened.format.now)
            (g.F.TreeFormat.own opened.format.now) (g.F.Format.directory opened.format.now opened.volume))
            opened.most start now (g.O.Folder.state c.args.folder.now) c.new.result.items c.none.result c.new-names.result
            c.in-Ok.ensures.reads c.new.ensures.items c.none.ensures c.new-names.ensures,
      );
    }

pub returns-in-Err-clause-stopped : goal.returns-in-Err-clause-stopped
returns-in-Err-clause-stopped g c =
    let before = c.loop-entry.invariant in
    let items = before.items in
    let opened = c.loop-entry.told.opened in
    let start = g.D.Device.state c.args.device.now in
    let now = g.D.Device.state c.loop-entry.device in
    let last = g.D.Device.state c.extract_next-made.new.device in
    let folder = g.O.Folder.state c.args.folder.now in
    let source = source_of opened.form opened.naming opened.texts (g.F.FileFormat.files opened.format.now) (g.F.Format.meaning opened.format.now)
    (g.F.TreeFormat.own opened.format.now) (g.F.Format.directory opened.format.now opened.volume) in
    let stopped : HasStoppedAt g.O.Folder.state g.O.Folder.may_fail source opened.most start last folder (g.O.Folder.state c.extract_next-made.new.folder) c.in-Err.error = record {
      items = items.0;
      are_items = items_later source start now last c.in-Err.ensures.reads items.0 items.2.are_items;
      inside = omega (arith, items.1, before.within);
      within = items.2.within;
      stopped = c.in-Err.ensures.next start folder items.0 items.2;
    } in
    subst
    (λ (opened : Opened g.row.F.Denot g.row.F-Volume.Denot). HasStoppedAt g.O.Folder.state g.O.Folder.may_fail
    (source_of opened.form opened.naming opened.texts (g.F.FileFormat.files opened.format.now) (g.F.Format.meaning opened.format.now)
    (g.F.TreeFormat.own opened.format.now) (g.F.Format.directory opened.format.now opened.volume))
    opened.most start last folder (g.O.Folder.state c.extract_next-made.new.folder) c.in-Err.error)
    before.opened stopped

pub loop-entry-preserved : goal.loop-entry-preserved
loop-entry-preserved g c =
    let before = c.loop-entry.invariant in
    let made = c.in_default-made.ensures in
    let items = before.items in
    let start = g.D.Device.state c.args.device.now in
    let now = g.D.Device.state c.loop-entry.device in
    let last = g.D.Device.state c.extract_next-made.new.device in
    let folder = g.O.Folder.state c.args.folder.now in
    let more = made.next start folder items.0 items.2 in
    let told = c.extract_next-made.new.told in
    let parts = subst
    (λ (opened : Opened g.row.F.Denot g.row.F-Volume.Denot).
    AreFilesOf (g.F.Format.meaning opened.format.now) (g.F.Format.directory opened.format.now opened.volume) last c.extract_next-made.new.files
    × IsExtracting
    (source_of opened.form opened.naming opened.texts (g.F.FileFormat.files opened.format.now) (g.F.Format.meaning opened.format.now)
    (g.F.TreeFormat.own opened.format.now) (g.F.Format.directory opened.format.now opened.volume))
    opened.most start last folder (g.O.Folder.state c.extract_next-made.new.folder) (items.0 ++ more.0 ∷ []) told.kept.items told.totals c.extract_next-made.new.names)
    (sym made.opened) (made.files, more.1) in
    record {
      reads = read_twice start now last before.reads made.reads;
      opened = made.opened ∙ before.opened;
      same = made.same ∙ before.same;
      within = subst
          (λ (opened : Opened g.row.F.Denot g.row.F-Volume.Denot). c.loop-entry.entry + 1 ≤ entries (g.F.Format.directory opened.format.now opened.volume))
          (sym (made.opened ∙ before.opened)) (omega (arith, c.loop-entry-test.true, c.entries-entry-end.ensures));
      files = parts.0;
      items = (items.0 ++ more.0 ∷ [], length_push items.0 more.0 ∙ ap (λ n. n + 1) items.1, parts.1);
    }

pub returns-clause-done : goal.returns-clause-done
returns-clause-done g c =
    let before = c.loop-entry.invariant in
    let items = before.items in
    let told = c.loop-entry.told in
    let opened = c.loop-entry.told.opened in
    let start = g.D.Device.state c.args.device.now in
    let now = g.D.Device.state c.loop-entry.device in
    let folder = g.O.Folder.state c.args.folder.now in
    let source = source_of opened.form opened.naming opened.texts (g.F.FileFormat.files opened.format.now) (g.F.Format.meaning opened.format.now)
    (g.F.TreeFormat.own opened.format.now) (g.F.Format.directory opened.format.now opened.volume) in
    let many = ap (λ (opened : Opened g.row.F.Denot g.row.F-Volume.Denot). entries (g.F.Format.directory opened.format.now opened.volume)) before.opened in
    let all : length items.0 ≡ entries source.directory =
    omega (arith, items.1, many, before.within, c.loop-entry-test.false, c.entries-entry-end.ensures) in
    let Tells : List Item → Type 0 = λ items. TellsItems opened.form (g.F.TreeFormat.own opened.format.now)
    (g.F.Format.directory opened.format.now opened.volume) opened.naming items told.kept.items told.totals in
    let done : IsDone source opened.most start now folder (g.O.Folder.state c.loop-entry.folder) Tells = record {
      items = items.0;
      are_items = items.2.are_items;
      all = all;
      within = items.2.within;
      made = items.2.made;
      tells = record { are_kept = items.2.are_kept; all = all; counts = items.2.counts };
    } in
    subst
    (λ (opened : Opened g.row.F.Denot g.row.F-Volume.Denot). IsDone
    (source_of opened.form opened.naming opened.texts (g.F.FileFormat.files opened.format.now) (g.F.Format.meaning opened.format.now)
    (g.F.TreeFormat.own opened.format.now) (g.F.Format.directory opened.format.now opened.volume))
    opened.most start now folder (g.O.Folder.state c.loop-entry.folder) Tells)
    before.opened done

pub returns-in_default-clause-reads : goal.returns-in_default-clause-reads
returns-in_default-clause-reads g c = c.open.ensures.reads

pub returns-in_default-clause-same : goal.returns-in_default-clause-same
returns-in_default-clause-same g c = refl

pub returns-in_default-clause-done : goal.returns-in_default-clause-done
returns-in_default-clause-done g c = tt

pub returns-in-Err-clause-reads : goal.returns-in-Err-clause-reads
returns-in-Err-clause-reads g c = read_twice (g.D.Device.state c.args.device.now) (g.D.Device.state c.loop-entry.device) (g.D.Device.state c.extract_next-made.new.device) c.loop-entry.invariant.reads c.in-Err.ensures.reads

pub returns-in-Err-clause-same : goal.returns-in-Err-clause-same
returns-in-Err-clause-same g c = c.in-Err.ensures.same ∙ c.loop-entry.invariant.same

pub returns-in-Err-clause-done : goal.returns-in-Err-clause-done
returns-in-Err-clause-done g c = tt

pub returns-clause-reads : goal.returns-clause-reads
returns-clause-reads g c = c.loop-entry.invariant.reads

pub returns-clause-same : goal.returns-clause-same
returns-clause-same g c = c.loop-entry.invariant.same

pub returns-clause-stopped : goal.returns-clause-stopped
returns-clause-stopped g c = tt

pub extract_next-made-requires-clause-opened : goal.extract_next-made-requires-clause-opened
extract_next-made-requires-clause-opened g c = c.loop-entry.invariant.files

pub extract_next-made-requires-clause-begun : goal.extract_next-made-requires-clause-begun
extract_next-made-requires-clause-begun g c =
    let items = c.loop-entry.invariant.items in
    (g.D.Device.state c.args.device.now, g.O.Folder.state c.args.folder.now, items.0, items.2)
