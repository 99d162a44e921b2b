use Rattle.std.proofs.Common.{◌<◌, refl, sym, subst, arith, length}
use Rattle.std.proofs.lemmas.Result.{IfErr-weaker, IfOk-weaker, MatchResult-from_both}
use Rattle.vol_format.specs.Directory.{entries}
use Rattle.volume_extract.specs.Kept.{AreKept}
use Rattle.volume_extract.specs.Source.{contents_since, source_of}
use Rattle.volume_extract.proofs.OneMore.{made_one, not_made, safe_host, safe_text, stopped_before}
use Rattle.volume_extract.proofs.extracting.extract_next.Goals as goal

pub returns-in-Err-clause-next : goal.returns-in-Err-clause-next
returns-in-Err-clause-next g c = λ start before items old.
    let opened = c.args.told.now.opened in
    let format = opened.format.now in
    let source = source_of opened.form opened.naming opened.texts (g.F.FileFormat.files format) (g.F.Format.meaning format) (g.F.TreeFormat.own format)
    (g.F.Format.directory format opened.volume) in
    let last = g.D.Device.state c.next_item.new.device in
    let kept = subst (AreKept source.form source.own source.directory source.naming items) (sym c.deref.ensures.value) old.are_kept in
    stopped_before g.O.Folder.state g.O.Folder.may_fail source opened.most start (contents_since source start last) before
    (g.O.Folder.state c.args.folder.now) items c.in-Err.error old.made (c.in-Err.ensures.next start items old.reads kept old.counted)

pub take_item-requires-clause-safe : goal.take_item-requires-clause-safe
take_item-requires-clause-safe g c =
    let opened = c.args.told.now.opened in
    let format = opened.format.now in
    let source = source_of opened.form opened.naming opened.texts (g.F.FileFormat.files format) (g.F.Format.meaning format) (g.F.TreeFormat.own format)
    (g.F.Format.directory format opened.volume) in
    let begun = c.requires.begun in
    let old = begun.3 in
    let kept = subst (AreKept source.form source.own source.directory source.naming begun.2) (sym c.deref.ensures.value) old.are_kept in
    safe_host source opened.most begun.0 (g.D.Device.state c.args.device.now) (g.D.Device.state c.next_item.new.device) begun.1
    (g.O.Folder.state c.args.folder.now) begun.2 c.args.told.now.kept.items c.args.told.now.totals c.args.names.now c.next_item.new.names old c.in-Ok.next
    (c.in-Ok.ensures.next begun.0 begun.2 old.reads kept old.counted)

pub take_item-requires-clause-text_safe : goal.take_item-requires-clause-text_safe
take_item-requires-clause-text_safe g c =
    let opened = c.args.told.now.opened in
    let format = opened.format.now in
    let source = source_of opened.form opened.naming opened.texts (g.F.FileFormat.files format) (g.F.Format.meaning format) (g.F.TreeFormat.own format)
    (g.F.Format.directory format opened.volume) in
    let begun = c.requires.begun in
    let old = begun.3 in
    let kept = subst (AreKept source.form source.own source.directory source.naming begun.2) (sym c.deref.ensures.value) old.are_kept in
    safe_text source opened.most begun.0 (g.D.Device.state c.args.device.now) (g.D.Device.state c.next_item.new.device) begun.1
    (g.O.Folder.state c.args.folder.now) begun.2 c.args.told.now.kept.items c.args.told.now.totals c.args.names.now c.next_item.new.names old c.in-Ok.next
    (c.in-Ok.ensures.next begun.0 begun.2 old.reads kept old.counted)

pub returns-clause-next : goal.returns-clause-next
returns-clause-next g c = λ start before items old.
    let opened = c.args.told.now.opened in
    let format = opened.format.now in
    let source = source_of opened.form opened.naming opened.texts (g.F.FileFormat.files format) (g.F.Format.meaning format) (g.F.TreeFormat.own format)
    (g.F.Format.directory format opened.volume) in
    let now = g.D.Device.state c.args.device.now in
    let last = g.D.Device.state c.next_item.new.device in
    let folder = g.O.Folder.state c.args.folder.now in
    let kept = subst (AreKept source.form source.own source.directory source.naming items) (sym c.deref.ensures.value) old.are_kept in
    let has = c.in-Ok.ensures.next start items old.reads kept old.counted in
    let inside : length items < entries source.directory = omega (arith, c.requires.entry, c.requires.inside, old.are_kept.long) in
    MatchResult-from_both c.take_item.result _ _
    (IfOk-weaker c.take_item.result _ _
    (λ _ taken.
    made_one source opened.most start now last before folder items c.args.told.now.kept.items c.args.told.now.totals c.args.names.now c.next_item.new.names
    old c.in-Ok.next has c.in-Ok.ensures.reads inside c.take_item.new.told.kept.items c.take_item.new.told.totals
    (g.O.Folder.state c.take_item.new.folder) taken c.take_item.ensures.same)
    c.take_item.ensures.taken)
    (IfErr-weaker c.take_item.result _ _
    (λ error refused.
    not_made source opened.most start now last before folder items c.args.told.now.kept.items c.args.told.now.totals c.args.names.now c.next_item.new.names
    old c.in-Ok.next has g.O.Folder.state g.O.Folder.may_fail c.args.folder.now refl (g.O.Folder.state c.take_item.new.folder) error refused)
    c.take_item.ensures.refused)
