use Rattle.std.proofs.Common.{◌≡◌, ◌∙◌, ap, refl, subst, sym, ⊎_elim, false, inl, inr}
use Rattle.std.specs.Prelude.{IsTrue, Ok, Some, None, Bool, if◌then◌else◌}
use Rattle.std.specs.declared.alloc.AllocError.{AllocError}
use Rattle.file_formats.specs.DosFiles.{number_at}
use Rattle.file_cmds.specs.ReadingOn.{FailedInFile}
use Rattle.file_cmds.specs.Text.{IsWholeTextOf}
use Rattle.file_cmds.specs.FileText.{IsFileText, has_failed}
use Rattle.file_cmds.specs.declared.file_texts.FileText.{FileText}
use Rattle.file_cmds.specs.lemmas.Reading.{once_failed_in_file, one_reading}
use Rattle.file_listings.specs.declared.facts.Facts.{Facts}
use Rattle.vol_format.specs.Directory.{entry_of}
use Rattle.volume_compare.specs.Contents.{IsUnread, SeenVolume, volume_in}
use Rattle.shop_reads.specs.EntriesReply.{AreTextFacts, digest_by, no_digest, wants_address, wants_digest}
use Rattle.shop_reads.proofs.FirstFiles.{both_ok, off, unread_are, unwanted_are, read_are}
use Rattle.shop_reads.proofs.facts.entry_facts.Goals as goal

pub returns-then-not-wants-2-clause-facts : goal.returns-then-not-wants-2-clause-facts
returns-then-not-wants-2-clause-facts g c = λ honest.
    let old = g.D.Device.state c.args.device.now in
    let volume : SeenVolume = volume_in (g.F.ShownFormat.form c.args.format.now) (g.F.FileFormat.files c.args.format.now)
    (g.F.Format.meaning c.args.format.now) (g.F.Format.directory c.args.format.now c.args.volume.now) old.store in
    let address : wants_address volume c.args.options c.args.file ≡ false = sym (c.in_ok-wants.ensures.address old.store) ∙ off _ c.if-not-wants.true in
    let digest : wants_digest volume c.args.options c.args.file ≡ false = sym c.in_ok-wants.ensures.digest ∙ off _ c.if-not-wants-2.true in
    subst (λ (facts : Facts). AreTextFacts volume c.args.options (FailedInFile volume.meaning volume.directory old old) c.args.file facts) (sym c.unread.ensures)
    (unwanted_are volume c.args.options c.args.file (FailedInFile volume.meaning volume.directory old old) address digest)

pub returns-in-Whole-clause-facts : goal.returns-in-Whole-clause-facts
returns-in-Whole-clause-facts g c = λ honest.
    let old = g.D.Device.state c.args.device.now in
    let new = g.D.Device.state c.text.new.device in
    let directory = g.F.Format.directory c.args.format.now c.args.volume.now in
    let meaning = g.F.Format.meaning c.args.format.now in
    let files = g.F.FileFormat.files c.args.format.now in
    let volume : SeenVolume = volume_in (g.F.ShownFormat.form c.args.format.now) files meaning directory old.store in
    let whole = c.in-Whole.text.items in
    let body = files.body (entry_of directory c.args.file).bytes whole in
    let is : IsWholeTextOf meaning directory old.store c.args.file whole =
    subst (λ (text : FileText _). IsFileText meaning directory old.store c.args.file text) c.in-Whole.is (c.in_ok-text.ensures.text honest) in
    let address = c.in_ok-wants.ensures.address old.store in
    both_ok
    (λ (facts : Facts). facts.address ≡ (if c.in_ok-wants.wants.address then Some (number_at whole 0) else None))
    (λ (facts : Facts). facts.digest ≡ (if c.in_ok-wants.wants.digest then digest_by body else no_digest c.in_ok-wants.wants.digests))
    (λ (facts : Facts). AreTextFacts volume c.args.options (FailedInFile meaning directory old new) c.args.file facts)
    c.facts_by.result
    (λ facts told read. read_are volume c.args.options c.args.file (FailedInFile meaning directory old new) whole is facts
    (told ∙ ap (λ (b : Bool). if b then Some (number_at whole 0) else None) address)
    (read ∙ ap (λ (b : Bool). if b then digest_by body else no_digest c.in_ok-wants.wants.digests) c.in_ok-wants.ensures.digest
    ∙ ap (λ (b : Bool). if wants_digest volume c.args.options c.args.file then digest_by body else no_digest b) c.in_ok-wants.ensures.digests))
    c.facts_by.ensures.address c.facts_by.ensures.digest

pub returns-in-Faulty : goal.returns-in-Faulty
returns-in-Faulty g c =
    let old = g.D.Device.state c.args.device.now in
    let new = g.D.Device.state c.text.new.device in
    let directory = g.F.Format.directory c.args.format.now c.args.volume.now in
    let meaning = g.F.Format.meaning c.args.format.now in
    let volume : SeenVolume = volume_in (g.F.ShownFormat.form c.args.format.now) (g.F.FileFormat.files c.args.format.now) meaning directory old.store in
    record {
      reads = one_reading old new _ c.in_ok-text.ensures.device;
      kept = c.in_ok-text.ensures.kept;
      facts = λ honest.
          let unread : IsUnread volume (FailedInFile meaning directory old new) c.args.file =
          ⊎_elim
          (λ faulty. inl (subst (λ (text : FileText _). IsFileText meaning directory old.store c.args.file text) faulty (c.in_ok-text.ensures.text honest)))
          (λ failed. inr (once_failed_in_file meaning directory old new c.args.file
          (c.in_ok-text.ensures.failed honest (subst (λ (text : FileText _). IsTrue (has_failed {E = AllocError} (Ok text))) (sym failed) refl))))
          c.in-Faulty.is in
          subst (λ (facts : Facts). AreTextFacts volume c.args.options (FailedInFile meaning directory old new) c.args.file facts) (sym c.unread-in-Faulty.ensures)
          (unread_are volume c.args.options c.args.file (FailedInFile meaning directory old new) unread);
    }
