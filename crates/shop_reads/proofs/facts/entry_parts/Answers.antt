use Rattle.std.proofs.Common.{⊎_elim, inl, inr, refl, subst, sym}
use Rattle.std.specs.Prelude.{IsTrue, Ok}
use Rattle.std.specs.declared.alloc.AllocError.{AllocError}
use Rattle.file_cmds.specs.FileParts.{IsFileParts, has_failed}
use Rattle.file_cmds.specs.ReadingOn.{FailedInFile}
use Rattle.file_cmds.specs.declared.file_parts.FileParts.{FileParts}
use Rattle.file_cmds.specs.lemmas.Reading.{once_failed_in_file, one_reading}
use Rattle.volume_compare.specs.Contents.{IsUnread, SeenVolume, volume_in}
use Rattle.shop_reads.specs.EntriesReply.{wants_places}
use Rattle.shop_reads.proofs.FirstFiles.{unread_parts}
use Rattle.shop_reads.proofs.facts.entry_parts.Goals as goal

pub returns-in-Faulty : goal.returns-in-Faulty
returns-in-Faulty g c =
    let old = g.D.Device.state c.args.device.now in
    let new = g.D.Device.state c.parts.new.device in
    let directory = g.F.Format.directory c.args.format.now c.args.volume.now in
    let meaning = g.F.Format.meaning c.args.format.now in
    let volume : SeenVolume = volume_in (g.F.ShownFormat.form c.args.format.now) (g.F.FileFormat.files c.args.format.now) meaning directory old.store in
    record {
      reads = one_reading old new _ c.in_ok-parts.ensures.device;
      kept = c.in_ok-parts.ensures.kept;
      parts = λ honest.
          let unread : IsUnread volume (FailedInFile meaning directory old new) c.args.file =
          ⊎_elim
          (λ faulty. inl (subst (λ (parts : FileParts _). IsFileParts meaning directory old.store c.args.file parts) faulty (c.in_ok-parts.ensures.parts honest)))
          (λ failed. inr (once_failed_in_file meaning directory old new c.args.file
          (c.in_ok-parts.ensures.failed honest (subst (λ (parts : FileParts _). IsTrue (has_failed {E = AllocError} (Ok parts))) (sym failed) refl))))
          c.in-Faulty.is in
          unread_parts volume c.args.options c.args.file (FailedInFile meaning directory old new) unread (wants_places c.args.options);
    }
