use Rattle.std.proofs.Common.{ap, inl, inr, refl, subst, sym}
use Rattle.std.specs.Prelude.{Err, IsTrue}
use Rattle.a2_device.specs.Device.{DeviceState}
use Rattle.file_cmds.specs.ReadingOn.{FailedInFile}
use Rattle.file_listings.specs.Known.{facts_in}
use Rattle.vol_format.specs.Directory.{entries}
use Rattle.shop_replies.specs.declared.reply.Reply.{Reply}
use Rattle.volume_compare.specs.Contents.{volume_in}
use Rattle.shop_reads.specs.EntriesReply.{AreFactsUpTo, IsEntriesTold, ReadTooMuch}
use Rattle.shop_reads.specs.GoingOn.{FailsForLackBy, ReadsBy, list_going}
use Rattle.shop_reads.proofs.ListGoing.{lacks_too_much, lacks_up_to, list_read, list_refused, refused_for_lack}
use Rattle.shop_reads.proofs.Readings.{not_told}
use Rattle.shop_reads.proofs.Quiet.{list_quiet}
use Rattle.shop_reads.proofs.entries.entries_reply.Goals as goal

pub returns-in-Err-clause-reads : goal.returns-in-Err-clause-reads
returns-in-Err-clause-reads g c =
    let old = g.D.Device.state c.args.device.now in
    let new = g.D.Device.state c.read_volume.new.device in
    subst (λ (reply : Reply). ReadsBy (list_going c.args.options) reply old new) (sym c.refusal_reply.ensures)
    (list_refused g.row.F-Volume.Denot c.args.options old new c.in-Err.error c.in-Err.ensures.device)

pub returns-in-Err-clause-told : goal.returns-in-Err-clause-told
returns-in-Err-clause-told g c = λ honest lack.
    let old = g.D.Device.state c.args.device.now in
    let new = g.D.Device.state c.read_volume.new.device in
    let form = g.F.ShownFormat.form c.args.format.now in
    let files = g.F.FileFormat.files c.args.format.now in
    let meaning = g.F.Format.meaning c.args.format.now in
    let lacking = subst (λ (reply : Reply). FailsForLackBy (list_going c.args.options) reply old new) c.refusal_reply.ensures lack in
    subst (λ (reply : Reply). IsEntriesTold c.args.options form files meaning old reply) (sym c.refusal_reply.ensures)
    (not_told files meaning old c.args.options form c.in-Err.error (λ is. c.in-Err.ensures.found (ap Err is)) (λ is. c.in-Err.ensures.check honest (ap Err is))
    (refused_for_lack g.row.F-Volume.Denot c.args.options old new c.in-Err.error honest c.in-Err.ensures.device lacking))

pub returns-in-Ok-known_of-clause-reads : goal.returns-in-Ok-known_of-clause-reads
returns-in-Ok-known_of-clause-reads g c =
    let old = g.D.Device.state c.args.device.now in
    let mid = g.D.Device.state c.read_volume.new.device in
    let new = g.D.Device.state c.known_of.new.device in
    list_read c.args.options old mid new c.known_reply.result (list_quiet c.in-Ok-known_of.known.complete c.known_reply.result c.known_reply.ensures)
    c.in-Ok.ensures.device c.known_of.ensures.reads c.known_of.ensures.alone

pub returns-in-Ok-known_of-clause-told : goal.returns-in-Ok-known_of-clause-told
returns-in-Ok-known_of-clause-told g c = λ honest lack.
    let old = g.D.Device.state c.args.device.now in
    let new = g.D.Device.state c.known_of.new.device in
    let form = g.F.ShownFormat.form c.args.format.now in
    let files = g.F.FileFormat.files c.args.format.now in
    let meaning = g.F.Format.meaning c.args.format.now in
    let directory = g.F.Format.directory c.args.format.now c.in-Ok.volume in
    let facts = facts_in c.in-Ok-known_of.known.files in
    let read = c.in-Ok.ensures.device in
    let are : AreFactsUpTo (volume_in form files meaning directory old.store) c.args.options (FailedInFile meaning directory old new) (entries directory) facts =
    subst (λ (d : DeviceState). AreFactsUpTo (volume_in form files meaning directory d.store) c.args.options (FailedInFile meaning directory d new) (entries directory) facts)
    (read.kept honest refl) (c.in-Ok-known_of.ensures.facts (subst IsTrue (sym read.same.honest) honest)) in
    inl (record {
      directory = directory;
      described = c.in-Ok.ensures.described honest;
      facts = facts;
      are = lacks_up_to (volume_in form files meaning directory old.store) c.args.options c.known_reply.result old new honest lack (entries directory) facts are;
      few = c.in-Ok-known_of.ensures.few;
      complete = c.in-Ok-known_of.known.complete;
      ended = c.in-Ok-known_of.ensures.complete;
      told = c.known_reply.ensures;
    })

pub returns-in-Err-TooLarge-clause-told : goal.returns-in-Err-TooLarge-clause-told
returns-in-Err-TooLarge-clause-told g c = λ honest lack.
    let old = g.D.Device.state c.args.device.now in
    let new = g.D.Device.state c.known_of.new.device in
    let form = g.F.ShownFormat.form c.args.format.now in
    let files = g.F.FileFormat.files c.args.format.now in
    let meaning = g.F.Format.meaning c.args.format.now in
    let directory = g.F.Format.directory c.args.format.now c.in-Ok.volume in
    let read = c.in-Ok.ensures.device in
    let much : ReadTooMuch (volume_in form files meaning directory old.store) c.args.options (FailedInFile meaning directory old new) =
    subst (λ (d : DeviceState). ReadTooMuch (volume_in form files meaning directory d.store) c.args.options (FailedInFile meaning directory d new))
    (read.kept honest refl) (c.in-Err-TooLarge.ensures.many (subst IsTrue (sym read.same.honest) honest) (ap Err c.in-Err-TooLarge.field-0-is)) in
    inr (inr (inl (
      c.refused.ensures,
      record {
        directory = directory;
        described = c.in-Ok.ensures.described honest;
        read = lacks_too_much (volume_in form files meaning directory old.store) c.args.options c.refused.result old new honest lack much;
      },
    )))
