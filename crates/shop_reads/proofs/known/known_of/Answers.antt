use Rattle.std.proofs.Common.{subst, sym, List}
use Rattle.file_cmds.specs.ReadingOn.{FailedInFile}
use Rattle.vol_format.specs.Directory.{entries}
use Rattle.file_listings.specs.Known.{FileFacts}
use Rattle.volume_compare.specs.Contents.{SeenVolume, volume_in}
use Rattle.shop_reads.specs.EntriesReply.{AreFactsUpTo}
use Rattle.shop_reads.proofs.FirstFiles.{nothing_known}
use Rattle.shop_reads.proofs.known.known_of.Goals as goal

pub returns-else-wants_any-clause-facts : goal.returns-else-wants_any-clause-facts
returns-else-wants_any-clause-facts g c = λ honest.
    let old = g.D.Device.state c.args.device.now in
    let directory = g.F.Format.directory c.args.format.now c.args.volume.now in
    let volume : SeenVolume = volume_in (g.F.ShownFormat.form c.args.format.now) (g.F.FileFormat.files c.args.format.now) (g.F.Format.meaning c.args.format.now) directory old.store in
    subst (λ (facts : List FileFacts). AreFactsUpTo volume c.args.options (FailedInFile volume.meaning directory old old) (entries directory) facts) (sym c.none.ensures)
    (nothing_known volume c.args.options (FailedInFile volume.meaning directory old old) (λ file. c.wants_any.ensures.nothing c.if-wants_any.false old.store directory file))
