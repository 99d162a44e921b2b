use Rattle.std.proofs.Common.{◌≡◌}
use Rattle.std.specs.Prelude.{IsTrue}
use Rattle.file_edits.specs.declared.acceptance.Acceptance.TheVariants.{Known}
use Rattle.folder_adding.specs.Items.{batch_view}
use Rattle.folder_adding.proofs.Steps.{AreAddedTo}
use Rattle.vol_format.specs.Accepted.{IsVolume}
use Rattle.folder_adding.proofs.adding.add_all.Given as goal

-- the items so far were added, and where it is known that the volume is accepted, it is
abbrev pub invariant-loop-number : goal.invariant-loop-number
invariant-loop-number g l =
    AreAddedTo (batch_view l.batch) (g.H.HostFiles.holds l.fn.files) (g.H.HostFiles.holds l.files) (g.F.SavableFormat.saves l.format) (g.F.Format.meaning l.format)
    l.number (g.D.Device.state l.fn.device) (g.D.Device.state l.device)
    × (l.known ≡ Known → IsTrue (g.D.Device.state l.fn.device).honest → IsVolume (g.F.Format.meaning l.format) (g.D.Device.state l.device).store)
