-- Whatever is read beside an image, no more was done than standard input read.
use Rattle.std.proofs.Common.{◌∙◌, sym, ap}
use Rattle.shop_host.specs.State.{HostState}
use Rattle.shop_host.specs.Runs.{IsLooking, IsReadingInput}
use Rattle.shop_jobs.specs.Input.{BesideView, FileBeside, FolderBeside, ImageBeside, NothingBeside}
use Rattle.shop_jobs.specs.Input.{FromFile, Nowhere, SourceView, StandardInput}
use Rattle.shop_inputs.specs.Beside.{IsReadingBeside, IsReadingImage}

-- a look reads nothing of standard input
pub input_look : (old new : HostState) → IsLooking old new → IsReadingInput old new
input_look old new look = record {
  same = look.same ∙ ap (λ input. record old { input = input; refused = new.refused; locks = new.locks })
      (sym (ap (λ (h : HostState). h.input) look.same));
  refused = look.refused;
  locks = look.locks;
}

pub input_image : (source : SourceView) (old new : HostState) → IsReadingImage source old new → IsReadingInput old new
input_image Nowhere old new look = input_look old new look
input_image StandardInput old new read = read
input_image (FromFile path) old new look = input_look old new look

pub input_beside : (beside : BesideView) (old new : HostState) → IsReadingBeside beside old new → IsReadingInput old new
input_beside NothingBeside old new look = input_look old new look
input_beside (FileBeside path) old new look = input_look old new look
input_beside (ImageBeside source order) old new read = input_image source old new read
input_beside (FolderBeside path) old new look = input_look old new look
