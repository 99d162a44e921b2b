use Rattle.host_folders.specs.HostEntries.{FileView, SaysFile, file_view}
use Rattle.vol_layout.specs.declared.form.PlaceForm.TheVariants.{Sector}
use Rattle.folder_adding.proofs.Looked.{not_there}
use Rattle.folder_adding.proofs.said_path.path_alone.Goals as goal

pub returns-in-None : goal.returns-in-None
returns-in-None c = λ said says.
    not_there c.in_ok-file.field-0 ((file : FileView) → ¬ SaysFile Sector c.args.path.now file)
    (λ file. SaysFile Sector c.args.path.now (file_view file)) c.in-None.is c.in_ok-file.ensures said.file says.2
