-- The item of a file.
use Rattle.std.proofs.Common.{◌≡◌, ◌∙◌, ap, ap₂, ℕ, Option, Some, sym}
use Rattle.file_forms.specs.declared.form.GivenForm.{GivenForm}
use Rattle.folder_adding.specs.HostPaths.{SaidPath, Text, volume_path}
use Rattle.folder_adding.specs.Items.{ItemView}
use Rattle.folder_adding.specs.Verdicts.{AddedFolder, form_given, item_said, second_of}
use Rattle.folder_adding.specs.declared.item.Second.{Second}

abbrev item_of : SaidPath → ℕ → Text → Option GivenForm → Option Second → ItemView
item_of said kind path form second =
    record { path = path; kind = Some kind; aux = Some said.file.aux_type; form = form; second = second }

pub same_item : (folder : AddedFolder) (host : Text) (said : SaidPath) (kind : ℕ) (path : Text) (form : Option GivenForm) (second : Option Second)
    → path ≡ volume_path folder.file_system folder.into said → form ≡ form_given folder.file_system said.file.content
    → second ≡ second_of folder.entries host said.file → item_said folder host said kind ≡ item_of said kind path form second
same_item folder host said kind path form second pathed formed beside =
    sym (ap₂ (λ (p : Text) (f : Option GivenForm). item_of said kind p f second) pathed formed
    ∙ ap (item_of said kind (volume_path folder.file_system folder.into said) (form_given folder.file_system said.file.content)) beside)
