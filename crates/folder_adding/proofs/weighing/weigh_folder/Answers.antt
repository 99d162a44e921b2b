use Rattle.std.proofs.Common.{◌≡◌, ◌∙◌, List, Ok, ℕ, ap, ap₂, map, sym, subst, true, false}
use Rattle.std.specs.Option.{option_copied}
use Rattle.folder_adding.specs.HostPaths.{SaidDirectory, SaysDirectory, Text, are_pro_names, pro_path}
use Rattle.folder_adding.specs.Verdicts.{IsFolderVerdict, is_directory, makes, no_directory, no_directory_name}
use Rattle.folder_adding.specs.Weighing.{directory_view, folder_at}
use Rattle.folder_adding.proofs.Looked.{not_there, there}
use Rattle.folder_adding.proofs.weighing.weigh_folder.Goals as goal

pub returns-in_default : goal.returns-in_default
returns-in_default c = λ entries.
    no_directory
    (not_there c.in_ok-said.field-0 ((said : SaidDirectory) → ¬ SaysDirectory c.args.destination.now.file_system c.args.path.now said)
    (λ said. SaysDirectory c.args.destination.now.file_system c.args.path.now (directory_view said)) c.in_default.is c.in_ok-said.ensures)

pub returns-in-Some-2 : goal.returns-in-Some-2
returns-in-Some-2 c = λ entries.
    let folder = folder_at c.args.destination.now entries in
    let said = directory_view c.in-Some.said in
    let into = option_copied c.args.destination.now.into in
    let says =
    there c.in_ok-said.field-0 c.in-Some.said ((said : SaidDirectory) → ¬ SaysDirectory c.args.destination.now.file_system c.args.path.now said)
    (λ said. SaysDirectory c.args.destination.now.file_system c.args.path.now (directory_view said)) c.in-Some.is c.in_ok-said.ensures in
    let read = map (λ name. name.items) c.as_slice-directories.result.now in
    let names : read ≡ said.directories = ap (map (λ name. name.items)) c.as_slice-directories.ensures.value in
    let named =
    there c.in_ok-path.field-0 c.in-Some-2.path (are_pro_names read c.as_slice.result.now ≡ false)
    (λ path. (are_pro_names read c.as_slice.result.now ≡ true) × (path.items ≡ pro_path into read c.as_slice.result.now))
    c.in-Some-2.is c.in_ok-path.ensures in
    subst (λ (path : Text). IsFolderVerdict folder c.args.path.now (Ok (makes path)))
    (sym (named.1 ∙ ap₂ (pro_path into) names c.as_slice.ensures.value))
    (is_directory said says (sym (ap₂ are_pro_names names c.as_slice.ensures.value) ∙ named.0))

pub returns : goal.returns
returns c = λ entries.
    let said = directory_view c.in-Some.said in
    let into = option_copied c.args.destination.now.into in
    let says =
    there c.in_ok-said.field-0 c.in-Some.said ((said : SaidDirectory) → ¬ SaysDirectory c.args.destination.now.file_system c.args.path.now said)
    (λ said. SaysDirectory c.args.destination.now.file_system c.args.path.now (directory_view said)) c.in-Some.is c.in_ok-said.ensures in
    let read = map (λ name. name.items) c.as_slice-directories.result.now in
    let names : read ≡ said.directories = ap (map (λ name. name.items)) c.as_slice-directories.ensures.value in
    let unnamed =
    not_there c.in_ok-path.field-0 (are_pro_names read c.as_slice.result.now ≡ false)
    (λ path. (are_pro_names read c.as_slice.result.now ≡ true) × (path.items ≡ pro_path into read c.as_slice.result.now))
    c.in-None.is c.in_ok-path.ensures in
    no_directory_name said says (sym (ap₂ are_pro_names names c.as_slice.ensures.value) ∙ unnamed)
