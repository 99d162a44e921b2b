-- Files that were extracted are planned as what they were.
use Rattle.std.proofs.Common.{◌≡◌, ◌<◌, ◌∙◌, ℕ, true, false, Option, Some, None, length, refl, sym, ap, ap₂, subst, arith}
use Rattle.std.specs.Prelude.{IsSome, Ok}
use Rattle.file_forms.specs.declared.form.GivenForm.{GivenForm}
use Rattle.folder_adding.specs.HostPaths.{SaysPath, Text, may_have}
use Rattle.folder_adding.specs.Items.{ItemView}
use Rattle.folder_adding.specs.declared.item.Second.{Second}
use Rattle.folder_adding.specs.Verdicts.{AddedFolder, IsVerdict, adds, form_given, is_item, is_second, item_said, no_name, no_plain_file, no_type, second_of}
use Rattle.host_folders.specs.declared.said.Content.{Content}
use Rattle.host_folders.specs.declared.said.Content.TheVariants.{Bytes}
use Rattle.host_folders.proofs.ReadBack.{file_read_back}
use Rattle.host_folders.specs.HostNames.{dos_type, host_name, type_in, type_of}
use Rattle.host_folders.specs.declared.entry.Naming.TheVariants.{Naps}
use Rattle.vol_layout.specs.declared.form.PlaceForm.{PlaceForm}
use Rattle.round_trip.specs.Extracted.{Extracted, IsExtracted, item_in, said_of}
use Rattle.round_trip.specs.Planned.{IsPlannedAgain, MayBeNew, file_at, item_again, path_in}
use Rattle.round_trip.specs.Whole.{IsFileIn}
use Rattle.round_trip.proofs.Above.{host_no_slash}
use Rattle.round_trip.proofs.Items.{IsKnown, file_found, known}
use Rattle.round_trip.proofs.Says.{again, same_names, says_path}
use Rattle.shop_changes.specs.GivenWords.{dos_kind_for, kind_for}
use Rattle.shop_jobs.specs.declared.input.FileSystem.{FileSystem}
use Rattle.shop_jobs.specs.declared.input.FileSystem.TheVariants.{Dos, Prodos}
use Rattle.shop_replies.specs.Volume.{form_of}

-- ---- the kind

pub some_value : (found : Option ℕ) → IsSome found → (value : ℕ) × (found ≡ Some value)
some_value None is = absurd cc
some_value (Some value) is = (value, refl)

dos_kind_back : (kind new : ℕ) → dos_kind_for (dos_type kind) ≡ Some new → new ≡ kind
dos_kind_back kind new is = grind arith

-- the kind that a file gets by its type is the one that it had
kind_back : (file_system : FileSystem) (kind new : ℕ) → kind_for file_system (type_in (form_of file_system) kind) ≡ Some new → new ≡ kind
kind_back Dos kind new is = dos_kind_back kind new is
kind_back Prodos kind new is = cc

abbrev item_of : Text → ℕ → ℕ → Option GivenForm → Option Second → ItemView
item_of path kind aux form second = record { path = path; kind = Some kind; aux = Some aux; form = form; second = second }

module _ (e : Extracted) (all : (number : ℕ) → number < length e.items → IsKnown e number) (number : ℕ) (inside : number < length e.items)
    (folder : AddedFolder) (same : folder.file_system ≡ e.volume.file_system) where
  type_by : type_of (item_in e number).entry ≡ type_in (form_of folder.file_system) (item_in e number).entry.kind
  type_by =
      ap (λ (form : PlaceForm). type_in form (item_in e number).entry.kind) ((all number inside).form ∙ ap form_of (sym same))

  pub planned : (path : Text) (content : Content) → SaysPath folder.file_system path (said_of e number content)
      → is_second folder path (said_of e number content) ≡ false
      → second_of folder.entries path (said_of e number content).file ≡ second_of folder.entries (item_in e number).host (said_of e number content).file
      → MayBeNew e number
      → IsVerdict folder (file_at path) (Ok (adds (item_again folder e number content)))
  planned path content says first beside may =
      let said = said_of e number content in
      let type = type_of (item_in e number).entry in
      let found = some_value (kind_for folder.file_system type)
      (subst (λ (file_system : FileSystem). IsSome (kind_for file_system type)) (sym same) may.kind) in
      let names : may_have folder.file_system said ≡ true =
      same_names folder.file_system e number content
      ∙ ap (λ (file_system : FileSystem). may_have file_system (said_of e number Bytes)) same ∙ may.names in
      let kind : found.0 ≡ (item_in e number).entry.kind =
      kind_back folder.file_system (item_in e number).entry.kind found.0 (ap (kind_for folder.file_system) (sym type_by) ∙ found.1) in
      let item : item_said folder path said found.0 ≡ item_again folder e number content =
      ap₂ (λ (stored : Text) (kind : ℕ). item_of stored kind said.file.aux_type (form_given folder.file_system content) (second_of folder.entries path said.file))
      (again e all number inside folder.file_system same folder.into content) kind
      ∙ ap (item_of (path_in folder e number) (item_in e number).entry.kind said.file.aux_type (form_given folder.file_system content)) beside in
      subst (λ (item : ItemView). IsVerdict folder (file_at path) (Ok (adds item))) item
      (is_item said found.0 (says, may.plain) first found.1 names)

pub planned_again : (e : Extracted) (folder : AddedFolder) (number : ℕ) → IsExtracted e → folder.file_system ≡ e.volume.file_system
    → IsFileIn e number → IsPlannedAgain folder e number
planned_again e folder number is same of =
    let inside = of.0 in
    let read = of.1 in
    let all = known e is in
    let k = all number inside in
    let item = item_in e number in
    let host = host_name Naps item.entry item.number in
    let no_directory = file_found e is number inside read in
    let says = says_path e all number inside host Bytes (host_no_slash e number k)
    (file_read_back item.entry item.number k.fits k.counts no_directory) folder.file_system same item.host k.host in
    let said = said_of e number Bytes in
    let type = type_of item.entry in
    record {
      says = says;
      planned = λ may. planned e all number inside folder same item.host Bytes says refl refl may;
      directory_type = λ directory. no_plain_file said says directory;
      no_type = λ plain none.
          no_type said (says, plain) refl (ap (λ (file_system : FileSystem). kind_for file_system type) same ∙ none);
      no_name = λ plain typed named.
          let found = some_value (kind_for folder.file_system type)
          (subst (λ (file_system : FileSystem). IsSome (kind_for file_system type)) (sym same) typed) in
          no_name said found.0 (says, plain) refl found.1 (ap (λ (file_system : FileSystem). may_have file_system said) same ∙ named);
    }
