-- What the paths of files that were extracted say.
use Rattle.std.proofs.Common.{◌≡◌, ◌<◌, ◌+◌, ◌∙◌, ℕ, [], ◌∷◌, ◌++◌, Option, Some, None, length, refl, sym, ap, ap₂, subst, arith}
use Rattle.std.specs.Prelude.{flat_map}
use Rattle.std.specs.Option.{option_to_list}
use Rattle.std.proofs.lemmas.List.{append_assoc, length-append}
use Rattle.std.proofs.lemmas.List.Concat.{flat_map-append}
use Rattle.folder_adding.specs.HostPaths.{SaysPath, Text, before, characters, may_have, pro_path, volume_path}
use Rattle.host_folders.specs.HostEntries.{FileView, SaysFile}
use Rattle.host_folders.specs.ReadBack.{entry_file}
use Rattle.host_folders.specs.declared.said.Content.{Content}
use Rattle.host_folders.specs.declared.said.Content.TheVariants as contents
use Rattle.host_folders.specs.HostNames.{name_bytes}
use Rattle.vol_layout.specs.declared.form.PlaceForm.{PlaceForm}
use Rattle.vol_layout.specs.declared.form.PlaceForm.TheVariants.{Block}
use Rattle.round_trip.specs.Extracted.{Extracted, directories_of, entry_in, item_in, names_above, said_of}
use Rattle.round_trip.specs.Planned.{path_again}
use Rattle.round_trip.proofs.Above.{has_path, names_top, say_parts}
use Rattle.round_trip.proofs.Items.{IsKnown}
use Rattle.round_trip.proofs.Paths.{HasNoSlash}
use Rattle.shop_commands.specs.Extracting.{own_of}
use Rattle.shop_jobs.specs.declared.input.FileSystem.{FileSystem}
use Rattle.shop_jobs.specs.declared.input.FileSystem.TheVariants.{Dos, Prodos}
use Rattle.shop_replies.specs.Volume.{form_of}
use Rattle.vol_format.specs.Directory.{Directory, entry_of}
use Rattle.volume_extract.specs.Items.{IsAbove, host_below}
use Rattle.volume_extract.specs.Names.{dos_own}

-- an entry of DOS 3.3 stands in no directory, since its path is its name
top_of : (directory : Directory) (number : ℕ) (above : Option ℕ) → IsAbove dos_own directory number above → above ≡ None
top_of directory number None is = refl
top_of directory number (Some above) is =
    let long : length (entry_of directory number).path ≡ length (entry_of directory above).path + length (0x2f ∷ (entry_of directory number).path) =
    ap length is.path ∙ length-append (entry_of directory above).path (0x2f ∷ (entry_of directory number).path) in
    absurd (omega (arith, long))

module _ (e : Extracted) (all : (number : ℕ) → number < length e.items → IsKnown e number) (number : ℕ) (inside : number < length e.items) where
  in_dos : e.volume.file_system ≡ Dos → (item_in e number).above ≡ None
  in_dos dos =
      top_of e.directory number (item_in e number).above
      (subst (λ (file_system : FileSystem). IsAbove (own_of file_system) e.directory number (item_in e number).above) dos (all number inside).above)

  no_directories : (above : Option ℕ) → above ≡ None → names_above e.items (item_in e number).depth above ≡ []
  no_directories above none =
      ap (names_above e.items (item_in e number).depth) none ∙ names_top e (item_in e number).depth

  -- a text in the folder of its directory
  module _ (text : Text) (content : Content) (lacks : HasNoSlash text)
      (says : SaysFile (item_in e number).entry.form text (entry_file (item_in e number).entry content)) where
    says_by : (file_system : FileSystem) → e.volume.file_system ≡ file_system
        → SaysPath file_system (host_below e.items (item_in e number).above text) (said_of e number content)
    says_by Dos dos =
        let file = entry_file (item_in e number).entry content in
        let top = in_dos dos in
        let form = (all number inside).form ∙ ap form_of dos in
        subst (λ (above : Option ℕ). SaysPath Dos (host_below e.items above text) (said_of e number content)) (sym top)
        (lacks, no_directories (item_in e number).above top, subst (λ (form : PlaceForm). SaysFile form text file) form says)
    says_by Prodos prodos =
        let file = entry_file (item_in e number).entry content in
        let form = (all number inside).form ∙ ap form_of prodos in
        say_parts e all prodos FileView (SaysFile Block) number text file inside lacks (subst (λ (form : PlaceForm). SaysFile form text file) form says)

    pub says_path : (file_system : FileSystem) → file_system ≡ e.volume.file_system → (path : Text)
        → path ≡ host_below e.items (item_in e number).above text → SaysPath file_system path (said_of e number content)
    says_path file_system same path is =
        subst (λ (path : Text). SaysPath file_system path (said_of e number content)) (sym is) (says_by file_system (sym same))

  -- ---- the path on the volume

  pub pro_again : (into : Option Text)
      → pro_path into (directories_of e number) (item_in e number).entry.name ≡ flat_map before (option_to_list into) ++ (entry_in e number).path
  pro_again into =
      let directories = directories_of e number in
      let name = (item_in e number).entry.name in
      ap (λ (front : Text). front ++ name) (flat_map-append before (option_to_list into) directories)
      ∙ append_assoc (flat_map before (option_to_list into)) (flat_map before directories) name
      ∙ ap (λ (path : Text). flat_map before (option_to_list into) ++ path) (sym (has_path e all number inside))

  again_by : (file_system : FileSystem) → e.volume.file_system ≡ file_system → (into : Option Text) (content : Content)
      → volume_path file_system into (said_of e number content) ≡ path_again file_system into (entry_in e number)
  again_by Dos dos into content =
      let k = all number inside in
      ap characters
      (ap₂ name_bytes (k.form ∙ ap form_of dos)
      (k.name ∙ ap (λ (file_system : FileSystem). own_of file_system (entry_in e number)) dos))
  again_by Prodos prodos into content =
      let name = (item_in e number).entry.name in
      ap (λ (form : PlaceForm). pro_path into (directories_of e number) (name_bytes form name)) ((all number inside).form ∙ ap form_of prodos)
      ∙ pro_again into

  pub again : (file_system : FileSystem) → file_system ≡ e.volume.file_system → (into : Option Text) (content : Content)
      → volume_path file_system into (said_of e number content) ≡ path_again file_system into (entry_in e number)
  again file_system same into content = again_by file_system (sym same) into content

-- the names are the same, whatever the bytes are
pub same_names : (file_system : FileSystem) (e : Extracted) (number : ℕ) (content : Content)
    → may_have file_system (said_of e number content) ≡ may_have file_system (said_of e number contents.Bytes)
same_names Dos e number content = refl
same_names Prodos e number content = refl
