-- The paths of files on a volume of ProDOS.
use Rattle.std.proofs.Common.{◌≡◌, ◌≤◌, ◌∙◌, ◌++◌, ℕ, List, ap, ap₂, sym, length, take, take_all, true, false}
use Rattle.std.specs.Prelude.{◌&&◌, Bool, Option, flat_map, map}
use Rattle.std.specs.List.{list_all}
use Rattle.std.specs.Option.{option_to_list}
use Rattle.std.proofs.lemmas.Bool.{and_from, and_left, and_right}
use Rattle.std.proofs.lemmas.List.Concat.{flat_map-append}
use Rattle.std.proofs.lemmas.List.Folds.{flat_map-map, list_all-map}
use Rattle.edit_formats.specs.ProNames.{is_pro_name}
use Rattle.folder_adding.specs.HostPaths.{Text, before}
use Rattle.std.proofs.Common.{Global, Vec}

module _ (directories : List (Vec ℕ Global)) (name : Text) where
  -- behind the front all directories, and the name
  pub pro_joined : (into : Option Text) (front all : Text) (at : ℕ) → front ≡ flat_map before (option_to_list into)
      → all ≡ front ++ flat_map (λ directory. before directory.items) (take at directories) → length directories ≤ at
      → all ++ name ≡ flat_map before (option_to_list into ++ map (λ directory. directory.items) directories) ++ name
  pro_joined into front all at is_front is_all end =
      ap (λ (text : Text). text ++ name)
      (is_all
      ∙ ap₂ (λ (one other : Text). one ++ other) is_front
      (ap (flat_map (λ (directory : Vec ℕ Global). before directory.items)) (take_all at directories end)
      ∙ sym (flat_map-map before (λ (directory : Vec ℕ Global). directory.items) directories))
      ∙ sym (flat_map-append before (option_to_list into) (map (λ (directory : Vec ℕ Global). directory.items) directories)))

  all_named : (each : Bool) → each ≡ list_all (λ (directory : Vec ℕ Global). is_pro_name directory.items) directories
      → each ≡ list_all is_pro_name (map (λ (directory : Vec ℕ Global). directory.items) directories)
  all_named each is = is ∙ sym (list_all-map is_pro_name (λ (directory : Vec ℕ Global). directory.items) directories)

  -- all of the names may be had, or one may not
  pub names_had : true ≡ list_all (λ directory. is_pro_name directory.items) directories → true ≡ is_pro_name name
      → (list_all is_pro_name (map (λ directory. directory.items) directories) && is_pro_name name) ≡ true
  names_had each last =
      and_from (list_all is_pro_name (map (λ (directory : Vec ℕ Global). directory.items) directories)) (is_pro_name name) (sym (all_named true each)) (sym last)

  pub no_directory_had : false ≡ list_all (λ directory. is_pro_name directory.items) directories
      → (list_all is_pro_name (map (λ directory. directory.items) directories) && is_pro_name name) ≡ false
  no_directory_had each =
      and_left (list_all is_pro_name (map (λ (directory : Vec ℕ Global). directory.items) directories)) (is_pro_name name) (sym (all_named false each))

  pub no_name_had : false ≡ is_pro_name name
      → (list_all is_pro_name (map (λ directory. directory.items) directories) && is_pro_name name) ≡ false
  no_name_had last =
      and_right (list_all is_pro_name (map (λ (directory : Vec ℕ Global). directory.items) directories)) (is_pro_name name) (sym last)
