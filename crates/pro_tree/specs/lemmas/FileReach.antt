-- In a format whose key pointers and indexes are those of ProDOS, the parts of a volume are the parts of its files.
use Rattle.std.specs.Prelude.{◌≡◌, ◌<◌, ℕ, List, length}
use Rattle.std.proofs.Common.{sym, ◌∙◌, subst}
use Rattle.a2_device.specs.Device.{unit_at}
use Rattle.a2_device.specs.declared.part.Part.{Part}
use Rattle.vol_format.specs.declared.link.Link.TheVariants.{To}
use Rattle.vol_format.specs.Directory.{Directory, entries, root_of}
use Rattle.vol_format.specs.Meaning.{Meaning}
use Rattle.vol_format.specs.Reach.{Reach, at_root, at_child}
use Rattle.pro_tree.specs.Reach.{pro_root, pro_child}
use Rattle.pro_tree.specs.lemmas.ReachLaws.{pro_child_file}
use Rattle.pro_tree.specs.lemmas.Roots.{pro_root_file}
use Rattle.pro_tree.specs.File.{InFile, at_key, at_pointer}

module _ (format : Meaning) (directory : Directory) (store : List (List ℕ)) (storage key : ℕ → ℕ)
    (root_is : (file : ℕ) (part : Part) → root_of directory file ≡ To part → (file < entries directory) × (pro_root (length store) file (storage file) (key file) ≡ To part))
    (is_root : (file : ℕ) (part : Part) → file < entries directory → pro_root (length store) file (storage file) (key file) ≡ To part → root_of directory file ≡ To part)
    (child_is : (part : Part) (unit : List ℕ) (i : ℕ) → format.child (length store) part unit i ≡ pro_child (length store) part.kind part.file part.number unit i) where
  -- a part that is reached is one of a file in use
  pub reach-in_file : (part : Part) → Reach format directory store part
      → (part.file < entries directory) × InFile store part.file (storage part.file) (key part.file) part
  reach-in_file part (at_root file inside is) =
      let root = (root_is file part is).1 in
      let same = pro_root_file (length store) file (storage file) (key file) part root in
      subst (λ f. (f < entries directory) × InFile store f (storage f) (key f) part) (sym same) (inside, at_key root)
  reach-in_file part (at_child {parent} i reached is) =
      let named = sym (child_is parent (unit_at store parent.place) i) ∙ is in
      let same = pro_child_file (length store) parent part (unit_at store parent.place) i named in
      let above = reach-in_file parent reached in
      subst (λ f. (f < entries directory) × InFile store f (storage f) (key f) part) (sym same) (above.0, at_pointer i above.1 named)

  -- and each part of a file in use is reached
  pub in_file-reach : (file : ℕ) (part : Part) → file < entries directory → InFile store file (storage file) (key file) part → Reach format directory store part
  in_file-reach file part inside (at_key is) = at_root file inside (is_root file part inside is)
  in_file-reach file part inside (at_pointer {parent} i reached is) =
      at_child i (in_file-reach file parent inside reached) (child_is parent (unit_at store parent.place) i ∙ is)
