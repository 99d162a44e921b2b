-- What is told of the path of a new ProDOS file, from a walk over the directories.
use Rattle.std.specs.Prelude.{◌≡◌, ◌<◌, ℕ, Bool, true, false, List, length, Option, Some, None, option_map, slice_get}
use Rattle.std.proofs.Common.{refl, sym, ◌∙◌, ap}
use Rattle.pro_dir.specs.declared.entry.Entry.{Entry}
use Rattle.pro_dir.specs.Entry.{free_slots_in}
use Rattle.pro_dir.specs.Paths.{folded}
use Rattle.pro_dir.specs.Tree.{IsRun}
use Rattle.pro_dir.specs.Volume.{Directory as Tree, Describes}
use Rattle.pro_dir.specs.Walk.{IsKeyOf}
use Rattle.pro_format.proofs.OneKey.{key_run}
use Rattle.pro_format.proofs.SlotLaws.{key_of_path}
use Rattle.edit_formats.specs.ProNames.{is_name_in, is_pro_name}
use Rattle.edit_formats.specs.declared.target.Target.TheVariants.{NoName, InUse, Full, At}
use Rattle.edit_formats.specs.ProSaves.{above_name, last_name, HasFirstFree, IsDirectoryAbove, IsNameIn, IsProTarget}
use Rattle.edit_formats.specs.lemmas.ProSavable.{path_above}

module _ (store : List (List ℕ)) (path : List ℕ) (tree : Tree) (described : Describes store tree) (key : ℕ) (above : IsDirectoryAbove tree.entries (above_name path) key) where
  is_key : IsKeyOf tree.entries key
  is_key = key_of_path tree.entries key (option_map folded (above_name path)) (path_above tree.entries (above_name path) key above)

  pub key_below : key < length store
  key_below = (key_run store tree.blocks tree.entries described.tree key is_key).1.can_link.1

  module _ (name : List ℕ) (may : Bool) (name_is : name ≡ last_name path) (may_is : may ≡ is_pro_name name) where
    may_have : is_pro_name (last_name path) ≡ may
    may_have = ap is_pro_name (sym name_is) ∙ sym may_is

    pub no_name : may ≡ false → IsProTarget store path NoName
    no_name not = record { tree = tree; described = described; key = key; above = above; is = may_have ∙ not }

    module _ (shown : List Entry) (has : Bool) (shown_is : shown ≡ tree.entries) (has_is : has ≡ is_name_in key (folded name) shown) (is : may ≡ true) where
      name_in : IsNameIn has path tree key
      name_in = (
        may_have ∙ is,
        ap (λ (n : List ℕ). is_name_in key (folded n) tree.entries) (sym name_is) ∙ ap (λ (es : List Entry). is_name_in key (folded name) es) (sym shown_is) ∙ sym has_is,
      )

      pub in_use : has ≡ true → IsProTarget store path InUse
      in_use some = record { tree = tree; described = described; key = key; above = above; is = (name_in.0, name_in.1 ∙ some) }

      module _ (free : Option (ℕ × ℕ)) (none : has ≡ false)
          (first : (own : List ℕ) → IsKeyOf tree.entries key → IsRun store key own → free ≡ slice_get (free_slots_in store key own) 0) where
        first_free : (told : Option (ℕ × ℕ)) → free ≡ told → HasFirstFree store key told
        first_free told is_told =
            let its = key_run store tree.blocks tree.entries described.tree key is_key in
            record { own = its.0; run = its.1; is = sym (first its.0 is_key its.1) ∙ is_told }

        pub full : free ≡ None → IsProTarget store path Full
        full is_none = record { tree = tree; described = described; key = key; above = above; is = ((name_in.0, name_in.1 ∙ none), first_free None is_none) }

        pub at_slot : (place number : ℕ) → free ≡ Some (place, number) → IsProTarget store path (At (record { directory = key; place = place; number = number }))
        at_slot place number is_some = record {
          tree = tree;
          described = described;
          key = key;
          above = above;
          is = ((name_in.0, name_in.1 ∙ none), first_free (Some (place, number)) is_some, refl);
        }
