-- Of the parts of a file with one kind and number there is one.
use Rattle.std.specs.Prelude.{◌≡◌, ◌≤◌, ℕ, List, length}
use Rattle.std.proofs.Common.{refl, sym, ◌∙◌, ap, subst, arith}
use Rattle.a2_device.specs.Device.{unit_at}
use Rattle.a2_device.specs.declared.part.Part.{Part}
use Rattle.vol_format.specs.declared.link.Link.TheVariants.{To}
use Rattle.vol_format.specs.Directory.{Directory, root_of}
use Rattle.vol_format.specs.Laws.{IsReadable, IsMovable}
use Rattle.vol_format.specs.Meaning.{Meaning, link_from}
use Rattle.vol_format.specs.Reach.{Reach, at_root, at_child}

pub named : (part other : Part) → To part ≡ To other → part ≡ other
named part other e = cc

module _ (format : Meaning) (laws : IsReadable format) (directory : Directory) (store : List (List ℕ))
    (files : (file : ℕ) (part : Part) → root_of directory file ≡ To part → part.file ≡ file) where
  root_first : (root part : Part) (file : ℕ) → root_of directory file ≡ To root → Reach format directory store part → part.file ≡ file → format.rank root ≤ format.rank part
  root_first root part file is (at_root other within is') same =
      let at : file ≡ other = sym same ∙ files other part is' in
      let equal : root ≡ part = named root part (sym is ∙ ap (root_of directory) at ∙ is') in
      subst (λ (x : Part). format.rank root ≤ format.rank x) equal (omega arith)
  root_first root part file is (at_child {parent} i reach is') same =
      let held = laws.child_file (length store) parent part (unit_at store parent.place) i is' in
      let above = laws.child_later (length store) parent part (unit_at store parent.place) i is' in
      omega (arith, above, root_first root parent file is reach (sym held ∙ same))

  root_below_child : (root child parent : Part) (i file : ℕ) → root_of directory file ≡ To root → Reach format directory store parent
      → link_from format store parent i ≡ To child → root.file ≡ child.file → format.rank root ≡ format.rank child → ⊥
  root_below_child root child parent i file is reach link same rank =
      let held = laws.child_file (length store) parent child (unit_at store parent.place) i link in
      let above = laws.child_later (length store) parent child (unit_at store parent.place) i link in
      absurd (omega (arith, above, rank, root_first root parent file is reach (sym held ∙ sym same ∙ files file root is)))

  -- what an entry points to is named by no unit
  pub root_no_child : (parent part : Part) (i file : ℕ) → Reach format directory store parent → link_from format store parent i ≡ To part → root_of directory file ≡ To part → ⊥
  root_no_child parent part i file reach link root = root_below_child part part parent i file root reach link refl refl

  pub one_part : IsMovable format → (part other : Part) → Reach format directory store part → Reach format directory store other
      → part.file ≡ other.file → part.kind ≡ other.kind → part.number ≡ other.number → part ≡ other
  one_part movable part other (at_root f within is) (at_root f' within' is') file kind number =
      named part other (sym is ∙ ap (root_of directory) (sym (files f part is) ∙ file ∙ files f' other is') ∙ is')
  one_part movable part other (at_root f within is) (at_child {parent} i reach is') file kind number =
      absurd (root_below_child part other parent i f is reach is' file (movable.rank_of part other kind number))
  one_part movable part other (at_child {parent} i reach is) (at_root f within is') file kind number =
      absurd (root_below_child other part parent i f is' reach is (sym file) (movable.rank_of other part (sym kind) (sym number)))
  one_part movable part other (at_child {parent} i reach is) (at_child {parent = parent'} i' reach' is') file kind number =
      let held = laws.child_file (length store) parent part (unit_at store parent.place) i is in
      let held' = laws.child_file (length store) parent' other (unit_at store parent'.place) i' is' in
      let slot = movable.one_slot (length store) parent parent' part other (unit_at store parent.place) (unit_at store parent'.place) i i' (sym held ∙ file ∙ held') is is' kind number in
      let same = one_part movable parent parent' reach reach' (sym held ∙ file ∙ held') slot.0 slot.1 in
      named part other (sym is ∙ ap (λ (x : Part). link_from format store x i) same ∙ ap (link_from format store parent') slot.2 ∙ is')
