-- The laws of what a volume says.
use Rattle.std.specs.Prelude.{◌≡◌, ℕ, List}
use Rattle.std.proofs.Common.{sym, ◌∙◌, ap, subst, ⊎_elim}
use Rattle.a2_device.specs.declared.fault.Fault.{Fault}
use Rattle.pro_dir.specs.declared.entry.Entry.{Entry}
use Rattle.pro_dir.specs.lemmas.TreeLaws.{one_tree, no_tree}
use Rattle.pro_dir.specs.Volume.{Directory, Describes, HasMap, VolumeFaultAt, map_first, volume_header}

-- a store says one thing at most
pub one_directory : (store : List (List ℕ)) (directory other : Directory) → Describes store directory → Describes store other → other ≡ directory
one_directory store directory other one two =
    let same = one_tree store directory.blocks other.blocks directory.entries other.entries one.tree two.tree in
    ap (λ (header : List ℕ). record { header = header; blocks = other.blocks; entries = other.entries }) (two.header ∙ sym one.header)
    ∙ ap (λ (blocks : List ℕ). record { header = directory.header; blocks = blocks; entries = other.entries }) same.0
    ∙ ap (λ (entries : List Entry). record { header = directory.header; blocks = directory.blocks; entries = entries }) same.1

-- a store with a fault says nothing
pub no_directory : (store : List (List ℕ)) (fault : Fault) (directory : Directory) → VolumeFaultAt store fault → Describes store directory → ⊥
no_directory store fault directory bad is =
    ⊎_elim
    (λ geometry. geometry.1 is.geometry)
    (λ others. ⊎_elim
    (λ tree. no_tree store fault directory.blocks directory.entries tree.1 is.tree)
    (λ map.
    let other = map.2 in
    other.bad (subst (λ blocks. HasMap store (map_first (volume_header store)) blocks) (sym (one_tree store directory.blocks other.blocks directory.entries other.entries is.tree other.tree).0)
    (subst (λ header. HasMap store (map_first header) directory.blocks) is.header is.map)))
    others)
    bad
