-- Blocks 0 and 1 are the system's.
use Rattle.std.specs.Prelude.{◌≡◌, ◌≤◌, ◌<◌, ◌+◌, ◌||◌, not, ◌&&◌, nat_lt, ℕ, Bool, true, false, List}
use Rattle.std.proofs.Common.{refl, sym, ◌∙◌, ap, arith}
use Rattle.std.proofs.lemmas.Bool.Decides.{nat_tests}
use Rattle.pro_dir.specs.Volume.{map_blocks, map_first, total_blocks}
use Rattle.vol_layout.specs.Reserved.{is_reserved}
use Rattle.vol_format.specs.Directory.{Directory, is_system}
use Rattle.pro_format.specs.Pro.{DescribesPro, is_one_of, is_pro_system}
use Rattle.pro_format.specs.lemmas.ProMarks.{places_is}
use Rattle.pro_format.specs.lemmas.ProSystem.{system-at}

pub available_high : (reserved : List Bool) (store : List (List ℕ)) (directory : Directory) (described : DescribesPro reserved store directory) (place : ℕ)
    → place < directory.places → is_system directory place ≡ false → 2 ≤ place
available_high reserved store directory described place inside outside = by_test (nat_lt place 2) refl
  where
    at : is_pro_system reserved described.tree place ≡ false
    at =
        sym (system-at reserved described.tree place (omega (arith, inside, places_is reserved store directory described)))
        ∙ sym (ap (λ (d : Directory). is_system d place) described.says) ∙ outside

    by_test : (low : Bool) → nat_lt place 2 ≡ low → 2 ≤ place
    by_test false is = grind (arith, nat_tests, is)
    by_test true is =
        let tree = described.tree in
        let some : is_pro_system reserved tree place ≡ true =
        ap (λ b. ((b || (not (nat_lt place (map_first tree.header)) && nat_lt place (map_first tree.header + map_blocks (total_blocks tree.header)))) || is_reserved reserved place) || is_one_of tree.blocks place) is in
        absurd (cc (some, at))
