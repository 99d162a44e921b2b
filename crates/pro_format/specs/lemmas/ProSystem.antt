-- Which places are the system's, by the directories.
use Rattle.std.specs.Prelude.{◌≡◌, ◌<◌, ◌≤◌, ℕ, ◌+◌, ◌==◌, nat_lt, not, ◌&&◌, ◌||◌, Bool, true, false, List, length, Contains, slice_index_or}
use Rattle.std.proofs.Common.{refl, ◌∙◌, arith, get_or}
use Rattle.std.proofs.lemmas.Bool.{eq-eqb}
use Rattle.std.proofs.lemmas.Bool.Decides.{nat_tests}
use Rattle.std.proofs.lemmas.List.Folds.{list_any_at}
use Rattle.std.proofs.lemmas.List.FromFn.{length-map-range_with_len, get_or-map-range_with_len}
use Rattle.pro_dir.specs.Volume.{Directory as Tree, map_blocks, map_first, total_blocks}
use Rattle.vol_layout.specs.Reserved.{is_reserved}
use Rattle.pro_format.specs.Pro.{is_one_of, is_fixed, is_pro_system, pro_system}

pub one_of-has : (blocks : List ℕ) (place : ℕ) → Contains blocks place → is_one_of blocks place ≡ true
one_of-has blocks place has = list_any_at (λ block. block == place) blocks has.0 place has.1 (eq-eqb (get_or blocks has.0 place) place has.2)

or_right : (a b : Bool) → b ≡ true → (a || b) ≡ true
or_right true b is = refl
or_right false b is = is

or_left : (a b : Bool) → a ≡ true → (a || b) ≡ true
or_left true b is = refl
or_left false b is = absurd (cc)

module _ (reserved : List Bool) (tree : Tree) where
  pub length-system : length (pro_system reserved tree) ≡ total_blocks tree.header
  unfolding pro_system
  length-system = length-map-range_with_len (is_pro_system reserved tree) 0 (total_blocks tree.header)

  pub system-at : (place : ℕ) → place < total_blocks tree.header → slice_index_or (pro_system reserved tree) place true ≡ is_pro_system reserved tree place
  unfolding pro_system
  system-at place within = get_or-map-range_with_len (is_pro_system reserved tree) 0 (total_blocks tree.header) place place true within (omega arith)

  -- the directories' blocks
  pub block_inside : (place : ℕ) → place < total_blocks tree.header → Contains tree.blocks place → slice_index_or (pro_system reserved tree) place true ≡ true
  block_inside place within has = system-at place within ∙ or_right (is_fixed reserved tree place) (is_one_of tree.blocks place) (one_of-has tree.blocks place has)

  -- and the map's
  pub map_inside : (place : ℕ) → place < total_blocks tree.header → map_first tree.header ≤ place → place < map_first tree.header + map_blocks (total_blocks tree.header)
      → slice_index_or (pro_system reserved tree) place true ≡ true
  map_inside place within from below = system-at place within ∙ or_left (is_fixed reserved tree place) (is_one_of tree.blocks place) fixed
    where
      nat_below : (a b : ℕ) → nat_lt a b ≡ true → a < b
      nat_below a b is = grind (arith, nat_tests)

      nat_not_below : (a b : ℕ) → nat_lt a b ≡ false → a < b → ⊥
      nat_not_below a b is less = grind (arith, nat_tests)

      of_map : (behind before : Bool) → nat_lt place (map_first tree.header) ≡ behind → nat_lt place (map_first tree.header + map_blocks (total_blocks tree.header)) ≡ before
          → (not behind && before) ≡ true
      of_map true before is is' = absurd (omega (arith, from, nat_below place (map_first tree.header) is))
      of_map false false is is' = absurd (nat_not_below place (map_first tree.header + map_blocks (total_blocks tree.header)) is' below)
      of_map false true is is' = refl

      fixed : is_fixed reserved tree place ≡ true
      fixed =
          or_left (nat_lt place 2 || (not (nat_lt place (map_first tree.header)) && nat_lt place (map_first tree.header + map_blocks (total_blocks tree.header)))) (is_reserved reserved place)
          (or_right (nat_lt place 2) (not (nat_lt place (map_first tree.header)) && nat_lt place (map_first tree.header + map_blocks (total_blocks tree.header)))
          (of_map (nat_lt place (map_first tree.header)) (nat_lt place (map_first tree.header + map_blocks (total_blocks tree.header))) refl refl))
