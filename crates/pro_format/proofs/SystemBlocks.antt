-- A block of the directories is the system's: where it is written, the units of files stay.
use Rattle.std.specs.Prelude.{◌≡◌, ℕ, Bool, true, false, List, [], slice_set, Contains}
use Rattle.std.proofs.Common.{subst}
use Rattle.std.proofs.lemmas.List.{length-set, get_or-set_other}
use Rattle.vol_format.specs.Directory.{Directory, is_system}
use Rattle.pro_format.specs.Pro.{DescribesPro}
use Rattle.pro_format.specs.lemmas.ProMarks.{block_in_system}
use Rattle.vol_laws.specs.Entered.{HasSameRest}

pub same_rest : (reserved : List Bool) (store : List (List ℕ)) (directory : Directory) (described : DescribesPro reserved store directory) (place : ℕ) (unit : List ℕ)
    → Contains described.tree.blocks place → HasSameRest directory store (slice_set store place unit)
same_rest reserved store directory described place unit has = record {
  size = length-set store place unit;
  units = λ other outside. get_or-set_other store place other unit []
      (λ same. both (is_system directory place) (block_in_system reserved store directory described place has) (subst (λ p. is_system directory p ≡ false) same outside));
}
  where
    both : (b : Bool) → b ≡ true → b ≡ false → ⊥
    both b is is' = cc
