-- A plain list of a command that may change its image in place says where the image goes.
use Rattle.std.proofs.Common.{◌≡◌, ◌∙◌, ap, inl, inr, refl, true, List, codes, is_some, Contains}
use Rattle.std.specs.List.{list_all}
use Rattle.shop_words.specs.Table.{Text, FormView, in_place}
use Rattle.shop_words.specs.Plain.{Use, IsPlainLine, value_of}
use Rattle.shop_words.specs.Job.{target_by}
use Rattle.shop_words.specs.Ways.{Said, is_on}
use Rattle.shop_words.proofs.PlainUsed.{flag_says, is_flag, named_only, nothing_said, value_said}

-- the command has the flag, and nothing else of its name
pub record HasTarget (f : FormView) : Type 0 where
  pub at : Contains f.parameters in_place
  pub flags : list_all (named_only (codes "in-place") is_flag) f.parameters ≡ true

pub target_by-line : (f : FormView) (positionals : List Text) (uses : List Use) (said : Said) → HasTarget f → IsPlainLine f positionals uses
    → said (codes "out") ≡ value_of (codes "out") uses → said (codes "in-place") ≡ value_of (codes "in-place") uses → is_some (target_by said) ≡ true
target_by-line f positionals uses said has plain out_said place_said = elim (plain.targeted has.at) [
  | inl file ↦
      let path = value_said (codes "out") uses file.0 in
      rw (out_said ∙ path.1, place_said ∙ nothing_said (codes "in-place") uses file.1) refl
  | inr place ↦
      let on = value_said (codes "in-place") uses place.0 in
      let is : is_on (said (codes "in-place")) ≡ true = ap is_on (place_said ∙ on.1) ∙ flag_says f.parameters (codes "in-place") uses has.flags plain.known on.0 on.1 in
      rw (out_said ∙ nothing_said (codes "out") uses place.1, is) refl
]
