use Rattle.std.proofs.Common.{◌≡◌, ◌∷◌, ◌∙◌, ap, arith, Bool, true, false}
use Rattle.pro_dir.specs.Letters.{taken}
use Rattle.pro_dir.proofs.Folding.{last_bytes}
use Rattle.pro_dir.proofs.path.without_name.Goals as goal

pub returns-then-not-is_last_name-clause-none : goal.returns-then-not-is_last_name-clause-none
returns-then-not-is_last_name-clause-none c = λ above is.
    let so = last_bytes c.args.letters c.args.path.now above (0x2f ∷ c.args.name.now) c.in_ok-at.at (omega (arith, c.in_ok-at.ensures)) is in
    absurd (not_both c.is_last_name.result c.if-not-is_last_name.true (c.is_last_name.ensures.1 (ap (taken c.args.letters) c.split_at.ensures.back ∙ so)))
  where
    not_both : (b : Bool) → b ≡ false → b ≡ true → ⊥
    not_both true no_last last = cc
    not_both false no_last last = cc
