use Rattle.std.proofs.Common.{◌≡◌, ◌≢◌, ◌∙◌, [], Some, subst}
use Rattle.std.specs.Prelude.{option_map, string_bytes}
use Rattle.shop_host.specs.State.{Path, unflushed}
use Rattle.shop_outputs.proofs.Steps.{not_other, run_beside, run_make, run_path}
use Rattle.shop_outputs.proofs.aside.create_under.Goals as goal

pub returns-in-Ok-clause-run : goal.returns-in-Ok-clause-run
returns-in-Ok-clause-run g c = λ honest.
    let path : Path = string_bytes c.in_ok-path.path in
    let apart = subst (λ (p : Path). Some p ≢ option_map (λ s. s.now) c.args.apart) c.as_str.ensures.value
    (not_other _ _ _ c.is_path_of.ensures c.if-is_path_of.false) in
    run_beside _ _ path _ _ (c.in_ok-path.ensures, apart)
    (run_path _ _ _ _ c.as_str-2.ensures.value (run_make _ _ _ _ _ honest (c.make.ensures honest)))

pub returns-in-Ok-clause-made : goal.returns-in-Ok-clause-made
returns-in-Ok-clause-made g c = λ honest.
    let (noted, at, free, made, same) = (c.in-Ok.ensures honest).done in
    let apart = subst (λ (p : Path). Some p ≢ option_map (λ s. s.now) c.args.apart) c.as_str.ensures.value
    (not_other _ _ _ c.is_path_of.ensures c.if-is_path_of.false) in (
      (c.in_ok-path.ensures, apart),
      at ∙ c.as_str-2.ensures.value,
      subst (λ (p : Path). (g.H.Host.state c.make.new.self).files p ≡ unflushed []) c.as_str-2.ensures.value made,
    )
