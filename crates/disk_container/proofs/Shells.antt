-- A container whose shell is taken off is in its parts.
use Rattle.std.proofs.Common.{◌≡◌, ◌∙◌, ℕ, ◌+◌, ◌-◌, List, ap, arith, drop, length, length-drop, subst, sym, take, take_all}
use Rattle.std.specs.Prelude.{slice_range}
use Rattle.disk_container.specs.declared.container.Container.{Container}
use Rattle.disk_container.specs.Container.{HasParts, IsContainer}
use Rattle.disk_container.proofs.Alike.{in_parts}

-- what stands from an offset on is the rest
rest_from : (xs file : List ℕ) (end : ℕ) → xs ≡ file → take (length xs - end) (drop end xs) ≡ drop end file
rest_from xs file end same =
    ap (λ (ys : List ℕ). take (length ys - end) (drop end ys)) same ∙ take_all (length file - end) (drop end file) (omega (arith, length-drop end file))

pub shell_taken : (file front payload back xs ys : List ℕ) (c : Container) → IsContainer file c → front ≡ take c.start xs → xs ≡ file
    → payload ≡ slice_range file c.start (c.start + c.size) → back ≡ take (length ys - (c.start + c.size)) (drop (c.start + c.size) ys) → ys ≡ file
    → HasParts file c front payload back
shell_taken file front payload back xs ys c is front_is same payload_is back_is also =
    let parts = in_parts file c is in
    let end = c.start + c.size in
    subst (λ (f : List ℕ). HasParts file c f payload back) (sym (front_is ∙ ap (λ (s : List ℕ). take c.start s) same))
    (subst (λ (p : List ℕ). HasParts file c (take c.start file) p back) (sym payload_is)
    (subst (λ (b : List ℕ). HasParts file c (take c.start file) (slice_range file c.start end) b) (sym (back_is ∙ rest_from ys file end also)) parts))
