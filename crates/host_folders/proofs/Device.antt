-- What begins with `%` names no device.
use Rattle.std.proofs.Common.{◌≡◌, ℕ, zero, suc, true, false, List, [], ◌∷◌, refl, take, bytes_eq}
use Rattle.std.specs.List.{list_any}
use Rattle.host_folders.specs.HostNames.{devices, escaped_first, folded, is_device, no_device}

front_no_device : (m n : ℕ) (text : List ℕ)
    → list_any (λ device. bytes_eq (folded (take m (take n (37 ∷ text)))) (folded device)) devices ≡ false
front_no_device zero n text = refl
front_no_device (suc m) zero text = refl
front_no_device (suc m) (suc n) text = refl

pub percent_no_device : (text : List ℕ) → is_device (37 ∷ text) ≡ false
unfolding is_device
percent_no_device text = front_no_device _ _ text

pub device_escaped : (text : List ℕ) → is_device text ≡ true → no_device text ≡ escaped_first text
device_escaped text h = rw (h) refl

pub other_stays : (text : List ℕ) → is_device text ≡ false → no_device text ≡ text
other_stays text h = rw (h) refl

nothing_no_device : is_device [] ≡ false
unfolding is_device
nothing_no_device = refl

-- nor does what its first character is escaped in
pub escaped_no_device : (text : List ℕ) → is_device (escaped_first text) ≡ false
escaped_no_device [] = nothing_no_device
escaped_no_device (c ∷ cs) = percent_no_device _
