-- The orders of the sectors of a track.
use Rattle.std.proofs.Common.{◌≡◌, ℕ, zero, suc, ◌%◌, ◌<◌, Bool, true, ◌&&◌, eqb, refl, sym, ◌∙◌, ap, subst, arith, ⊎_elim}
use Rattle.std.proofs.lemmas.Bool.{eqb-true, and_parts, cases_lt}
use Rattle.a2_device.specs.declared.order.Order.{Order}
use Rattle.a2_device.specs.declared.order.Order.TheVariants.{Dos, Prodos, Nibble}
use Rattle.a2_device.specs.Skew.{physical_of_dos, dos_of_physical, half_of_physical, physical_of_half}
use Rattle.a2_device.specs.Order.{in_track}

-- two functions agree below a number
abbrev pub same_below : (ℕ → ℕ) → (ℕ → ℕ) → ℕ → Bool
same_below f g zero = true
same_below f g (suc n) = eqb (f n) (g n) && same_below f g n

pub same_below_at : (f g : ℕ → ℕ) (n k : ℕ) → same_below f g n ≡ true → k < n → f k ≡ g k
same_below_at f g zero k e l = absurd (omega arith)
same_below_at f g (suc n) k e l = ⊎_elim
    (λ under. same_below_at f g n k (and_parts _ _ e).1 under)
    (λ over. let at : n ≡ k = omega arith in subst (λ j. f j ≡ g j) at (eqb-true _ _ (and_parts _ _ e).0))
    (cases_lt k n)

pub physical_of_dos-dos_of_physical : (p : ℕ) → p < 16 → physical_of_dos (dos_of_physical p) ≡ p
unfolding physical_of_dos dos_of_physical
physical_of_dos-dos_of_physical p h = same_below_at (λ k. physical_of_dos (dos_of_physical k)) (λ k. k) 16 p refl h

pub dos_of_physical-physical_of_dos : (s : ℕ) → s < 16 → dos_of_physical (physical_of_dos s) ≡ s
unfolding physical_of_dos dos_of_physical
dos_of_physical-physical_of_dos s h = same_below_at (λ k. dos_of_physical (physical_of_dos k)) (λ k. k) 16 s refl h

pub physical_of_half-half_of_physical : (p : ℕ) → p < 16 → physical_of_half (half_of_physical p) ≡ p
unfolding physical_of_half half_of_physical
physical_of_half-half_of_physical p h = same_below_at (λ k. physical_of_half (half_of_physical k)) (λ k. k) 16 p refl h

pub half_of_physical-physical_of_half : (h : ℕ) → h < 16 → half_of_physical (physical_of_half h) ≡ h
unfolding physical_of_half half_of_physical
half_of_physical-physical_of_half h l = same_below_at (λ k. half_of_physical (physical_of_half k)) (λ k. k) 16 h refl l

dos_of_physical_fits : (p : ℕ) → p < 16 → dos_of_physical p % 16 ≡ dos_of_physical p
unfolding dos_of_physical
dos_of_physical_fits p h = same_below_at (λ k. dos_of_physical k % 16) (λ k. dos_of_physical k) 16 p refl h

half_of_physical_fits : (p : ℕ) → p < 16 → half_of_physical p % 16 ≡ half_of_physical p
unfolding half_of_physical
half_of_physical_fits p h = same_below_at (λ k. half_of_physical k % 16) (λ k. half_of_physical k) 16 p refl h

pub physical_of_dos_fits : (s : ℕ) → s < 16 → physical_of_dos s < 16
unfolding physical_of_dos
physical_of_dos_fits s h = let fits = same_below_at (λ k. physical_of_dos k % 16) (λ k. physical_of_dos k) 16 s refl h in omega (arith, fits)

pub physical_of_half_fits : (h : ℕ) → h < 16 → physical_of_half h < 16
unfolding physical_of_half
physical_of_half_fits h l = let fits = same_below_at (λ k. physical_of_half k % 16) (λ k. physical_of_half k) 16 h refl l in omega (arith, fits)

pub in_track_fits : (order : Order) (p : ℕ) → p < 16 → in_track order p < 16
unfolding in_track
in_track_fits Dos p h = let fits = dos_of_physical_fits p h in omega (arith, fits)
in_track_fits Prodos p h = let fits = half_of_physical_fits p h in omega (arith, fits)
in_track_fits Nibble p h = h

-- no two sectors of a track are stored at one place
pub in_track_once : (order : Order) (p q : ℕ) → p < 16 → q < 16 → in_track order p ≡ in_track order q → p ≡ q
unfolding in_track
in_track_once Dos p q l m same = sym (physical_of_dos-dos_of_physical p l) ∙ ap physical_of_dos same ∙ physical_of_dos-dos_of_physical q m
in_track_once Prodos p q l m same = sym (physical_of_half-half_of_physical p l) ∙ ap physical_of_half same ∙ physical_of_half-half_of_physical q m
in_track_once Nibble p q l m same = same
