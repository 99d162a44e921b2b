-- Where the sectors of an image and the halves of its blocks lie.
use Rattle.std.proofs.Common.{◌≡◌, ℕ, ◌/◌, ◌%◌, ◌<◌, sym, ◌∙◌, ap, arith}
use Rattle.a2_device.specs.declared.order.Order.{Order}
use Rattle.a2_device.specs.Skew.{half_of_physical, physical_of_half}
use Rattle.a2_device.specs.Order.{in_track}
use Rattle.a2_device.proofs.Skews.{half_of_physical-physical_of_half, physical_of_half_fits, in_track_fits, in_track_once}
use Rattle.a2_image.specs.Image.{number_in}
use Rattle.a2_image.specs.Blocks.{sector_of_half}

-- no two sectors of the image are stored at one place
pub number_once : (order : Order) (k n : ℕ) → number_in order k ≡ number_in order n → k ≡ n
number_once order k n same =
    let low : k % 16 < 16 = omega arith in
    let low' : n % 16 < 16 = omega arith in
    let fits = in_track_fits order (k % 16) low in
    let fits' = in_track_fits order (n % 16) low' in
    let place : in_track order (k % 16) ≡ in_track order (n % 16) = omega (arith, same, fits, fits') in
    let track : k / 16 ≡ n / 16 = omega (arith, same, fits, fits') in
    let sector = in_track_once order (k % 16) (n % 16) low low' place in
    omega (arith, track, sector)

pub number_fits : (order : Order) (n : ℕ) → n < 560 → number_in order n < 560
number_fits order n h = let fits = in_track_fits order (n % 16) (omega arith) in omega (arith, fits)

-- no two halves are one sector
pub half_once : (h k : ℕ) → sector_of_half h ≡ sector_of_half k → h ≡ k
half_once h k same =
    let low : h % 16 < 16 = omega arith in
    let low' : k % 16 < 16 = omega arith in
    let fits = physical_of_half_fits (h % 16) low in
    let fits' = physical_of_half_fits (k % 16) low' in
    let place : physical_of_half (h % 16) ≡ physical_of_half (k % 16) = omega (arith, same, fits, fits') in
    let track : h / 16 ≡ k / 16 = omega (arith, same, fits, fits') in
    let half = sym (half_of_physical-physical_of_half (h % 16) low) ∙ ap half_of_physical place ∙ half_of_physical-physical_of_half (k % 16) low' in
    omega (arith, track, half)

pub half_fits : (h : ℕ) → h < 560 → sector_of_half h < 560
half_fits h l = let fits = physical_of_half_fits (h % 16) (omega arith) in omega (arith, fits)
