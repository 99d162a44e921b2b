-- What is written into a header is read back.
use Rattle.std.proofs.Common.{◌≡◌, ℕ, ◌+◌, ◌*◌, ◌/◌, ◌%◌, ◌^◌, ◌<◌, Bool, true, false, Option, Some, None, IfSome}
use Rattle.std.proofs.Common.{arith, refl, ap, ◌∙◌}
use Rattle.std.proofs.lemmas.Bool.{cond-true, eq-eqb, ne_eqb}
use Rattle.std.specs.Int.{bit_at}
use Rattle.std.specs.Prelude.{nat_eq}
use Rattle.a2_device.specs.declared.order.Order.{Order}
use Rattle.a2_device.specs.declared.order.Order.TheVariants.{Dos, Prodos, Nibble}
use Rattle.disk_container.specs.Format.{is_protected, volume_of}
use Rattle.disk_container.specs.Order.{format_of}
use Rattle.disk_container.specs.Wrapped.{flags_of}

-- four bytes are the number that they were made of
pub four_back : (n : ℕ) → n < 2 ^ 32
    → n % 256 + 256 * (n / 256 % 256) + 65536 * (n / 65536 % 256) + 16777216 * (n / 16777216 % 256) ≡ n
four_back n small =
    let middle : n / 65536 ≡ n / 256 / 256 = omega arith in
    let high : n / 16777216 ≡ n / 65536 / 256 = omega arith in
    let top : n / 16777216 < 256 = omega arith in
    omega arith

pub format_small : (order : Order) → format_of order < 2 ^ 32
format_small Dos = omega arith
format_small Prodos = omega arith
format_small Nibble = omega arith

-- ---- the flags

abbrev pub IsVolume : Option ℕ → Type 0
IsVolume volume = IfSome volume (λ number. number < 256)

pub flags_small : (volume : Option ℕ) (protect : Bool) → IsVolume volume → flags_of volume protect < 2 ^ 32
flags_small None true is = omega arith
flags_small None false is = omega arith
flags_small (Some v) true is = omega (arith, is)
flags_small (Some v) false is = omega (arith, is)

pub protected_back : (volume : Option ℕ) (protect : Bool) → IsVolume volume
    → is_protected (flags_of volume protect) ≡ protect
protected_back None true is = refl
protected_back None false is = refl
protected_back (Some v) true is = eq-eqb (bit_at (flags_of (Some v) true) 31) 1 (omega (arith, is))
protected_back (Some v) false is =
    ne_eqb (bit_at (flags_of (Some v) false) 31) 1 (λ e. omega (arith, is, e))

numbered : (v flags : ℕ) → v < 256 → flags % 65536 ≡ 256 + v → volume_of flags ≡ Some v
numbered v flags small low =
    cond-true (nat_eq (bit_at flags 8) 1) (Some (flags % 256)) None (eq-eqb (bit_at flags 8) 1 (omega arith))
    ∙ ap (λ n. Some n) (omega arith)

pub volume_back : (volume : Option ℕ) (protect : Bool) → IsVolume volume
    → volume_of (flags_of volume protect) ≡ volume
volume_back None true is = refl
volume_back None false is = refl
volume_back (Some v) true is = numbered v (flags_of (Some v) true) is (omega (arith, is))
volume_back (Some v) false is = numbered v (flags_of (Some v) false) is (omega (arith, is))
