-- What is said of a result, by cases.
use Rattle.std.proofs.Common.{◌≡◌, true, false, refl}
use Rattle.std.specs.Prelude.{Result, Ok, Err, IsOk, OnOk, OnErr, is_err}

pub at_ok : {T E P : Type 0} (result : Result T E) → is_err result ≡ false → OnOk result P → P
at_ok (Ok value) is said = said
at_ok (Err error) is said = absurd (cc)

pub at_err : {T E P : Type 0} (result : Result T E) → is_err result ≡ true → OnErr result P → P
at_err (Ok value) is said = absurd (cc)
at_err (Err error) is said = said

pub on_ok : {T E P : Type 0} (result : Result T E) → (IsOk result → P) → OnOk result P
on_ok (Ok value) said = said refl
on_ok (Err error) said = tt

pub on_err : {T E P : Type 0} (result : Result T E) → ((IsOk result → ⊥) → P) → OnErr result P
on_err (Ok value) said = tt
on_err (Err error) said = said (λ is. absurd (cc))

pub on_ok_both : {T E P Q R : Type 0} (result : Result T E) → OnOk result P → OnOk result Q → (P → Q → R) → OnOk result R
on_ok_both (Ok value) p q said = said p q
on_ok_both (Err error) p q said = tt
