-- What is told of bytes that name no minute.
use Rattle.std.proofs.Common.{◌≡◌, ℕ, Bool, true, false, List, refl, sym, ap, subst}
use Rattle.std.specs.Prelude.{◌↔◌, Option, Some, None, IsSome, if◌then◌else◌}
use Rattle.std.proofs.lemmas.Bool.{false≢true}
use Rattle.pro_dates.specs.Moments.{IsMoment}
use Rattle.pro_dates.specs.ShownDates.{is_moment, minute_of, named_minute}
use Rattle.pro_dates.proofs.DatesDecided.{moment_named}

pub no_minute : {X : Type 0} (bytes : List ℕ) (result : Option X) → (IsSome result ↔ IsMoment bytes) → result ≡ None → None ≡ minute_of bytes
no_minute bytes result known none = by_test (is_moment bytes) refl
  where
    by_test : (b : Bool) → is_moment bytes ≡ b → None ≡ minute_of bytes
    by_test true at = absurd (false≢true (subst IsSome none (known.1 (moment_named bytes at))))
    by_test false at = sym (ap (λ b. if b then Some (named_minute bytes) else None) at)
