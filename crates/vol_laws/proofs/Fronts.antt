-- The store after a front of a list of writes.
use Rattle.std.specs.Prelude.{◌≡◌, ◌≢◌, ℕ, List, [], ◌∷◌, ◌++◌, slice_set, All}
use Rattle.std.proofs.Common.{refl, sym, ◌∙◌}
use Rattle.std.proofs.lemmas.List.{get_or-set_other}
use Rattle.std.proofs.lemmas.List.Elements.{All-head, All-tail}
use Rattle.a2_device.specs.Device.{unit_at}
use Rattle.vol_laws.specs.Writes.{Write, store_after}

pub after_both : (first then : List Write) (store : List (List ℕ)) → store_after (first ++ then) store ≡ store_after then (store_after first store)
after_both [] then store = refl
after_both (write ∷ first) then store = after_both first then (slice_set store write.place write.unit)

-- a unit that none of the writes is for
pub unit_after : (writes : List Write) (store : List (List ℕ)) (at : ℕ) → All (λ (write : Write). write.place ≢ at) writes
    → unit_at (store_after writes store) at ≡ unit_at store at
unit_after [] store at apart = refl
unit_after (write ∷ writes) store at apart =
    unit_after writes (slice_set store write.place write.unit) at (All-tail (λ (w : Write). w.place ≢ at) write writes apart)
    ∙ get_or-set_other store write.place at write.unit [] (λ same. All-head (λ (w : Write). w.place ≢ at) write writes apart (sym same))
