-- What a device goes through, put together; and that a device of which nothing can fail makes no step fail.
use Rattle.std.specs.Prelude.{◌≡◌, ◌<◌, ℕ, ◌+◌, Bool, true, false, List, [], ◌∷◌, Option, Some, None, Contains, IsTrue}
use Rattle.std.proofs.Common.{refl, sym, ◌∙◌, ap, subst, arith, inl, inr}
use Rattle.a2_device.specs.Device.{DeviceState, IsSameDevice, OnlyReads, FailsRead, UsesRead, UsesWrite, written, one_fewer}
use Rattle.vol_mover.specs.Failing.{CannotFail, WorksOn, fewer}
use Rattle.vol_mover.specs.Steps.{RefusesWrite}
use Rattle.vol_mover.proofs.Stepping.{same_device, same_then}

fewer-none : (passes : Option ℕ) → passes ≡ fewer passes 0
fewer-none None = refl
fewer-none (Some most) = ap (λ n. Some n) (omega arith)

fewer-one : (passes : Option ℕ) → one_fewer passes ≡ fewer passes 1
fewer-one None = refl
fewer-one (Some most) = refl

fewer-sum : (passes : Option ℕ) (m n : ℕ) → fewer (fewer passes m) n ≡ fewer passes (m + n)
fewer-sum None m n = refl
fewer-sum (Some most) m n = ap (λ k. Some k) (omega arith)

pub works-none : (device : DeviceState) → WorksOn device device 0
works-none device = record {
  device = same_device device;
  faults = refl;
  counted = λ honest. omega arith;
  standing = λ honest. omega arith;
  read_failures = λ honest. refl;
  write_failures = λ honest. refl;
  passes = λ honest. fewer-none device.passes;
}

-- reads that all came
pub works-reads : (old new : DeviceState) → OnlyReads false old new → WorksOn old new 0
works-reads old new reads = record {
  device = reads.same;
  faults = reads.faults;
  counted = λ honest. ap (λ (d : DeviceState). d.writes) (kept honest) ∙ omega arith;
  standing = λ honest. ap (λ (d : DeviceState). d.standing) (kept honest) ∙ omega arith;
  read_failures = λ honest. ap (λ (d : DeviceState). d.read_failures) (kept honest);
  write_failures = λ honest. ap (λ (d : DeviceState). d.write_failures) (kept honest);
  passes = λ honest. ap (λ (d : DeviceState). d.passes) (kept honest) ∙ fewer-none old.passes;
}
  where
    kept : IsTrue old.honest → new ≡ old
    kept honest = reads.kept honest refl

-- one write that stands
pub works-one : (old new : DeviceState) → IsSameDevice old new → new.faults ≡ old.faults
    → (IsTrue old.honest → (place : ℕ) × (unit : List ℕ) × (new ≡ written place unit old)) → WorksOn old new 1
works-one old new same faults wrote = record {
  device = same;
  faults = faults;
  counted = λ honest. ap (λ (d : DeviceState). d.writes) (wrote honest).2;
  standing = λ honest. ap (λ (d : DeviceState). d.standing) (wrote honest).2;
  read_failures = λ honest. ap (λ (d : DeviceState). d.read_failures) (wrote honest).2;
  write_failures = λ honest. ap (λ (d : DeviceState). d.write_failures) (wrote honest).2;
  passes = λ honest. ap (λ (d : DeviceState). d.passes) (wrote honest).2 ∙ fewer-one old.passes;
}

pub works-then : (old mid new : DeviceState) (m n : ℕ) → WorksOn old mid m → WorksOn mid new n → WorksOn old new (m + n)
works-then old mid new m n first then = record {
  device = same_then old mid new first.device then.device;
  faults = then.faults ∙ first.faults;
  counted = λ honest. let one = first.counted honest in let two = then.counted (still honest) in omega (arith, one, two);
  standing = λ honest. let one = first.standing honest in let two = then.standing (still honest) in omega (arith, one, two);
  read_failures = λ honest. then.read_failures (still honest) ∙ first.read_failures honest;
  write_failures = λ honest. then.write_failures (still honest) ∙ first.write_failures honest;
  passes = λ honest. then.passes (still honest) ∙ ap (λ p. fewer p n) (first.passes honest) ∙ fewer-sum old.passes m n;
}
  where
    still : IsTrue old.honest → IsTrue mid.honest
    still honest = subst IsTrue (sym first.device.honest) honest

-- A device of which nothing can fail tells no failure.
module _ (old : DeviceState) (sound : CannotFail old) where
  some_is : (m n : ℕ) → Some m ≡ Some n → m ≡ n
  some_is m n is = cc

  no_order : (failures : Option ℕ) (next : Option ℕ) → failures ≡ Some 0 → UsesRead failures next → ⊥
  no_order None next is uses = absurd (cc)
  no_order (Some n) next is uses =
      let first : n ≡ uses.0 + 1 = uses.1 in
      let none : n ≡ 0 = some_is n 0 is in
      omega (arith, first, none)

  no_write_order : (failures next : Option (List Bool)) (took : Bool) → failures ≡ Some [] → UsesWrite failures took next → ⊥
  no_write_order None next took is uses = absurd (cc)
  no_write_order (Some orders) next took is uses = let first = uses.1 in absurd (cc)

  none_there : (places : List ℕ) (place : ℕ) → places ≡ [] → Contains places place → ⊥
  none_there [] place is has = absurd (omega (arith, has.1))
  none_there (p ∷ places) place is has = absurd (cc)

  module _ (mid : DeviceState) (made : ℕ) (few : made < 4294967296) (works : WorksOn old mid made) where
    still : IsTrue mid.honest
    still = subst IsTrue (sym works.device.honest) sound.honest

    pub no_failed_read : (new : DeviceState) → OnlyReads true mid new → ⊥
    no_failed_read new reads = by_cause (reads.met still refl).1
      where
        by_cause : FailsRead (reads.met still refl).0 mid new → ⊥
        by_cause (inl meets) = no_order mid.read_failures new.read_failures (works.read_failures sound.honest ∙ sound.reads) meets.0
        by_cause (inr unreadable) = none_there mid.unreadable (reads.met still refl).0 (works.device.unreadable ∙ sound.readable) unreadable.0

    pub no_failed_write : (place : ℕ) (unit : List ℕ) (new : DeviceState) → RefusesWrite place unit mid new → ⊥
    no_failed_write place unit new (inl spent) =
        let count = works.counted sound.honest in omega (arith, spent.0, count, sound.room, few)
    no_failed_write place unit new (inr (inl meets)) =
        no_write_order mid.write_failures new.write_failures meets.0 (works.write_failures sound.honest ∙ sound.writes) meets.1
    no_failed_write place unit new (inr (inr (inl unreadable, is))) = none_there mid.unreadable place (works.device.unreadable ∙ sound.readable) unreadable
    no_failed_write place unit new (inr (inr (inr stopped, is))) =
        let passes : mid.passes ≡ None = works.passes sound.honest ∙ ap (λ p. fewer p made) sound.passes in absurd (cc (passes, stopped))
