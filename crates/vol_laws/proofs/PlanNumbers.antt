-- A plan for the file of another number.
use Rattle.std.specs.Prelude.{◌≡◌, ◌<◌, ℕ, List, length}
use Rattle.std.proofs.Common.{sym, ◌∙◌, ap, subst, arith, inl, inr}
use Rattle.std.proofs.lemmas.Bool.{cases_lt}
use Rattle.std.proofs.lemmas.List.{get_or-map, length-map}
use Rattle.a2_device.specs.Device.{unit_at}
use Rattle.vol_format.specs.declared.link.Link.{Link}
use Rattle.vol_format.specs.declared.link.Link.TheVariants.{To}
use Rattle.vol_format.specs.Directory.{Directory}
use Rattle.vol_format.specs.Laws.{IsReadable}
use Rattle.vol_format.specs.Meaning.{Meaning}
use Rattle.vol_format.specs.Standing.{IsLost}
use Rattle.vol_format.specs.Files.{Stored}
use Rattle.vol_laws.specs.Built.{Planned, no_plan, plan_of, part_of, place_of, unit_of, built_link, IsBuilt, AreHeld, AreLost, HasPlannedUnit, IsBodyOf, planned_in, plan_in_file}
use Rattle.vol_laws.specs.EditLaws.{IsFileFree}
use Rattle.vol_laws.specs.Inserted.{refiled}

module _ (planned : List Planned) (file : ℕ) where
  abbrev anew : List Planned
  anew = plan_in_file planned file

  long : length anew ≡ length planned
  long = length-map planned (planned_in file)

  inside : (k : ℕ) → k < length planned → k < length anew
  inside k within = omega (arith, within, long)

  was_inside : (k : ℕ) → k < length anew → k < length planned
  was_inside k within = omega (arith, within, long)

  plan_is : (k : ℕ) → k < length planned → plan_of anew k ≡ planned_in file (plan_of planned k)
  plan_is k within = get_or-map (planned_in file) planned k no_plan no_plan within

  place_is : (k : ℕ) → k < length planned → place_of anew k ≡ place_of planned k
  place_is k within = ap (λ (p : Planned). p.part.place) (plan_is k within)

  unit_is : (k : ℕ) → k < length planned → unit_of anew k ≡ unit_of planned k
  unit_is k within = ap (λ (p : Planned). p.unit) (plan_is k within)

  pub held_anew : (store : List (List ℕ)) → AreHeld store planned → AreHeld store anew
  held_anew store held k within =
      let low = was_inside k within in
      ap (unit_at store) (place_is k low) ∙ held k low ∙ sym (unit_is k low)

  pub lost_anew : (format : Meaning) (directory : Directory) (store : List (List ℕ)) → AreLost format directory store planned → AreLost format directory store anew
  lost_anew format directory store lost k within =
      let low = was_inside k within in
      subst (IsLost format directory store) (sym (place_is k low)) (lost k low)

  unit_goes : (stored : Stored) → HasPlannedUnit planned stored → HasPlannedUnit anew stored
  unit_goes stored has = (
    has.0,
    inside has.0 has.1,
    ap (λ (p : Planned). p.part.kind) (plan_is has.0 has.1) ∙ has.2,
    ap (λ (p : Planned). p.part.number) (plan_is has.0 has.1) ∙ has.3,
    unit_is has.0 has.1 ∙ has.4,
  )

  unit_came : (stored : Stored) → HasPlannedUnit anew stored → HasPlannedUnit planned stored
  unit_came stored has =
      let low = was_inside has.0 has.1 in (
        has.0,
        low,
        sym (ap (λ (p : Planned). p.part.kind) (plan_is has.0 low)) ∙ has.2,
        sym (ap (λ (p : Planned). p.part.number) (plan_is has.0 low)) ∙ has.3,
        sym (unit_is has.0 low) ∙ has.4,
      )

  pub body_anew : (body : List Stored) → IsBodyOf planned body → IsBodyOf anew body
  body_anew body is = record {
    members = λ stored. (λ has. unit_goes stored ((is.members stored).0 has), λ has. (is.members stored).1 (unit_came stored has));
    rising = is.rising;
  }

  module _ (format : Meaning) (laws : IsReadable format) (free : IsFileFree format) (places : ℕ) (root : Link) (built : IsBuilt format places planned root) where
    link_is : (k i : ℕ) → k < length planned → built_link format places anew k i ≡ refiled file (built_link format places planned k i)
    link_is k i within = ap (λ (p : Planned). format.child places p.part p.unit i) (plan_is k within) ∙ free.child_refiled places (part_of planned k) (unit_of planned k) i file

    to_anew : (link : Link) (k : ℕ) → k < length planned → link ≡ To (part_of planned k) → refiled file link ≡ To (part_of anew k)
    to_anew link k within is = ap (refiled file) is ∙ ap (λ (p : Planned). To p.part) (sym (plan_is k within))

    pub built_anew : IsBuilt format places anew (refiled file root)
    built_anew = record {
      once = λ j k low within same.
          let in_k = was_inside k within in
          let in_j : j < length planned = omega (arith, low, in_k) in
          built.once j k low in_k (sym (place_is j in_j) ∙ same ∙ place_is k in_k);
      entry = elim built.entry [
        | inl none ↦ inl (ap (refiled file) none)
        | inr named ↦ inr (named.0, inside named.0 named.1, to_anew root named.0 named.1 named.2)
      ];
      closed = λ k i within below.
          let low = was_inside k within in
          elim (cases_lt i (format.pointers (part_of planned k))) [
            | inr past ↦ inl (link_is k i low ∙ ap (refiled file) (laws.no_more places (part_of planned k) (unit_of planned k) i past))
            | inl near ↦ elim (built.closed k i low near) [
              | inl none ↦ inl (link_is k i low ∙ ap (refiled file) none)
              | inr named ↦ inr (named.0, inside named.0 named.1, link_is k i low ∙ to_anew (built_link format places planned k i) named.0 named.1 named.2)
            ]
          ];
      led = λ k within.
          let low = was_inside k within in
          elim (built.led k low) [
            | inl first ↦ inl (to_anew root k low first)
            | inr named ↦
                let near : named.0 < length planned = omega (arith, named.2, low) in
                inr (named.0, named.1, named.2, link_is named.0 named.1 near ∙ to_anew (built_link format places planned named.0 named.1) k low named.3)
          ];
    }
