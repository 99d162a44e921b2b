-- What is built is what was planned.
use Rattle.std.specs.Prelude.{◌≡◌, ◌≢◌, ◌⊎◌, ◌<◌, ℕ, zero, suc, false, List, length, slice_index_or}
use Rattle.std.proofs.Common.{sym, ◌∙◌, ap, subst, arith, inl, inr}
use Rattle.std.proofs.lemmas.Bool.{cases_eq, cases_lt}
use Rattle.a2_device.specs.Device.{unit_at}
use Rattle.a2_device.specs.declared.part.Part.{Part}
use Rattle.vol_format.specs.declared.link.Link.{Link}
use Rattle.vol_format.specs.declared.link.Link.TheVariants.{Null, Wild, OtherType, To}
use Rattle.vol_format.specs.Directory.{Directory, Listed, is_system}
use Rattle.vol_format.specs.Laws.{IsReadable, IsDirectory}
use Rattle.vol_format.specs.Meaning.{Meaning, link_from}
use Rattle.vol_laws.specs.Entered.{IsNewFile}
use Rattle.vol_format.specs.Files.{Stored, File}
use Rattle.vol_laws.specs.FilesOf.{HasUnit, IsFileOf}
use Rattle.vol_laws.specs.PartsOf.{PartOf, top, below, IsSoundFile}
use Rattle.vol_laws.specs.Built.{Planned, part_of, place_of, built_link, IsPlanned, IsBuilt, AreHeld, AreLost, ArePlanned, HasPlannedUnit, IsBodyOf}
use Rattle.vol_laws.proofs.Parts.{same_part}

null_is_not : (link : Link) (part : Part) → link ≡ Null → link ≡ To part → ⊥
null_is_not link part none is = absurd (cc)

null_not_wild : (link : Link) → link ≡ Null → link ≢ Wild
null_not_wild link none is = absurd (cc)

to_not_wild : (link : Link) (part : Part) → link ≡ To part → link ≢ Wild
to_not_wild link part named is = absurd (cc)

null_not_other : (link : Link) → link ≡ Null → link ≢ OtherType
null_not_other link none is = absurd (cc)

to_not_other : (link : Link) (part : Part) → link ≡ To part → link ≢ OtherType
to_not_other link part named is = absurd (cc)

module _ (format : Meaning) (laws : IsReadable format) (store : List (List ℕ)) (planned : List Planned) (root : Link)
    (built : IsBuilt format (length store) planned root) (held : AreHeld store planned) where
  held_link : (k i : ℕ) → k < length planned → link_from format store (part_of planned k) i ≡ built_link format (length store) planned k i
  held_link k i within = ap (λ unit. format.child (length store) (part_of planned k) unit i) (held k within)

  -- any pointer of a unit built, also past its last
  names : (k i : ℕ) → k < length planned
      → (link_from format store (part_of planned k) i ≡ Null) ⊎ ((m : ℕ) × (m < length planned) × (link_from format store (part_of planned k) i ≡ To (part_of planned m)))
  names k i within = elim (cases_lt i (format.pointers (part_of planned k))) [
    | inr past ↦ inl (laws.no_more (length store) (part_of planned k) (unit_at store (place_of planned k)) i past)
    | inl inside ↦ elim (built.closed k i within inside) [
      | inl none ↦ inl (held_link k i within ∙ none)
      | inr named ↦ inr (named.0, named.1, held_link k i within ∙ named.2)
    ]
  ]

  pub planned_part : (part : Part) → PartOf format store root part → IsPlanned planned part
  planned_part part (top is) = elim built.entry [
    | inl none ↦ absurd (null_is_not root part none is)
    | inr named ↦ (named.0, named.1, same_part part (part_of planned named.0) (sym is ∙ named.2))
  ]
  planned_part part (below {parent} i reach is) =
      let above = planned_part parent reach in
      let link = ap (λ x. link_from format store x i) (sym above.2) ∙ is in
      elim (names above.0 i above.1) [
        | inl none ↦ absurd (null_is_not (link_from format store (part_of planned above.0) i) part none link)
        | inr named ↦ (named.0, named.1, same_part part (part_of planned named.0) (sym link ∙ named.2))
      ]

  below_bound : (bound k : ℕ) → k < bound → k < length planned → PartOf format store root (part_of planned k)
  below_bound zero k low within = absurd (omega (arith, low))
  below_bound (suc bound) k low within = elim (built.led k within) [
    | inl first ↦ top first
    | inr named ↦
        let near : named.0 < length planned = omega (arith, named.2, within) in
        below named.1 (below_bound bound named.0 (omega (arith, low, named.2)) near) (held_link named.0 named.1 near ∙ named.3)
  ]

  pub part_planned : (k : ℕ) → k < length planned → PartOf format store root (part_of planned k)
  part_planned k within = below_bound (suc k) k (omega arith) within

  pub are_planned : ArePlanned format store planned root
  are_planned part = (planned_part part, λ is. subst (PartOf format store root) (sym is.2) (part_planned is.0 is.1))

  no_wild_link : (k i : ℕ) → k < length planned → link_from format store (part_of planned k) i ≢ Wild
  no_wild_link k i within = elim (names k i within) [
    | inl none ↦ null_not_wild (link_from format store (part_of planned k) i) none
    | inr named ↦ to_not_wild (link_from format store (part_of planned k) i) (part_of planned named.0) named.2
  ]

  one_index : (j k : ℕ) → j < length planned → k < length planned → place_of planned j ≡ place_of planned k → j ≡ k
  one_index j k in_j in_k same = elim (cases_eq j k) [
    | inl equal ↦ equal
    | inr differ ↦ elim (cases_lt j k) [
      | inl low ↦ absurd (built.once j k low in_k same)
      | inr high ↦ absurd (built.once k j (omega (arith, high, differ)) in_j (sym same))
    ]
  ]

  module _ (directory : Directory) (described : IsDirectory format directory) (old : List (List ℕ)) (lost : AreLost format directory old planned) where
    pub built_sound : IsSoundFile format directory store root
    built_sound = record {
      no_wild = elim built.entry [
        | inl none ↦ null_not_wild root none
        | inr named ↦ to_not_wild root (part_of planned named.0) named.2
      ];
      no_other_type = elim built.entry [
        | inl none ↦ null_not_other root none
        | inr named ↦ to_not_other root (part_of planned named.0) named.2
      ];
      sound = λ part reach.
          let is = planned_part part reach in
          let place = ap (λ (x : Part). x.place) is.2 in
          let free = lost is.0 is.1 in
          record {
            no_wild = λ i wild. no_wild_link is.0 i is.1 (ap (λ x. link_from format store x i) (sym is.2) ∙ wild);
            outside_system = ap (is_system directory) place ∙ ((described.available_of (place_of planned is.0)).0 free.available).1;
            marked = ap (λ n. slice_index_or directory.free n false) place ∙ free.marked;
          };
      once = λ part other reach reach' same.
          let is = planned_part part reach in
          let is' = planned_part other reach' in
          is.2 ∙ ap (part_of planned) (one_index is.0 is'.0 is.1 is'.1
          (sym (ap (λ (x : Part). x.place) is.2) ∙ same ∙ ap (λ (x : Part). x.place) is'.2)) ∙ sym is'.2;
    }

    pub built_new : IsNewFile format directory old store root
    built_new = record {
      file = built_sound;
      apart = λ part other reach reach' same.
          let is = planned_part part reach in
          (lost is.0 is.1).unreached other reach' (sym same ∙ ap (λ (x : Part). x.place) is.2);
    }

  -- the body is the plan's
  pub unit_planned : (stored : Stored) → HasUnit format store root stored → HasPlannedUnit planned stored
  unit_planned stored has =
      let is = planned_part has.part has.reached in (
        is.0,
        is.1,
        sym (ap (λ (x : Part). x.kind) is.2) ∙ has.of_body,
        sym (ap (λ (x : Part). x.number) is.2) ∙ has.numbered,
        sym (held is.0 is.1) ∙ sym (ap (λ (x : Part). unit_at store x.place) is.2) ∙ has.stands,
      )

  pub planned_unit : (stored : Stored) → HasPlannedUnit planned stored → HasUnit format store root stored
  planned_unit stored has = record {
    part = part_of planned has.0;
    reached = part_planned has.0 has.1;
    of_body = has.2;
    numbered = has.3;
    stands = held has.0 has.1 ∙ has.4;
  }

pub built_file : (format : Meaning) (laws : IsReadable format) (store : List (List ℕ)) (planned : List Planned) (entry : Listed) (value : File)
    → IsBuilt format (length store) planned entry.root → AreHeld store planned
    → value.path ≡ entry.path → value.bytes ≡ entry.bytes → IsBodyOf planned value.body → IsFileOf format store entry value
built_file format laws store planned entry value built held path bytes body = record {
  path = path;
  bytes = bytes;
  members = λ stored. (
    λ has. planned_unit format laws store planned entry.root built held stored ((body.members stored).0 has),
    λ has. (body.members stored).1 (unit_planned format laws store planned entry.root built held stored has),
  );
  rising = body.rising;
}
