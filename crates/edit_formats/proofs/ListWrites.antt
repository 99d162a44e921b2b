-- The unit of a list, written pair by pair.
use Rattle.std.proofs.Common.{◌≡◌, ◌≢◌, ◌<◌, ◌+◌, ◌*◌, ◌/◌, ◌%◌, ℕ, List, length, sym, ◌∙◌, ap, subst, arith, inl, inr, replicate}
use Rattle.std.specs.Prelude.{slice_index, slice_set}
use Rattle.std.proofs.lemmas.Bool.{cases_eq, cases_lt}
use Rattle.std.proofs.lemmas.List.{get_or-replicate, get_or-set_other, get_or-set_same, get_or_past, length-replicate, length-set}
use Rattle.a2_device.specs.declared.part.PartKind.TheVariants.{List as AList, Body}
use Rattle.dos_catalog.specs.Writes.{with_place}
use Rattle.dos_tslist.specs.Pointers.{link_offset, pair_offset}
use Rattle.dos_format.specs.lemmas.DosBytes.{byte-with_place_other, length-with_place, sector-with_place, track-with_place}
use Rattle.dos_format.specs.Plan.{NamesAt}
use Rattle.edit_formats.specs.declared.new_part.NewPart.{NewPart}
use Rattle.edit_formats.specs.Order.{AreDosParts, part_at}
use Rattle.edit_formats.specs.Parts.{new_part}
use Rattle.edit_formats.specs.Filling.{Between, HasPairs, IsEnd}
use Rattle.edit_formats.specs.ListUnit.{IsListUnit, IsUnused, NamesPart}
use Rattle.edit_formats.specs.lemmas.Parts.{list_own, next_list, no_next, part_is}

-- a unit of zeros has no pair
pub no_pairs : (parts : List NewPart) (places : List ℕ) (number at : ℕ) (unit : List ℕ) → unit ≡ replicate 256 0 → HasPairs parts places number at (at + 1) unit
no_pairs parts places number at unit zeros = subst (HasPairs parts places number at (at + 1)) (sym zeros) (record {
  size = length-replicate {A = ℕ} 256 0;
  pairs = λ i below. inr (λ k between. omega (arith, between.0, between.1), (zero (pair_offset i) (omega (arith, below)), zero (pair_offset i + 1) (omega (arith, below))));
  rest = λ byte low. zero byte (omega (arith, low));
})
  where
    zero : (byte : ℕ) → byte < 256 → slice_index (replicate 256 0) byte ≡ 0
    zero byte inside = get_or-replicate 256 byte 0 0 inside

-- the pair of the next part is written
module _ (parts : List NewPart) (places : List ℕ) (number at upto : ℕ) (unit : List ℕ) (has : HasPairs parts places number at upto unit)
    (low : at < upto) (body : (part_at parts upto).kind ≡ Body) (of : (part_at parts upto).number / 122 ≡ number) where
  abbrev slot : ℕ
  slot = (part_at parts upto).number % 122

  abbrev new : List ℕ
  new = with_place (pair_offset slot) (slice_index places upto) unit

  slot_below : slot < 122
  slot_below = omega arith

  here : NamesAt new (pair_offset slot) (slice_index places upto)
  here = (
    track-with_place (pair_offset slot) (slice_index places upto) unit (omega (arith, has.size, slot_below)),
    sector-with_place (pair_offset slot) (slice_index places upto) unit (omega (arith, has.size, slot_below)),
  )

  stays : (i place : ℕ) → i ≢ slot → NamesAt unit (pair_offset i) place → NamesAt new (pair_offset i) place
  stays i place apart names = (
    byte-with_place_other (pair_offset slot) (slice_index places upto) unit (pair_offset i) (λ e. apart (omega (arith, e))) (λ e. omega (arith, e)) ∙ names.0,
    byte-with_place_other (pair_offset slot) (slice_index places upto) unit (pair_offset i + 1) (λ e. omega (arith, e)) (λ e. apart (omega (arith, e))) ∙ names.1,
  )

  not_here : (i k : ℕ) → i < 122 → i ≢ slot → ((k : ℕ) → Between parts at upto (new_part Body (122 * number + i)) k → ⊥) → Between parts at (upto + 1) (new_part Body (122 * number + i)) k → ⊥
  not_here i k below apart none between = elim (cases_eq k upto) [
    | inl last ↦
        let same = ap (λ n. (part_at parts n).number) (sym last) ∙ ap (λ (part : NewPart). part.number) between.2 in
        absurd (apart (omega (arith, same, below)))
    | inr before ↦ none k (between.0, omega (arith, between.1, before), between.2)
  ]

  pub pair_more : HasPairs parts places number at (upto + 1) new
  pair_more = record {
    size = length-with_place (pair_offset slot) (slice_index places upto) unit ∙ has.size;
    pairs = λ i below. elim (cases_eq i slot) [
      | inl same ↦
          inl (
            upto,
            (low, omega arith, part_is (part_at parts upto) Body (122 * number + i) body (omega (arith, of, same))),
            subst (λ n. NamesAt new (pair_offset n) (slice_index places upto)) (sym same) here,
          )
      | inr apart ↦ elim (has.pairs i below) [
        | inl found ↦ inl (found.0, (found.1.0, omega (arith, found.1.1), found.1.2), stays i (slice_index places found.0) apart found.2)
        | inr none ↦ inr (λ k between. not_here i k below apart none.0 between, stays i 0 apart none.1)
      ]
    ];
    rest = λ byte before. byte-with_place_other (pair_offset slot) (slice_index places upto) unit byte (λ e. omega (arith, e, before)) (λ e. omega (arith, e, before)) ∙ has.rest byte before;
  }

-- with its pairs, its link and the number of its first unit a list has its unit
module _ (parts : List NewPart) (places : List ℕ) (at end : ℕ) (unit : List ℕ) (are : AreDosParts parts) (inside : at < length parts) (is : (part_at parts at).kind ≡ AList)
    (size : length places ≡ length parts) (ends : IsEnd parts at end) (has : HasPairs parts places (part_at parts at).number at end unit) where
  abbrev number : ℕ
  number = (part_at parts at).number

  abbrev linked : List ℕ
  linked = with_place link_offset (slice_index places end) unit

  abbrev whole : List ℕ
  whole = slice_set (slice_set linked 0x05 (122 * number % 256)) 0x06 (122 * number / 256)

  linked_size : length linked ≡ 256
  linked_size = length-with_place link_offset (slice_index places end) unit ∙ has.size

  other : (byte : ℕ) → byte ≢ 5 → byte ≢ 6 → slice_index whole byte ≡ slice_index linked byte
  other byte low high =
      get_or-set_other (slice_set linked 5 (122 * number % 256)) 6 byte (122 * number / 256) 0 high ∙ get_or-set_other linked 5 byte (122 * number % 256) 0 low

  unlinked : (byte : ℕ) → byte ≢ 1 → byte ≢ 2 → byte ≢ 5 → byte ≢ 6 → slice_index whole byte ≡ slice_index unit byte
  unlinked byte one two five six = other byte five six ∙ byte-with_place_other link_offset (slice_index places end) unit byte one two

  link : NamesAt whole link_offset (slice_index places end)
  link = (
    other 1 (λ e. omega (arith, e)) (λ e. omega (arith, e)) ∙ track-with_place link_offset (slice_index places end) unit (omega (arith, has.size)),
    other 2 (λ e. omega (arith, e)) (λ e. omega (arith, e)) ∙ sector-with_place link_offset (slice_index places end) unit (omega (arith, has.size)),
  )

  link_names : NamesPart parts places (new_part AList (number + 1)) whole link_offset
  link_names = elim (cases_lt end (length parts)) [
    | inl more ↦ inl (end, more, next_list parts are at end inside is ends more, link)
    | inr past ↦
        let all : end ≡ length parts = omega (arith, past, ends.within) in
        let none : slice_index places end ≡ 0 = get_or_past places end 0 (omega (arith, all, size)) in
        inr (no_next parts are at end inside is ends all, subst (NamesAt whole link_offset) none link)
  ]

  pair_stays : (i place : ℕ) → NamesAt unit (pair_offset i) place → NamesAt whole (pair_offset i) place
  pair_stays i place names = (
    unlinked (pair_offset i) (λ e. omega (arith, e)) (λ e. omega (arith, e)) (λ e. omega (arith, e)) (λ e. omega (arith, e)) ∙ names.0,
    unlinked (pair_offset i + 1) (λ e. omega (arith, e)) (λ e. omega (arith, e)) (λ e. omega (arith, e)) (λ e. omega (arith, e)) ∙ names.1,
  )

  none_elsewhere : (i : ℕ) → i < 122 → ((k : ℕ) → Between parts at end (new_part Body (122 * number + i)) k → ⊥) → (k : ℕ) → k < length parts → part_at parts k ≢ new_part Body (122 * number + i)
  none_elsewhere i below none k within same =
      let numbered = ap (λ (part : NewPart). part.number) same in
      let own = list_own parts are at end inside is ends k within (ap (λ (part : NewPart). part.kind) same) (omega (arith, numbered, below)) in
      none k (own.0, own.1, same)

  unused : (byte : ℕ) → IsUnused byte → slice_index whole byte ≡ 0
  unused byte (inl zeroth) = unlinked byte (λ e. omega (arith, e, zeroth)) (λ e. omega (arith, e, zeroth)) (λ e. omega (arith, e, zeroth)) (λ e. omega (arith, e, zeroth)) ∙ has.rest byte (omega (arith, zeroth))
  unused byte (inr (inl three)) = unlinked byte (λ e. omega (arith, e, three)) (λ e. omega (arith, e, three)) (λ e. omega (arith, e, three)) (λ e. omega (arith, e, three)) ∙ has.rest byte (omega (arith, three))
  unused byte (inr (inr (inl four))) = unlinked byte (λ e. omega (arith, e, four)) (λ e. omega (arith, e, four)) (λ e. omega (arith, e, four)) (λ e. omega (arith, e, four)) ∙ has.rest byte (omega (arith, four))
  unused byte (inr (inr (inr late))) =
      unlinked byte (λ e. omega (arith, e, late.0)) (λ e. omega (arith, e, late.0)) (λ e. omega (arith, e, late.0)) (λ e. omega (arith, e, late.0)) ∙ has.rest byte late.1

  pub list_unit : IsListUnit parts places number whole
  list_unit = record {
    size = length-set (slice_set linked 5 (122 * number % 256)) 6 (122 * number / 256) ∙ length-set linked 5 (122 * number % 256) ∙ linked_size;
    link = link_names;
    first = (
      get_or-set_other (slice_set linked 5 (122 * number % 256)) 6 5 (122 * number / 256) 0 (λ e. omega (arith, e)) ∙ get_or-set_same linked 5 (122 * number % 256) 0 (omega (arith, linked_size)),
      get_or-set_same (slice_set linked 5 (122 * number % 256)) 6 (122 * number / 256) 0 (omega (arith, length-set linked 5 (122 * number % 256), linked_size)),
    );
    pairs = λ i below. elim (has.pairs i below) [
      | inl found ↦ inl (found.0, omega (arith, found.1.1, ends.within), found.1.2, pair_stays i (slice_index places found.0) found.2)
      | inr none ↦ inr (none_elsewhere i below none.0, pair_stays i 0 none.1)
    ];
    unused = unused;
  }
