use Rattle.std.proofs.Common.{◌≡◌, ℕ, ◌+◌, ◌∙◌, sym, ap, subst}
use Rattle.std.proofs.lemmas.Bool.{both_ways}
use Rattle.a2_nibble.specs.Field.{IsDataField}
use Rattle.a2_nibble.specs.Track.{field_at}
use Rattle.a2_nibble.specs.Sector.{IsFieldFrom}
use Rattle.a2_nibble.proofs.SearchLemmas.{IfNone-from, one_mark}
use Rattle.a2_nibble.proofs.search.field_from.Goals as goal

pub returns-in_err-data_at-clause-none : goal.returns-in_err-data_at-clause-none
returns-in_err-data_at-clause-none c =
    let none : (v d : ℕ) → IsFieldFrom c.args.nibbles.now c.args.track c.args.sector c.args.place v d → ⊥ =
    λ v d h. c.in_err-data_at.ensures.none d h.mark in
    IfNone-from c.from_residual-in_err-data_at.result none

pub returns-else-is_data_field-clause-none : goal.returns-else-is_data_field-clause-none
returns-else-is_data_field-clause-none c = λ v d h.
    let nibbles = c.args.nibbles.now in
    let same : d ≡ c.from.result =
    one_mark nibbles (c.args.place + 11) d _ h.mark c.in_ok-data_at.ensures.found.1 ∙ sym c.from.ensures in
    let bytes : field_at nibbles d ≡ c.field_at.result = ap (field_at nibbles) same ∙ sym c.field_at.ensures in
    both_ways _ c.if-is_data_field.false (c.is_data_field.ensures.1 (subst IsDataField bytes h.counts))
