use Rattle.std.proofs.Common.{◌≡◌, ◌+◌, arith, sym, ap, ◌∙◌, subst}
use Rattle.std.proofs.lemmas.Bool.{both_ways}
use Rattle.a2_nibble.specs.Address.{address_field, number_of}
use Rattle.a2_nibble.specs.Track.{nibble_at, StandsAt}
use Rattle.a2_nibble.proofs.AddressLemmas.{volume_from_address}
use Rattle.a2_nibble.proofs.search.volume_at.Goals as goal

pub returns-else-stands_at-clause-none : goal.returns-else-stands_at-clause-none
returns-else-stands_at-clause-none c = λ volume l h.
    let nibbles = c.args.nibbles.now in
    let at : c.args.place + 3 + 1 ≡ c.args.place + 4 = omega arith in
    let read = c.number_at-volume.ensures ∙ ap (λ q. number_of (nibble_at nibbles (c.args.place + 3)) (nibble_at nibbles q)) at
    ∙ volume_from_address nibbles c.args.place volume c.args.track c.args.sector l h in
    let same : address_field volume c.args.track c.args.sector ≡ c.address_of.result =
    ap (λ v. address_field v c.args.track c.args.sector) (sym read) ∙ sym c.address_of.ensures in
    both_ways _ c.if-stands_at.false (c.stands_at.ensures.1 (subst (StandsAt nibbles c.args.place) same h))
