use Rattle.std.proofs.Common.{◌≡◌, ◌≢◌, [], length, ap, ◌∙◌, rules, eqb, true, eq-eqb}
use Rattle.std.proofs.lemmas.Bool.{both_ways}
use Rattle.std.proofs.lemmas.List.{append-nil, nil_from_length}
use Rattle.std.proofs.lemmas.Result.{err_from_is_err_and}
use Rattle.ring_cert.specs.Certificates.{Certificate, HasText, certificate_text}
use Rattle.ring_cert.proofs.Texts.{layout_stops, claim_stops, plan_stops, stop_behind, text_read}
use Rattle.ring_cert.proofs.reading.certificate_at.Goals as goal

pub returns-in_err-at-clause-stop : goal.returns-in_err-at-clause-stop
returns-in_err-at-clause-stop g c =
    let p = err_from_is_err_and c.from_residual.result c.from_residual.ensures.1 in
    rw (p.1, p.2) (layout_stops c.args.bytes.now _ c.in_err-at.ensures.stop)

pub returns-in_err-off-clause-stop : goal.returns-in_err-off-clause-stop
returns-in_err-off-clause-stop g c =
    let p = err_from_is_err_and c.from_residual-in_err-off.result c.from_residual-in_err-off.ensures.1 in
    rw (p.1, p.2)
    (claim_stops c.in_ok-at.at.items c.in_ok-at.places c.args.bytes.now c.in_ok-at.claimed.now _ c.in_ok-at.ensures.fits c.in_ok-at.ensures.found
    c.in_err-off.ensures.stop)

pub returns-in_err-moves-clause-stop : goal.returns-in_err-moves-clause-stop
returns-in_err-moves-clause-stop g c =
    let p = err_from_is_err_and c.from_residual-in_err-moves.result c.from_residual-in_err-moves.ensures.1 in
    rw (p.1, p.2)
    (plan_stops c.in_ok-at.at.items c.in_ok-at.places c.in_ok-off.off.items c.in_ok-off.rings.items c.in_ok-off.bound c.args.bytes.now
    c.in_ok-at.claimed.now c.in_ok-off.planned.now _ c.in_ok-at.ensures.fits c.in_ok-off.ensures.fits c.in_ok-at.ensures.found c.in_ok-off.ensures.found
    c.in_err-moves.ensures.stop)

pub returns-then-not-is_empty-clause-stop : goal.returns-then-not-is_empty-clause-stop
returns-then-not-is_empty-clause-stop g c =
    let read : Certificate =
    record {
      at = c.in_ok-at.at.items;
      places = c.in_ok-at.places;
      off = c.in_ok-off.off.items;
      rings = c.in_ok-off.rings.items;
      bound = c.in_ok-off.bound;
      moves = c.in_ok-moves.moves.items;
    } in
    let layout = c.in_ok-at.ensures.fits in
    let claim = c.in_ok-off.ensures.fits in
    let has : HasText read =
    record { parts = layout.0; at = layout.1; places = layout.2; off = claim.0; rings = claim.1; bound = claim.2; moves = c.in_ok-moves.ensures.fits } in
    let some : c.in_ok-moves.rest.now ≢ [] = λ none.
    let empty : eqb (length c.in_ok-moves.rest.now) 0 ≡ true = eq-eqb (length c.in_ok-moves.rest.now) 0 (ap length none) in
    both_ways c.is_empty.result (search rules) (c.is_empty.ensures ∙ empty) in
    stop_behind read c.args.bytes.now c.in_ok-moves.rest.now has
    (text_read read c.args.bytes.now c.in_ok-at.claimed.now c.in_ok-off.planned.now c.in_ok-moves.rest.now c.in_ok-at.ensures.found
    c.in_ok-off.ensures.found c.in_ok-moves.ensures.found) some

pub returns-clause-found : goal.returns-clause-found
returns-clause-found g c =
    let read : Certificate =
    record {
      at = c.in_ok-at.at.items;
      places = c.in_ok-at.places;
      off = c.in_ok-off.off.items;
      rings = c.in_ok-off.rings.items;
      bound = c.in_ok-off.bound;
      moves = c.in_ok-moves.moves.items;
    } in
    let empty : length c.in_ok-moves.rest.now ≡ 0 = search rules in
    let none : c.in_ok-moves.rest.now ≡ [] = nil_from_length c.in_ok-moves.rest.now empty in
    text_read read c.args.bytes.now c.in_ok-at.claimed.now c.in_ok-off.planned.now [] c.in_ok-at.ensures.found
    c.in_ok-off.ensures.found (rw none at c.in_ok-moves.ensures.found) ∙ append-nil (certificate_text read)
