use Rattle.std.proofs.Common.{◌∙◌, ◌++◌, ◌∷◌, [], sym, ap, arith, length, ℕ, List}
use Rattle.std.proofs.lemmas.List.{length-append}
use Rattle.file_edits.proofs.Firsts.{are_first, free_taken, next_within, place_has, used_passed}
use Rattle.file_edits.proofs.places.first_places.Goals as goal

pub is_free-requires : goal.is_free-requires
is_free-requires g c =
    let directory = g.F.Format.directory c.args.format.now c.args.volume.now in
    let has = place_has directory c.loop-place.number c.in-Some.place (sym c.available.ensures ∙ c.in-Some.is) in
    (((g.met.F.Format.rooted c.args.format.now c.args.volume.now).available_of c.in-Some.place).0 has).0

pub loop-place-smaller-in-Continue-1 : goal.loop-place-smaller-in-Continue-1
loop-place-smaller-in-Continue-1 g c =
    let directory = g.F.Format.directory c.args.format.now c.args.volume.now in
    omega (arith, next_within directory c.loop-place.number c.in-Some.place (sym c.available.ensures ∙ c.in-Some.is))

pub loop-place-preserved-in-Continue-1 : goal.loop-place-preserved-in-Continue-1
loop-place-preserved-in-Continue-1 g c =
    let directory = g.F.Format.directory c.args.format.now c.args.volume.now in
    let place = c.in-Some.place in
    let is = sym c.available.ensures ∙ c.in-Some.is in (
      c.in_ok-take.ensures ∙ ap (λ (l : List ℕ). l ++ place ∷ []) c.loop-place.invariant.0
          ∙ sym (free_taken directory c.loop-place.number place is (sym c.is_free.ensures ∙ c.if-is_free.true)),
      next_within directory c.loop-place.number place is,
      omega (arith, ap length c.in_ok-take.ensures, length-append c.loop-place.places.items (place ∷ []), c.loop-place-test.true, c.len.ensures),
    )

pub loop-place-smaller : goal.loop-place-smaller
loop-place-smaller g c =
    let directory = g.F.Format.directory c.args.format.now c.args.volume.now in
    omega (arith, next_within directory c.loop-place.number c.in-Some.place (sym c.available.ensures ∙ c.in-Some.is))

pub loop-place-preserved : goal.loop-place-preserved
loop-place-preserved g c =
    let directory = g.F.Format.directory c.args.format.now c.args.volume.now in
    let place = c.in-Some.place in
    let is = sym c.available.ensures ∙ c.in-Some.is in (
      c.loop-place.invariant.0 ∙ sym (used_passed directory c.loop-place.number place is (sym c.is_free.ensures ∙ c.if-is_free.false)),
      next_within directory c.loop-place.number place is,
      c.loop-place.invariant.2,
    )

pub returns-clause-places : goal.returns-clause-places
returns-clause-places g c =
    are_first (g.F.Format.directory c.args.format.now c.args.volume.now) c.loop-place.number c.args.count c.loop-place.places.items c.loop-place.invariant.0
    (omega (arith, c.loop-place.invariant.2, c.loop-place-test.false, c.len.ensures))
