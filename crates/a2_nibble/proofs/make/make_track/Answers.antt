use Rattle.std.proofs.Common.{◌⊎◌, ◌+◌, ◌*◌, ◌%◌, ◌<◌, ◌≤◌, length, get_or, refl, ap, inl, inr, ⊎_elim, ◌∙◌, subst, arith, below_more}
use Rattle.std.proofs.lemmas.Option.{get_or_from_slice_get, slice_get_within}
use Rattle.a2_nibble.specs.Field.{IsEncoded}
use Rattle.a2_nibble.specs.Track.{StandsAt, field_at}
use Rattle.a2_nibble.specs.MadeTrack.{IsGap, IsMadeTrack}
use Rattle.std.proofs.lemmas.List.{get_or-replicate}
use Rattle.a2_nibble.proofs.RingLemmas.{nibble_at-place}
use Rattle.a2_nibble.proofs.MakeLemmas.{gap_stands, sector_kept, made_fields, made_contents, one_made_track}
use Rattle.a2_nibble.proofs.make.make_track.Goals as goal
use Rattle.a2_nibble.proofs.make.make_track.Goals.{After-loop-sector}

pub loop-sector-init : goal.loop-sector-init
loop-sector-init c = record {
  long = omega arith;
  gap = λ q l _. nibble_at-place c.fill.new.self q (q % 6656) refl
      ∙ ap (λ bytes. get_or bytes (q % 6656) 0) (c.fill.ensures.after (λ y e. e))
      ∙ get_or-replicate (length c.args.nibbles.now) (q % 6656) 0xFF 0 (omega arith);
  done = λ p l. absurd (omega arith);
}

pub loop-sector-preserved : goal.loop-sector-preserved
loop-sector-preserved c =
    let s = c.loop-sector.sector in
    let place = 48 + 396 * s in
    let old = c.loop-sector.nibbles in
    let new = c.put_sector.new.nibbles in
    record {
      long = omega arith;
      gap = λ q l h.
          let gap : IsGap place q = ⊎_elim (λ u. inl (omega (arith, u))) (λ o. inr (inr (omega (arith, o)))) h in
          let before : (q < 48) ⊎ (48 + 396 * s ≤ q) = ⊎_elim (λ u. inl u) (λ o. inr (omega (arith, o))) h in
          c.put_sector.ensures.gaps q l gap ∙ c.loop-sector.invariant.gap q l before;
      done = below_more _ _
          (λ p h content is. sector_kept old new place (λ q l. c.put_sector.ensures.gaps q (omega arith) (inl l))
          (48 + 396 * p) c.args.volume c.args.track p content (omega arith) (c.loop-sector.invariant.done p h content is))
          (λ content is. record {
            address = subst (StandsAt new place) c.address_of.ensures c.put_sector.ensures.address;
            address_end = c.put_sector.ensures.address_end;
            gap = gap_stands new (place + 14) 6 (λ k l.
                c.put_sector.ensures.gaps (place + 14 + k) (omega arith) (inr (inl (omega arith, omega arith)))
                ∙ c.loop-sector.invariant.gap (place + 14 + k) (omega arith) (inr (omega arith)));
            mark = c.put_sector.ensures.mark;
            encoded = subst (λ x. IsEncoded x (field_at new (place + 23))) (get_or_from_slice_get _ s content _ is) c.put_sector.ensures.encoded;
            data_end = c.put_sector.ensures.data_end;
            gap_after = gap_stands new (place + 369) 27 (λ k l.
                c.put_sector.ensures.gaps (place + 369 + k) (omega arith) (inr (inr (omega arith)))
                ∙ c.loop-sector.invariant.gap (place + 369 + k) (omega arith) (inr (omega arith)));
          });
    }

made : (c : After-loop-sector) → IsMadeTrack c.loop-sector.nibbles c.args.volume c.args.track c.args.sectors.now
made c = record {
  before = gap_stands _ 0 48 (λ k l. c.loop-sector.invariant.gap (0 + k) (omega arith) (inl (omega arith)));
  sector_at = λ p content is. c.loop-sector.invariant.done p (omega (arith, slice_get_within c.args.sectors.now p content is)) content is;
  after = gap_stands _ 6384 272 (λ k l. c.loop-sector.invariant.gap (6384 + k) (omega arith) (inr (omega arith)));
}

pub returns-clause-made : goal.returns-clause-made
returns-clause-made c = made c

pub returns-clause-fields : goal.returns-clause-fields
returns-clause-fields c = made_fields _ _ _ c.args.sectors.now (omega arith) (omega arith) (omega arith) (made c)

pub returns-clause-contents : goal.returns-clause-contents
returns-clause-contents c = made_contents _ _ _ c.args.sectors.now (omega arith) (omega arith) (omega arith) (made c)

pub returns-clause-only : goal.returns-clause-only
returns-clause-only c = λ other long h. one_made_track other _ c.args.volume c.args.track c.args.sectors.now (omega arith) h (made c) long
    c.loop-sector.invariant.long
