use Rattle.std.proofs.Common.{◌≡◌, ◌+◌, [], take, true, false, rules, sym, subst, ◌∙◌}
use Rattle.std.specs.List.{concat}
use Rattle.std.specs.Option.{is_none}
use Rattle.std.proofs.lemmas.Bool.{both_ways}
use Rattle.std.proofs.lemmas.List.{get_or_read}
use Rattle.vol_layout.specs.Rings.{IsRing}
use Rattle.ring_cert.specs.Good.{IsFirstRepeat}
use Rattle.ring_cert.specs.Seen.{HasMet}
use Rattle.ring_cert.proofs.Distinct.{distinct_right}
use Rattle.ring_cert.proofs.Repeats.{IsFirstRepeat-over}
use Rattle.ring_cert.proofs.Weighing.{IsBrokenTo, numbers_more, broken_here, whole_here, broken_before}
use Rattle.ring_cert.proofs.verifying.weigh_rings.Goals.{then-is_none+then-not-is_ring, else-is_none, else-is_none-via-then-is_none+else-not-is_ring, else-is_none-via-else-is_none}
use Rattle.ring_cert.proofs.verifying.weigh_rings.Goals as goal

pub returns-in-Some-clause-fault : goal.returns-in-Some-clause-fault
returns-in-Some-clause-fault g c =
    let i = c.loop-index.index in
    let rings = c.args.rings.now in
    let list = c.numbers-numbers.ensures ∙ get_or_read rings i c.index-rings-index.result c.loop-index-test.true c.index-rings-index.is [] in
    let all = numbers_more rings i c.numbers-numbers.result.now c.loop-index-test.true list in
    let found = rw c.in-Some.is at (c.in_ok-part.ensures (concat (take i rings)) c.loop-index.invariant.met) in
    IsFirstRepeat-over rings (i + 1) c.in-Some.part (subst (λ xs. IsFirstRepeat xs c.in-Some.part) all found)

pub is_ring-requires : goal.is_ring-requires
is_ring-requires g c =
    let rings = c.args.rings.now in
    let met = rw c.in_default.is at (c.in_ok-part.ensures (concat (take c.loop-index.index rings)) c.loop-index.invariant.met) in
    distinct_right (concat (take c.loop-index.index rings)) c.numbers-numbers.result.now met.distinct

pub loop-index-preserved : goal.loop-index-preserved
loop-index-preserved g c =
    let i = c.loop-index.index in
    let at = c.args.at.now in
    let rings = c.args.rings.now in
    let within = c.loop-index-test.true in
    let list = c.numbers-numbers.ensures ∙ get_or_read rings i c.index-rings-index.result within c.index-rings-index.is [] in
    let met = rw c.in_default.is at (c.in_ok-part.ensures (concat (take i rings)) c.loop-index.invariant.met) in
    let broken = c.loop-index.broken in
    let first = c.loop-index.invariant.first in
    record {
      met = subst (HasMet c.insert_all.new.self) (numbers_more rings i c.numbers-numbers.result.now within list) met;
      first = elim c.if-is_none.branch [
        | then-is_none+then-not-is_ring w ↦
            let none : is_none broken ≡ true = search rules in
            let not : w.is_ring.result ≡ false = search rules in
            let here = broken_here at rings i within broken none first
            (λ ring. both_ways w.is_ring.result not (w.is_ring.ensures.1 (subst (IsRing at) (sym list) ring))) in
            subst (IsBrokenTo at rings (i + 1)) (sym w.broken-is) here
        | else-is_none w ↦
            subst (IsBrokenTo at rings (i + 1)) (sym w.broken-is)
            (elim w.else-is_none.branch [
              | else-is_none-via-then-is_none+else-not-is_ring v ↦
                  let none : is_none broken ≡ true = search rules in
                  let ring : IsRing at c.numbers-numbers.result.now = search rules in
                  whole_here at rings i within broken none first (subst (IsRing at) list ring)
              | else-is_none-via-else-is_none v ↦
                  let some : is_none broken ≡ false = search rules in
                  broken_before at rings i within broken some first
            ])
      ];
    }
