use Rattle.std.proofs.Common.{◌≡◌, arith, rules, vec_len}
use Rattle.std.proofs.lemmas.List.{nil_from_length}
use Rattle.ring_cert.proofs.Spelling.{ring_no_name, ring_found, ring_no_end, ring_no_part}
use Rattle.ring_cert.proofs.words.ring_at.Goals as goal

pub returns-in_default-clause-none : goal.returns-in_default-clause-none
returns-in_default-clause-none g c = ring_no_name c.args.bytes.now c.in_default.ensures

pub returns-in_default-after-clause-none : goal.returns-in_default-after-clause-none
returns-in_default-after-clause-none g c =
    let read = c.in_ok-parts in
    ring_no_end c.args.bytes.now c.in-Some.named.now read.parts.items read.rest.now c.in-Some.ensures read.ensures.words read.ensures.end c.in_default-after.ensures

pub returns-then-is_empty-clause-none : goal.returns-then-is_empty-clause-none
returns-then-is_empty-clause-none g c =
    let read = c.in_ok-parts in
    let empty : vec_len read.parts ≡ 0 = search rules in
    ring_no_part c.args.bytes.now c.in-Some.named.now read.parts.items read.rest.now c.in-Some.ensures read.ensures.words read.ensures.end
    (nil_from_length read.parts.items (omega (arith, read.parts.ok.0)))

pub returns-clause-found : goal.returns-clause-found
returns-clause-found g c =
    let read = c.in_ok-parts in
    rw c.new.ensures
    (ring_found c.args.bytes.now c.in-Some.named.now read.parts.items read.rest.now c.in-Some.ensures read.ensures.words c.in-Some-after.next.now c.in-Some-after.ensures)
