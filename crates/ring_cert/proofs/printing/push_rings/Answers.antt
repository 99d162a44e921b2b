use Rattle.std.proofs.Common.{◌++◌, [], ap, subst, ◌∙◌}
use Rattle.std.specs.List.{All}
use Rattle.std.proofs.lemmas.List.{get_or_read}
use Rattle.std.proofs.lemmas.List.Elements.{All-more}
use Rattle.ring_cert.specs.Certificates.{IsSmall, ring_line}
use Rattle.ring_cert.proofs.Written.{run_written}
use Rattle.ring_cert.proofs.printing.push_rings.Goals as goal

pub loop-ring-preserved : goal.loop-ring-preserved
loop-ring-preserved g c =
    let i = c.loop-ring.ring-index in
    let rings = c.args.rings.now in
    let ring = c.parts.ensures ∙ get_or_read rings i c.ring-item.result c.loop-ring-test.true c.ring-item.is [] in
    record {
      text = run_written ring_line c.args.text.now.items rings i [] c.loop-ring.text.items c.push_line.new.text.items c.loop-ring-test.true
          c.loop-ring.invariant.text (c.in_ok-push_line.ensures.text ∙ ap (λ parts. c.loop-ring.text.items ++ ring_line parts) ring);
      small = All-more (All IsSmall) rings i [] c.loop-ring-test.true c.loop-ring.invariant.small (subst (All IsSmall) ring c.in_ok-push_line.ensures.small);
    }
