use Rattle.std.proofs.Common.{subst}
use Rattle.std.specs.List.{All}
use Rattle.ring_cert.specs.Certificates.{IsSmall, IsMoveTold}
use Rattle.ring_cert.proofs.Written.{rings_told}
use Rattle.ring_cert.proofs.printing.print.Goals as goal

pub returns-clause-fits : goal.returns-clause-fits
returns-clause-fits g c =
    let layout = c.in_ok-push_layout.ensures.fits in
    record {
      parts = layout.0;
      at = layout.1;
      places = layout.2;
      off = subst (All IsSmall) c.as_slice.ensures.value c.in_ok-push_claim.ensures.small;
      rings = rings_told c.args.plan.now.rings.items c.requires.rings (subst (All (All IsSmall)) c.as_slice-2.ensures.value c.in_ok-push_claim.ensures.rings);
      bound = c.requires.bound;
      moves = subst (All IsMoveTold) c.as_slice-3.ensures.value c.in_ok-push_plan.ensures.fits;
    }
