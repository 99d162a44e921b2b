-- A certificate in memory, as what it tells.
use Rattle.ring_cert.specs.declared.certificate.Cert.{Cert}
use Rattle.ring_cert.specs.Certificates.{Certificate}

-- what a certificate tells, without where it lies in memory
abbrev pub told : {A : Type 0} → Cert A → Certificate
told cert =
    record {
      at = cert.at.items;
      places = cert.places;
      off = cert.off.items;
      rings = cert.rings.items;
      bound = cert.bound;
      moves = cert.moves.items;
    }
