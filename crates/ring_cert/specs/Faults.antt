-- Why bytes are no certificate's text.
use Rattle.std.specs.Prelude.{◌≡◌, ℕ, List}
use Rattle.ring_cert.specs.declared.certificate.CertError.{CertError}
use Rattle.ring_cert.specs.declared.certificate.CertError.TheVariants.{Syntax, Memory}
use Rattle.ring_cert.specs.Certificates.{Certificate, HasText, IsFirstBadLine, certificate_text}

-- they are the text of no certificate, and this is the first line that cannot stand
pub record IsNoText (bytes : List ℕ) (line : ℕ) : Type 0 where
  pub none : (c : Certificate) → HasText c → bytes ≡ certificate_text c → ⊥
  pub first : IsFirstBadLine bytes line

abbrev pub IsFaultOfText : List ℕ → CertError → Type 0
IsFaultOfText bytes (Syntax line) = IsNoText bytes line
IsFaultOfText bytes Memory = Unit {0}
