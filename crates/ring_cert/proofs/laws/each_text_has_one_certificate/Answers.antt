use Rattle.ring_cert.proofs.TextLaws.{text_injective, text_alone}
use Rattle.ring_cert.proofs.laws.each_text_has_one_certificate.Goals as goal

pub returns-clause-one : goal.returns-clause-one
returns-clause-one c = text_injective

pub returns-clause-whole : goal.returns-clause-whole
returns-clause-whole c = text_alone
