use Rattle.std.proofs.Common.{◌≡◌, Global, String, ℕ, ◌++◌, inl, inr, refl, string_bytes}
use Rattle.std.specs.Prelude.{None, codes, decimal}
use Rattle.ring_cert.specs.declared.certificate.CertError.{CertError}
use Rattle.ring_cert.specs.declared.certificate.CertError.TheVariants as texts
use Rattle.file_listings.specs.DosText.{line}
use Rattle.shop_replies.specs.declared.refusal.Failure.TheVariants as failures
use Rattle.shop_replies.specs.declared.reply.Reply.{Reply}
use Rattle.shop_replies.specs.declared.reply.Status.TheVariants.{Wrong}
use Rattle.shop_replies.specs.declared.reply.Told.TheVariants as tells
use Rattle.shop_replies.specs.Reply.{failed}
use Rattle.shop_reads.specs.VerifyReply.{TellsNoText}
use Rattle.shop_reads.proofs.verify.no_text_reply.Goals as goal

faulty_told : (error : CertError) (number : ℕ) (text : String Global) (reply : Reply) → error ≡ texts.Syntax number
    → string_bytes text ≡ line (codes "REFUSED Syntax " ++ decimal number) → reply ≡ record { status = Wrong; told = tells.Text text; image = None }
    → TellsNoText error reply
faulty_told error number text reply is lines told = rw (is, told) (inl ((refl, refl), lines))

no_memory : (error : CertError) (number : ℕ) (reply : Reply) → error ≡ texts.Syntax number → reply ≡ failed failures.Memory → TellsNoText error reply
no_memory error number reply is told = rw is (inr told)

pub returns-in-Ok : goal.returns-in-Ok
returns-in-Ok c = faulty_told c.args.error c.in-Syntax.line c.in-Ok.text c.wrong.result c.in-Syntax.is c.in-Ok.ensures.ok c.wrong.ensures

pub returns-in-Err : goal.returns-in-Err
returns-in-Err c = no_memory c.args.error c.in-Syntax.line c.failed-in-Err.result c.in-Syntax.is c.failed-in-Err.ensures
