use Rattle.std.proofs.Common.{arith, tests, inl, inr}
use Rattle.vol_mover.specs.Opening.{told_in}
use Rattle.shop_reads.proofs.Unopened.{unopened}
use Rattle.shop_reads.proofs.Quiet.{opening_reads}
use Rattle.shop_reads.proofs.verify.verify_reply.Goals as goal

pub returns-in-Ok-clause-told : goal.returns-in-Ok-clause-told
returns-in-Ok-clause-told g c = λ honest lack.
    let opening = c.in-Ok.opening in
    let directory = g.F.Format.directory c.args.format.now opening.volume in
    let read = c.in-Ok.ensures in
    inr (
      omega (arith, tests, c.if-text-gt-MOST_CERTIFICATE.false),
      inl (record {
        volume = told_in directory opening;
        opened = record {
          directory = directory;
          accepted = read.accepted honest;
          of_directory = read.told;
          parts = read.parts honest;
          lost = read.lost honest;
          allowed = read.allowed;
        };
        verdict = c.verdict_reply.ensures;
      }),
    )

pub returns-in-Err-clause-told : goal.returns-in-Err-clause-told
returns-in-Err-clause-told g c = λ honest lack. inr (
  omega (arith, tests, c.if-text-gt-MOST_CERTIFICATE.false),
  inr (unopened c.args.reclaim (g.F.Format.meaning c.args.format.now) (g.D.Device.state c.args.device.now) c.in-Err.error c.unopened_reply.result lack (c.in-Err.ensures.refused honest) c.unopened_reply.ensures),
)

pub returns-in-Err-clause-reads : goal.returns-in-Err-clause-reads
returns-in-Err-clause-reads g c =
    opening_reads c.unopened_reply.result (g.D.Device.state c.args.device.now) (g.D.Device.state c.read.new.device)
    c.in-Err.error c.unopened_reply.ensures c.in-Err.ensures.device
