use Rattle.std.proofs.Common.{ℕ, List, Option, arith, inl, inr, refl, subst}
use Rattle.folder_adding.specs.Reads.{IsUnlike}
use Rattle.folder_adding.proofs.reading.read_item.Goals as goal

pub returns-in-Err-clause-unread : goal.returns-in-Err-clause-unread
returns-in-Err-clause-unread g c =
    inl (
      refl,
      record {
        failure = c.in-Err.failure;
        is = c.in-Err.ensures.failed;
        files = c.args.files.now;
        cause = c.in-Err.ensures.cause;
        told = c.failed-reply.ensures;
      },
    )

pub returns-in-Err-weigh_second-clause-unread : goal.returns-in-Err-weigh_second-clause-unread
returns-in-Err-weigh_second-clause-unread g c =
    inr (record {
      bytes = c.in-Ok.bytes.items;
      read = c.in-Ok.ensures.read;
      short = omega (arith, c.if-len-gt-MOST_INPUT.false, c.len.ensures);
      second = c.in-Some.second;
      beside = c.in-Some.is;
      of = refl;
      unlike = subst (λ (holds : Option (ℕ → List ℕ)). IsUnlike g.H.HostFiles.may_fail c.args.file_system holds c.in-Ok.bytes.items c.in-Some.second c.in-Err-weigh_second.reply)
          c.read.ensures.same
          (subst (λ (bytes : List ℕ). IsUnlike g.H.HostFiles.may_fail c.args.file_system (g.H.HostFiles.holds c.read.new.self) bytes c.in-Some.second c.in-Err-weigh_second.reply)
          c.as_slice.ensures.value c.in-Err-weigh_second.ensures.unlike);
    })
