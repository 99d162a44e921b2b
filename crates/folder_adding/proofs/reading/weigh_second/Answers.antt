use Rattle.std.proofs.Common.{inl}
use Rattle.folder_adding.proofs.reading.weigh_second.Goals as goal

pub returns-in-Err-clause-unlike : goal.returns-in-Err-clause-unlike
returns-in-Err-clause-unlike g c =
    inl (record {
      failure = c.in-Err.failure;
      is = c.in-Err.ensures.failed;
      files = c.args.files.now;
      cause = c.in-Err.ensures.cause;
      told = c.failed.ensures;
    })
