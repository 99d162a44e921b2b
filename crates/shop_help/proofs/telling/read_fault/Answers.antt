use Rattle.std.proofs.Common.{subst, map, string_bytes}
use Rattle.shop_words.specs.Unread.{IsUnreadOf}
use Rattle.shop_help.proofs.FaultLemmas.{told_fault}
use Rattle.shop_help.proofs.telling.read_fault.Goals as goal

pub returns-in-Clap-clause-fault : goal.returns-in-Clap-clause-fault
returns-in-Clap-clause-fault c unread =
    let words = map string_bytes c.args.words.now in
    told_fault words c.in-Clap.error c.refusal.result (subst (IsUnreadOf words) c.in-Clap.is unread) c.refusal.ensures.kind
