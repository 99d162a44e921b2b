use Rattle.std.proofs.Common.{◌≡◌, ◌∙◌, sym, ap, subst, IfOk, List, string_bytes}
use Rattle.clap.specs.Faults.{fault_of}
use Rattle.clap.specs.Kinds.{FailsBy}
use Rattle.clap.specs.Matches.{found_of}
use Rattle.clap.specs.Simple.{matches_of, subcommand_of, subcommand_rows_of}
use Rattle.clap.specs.Takes.{takes}
use Rattle.clap.specs.Walk.{rows_of}
use Rattle.shop_words.specs.Grammar.{shop}
use Rattle.shop_words.specs.Table.{Text}
use Rattle.shop_words.proofs.Meant.{meant_words-none, meant_words-some}
use Rattle.shop_words.proofs.words.meant_matches.Goals as goal

pub returns-then-is_empty-clause-found : goal.returns-then-is_empty-clause-found
returns-then-is_empty-clause-found c =
    let meant = meant_words-none string_bytes c.args.words.now (sym c.is_empty.ensures ∙ c.if-is_empty.true) in
    subst (λ (ws : List Text). IfOk c.matches_in.result (λ m. (rows_of (found_of m) ≡ matches_of shop ws) × (subcommand_rows_of m ≡ subcommand_of shop ws))) (sym meant) c.matches_in.ensures.found

pub returns-then-is_empty-clause-taken : goal.returns-then-is_empty-clause-taken
returns-then-is_empty-clause-taken c taken =
    let meant = meant_words-none string_bytes c.args.words.now (sym c.is_empty.ensures ∙ c.if-is_empty.true) in
    c.matches_in.ensures.taken (ap (takes shop) (sym meant) ∙ taken)

pub returns-then-is_empty-clause-kinds : goal.returns-then-is_empty-clause-kinds
returns-then-is_empty-clause-kinds c =
    let meant = meant_words-none string_bytes c.args.words.now (sym c.is_empty.ensures ∙ c.if-is_empty.true) in
    subst (λ (ws : List Text). FailsBy (fault_of shop ws) c.matches_in.result) (sym meant) c.matches_in.ensures.kinds

pub returns-else-is_empty-clause-found : goal.returns-else-is_empty-clause-found
returns-else-is_empty-clause-found c =
    let meant = meant_words-some string_bytes c.args.words.now (sym c.is_empty.ensures ∙ c.if-is_empty.false) in
    subst (λ (ws : List Text). IfOk c.matches_in-else-is_empty.result (λ m. (rows_of (found_of m) ≡ matches_of shop ws) × (subcommand_rows_of m ≡ subcommand_of shop ws))) (sym meant) c.matches_in-else-is_empty.ensures.found

pub returns-else-is_empty-clause-taken : goal.returns-else-is_empty-clause-taken
returns-else-is_empty-clause-taken c taken =
    let meant = meant_words-some string_bytes c.args.words.now (sym c.is_empty.ensures ∙ c.if-is_empty.false) in
    c.matches_in-else-is_empty.ensures.taken (ap (takes shop) (sym meant) ∙ taken)

pub returns-else-is_empty-clause-kinds : goal.returns-else-is_empty-clause-kinds
returns-else-is_empty-clause-kinds c =
    let meant = meant_words-some string_bytes c.args.words.now (sym c.is_empty.ensures ∙ c.if-is_empty.false) in
    subst (λ (ws : List Text). FailsBy (fault_of shop ws) c.matches_in-else-is_empty.result) (sym meant) c.matches_in-else-is_empty.ensures.kinds
