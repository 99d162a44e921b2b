-- What clap's contracts ask of the program's commands.
use Rattle.std.proofs.Common.{◌≡◌, ◌∙◌, ap, map, refl, subst, true, List, Result, Ok, Err, IfOk, IfErr}
use Rattle.clap.proofs.OnLiterals.{clap_on_literals}
use Rattle.clap.specs.Faults.{fault_of, is_simple_and_free}
use Rattle.clap.specs.Kinds.{FailsBy}
use Rattle.clap.specs.Matches.{found_of}
use Rattle.clap.specs.Simple.{App, HasMatchesOf, is_simple, matches_of, subcommand_of, subcommand_rows_of}
use Rattle.clap.specs.Takes.{takes}
use Rattle.clap.specs.Values.{kind_of}
use Rattle.clap.specs.Walk.{Text, rows_of}
use Rattle.clap.specs.declared.error.Error.{Error}
use Rattle.clap.specs.declared.error.kind.ErrorKind.TheVariants.{OutOfMemory}
use Rattle.clap.specs.declared.parser.matches.ArgMatches.{ArgMatches}
use Rattle.shop_words.specs.Grammar.{leaf_of, program_over, shop}
use Rattle.shop_words.specs.Table.{forms}

-- the whole program, which computes
abbrev pub whole : App
whole = program_over (map leaf_of forms)

is_simple-whole : is_simple whole ≡ true
unfolding forms clap_on_literals
is_simple-whole = refl

is_simple_and_free-whole : is_simple_and_free whole ≡ true
unfolding forms clap_on_literals
is_simple_and_free-whole = refl

pub is_simple-shop : is_simple shop ≡ true
unfolding shop
is_simple-shop = is_simple-whole

pub is_simple_and_free-shop : is_simple_and_free shop ≡ true
unfolding shop
is_simple_and_free-shop = is_simple_and_free-whole

-- ---- what a call of clap gives, of the program's commands

pub found-shop : {E : Type 0} (app : App) (words : List Text) (r : Result ArgMatches E) → app ≡ shop → IfOk r (HasMatchesOf app words)
    → IfOk r (λ m. (rows_of (found_of m) ≡ matches_of shop words) × (subcommand_rows_of m ≡ subcommand_of shop words))
found-shop app words (Ok m) is has = subst (λ a. HasMatchesOf a words m) is has is_simple-shop
found-shop app words (Err e) is has = tt

pub passes-shop : {T : Type 0} (app : App) (words : List Text) (r : Result T Error) → app ≡ shop
    → IfErr r (λ e. takes app words ≡ true → kind_of e ≡ OutOfMemory) → takes shop words ≡ true → IfErr r (λ e. kind_of e ≡ OutOfMemory)
passes-shop app words (Ok m) is passes taken = tt
passes-shop app words (Err e) is passes taken = passes (ap (λ a. takes a words) is ∙ taken)

pub kinds-shop : {T : Type 0} (app : App) (words : List Text) (r : Result T Error) → app ≡ shop
    → (is_simple_and_free app ≡ true → FailsBy (fault_of app words) r) → FailsBy (fault_of shop words) r
kinds-shop app words r is fails = subst (λ a. FailsBy (fault_of a words) r) is (fails (ap is_simple_and_free is ∙ is_simple_and_free-shop))
