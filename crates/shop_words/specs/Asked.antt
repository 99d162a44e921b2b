-- What a list of words asks for.
use Rattle.std.specs.Prelude.{◌≡◌, Bool, true, IsSome, List, Option, codes, option_map, option_and_then}
use Rattle.std.specs.Str.{bytes_eq}
use Rattle.clap.specs.Matches.{found_of}
use Rattle.clap.specs.Simple.{matches_of, subcommand_of}
use Rattle.clap.specs.Takes.{takes}
use Rattle.clap.specs.Walk.{Row, rows_of}
use Rattle.shop_jobs.specs.Job.{JobView}
use Rattle.shop_words.specs.Grammar.{shop}
use Rattle.shop_words.specs.Job.{form_of, is_flagged, meant_words, rows_say, settled_alone, words_by, words_job}
use Rattle.shop_words.specs.Table.{FormView, Text, form_view}
use Rattle.shop_words.specs.Ways.{Words}
use Rattle.shop_words.specs.declared.asked.Asked.{Asked}

-- the words of a command, and whether its answer is to be explained
pub record AskedView : Type 0 where
  pub words : Words
  pub is_explained : Bool

-- the same as the code holds it, with clap's matches
abbrev pub asked_view : Asked → AskedView
asked_view asked = record {
  words = record {
    form = form_view asked.form.now;
    is_auto = asked.is_auto;
    say = rows_say (rows_of (found_of asked.matches));
  };
  is_explained = asked.is_explained;
}

-- what the command asks that clap finds, by the rows before its name and by its own
abbrev pub asked_by : List Row → List Row → FormView → AskedView
asked_by above rows f =
    record { words = words_by above rows f; is_explained = is_flagged (codes "explain") above rows }

abbrev pub found_asked : List Row → Option (Text × List Row) → Option AskedView
found_asked above found = option_and_then (λ p. option_map (asked_by above p.1) (form_of p.0)) found

-- what a list asks for, whatever it is
abbrev pub asked_list : List Text → Option AskedView
asked_list words = found_asked (matches_of shop (meant_words words)) (subcommand_of shop (meant_words words))

-- the job that a list asks for, whatever it is; what it leaves to its images stands in it as such
abbrev pub open_job : List Text → Option JobView
open_job words = option_and_then (λ a. words_job a.words) (asked_list words)

-- the same where it leaves nothing to them
abbrev pub asked_job : List Text → Option JobView
asked_job words = option_and_then settled_alone (open_job words)

-- clap takes the words, and they have a job
abbrev pub IsTaken : List Text → Type 0
IsTaken words = (takes shop (meant_words words) ≡ true) × IsSome (asked_job words)

abbrev pub is_explain_word : Text → Bool
is_explain_word word = bytes_eq word (codes "--explain")
