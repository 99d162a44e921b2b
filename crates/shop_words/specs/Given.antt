-- The words of a command as the code holds them: clap's matches with the form.
use Rattle.clap.specs.Matches.{found_of}
use Rattle.clap.specs.Walk.{rows_of}
use Rattle.shop_words.specs.Job.{rows_say}
use Rattle.shop_words.specs.Table.{form_view}
use Rattle.shop_words.specs.Ways.{Said, Words, said}
use Rattle.shop_words.specs.declared.given.Given.{Given}

abbrev pub words_of : Given → Words
words_of given = record {
  form = form_view given.form.now;
  is_auto = given.is_auto;
  say = rows_say (rows_of (found_of given.matches.now));
}

-- what they say, with `auto` for what they leave out
abbrev pub said_of : Given → Said
said_of given = said (words_of given)
