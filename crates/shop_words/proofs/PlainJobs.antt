-- The job that clap finds in a plain list is the list's own.
use Rattle.std.proofs.Common.{◌≡◌, refl, subst, Bool, true, false, ◌||◌, ◌&&◌, Contains, ℕ, List, [], ◌∷◌, Option, codes, is_some, option_and_then}
use Rattle.std.proofs.lemmas.Bool.{and_parts}
use Rattle.std.proofs.lemmas.Slice.Eq.{bytes_eq-Decides}
use Rattle.std.specs.List.{list_all, list_any}
use Rattle.std.specs.Str.{bytes_eq}
use Rattle.clap.specs.Walk.{first_of}
use Rattle.shop_words.specs.Table.{Text, FormView, forms}
use Rattle.shop_words.specs.Plain.{Use, positional_names}
use Rattle.shop_words.specs.Job.{ask_by, aux_named, beside_by, change_asked, is_counted, job_by, job_of, line_job, line_said, output_by, reading_by, save_with, source_by}
use Rattle.shop_words.specs.Ways.{Said, is_on}
use Rattle.shop_words.specs.declared.table.Reading.{Reading}
use Rattle.shop_words.specs.declared.table.Reading.TheVariants as readings
use Rattle.shop_words.specs.declared.table.Verb.{Verb}
use Rattle.shop_words.specs.declared.table.Verb.TheVariants as verbs
use Rattle.clap.proofs.OnLiterals.{clap_on_literals}
use Rattle.shop_words.proofs.KnownForms.{of_forms}
use Rattle.shop_words.proofs.PlainForms.{shape_named}
use Rattle.shop_words.proofs.PlainTaken.{finished_rows}
use Rattle.shop_words.proofs.PlainValues.{Test, leaves_off, option_same, test_same}

-- ---- the rows that clap finds say what the list says

-- the names by which a job is said, and those of its flags
abbrev pub option_names : List Text
option_names = codes "image" ∷ codes "fs" ∷ codes "order" ∷ codes "to" ∷ codes "out" ∷ codes "volume" ∷ codes "reserve" ∷ codes "name" ∷ codes "new" ∷ codes "stop-after" ∷ codes "cert" ∷ codes "from" ∷ codes "type" ∷ codes "aux" ∷ codes "date" ∷ codes "format" ∷ codes "most" ∷ codes "other" ∷ codes "other-order" ∷ codes "into" ∷ codes "names" ∷ codes "as" ∷ codes "high" ∷ codes "comment" ∷ codes "path" ∷ codes "blocks" ∷ codes "boot" ∷ []

abbrev pub flag_names : List Text
flag_names = codes "data-disk" ∷ codes "whole" ∷ codes "reclaim" ∷ codes "words" ∷ codes "in-place" ∷ codes "digests" ∷ codes "bodies" ∷ codes "stored" ∷ codes "places" ∷ codes "all" ∷ codes "texts" ∷ codes "protect" ∷ codes "replace" ∷ []

abbrev pub leaves_all_off : FormView → Test → List Text → Bool
leaves_all_off f q names = list_all (λ id. list_all (leaves_off q id) (shape_named f.name).rules) names

-- no default stands for a word or turns a flag on
pub record HasPlainDefaults (f : FormView) : Type 0 where
  pub name : (shape_named f.name).name ≡ f.name
  pub options : leaves_all_off f is_some option_names ≡ true
  pub flags : leaves_all_off f is_on flag_names ≡ true
  pub counts : list_all (leaves_off is_counted (codes "auto")) (shape_named f.name).rules ≡ true

-- one test of a form decides it
abbrev has_plain_defaults : FormView → Bool
has_plain_defaults f = bytes_eq (shape_named f.name).name f.name && (leaves_all_off f is_some option_names
    && (leaves_all_off f is_on flag_names && list_all (leaves_off is_counted (codes "auto")) (shape_named f.name).rules))

all_plain_defaults : list_all has_plain_defaults forms ≡ true
unfolding forms clap_on_literals
all_plain_defaults = refl

pub plain_defaults : (f : FormView) → Contains forms f → HasPlainDefaults f
plain_defaults f at =
    let parts = and_parts (bytes_eq (shape_named f.name).name f.name) _ (of_forms has_plain_defaults all_plain_defaults f at) in
    let more = and_parts (leaves_all_off f is_some option_names) _ parts.1 in
    let rest = and_parts (leaves_all_off f is_on flag_names) (list_all (leaves_off is_counted (codes "auto")) (shape_named f.name).rules) more.1 in
    record {
      name = (bytes_eq-Decides (shape_named f.name).name f.name).0 parts.0;
      options = more.0;
      flags = rest.0;
      counts = rest.1;
    }

-- the two say the same under each of the names
abbrev pub SaySame : {X : Type 0} → (Option Text → X) → Said → Said → List Text → Type 0
SaySame read s t names = (name : Text) → list_any (λ n. bytes_eq n name) names ≡ true → read (s name) ≡ read (t name)

-- each part of a job is the same by words that say the same
source_by-same : (verb : Verb) (s t : Said) → SaySame (λ o. o) s t option_names → source_by verb s ≡ source_by verb t
source_by-same verbs.Create s t o = refl
source_by-same verbs.Survey s t o = rw (o (codes "path") refl) refl
source_by-same _ s t o = rw (o (codes "image") refl) refl

reading_by-same : (verb : Verb) (reading : Reading) (s t : Said) → SaySame (λ o. o) s t option_names → SaySame is_on s t flag_names
    → reading_by verb reading s ≡ reading_by verb reading t
reading_by-same verb readings.Nothing s t o on = refl
reading_by-same verb (readings.Volume out) s t o on =
    rw (o (codes "into") refl, o (codes "fs") refl, o (codes "order") refl, on (codes "data-disk") refl, o (codes "reserve") refl) refl
reading_by-same verb (readings.Prodos out) s t o on =
    rw (o (codes "fs") refl, o (codes "order") refl, on (codes "data-disk") refl, o (codes "reserve") refl) refl
reading_by-same verb (readings.Order out) s t o on = rw (o (codes "order") refl) refl
reading_by-same verb (readings.Bare out) s t o on = rw (o (codes "order") refl) refl

beside_by-same : (verb : Verb) (reading : Reading) (s t : Said) → SaySame (λ o. o) s t option_names → SaySame is_on s t flag_names
    → beside_by verb reading s ≡ beside_by verb reading t
beside_by-same verbs.Verify reading s t o on = rw (o (codes "from") refl) refl
beside_by-same verbs.Save reading s t o on = rw (o (codes "from") refl) refl
beside_by-same verbs.Add reading s t o on = rw (o (codes "from") refl) refl
beside_by-same verbs.Compare reading s t o on = rw (o (codes "image") refl, o (codes "other") refl, o (codes "other-order") refl, o (codes "order") refl) refl
beside_by-same verbs.Create reading s t o on = rw (o (codes "boot") refl, o (codes "order") refl, o (codes "fs") refl, on (codes "data-disk") refl) refl
beside_by-same _ reading s t o on = refl

save_with-same : (s t : Said) → SaySame (λ o. o) s t option_names → SaySame is_on s t flag_names → (aux_type : Option ℕ)
    → save_with s aux_type ≡ save_with t aux_type
save_with-same s t o on aux_type =
    rw (o (codes "name") refl, o (codes "type") refl, o (codes "date") refl, o (codes "as") refl, o (codes "high") refl, on (codes "replace") refl) refl

ask_by-same : (verb : Verb) (s t : Said) → SaySame (λ o. o) s t option_names → SaySame is_on s t flag_names → ask_by verb s ≡ ask_by verb t
ask_by-same verbs.Catalog s t o on = refl
ask_by-same verbs.List s t o on = rw (o (codes "format") refl, o (codes "most") refl, on (codes "places") refl, on (codes "digests") refl) refl
ask_by-same verbs.Compare s t o on = rw (o (codes "most") refl, on (codes "all") refl) refl
ask_by-same verbs.Map s t o on = refl
ask_by-same verbs.Check s t o on = rw (on (codes "bodies") refl) refl
ask_by-same verbs.Read s t o on = rw (o (codes "name") refl, o (codes "as") refl, o (codes "out") refl, on (codes "stored") refl, on (codes "whole") refl) refl
ask_by-same verbs.Extract s t o on = rw (o (codes "names") refl, o (codes "most") refl, on (codes "texts") refl) refl
ask_by-same verbs.Convert s t o on = rw (o (codes "to") refl, o (codes "volume") refl) refl
ask_by-same verbs.Plan s t o on = rw (on (codes "reclaim") refl, on (codes "words") refl) refl
ask_by-same verbs.Optimize s t o on = rw (o (codes "stop-after") refl, on (codes "reclaim") refl) refl
ask_by-same verbs.Lock s t o on = rw (o (codes "name") refl, on (codes "stored") refl) refl
ask_by-same verbs.Unlock s t o on = rw (o (codes "name") refl, on (codes "stored") refl) refl
ask_by-same verbs.Delete s t o on = rw (o (codes "name") refl, on (codes "stored") refl) refl
ask_by-same verbs.Rename s t o on = rw (o (codes "name") refl, o (codes "new") refl, on (codes "stored") refl) refl
ask_by-same verbs.Save s t o on =
    λ i. change_asked (option_and_then (λ aux_type. save_with-same s t o on aux_type i) (aux_named (o (codes "aux") refl i)))
ask_by-same verbs.Verify s t o on = rw (on (codes "reclaim") refl) refl
ask_by-same verbs.Identify s t o on = refl
ask_by-same verbs.Wrap s t o on = rw (o (codes "volume") refl, o (codes "comment") refl, on (codes "protect") refl) refl
ask_by-same verbs.Unwrap s t o on = refl
ask_by-same verbs.Survey s t o on = rw (o (codes "format") refl) refl
ask_by-same verbs.Create s t o on = rw (o (codes "blocks") refl, o (codes "name") refl, o (codes "date") refl, o (codes "order") refl, o (codes "volume") refl, o (codes "fs") refl, on (codes "data-disk") refl) refl
ask_by-same verbs.Reclaim s t o on = refl
ask_by-same verbs.Add s t o on = rw (o (codes "fs") refl, o (codes "into") refl, o (codes "date") refl) refl
ask_by-same verbs.MakeDirectory s t o on = rw (o (codes "name") refl, o (codes "date") refl) refl

output_by-same : (verb : Verb) (s t : Said) → SaySame (λ o. o) s t option_names → SaySame is_on s t flag_names → output_by verb s ≡ output_by verb t
output_by-same verbs.Read s t o on = rw (o (codes "out") refl) refl
output_by-same verbs.Extract s t o on = rw (o (codes "into") refl) refl
output_by-same verbs.Convert s t o on = rw (o (codes "out") refl) refl
output_by-same verbs.Add s t o on = rw (o (codes "out") refl) refl
output_by-same verbs.Wrap s t o on = rw (o (codes "out") refl) refl
output_by-same verbs.Unwrap s t o on = rw (o (codes "out") refl) refl
output_by-same verbs.Create s t o on = rw (o (codes "out") refl) refl
output_by-same verbs.Optimize s t o on = rw (o (codes "out") refl, on (codes "in-place") refl) refl
output_by-same verbs.Lock s t o on = rw (o (codes "out") refl, on (codes "in-place") refl) refl
output_by-same verbs.Unlock s t o on = rw (o (codes "out") refl, on (codes "in-place") refl) refl
output_by-same verbs.Delete s t o on = rw (o (codes "out") refl, on (codes "in-place") refl) refl
output_by-same verbs.Rename s t o on = rw (o (codes "out") refl, on (codes "in-place") refl) refl
output_by-same verbs.Save s t o on = rw (o (codes "out") refl, on (codes "in-place") refl) refl
output_by-same verbs.Reclaim s t o on = rw (o (codes "out") refl, on (codes "in-place") refl) refl
output_by-same verbs.MakeDirectory s t o on = rw (o (codes "out") refl, on (codes "in-place") refl) refl
output_by-same _ s t o on = refl

job_by-same : (f : FormView) (s t : Said) → SaySame (λ o. o) s t option_names → SaySame is_on s t flag_names → job_by f s ≡ job_by f t
job_by-same f s t o on = λ i. job_of (source_by-same f.verb s t o i) (reading_by-same f.verb f.reading s t o on i)
    (beside_by-same f.verb f.reading s t o on i) (ask_by-same f.verb s t o on i) (output_by-same f.verb s t o on i) (o (codes "cert") refl i)

-- what clap finds under a name
abbrev pub rows_said : FormView → List Text → List Use → Said
rows_said f positionals uses name = first_of name (finished_rows f positionals uses)

-- no default passes the test under any of the names
off_at : (f : FormView) (q : Test) (names : List Text) (name : Text) → leaves_all_off f q names ≡ true → list_any (λ n. bytes_eq n name) names ≡ true
    → list_all (leaves_off q name) (shape_named f.name).rules ≡ true
off_at f q [] name off at = cc
off_at f q (n ∷ ns) name off at =
    let parts = and_parts (list_all (leaves_off q n) (shape_named f.name).rules) (leaves_all_off f q ns) off in
    by_test (bytes_eq n name) refl parts.0 (off_at f q ns name parts.1) at where
      by_test : (b : Bool) → bytes_eq n name ≡ b → list_all (leaves_off q n) (shape_named f.name).rules ≡ true
          → (list_any (λ m. bytes_eq m name) ns ≡ true → list_all (leaves_off q name) (shape_named f.name).rules ≡ true)
          → (b || list_any (λ m. bytes_eq m name) ns) ≡ true → list_all (leaves_off q name) (shape_named f.name).rules ≡ true
      by_test true same here later at = subst (λ m. list_all (leaves_off q m) (shape_named f.name).rules ≡ true) ((bytes_eq-Decides n name).0 same) here
      by_test false other here later at = later at

pub options_same : (f : FormView) (positionals : List Text) (uses : List Use) → HasPlainDefaults f
    → SaySame (λ o. o) (rows_said f positionals uses) (line_said f positionals uses) option_names
options_same f positionals uses plain name at =
    option_same (positional_names f) positionals uses (shape_named f.name).rules name (off_at f is_some option_names name plain.options at)

pub flags_same : (f : FormView) (positionals : List Text) (uses : List Use) → HasPlainDefaults f
    → SaySame is_on (rows_said f positionals uses) (line_said f positionals uses) flag_names
flags_same f positionals uses plain name at =
    test_same is_on refl (positional_names f) positionals uses (shape_named f.name).rules name (off_at f is_on flag_names name plain.flags at)

-- the job is the same by what clap finds and by what the list says
pub job_by-rows : (f : FormView) (positionals : List Text) (uses : List Use) → HasPlainDefaults f
    → job_by f (rows_said f positionals uses) ≡ line_job f positionals uses
job_by-rows f positionals uses plain =
    job_by-same f (rows_said f positionals uses) (line_said f positionals uses) (options_same f positionals uses plain) (flags_same f positionals uses plain)

-- no flag of the program is among the words of a command
pub counts_same : (f : FormView) (positionals : List Text) (uses : List Use) → HasPlainDefaults f
    → is_counted (rows_said f positionals uses (codes "auto")) ≡ is_counted (line_said f positionals uses (codes "auto"))
counts_same f positionals uses plain =
    test_same is_counted refl (positional_names f) positionals uses (shape_named f.name).rules (codes "auto") plain.counts
