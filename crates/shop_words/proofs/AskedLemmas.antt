-- What plain lists ask for: of no word, and of words that are printed from a form.
use Rattle.std.proofs.Common.{◌≡◌, ◌∙◌, inl, inr, ap, refl, subst, sym, true, List, [], Result, Ok, Err, IfErr, IfOk, Option, Some, None, is_some}
use Rattle.clap.proofs.OnLiterals.{clap_on_literals}
use Rattle.clap.specs.Takes.{takes}
use Rattle.shop_jobs.specs.Input.{is_settled}
use Rattle.shop_jobs.specs.Job.{JobView}
use Rattle.shop_words.specs.Table.{Text, FormView, forms}
use Rattle.shop_words.specs.Asked.{AskedView, asked_by, asked_list}
use Rattle.shop_words.specs.Gives.{Gives}
use Rattle.shop_words.specs.Grammar.{shop}
use Rattle.shop_words.specs.Plain.{Use, IsLine, IsPlain}
use Rattle.shop_words.specs.Job.{line_job, meant_words, standard_words, words_job}
use Rattle.shop_words.specs.declared.misfit.Misfit.{Misfit}
use Rattle.shop_words.specs.declared.misfit.Misfit.TheVariants.{Memory}
use Rattle.shop_words.proofs.PlainTable.{asked_list-plain, is_some-line_job, takes-plain}
use Rattle.shop_words.proofs.PlainTaken.{finished_rows, top_rows}
use Rattle.shop_words.proofs.PlainWays.{job_settled, settled-line, words_job-line}
use Rattle.shop_words.proofs.CommandRows.{none_is_some}

-- what is asked has a job, which leaves nothing to the images
abbrev IsSettled : AskedView → Type 0
IsSettled a = (is_some (words_job a.words) ≡ true) × (job_settled (words_job a.words) ≡ true)

abbrev IsSettledIf : Option AskedView → Type 0
IsSettledIf None = Unit {0}
IsSettledIf (Some a) = IsSettled a

-- ---- no word

no_word : IsSettledIf (asked_list [])
unfolding forms shop clap_on_literals
no_word = (refl, refl)

asked-standard : is_some (asked_list []) ≡ true
unfolding forms shop clap_on_literals
asked-standard = refl

takes-standard : takes shop standard_words ≡ true
unfolding forms shop clap_on_literals
takes-standard = refl

-- ---- a printed list

asked_line : (words : List Text) (f : FormView) (positionals : List Text) (uses : List Use) → IsLine words f positionals uses
    → asked_list words ≡ Some (asked_by top_rows (finished_rows f positionals uses) f)
asked_line words f positionals uses line = ap asked_list line.printed ∙ asked_list-plain f positionals uses line.form line.plain

line_settled : (words : List Text) (f : FormView) (positionals : List Text) (uses : List Use) → IsLine words f positionals uses
    → IsSettled (asked_by top_rows (finished_rows f positionals uses) f)
line_settled words f positionals uses line = (
  ap is_some (words_job-line f positionals uses line.form line.plain) ∙ is_some-line_job f positionals uses line.form line.plain,
  settled-line f positionals uses line.form line.plain,
)

line_job-asked : (words : List Text) (f : FormView) (positionals : List Text) (uses : List Use) (a : AskedView) → IsLine words f positionals uses
    → asked_list words ≡ Some a → words_job a.words ≡ line_job f positionals uses
line_job-asked words f positionals uses a line asked =
    let b = asked_by top_rows (finished_rows f positionals uses) f in
    let both : Some b ≡ Some a = sym (asked_line words f positionals uses line) ∙ asked in
    let same : b ≡ a = cc in
    subst (λ (v : AskedView). words_job v.words ≡ line_job f positionals uses) same (words_job-line f positionals uses line.form line.plain)

-- ---- a plain list

plain_settled : (words : List Text) (a : AskedView) → IsPlain words → asked_list words ≡ Some a → IsSettled a
plain_settled words a plain asked = elim plain [
  | inl none ↦ subst IsSettledIf (ap asked_list (sym none) ∙ asked) no_word
  | inr line ↦ subst IsSettledIf (sym (asked_line words line.0 line.1 line.2 line.3) ∙ asked) (line_settled words line.0 line.1 line.2 line.3)
]

-- a job that is given leaves nothing to the images, and none is want of memory
pub plain_gives : {T : Type 0} (view : T → JobView) (words : List Text) (a : AskedView) (r : Result T Misfit) → IsPlain words
    → asked_list words ≡ Some a → Gives view (words_job a.words) r → IfErr r (λ misfit. misfit ≡ Memory)
plain_gives view words a (Ok job) plain asked gives = tt
plain_gives view words a (Err misfit) plain asked gives = elim gives [
  | inl memory ↦ memory
  | inr none ↦ absurd (none_is_some _ none (plain_settled words a plain asked).0)
]

pub settled_gives : {T : Type 0} (view : T → JobView) (words : List Text) (a : AskedView) (r : Result T Misfit) → IsPlain words
    → asked_list words ≡ Some a → Gives view (words_job a.words) r → IfOk r (λ job. is_settled (view job).input ≡ true)
settled_gives view words a (Ok job) plain asked gives = sym (ap job_settled gives) ∙ (plain_settled words a plain asked).1
settled_gives view words a (Err misfit) plain asked gives = tt

-- and it is that of the line
pub line_gives : {T : Type 0} (view : T → JobView) (words : List Text) (f : FormView) (positionals : List Text) (uses : List Use) (a : AskedView)
    (r : Result T Misfit) → IsLine words f positionals uses → asked_list words ≡ Some a → Gives view (words_job a.words) r
    → IfOk r (λ job. line_job f positionals uses ≡ Some (view job))
line_gives view words f positionals uses a (Ok job) line asked gives = sym (line_job-asked words f positionals uses a line asked) ∙ gives
line_gives view words f positionals uses a (Err misfit) line asked gives = tt

-- clap takes a plain list, which is that of a command
pub plain_taken : (words : List Text) → IsPlain words → (takes shop (meant_words words) ≡ true) × (is_some (asked_list words) ≡ true)
plain_taken words plain = elim plain [
  | inl none ↦ (
    ap (λ (ws : List Text). takes shop (meant_words ws)) none ∙ takes-standard,
    (ap (λ (ws : List Text). is_some (asked_list ws)) none ∙ asked-standard),
  )
  | inr line ↦ (
    ap (λ (ws : List Text). takes shop (meant_words ws)) line.3.printed ∙ takes-plain line.0 line.1 line.2 line.3.form line.3.plain,
    ap is_some (asked_line words line.0 line.1 line.2 line.3),
  )
]
