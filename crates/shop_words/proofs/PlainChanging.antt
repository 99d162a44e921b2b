-- The plain lists of the commands that change a volume.
use Rattle.std.proofs.Common.{◌≡◌, ◌∙◌, ap, refl, true, [], ◌∷◌, Option, Some, None, codes, is_some, option_and_then, option_map, arith}
use Rattle.shop_jobs.specs.Input.{BesideView, NothingBeside, SourceView}
use Rattle.shop_jobs.specs.Job.{AskView, Delete, EditView, Lock, TargetView, Unlock}
use Rattle.shop_words.specs.Job.{ask_by, beside_by, change_asked, edit_by, is_prodos, limit_named, line_said, name_by, optimize_by, order_meant, output_by, prodos_by, rename_by, source_by, source_named, target_by, volume_in}
use Rattle.shop_words.specs.Plain.{value_of}
use Rattle.shop_words.specs.Table.{Text, delete_form, edit_form, lock_form, mkdir_form, most_writes, optimize_form, reclaim_form, rename_form, unlock_form}
use Rattle.shop_words.specs.Ways.{Said, is_on}
use Rattle.shop_words.specs.declared.table.Verb.{Verb}
use Rattle.shop_words.specs.declared.table.Verb.TheVariants as verbs
use Rattle.shop_words.proofs.PlainSaid.{HasJob, HasJobOf, both, job_there, mapped_there, number_there, of_one, of_three, of_two, order_by-line, volume_by-line, words_pass}
use Rattle.shop_words.proofs.PlainStored.{name_by-line}
use Rattle.shop_words.proofs.PlainTarget.{target_by-line}

optimize_at : (image : Text) → HasJobOf optimize_form (image ∷ [])
optimize_at image uses plain =
    let line = image ∷ [] in
    let said = line_said optimize_form line uses in
    let limited = mapped_there _ (limit_named (value_of (codes "stop-after") uses))
    (number_there optimize_form line uses plain (codes "stop-after") most_writes limit_named refl refl (λ v is. rw is refl)) in
    job_there optimize_form said refl (volume_by-line optimize_form line uses plain said refl refl refl refl) refl (mapped_there _ (optimize_by said) limited)
    (target_by-line optimize_form line uses said (record { at = (4, omega arith, refl); flags = refl }) plain refl refl)

pub optimize_job : HasJob optimize_form
optimize_job = of_one optimize_form refl optimize_at

reclaim_at : (image : Text) → HasJobOf reclaim_form (image ∷ [])
reclaim_at image uses plain =
    let line = image ∷ [] in
    let said = line_said reclaim_form line uses in
    job_there reclaim_form said refl (volume_by-line reclaim_form line uses plain said refl refl refl refl) refl refl
    (target_by-line reclaim_form line uses said (record { at = (4, omega arith, refl); flags = refl }) plain refl refl)

pub reclaim_job : HasJob reclaim_form
reclaim_job = of_one reclaim_form refl reclaim_at

-- ---- one file

-- a command whose job is an edit
record IsEdit (verb : Verb) (edit : EditView) : Type 0 where
  source : (said : Said) → source_by verb said ≡ option_map source_named (said (codes "image"))
  beside : (said : Said) → beside_by verb lock_form.reading said ≡ Some NothingBeside
  ask : (said : Said) → ask_by verb said ≡ change_asked (edit_by edit said)
  output : (said : Said) → output_by verb said ≡ target_by said

edit_at : (command : Text) (verb : Verb) (edit : EditView) → IsEdit verb edit → (image name : Text) → HasJobOf (edit_form command verb) (image ∷ name ∷ [])
edit_at command verb edit is image name uses plain =
    let f = edit_form command verb in
    let line = image ∷ name ∷ [] in
    let said = line_said f line uses in
    let named = mapped_there _ (edit_by edit said) (mapped_there _ (name_by said)
    (name_by-line uses said name (λ is_stored. (plain.stored is_stored).1.0 refl) refl refl)) in
    job_there f said (ap (λ (o : Option SourceView). is_some o) (is.source said)) (volume_by-line f line uses plain said refl refl refl refl)
    (ap (λ (o : Option BesideView). is_some o) (is.beside said)) (ap (λ (o : Option AskView). is_some o) (is.ask said) ∙ named)
    (ap (λ (o : Option TargetView). is_some o) (is.output said)
    ∙ target_by-line f line uses said (record { at = (5, omega arith, refl); flags = refl }) plain refl refl)

pub lock_job : HasJob lock_form
lock_job = of_two lock_form refl (edit_at (codes "lock") verbs.Lock Lock (record {
  source = λ said. refl;
  beside = λ said. refl;
  ask = λ said. refl;
  output = λ said. refl;
}))

pub unlock_job : HasJob unlock_form
unlock_job = of_two unlock_form refl (edit_at (codes "unlock") verbs.Unlock Unlock (record {
  source = λ said. refl;
  beside = λ said. refl;
  ask = λ said. refl;
  output = λ said. refl;
}))

pub delete_job : HasJob delete_form
delete_job = of_two delete_form refl (edit_at (codes "delete") verbs.Delete Delete (record {
  source = λ said. refl;
  beside = λ said. refl;
  ask = λ said. refl;
  output = λ said. refl;
}))

rename_at : (image name new : Text) → HasJobOf rename_form (image ∷ name ∷ new ∷ [])
rename_at image name new uses plain =
    let line = image ∷ name ∷ new ∷ [] in
    let said = line_said rename_form line uses in
    let named = mapped_there _ (rename_by said) (mapped_there _ (name_by said)
    (name_by-line uses said name (λ is_stored. (plain.stored is_stored).1.0 refl) refl refl)) in
    job_there rename_form said refl (volume_by-line rename_form line uses plain said refl refl refl refl) refl named
    (target_by-line rename_form line uses said (record { at = (6, omega arith, refl); flags = refl }) plain refl refl)

pub rename_job : HasJob rename_form
rename_job = of_three rename_form refl rename_at

-- ---- a directory

mkdir_at : (image name : Text) → HasJobOf mkdir_form (image ∷ name ∷ [])
mkdir_at image name uses plain =
    let line = image ∷ name ∷ [] in
    let said = line_said mkdir_form line uses in
    let fs = value_of (codes "fs") uses in
    let prodos : is_prodos fs ≡ true =
    prodos_there fs (words_pass mkdir_form line uses plain (codes "fs") (λ w. is_prodos (Some w)) refl) in
    let known : is_some (prodos_by said) ≡ true = rw prodos refl in
    let volume = both (prodos_by said) (option_and_then (order_meant mkdir_form.reading) (value_of (codes "order") uses))
    (λ a b. volume_in a b (is_on (said (codes "data-disk"))) (said (codes "reserve"))) (λ x y. refl) known
    (order_by-line mkdir_form line uses plain refl) in
    job_there mkdir_form said refl volume refl refl
    (target_by-line mkdir_form line uses said (record { at = (5, omega arith, refl); flags = refl }) plain refl refl)
  where
    prodos_there : (word : Option Text) → ((v : Text) → word ≡ Some v → is_prodos (Some v) ≡ true) → is_prodos word ≡ true
    prodos_there None is = refl
    prodos_there (Some v) is = is v refl

pub mkdir_job : HasJob mkdir_form
mkdir_job = of_two mkdir_form refl mkdir_at
