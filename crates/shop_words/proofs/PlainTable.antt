-- Each plain list of each form of the table is taken, and has the job that its form says.
use Rattle.std.proofs.Common.{◌≡◌, ◌∙◌, ◌<◌, ap, ap₂, subst, true, ℕ, List, [], ◌∷◌, Some, is_some, option_map, length, slice_index_or, zero, suc, Contains, arith}
use Rattle.std.specs.List.{AllByRecursion}
use Rattle.clap.specs.Takes.{takes}
use Rattle.shop_words.specs.Asked.{asked_by, asked_list, found_asked}
use Rattle.shop_words.specs.Grammar.{shop}
use Rattle.shop_words.specs.Job.{form_of, line_job}
use Rattle.shop_words.specs.Plain.{Use, IsPlainLine, line_words}
use Rattle.shop_words.specs.Table.{FormView, Text, forms}
use Rattle.shop_words.proofs.KnownForms.{found_by_name, known}
use Rattle.shop_words.proofs.PlainChanging.{delete_job, lock_job, mkdir_job, optimize_job, reclaim_job, rename_job, unlock_job}
use Rattle.shop_words.proofs.PlainForms.{shape_named}
use Rattle.shop_words.proofs.PlainJobs.{plain_defaults}
use Rattle.shop_words.proofs.PlainLooking.{catalog_job, check_job, compare_job, extract_job, identify_job, list_job, map_job, plan_job, read_job, survey_job, verify_job}
use Rattle.shop_words.proofs.PlainMaking.{add_job, convert_job, create_job, unwrap_job, wrap_job}
use Rattle.shop_words.proofs.PlainSaid.{HasJob}
use Rattle.shop_words.proofs.PlainSaving.{save_job}
use Rattle.shop_words.proofs.PlainTaken.{finished_rows, matches_of-line, subcommand_of-line, takes-line, top_rows}

all_jobs : AllByRecursion HasJob forms
unfolding forms
all_jobs =
    (catalog_job, (list_job, (compare_job, (map_job, (check_job, (read_job, (extract_job, (convert_job, (plan_job, (optimize_job, (lock_job, (unlock_job, (delete_job, (rename_job, (save_job, (verify_job, (identify_job, (wrap_job, (unwrap_job, (survey_job, (create_job, (reclaim_job, (add_job, (mkdir_job, tt))))))))))))))))))))))))

at_index : {X : Type 0} (P : X → Type 0) (xs : List X) (x : X) (k : ℕ) → AllByRecursion P xs → k < length xs → slice_index_or xs k x ≡ x → P x
at_index P [] x k all lt at = absurd (omega (arith, lt))
at_index P (y ∷ ys) x zero all lt at = subst P at all.0
at_index P (y ∷ ys) x (suc k) all lt at = at_index P ys x k all.1 (omega (arith, lt)) at

pub is_some-line_job : (f : FormView) (positionals : List Text) (uses : List Use) → Contains forms f → IsPlainLine f positionals uses
    → is_some (line_job f positionals uses) ≡ true
is_some-line_job f positionals uses at plain = at_index HasJob forms f at.0 all_jobs at.1 at.2 positionals uses plain

pub takes-plain : (f : FormView) (positionals : List Text) (uses : List Use) → Contains forms f → IsPlainLine f positionals uses
    → takes shop (line_words f positionals uses) ≡ true
unfolding shop
takes-plain f positionals uses at plain = takes-line f (shape_named f.name) positionals uses (known f at) plain

-- what a plain list asks for: its form, by the rows that clap finds
pub asked_list-plain : (f : FormView) (positionals : List Text) (uses : List Use) → Contains forms f → IsPlainLine f positionals uses
    → asked_list (line_words f positionals uses) ≡ Some (asked_by top_rows (finished_rows f positionals uses) f)
unfolding shop
asked_list-plain f positionals uses at plain =
    ap₂ found_asked (matches_of-line f positionals uses (known f at)) (subcommand_of-line f positionals uses (known f at) plain)
    ∙ ap (option_map (asked_by top_rows (finished_rows f positionals uses))) (ap form_of (plain_defaults f at).name ∙ found_by_name f at)
