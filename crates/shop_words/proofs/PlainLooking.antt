-- The plain lists of the commands that only look at an image.
use Rattle.std.proofs.Common.{◌≡◌, ap, refl, Bool, true, false, [], ◌∷◌, Option, Some, None, codes, is_some, not, ◌==◌, ◌&&◌, option_map}
use Rattle.std.proofs.lemmas.List.Sums.{list_all-from_AllPass}
use Rattle.std.proofs.lemmas.Bool.{and_parts}
use Rattle.std.specs.Str.{bytes_eq}
use Rattle.shop_jobs.specs.Input.{FileBeside}
use Rattle.shop_jobs.specs.Job.{ToFolder}
use Rattle.shop_words.specs.Job.{compare_by, extraction_by, extraction_of, form_for, form_said, line_said, list_by, list_of, most_bytes, name_by, naming_said, order_meant, other_image, other_named, read_by, read_form_named, read_form_said, read_of, survey_form_said}
use Rattle.shop_words.specs.Job as jobs
use Rattle.shop_words.specs.Plain.{hyphen, is_plain_word, use_value, value_of}
use Rattle.shop_words.specs.Table.{Text, catalog_form, check_form, compare_form, extract_form, greatest_number, identify_form, list_form, map_form, plan_form, read_form, survey_form, verify_form}
use Rattle.shop_words.specs.Ways.{is_on}
use Rattle.shop_words.proofs.PlainSaid.{HasJob, HasJobOf, both, job_there, mapped_there, needed_there, number_there, of_one, of_two, one, order_by-line, read_there, volume_by-line, word_there, words_pass}
use Rattle.shop_words.proofs.PlainStored.{name_by-line}
use Rattle.shop_words.proofs.PlainUsed.{use_said}

catalog_at : (image : Text) → HasJobOf catalog_form (image ∷ [])
catalog_at image uses plain =
    let line = image ∷ [] in
    let said = line_said catalog_form line uses in
    job_there catalog_form said refl (volume_by-line catalog_form line uses plain said refl refl refl refl) refl refl refl

pub catalog_job : HasJob catalog_form
catalog_job = of_one catalog_form refl catalog_at

map_at : (image : Text) → HasJobOf map_form (image ∷ [])
map_at image uses plain =
    let line = image ∷ [] in
    let said = line_said map_form line uses in
    job_there map_form said refl (volume_by-line map_form line uses plain said refl refl refl refl) refl refl refl

pub map_job : HasJob map_form
map_job = of_one map_form refl map_at

check_at : (image : Text) → HasJobOf check_form (image ∷ [])
check_at image uses plain =
    let line = image ∷ [] in
    let said = line_said check_form line uses in
    job_there check_form said refl (volume_by-line check_form line uses plain said refl refl refl refl) refl refl refl

pub check_job : HasJob check_form
check_job = of_one check_form refl check_at

plan_at : (image : Text) → HasJobOf plan_form (image ∷ [])
plan_at image uses plain =
    let line = image ∷ [] in
    let said = line_said plan_form line uses in
    job_there plan_form said refl (volume_by-line plan_form line uses plain said refl refl refl refl) refl refl refl

pub plan_job : HasJob plan_form
plan_job = of_one plan_form refl plan_at

verify_at : (image : Text) → HasJobOf verify_form (image ∷ [])
verify_at image uses plain =
    let line = image ∷ [] in
    let said = line_said verify_form line uses in
    job_there verify_form said refl (volume_by-line verify_form line uses plain said refl refl refl refl)
    (needed_there verify_form line uses plain (codes "from") FileBeside refl) refl refl

pub verify_job : HasJob verify_form
verify_job = of_one verify_form refl verify_at

identify_at : (image : Text) → HasJobOf identify_form (image ∷ [])
identify_at image uses plain = refl

pub identify_job : HasJob identify_form
identify_job = of_one identify_form refl identify_at

survey_at : (path : Text) → HasJobOf survey_form (path ∷ [])
survey_at path uses plain =
    let line = path ∷ [] in
    let said = line_said survey_form line uses in
    job_there survey_form said refl refl refl
    (mapped_there _ (survey_form_said (value_of (codes "format") uses)) (word_there survey_form line uses plain (codes "format") survey_form_said refl refl)) refl

pub survey_job : HasJob survey_form
survey_job = of_one survey_form refl survey_at

-- ---- a list

-- a form is there for a list without places, and for one with them that is JSON
form_there : (with_places : Bool) (said : Option Text) → is_some (form_said said) ≡ true → (with_places ≡ true → said ≡ Some (codes "json"))
    → is_some (form_for with_places (form_said said)) ≡ true
form_there false said there json = one (form_said said) (form_for false) (λ x. refl) there
form_there true said there json = ap (λ (word : Option Text). is_some (form_for true (form_said word))) (json refl)

list_at : (image : Text) → HasJobOf list_form (image ∷ [])
list_at image uses plain =
    let line = image ∷ [] in
    let said = line_said list_form line uses in
    let with_digests = is_on (value_of (codes "digests") uses) in
    let with_places = is_on (value_of (codes "places") uses) in
    let form = form_said (value_of (codes "format") uses) in
    let json : is_on (value_of (codes "places") uses) ≡ true → value_of (codes "format") uses ≡ Some (codes "json") =
    λ on. ap (option_map use_value) (plain.placed (use_said (codes "places") uses on)) in
    let told = both (form_for with_places form) (most_bytes (value_of (codes "most") uses)) (λ a b. list_of a with_digests with_places b) (λ x y. refl)
    (form_there with_places (value_of (codes "format") uses) (word_there list_form line uses plain (codes "format") form_said refl refl) json)
    (number_there list_form line uses plain (codes "most") greatest_number most_bytes refl refl (λ v is. rw is refl)) in
    job_there list_form said refl (volume_by-line list_form line uses plain said refl refl refl refl) refl (mapped_there _ (list_by said) told) refl

pub list_job : HasJob list_form
list_job = of_one list_form refl list_at

-- ---- a comparison

-- a plain word is not that of standard input
not_input : (image : Text) → is_plain_word image ≡ true → bytes_eq image (codes "-") ≡ false
not_input [] plain = cc
not_input (x ∷ xs) plain = apart (x == hyphen) plain where
  apart : (b : Bool) → not b ≡ true → (b && bytes_eq xs []) ≡ false
  apart true p = cc
  apart false p = refl

compare_at : (image other : Text) → HasJobOf compare_form (image ∷ other ∷ [])
compare_at image other uses plain =
    let line = image ∷ other ∷ [] in
    let said = line_said compare_form line uses in
    let words = and_parts (is_plain_word image) _ (list_all-from_AllPass is_plain_word line plain.plain) in
    let named : is_some (other_named (Some image) (Some other)) ≡ true = rw (not_input image words.0) refl in
    let order = value_of (codes "order") uses in
    let way = compare_form.reading in
    let in_order = read_there (λ o. jobs.other_order way o order) (value_of (codes "other-order") uses) (order_by-line compare_form line uses plain refl)
    (words_pass compare_form line uses plain (codes "other-order") (λ w. is_some (order_meant way w)) refl) in
    let bytes = number_there compare_form line uses plain (codes "most") greatest_number most_bytes refl refl (λ v is. rw is refl) in
    job_there compare_form said refl (volume_by-line compare_form line uses plain said refl refl refl refl)
    (both (other_named (Some image) (Some other)) (jobs.other_order way (value_of (codes "other-order") uses) order) other_image (λ x y. refl) named in_order)
    (mapped_there _ (compare_by said) (mapped_there _ (most_bytes (value_of (codes "most") uses)) bytes)) refl

pub compare_job : HasJob compare_form
compare_job = of_two compare_form refl compare_at

-- ---- one file, and all of them

-- a flag that is on is said
on_said : (said : Option Text) → is_on said ≡ true → is_some said ≡ true
on_said None on = cc
on_said (Some word) on = refl

read_form_there : (is_whole : Bool) (said : Option Text) → (is_whole ≡ true → said ≡ None)
    → ((v : Text) → said ≡ Some v → is_some (read_form_named v) ≡ true) → is_some (read_form_said is_whole said) ≡ true
read_form_there false None alone is = refl
read_form_there true None alone is = refl
read_form_there false (Some v) alone is = is v refl
read_form_there true (Some v) alone is = let none = alone refl in cc

read_at : (image name : Text) → HasJobOf read_form (image ∷ name ∷ [])
read_at image name uses plain =
    let line = image ∷ name ∷ [] in
    let said = line_said read_form line uses in
    let whole = value_of (codes "whole") uses in
    let word = value_of (codes "as") uses in
    let form = read_form_there (is_on whole) word (λ on. plain.formed (on_said whole on))
    (words_pass read_form line uses plain (codes "as") (λ w. is_some (read_form_named w)) refl) in
    let named = both (name_by said) (read_form_said (is_on whole) word) (λ n f. read_of n f (is_some (value_of (codes "out") uses))) (λ x y. refl)
    (name_by-line uses said name (λ is_stored. (plain.stored is_stored).1.0 refl) refl refl) form in
    job_there read_form said refl (volume_by-line read_form line uses plain said refl refl refl refl) refl (mapped_there _ (read_by said) named) refl

pub read_job : HasJob read_form
read_job = of_two read_form refl read_at

extract_at : (image : Text) → HasJobOf extract_form (image ∷ [])
extract_at image uses plain =
    let line = image ∷ [] in
    let said = line_said extract_form line uses in
    let texts = is_on (value_of (codes "texts") uses) in
    let options = both (naming_said (value_of (codes "names") uses)) (most_bytes (value_of (codes "most") uses)) (λ n m. extraction_of n texts m) (λ x y. refl)
    (word_there extract_form line uses plain (codes "names") naming_said refl refl)
    (number_there extract_form line uses plain (codes "most") greatest_number most_bytes refl refl (λ v is. rw is refl)) in
    job_there extract_form said refl (volume_by-line extract_form line uses plain said refl refl refl refl) refl (mapped_there _ (extraction_by said) options)
    (needed_there extract_form line uses plain (codes "into") ToFolder refl)

pub extract_job : HasJob extract_form
extract_job = of_one extract_form refl extract_at
