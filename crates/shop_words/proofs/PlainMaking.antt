-- The plain lists of the commands that make an image or a container.
use Rattle.std.proofs.Common.{◌≡◌, ◌∙◌, ℕ, ap, refl, Bool, true, false, List, [], ◌∷◌, Option, Some, None, codes, is_some, nat_le, option_and_then, arith}
use Rattle.std.proofs.lemmas.Bool.{and_parts}
use Rattle.std.proofs.lemmas.Slice.Eq.{bytes_eq-Decides}
use Rattle.std.specs.Str.{bytes_eq}
use Rattle.std.specs.Str.Parse.{digits_value}
use Rattle.a2_device.specs.declared.order.Order.{Order}
use Rattle.shop_jobs.specs.Input.{AsSectors, FolderBeside}
use Rattle.shop_jobs.specs.Job.{Create, ToFile, ToNewFile, Wrap}
use Rattle.shop_jobs.specs.declared.input.FileSystem.{FileSystem}
use Rattle.shop_jobs.specs.declared.input.FileSystem.TheVariants.{Dos, Prodos}
use Rattle.shop_words.specs.Job.{NewVolumeWords, addition_by, blocks_said, boot_said, comment_said, conversion_of, creation_by, creation_in, creation_of, directory_said, enough_blocks, file_system_named, is_dos_said, line_said, new_order_by, new_volume_of, new_volume_words, order_meant, order_named, order_said, system_image, told_volume, volume_number, wrapping_by, wrapping_of}
use Rattle.shop_words.specs.Plain.{IsPlainLine, Use, is_between, is_number, is_short, value_of}
use Rattle.shop_words.specs.Table.{Text, add_form, convert_form, create_form, fewest_blocks, most_blocks, most_comment, unwrap_form, wrap_form}
use Rattle.shop_words.specs.Ways.{is_on}
use Rattle.shop_words.proofs.PlainSaid.{HasJob, HasJobOf, both, job_there, mapped_there, needed_there, needed_word, number_there, of_none, of_one, one, order_by-line, read_there, three, volume_by-line, words_pass}
use Rattle.shop_words.proofs.PlainUsed.{between_ensures, short_ensures, takes_between, takes_short, value_passes}

convert_at : (image : Text) → HasJobOf convert_form (image ∷ [])
convert_at image uses plain =
    let line = image ∷ [] in
    let said = line_said convert_form line uses in
    let asked = both (option_and_then order_named (value_of (codes "to") uses)) (volume_number (value_of (codes "volume") uses)) conversion_of (λ x y. refl)
    (needed_word convert_form line uses plain (codes "to") order_named refl refl)
    (number_there convert_form line uses plain (codes "volume") 255 volume_number refl refl (λ v is. rw is refl)) in
    job_there convert_form said refl
    (mapped_there AsSectors (option_and_then (order_meant convert_form.reading) (value_of (codes "order") uses)) (order_by-line convert_form line uses plain refl)) refl
    asked (needed_there convert_form line uses plain (codes "out") ToFile refl)

pub convert_job : HasJob convert_form
convert_job = of_one convert_form refl convert_at

-- ---- a container

wrap_at : (image : Text) → HasJobOf wrap_form (image ∷ [])
wrap_at image uses plain =
    let line = image ∷ [] in
    let said = line_said wrap_form line uses in
    let protect = is_on (value_of (codes "protect") uses) in
    let text = read_there comment_said (value_of (codes "comment") uses) refl (λ v is. short_there v
    (value_passes wrap_form.parameters (codes "comment") (takes_short most_comment) (is_short most_comment) uses refl (short_ensures most_comment) refl plain.known v is)) in
    let wrapped = both (told_volume (value_of (codes "volume") uses)) (comment_said (value_of (codes "comment") uses)) (λ n t. wrapping_of n t protect) (λ x y. refl)
    (number_there wrap_form line uses plain (codes "volume") 255 told_volume refl refl (λ v is. rw is refl)) text in
    job_there wrap_form said refl
    (mapped_there AsSectors (option_and_then (order_meant wrap_form.reading) (value_of (codes "order") uses)) (order_by-line wrap_form line uses plain refl)) refl
    (mapped_there Wrap (wrapping_by said) wrapped) (needed_there wrap_form line uses plain (codes "out") ToNewFile refl) where
      short_there : (v : Text) → is_short most_comment v ≡ true → is_some (comment_said (Some v)) ≡ true
      short_there v is = rw is refl

pub wrap_job : HasJob wrap_form
wrap_job = of_one wrap_form refl wrap_at

unwrap_at : (image : Text) → HasJobOf unwrap_form (image ∷ [])
unwrap_at image uses plain =
    let line = image ∷ [] in
    job_there unwrap_form (line_said unwrap_form line uses) refl refl refl refl (needed_there unwrap_form line uses plain (codes "out") ToNewFile refl)

pub unwrap_job : HasJob unwrap_form
unwrap_job = of_one unwrap_form refl unwrap_at

-- ---- a new volume

enough_there : (n : ℕ) → nat_le fewest_blocks n ≡ true → is_some (enough_blocks n) ≡ true
enough_there n enough = rw enough refl

blocks_there : (v : Text) → is_between fewest_blocks most_blocks v ≡ true → is_some (blocks_said (Some v)) ≡ true
blocks_there v is =
    let parts = and_parts (is_number most_blocks v) (nat_le fewest_blocks (digits_value 10 v)) is in
    rw parts.0 (enough_there (digits_value 10 v) parts.1)

boot_there : (data_disk : Option Text) (image : Option Text) → (is_some image ≡ true → data_disk ≡ None) → is_some (boot_said (is_on data_disk) image) ≡ true
boot_there None image none = refl
boot_there (Some v) None none = by_flag (bytes_eq v (codes "true")) where
  by_flag : (on : Bool) → is_some (boot_said on None) ≡ true
  by_flag true = refl
  by_flag false = refl
boot_there (Some v) (Some image) none = let no = none refl in cc

-- the word of a file system is one of two
file_system_cases : (P : FileSystem → Type 0) (said : Option Text) → is_some (option_and_then file_system_named said) ≡ true
    → (said ≡ Some (codes "dos") → P Dos) → P Prodos → (s : FileSystem) × (option_and_then file_system_named said ≡ Some s) × P s
file_system_cases P None named dos prodos = cc
file_system_cases P (Some v) named dos prodos = by_word (bytes_eq v (codes "dos")) (bytes_eq v (codes "prodos")) refl refl where
  by_word : (a b : Bool) → bytes_eq v (codes "dos") ≡ a → bytes_eq v (codes "prodos") ≡ b → (s : FileSystem) × (file_system_named v ≡ Some s) × P s
  by_word true b is_dos is_prodos = (Dos, rw is_dos refl, dos (ap Some ((bytes_eq-Decides v (codes "dos")).0 is_dos)))
  by_word false true is_dos is_prodos = (Prodos, rw (is_dos, is_prodos) refl, prodos)
  by_word false false is_dos is_prodos =
      let none : is_some (file_system_named v) ≡ false = rw (is_dos, is_prodos) refl in cc

-- of a plain list, whatever its words say of the volume
module _ (uses : List Use) (plain : IsPlainLine create_form [] uses) where
  abbrev words : NewVolumeWords
  words = new_volume_words (line_said create_form [] uses)

  named_in : is_some (option_and_then file_system_named (value_of (codes "fs") uses)) ≡ true
  named_in = needed_word create_form [] uses plain (codes "fs") file_system_named refl refl

  order_in : (s : FileSystem) → is_some (order_said s (value_of (codes "order") uses)) ≡ true
  order_in s = read_there (order_said s) (value_of (codes "order") uses) refl
      (words_pass create_form [] uses plain (codes "order") (λ w. is_some (order_named w)) refl)

  new_order_in : is_some (new_order_by (line_said create_form [] uses)) ≡ true
  new_order_in = one (option_and_then file_system_named (value_of (codes "fs") uses)) (option_and_then (λ s. order_said s (value_of (codes "order") uses)))
      order_in named_in

  blocks_in : is_some (blocks_said (value_of (codes "blocks") uses)) ≡ true
  blocks_in = read_there blocks_said (value_of (codes "blocks") uses) refl (λ v is. blocks_there v
      (value_passes create_form.parameters (codes "blocks") (takes_between fewest_blocks most_blocks) (is_between fewest_blocks most_blocks) uses refl
      (between_ensures fewest_blocks most_blocks) refl plain.known v is))

  made_in : (s : FileSystem) → is_some (new_volume_of words s) ≡ true → is_some (creation_in words s) ≡ true
  made_in s new = three (new_volume_of words s) (order_said s (value_of (codes "order") uses)) (volume_number (value_of (codes "volume") uses))
      creation_of (λ x y v. refl) new
      (order_in s)
      (number_there create_form [] uses plain (codes "volume") 255 volume_number refl refl (λ v is. rw is refl))

  dos_in : value_of (codes "fs") uses ≡ Some (codes "dos") → is_some (new_volume_of words Dos) ≡ true
  dos_in is = let none = (plain.created (8, omega arith, refl)).of_dos is in rw (none.0, none.1, none.2) refl

  created : is_some (creation_by (line_said create_form [] uses)) ≡ true
  created =
      let case = file_system_cases (λ s. is_some (creation_in words s) ≡ true) (value_of (codes "fs") uses) named_in
      (λ is. made_in Dos (dos_in is)) (made_in Prodos (mapped_there _ (blocks_said (value_of (codes "blocks") uses)) blocks_in)) in
      ap (λ (s : Option FileSystem). is_some (option_and_then (creation_in words) s)) case.1 ∙ case.2

system_there : (boot : Option (Option Text)) (order : Option Order) → is_some boot ≡ true → is_some order ≡ true
    → is_some (system_image boot order) ≡ true
system_there None order p q = cc
system_there (Some None) order p q = refl
system_there (Some (Some image)) None p q = cc
system_there (Some (Some image)) (Some order) p q = refl

create_at : HasJobOf create_form []
create_at uses plain =
    let said = line_said create_form [] uses in
    job_there create_form said refl refl
    (system_there (boot_said (is_on (value_of (codes "data-disk") uses)) (value_of (codes "boot") uses)) (new_order_by said)
    (boot_there (value_of (codes "data-disk") uses) (value_of (codes "boot") uses) (plain.created (8, omega arith, refl)).started) (new_order_in uses plain))
    (mapped_there Create (creation_by said) (created uses plain)) (needed_there create_form [] uses plain (codes "out") ToNewFile refl)

pub create_job : HasJob create_form
create_job = of_none create_form refl create_at

-- ---- the files of a folder

directory_there : (fs into : Option Text) → (is_some into ≡ true → fs ≡ Some (codes "prodos")) → is_some (directory_said (is_dos_said fs) into) ≡ true
directory_there None into prodos = refl
directory_there (Some v) None prodos = by_word (bytes_eq v (codes "dos")) where
  by_word : (dos : Bool) → is_some (directory_said dos None) ≡ true
  by_word true = refl
  by_word false = refl
directory_there (Some v) (Some x) prodos =
    let is : v ≡ codes "prodos" = let e = prodos refl in cc in
    rw is refl

add_at : (image : Text) → HasJobOf add_form (image ∷ [])
add_at image uses plain =
    let line = image ∷ [] in
    let said = line_said add_form line uses in
    let directory = directory_there (value_of (codes "fs") uses) (value_of (codes "into") uses) (plain.added (5, omega arith, refl)) in
    let added = mapped_there _ (addition_by said)
    (mapped_there _ (directory_said (is_dos_said (value_of (codes "fs") uses)) (value_of (codes "into") uses)) directory) in
    job_there add_form said refl (volume_by-line add_form line uses plain said refl refl refl refl)
    (needed_there add_form line uses plain (codes "from") FolderBeside refl) added
    (needed_there add_form line uses plain (codes "out") ToFile refl)

pub add_job : HasJob add_form
add_job = of_one add_form refl add_at
