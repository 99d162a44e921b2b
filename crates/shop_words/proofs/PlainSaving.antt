-- The plain lists of the command that puts a file into a volume.
use Rattle.std.proofs.Common.{◌≡◌, ◌∙◌, ℕ, ap, refl, sym, Bool, true, false, List, [], ◌∷◌, Option, Some, None, codes, is_some, option_and_then, option_map, arith}
use Rattle.std.proofs.lemmas.Slice.Eq.{bytes_eq-Decides}
use Rattle.std.specs.Str.{bytes_eq}
use Rattle.apple_text.specs.declared.form.HighBit.{HighBit}
use Rattle.shop_jobs.specs.Input.{FileBeside}
use Rattle.shop_jobs.specs.declared.changes.SaveForm.{SaveForm}
use Rattle.shop_jobs.specs.declared.changes.SaveForm.TheVariants as save_forms
use Rattle.shop_words.specs.Table.{Text, save_form}
use Rattle.shop_words.specs.Plain.{Use, IsPlainLine, address_named, value_of}
use Rattle.shop_words.specs.Job.{attributes_by, aux_named, high_named, high_said, is_loadable, line_said, loadable, save_by, save_form_by, save_form_named, save_form_said, save_of, save_with, text_given, without_high}
use Rattle.shop_words.specs.Ways.{Said, is_on}
use Rattle.shop_words.proofs.PlainSaid.{HasJob, HasJobOf, job_there, mapped_there, needed_there, of_two, one, read_there, volume_by-line, words_pass}
use Rattle.shop_words.proofs.PlainTarget.{target_by-line}
use Rattle.shop_words.proofs.PlainUsed.{address_ensures, names_address, takes_address, value_passes}

-- ---- the form in which the file is given

abbrev names_form : Text → Bool
names_form word = is_some (save_form_named word None)

abbrev names_high : Text → Bool
names_high word = is_some (high_named word)

form_there : (form said_high : Option Text) → (is_some said_high ≡ true → form ≡ Some (codes "text"))
    → ((v : Text) → form ≡ Some v → names_form v ≡ true) → ((v : Text) → said_high ≡ Some v → names_high v ≡ true)
    → is_some (save_form_said form said_high) ≡ true
form_there None None of_text names high_names = refl
form_there None (Some h) of_text names high_names = let none = of_text refl in cc
form_there (Some v) None of_text names high_names = names v refl
form_there (Some v) (Some h) of_text names high_names =
    let is : v ≡ codes "text" = let e = of_text refl in cc in
    rw is (one (high_said (Some h)) text_given (λ x. refl) (mapped_there Some (high_named h) (high_names h refl)))

-- ---- a program whose listing is given

-- the form is that of a program only where its word is said
program_said : (form said_high : Option Text) → save_form_said form said_high ≡ Some (Some save_forms.Applesoft)
    → form ≡ Some (codes "applesoft")
program_said None None is = cc
program_said None (Some h) is = cc
program_said (Some v) said_high is = by_word (bytes_eq v (codes "text")) (bytes_eq v (codes "applesoft")) (bytes_eq v (codes "single")) refl refl refl is where
  no_text : (h : Option (Option HighBit)) → text_given h ≡ Some (Some save_forms.Applesoft) → ⊥
  no_text None e = cc
  no_text (Some x) e = cc

  no_single : (h : Option Text) → without_high h (Some save_forms.Single) ≡ Some (Some save_forms.Applesoft) → ⊥
  no_single None e = cc
  no_single (Some x) e = cc

  by_word : (text program single : Bool) → bytes_eq v (codes "text") ≡ text → bytes_eq v (codes "applesoft") ≡ program → bytes_eq v (codes "single") ≡ single
      → save_form_said (Some v) said_high ≡ Some (Some save_forms.Applesoft) → Some v ≡ Some (codes "applesoft")
  by_word text true single a b c e = ap Some ((bytes_eq-Decides v (codes "applesoft")).0 b)
  by_word true false single a b c e = absurd (no_text (high_said said_high) (sym (rw a refl) ∙ e))
  by_word false false true a b c e = absurd (no_single said_high (sym (rw (a, b, c) refl) ∙ e))
  by_word false false false a b c e = let none : None ≡ Some (Some save_forms.Applesoft) = sym (rw (a, b, c) refl) ∙ e in cc

loaded_there : (form : Option SaveForm) (aux_type : Option ℕ) → (form ≡ Some save_forms.Applesoft → (a : ℕ) → aux_type ≡ Some a → a ≡ 0x0801)
    → is_loadable form aux_type ≡ true
loaded_there None aux_type at = refl
loaded_there (Some (save_forms.Text h)) aux_type at = refl
loaded_there (Some save_forms.Single) aux_type at = refl
loaded_there (Some save_forms.Applesoft) None at = refl
loaded_there (Some save_forms.Applesoft) (Some a) at = rw (at refl a refl) refl

-- the auxiliary type is that of its word
aux_of_word : (said : Option Text) (a : ℕ) → aux_named said ≡ Some (Some a) → (v : Text) × (said ≡ Some v) × (address_named v ≡ Some a)
aux_of_word None a is = cc
aux_of_word (Some v) a is = (v, refl, some_in (address_named v) is) where
  some_in : (o : Option ℕ) → option_map Some o ≡ Some (Some a) → o ≡ Some a
  some_in None e = cc
  some_in (Some x) e = cc

-- ---- all of it

loads_there : (form : Option (Option SaveForm)) (aux_type : Option ℕ) → is_some form ≡ true
    → ((f : Option SaveForm) → form ≡ Some f → is_loadable f aux_type ≡ true) → is_some (option_and_then (loadable aux_type) form) ≡ true
loads_there None aux_type p loads = cc
loads_there (Some f) aux_type p loads = rw (loads f refl) refl

save_there : (said : Said) (aux_type : Option (Option ℕ)) → is_some aux_type ≡ true
    → ((a : Option ℕ) → aux_type ≡ Some a → is_some (save_with said a) ≡ true) → is_some (option_and_then (save_with said) aux_type) ≡ true
save_there said None p with_aux = cc
save_there said (Some a) p with_aux = with_aux a refl

-- of a plain list, whatever its words say of the form and of the auxiliary type
module _ (positionals : List Text) (uses : List Use) (plain : IsPlainLine save_form positionals uses) where
  abbrev form_word : Option Text
  form_word = value_of (codes "as") uses

  abbrev high_word : Option Text
  high_word = value_of (codes "high") uses

  abbrev aux_word : Option Text
  aux_word = value_of (codes "aux") uses

  form_in : is_some (save_form_said form_word high_word) ≡ true
  form_in = form_there form_word high_word plain.high_of_text
      (words_pass save_form positionals uses plain (codes "as") names_form refl)
      (words_pass save_form positionals uses plain (codes "high") names_high refl)

  aux_in : is_some (aux_named aux_word) ≡ true
  aux_in = read_there aux_named aux_word refl (λ v is. mapped_there Some (address_named v)
      (value_passes save_form.parameters (codes "aux") takes_address names_address uses refl address_ensures refl plain.known v is))

  loads_in : (a : Option ℕ) (f : Option SaveForm) → aux_named aux_word ≡ Some a → save_form_said form_word high_word ≡ Some f → is_loadable f a ≡ true
  loads_in a f aux_is form_is = loaded_there f a (λ is_program b is_some_b.
      let word = program_said form_word high_word (form_is ∙ ap Some is_program) in
      let number = aux_of_word aux_word b (aux_is ∙ ap Some is_some_b) in
      let at = plain.loaded word number.0 number.1 in
      cc)

  given_in : (a : Option ℕ) → aux_named aux_word ≡ Some a → is_some (option_and_then (loadable a) (save_form_said form_word high_word)) ≡ true
  given_in a aux_is = loads_there (save_form_said form_word high_word) a form_in (λ f form_is. loads_in a f aux_is form_is)

save_at : (image name : Text) → HasJobOf save_form (image ∷ name ∷ [])
save_at image name uses plain =
    let words = image ∷ name ∷ [] in
    let said = line_said save_form words uses in
    let aux_type = aux_named (value_of (codes "aux") uses) in
    let saved = save_there said aux_type (aux_in words uses plain)
    (λ a aux_is. one (save_form_by a said) (save_of (is_on (said (codes "replace"))) (Some name) (attributes_by a said)) (λ x. refl)
    (given_in words uses plain a aux_is)) in
    job_there save_form said refl (volume_by-line save_form words uses plain said refl refl refl refl)
    (needed_there save_form words uses plain (codes "from") FileBeside refl) (mapped_there _ (save_by said) saved)
    (target_by-line save_form words uses said (record { at = (8, omega arith, refl); flags = refl }) plain refl refl)

pub save_job : HasJob save_form
save_job = of_two save_form refl save_at
