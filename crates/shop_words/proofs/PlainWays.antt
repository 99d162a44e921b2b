-- A plain list leaves nothing to its images: its job is that of its own words, and is settled.
use Rattle.std.proofs.Common.{◌≡◌, ◌∙◌, ap, refl, sym, subst, Bool, true, false, List, [], ◌∷◌, Option, Some, None, ◌||◌, ◌&&◌, not, codes, is_some, option_map, option_and_then, if◌then◌else◌, Contains, All}
use Rattle.std.proofs.lemmas.Bool.{and_from, and_parts, and_right, not-true, or_parts}
use Rattle.std.proofs.lemmas.Slice.Eq.{bytes_eq-Decides}
use Rattle.std.specs.List.{list_all, list_any}
use Rattle.std.specs.Str.{bytes_eq}
use Rattle.clap.proofs.OnLiterals.{clap_on_literals}
use Rattle.clap.specs.Walk.{first_of}
use Rattle.a2_device.specs.declared.order.Order.{Order}
use Rattle.shop_jobs.specs.Input.{AsSectors, BesideView, FileBeside, FolderBeside, ReadingView, SourceView, is_settled, is_settled_beside, is_settled_order, is_settled_reading}
use Rattle.shop_jobs.specs.Job.{AskView, JobView, TargetView}
use Rattle.shop_jobs.specs.declared.input.FileSystem.{FileSystem}
use Rattle.shop_jobs.specs.declared.input.OrderSaid.{OrderSaid}
use Rattle.shop_jobs.specs.declared.input.OrderSaid.TheVariants.{Is}
use Rattle.shop_words.specs.Job.{ask_by, beside_by, boot_said, file_system_by, file_system_meant, file_system_named, is_counted, is_flagged, is_prodos, job_by, job_of, line_job, line_said, names_directory, new_order_by, order_by, order_meant, order_named, other_image, other_named, other_order, output_by, positional_said, prodos_by, reading_by, source_by, system_image, takes_auto, volume_in, words_by, words_job}
use Rattle.shop_words.specs.Plain.{IsPlainLine, IsUseOf, Use, positional_names, value_of}
use Rattle.shop_words.specs.Table.{FormView, ParameterView, Text, forms}
use Rattle.shop_words.specs.Ways.{Said, Words, file_system_said, has_file_system, has_order, is_auto_word, is_container_word, is_on, leaves_open, may_leave, or_auto, order_said, said, takes_container}
use Rattle.shop_words.specs.declared.table.Reading.{Reading}
use Rattle.shop_words.specs.declared.table.Reading.TheVariants as readings
use Rattle.shop_words.specs.declared.table.Verb.{Verb}
use Rattle.shop_words.specs.declared.table.Verb.TheVariants as verbs
use Rattle.shop_words.proofs.KnownForms.{of_forms}
use Rattle.shop_words.proofs.PlainJobs.{job_by-rows, counts_same, option_names, options_same, plain_defaults, rows_said}
use Rattle.shop_words.proofs.PlainTaken.{finished_rows, top_rows}
use Rattle.shop_words.proofs.PlainUsed.{is_needed_name, named_only, needed_said, takes_words, value_passes, words_ensure}

-- ---- one word

-- a word of a way that is nothing that stands for what an image has
abbrev pub is_own_word : Text → Bool
is_own_word word = not (is_auto_word word) && not (is_container_word word)

-- what is said, if anything, is such a word
abbrev IsOwn : Option Text → Type 0
IsOwn said = (v : Text) → said ≡ Some v → is_own_word v ≡ true

own_parts : (word : Text) → is_own_word word ≡ true → (is_auto_word word ≡ false) × (is_container_word word ≡ false)
own_parts word own =
    let parts = and_parts (not (is_auto_word word)) (not (is_container_word word)) own in
    (not-true (is_auto_word word) parts.0, not-true (is_container_word word) parts.1)

-- ---- what is there leaves nothing to an image

-- what is said passes the test, if anything is
abbrev if_there : {X : Type 0} → (X → Bool) → Option X → Bool
if_there test None = true
if_there test (Some x) = test x

abbrev order_settled : Option OrderSaid → Bool
order_settled = if_there is_settled_order

meant_settled : (reading : Reading) (word : Text) → is_own_word word ≡ true → order_settled (order_meant reading word) ≡ true
meant_settled reading word own =
    let parts = own_parts word own in
    rw (parts.0, parts.1, and_right (has_order reading) false refl, and_right (takes_container reading) false refl) (by_order (order_named word)) where
      by_order : (o : Option Order) → order_settled (option_map Is o) ≡ true
      by_order None = refl
      by_order (Some o) = refl

order_by-settled : (reading : Reading) (said : Option Text) → IsOwn said → order_settled (option_and_then (order_meant reading) said) ≡ true
order_by-settled reading None own = refl
order_by-settled reading (Some word) own = meant_settled reading word (own word refl)

other_order-settled : (reading : Reading) (said order : Option Text) → IsOwn said → IsOwn order → order_settled (other_order reading said order) ≡ true
other_order-settled reading None order own own_order = order_by-settled reading order own_order
other_order-settled reading (Some word) order own own_order = meant_settled reading word (own word refl)

abbrev system_settled : Option (Option FileSystem) → Bool
system_settled = if_there is_some

file_system-settled : (in_directory : Bool) (said : Option Text) → IsOwn said
    → system_settled (option_and_then (file_system_meant in_directory) said) ≡ true
file_system-settled in_directory None own = refl
file_system-settled in_directory (Some word) own = rw (own_parts word (own word refl)).0 (by_name (file_system_named word)) where
  by_name : (f : Option FileSystem) → system_settled (option_map Some f) ≡ true
  by_name None = refl
  by_name (Some f) = refl

prodos-settled : (said : Said) → system_settled (prodos_by said) ≡ true
prodos-settled said = by_test (is_prodos (said (codes "fs"))) refl where
  by_test : (b : Bool) → is_prodos (said (codes "fs")) ≡ b → system_settled (prodos_by said) ≡ true
  by_test true is = rw is refl
  by_test false is = rw is refl

abbrev reading_settled : Option ReadingView → Bool
reading_settled = if_there is_settled_reading

volume-settled : (file_system : Option (Option FileSystem)) (order : Option OrderSaid) (data_disk : Bool) (reserve : Option Text)
    → system_settled file_system ≡ true → order_settled order ≡ true → reading_settled (volume_in file_system order data_disk reserve) ≡ true
volume-settled None order data_disk reserve p q = refl
volume-settled (Some f) None data_disk reserve p q = refl
volume-settled (Some f) (Some o) data_disk reserve p q = and_from _ _ p q

sectors-settled : (order : Option OrderSaid) → order_settled order ≡ true → reading_settled (option_map AsSectors order) ≡ true
sectors-settled None p = refl
sectors-settled (Some order) p = p

reading_by-settled : (verb : Verb) (reading : Reading) (said : Said) → IsOwn (said (codes "fs")) → IsOwn (said (codes "order"))
    → reading_settled (reading_by verb reading said) ≡ true
reading_by-settled verb readings.Nothing said fs order = refl
reading_by-settled verb (readings.Volume out) said fs order = volume-settled (file_system_by verb said) (order_by (readings.Volume out) said) _ _
    (file_system-settled (names_directory verb (said (codes "into"))) (said (codes "fs")) fs) (order_by-settled (readings.Volume out) (said (codes "order")) order)
reading_by-settled verb (readings.Prodos out) said fs order = volume-settled (prodos_by said) (order_by (readings.Prodos out) said) _ _
    (prodos-settled said) (order_by-settled (readings.Prodos out) (said (codes "order")) order)
reading_by-settled verb (readings.Order out) said fs order =
    sectors-settled (order_by (readings.Order out) said) (order_by-settled (readings.Order out) (said (codes "order")) order)
reading_by-settled verb (readings.Bare out) said fs order =
    sectors-settled (order_by (readings.Bare out) said) (order_by-settled (readings.Bare out) (said (codes "order")) order)

abbrev beside_settled : Option BesideView → Bool
beside_settled = if_there is_settled_beside

other_image-settled : (other : Option Text) (order : Option OrderSaid) → order_settled order ≡ true → beside_settled (other_image other order) ≡ true
other_image-settled None order p = refl
other_image-settled (Some other) None p = refl
other_image-settled (Some other) (Some order) p = p

system_image-settled : (boot : Option (Option Text)) (order : Option Order) → beside_settled (system_image boot order) ≡ true
system_image-settled None order = refl
system_image-settled (Some None) order = refl
system_image-settled (Some (Some boot)) None = refl
system_image-settled (Some (Some boot)) (Some order) = refl

-- whatever path is said
path-settled : (made : Text → BesideView) → ((path : Text) → is_settled_beside (made path) ≡ true) → (said : Option Text)
    → beside_settled (option_map made said) ≡ true
path-settled made each None = refl
path-settled made each (Some path) = each path

beside_by-settled : (verb : Verb) (reading : Reading) (said : Said) → IsOwn (said (codes "order")) → IsOwn (said (codes "other-order"))
    → beside_settled (beside_by verb reading said) ≡ true
beside_by-settled verbs.Verify reading said order other = path-settled FileBeside (λ path. refl) (said (codes "from"))
beside_by-settled verbs.Save reading said order other = path-settled FileBeside (λ path. refl) (said (codes "from"))
beside_by-settled verbs.Add reading said order other = path-settled FolderBeside (λ path. refl) (said (codes "from"))
beside_by-settled verbs.Compare reading said order other =
    other_image-settled (other_named (said (codes "image")) (said (codes "other"))) (other_order reading (said (codes "other-order")) (said (codes "order")))
    (other_order-settled reading (said (codes "other-order")) (said (codes "order")) other order)
beside_by-settled verbs.Create reading said order other =
    system_image-settled (boot_said (is_on (said (codes "data-disk"))) (said (codes "boot"))) (new_order_by said)
beside_by-settled _ reading said order other = refl

abbrev pub job_settled : Option JobView → Bool
job_settled = if_there (λ job. is_settled job.input)

parts_settled : (image : Option SourceView) (reading : Option ReadingView) (beside : Option BesideView) (ask : Option AskView) (output : Option TargetView)
    (certificate : Option Text) → reading_settled reading ≡ true → beside_settled beside ≡ true
    → job_settled (job_of image reading beside ask output certificate) ≡ true
parts_settled None reading beside ask output certificate p q = refl
parts_settled (Some i) None beside ask output certificate p q = refl
parts_settled (Some i) (Some v) None ask output certificate p q = refl
parts_settled (Some i) (Some v) (Some b) None output certificate p q = refl
parts_settled (Some i) (Some v) (Some b) (Some a) None certificate p q = refl
parts_settled (Some i) (Some v) (Some b) (Some a) (Some o) certificate p q = and_from _ _ p q

job_by-settled : (f : FormView) (said : Said) → IsOwn (said (codes "fs")) → IsOwn (said (codes "order")) → IsOwn (said (codes "other-order"))
    → job_settled (job_by f said) ≡ true
job_by-settled f said fs order other = parts_settled (source_by f.verb said) (reading_by f.verb f.reading said) (beside_by f.verb f.reading said)
    (ask_by f.verb said) (output_by f.verb said) (said (codes "cert")) (reading_by-settled f.verb f.reading said fs order)
    (beside_by-settled f.verb f.reading said order other)

-- ---- words that leave nothing out

said_itself : (opened : Bool) (said : Option Text) → (opened ≡ true → is_some said ≡ true) → or_auto opened said ≡ said
said_itself true (Some word) there = refl
said_itself false (Some word) there = refl
said_itself false None there = refl
said_itself true None there = let no = there refl in cc

opens_order : (reading : Reading) (auto in_place : Bool) → may_leave reading auto in_place ≡ true → has_order reading ≡ true
opens_order readings.Nothing auto in_place opened = cc
opens_order (readings.Volume out) auto in_place opened = refl
opens_order (readings.Prodos out) auto in_place opened = refl
opens_order (readings.Order out) auto in_place opened = refl
opens_order (readings.Bare out) auto in_place opened = refl

-- each way that a command has is said, and by a word of its own
record SaysWays (w : Words) : Type 0 where
  file_system : has_file_system w.form.reading ≡ true → is_some (w.say (codes "fs")) ≡ true
  order : has_order w.form.reading ≡ true → is_some (w.say (codes "order")) ≡ true
  own_file_system : IsOwn (w.say (codes "fs"))
  own_order : IsOwn (w.say (codes "order"))
  own_other : IsOwn (w.say (codes "other-order"))

module _ (w : Words) (says : SaysWays w) where
  file_system_is : file_system_said w ≡ w.say (codes "fs")
  file_system_is = said_itself _ (w.say (codes "fs"))
      (λ opened. says.file_system (and_parts (has_file_system w.form.reading) (leaves_open w) opened).0)

  order_is : order_said w ≡ w.say (codes "order")
  order_is = said_itself _ (w.say (codes "order")) (λ opened. says.order (opens_order w.form.reading w.is_auto _ opened))

  said_as_is : said w ≡ w.say
  said_as_is = λ i name. each name i where
    -- a name that is this one, or another
    by_name : (b : Bool) (name this : Text) (here there : Option Text) → bytes_eq name this ≡ b → here ≡ w.say this → there ≡ w.say name
        → (if b then here else there) ≡ w.say name
    by_name true name this here there same e rest = e ∙ sym (ap w.say ((bytes_eq-Decides name this).0 same))
    by_name false name this here there same e rest = rest

    each : (name : Text) → said w name ≡ w.say name
    each name =
        by_name (bytes_eq name (codes "fs")) name (codes "fs") _ _ refl file_system_is
        (by_name (bytes_eq name (codes "order")) name (codes "order") _ _ refl order_is refl)

-- ---- the words of a plain list

abbrev way_names : List Text
way_names = codes "fs" ∷ codes "order" ∷ codes "other-order" ∷ []

abbrev says_needed : Bool → Text → List ParameterView → Bool
says_needed has name ps = not has || list_any (is_needed_name name) ps

-- a name of no positional word, under which a word of its own is said
abbrev is_own_way : FormView → Text → Bool
is_own_way f n = list_all (named_only n (takes_words is_own_word)) f.parameters
    && not (list_any (λ m. bytes_eq m n) (positional_names f))

-- the form has no flag of the program
abbrev has_no : FormView → Text → Bool
has_no f n = list_all (λ p. not (bytes_eq p.name n)) f.parameters && not (list_any (λ m. bytes_eq m n) (positional_names f))

-- a form whose plain lists say each way by a word of its own
abbrev has_own_ways : FormView → Bool
has_own_ways f = list_all (is_own_way f) way_names
    && (says_needed (has_file_system f.reading) (codes "fs") f.parameters
    && (says_needed (has_order f.reading) (codes "order") f.parameters
    && (takes_auto f.verb false && has_no f (codes "auto"))))

all_have_own_ways : list_all has_own_ways forms ≡ true
unfolding forms
all_have_own_ways = refl

-- a name of no positional word says what its use says
use_alone : (names positionals : List Text) (said : Said) (name : Text) → list_any (λ m. bytes_eq m name) names ≡ false
    → positional_said names positionals said name ≡ said name
use_alone [] ps said name apart = refl
use_alone (n ∷ ns) [] said name apart = refl
use_alone (n ∷ ns) (p ∷ ps) said name apart =
    let parts = or_parts (bytes_eq n name) (list_any (λ m. bytes_eq m name) ns) apart in
    rw parts.0 (use_alone ns ps said name parts.1)

-- a name of no parameter says nothing
unsaid : (ps : List ParameterView) (name : Text) (uses : List Use) → list_all (λ p. not (bytes_eq p.name name)) ps ≡ true → All (IsUseOf ps) uses
    → value_of name uses ≡ None
unsaid ps name uses apart fits = by_value (value_of name uses) refl where
  all_only : (qs : List ParameterView) → list_all (λ p. not (bytes_eq p.name name)) qs ≡ true → list_all (named_only name (λ k. false)) qs ≡ true
  all_only [] e = refl
  all_only (q ∷ qs) e =
      let parts = and_parts (not (bytes_eq q.name name)) (list_all (λ p. not (bytes_eq p.name name)) qs) e in
      and_from _ _ (rw parts.0 refl) (all_only qs parts.1)

  by_value : (o : Option Text) → value_of name uses ≡ o → o ≡ None
  by_value None is = refl
  by_value (Some v) is =
      let never : false ≡ true = value_passes ps name (λ k. false) (λ w. false) uses refl (λ k value e takes. e) (all_only ps apart) fits v is in
      cc

where_has : (has there : Bool) → (not has || there) ≡ true → has ≡ true → there ≡ true
where_has true there e is = e
where_has false there e is = cc

top_auto : is_counted (first_of (codes "auto") top_rows) ≡ false
unfolding forms clap_on_literals
top_auto = refl

where_true : {X : Type 0} (b : Bool) (x : Option X) → b ≡ true → (if b then x else None) ≡ x
where_true b x is = rw is refl

module _ (f : FormView) (positionals : List Text) (uses : List Use) (at : Contains forms f) (plain : IsPlainLine f positionals uses) where
  abbrev own_words : Words
  own_words = record { form = f; is_auto = false; say = rows_said f positionals uses }

  -- what the list says under a name of no positional word
  line_says : (name : Text) → not (list_any (λ m. bytes_eq m name) (positional_names f)) ≡ true
      → line_said f positionals uses name ≡ value_of name uses
  line_says name apart = use_alone (positional_names f) positionals (λ n. value_of n uses) name (not-true _ apart)

  way_said : (name : Text) → list_any (λ n. bytes_eq n name) option_names ≡ true → is_own_way f name ≡ true
      → rows_said f positionals uses name ≡ value_of name uses
  way_said name among own =
      options_same f positionals uses (plain_defaults f at) name among
      ∙ line_says name (and_parts (list_all (named_only name (takes_words is_own_word)) f.parameters) _ own).1

  way_own : (name : Text) → is_own_way f name ≡ true → IsOwn (value_of name uses)
  way_own name own =
      value_passes f.parameters name (takes_words is_own_word) is_own_word uses refl (words_ensure is_own_word)
      (and_parts (list_all (named_only name (takes_words is_own_word)) f.parameters) _ own).0 plain.known

  says_ways : list_all (is_own_way f) way_names ≡ true → says_needed (has_file_system f.reading) (codes "fs") f.parameters ≡ true
      → says_needed (has_order f.reading) (codes "order") f.parameters ≡ true → SaysWays own_words
  says_ways own fs_needed order_needed =
      let first = and_parts (is_own_way f (codes "fs")) _ own in
      let second = and_parts (is_own_way f (codes "order")) _ first.1 in
      let third = and_parts (is_own_way f (codes "other-order")) true second.1 in
      let fs = way_said (codes "fs") refl first.0 in
      let order = way_said (codes "order") refl second.0 in
      let other = way_said (codes "other-order") refl third.0 in
      record {
        file_system = λ has. ap is_some fs ∙ ap is_some (needed_said f.parameters (codes "fs") uses (where_has _ _ fs_needed has) plain.complete).1;
        order = λ has. ap is_some order ∙ ap is_some (needed_said f.parameters (codes "order") uses (where_has _ _ order_needed has) plain.complete).1;
        own_file_system = subst IsOwn (sym fs) (way_own (codes "fs") first.0);
        own_order = subst IsOwn (sym order) (way_own (codes "order") second.0);
        own_other = subst IsOwn (sym other) (way_own (codes "other-order") third.0);
      }

  not_auto_line : has_no f (codes "auto") ≡ true → is_flagged (codes "auto") top_rows (finished_rows f positionals uses) ≡ false
  not_auto_line none =
      let parts = and_parts (list_all (λ p. not (bytes_eq p.name (codes "auto"))) f.parameters) _ none in
      let said = line_says (codes "auto") parts.1 ∙ unsaid f.parameters (codes "auto") uses parts.0 plain.known in
      let counted = counts_same f positionals uses (plain_defaults f at) ∙ ap is_counted said in
      rw (top_auto, counted) refl

  -- what the form passes: its ways are said, and it has no flag of the program
  passes : SaysWays own_words × ((takes_auto f.verb false ≡ true) × (has_no f (codes "auto") ≡ true))
  passes =
      let p0 = and_parts (list_all (is_own_way f) way_names) _ (of_forms has_own_ways all_have_own_ways f at) in
      let p1 = and_parts (says_needed (has_file_system f.reading) (codes "fs") f.parameters) _ p0.1 in
      let p2 = and_parts (says_needed (has_order f.reading) (codes "order") f.parameters) _ p1.1 in
      let p3 = and_parts (takes_auto f.verb false) (has_no f (codes "auto")) p2.1 in
      (says_ways p0.0 p1.0 p2.0, p3)

  words_are : words_by top_rows (finished_rows f positionals uses) f ≡ own_words
  words_are = ap (λ b. record { form = f; is_auto = b; say = rows_said f positionals uses }) (not_auto_line passes.1.1)

  is_words_job : words_job (words_by top_rows (finished_rows f positionals uses) f) ≡ job_by f (rows_said f positionals uses)
  is_words_job =
      ap words_job words_are
      ∙ where_true (takes_auto f.verb false) (job_by f (said own_words)) passes.1.0
      ∙ ap (job_by f) (said_as_is own_words passes.0)

  -- the job is that of the line
  pub words_job-line : words_job (words_by top_rows (finished_rows f positionals uses) f) ≡ line_job f positionals uses
  words_job-line = is_words_job ∙ job_by-rows f positionals uses (plain_defaults f at)

  -- and leaves nothing to the images
  pub settled-line : job_settled (words_job (words_by top_rows (finished_rows f positionals uses) f)) ≡ true
  settled-line = ap job_settled is_words_job
      ∙ job_by-settled f (rows_said f positionals uses) passes.0.own_file_system passes.0.own_order passes.0.own_other
