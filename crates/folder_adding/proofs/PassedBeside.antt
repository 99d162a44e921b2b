-- What is passed over stands beside an item.
use Rattle.std.proofs.Common.{◌≡◌, ◌⊎◌, ◌∙◌, ◌+◌, ℕ, suc, zero, List, [], ◌∷◌, Option, Some, None, ap, ap₂, inl, inr, refl, sym, subst, arith, true, false}
use Rattle.std.specs.Prelude.{◌&&◌, ◌||◌, Bool, Contains, Ok, cond, filter, map, slice_get}
use Rattle.std.specs.List.{cons_option, enumerate_from, filter_map, list_any, position, position_from}
use Rattle.std.specs.Str.{bytes_eq}
use Rattle.std.proofs.lemmas.Bool.{false≢true}
use Rattle.std.proofs.lemmas.Iterator.Adapters.{position_from-zero}
use Rattle.std.proofs.lemmas.Slice.Eq.{bytes_eq-Decides}
use Rattle.folder_adding.specs.HostEntries.{EntryView, has_file_beside, is_file, readable_path, stands_beside}
use Rattle.folder_adding.specs.HostPaths.{SaidPath, SaysPath, Text}
use Rattle.folder_adding.specs.Items.{ItemView}
use Rattle.folder_adding.specs.Passed.{IsSecondOf, PassesSeconds}
use Rattle.folder_adding.specs.Plan.{AreSteps, IsPlan, PlanView, is_passing, item_added, plan_of}
use Rattle.folder_adding.specs.Verdicts.{AddedFolder, IsFileVerdict, IsFolderVerdict, IsVerdict, IsVerdictOf, SaysPlainFile, Step, Verdict, adds, form_beside, is_directory, is_item, is_readable, is_second, item_said, makes, no_directory, no_directory_name, no_name, no_path, no_plain_file, no_type, passes, second_form, second_in}
use Rattle.folder_adding.specs.declared.host_entry.HostKind.{HostKind}
use Rattle.folder_adding.specs.declared.host_entry.HostKind.TheVariants.{File, Folder, Other}
use Rattle.folder_adding.proofs.OneSaid.{one_path}
use Rattle.folder_adding.proofs.PathsBeside.{path_beside, plain_path, type_of_path}
use Rattle.file_forms.specs.declared.form.FileForm.{FileForm}
use Rattle.file_forms.specs.declared.form.FileForm.TheVariants as forms
use Rattle.host_folders.specs.declared.said.Content.TheVariants.{Bytes}

-- ---- places in lists

and_left : (a b : Bool) → (a && b) ≡ true → a ≡ true
and_left true b is = refl
and_left false b is = is

and_right : (a b : Bool) → (a && b) ≡ true → b ≡ true
and_right true b is = is
and_right false b is = absurd (cc)

-- where one passes a test there is a first
module _ {X : Type 0} (test : X → Bool) where
  IsFirst : ℕ → List X → Option ℕ → Type 0
  IsFirst at xs found = (place : ℕ) × (x : X) × (found ≡ Some (at + place)) × (slice_get xs place ≡ Some x) × (test x ≡ true)

  first_from : (at : ℕ) (xs : List X) → list_any test xs ≡ true → IsFirst at xs (position_from test at xs)
  unfolding IsFirst
  first_from at [] is = absurd (cc)
  first_from at (x ∷ xs) is = by (first_from (at + 1) xs) (test x) refl is
    where
      by : (list_any test xs ≡ true → IsFirst (at + 1) xs (position_from test (at + 1) xs)) → (here : Bool) → test x ≡ here → (here || list_any test xs) ≡ true
          → IsFirst at (x ∷ xs) (cond here (Some at) (position_from test (at + 1) xs))
      by rest true is any = (0, x, ap (λ (n : ℕ). Some n) (omega arith), refl, is)
      by rest false is any =
          let found = rest any in
          (suc found.0, found.1, found.2 ∙ ap (λ (n : ℕ). Some n) (omega arith), found.3, found.4)

  pub first_of : (xs : List X) → list_any test xs ≡ true → (place : ℕ) × (x : X) × (position test xs ≡ Some place) × (slice_get xs place ≡ Some x) × (test x ≡ true)
  unfolding IsFirst
  first_of xs is =
      let found = first_from 0 xs is in
      (found.0, found.1, position_from-zero test xs ∙ found.2 ∙ ap (λ (n : ℕ). Some n) (omega arith), found.3, found.4)

  pub any_of : (xs : List X) (place : ℕ) (x : X) → slice_get xs place ≡ Some x → test x ≡ true → list_any test xs ≡ true
  any_of [] place x there is = absurd (cc)
  any_of (first ∷ xs) zero x there is =
      let same : first ≡ x = cc in
      ap (λ (b : Bool). b || list_any test xs) (ap test same ∙ is)
  any_of (first ∷ xs) (suc place) x there is = or_true (test first) (list_any test xs) (any_of xs place x there is)
    where
      or_true : (b c : Bool) → c ≡ true → (b || c) ≡ true
      or_true true c is = refl
      or_true false c is = is

-- the numbers of the steps that pass a test
module _ (test : Step → Bool) where
  numbered : (at : ℕ) (steps : List Step) (number : ℕ)
      → Contains (map (λ (n : ℕ × Step). n.0) (filter (λ (n : ℕ × Step). test n.1) (enumerate_from at steps))) number
      → (place : ℕ) × (step : Step) × (number ≡ at + place) × (slice_get steps place ≡ Some step) × (test step ≡ true)
  numbered at [] number has = absurd (omega (arith, has.1))
  numbered at (first ∷ steps) number has = by (numbered (at + 1) steps number) (test first) refl has
    where
      more : (place : ℕ) × (step : Step) × (number ≡ at + 1 + place) × (slice_get steps place ≡ Some step) × (test step ≡ true)
          → (place : ℕ) × (step : Step) × (number ≡ at + place) × (slice_get (first ∷ steps) place ≡ Some step) × (test step ≡ true)
      more found = (suc found.0, found.1, found.2 ∙ omega arith, found.3, found.4)

      by : (Contains (map (λ (n : ℕ × Step). n.0) (filter (λ (n : ℕ × Step). test n.1) (enumerate_from (at + 1) steps))) number → (place : ℕ) × (step : Step) × (number ≡ at + 1 + place) × (slice_get steps place ≡ Some step) × (test step ≡ true)) → (here : Bool)
          → test first ≡ here → Contains (map (λ (n : ℕ × Step). n.0) (cond here ((at, first) ∷ filter (λ (n : ℕ × Step). test n.1) (enumerate_from (at + 1) steps)) (filter (λ (n : ℕ × Step). test n.1) (enumerate_from (at + 1) steps)))) number
          → (place : ℕ) × (step : Step) × (number ≡ at + place) × (slice_get (first ∷ steps) place ≡ Some step) × (test step ≡ true)
      by rest true is (zero, low, same) = (0, first, sym same ∙ omega arith, refl, is)
      by rest true is (suc k, low, same) = more (rest (k, omega (arith, low), same))
      by rest false is found = more (rest found)

-- what a step gives is among what all give
module _ {Y : Type 0} (y : Y) where
  here_given : (given : Option Y) (rest : List Y) → given ≡ Some y → Contains (cons_option given rest) y
  here_given None rest is = absurd (cc)
  here_given (Some z) rest is = (0, omega arith, cc)

  later_given : (given : Option Y) (rest : List Y) → Contains rest y → Contains (cons_option given rest) y
  later_given None rest has = has
  later_given (Some z) rest has = (suc has.0, omega (arith, has.1), has.2)

  pub given_by : (gives : Step → Option Y) (steps : List Step) (place : ℕ) (step : Step) → slice_get steps place ≡ Some step → gives step ≡ Some y
      → Contains (filter_map gives steps) y
  given_by gives [] place step there is = absurd (cc)
  given_by gives (first ∷ steps) zero step there is =
      let same : first ≡ step = cc in
      here_given (gives first) (filter_map gives steps) (ap gives same ∙ is)
  given_by gives (first ∷ steps) (suc place) step there is = later_given (gives first) (filter_map gives steps) (given_by gives steps place step there is)

-- ---- entries and their steps

abbrev viewed : Text → HostKind → EntryView
viewed path kind = record { path = path; kind = kind }

module _ (folder : AddedFolder) where
  entry_at : (entries : List EntryView) (steps : List Step) → AreSteps folder entries steps → (place : ℕ) (step : Step) → slice_get steps place ≡ Some step
      → (entry : EntryView) × (slice_get entries place ≡ Some entry) × IsVerdict folder entry (Ok step)
  entry_at [] [] made place step there = absurd (cc)
  entry_at [] (first ∷ steps) made place step there = absurd made
  entry_at (entry ∷ entries) [] made place step there = absurd made
  entry_at (entry ∷ entries) (first ∷ steps) made zero step there =
      let same : first ≡ step = cc in
      (entry, refl, subst (λ (s : Step). IsVerdict folder entry (Ok s)) same made.0)
  entry_at (entry ∷ entries) (first ∷ steps) made (suc place) step there = entry_at entries steps made.1 place step there

  step_at : (entries : List EntryView) (steps : List Step) → AreSteps folder entries steps → (place : ℕ) (entry : EntryView) → slice_get entries place ≡ Some entry
      → (step : Step) × (slice_get steps place ≡ Some step) × IsVerdict folder entry (Ok step)
  step_at [] steps made place entry there = absurd (cc)
  step_at (first ∷ entries) [] made place entry there = absurd made
  step_at (first ∷ entries) (step ∷ steps) made zero entry there =
      let same : first ≡ entry = cc in
      (step, refl, subst (λ (e : EntryView). IsVerdict folder e (Ok step)) same made.0)
  step_at (first ∷ entries) (step ∷ steps) made (suc place) entry there = step_at entries steps made.1 place entry there

  -- ---- which entries are passed over, and which are not

  -- a file that is passed over is a readable form
  second_case : (path : Text) (verdict : Verdict) → IsFileVerdict folder path verdict → verdict ≡ Ok passes
      → (said : SaidPath) × SaysPlainFile folder.file_system path said × (is_second folder path said ≡ true)
  second_case path _ (no_path none) is = absurd (cc)
  second_case path _ (no_plain_file said says type) is = absurd (cc)
  second_case path _ (second_form said says second) is = (said, says, second)
  second_case path _ (no_type said says first typed) is = absurd (cc)
  second_case path _ (no_name said kind says first typed named) is = absurd (cc)
  second_case path _ (is_item said kind says first typed named) is = absurd (cc)

  made_case : (path : Text) (verdict : Verdict) → IsFolderVerdict folder path verdict → verdict ≡ Ok passes → ⊥
  made_case path _ (no_directory none) is = cc
  made_case path _ (no_directory_name said says named) is = cc
  made_case path _ (is_directory said says named) is = cc

  -- what is passed over is a file
  passed_case : (entry : EntryView) → IsVerdict folder entry (Ok passes)
      → (entry ≡ viewed entry.path File)
      × ((said : SaidPath) × SaysPlainFile folder.file_system entry.path said × (is_second folder entry.path said ≡ true))
  passed_case entry verdict = by entry.kind refl verdict
    where
      by : (kind : HostKind) → entry.kind ≡ kind → IsVerdictOf folder entry.path kind (Ok passes)
          → (entry ≡ viewed entry.path File)
          × ((said : SaidPath) × SaysPlainFile folder.file_system entry.path said × (is_second folder entry.path said ≡ true))
      by File is verdict = (ap (λ (kind : HostKind). viewed entry.path kind) is, second_case entry.path (Ok passes) verdict refl)
      by Folder is verdict = absurd (made_case entry.path (Ok passes) verdict refl)
      by Other is verdict = absurd (cc)

  -- a file whose bytes are those that it is to have is added, where it is not refused
  added_case : (path : Text) (said : SaidPath) → SaysPath folder.file_system path said → is_readable said.file.content ≡ false → (verdict : Verdict)
      → IsFileVerdict folder path verdict → (step : Step) → verdict ≡ Ok step → (kind : ℕ) × (step ≡ adds (item_said folder path said kind))
  added_case path said says plain _ (no_path none) step is = absurd (cc)
  added_case path said says plain _ (no_plain_file other also type) step is = absurd (cc)
  added_case path said says plain _ (second_form other also second) step is =
      let same = one_path folder.file_system path other said also.0 says in
      let readable : is_readable said.file.content ≡ true =
      ap (λ (s : SaidPath). is_readable s.file.content) (sym same) ∙ and_left (is_readable other.file.content) (has_file_beside folder.entries path) second in
      absurd (false≢true (sym plain ∙ readable))
  added_case path said says plain _ (no_type other also first typed) step is = absurd (cc)
  added_case path said says plain _ (no_name other kind also first typed named) step is = absurd (cc)
  added_case path said says plain _ (is_item other kind also first typed named) step is =
      let same = one_path folder.file_system path other said also.0 says in
      let one : step ≡ adds (item_said folder path other kind) = cc in
      (kind, one ∙ ap (λ (s : SaidPath). adds (item_said folder path s kind)) same)

  file_kind : (entry : EntryView) (step : Step) → is_file entry.kind ≡ true → IsVerdict folder entry (Ok step) → IsFileVerdict folder entry.path (Ok step)
  file_kind entry step is verdict = by entry.kind is verdict
    where
      by : (kind : HostKind) → is_file kind ≡ true → IsVerdictOf folder entry.path kind (Ok step) → IsFileVerdict folder entry.path (Ok step)
      by File is verdict = verdict
      by Folder is verdict = absurd (cc)
      by Other is verdict = absurd (cc)

  as_file : (entry : EntryView) → is_file entry.kind ≡ true → entry ≡ viewed entry.path File
  as_file entry is = by entry.kind is
    where
      by : (kind : HostKind) → is_file kind ≡ true → viewed entry.path kind ≡ viewed entry.path File
      by File is = refl
      by Folder is = absurd (cc)
      by Other is = absurd (cc)

added_item : (step : Step) (item : ItemView) → step ≡ adds item → item_added step ≡ Some item
added_item step item is = ap item_added is

-- a text or a program has a form in which it stands beside
form_of_type : (type : ℕ) → (type ≡ 0x04) ⊎ (type ≡ 0xfc) → (form : FileForm) × (form_beside Bytes type ≡ Some form)
form_of_type type (inl text) = (forms.Text, ap (form_beside Bytes) text)
form_of_type type (inr program) = (forms.Applesoft, ap (form_beside Bytes) program)

module _ (folder : AddedFolder) (steps : List Step) (made : AreSteps folder folder.entries steps) where
  -- the file beside which an entry stands is an item's, and has the entry beside it
  beside_item : (path : Text) (said : SaidPath) → SaysPath folder.file_system path said → is_second folder path said ≡ true → (number : ℕ)
      → slice_get folder.entries number ≡ Some (viewed path File)
      → IsSecondOf folder.entries (plan_of steps).items (viewed path File)
  beside_item path said says second number there =
      let readable = and_left (is_readable said.file.content) (has_file_beside folder.entries path) second in
      let stands = λ (entry : EntryView). is_file entry.kind && bytes_eq path (readable_path entry.path) in
      let found = first_of stands folder.entries (and_right (is_readable said.file.content) (has_file_beside folder.entries path) second) in
      let file = found.1 in
      let is_a_file = and_left (is_file file.kind) (bytes_eq path (readable_path file.path)) found.4 in
      let named : path ≡ readable_path file.path =
      (bytes_eq-Decides path (readable_path file.path)).0 (and_right (is_file file.kind) (bytes_eq path (readable_path file.path)) found.4) in
      let says_beside = subst (λ (p : Text). SaysPath folder.file_system p said) named says in
      let plain = path_beside folder.file_system file.path said readable says_beside in
      let step = step_at folder folder.entries steps made found.0 file found.3 in
      let added = added_case folder file.path (plain_path said) plain refl (Ok step.0) (file_kind folder file step.0 is_a_file step.2) step.0 refl in
      let form = form_of_type said.file.file_type (type_of_path folder.file_system file.path said readable says_beside) in
      let beside : stands_beside file.path (viewed path File) ≡ true =
      (bytes_eq-Decides (readable_path file.path) path).1 (sym named) in
      let first = first_of (stands_beside file.path) folder.entries
      (any_of (stands_beside file.path) folder.entries number (viewed path File) there beside) in
      let one_file = and_left (is_file first.1.kind) (bytes_eq (readable_path file.path) first.1.path) first.4 in
      let one_path : first.1.path ≡ path =
      sym ((bytes_eq-Decides (readable_path file.path) first.1.path).0 (and_right (is_file first.1.kind) (bytes_eq (readable_path file.path) first.1.path) first.4))
      ∙ sym named in
      let item = item_said folder file.path (plain_path said) added.0 in
      record {
        item = item;
        planned = given_by item item_added steps found.0 step.0 step.1 (added_item step.0 item added.1);
        second = record { file = first.0; form = form.0 };
        beside = ap₂ second_in form.1 first.2;
        there = first.3 ∙ ap (λ (e : EntryView). Some e) (as_file folder first.1 one_file ∙ ap (λ (p : Text). viewed p File) one_path);
      }

  pub passes_seconds : PassesSeconds folder (plan_of steps)
  passes_seconds number has =
      let found = numbered is_passing 0 steps number has in
      let entry = entry_at folder folder.entries steps made found.0 found.1 found.3 in
      let passed = passed_case folder entry.0 (subst (λ (s : Step). IsVerdict folder entry.0 (Ok s)) (passing found.1 found.4) entry.2) in
      let there = ap (slice_get folder.entries) (found.2 ∙ omega arith) ∙ entry.1 ∙ ap (λ (e : EntryView). Some e) passed.0 in
      (entry.0.path, there, beside_item entry.0.path passed.1.0 passed.1.1.0 passed.1.2 number there)
    where
      passing : (step : Step) → is_passing step ≡ true → step ≡ passes
      passing (adds item) is = absurd (cc)
      passing (makes path) is = absurd (cc)
      passing passes is = refl

pub all_beside : (folder : AddedFolder) (plan : PlanView) → IsPlan folder plan → PassesSeconds folder plan
all_beside folder plan is = subst (PassesSeconds folder) (sym is.is) (passes_seconds folder is.steps is.made)
