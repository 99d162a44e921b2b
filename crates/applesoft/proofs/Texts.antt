-- The lines of a text, one after another.
use Rattle.std.proofs.Common.{◌≡◌, ℕ, suc, ◌+◌, ◌<◌, ◌≤◌, ◌==◌, Bool, true, false, not, cond, List, [], ◌∷◌, ◌++◌, length, take, arith, refl, sym, ap, ◌∙◌, subst, append_assoc}
use Rattle.std.specs.Prelude.{filter, flat_map}
use Rattle.std.specs.List.{AllZip}
use Rattle.std.specs.Str.Lines.{lines}
use Rattle.apple_text.specs.Shown.{Text}
use Rattle.applesoft.specs.Program.{Line, line_bytes, program_bytes, two_bytes}
use Rattle.applesoft.specs.Tokens.{AreBadAt, ArePlaced, AreTokenized, CanBeTokenized, IsLineOf, IsPlaced, IsRead, IsTokenized, is_passed_over, without_spaces}
use Rattle.applesoft.proofs.Bodies.{one_read}

-- ---- the lines that count

passed : (line : Text) (more : List Text) → is_passed_over line ≡ true
    → filter (λ text. not (is_passed_over text)) (line ∷ more) ≡ filter (λ text. not (is_passed_over text)) more
passed line more is = ap (λ b. cond (not b) (line ∷ filter (λ text. not (is_passed_over text)) more) (filter (λ text. not (is_passed_over text)) more)) is

kept : (line : Text) (more : List Text) → is_passed_over line ≡ false
    → filter (λ text. not (is_passed_over text)) (line ∷ more) ≡ line ∷ filter (λ text. not (is_passed_over text)) more
kept line more is = ap (λ b. cond (not b) (line ∷ filter (λ text. not (is_passed_over text)) more) (filter (λ text. not (is_passed_over text)) more)) is

pub nothing : (least address : ℕ) → AreTokenized least address [] (0 ∷ 0 ∷ [])
nothing least address = record { lines = []; read = tt; placed = tt; bytes = refl }

-- ---- a line that is passed over

over : (least address : ℕ) (line : Text) (more : List Text) (program : List ℕ) → is_passed_over line ≡ true
    → AreTokenized least address more program → AreTokenized least address (line ∷ more) program
over least address line more program is tokenized = record {
  lines = tokenized.lines;
  read = subst (λ texts. AllZip IsLineOf texts tokenized.lines) (sym (passed line more is)) tokenized.read;
  placed = tokenized.placed;
  bytes = tokenized.bytes;
}

over_back : (least address : ℕ) (line : Text) (more : List Text) (program : List ℕ) → is_passed_over line ≡ true
    → AreTokenized least address (line ∷ more) program → AreTokenized least address more program
over_back least address line more program is tokenized = record {
  lines = tokenized.lines;
  read = subst (λ texts. AllZip IsLineOf texts tokenized.lines) (passed line more is) tokenized.read;
  placed = tokenized.placed;
  bytes = tokenized.bytes;
}

-- ---- a line that counts

code : (least address : ℕ) (text : Text) (more : List Text) (line : Line) (program : List ℕ) → is_passed_over text ≡ false → IsLineOf text line
    → IsPlaced least address line → AreTokenized (suc line.number) line.link more program
    → AreTokenized least address (text ∷ more) (line_bytes line ++ program)
code least address text more line program is read placed tokenized = record {
  lines = line ∷ tokenized.lines;
  read = subst (λ texts. AllZip IsLineOf texts (line ∷ tokenized.lines)) (sym (kept text more is)) (read, tokenized.read);
  placed = (placed, tokenized.placed);
  bytes = ap (λ p. line_bytes line ++ p) tokenized.bytes ∙ sym (append_assoc (line_bytes line) (flat_map line_bytes tokenized.lines) (0 ∷ 0 ∷ []));
}

-- the first of the lines, where it counts
record First (least address : ℕ) (text : Text) (more : List Text) (program : List ℕ) : Type 0 where
  pub line : Line
  pub read : IsLineOf text line
  pub placed : IsPlaced least address line
  pub later : List ℕ
  pub tokenized : AreTokenized (suc line.number) line.link more later
  pub bytes : program ≡ line_bytes line ++ later

first_of_lines : (least address : ℕ) (text : Text) (more : List Text) (program : List ℕ) (ls : List Line)
    → AllZip IsLineOf (text ∷ filter (λ t. not (is_passed_over t)) more) ls → ArePlaced least address ls → program ≡ program_bytes ls
    → First least address text more program
first_of_lines least address text more program [] read placed bytes = absurd read
first_of_lines least address text more program (l ∷ ls) read placed bytes = record {
  line = l;
  read = read.0;
  placed = placed.0;
  later = program_bytes ls;
  tokenized = record { lines = ls; read = read.1; placed = placed.1; bytes = refl };
  bytes = bytes ∙ append_assoc (line_bytes l) (flat_map line_bytes ls) (0 ∷ 0 ∷ []);
}

first_code : (least address : ℕ) (text : Text) (more : List Text) (program : List ℕ) → is_passed_over text ≡ false
    → AreTokenized least address (text ∷ more) program → First least address text more program
first_code least address text more program is tokenized =
    first_of_lines least address text more program tokenized.lines
    (subst (λ texts. AllZip IsLineOf texts tokenized.lines) (kept text more is) tokenized.read) tokenized.placed tokenized.bytes

-- lines that lie at one place and are read from one text are one
same_line : (least address : ℕ) (text : Text) (l m : Line) → IsLineOf text l → IsPlaced least address l → IsLineOf text m → IsPlaced least address m
    → (l.number ≡ m.number) × (l.link ≡ m.link) × (l.body ≡ m.body)
same_line least address text l m read placed read' placed' =
    let same = one_read text l.number m.number l.body m.body read read' in
    (same.0, placed.link ∙ ap (λ b. address + length (two_bytes l.link ++ two_bytes l.number ++ b ++ 0 ∷ [])) same.1 ∙ sym placed'.link, same.1)

-- a line that is read from a text lies there as another one does that is
pub placed_as : (least address : ℕ) (text : Text) (number : ℕ) (body : List ℕ) (line : Line) → IsRead text number body → IsLineOf text line
    → IsPlaced least address line → IsPlaced least address (record { link = line.link; number = number; body = body })
placed_as least address text number body line read read' placed =
    let same = one_read text line.number number line.body body read' read in record {
      rising = omega (arith, placed.rising, same.0);
      link = placed.link ∙ ap (λ b. address + length (two_bytes line.link ++ two_bytes line.number ++ b ++ 0 ∷ [])) same.1;
      within = placed.within;
    }

code_back : (least address : ℕ) (text : Text) (more : List Text) (line : Line) → is_passed_over text ≡ false → IsLineOf text line
    → IsPlaced least address line → CanBeTokenized least address (text ∷ more) → CanBeTokenized (suc line.number) line.link more
code_back least address text more line is read placed can =
    let first = first_code least address text more can.0 is can.1 in
    let same = same_line least address text first.line line first.read first.placed read placed in (
      first.later,
      subst (λ n. AreTokenized (suc n) line.link more first.later) same.0
          (subst (λ a. AreTokenized (suc first.line.number) a more first.later) same.1 first.tokenized),
    )

no_line : (least address : ℕ) (text : Text) (more : List Text) → is_passed_over text ≡ false
    → ((line : Line) → IsLineOf text line → ¬ IsPlaced least address line) → ¬ CanBeTokenized least address (text ∷ more)
no_line least address text more is none can =
    let first = first_code least address text more can.0 is can.1 in none first.line first.read first.placed

-- ---- how far a text is tokenized

-- what a test for a line of spaces answers
pub over_of : (line spaced : Text) (test answer : Bool) → spaced ≡ without_spaces line → test ≡ (length spaced == 0) → test ≡ answer → is_passed_over line ≡ answer
over_of line spaced test answer is tells says = ap (λ t. length t == 0) (sym is) ∙ sym tells ∙ says

pub record SoFar (text : Text) (program : List ℕ) (rest : Text) (least address number : ℕ) : Type 0 where
  pub taken : (more : List ℕ) → AreTokenized least address (lines rest) more → IsTokenized text (program ++ more)
  pub back : (all : List ℕ) → IsTokenized text all → CanBeTokenized least address (lines rest)
  pub bad : (before : ℕ) → AreBadAt least address (lines rest) before → AreBadAt 0 0x0801 (lines text) (number + before)
  pub counted : number + length rest ≤ length text
  pub placed : address ≤ 0xfffd

pub at_start : (text : Text) → SoFar text [] text 0 0x0801 0
at_start text = record {
  taken = λ more tokenized. tokenized;
  back = λ all tokenized. (all, tokenized);
  bad = λ before are. let same : before ≡ 0 + before = omega arith in subst (AreBadAt 0 0x0801 (lines text)) same are;
  counted = omega arith;
  placed = omega arith;
}

module _ (text : Text) (program : List ℕ) (rest : Text) (least address number : ℕ) (so_far : SoFar text program rest least address number)
    (line : Text) (more : Text) (split : lines rest ≡ line ∷ lines more) (less : length more < length rest) where
  moved : (before : ℕ) → number + suc before ≡ (number + 1) + before
  moved before = omega arith

  pub step_over : is_passed_over line ≡ true → SoFar text program more least address (number + 1)
  step_over is = record {
    taken = λ later tokenized. so_far.taken later (subst (λ texts. AreTokenized least address texts later) (sym split) (over least address line (lines more) later is tokenized));
    back = λ all tokenized. let could = so_far.back all tokenized in
        (could.0, over_back least address line (lines more) could.0 is (subst (λ texts. AreTokenized least address texts could.0) split could.1));
    bad = λ before are. subst (AreBadAt 0 0x0801 (lines text)) (moved before) (so_far.bad (suc before)
        (subst (λ texts. AreBadAt least address texts (suc before)) (sym split) (record {
          good = (are.good.0, over least address line (take before (lines more)) are.good.0 is are.good.1);
          bad = λ can. are.bad (can.0, over_back least address line (take (suc before) (lines more)) can.0 is can.1);
        })));
    counted = omega (arith, so_far.counted, less);
    placed = so_far.placed;
  }

  pub step_code : (l : Line) → is_passed_over line ≡ false → IsLineOf line l → IsPlaced least address l
      → SoFar text (program ++ line_bytes l) more (l.number + 1) l.link (number + 1)
  step_code l is read placed =
      let same : suc l.number ≡ l.number + 1 = omega arith in
      subst (λ n. SoFar text (program ++ line_bytes l) more n l.link (number + 1)) same (record {
        taken = λ later tokenized. subst (IsTokenized text) (sym (append_assoc program (line_bytes l) later))
            (so_far.taken (line_bytes l ++ later) (subst (λ texts. AreTokenized least address texts (line_bytes l ++ later)) (sym split)
            (code least address line (lines more) l later is read placed tokenized)));
        back = λ all tokenized. let could = so_far.back all tokenized in
            code_back least address line (lines more) l is read placed (subst (CanBeTokenized least address) split could);
        bad = λ before are. subst (AreBadAt 0 0x0801 (lines text)) (moved before) (so_far.bad (suc before)
            (subst (λ texts. AreBadAt least address texts (suc before)) (sym split) (record {
              good = (line_bytes l ++ are.good.0, code least address line (take before (lines more)) l are.good.0 is read placed are.good.1);
              bad = λ can. are.bad (code_back least address line (take (suc before) (lines more)) l is read placed can);
            })));
        counted = omega (arith, so_far.counted, less);
        placed = placed.within;
      })

  pub not_tokenized : is_passed_over line ≡ false → ((l : Line) → IsLineOf line l → ¬ IsPlaced least address l) → (all : List ℕ) → ¬ IsTokenized text all
  not_tokenized is none all tokenized =
      no_line least address line (lines more) is none (subst (CanBeTokenized least address) split (so_far.back all tokenized))

  pub bad_line : is_passed_over line ≡ false → ((l : Line) → IsLineOf line l → ¬ IsPlaced least address l) → AreBadAt 0 0x0801 (lines text) number
  bad_line is none =
      let same : number + 0 ≡ number = omega arith in
      subst (AreBadAt 0 0x0801 (lines text)) same (so_far.bad 0 (subst (λ texts. AreBadAt least address texts 0) (sym split) (record {
        good = (0 ∷ 0 ∷ [], nothing least address);
        bad = no_line least address line [] is none;
      })))

pub at_end : (text : Text) (program : List ℕ) (rest : Text) (least address number : ℕ) → SoFar text program rest least address number → lines rest ≡ []
    → IsTokenized text (program ++ 0 ∷ 0 ∷ [])
at_end text program rest least address number so_far none =
    so_far.taken (0 ∷ 0 ∷ []) (subst (λ texts. AreTokenized least address texts (0 ∷ 0 ∷ [])) (sym none) (nothing least address))

-- ---- a text is one program

same_bytes : (l m : Line) → (l.number ≡ m.number) × (l.link ≡ m.link) × (l.body ≡ m.body) → line_bytes l ≡ line_bytes m
same_bytes l m same =
    ap (λ n. two_bytes l.link ++ two_bytes n ++ l.body ++ 0 ∷ []) same.0
    ∙ ap (λ k. two_bytes k ++ two_bytes m.number ++ l.body ++ 0 ∷ []) same.1
    ∙ ap (λ b. two_bytes m.link ++ two_bytes m.number ++ b ++ 0 ∷ []) same.2

one_way : (least address : ℕ) (texts : List Text) (ls ms : List Line) → AllZip IsLineOf texts ls → AllZip IsLineOf texts ms
    → ArePlaced least address ls → ArePlaced least address ms → program_bytes ls ≡ program_bytes ms
one_way least address [] [] [] read read' placed placed' = refl
one_way least address [] [] (m ∷ ms) read read' placed placed' = absurd read'
one_way least address [] (l ∷ ls) ms read read' placed placed' = absurd read
one_way least address (text ∷ texts) [] ms read read' placed placed' = absurd read
one_way least address (text ∷ texts) (l ∷ ls) [] read read' placed placed' = absurd read'
one_way least address (text ∷ texts) (l ∷ ls) (m ∷ ms) read read' placed placed' =
    let same = same_line least address text l m read.0 placed.0 read'.0 placed'.0 in
    let there : ArePlaced (suc l.number) l.link ms =
    subst (λ n. ArePlaced (suc n) l.link ms) (sym same.0) (subst (λ a. ArePlaced (suc m.number) a ms) (sym same.1) placed'.1) in
    append_assoc (line_bytes l) (flat_map line_bytes ls) (0 ∷ 0 ∷ [])
    ∙ ap (λ b. b ++ program_bytes ls) (same_bytes l m same)
    ∙ ap (λ p. line_bytes m ++ p) (one_way (suc l.number) l.link texts ls ms read.1 read'.1 placed.1 there)
    ∙ sym (append_assoc (line_bytes m) (flat_map line_bytes ms) (0 ∷ 0 ∷ []))

pub one_program : (text : Text) (p q : List ℕ) → IsTokenized text p → IsTokenized text q → p ≡ q
one_program text p q one other =
    one.bytes
    ∙ one_way 0 0x0801 (filter (λ t. not (is_passed_over t)) (lines text)) one.lines other.lines one.read other.read one.placed other.placed
    ∙ sym other.bytes
