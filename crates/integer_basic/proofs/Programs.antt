-- Programs begin with their lines, and each in one way.
use Rattle.std.proofs.Common.{◌≡◌, ℕ, ◌+◌, ◌/◌, ◌%◌, ◌<◌, ◌==◌, Bool, true, false, IsTrue, List, [], ◌∷◌, ◌++◌, All, length, take, drop, arith, refl, sym, ap, ◌∙◌, subst, append_assoc, append-nil, length-append, take_at, drop_at}
use Rattle.std.proofs.lemmas.Grind.{common_steps}
use Rattle.std.proofs.lemmas.List.Elements.{All-cons, All-head, All-tail}
use Rattle.apple_text.specs.Shown.{Text}
use Rattle.integer_basic.specs.Items.{CanBeShown, IsShown}
use Rattle.integer_basic.specs.Program.{CanBeListed, IsLine, IsListed, Line, is_end, line_bytes, line_text, lines_bytes, listing}
use Rattle.integer_basic.specs.Reading.{HasNoLine, IsFirst, IsLinePut}
use Rattle.integer_basic.proofs.Showing as showing

-- ---- the first line of a program

-- lists of one length are told from what begins with them
front : (a b s t : List ℕ) → length a ≡ length b → a ++ s ≡ b ++ t → (a ≡ b) × (s ≡ t)
front a b s t same e = (
  sym (take_at a s (length a) refl) ∙ ap (take (length a)) e ∙ take_at b t (length a) (sym same),
  sym (drop_at a s (length a) refl) ∙ ap (drop (length a)) e ∙ drop_at b t (length a) (sym same),
)

spread : (n : ℕ) (a s : List ℕ) → line_bytes n a ++ s ≡ (4 + length a) ∷ n % 256 ∷ n / 256 ∷ (a ++ 1 ∷ s)
spread n a s = ap (λ t. (4 + length a) ∷ n % 256 ∷ n / 256 ∷ t) (append_assoc a (1 ∷ []) s)

record AreAlike (m : ℕ) (a s : List ℕ) (n : ℕ) (b t : List ℕ) : Type 0 where
  pub number : m ≡ n
  pub body : a ≡ b
  pub rest : s ≡ t

two_front : (m n : ℕ) → m % 256 ≡ n % 256 → m / 256 ≡ n / 256 → m ≡ n
two_front m n low high = omega (arith, low, high)

line_front : (m : ℕ) (a s : List ℕ) (n : ℕ) (b t : List ℕ) → line_bytes m a ++ s ≡ line_bytes n b ++ t → AreAlike m a s n b t
line_front m a s n b t e =
    let whole : (4 + length a) ∷ m % 256 ∷ m / 256 ∷ (a ++ 1 ∷ s) ≡ (4 + length b) ∷ n % 256 ∷ n / 256 ∷ (b ++ 1 ∷ t)
    = sym (spread m a s) ∙ e ∙ spread n b t in
    let sizes : 4 + length a ≡ 4 + length b = cc in
    let low : m % 256 ≡ n % 256 = cc in
    let high : m / 256 ≡ n / 256 = cc in
    let later : a ++ 1 ∷ s ≡ b ++ 1 ∷ t = cc in
    let p = front a b (1 ∷ s) (1 ∷ t) (omega (arith, sizes)) later in
    let ends : 1 ∷ s ≡ 1 ∷ t = p.1 in
    record { number = two_front m n low high; body = p.0; rest = cc }

-- no line is an end
no_zero : (size : ℕ) → (4 + size == 0) ≡ false
no_zero size = grind (arith, common_steps)

line_goes_on : (n : ℕ) (a s bytes : List ℕ) → bytes ≡ line_bytes n a ++ s → is_end bytes ≡ false
line_goes_on n a s bytes e = ap is_end (e ∙ spread n a s) ∙ no_zero (length a)

clash : (test : Bool) → test ≡ true → test ≡ false → ⊥
clash test is not = let no' : true ≡ false = sym is ∙ not in cc

lines_cons : (l : Line) (ls : List Line) (behind : List ℕ) → lines_bytes (l ∷ ls) ++ behind ≡ line_bytes l.number l.body ++ (lines_bytes ls ++ behind)
lines_cons l ls behind = append_assoc (line_bytes l.number l.body) (lines_bytes ls) behind

-- ---- a program has one listing

same_text : (l m : Line) (s t : List ℕ) → IsLine l → IsLine m → AreAlike l.number l.body s m.number m.body t
    → line_text l.number l.text ≡ line_text m.number m.text
same_text l m s t one other alike =
    let shown : l.text ≡ m.text = showing.one_way m.body l.text m.text (subst (λ b. IsShown b l.text) alike.body one.shown) other.shown in
    ap (λ n. line_text n l.text) alike.number ∙ ap (line_text m.number) shown

one_listing : (ls ms : List Line) (b c : List ℕ) → All IsLine ls → All IsLine ms → IsTrue (is_end b) → IsTrue (is_end c)
    → lines_bytes ls ++ b ≡ lines_bytes ms ++ c → listing ls ≡ listing ms
one_listing [] [] b c are are' ends ends' e = refl
one_listing [] (m ∷ ms) b c are are' ends ends' e =
    absurd (clash (is_end b) ends (line_goes_on m.number m.body (lines_bytes ms ++ c) b (e ∙ lines_cons m ms c)))
one_listing (l ∷ ls) [] b c are are' ends ends' e =
    absurd (clash (is_end c) ends' (line_goes_on l.number l.body (lines_bytes ls ++ b) c (sym e ∙ lines_cons l ls b)))
one_listing (l ∷ ls) (m ∷ ms) b c are are' ends ends' e =
    let alike = line_front l.number l.body (lines_bytes ls ++ b) m.number m.body (lines_bytes ms ++ c) (sym (lines_cons l ls b) ∙ e ∙ lines_cons m ms c) in
    let first = same_text l m (lines_bytes ls ++ b) (lines_bytes ms ++ c) (All-head IsLine l ls are) (All-head IsLine m ms are') alike in
    let later = one_listing ls ms b c (All-tail IsLine l ls are) (All-tail IsLine m ms are') ends ends' alike.rest in
    ap (λ t. (t ++ 10 ∷ []) ++ listing ls) first ∙ ap (λ t. (line_text m.number m.text ++ 10 ∷ []) ++ t) later

pub one_text : (bytes : List ℕ) (a b : Text) → IsListed bytes a → IsListed bytes b → a ≡ b
one_text bytes a b one other =
    one.text_is
    ∙ one_listing one.lines other.lines one.behind other.behind one.are_lines other.are_lines one.ends other.ends (sym one.bytes_are ∙ other.bytes_are)
    ∙ sym other.text_is

-- ---- a line more, and a line less

pub listed_more : (bytes : List ℕ) (number : ℕ) (body rest : List ℕ) (text later : Text) → IsFirst bytes number body rest → IsShown body text
    → IsListed rest later → IsListed bytes ((line_text number text ++ 10 ∷ []) ++ later)
listed_more bytes number body rest text later first shown listed =
    let line : Line = record { number = number; body = body; text = text } in
    record {
      lines = line ∷ listed.lines;
      behind = listed.behind;
      are_lines = All-cons IsLine line listed.lines (record { number = first.small; short = first.short; shown = shown }) listed.are_lines;
      bytes_are = first.split ∙ ap (λ r. line_bytes number body ++ r) listed.bytes_are ∙ sym (lines_cons line listed.lines listed.behind);
      ends = listed.ends;
      text_is = ap (λ t. (line_text number text ++ 10 ∷ []) ++ t) listed.text_is;
    }

-- a program that does not end there begins with a line
record Begun (bytes : List ℕ) : Type 0 where
  pub number : ℕ
  pub body : List ℕ
  pub rest : List ℕ
  pub first : IsFirst bytes number body rest
  pub shown : CanBeShown body
  pub later : CanBeListed rest

begun_lines : (bytes : List ℕ) (ls : List Line) (behind : List ℕ) → All IsLine ls → bytes ≡ lines_bytes ls ++ behind → IsTrue (is_end behind)
    → is_end bytes ≡ false → Begun bytes
begun_lines bytes [] behind are e ends goes_on = absurd (clash (is_end bytes) (ap is_end e ∙ ends) goes_on)
begun_lines bytes (l ∷ ls) behind are e ends goes_on =
    let line = All-head IsLine l ls are in
    record {
      number = l.number;
      body = l.body;
      rest = lines_bytes ls ++ behind;
      first = record { small = line.number; short = line.short; split = e ∙ lines_cons l ls behind };
      shown = (l.text, line.shown);
      later = (
        listing ls,
        record {
          lines = ls;
          behind = behind;
          are_lines = All-tail IsLine l ls are;
          bytes_are = refl;
          ends = ends;
          text_is = refl;
        },
      );
    }

begun : (bytes : List ℕ) → CanBeListed bytes → is_end bytes ≡ false → Begun bytes
begun bytes can goes_on =
    let listed = can.1 in begun_lines bytes listed.lines listed.behind listed.are_lines listed.bytes_are listed.ends goes_on

-- the first line of a program that can be listed
record Known (body rest : List ℕ) : Type 0 where
  pub shown : CanBeShown body
  pub later : CanBeListed rest

known : (bytes : List ℕ) (number : ℕ) (body rest : List ℕ) → IsFirst bytes number body rest → CanBeListed bytes → Known body rest
known bytes number body rest first can =
    let other = begun bytes can (line_goes_on number body rest bytes first.split) in
    let alike = line_front number body rest other.number other.body other.rest (sym first.split ∙ other.first.split) in
    record { shown = subst CanBeShown (sym alike.body) other.shown; later = subst CanBeListed (sym alike.rest) other.later }

-- ---- how far a program is listed

pub record SoFar (program : List ℕ) (text : Text) (rest : List ℕ) : Type 0 where
  pub taken : (more : Text) → IsListed rest more → IsListed program (text ++ more)
  pub back : CanBeListed program → CanBeListed rest

pub at_start : (program : List ℕ) → SoFar program [] program
at_start program = record { taken = λ more listed. listed; back = λ can. can }

pub step : (program : List ℕ) (text : Text) (rest : List ℕ) (number : ℕ) (body more : List ℕ) (after : Text) → SoFar program text rest
    → IsFirst rest number body more → IsLinePut text number body after → SoFar program after more
step program text rest number body more after so_far first put =
    let line = line_text number put.text ++ 10 ∷ [] in
    record {
      taken = λ later listed. subst (IsListed program) (sym (append_assoc text line later) ∙ ap (λ t. t ++ later) (sym put.after_is))
          (so_far.taken (line ++ later) (listed_more rest number body more put.text later first put.shown listed));
      back = λ can. (known rest number body more first (so_far.back can)).later;
    }

pub at_end : (program : List ℕ) (text : Text) (rest : List ℕ) → SoFar program text rest → IsTrue (is_end rest) → IsListed program text
at_end program text rest so_far ends = subst (IsListed program) (append-nil text) (so_far.taken [] (record {
  lines = [];
  behind = rest;
  are_lines = λ k d within. absurd (omega (arith, within));
  bytes_are = refl;
  ends = ends;
  text_is = refl;
}))

pub no_line : (program : List ℕ) (text : Text) (rest : List ℕ) → SoFar program text rest → is_end rest ≡ false → HasNoLine rest → ¬ CanBeListed program
no_line program text rest so_far goes_on none can =
    let other = begun rest (so_far.back can) goes_on in
    none other.number other.body other.rest other.first

pub no_text : (program : List ℕ) (text : Text) (rest : List ℕ) (number : ℕ) (body more : List ℕ) → SoFar program text rest
    → IsFirst rest number body more → ¬ CanBeShown body → ¬ CanBeListed program
no_text program text rest number body more so_far first none can =
    none (known rest number body more first (so_far.back can)).shown

pub first_less : (bytes : List ℕ) (number : ℕ) (body rest : List ℕ) → IsFirst bytes number body rest → length rest < length bytes
first_less bytes number body rest first =
    let size : length bytes ≡ length (line_bytes number body) + length rest = ap length first.split ∙ length-append (line_bytes number body) rest in
    omega (arith, size)
