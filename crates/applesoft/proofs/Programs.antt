-- Programs begin with their lines, and each in one way.
use Rattle.std.proofs.Common.{◌≡◌, ℕ, ◌/◌, ◌%◌, List, [], ◌∷◌, ◌++◌, All, arith, refl, sym, ap, ◌∙◌, subst, append_assoc, append-nil}
use Rattle.std.specs.Prelude.{flat_map, decimal}
use Rattle.std.proofs.lemmas.List.Elements.{All-cons, All-head, All-tail}
use Rattle.apple_text.specs.Shown.{Text}
use Rattle.applesoft.specs.Program.{CanBeListed, IsCode, IsLine, IsListed, Line, byte_text, line_bytes, line_text, listing, program_bytes}
use Rattle.applesoft.specs.Reading.{IsFirst}

two_front : (m n : ℕ) → m % 256 ≡ n % 256 → m / 256 ≡ n / 256 → m ≡ n
two_front m n low high = omega (arith, low, high)

-- a body ends at the first $00
pub body_front : (a b s t : List ℕ) → All IsCode a → All IsCode b → a ++ 0 ∷ s ≡ b ++ 0 ∷ t → (a ≡ b) × (s ≡ t)
body_front [] [] s t codes codes' e = (refl, let whole : 0 ∷ s ≡ 0 ∷ t = e in cc)
body_front [] (y ∷ b) s t codes codes' e =
    let whole : 0 ∷ s ≡ y ∷ (b ++ 0 ∷ t) = e in
    let none : y ≡ 0 = cc in
    absurd ((All-head IsCode y b codes').some none)
body_front (x ∷ a) [] s t codes codes' e =
    let whole : x ∷ (a ++ 0 ∷ s) ≡ 0 ∷ t = e in
    let none : x ≡ 0 = cc in
    absurd ((All-head IsCode x a codes).some none)
body_front (x ∷ a) (y ∷ b) s t codes codes' e =
    let whole : x ∷ (a ++ 0 ∷ s) ≡ y ∷ (b ++ 0 ∷ t) = e in
    let first : x ≡ y = cc in
    let later : a ++ 0 ∷ s ≡ b ++ 0 ∷ t = cc in
    let p = body_front a b s t (All-tail IsCode x a codes) (All-tail IsCode y b codes') later in
    let same : a ≡ b = p.0 in
    (cc, p.1)

-- what two lines have alike
record AreAlike (l m : Line) : Type 0 where
  pub link : l.link ≡ m.link
  pub number : l.number ≡ m.number
  pub body : l.body ≡ m.body

spread : (l : Line) (s : List ℕ) → line_bytes l ++ s
    ≡ l.link % 256 ∷ l.link / 256 ∷ l.number % 256 ∷ l.number / 256 ∷ (l.body ++ 0 ∷ s)
spread l s = ap (λ t. l.link % 256 ∷ l.link / 256 ∷ l.number % 256 ∷ l.number / 256 ∷ t) (append_assoc l.body (0 ∷ []) s)

line_front : (l m : Line) (s t : List ℕ) → IsLine l → IsLine m → line_bytes l ++ s ≡ line_bytes m ++ t → AreAlike l m × (s ≡ t)
line_front l m s t one other e =
    let whole : l.link % 256 ∷ l.link / 256 ∷ l.number % 256 ∷ l.number / 256 ∷ (l.body ++ 0 ∷ s)
    ≡ m.link % 256 ∷ m.link / 256 ∷ m.number % 256 ∷ m.number / 256 ∷ (m.body ++ 0 ∷ t) = sym (spread l s) ∙ e ∙ spread m t in
    let a : l.link % 256 ≡ m.link % 256 = cc in
    let b : l.link / 256 ≡ m.link / 256 = cc in
    let c : l.number % 256 ≡ m.number % 256 = cc in
    let d : l.number / 256 ≡ m.number / 256 = cc in
    let later : l.body ++ 0 ∷ s ≡ m.body ++ 0 ∷ t = cc in
    let p = body_front l.body m.body s t one.body other.body later in
    (record { link = two_front l.link m.link a b; number = two_front l.number m.number c d; body = p.0 }, p.1)

same_text : (l m : Line) → AreAlike l m → line_text l ≡ line_text m
same_text l m alike = ap (λ n. decimal n ++ 32 ∷ flat_map byte_text l.body) alike.number ∙ ap (λ b. decimal m.number ++ 32 ∷ flat_map byte_text b) alike.body

-- no line is an end
no_end : (l : Line) (s behind : List ℕ) → IsLine l → line_bytes l ++ s ≡ 0 ∷ 0 ∷ behind → ⊥
no_end l s behind is e =
    let whole : l.link % 256 ∷ l.link / 256 ∷ l.number % 256 ∷ l.number / 256 ∷ (l.body ++ 0 ∷ s) ≡ 0 ∷ 0 ∷ behind = sym (spread l s) ∙ e in
    let a : l.link % 256 ≡ 0 = cc in
    let b : l.link / 256 ≡ 0 = cc in
    is.linked (omega (arith, a, b))

-- the first line of a program, and what stands behind it
program_cons : (l : Line) (ls : List Line) (behind : List ℕ) → program_bytes (l ∷ ls) ++ behind ≡ line_bytes l ++ (program_bytes ls ++ behind)
program_cons l ls behind =
    ap (λ t. t ++ behind) (append_assoc (line_bytes l) (flat_map line_bytes ls) (0 ∷ 0 ∷ []))
    ∙ append_assoc (line_bytes l) (program_bytes ls) behind

one_listing : (ls ms : List Line) (b c : List ℕ) → All IsLine ls → All IsLine ms → program_bytes ls ++ b ≡ program_bytes ms ++ c → listing ls ≡ listing ms
one_listing [] [] b c are are' e = refl
one_listing [] (m ∷ ms) b c are are' e =
    absurd (no_end m (program_bytes ms ++ c) b (All-head IsLine m ms are') (sym (program_cons m ms c) ∙ sym e))
one_listing (l ∷ ls) [] b c are are' e =
    absurd (no_end l (program_bytes ls ++ b) c (All-head IsLine l ls are) (sym (program_cons l ls b) ∙ e))
one_listing (l ∷ ls) (m ∷ ms) b c are are' e =
    let p = line_front l m (program_bytes ls ++ b) (program_bytes ms ++ c) (All-head IsLine l ls are) (All-head IsLine m ms are')
    (sym (program_cons l ls b) ∙ e ∙ program_cons m ms c) in
    let later = one_listing ls ms b c (All-tail IsLine l ls are) (All-tail IsLine m ms are') p.1 in
    ap (λ t. (t ++ 10 ∷ []) ++ listing ls) (same_text l m p.0) ∙ ap (λ t. (line_text m ++ 10 ∷ []) ++ t) later

pub one_text : (bytes : List ℕ) (a b : Text) → IsListed bytes a → IsListed bytes b → a ≡ b
one_text bytes a b one other =
    one.text_is ∙ one_listing one.lines other.lines one.behind other.behind one.are_lines other.are_lines (sym one.bytes_are ∙ other.bytes_are) ∙ sym other.text_is

-- ---- a line more, and a line less

pub listed_more : (bytes : List ℕ) (line : Line) (rest : List ℕ) (text : Text) → IsFirst bytes line rest → IsListed rest text
    → IsListed bytes ((line_text line ++ 10 ∷ []) ++ text)
listed_more bytes line rest text first listed = record {
  lines = line ∷ listed.lines;
  behind = listed.behind;
  are_lines = All-cons IsLine line listed.lines first.is_line listed.are_lines;
  bytes_are = first.split ∙ ap (λ r. line_bytes line ++ r) listed.bytes_are ∙ sym (program_cons line listed.lines listed.behind);
  text_is = ap (λ t. (line_text line ++ 10 ∷ []) ++ t) listed.text_is;
}

-- a program begins with its end or with a line
begun_lines : (bytes : List ℕ) (ls : List Line) (behind : List ℕ) → All IsLine ls → bytes ≡ program_bytes ls ++ behind
    → ((behind : List ℕ) → bytes ≡ 0 ∷ 0 ∷ behind → ⊥) → (line : Line) × (rest : List ℕ) × IsFirst bytes line rest × CanBeListed rest
begun_lines bytes [] behind are e some = absurd (some behind e)
begun_lines bytes (l ∷ ls) behind are e some = (
  l,
  program_bytes ls ++ behind,
  record { is_line = All-head IsLine l ls are; split = e ∙ program_cons l ls behind },
  (listing ls, record { lines = ls; behind = behind; are_lines = All-tail IsLine l ls are; bytes_are = refl; text_is = refl }),
)

begun : (bytes : List ℕ) (text : Text) → IsListed bytes text
    → ((behind : List ℕ) → bytes ≡ 0 ∷ 0 ∷ behind → ⊥) → (line : Line) × (rest : List ℕ) × IsFirst bytes line rest × CanBeListed rest
begun bytes text listed some = begun_lines bytes listed.lines listed.behind listed.are_lines listed.bytes_are some

pub listed_less : (bytes : List ℕ) (line : Line) (rest : List ℕ) → IsFirst bytes line rest → CanBeListed bytes → CanBeListed rest
listed_less bytes line rest first can =
    let other = begun bytes can.0 can.1 (λ behind e. no_end line rest behind first.is_line (sym first.split ∙ e)) in
    let same = line_front line other.0 rest other.1 first.is_line other.2.is_line (sym first.split ∙ other.2.split) in
    subst CanBeListed (sym same.1) other.3

-- ---- how far a program is listed

pub record SoFar (program : List ℕ) (text : Text) (rest : List ℕ) : Type 0 where
  pub taken : (more : Text) → IsListed rest more → IsListed program (text ++ more)
  pub back : CanBeListed program → CanBeListed rest

pub at_start : (program : List ℕ) → SoFar program [] program
at_start program = record { taken = λ more listed. listed; back = λ can. can }

pub step : (program : List ℕ) (text : Text) (rest : List ℕ) (line : Line) (more : List ℕ) → SoFar program text rest → IsFirst rest line more
    → SoFar program (text ++ (line_text line ++ 10 ∷ [])) more
step program text rest line more so_far first = record {
  taken = λ later listed. subst (IsListed program) (sym (append_assoc text (line_text line ++ 10 ∷ []) later))
      (so_far.taken ((line_text line ++ 10 ∷ []) ++ later) (listed_more rest line more later first listed));
  back = λ can. listed_less rest line more first (so_far.back can);
}

pub at_end : (program : List ℕ) (text : Text) (rest behind : List ℕ) → SoFar program text rest → rest ≡ 0 ∷ 0 ∷ behind → IsListed program text
at_end program text rest behind so_far e = subst (IsListed program) (append-nil text) (so_far.taken [] (record {
  lines = [];
  behind = behind;
  are_lines = λ k d within. omega arith;
  bytes_are = e;
  text_is = refl;
}))

pub not_listed : (program : List ℕ) (text : Text) (rest : List ℕ) → SoFar program text rest → ((behind : List ℕ) → rest ≡ 0 ∷ 0 ∷ behind → ⊥)
    → ((line : Line) (more : List ℕ) → ¬ IsFirst rest line more) → ¬ CanBeListed program
not_listed program text rest so_far no_zeros no_line can =
    let could = so_far.back can in
    let other = begun rest could.0 could.1 no_zeros in
    no_line other.0 other.1 other.2
