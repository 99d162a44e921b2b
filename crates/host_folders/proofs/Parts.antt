-- The parts of a name: what stands before the number, and round the last `#`.
use Rattle.std.proofs.Common.{◌≡◌, ◌≢◌, ℕ, ◌<◌, Option, Some, None, IfNone, IfSome, List, [], ◌∷◌, ◌++◌, All, arith, lit<, sym, ap, ◌∙◌, subst, length, take, drop, codes, get_or}
use Rattle.std.specs.Prelude.{◌==◌, IsTrue, MatchOption}
use Rattle.std.specs.List.{list_all}
use Rattle.std.specs.Char.{is_ascii_digit}
use Rattle.std.specs.Str.{NoCharPasses}
use Rattle.std.specs.Str.Pattern.{RFindsChar, SplitsAroundMatch}
use Rattle.std.proofs.Math.Seq.{get_or-append_seam}
use Rattle.std.proofs.lemmas.Grind.{get_or_default_zero}
use Rattle.std.proofs.lemmas.List.{append-nil, length-append, take-append-drop}
use Rattle.std.proofs.lemmas.Str.Pattern.{IsSplitOnceResult, NoCharPasses-char, drop_at_char, split_after, split_parts}
use denote.Ref.{Bor}
use Rattle.host_folders.specs.HostEntries.{IsNumbering, first, further}
use Rattle.host_folders.specs.Reading.{IsAroundHash, IsBeforeNumber}

-- ---- the number

lacks_all : (c : ℕ) (text : List ℕ) → ((i : ℕ) → i < length text → get_or text i 0 ≢ c) → All (λ d. d ≢ c) text
lacks_all c text lacks k d l e = lacks k l (sym (get_or_default_zero text k d l) ∙ e)

lacks_each : (c : ℕ) (text : List ℕ) → All (λ d. d ≢ c) text → (i : ℕ) → i < length text → get_or text i 0 ≢ c
lacks_each c text lacks i l = lacks i 0 l

pub whole_before : (text : List ℕ) → IsSplitOnceResult 126 text None → IsBeforeNumber text text
whole_before text none = record {
  number = [];
  split = sym (append-nil text);
  numbering = first;
  lacks = lacks_all 126 text (split_parts 126 text None none (lit< tt));
}

pub front_before : (text : List ℕ) (front digits : Bor (List ℕ)) → IsSplitOnceResult 126 text (Some (front, digits))
    → (digits.now ≢ []) × IsTrue (list_all is_ascii_digit digits.now) → IsBeforeNumber text front.now
front_before text front digits is number =
    let parts = split_parts 126 text (Some (front, digits)) is (lit< tt) in
    record {
      number = 126 ∷ digits.now;
      split = parts.0;
      numbering = further digits.now number.0 number.1;
      lacks = lacks_all 126 front.now parts.1;
    }

-- a number, or nothing
no_numbering : (text : List ℕ) (front digits : Bor (List ℕ)) → IsSplitOnceResult 126 text (Some (front, digits))
    → ¬ ((digits.now ≢ []) × IsTrue (list_all is_ascii_digit digits.now))
    → (before number : List ℕ) → text ≡ before ++ number → IsNumbering number → All (λ c. c ≢ 126) before → ⊥
no_numbering text front digits is never before _ split first lacks =
    let parts = split_parts 126 text (Some (front, digits)) is (lit< tt) in
    let same : before ≡ front.now ++ 126 ∷ digits.now = sym (append-nil before) ∙ sym split ∙ parts.0 in
    let seam = get_or-append_seam front.now 126 digits.now 0 in
    let all = subst (λ (t : List ℕ). All (λ c. c ≢ 126) t) same lacks in
    all (length front.now) 0 (omega (arith, length-append front.now (126 ∷ digits.now))) seam
no_numbering text front digits is never before _ split (further told some all) lacks =
    let parts =
    split_after 126 text before told (Some (front, digits)) is (lit< tt) split (lacks_each 126 before lacks) in
    never (subst (λ (t : List ℕ). (t ≢ []) × IsTrue (list_all is_ascii_digit t)) (sym parts.1) (some, all))

pub no_number : (text : List ℕ) (front digits : Bor (List ℕ)) → IsSplitOnceResult 126 text (Some (front, digits))
    → ¬ ((digits.now ≢ []) × IsTrue (list_all is_ascii_digit digits.now))
    → (before : List ℕ) → ¬ IsBeforeNumber text before
no_number text front digits is never before of =
    no_numbering text front digits is never before of.number of.split of.numbering of.lacks

-- ---- the last `#`

lacks_hash : (text : List ℕ) → NoCharPasses (λ c. c == 35) text → All (λ c. c ≢ 35) text
lacks_hash text none = lacks_all 35 text (λ i l. NoCharPasses-char 35 text i none (lit< tt) l)

-- what `rsplit_once` gives at a `#`
pub split_once : (text : List ℕ) (result : Option (Bor (List ℕ) × Bor (List ℕ)))
    → MatchOption result (RFindsChar 35 text None)
    (λ split. SplitsAroundMatch (RFindsChar 35) text split.0.now split.1.now)
    → MatchOption result (All (λ c. c ≢ 35) text) (λ split. IsAroundHash text split.0.now split.1.now)
split_once text None none = lacks_hash text none
split_once text (Some split) (i, j, found, front, back, order, front_length, back_length) = record {
  split = sym (take-append-drop i text)
      ∙ ap (λ l. take i text ++ l) (drop_at_char 35 text i j found.1 (lit< tt))
      ∙ ap (λ l. l ++ 35 ∷ drop j text) (sym front)
      ∙ ap (λ l. split.0.now ++ 35 ∷ l) (sym back);
  lacks = subst (λ l. All (λ c. c ≢ 35) l) (sym back) (lacks_hash (drop j text) found.0);
}

pub no_hash : (text : List ℕ) → All (λ c. c ≢ 35) text → (front tail : List ℕ) → text ≡ front ++ (codes "#" ++ tail) → ⊥
no_hash text lacks front tail split =
    let all = subst (λ (t : List ℕ). All (λ c. c ≢ 35) t) split lacks in
    all (length front) 0 (omega (arith, length-append front (35 ∷ tail))) (get_or-append_seam front 35 tail 0)

-- the two clauses of that
abbrev IsRsplitResult : List ℕ → Option (Bor (List ℕ) × Bor (List ℕ)) → Type 0
IsRsplitResult text result = MatchOption result (RFindsChar 35 text None)
    (λ split. SplitsAroundMatch (RFindsChar 35) text split.0.now split.1.now)

pub around : (text : List ℕ) (result : Option (Bor (List ℕ) × Bor (List ℕ))) → IsRsplitResult text result
    → IfSome result (λ parts. IsAroundHash text parts.0.now parts.1.now)
around text None is = tt
around text (Some split) is = split_once text (Some split) is

pub never_around : (text : List ℕ) (result : Option (Bor (List ℕ) × Bor (List ℕ))) → IsRsplitResult text result
    → IfNone result ((front tail : List ℕ) → ¬ IsAroundHash text front tail)
never_around text None is = λ front tail parts. no_hash text (split_once text None is) front tail parts.split
never_around text (Some split) is = tt
