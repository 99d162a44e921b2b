-- Slashes at the end of a path.
use Rattle.std.proofs.Common.{◌≡◌, ℕ, ◌+◌, ◌-◌, ◌<◌, ◌≤◌, List, [], ◌∷◌, ◌++◌, Some, None, length, take, get_or, false, sym, ap, subst, ◌∙◌, arith, ⊎_elim, lit<}
use Rattle.std.specs.Prelude.{nat_eq}
use Rattle.std.specs.List.{suffix_len}
use Rattle.std.specs.Str.Pattern.{CutsSuffixes, FindsCharSuffix, IsFullyTrimmed, IsTrimEndMatches}
use Rattle.std.proofs.Math.Nat.{eq-or-lt_of_le}
use Rattle.std.proofs.lemmas.Bool.{ne_eqb}
use Rattle.std.proofs.lemmas.List.{get_or-take, length-take-le, take-take, take_all, take_more}
use Rattle.std.proofs.lemmas.List.Sums.{suffix_len_is}
use Rattle.std.proofs.lemmas.Str.{encode_ascii, len_utf8_ascii}
use Rattle.host_folders.specs.NewFolder.{without_last_slashes}

-- a name is a front of a path, behind which stand slashes alone
record IsFront (path name : List ℕ) : Type 0 where
  front : name ≡ take (length name) path
  long : length name ≤ length path
  slashes : (k : ℕ) → length name ≤ k → k < length path → get_or path k 0 ≡ 47

-- a front that ends in a slash, and the front without it
one_less : (path before name : List ℕ) → IsFront path before → 0 < length before → get_or before (length before - 1) 0 ≡ 47 → name ≡ take (length before - 1) before → IsFront path name
one_less path before name is some slash cut =
    let shorter : length name ≡ length before - 1 = ap length cut ∙ length-take-le (length before - 1) before (omega arith) in
    record {
      front =
          cut
          ∙ ap (take (length before - 1)) is.front
          ∙ take-take (length before - 1) (length before) path (omega arith)
          ∙ ap (λ n. take n path) (sym shorter);
      long = omega (arith, shorter, is.long);
      slashes = λ k above below. behind k (omega (arith, shorter, above)) below;
    }
  where
    behind : (k : ℕ) → length before - 1 ≤ k → k < length path → get_or path k 0 ≡ 47
    behind k above below = ⊎_elim
        (λ last. ap (λ i. get_or path i 0) (sym last) ∙ sym (get_or-take (length before) path (length before - 1) 0 (omega arith)) ∙ ap (λ l. get_or l (length before - 1) 0) (sym is.front) ∙ slash)
        (λ past. is.slashes k (omega (arith, past)) below)
        (eq-or-lt_of_le above)

cuts : (path widths name : List ℕ) → CutsSuffixes (FindsCharSuffix 47) path widths name → IsFront path name
cuts path [] name is = subst (IsFront path) (sym is) (record {
  front = sym (take_all (length path) path (omega arith));
  long = omega arith;
  slashes = λ k above below. absurd (omega (arith, above, below));
})
cuts path (n ∷ widths) name is =
    let one : n ≡ 1 = is.2.0 ∙ len_utf8_ascii 47 (lit< tt) in
    let there = is.2.1 in
    one_less path is.0 name (cuts path widths is.0 is.1) (omega (arith, there.ends)) (ap (λ w. get_or is.0 (length is.0 - w) 0) (sym one) ∙ there.byte (lit< tt)) (is.3 ∙ ap (λ w. take (length is.0 - w) is.0) one)

-- what is left ends in no slash
abbrev EndsInNone : List ℕ → Type 0
EndsInNone name = 0 < length name → nat_eq (get_or name (length name - 1) 0) 47 ≡ false

ends_in_none : (name : List ℕ) → IsFullyTrimmed (FindsCharSuffix 47) name → EndsInNone name
ends_in_none name (None, none, left) some = ne_eqb (get_or name (length name - 1) 0) 47 (λ slash. none (take (length name - 1) name) (whole slash ∙ ap (λ l. take (length name - 1) name ++ l) (sym (encode_ascii 47 (lit< tt)))))
  where
    whole : get_or name (length name - 1) 0 ≡ 47 → name ≡ take (length name - 1) name ++ 47 ∷ []
    whole slash =
        sym (take_all (length name - 1 + 1) name (omega (arith, some)))
        ∙ take_more name (length name - 1) 0 (omega (arith, some))
        ∙ ap (λ byte. take (length name - 1) name ++ byte ∷ []) slash
ends_in_none name (Some n, found, left) some = absurd (omega (arith, left, found.0, len_utf8_ascii 47 (lit< tt)))

-- a name that ends in no slash is itself without them
unslashed : (name : List ℕ) → EndsInNone name → without_last_slashes name ≡ name
unslashed name ends =
    let none : suffix_len (λ byte. nat_eq byte 47) name ≡ length name - length name = suffix_len_is (λ byte. nat_eq byte 47) name (length name) 0 (omega arith) (λ k above below. absurd (omega (arith, above, below))) ends in
    take_all (length name - suffix_len (λ byte. nat_eq byte 47) name) name (omega (arith, none))

pub trimmed : (path name : List ℕ) → IsTrimEndMatches (FindsCharSuffix 47) path name → name ≡ without_last_slashes path
trimmed path name is =
    let front = cuts path is.0.0 name is.0.1 in
    let all : suffix_len (λ byte. nat_eq byte 47) path ≡ length path - length name = suffix_len_is (λ byte. nat_eq byte 47) path (length name) 0 front.long
    (λ k above below. ap (λ byte. nat_eq byte 47) (front.slashes k above below))
    (λ some. ap (λ byte. nat_eq byte 47) (sym (get_or-take (length name) path (length name - 1) 0 (omega (arith, some))) ∙ ap (λ l. get_or l (length name - 1) 0) (sym front.front))
    ∙ ends_in_none name is.1 some) in
    let shown : length name ≡ length path - suffix_len (λ byte. nat_eq byte 47) path = omega (arith, front.long, all) in
    front.front ∙ ap (λ n. take n path) shown

pub trimmed_unslashed : (path name : List ℕ) → IsTrimEndMatches (FindsCharSuffix 47) path name → without_last_slashes name ≡ name
trimmed_unslashed path name is = unslashed name (ends_in_none name is.1)
