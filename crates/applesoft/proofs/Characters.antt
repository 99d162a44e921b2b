-- The characters that a text shows, one after another.
use Rattle.std.proofs.Common.{◌≡◌, ◌≢◌, ℕ, ◌<◌, List, [], ◌∷◌, ◌++◌, length, arith, refl, sym, ap, ◌∙◌, subst, append_assoc, append-nil, length-append}
use Rattle.std.specs.Prelude.{flat_map}
use Rattle.std.proofs.lemmas.Grind.{common_steps}
use Rattle.std.proofs.lemmas.List.Elements.{All-cons, All-head, All-tail}
use Rattle.apple_text.specs.Shown.{Text, character}
use Rattle.apple_text.proofs.Alike.{character_front, some_character}
use Rattle.applesoft.specs.Tokens.{IsAllowed, Shows}
use Rattle.applesoft.specs.Reading.{IsFirstCode, IsNoFirstCode}

pub nothing : Shows [] []
nothing = record { allowed = λ k d within. omega arith; shown = refl }

shows_more : (text : Text) (code : ℕ) (rest : Text) (codes : List ℕ) → IsFirstCode text code rest → Shows rest codes → Shows text (code ∷ codes)
shows_more text code rest codes first shows = record {
  allowed = All-cons IsAllowed code codes first.allowed shows.allowed;
  shown = first.split ∙ ap (λ s. character code ++ s) shows.shown;
}

-- the first of the characters that a text shows
shows_first : (text : Text) (code : ℕ) (codes : List ℕ) → Shows text (code ∷ codes) → IsFirstCode text code (flat_map character codes) × Shows (flat_map character codes) codes
shows_first text code codes shows = (
  record { allowed = All-head IsAllowed code codes shows.allowed; split = shows.shown },
  record { allowed = All-tail IsAllowed code codes shows.allowed; shown = refl },
)

same_front : (text : Text) (c d : ℕ) (r s : Text) → IsFirstCode text c r → IsFirstCode text d s → (c ≡ d) × (r ≡ s)
same_front text c d r s one other = character_front c d r s one.allowed.small other.allowed.small (sym one.split ∙ other.split)

shows_less : (text : Text) (code : ℕ) (rest : Text) (all : List ℕ) → IsFirstCode text code rest → Shows text all → (codes : List ℕ) × Shows rest codes
shows_less text code rest [] first shows = absurd (some_character code rest (sym first.split ∙ shows.shown))
shows_less text code rest (c ∷ cs) first shows =
    let other = shows_first text c cs shows in
    let same = same_front text code c rest (flat_map character cs) first other.0 in
    (cs, subst (λ r. Shows r cs) (sym same.1) other.1)

pub one_way : (text : Text) (a b : List ℕ) → Shows text a → Shows text b → a ≡ b
one_way text [] [] one other = refl
one_way text [] (y ∷ b) one other = absurd (some_character y (flat_map character b) (sym other.shown ∙ one.shown))
one_way text (x ∷ a) [] one other = absurd (some_character x (flat_map character a) (sym one.shown ∙ other.shown))
one_way text (x ∷ a) (y ∷ b) one other =
    let p = shows_first text x a one in
    let q = shows_first text y b other in
    let same = same_front text x y (flat_map character a) (flat_map character b) p.0 q.0 in
    let first : x ≡ y = same.0 in
    let rest : a ≡ b = one_way (flat_map character a) a b p.1 (subst (λ r. Shows r b) (sym same.1) q.1) in
    cc

pub shorter : (text : Text) (code : ℕ) (rest : Text) → IsFirstCode text code rest → length rest < length text
shorter text code rest first = omega (arith, ap length first.split, length-append (character code) rest, some_length code)
  where
    some_length : (code : ℕ) → 0 < length (character code)
    some_length code = grind (arith, common_steps)

-- ---- how far a text is read

pub record SoFar (text : Text) (codes : List ℕ) (rest : Text) : Type 0 where
  pub taken : (more : List ℕ) → Shows rest more → Shows text (codes ++ more)
  pub back : (all : List ℕ) → Shows text all → (more : List ℕ) × Shows rest more

pub at_start : (text : Text) → SoFar text [] text
at_start text = record { taken = λ more shows. shows; back = λ all shows. (all, shows) }

pub step : (text : Text) (codes : List ℕ) (rest : Text) (code : ℕ) (more : Text) → SoFar text codes rest → IsFirstCode rest code more
    → SoFar text (codes ++ code ∷ []) more
step text codes rest code more so_far first = record {
  taken = λ later shows. subst (Shows text) (sym (append_assoc codes (code ∷ []) later)) (so_far.taken (code ∷ later) (shows_more rest code more later first shows));
  back = λ all shows. let could = so_far.back all shows in shows_less rest code more could.0 first could.1;
}

pub at_end : (text : Text) (codes : List ℕ) (rest : Text) → SoFar text codes rest → rest ≡ [] → Shows text codes
at_end text codes rest so_far none = subst (Shows text) (append-nil codes) (so_far.taken [] (subst (λ r. Shows r []) (sym none) nothing))

pub shows_none : (text : Text) (codes : List ℕ) (rest : Text) → SoFar text codes rest → rest ≢ [] → IsNoFirstCode rest → (all : List ℕ) → ¬ Shows text all
shows_none text codes rest so_far some none all shows = let could = so_far.back all shows in stuck could.0 could.1
  where
    stuck : (more : List ℕ) → Shows rest more → ⊥
    stuck [] shows' = some shows'.shown
    stuck (c ∷ cs) shows' = none c (flat_map character cs) (shows_first rest c cs shows').0
