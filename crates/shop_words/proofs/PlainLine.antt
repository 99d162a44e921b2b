-- What a parse of one command makes of the words of a plain list.
use Rattle.std.proofs.Common.{◌≡◌, ◌∙◌, ℕ, ◌+◌, sym, ap, refl, subst, true, false, List, [], ◌∷◌, ◌++◌, Some, ◌==◌, fold, append_assoc, min}
use Rattle.std.proofs.lemmas.Bool.{and_from, not-true}
use Rattle.std.proofs.lemmas.List.{append-nil}
use Rattle.std.specs.List.{list_all}
use Rattle.clap.specs.Lexer.{usize_max}
use Rattle.clap.specs.Walk.{Held, Row, Text, Walk, arg_by_id, arg_by_index, has_row, nothing_held, pushed, rows_after, settled, used, walked, with_default}
use Rattle.clap.specs.Simple.{Shape}
use Rattle.clap.specs.Takes.{walk_passes, level_passes, default_passes, is_valid}
use Rattle.shop_words.specs.Plain.{Use, all_use_words, is_plain_word}
use Rattle.shop_words.proofs.PlainWalk.{positional_built, walked-positional, turn_passes-positional}
use Rattle.shop_words.proofs.PlainUses.{At, FitUses, Walks, text_row, use_rows, used-positional, walks_uses}

abbrev pub FitPositionals : Shape → ℕ → List Row → List Text → List Text → Type 0
FitPositionals s i rows [] [] = Unit {0}
FitPositionals s i rows (n ∷ ns) (v ∷ vs) = (arg_by_index s.rules i ≡ Some (positional_built i n)) × (arg_by_id s.rules n ≡ Some (positional_built i n))
    × (has_row n rows ≡ false) × (is_plain_word v ≡ true) × FitPositionals s (min (i + 1) usize_max) (rows ++ text_row n v ∷ []) ns vs
FitPositionals s i rows _ _ = ⊥

abbrev pub positional_rows : List Text → List Text → List Row
positional_rows (n ∷ ns) (v ∷ vs) = text_row n v ∷ positional_rows ns vs
positional_rows _ _ = []

positional_at : (s : Shape) (i : ℕ) (rows : List Row) (h : Held) (name value : Text) → At s rows h
    → arg_by_id s.rules name ≡ Some (positional_built i name) → has_row name rows ≡ false
    → At s (rows ++ text_row name value ∷ []) (pushed name value (settled s.rules h))
positional_at s i rows h name value at by_id new = record {
  rows_are = rw by_id (ap (used (positional_built i name) (value ∷ [])) at.rows_are ∙ used-positional i name value rows new);
  passes = rw (by_id, at.rows_are, new) refl;
}

pub walks_line : (s : Shape) (i : ℕ) (names values : List Text) (uses : List Use) (rows : List Row) (h : Held) → At s rows h
    → FitPositionals s i rows names values → FitUses s (rows ++ positional_rows names values) uses
    → Walks s i h (values ++ all_use_words uses) (rows ++ positional_rows names values ++ use_rows uses)
unfolding walk_passes
walks_line s i [] [] uses rows h at fit more = walks_uses s i uses (rows ++ []) h (subst (λ rs. At s rs h) (sym (append-nil rows)) at) more
walks_line s i [] (v ∷ vs) uses rows h at fit more = absurd fit
walks_line s i (n ∷ ns) [] uses rows h at fit more = absurd fit
walks_line s i (n ∷ ns) ([] ∷ vs) uses rows h at fit more = cc
walks_line s i (n ∷ ns) ((x ∷ xs) ∷ vs) uses rows h at fit more =
    let plain = not-true (x == 45) fit.3 in
    let now = pushed n (x ∷ xs) (settled s.rules h) in
    let next = rows ++ text_row n (x ∷ xs) ∷ [] in
    let rest = walks_line s (min (i + 1) usize_max) ns vs uses next now (positional_at s i rows h n (x ∷ xs) at fit.1 fit.2) fit.4 (rw append_assoc more) in
    record {
      position = rest.position;
      after = rest.after;
      walks = ap (λ (w : Walk). fold (walked s.rules []) w (vs ++ all_use_words uses)) (walked-positional s n i h x xs plain fit.0) ∙ rest.walks;
      at = rw (append_assoc rows (text_row n (x ∷ xs) ∷ []) (positional_rows ns vs)) at rest.at;
      passes = and_from _ _ (turn_passes-positional s n i h x xs plain fit.0 at.passes) (rw (walked-positional s n i h x xs plain fit.0) rest.passes);
    }

start : (s : Shape) → At s [] nothing_held
start s = record { rows_are = refl; passes = refl }

pub level_passes-line : (s : Shape) (words : List Text) (rows : List Row) → Walks s 1 nothing_held words rows
    → list_all default_passes s.rules ≡ true → is_valid s (fold with_default rows s.rules) false ≡ true
    → level_passes s [] nothing_held words false ≡ true
level_passes-line s words rows w defaults valid =
    rw w.walks (and_from _ _ w.passes (and_from _ _ w.at.passes (and_from _ _ defaults (rw w.at.rows_are valid))))

pub rows_after-line : (s : Shape) (words : List Text) (rows : List Row) → Walks s 1 nothing_held words rows
    → rows_after s.rules [] words ≡ fold with_default rows s.rules
rows_after-line s words rows w = rw (w.walks, w.at.rows_are) refl
