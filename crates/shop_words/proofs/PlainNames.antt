-- The names of a plain list: each stands once, and those of its rows are those of its words.
use Rattle.std.proofs.Common.{◌≡◌, ◌∙◌, ℕ, ◌<◌, ap, ap₂, refl, true, false, List, [], ◌∷◌, ◌++◌, map, length, Contains, arith, slice_index_or, zero, suc}
use Rattle.std.proofs.lemmas.Bool.{or_from, or_right}
use Rattle.std.proofs.lemmas.Slice.Eq.{bytes_eq-Decides}
use Rattle.std.specs.List.{AllByRecursion, IsDistinct, list_any}
use Rattle.std.specs.Str.{bytes_eq}
use Rattle.clap.proofs.WalkLemmas.{list_any-map}
use Rattle.clap.specs.Walk.{Row, Text, has_row}
use Rattle.shop_words.specs.Plain.{Use, alone, valued, use_name}
use Rattle.shop_words.proofs.PlainUses.{use_row, use_rows}
use Rattle.shop_words.proofs.PlainLine.{positional_rows}

pub has_row-ids : (n : Text) (rows : List Row) → has_row n rows ≡ list_any (λ m. bytes_eq m n) (map (λ r. r.id) rows)
has_row-ids n rows = list_any-map (λ m. bytes_eq m n) (λ (r : Row). r.id) rows

pub id-use_row : (u : Use) → (use_row u).id ≡ use_name u
id-use_row (alone name) = refl
id-use_row (valued name value) = refl

pub ids-use_rows : (uses : List Use) → map (λ (r : Row). r.id) (use_rows uses) ≡ map use_name uses
ids-use_rows [] = refl
ids-use_rows (u ∷ us) = ap₂ (λ (m : Text) (ms : List Text). m ∷ ms) (id-use_row u) (ids-use_rows us)

pub ids-positional_rows : (names values : List Text) → length values ≡ length names → map (λ (r : Row). r.id) (positional_rows names values) ≡ names
ids-positional_rows [] vs same = refl
ids-positional_rows (n ∷ ns) [] same = absurd (omega (arith, same))
ids-positional_rows (n ∷ ns) (v ∷ vs) same = ap (λ ms. n ∷ ms) (ids-positional_rows ns vs (omega (arith, same)))

-- a name that is contained is met
any_at : (name : Text) (names : List Text) (k : ℕ) → k < length names → slice_index_or names k name ≡ name
    → list_any (λ m. bytes_eq m name) names ≡ true
any_at name [] k lt e = absurd (omega (arith, lt))
any_at name (n ∷ ns) zero lt e = rw ((bytes_eq-Decides n name).1 e) refl
any_at name (n ∷ ns) (suc k) lt e = or_right (bytes_eq n name) _ (any_at name ns k (omega (arith, lt)) e)

pub has_row-use_rows : (name : Text) (uses : List Use) → Contains (map use_name uses) name → has_row name (use_rows uses) ≡ true
has_row-use_rows name uses at =
    has_row-ids name (use_rows uses) ∙ ap (list_any (λ m. bytes_eq m name)) (ids-use_rows uses)
    ∙ any_at name (map use_name uses) at.0 at.1 at.2

pub has_row-positional_rows : (names values : List Text) (name : Text) → length values ≡ length names → list_any (λ n. bytes_eq n name) names ≡ true
    → has_row name (positional_rows names values) ≡ true
has_row-positional_rows names values name same e =
    rw (has_row-ids name (positional_rows names values), ids-positional_rows names values same) e

-- ---- names that stand once

in_middle : (P : Text → Type 0) (before : List Text) (name : Text) (after : List Text) → AllByRecursion P (before ++ name ∷ after) → P name
in_middle P [] name after all = all.0
in_middle P (n ∷ ns) name after all = in_middle P ns name after all.1

-- a name is none of those before it
pub none_before : (before : List Text) (name : Text) (after : List Text) → IsDistinct bytes_eq (before ++ name ∷ after)
    → list_any (λ m. bytes_eq m name) before ≡ false
unfolding IsDistinct
none_before [] name after once = refl
none_before (n ∷ ns) name after once =
    or_from (bytes_eq n name) _ (in_middle (λ y. bytes_eq n y ≡ false) ns name after once.0) (none_before ns name after once.1)
