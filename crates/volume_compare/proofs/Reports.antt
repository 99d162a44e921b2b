-- What is told of one file more.
use Rattle.std.specs.Prelude.{◌≡◌, ◌≤◌, ◌+◌, ◌&&◌, ℕ, Bool, true, false, List, [], ◌∷◌, ◌++◌, Option, Some, None, if◌then◌else◌, length}
use Rattle.std.proofs.Common.{refl, sym, ◌∙◌, ap, add-zero, arith}
use Rattle.std.proofs.lemmas.List.{flat_map_more}
use Rattle.std.proofs.lemmas.List.Folds.{list_all-append}
use Rattle.std.proofs.lemmas.List.Sums.{count_by-le-length, sum_by_push}
use Rattle.vol_layout.specs.declared.form.PlaceForm.{PlaceForm}
use Rattle.volume_compare.specs.Findings.{Told}
use Rattle.volume_compare.specs.CompareText.{AreAtMost, are_equal, how_many, is_alike, is_body, is_entry, is_only_first, is_only_second, is_same, is_told, is_unreadable, told_line, told_lines, totals_of, totals_with}
use Rattle.volume_compare.specs.declared.finding.Finding.{Finding}
use Rattle.volume_compare.specs.declared.finding.Finding.TheVariants.{Unreadable, Only, Body, Entry, Same}
use Rattle.volume_compare.specs.declared.finding.Side.TheVariants.{First, Second}

-- the lines with one more
pub lines_more : (all : Bool) (form : PlaceForm) (told : List (Option Told)) (next : Option Told)
    → told_lines all form (told ++ next ∷ []) ≡ told_lines all form told ++ told_line all form next
lines_more all form told next = sym (flat_map_more (told_line all form) [] told next)

many_more : (test : Finding → Bool) (told : List (Option Told)) (next : Option Told)
    → how_many test (told ++ next ∷ []) ≡ how_many test told + (if is_told test next then 1 else 0)
many_more test told next = sum_by_push (λ (any : Option Told). if is_told test any then 1 else 0) told next

stays : (test : Finding → Bool) (told : List (Option Told)) (next : Option Told) → is_told test next ≡ false
    → how_many test (told ++ next ∷ []) ≡ how_many test told
stays test told next is = many_more test told next ∙ ap (λ (b : Bool). how_many test told + (if b then 1 else 0)) is ∙ add-zero (how_many test told)

grows : (test : Finding → Bool) (told : List (Option Told)) (next : Option Told) → is_told test next ≡ true
    → how_many test (told ++ next ∷ []) ≡ how_many test told + 1
grows test told next is = many_more test told next ∙ ap (λ (b : Bool). how_many test told + (if b then 1 else 0)) is

equal_more : (told : List (Option Told)) (next : Option Told) → are_equal (told ++ next ∷ []) ≡ (are_equal told && is_alike next)
equal_more told next = list_all-append is_alike told (next ∷ []) ∙ ap (λ (b : Bool). are_equal told && b) (one (is_alike next))
  where
    one : (b : Bool) → (b && true) ≡ b
    one true = refl
    one false = refl

kept : (b : Bool) → (b && true) ≡ b
kept true = refl
kept false = refl

lost : (b : Bool) → (b && false) ≡ false
lost true = refl
lost false = refl

-- an entry that is not told of
pub totals_less : (told : List (Option Told)) → totals_of (told ++ None ∷ []) ≡ totals_of told
totals_less told = λ i. record {
  equal = (equal_more told None ∙ kept (are_equal told)) i;
  same = stays is_same told None refl i;
  body = stays is_body told None refl i;
  entry = stays is_entry told None refl i;
  only_first = stays is_only_first told None refl i;
  only_second = stays is_only_second told None refl i;
  unreadable = stays is_unreadable told None refl i;
}

-- one that is
pub totals_more : (told : List (Option Told)) (next : Told) → totals_of (told ++ Some next ∷ []) ≡ totals_with (totals_of told) next.found.finding
totals_more told next = by_finding next.found.finding refl
  where
    by_finding : (finding : Finding) → next.found.finding ≡ finding → totals_of (told ++ Some next ∷ []) ≡ totals_with (totals_of told) finding
    by_finding Same is = λ i. record {
      equal = (equal_more told (Some next) ∙ ap (λ (b : Bool). are_equal told && b) (ap is_same is) ∙ kept (are_equal told)) i;
      same = grows is_same told (Some next) (ap is_same is) i;
      body = stays is_body told (Some next) (ap is_body is) i;
      entry = stays is_entry told (Some next) (ap is_entry is) i;
      only_first = stays is_only_first told (Some next) (ap is_only_first is) i;
      only_second = stays is_only_second told (Some next) (ap is_only_second is) i;
      unreadable = stays is_unreadable told (Some next) (ap is_unreadable is) i;
    }
    by_finding Body is = λ i. record {
      equal = (equal_more told (Some next) ∙ ap (λ (b : Bool). are_equal told && b) (ap is_same is) ∙ lost (are_equal told)) i;
      same = stays is_same told (Some next) (ap is_same is) i;
      body = grows is_body told (Some next) (ap is_body is) i;
      entry = stays is_entry told (Some next) (ap is_entry is) i;
      only_first = stays is_only_first told (Some next) (ap is_only_first is) i;
      only_second = stays is_only_second told (Some next) (ap is_only_second is) i;
      unreadable = stays is_unreadable told (Some next) (ap is_unreadable is) i;
    }
    by_finding Entry is = λ i. record {
      equal = (equal_more told (Some next) ∙ ap (λ (b : Bool). are_equal told && b) (ap is_same is) ∙ lost (are_equal told)) i;
      same = stays is_same told (Some next) (ap is_same is) i;
      body = stays is_body told (Some next) (ap is_body is) i;
      entry = grows is_entry told (Some next) (ap is_entry is) i;
      only_first = stays is_only_first told (Some next) (ap is_only_first is) i;
      only_second = stays is_only_second told (Some next) (ap is_only_second is) i;
      unreadable = stays is_unreadable told (Some next) (ap is_unreadable is) i;
    }
    by_finding (Only First) is = λ i. record {
      equal = (equal_more told (Some next) ∙ ap (λ (b : Bool). are_equal told && b) (ap is_same is) ∙ lost (are_equal told)) i;
      same = stays is_same told (Some next) (ap is_same is) i;
      body = stays is_body told (Some next) (ap is_body is) i;
      entry = stays is_entry told (Some next) (ap is_entry is) i;
      only_first = grows is_only_first told (Some next) (ap is_only_first is) i;
      only_second = stays is_only_second told (Some next) (ap is_only_second is) i;
      unreadable = stays is_unreadable told (Some next) (ap is_unreadable is) i;
    }
    by_finding (Only Second) is = λ i. record {
      equal = (equal_more told (Some next) ∙ ap (λ (b : Bool). are_equal told && b) (ap is_same is) ∙ lost (are_equal told)) i;
      same = stays is_same told (Some next) (ap is_same is) i;
      body = stays is_body told (Some next) (ap is_body is) i;
      entry = stays is_entry told (Some next) (ap is_entry is) i;
      only_first = stays is_only_first told (Some next) (ap is_only_first is) i;
      only_second = grows is_only_second told (Some next) (ap is_only_second is) i;
      unreadable = stays is_unreadable told (Some next) (ap is_unreadable is) i;
    }
    by_finding (Unreadable side) is = λ i. record {
      equal = (equal_more told (Some next) ∙ ap (λ (b : Bool). are_equal told && b) (ap is_same is) ∙ lost (are_equal told)) i;
      same = stays is_same told (Some next) (ap is_same is) i;
      body = stays is_body told (Some next) (ap is_body is) i;
      entry = stays is_entry told (Some next) (ap is_entry is) i;
      only_first = stays is_only_first told (Some next) (ap is_only_first is) i;
      only_second = stays is_only_second told (Some next) (ap is_only_second is) i;
      unreadable = grows is_unreadable told (Some next) (ap is_unreadable is) i;
    }

-- none is more than there are entries
pub few : (told : List (Option Told)) (most : ℕ) → length told ≤ most → AreAtMost (totals_of told) most
few told most long = record {
  same = omega (arith, count_by-le-length (is_told is_same) told);
  body = omega (arith, count_by-le-length (is_told is_body) told);
  entry = omega (arith, count_by-le-length (is_told is_entry) told);
  only_first = omega (arith, count_by-le-length (is_told is_only_first) told);
  only_second = omega (arith, count_by-le-length (is_told is_only_second) told);
  unreadable = omega (arith, count_by-le-length (is_told is_unreadable) told);
}
