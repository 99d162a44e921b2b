-- The line of one more file, hashed.
use Rattle.std.specs.Prelude.{◌≡◌, ◌<◌, ◌≤◌, ◌+◌, ◌&&◌, ℕ, Bool, true, false, List, [], ◌∷◌, ◌++◌, length, slice_index_or, is_some}
use Rattle.std.proofs.Common.{refl, sym, ◌∙◌, ap, subst, arith, inl, inr, append-nil}
use Rattle.std.proofs.lemmas.Bool.{cases_lt}
use Rattle.std.proofs.lemmas.List.{get_or_append_left, get_or_default, get_or_push, length_push}
use Rattle.std.proofs.lemmas.Grind.{flat_map-append}
use Rattle.std.proofs.lemmas.List.Folds.{list_all-append}
use Rattle.std.proofs.lemmas.List.Sums.{sum_by_push}
use Rattle.volume_compare.specs.Contents.{SeenVolume}
use Rattle.volume_compare.specs.Findings.{paths_in}
use Rattle.image_survey.specs.Content.{AreLinesOf, IsContent, are_read, bytes_of, ended, is_read, lines_text, most_path_bytes}
use Rattle.image_survey.specs.FileLine.{IsLineOf}
use Rattle.image_survey.specs.Hashing.{IsHashedOf}
use Rattle.image_survey.specs.Ordered.{AreInOrder, path_bytes}
use Rattle.image_survey.specs.declared.content.Content.{Content}
use Rattle.image_survey.specs.declared.content.Content.TheVariants.{Of, TooLarge}
use Rattle.image_survey.specs.declared.file_line.FileLine.{FileLine}
use Rattle.image_survey.specs.declared.ordered.Named.{Named}

pub text_more : (lines : List FileLine) (told : FileLine) → lines_text (lines ++ told ∷ []) ≡ lines_text lines ++ ended told
text_more lines told = flat_map-append ended lines (told ∷ []) ∙ ap (λ text. lines_text lines ++ text) (append-nil (ended told))

pub bytes_more : (lines : List FileLine) (told : FileLine) → bytes_of (lines ++ told ∷ []) ≡ bytes_of lines + told.bytes
bytes_more lines told = sum_by_push (λ (l : FileLine). l.bytes) lines told

and_true : (b : Bool) → (b && true) ≡ b
and_true true = refl
and_true false = refl

pub read_more : (lines : List FileLine) (told : FileLine) → are_read (lines ++ told ∷ []) ≡ (are_read lines && is_some told.digest)
read_more lines told = list_all-append is_read lines (told ∷ []) ∙ ap (λ (b : Bool). are_read lines && b) (and_true (is_some told.digest))

-- one line more of an order
pub lines_more : (volume : SeenVolume) (unreadable : List ℕ) (order : List Named) (lines : List FileLine) (told : FileLine) (d : Named)
    → length lines < length order → AreLinesOf volume unreadable order lines
    → IsLineOf volume unreadable (slice_index_or order (length lines) d).file told → AreLinesOf volume unreadable order (lines ++ told ∷ [])
lines_more volume unreadable order lines told d within are next = record {
  within = omega (arith, within, length_push lines told);
  each = λ n named l low. elim (cases_lt n (length lines)) [
    | inl old ↦
        subst (IsLineOf volume unreadable (slice_index_or order n named).file) (sym (get_or_append_left lines (told ∷ []) l n old))
        (are.each n named l old)
    | inr high ↦
        let at : length lines ≡ n = omega (arith, low, high, length_push lines told) in
        subst (λ k. IsLineOf volume unreadable (slice_index_or order k named).file (slice_index_or (lines ++ told ∷ []) k l)) at
        (subst (IsLineOf volume unreadable (slice_index_or order (length lines) named).file) (sym (get_or_push lines told l (length lines) refl))
        (subst (λ (one : Named). IsLineOf volume unreadable one.file told) (get_or_default order (length lines) d named within) next))
  ];
}

-- the content of files in their order
pub content_by : (volume : SeenVolume) (unreadable : List ℕ) (order : List Named) (content : Content) → path_bytes (paths_in volume) ≤ most_path_bytes
    → AreInOrder (paths_in volume) order → IsHashedOf volume unreadable order content → IsContent volume unreadable content
content_by volume unreadable order (Of digest whole) few in_order hashed = record {
  few_paths = few;
  order = order;
  in_order = in_order;
  lines = hashed.lines;
  are_lines = hashed.are_lines;
  all = hashed.all;
  few = omega (arith, hashed.by.few.1);
  is = hashed.by.is;
  are_whole = hashed.by.are_whole;
}
content_by volume unreadable order TooLarge few in_order large = inr (record {
  few_paths = few;
  order = order;
  in_order = in_order;
  lines = large.lines;
  are_lines = large.are_lines;
  many = large.many;
})
