-- The images of which each stands in a file of its own.
use Rattle.std.specs.Prelude.{◌≡◌, ◌≢◌, ◌<◌, ◌||◌, ℕ, zero, suc, Bool, true, false, List, [], ◌∷◌, ◌++◌, Option, Some, None, if◌then◌else◌, map}
use Rattle.std.specs.HashSet.{contains_by}
use Rattle.std.specs.List.{list_any}
use Rattle.std.proofs.Common.{refl, sym, ◌∙◌, ap, arith, inl, inr, append-nil, append_assoc}
use Rattle.std.proofs.lemmas.Bool.{cases_lt}
use Rattle.std.proofs.lemmas.Bool.Decides.{nat_tests}
use Rattle.std.proofs.lemmas.List.{map-append}
use Rattle.std.proofs.lemmas.List.Folds.{list_any-append}
use Rattle.image_survey.specs.Same.{AreOneFile, candidate_at}
use Rattle.image_survey.specs.Told.{AreKept, Candidate, candidate_of, firsts_behind, has_file_of, is_file, is_known, is_of_file}
use Rattle.image_survey.specs.declared.file_id.FileId.{FileId}
use Rattle.image_survey.specs.declared.kept.Images.{Images}
use Rattle.image_survey.specs.declared.kept.Kept.{Kept}

-- the first image of a file
abbrev first_if : Bool → Candidate → List Candidate
first_if again image = if again then [] else image ∷ []

or_false : (b : Bool) → (b || false) ≡ b
or_false true = refl
or_false false = refl

known_more : (found : List Candidate) (image : Candidate) (file : FileId) → is_known (found ++ image ∷ []) file ≡ (is_known found file || is_of_file image.file file)
known_more found image file =
    list_any-append (λ (any : Candidate). is_of_file any.file file) found (image ∷ [])
    ∙ ap (λ (b : Bool). is_known found file || b) (or_false (is_of_file image.file file))

-- one image more behind all
firsts_more : (before found : List Candidate) (image : Candidate)
    → firsts_behind before (found ++ image ∷ []) ≡ firsts_behind before found ++ first_if (has_file_of (before ++ found) image.file) image
firsts_more before [] image =
    append-nil (first_if (has_file_of before image.file) image)
    ∙ ap (λ (all : List Candidate). first_if (has_file_of all image.file) image) (sym (append-nil before))
firsts_more before (first ∷ later) image =
    ap (λ (rest : List Candidate). first_if (has_file_of before first.file) first ++ rest) (firsts_more (before ++ first ∷ []) later image)
    ∙ sym (append_assoc (first_if (has_file_of before first.file) first) (firsts_behind (before ++ first ∷ []) later) (first_if (has_file_of ((before ++ first ∷ []) ++ later) image.file) image))
    ∙ ap
    (λ (all : List Candidate). (first_if (has_file_of before first.file) first ++ firsts_behind (before ++ first ∷ []) later) ++ first_if (has_file_of all image.file) image)
    (append_assoc before (first ∷ []) later)

-- no file is one that is not known
pub none_of : (files : List FileId) → list_any (is_of_file None) files ≡ false
none_of [] = refl
none_of (file ∷ files) = none_of files

module _ (found : List Candidate) (old new : Images) (image : Candidate) (before : AreKept found old) where
  known_by : (file : Option FileId) → contains_by (is_of_file file) old.files ≡ has_file_of found file
  known_by None = none_of old.files.keys
  known_by (Some file) = before.files file

  module _ (noted : (other : FileId) → contains_by (is_file other) new.files ≡ (contains_by (is_file other) old.files || is_of_file image.file other)) where
    files : (other : FileId) → contains_by (is_file other) new.files ≡ is_known (found ++ image ∷ []) other
    files other =
        noted other ∙ ap (λ (b : Bool). b || is_of_file image.file other) (before.files other)
        ∙ sym (known_more found image other)

    -- the image is the first of its file, or another was
    pub kept_more : (kept : Kept) → candidate_of kept ≡ image → contains_by (is_of_file image.file) old.files ≡ false
        → new.kept.items ≡ old.kept.items ++ kept ∷ [] → AreKept (found ++ image ∷ []) new
    kept_more kept is first items = record {
      kept =
          ap (map candidate_of) items ∙ map-append candidate_of old.kept.items (kept ∷ [])
          ∙ ap (λ (some : List Candidate). some ++ candidate_of kept ∷ []) before.kept
          ∙ ap (λ (one : Candidate). firsts_behind [] found ++ one ∷ []) is
          ∙ ap (λ (b : Bool). firsts_behind [] found ++ first_if b image) (sym first ∙ known_by image.file)
          ∙ sym (firsts_more [] found image);
      files = files;
    }

    pub kept_same : contains_by (is_of_file image.file) old.files ≡ true → new.kept.items ≡ old.kept.items → AreKept (found ++ image ∷ []) new
    kept_same again items = record {
      kept =
          ap (map candidate_of) items ∙ before.kept ∙ sym (append-nil (firsts_behind [] found))
          ∙ ap (λ (b : Bool). firsts_behind [] found ++ first_if b image) (sym again ∙ known_by image.file)
          ∙ sym (firsts_more [] found image);
      files = files;
    }

-- where nothing was noted
pub kept_still : (found : List Candidate) (old new : Images) → AreKept found old → new.kept.items ≡ old.kept.items
    → ((other : FileId) → contains_by (is_file other) new.files ≡ contains_by (is_file other) old.files) → AreKept found new
kept_still found old new before items files = record {
  kept = ap (map candidate_of) items ∙ before.kept;
  files = λ other. files other ∙ before.files other;
}

-- ---- no two of them stand in one file

same_file : (file : FileId) → is_file file file ≡ true
same_file file = grind (arith, nat_tests)

or_none : (b c : Bool) → (b || c) ≡ false → b ≡ false
or_none true c is = cc
or_none false c is = refl

or_neither : (b c : Bool) → (b || c) ≡ false → c ≡ false
or_neither true c is = absurd (cc)
or_neither false c is = is

-- one image, of which it is known that those behind it stand in none of the files before them
module _ (before : List Candidate) (first : Candidate) (rest : List Candidate) (file : FileId) where
  -- the images that begin with it, where it is the first of its file, or do not
  abbrev with_it : Bool → List Candidate
  with_it again = first_if again first ++ rest

  abbrev IsAt : List Candidate → ℕ → Type 0
  IsAt images n = (candidate_at images n).file ≡ Some file

  module _ (new : (n : ℕ) → IsAt rest n → is_known (before ++ first ∷ []) file ≡ false) where
    behind : (n : ℕ) → IsAt rest n → is_known before file ≡ false
    behind n at = or_none (is_known before file) (is_of_file first.file file) (sym (known_more before first file) ∙ new n at)

    first_or_behind : (n : ℕ) → has_file_of before first.file ≡ false → IsAt (first ∷ rest) n → is_known before file ≡ false
    first_or_behind zero none at = ap (has_file_of before) (sym at) ∙ none
    first_or_behind (suc n) none at = behind n at

    pub still_new : (again : Bool) → has_file_of before first.file ≡ again → (n : ℕ) → IsAt (with_it again) n → is_known before file ≡ false
    still_new true same n at = behind n at
    still_new false same n at = first_or_behind n same at

    -- and no two of them in one file
    module _ (apart : (one other : ℕ) → one < other → IsAt rest one → IsAt rest other → ⊥) where
      known : IsAt (first ∷ []) 0 → is_known (before ++ first ∷ []) file ≡ false → ⊥
      known at none =
          let itself : is_of_file first.file file ≡ true = ap (λ (of : Option FileId). is_of_file of file) at ∙ same_file file in
          let not_it = or_neither (is_known before file) (is_of_file first.file file) (sym (known_more before first file) ∙ none) in
          cc (itself, not_it)

      first_apart : (one other : ℕ) → one < other → IsAt (first ∷ rest) one → IsAt (first ∷ rest) other → ⊥
      first_apart one zero low at at' = omega (arith, low)
      first_apart zero (suc other) low at at' = known at (new other at')
      first_apart (suc one) (suc other) low at at' = apart one other (omega (arith, low)) at at'

      pub still_apart : (again : Bool) (one other : ℕ) → one < other → IsAt (with_it again) one → IsAt (with_it again) other → ⊥
      still_apart true one other low at at' = apart one other low at at'
      still_apart false one other low at at' = first_apart one other low at at'

-- the file of one that stands behind others is none of theirs
new_in : (before found : List Candidate) (file : FileId) (n : ℕ) → (candidate_at (firsts_behind before found) n).file ≡ Some file
    → is_known before file ≡ false
new_in before [] file n is = absurd (cc)
new_in before (first ∷ later) file n is =
    still_new before first (firsts_behind (before ++ first ∷ []) later) file (new_in (before ++ first ∷ []) later file)
    (has_file_of before first.file) refl n is

apart_in : (before found : List Candidate) (file : FileId) (one other : ℕ) → one < other
    → (candidate_at (firsts_behind before found) one).file ≡ Some file → (candidate_at (firsts_behind before found) other).file ≡ Some file → ⊥
apart_in before [] file one other less is same = cc
apart_in before (first ∷ later) file one other less is same =
    still_apart before first (firsts_behind (before ++ first ∷ []) later) file (new_in (before ++ first ∷ []) later file)
    (apart_in (before ++ first ∷ []) later file) (has_file_of before first.file) one other less is same

one_file : (one other : Option FileId) → AreOneFile one other → (file : FileId) × (one ≡ Some file) × (other ≡ Some file)
one_file (Some one) (Some other) same = (one, refl, ap (λ (file : FileId). Some file) (sym same))
one_file (Some one) None same = absurd same
one_file None (Some other) same = absurd same
one_file None None same = absurd same

pub stand_apart : (found : List Candidate) (one other : ℕ) → one ≢ other
    → AreOneFile (candidate_at (firsts_behind [] found) one).file (candidate_at (firsts_behind [] found) other).file → ⊥
stand_apart found one other differ same =
    let file = one_file (candidate_at (firsts_behind [] found) one).file (candidate_at (firsts_behind [] found) other).file same in
    elim (cases_lt one other) [
      | inl less ↦ apart_in [] found file.0 one other less file.1 file.2
      | inr high ↦ apart_in [] found file.0 other one (omega (arith, high, differ)) file.2 file.1
    ]
