-- What is left of a path without its last name.
use Rattle.std.proofs.Common.{◌≡◌, ◌↔◌, ◌<◌, ◌+◌, ℕ, refl, sym, ◌∙◌, ap, arith, List, ◌∷◌, ◌++◌, length, drop, Option, Some, None, Bool, true, false}
use Rattle.std.specs.Prelude.{IfSome, IfNone}
use Rattle.std.specs.Str.{bytes_eq}
use Rattle.std.specs.Bool.{Decides}
use Rattle.std.proofs.lemmas.List.{append_cancel_right, drop-map, length-map, length-append}
use Rattle.std.proofs.Math.Seq.{drop-append_seam}
use Rattle.std.proofs.lemmas.Slice.Eq.{bytes_eq-Decides}
use Rattle.pro_dir.specs.declared.entry.Entry.{Entry}
use Rattle.pro_dir.specs.Entry.{name_of}
use Rattle.pro_dir.specs.declared.letters.Letters.{Letters}
use Rattle.pro_dir.specs.Letters.{letter, taken}
use Rattle.pro_dir.specs.Parents.{entry_in, parent_of}
use Rattle.pro_dir.specs.Paths.{name_below, path_of}
use Rattle.pro_dir.proofs.Paths.{path-named, path_above-some}

-- the last bytes of a path that ends so
pub last_bytes : (letters : Letters) (path above last : List ℕ) (at : ℕ) → at + length last ≡ length path → taken letters path ≡ above ++ last → taken letters (drop at path) ≡ last
last_bytes letters path above last at fits is =
    let lengths = ap (λ (text : List ℕ). length text) is in
    let here : at ≡ length above = omega (arith, lengths, length-map path (letter letters), length-append above last, fits) in
    sym (drop-map (letter letters) at path) ∙ ap (drop at) is ∙ ap (λ k. drop k (above ++ last)) here ∙ drop-append_seam above last

-- the path of an entry that has a parent
pub path-parent : (entries : List Entry) (number parent : ℕ) → number < length entries → parent_of entries number ≡ Some parent
    → path_of entries number ≡ path_of entries parent ++ 0x2f ∷ name_of (entry_in entries number).bytes
path-parent entries number parent within is =
    path-named entries number within ∙ ap (λ (above : Option (List ℕ)). name_below above (name_of (entry_in entries number).bytes)) (path_above-some entries number parent is)

-- and of one that has none
pub path-alone : (entries : List Entry) (number : ℕ) → number < length entries → parent_of entries number ≡ None → path_of entries number ≡ name_of (entry_in entries number).bytes
path-alone entries number within is =
    path-named entries number within ∙ ap (λ (parent : Option ℕ). name_below (above_of parent) (name_of (entry_in entries number).bytes)) is
  where
    above_of : Option ℕ → Option (List ℕ)
    above_of None = None
    above_of (Some parent) = Some (path_of entries parent)

-- both for the parent as it is
pub path-below : (entries : List Entry) (number : ℕ) → number < length entries
    → IfSome (parent_of entries number) (λ parent. path_of entries number ≡ path_of entries parent ++ 0x2f ∷ name_of (entry_in entries number).bytes)
path-below entries number within = below (parent_of entries number) refl
  where
    below : (found : Option ℕ) → parent_of entries number ≡ found → IfSome found (λ parent. path_of entries number ≡ path_of entries parent ++ 0x2f ∷ name_of (entry_in entries number).bytes)
    below None is = tt
    below (Some parent) is = path-parent entries number parent within is

pub path-top : (entries : List Entry) (number : ℕ) → number < length entries
    → IfNone (parent_of entries number) (path_of entries number ≡ name_of (entry_in entries number).bytes)
path-top entries number within = top (parent_of entries number) refl
  where
    top : (found : Option ℕ) → parent_of entries number ≡ found → IfNone found (path_of entries number ≡ name_of (entry_in entries number).bytes)
    top None is = path-alone entries number within is
    top (Some parent) is = tt

-- two paths with the same last name are the same where what is above it is
pub same_above : (given path above parent name : List ℕ) → given ≡ above ++ 0x2f ∷ name → path ≡ parent ++ 0x2f ∷ name → (given ≡ path) ↔ (above ≡ parent)
same_above given path above parent name given_is path_is = (
  λ same. append_cancel_right above parent (0x2f ∷ name) (sym given_is ∙ same ∙ path_is),
  λ same. given_is ∙ ap (λ (front : List ℕ). front ++ 0x2f ∷ name) same ∙ sym path_is,
)

-- a test is that of two texts where it says whether they are the same
pub is_bytes_eq : (test : Bool) (xs ys : List ℕ) → (test ≡ true) ↔ (xs ≡ ys) → test ≡ bytes_eq xs ys
is_bytes_eq test xs ys says = by_test test (bytes_eq xs ys) (bytes_eq-Decides xs ys) says
  where
    by_test : (a b : Bool) → Decides b (xs ≡ ys) → (a ≡ true) ↔ (xs ≡ ys) → a ≡ b
    by_test true true decides says = refl
    by_test false false decides says = refl
    by_test true false decides says = sym (decides.1 (says.0 refl))
    by_test false true decides says = says.1 (decides.0 refl)
