-- Two lists of which each element of the one is the other's: `AllZip` with one element more, one less or one changed.
use Rattle.std.specs.Prelude.{◌≡◌, ◌<◌, ◌≤◌, ℕ, zero, suc, List, [], ◌∷◌, length, map, All, slice_set}
use Rattle.std.specs.List.{AllZip}
use Rattle.std.proofs.Common.{refl, ap, arith, get_or}
use Rattle.std.proofs.lemmas.List.Elements.{All-head, All-tail}
use Rattle.vol_laws.specs.Inserted.{insert_at}

module _ {X Y : Type 0} where
  -- what follows where something else is true of the elements of the first list
  pub zipped_where : (P : X → Type 0) (R S : X → Y → Type 0) → ((x : X) (y : Y) → P x → R x y → S x y)
      → (xs : List X) (ys : List Y) → All P xs → AllZip R xs ys → AllZip S xs ys
  zipped_where P R S follows [] [] all zipped = zipped
  zipped_where P R S follows [] (y ∷ ys) all zipped = zipped
  zipped_where P R S follows (x ∷ xs) [] all zipped = zipped
  zipped_where P R S follows (x ∷ xs) (y ∷ ys) all zipped =
      (follows x y (All-head P x xs all) zipped.0, zipped_where P R S follows xs ys (All-tail P x xs all) zipped.1)

  module _ (R : X → Y → Type 0) where
    pub zipped_insert : (i : ℕ) (x : X) (y : Y) (xs : List X) (ys : List Y) → i ≤ length xs → R x y → AllZip R xs ys → AllZip R (insert_at i x xs) (insert_at i y ys)
    zipped_insert zero x y xs ys within is zipped = (is, zipped)
    zipped_insert (suc i) x y [] ys within is zipped = absurd (omega (arith, within))
    zipped_insert (suc i) x y (first ∷ xs) [] within is zipped = absurd zipped
    zipped_insert (suc i) x y (first ∷ xs) (head ∷ ys) within is zipped = (zipped.0, zipped_insert i x y xs ys (omega (arith, within)) is zipped.1)

    pub zipped_without : (i : ℕ) (x : X) (xs : List X) (ys : List Y) → i ≤ length xs → AllZip R (insert_at i x xs) ys
        → (y : Y) × (others : List Y) × (ys ≡ insert_at i y others) × R x y × AllZip R xs others
    zipped_without zero x xs [] within zipped = absurd zipped
    zipped_without zero x xs (y ∷ ys) within zipped = (y, ys, refl, zipped.0, zipped.1)
    zipped_without (suc i) x [] ys within zipped = absurd (omega (arith, within))
    zipped_without (suc i) x (first ∷ xs) [] within zipped = absurd zipped
    zipped_without (suc i) x (first ∷ xs) (head ∷ ys) within zipped =
        let rest = zipped_without i x xs ys (omega (arith, within)) zipped.1 in
        (rest.0, head ∷ rest.1, ap (λ l. head ∷ l) rest.2, rest.3, (zipped.0, rest.4))

    pub zipped_set : (k : ℕ) (x : X) (y : Y) (xs : List X) (ys : List Y) → R x y → AllZip R xs ys → AllZip R (slice_set xs k x) (slice_set ys k y)
    zipped_set k x y [] [] is zipped = zipped
    zipped_set k x y [] (head ∷ ys) is zipped = absurd zipped
    zipped_set k x y (first ∷ xs) [] is zipped = absurd zipped
    zipped_set zero x y (first ∷ xs) (head ∷ ys) is zipped = (is, zipped.1)
    zipped_set (suc k) x y (first ∷ xs) (head ∷ ys) is zipped = (zipped.0, zipped_set k x y xs ys is zipped.1)

    pub zipped_at : (k : ℕ) (d : X) (e : Y) (xs : List X) (ys : List Y) → k < length xs → AllZip R xs ys → R (get_or xs k d) (get_or ys k e)
    zipped_at k d e [] ys inside zipped = absurd (omega (arith, inside))
    zipped_at k d e (x ∷ xs) [] inside zipped = absurd zipped
    zipped_at zero d e (x ∷ xs) (y ∷ ys) inside zipped = zipped.0
    zipped_at (suc k) d e (x ∷ xs) (y ∷ ys) inside zipped = zipped_at k d e xs ys (omega (arith, inside)) zipped.1

module _ {X Y Z : Type 0} (f : X → Z) (R : Z → Y → Type 0) where
  pub zipped_of_map : (xs : List X) (ys : List Y) → AllZip R (map f xs) ys → AllZip (λ x. R (f x)) xs ys
  zipped_of_map [] [] zipped = zipped
  zipped_of_map [] (y ∷ ys) zipped = zipped
  zipped_of_map (x ∷ xs) [] zipped = zipped
  zipped_of_map (x ∷ xs) (y ∷ ys) zipped = (zipped.0, zipped_of_map xs ys zipped.1)

  pub map_of_zipped : (xs : List X) (ys : List Y) → AllZip (λ x. R (f x)) xs ys → AllZip R (map f xs) ys
  map_of_zipped [] [] zipped = zipped
  map_of_zipped [] (y ∷ ys) zipped = zipped
  map_of_zipped (x ∷ xs) [] zipped = zipped
  map_of_zipped (x ∷ xs) (y ∷ ys) zipped = (zipped.0, map_of_zipped xs ys zipped.1)
