-- Lists in a strict order, and lists of which each element is of one of another list.
use Rattle.std.proofs.Common.{refl, ◌≡◌, ◌⊎◌, ◌<◌, ℕ, zero, suc, Bool, true, false, List, [], ◌∷◌, map, length, get_or, ap, sym, ◌∙◌, subst, arith, ⊎_elim, inl, inr}
use Rattle.std.specs.Prelude.{◌↔◌, filter, if◌then◌else◌}
use Rattle.std.specs.List.{AllPairs, AllZip, Contains}
use Rattle.std.proofs.lemmas.List.{get_or-map, length-map, get_or_default}

module _ {X : Type 0} where
  pub at_front : (x : X) (xs : List X) → Contains (x ∷ xs) x
  at_front x xs = (zero, omega arith, refl)

  pub in_front : (x : X) (xs : List X) (y : X) → Contains xs y → Contains (x ∷ xs) y
  in_front x xs y has = (suc has.0, omega (arith, has.1), has.2)

  pub in_either : (x : X) (xs : List X) (y : X) → Contains (x ∷ xs) y → (x ≡ y) ⊎ Contains xs y
  in_either x xs y (zero, within, is) = inl is
  in_either x xs y (suc k, within, is) = inr (k, omega (arith, within), is)

  in_none : (y : X) → Contains [] y → ⊥
  in_none y has = omega (arith, has.1)

  pub element : (xs : List X) (k : ℕ) (d : X) → k < length xs → Contains xs (get_or xs k d)
  element xs k d within = (k, within, get_or_default xs k _ d within)

  pub in_filter : (p : X → Bool) (xs : List X) (y : X) → Contains xs y → p y ≡ true → Contains (filter p xs) y
  in_filter p [] y has passes = has
  in_filter p (x ∷ xs) y has passes = by_test (in_filter p xs y) (p x) refl (in_either x xs y has)
    where
      by_test : (Contains xs y → p y ≡ true → Contains (filter p xs) y) → (b : Bool) → p x ≡ b → (x ≡ y) ⊎ Contains xs y
          → Contains (if b then x ∷ filter p xs else filter p xs) y
      by_test rest true is (inl same) = (0, omega arith, same)
      by_test rest true is (inr later) = in_front x (filter p xs) y (rest later passes)
      by_test rest false is (inl same) = absurd (cc (is, same, passes))
      by_test rest false is (inr later) = rest later passes

  pub out_of_filter : (p : X → Bool) (xs : List X) (y : X) → Contains (filter p xs) y → Contains xs y × (p y ≡ true)
  out_of_filter p [] y has = absurd (omega (arith, has.1))
  out_of_filter p (x ∷ xs) y has = by_test (out_of_filter p xs y) (p x) refl has
    where
      later : Contains xs y × (p y ≡ true) → Contains (x ∷ xs) y × (p y ≡ true)
      later rest = (in_front x xs y rest.0, rest.1)

      by_test : (Contains (filter p xs) y → Contains xs y × (p y ≡ true)) → (b : Bool) → p x ≡ b
          → Contains (if b then x ∷ filter p xs else filter p xs) y → Contains (x ∷ xs) y × (p y ≡ true)
      by_test rest true is has' = ⊎_elim (λ same. ((0, omega arith, same), ap p (sym same) ∙ is)) (λ more. later (rest more)) (in_either x (filter p xs) y has')
      by_test rest false is has' = later (rest has')

-- Two lists in one strict order with the same elements are the same.
module _ {X : Type 0} (R : X → X → Type 0) (strict : (x y : X) → R x y → R y x → ⊥) where
  ordered_rest : (x : X) (xs : List X) → AllPairs R (x ∷ xs) → AllPairs R xs
  ordered_rest x xs ordered i j d less within = ordered (suc i) (suc j) d (omega (arith, less)) (omega (arith, within))

  first_before : (x : X) (xs : List X) (y : X) → AllPairs R (x ∷ xs) → Contains xs y → R x y
  first_before x xs y ordered has = subst (R x) has.2 (ordered zero (suc has.0) y (omega arith) (omega (arith, has.1)))

  not_itself : (x y : X) → x ≡ y → R x y → ⊥
  not_itself x y same before = let itself : R x x = subst (R x) (sym same) before in strict x x itself itself

  same_first : (x y : X) (xs ys : List X) → AllPairs R (x ∷ xs) → AllPairs R (y ∷ ys) → Contains (y ∷ ys) x → Contains (x ∷ xs) y → x ≡ y
  same_first x y xs ys ordered other has has' =
      ⊎_elim (λ is. sym is)
      (λ later. ⊎_elim (λ is. is) (λ later'. absurd (strict x y (first_before x xs y ordered later') (first_before y ys x other later))) (in_either x xs y has'))
      (in_either y ys x has)

  in_rest : (x y : X) (xs ys : List X) → x ≡ y → AllPairs R (x ∷ xs) → (z : X) → Contains xs z → Contains (y ∷ ys) z → Contains ys z
  in_rest x y xs ys same ordered z has into =
      ⊎_elim (λ is. absurd (not_itself x z (same ∙ is) (first_before x xs z ordered has))) (λ later. later) (in_either y ys z into)

  pub same_elements : (xs ys : List X) → AllPairs R xs → AllPairs R ys → ((x : X) → Contains xs x ↔ Contains ys x) → xs ≡ ys
  same_elements [] [] ordered other same = refl
  same_elements [] (y ∷ ys) ordered other same = absurd (in_none y ((same y).1 (at_front y ys)))
  same_elements (x ∷ xs) [] ordered other same = absurd (in_none x ((same x).0 (at_front x xs)))
  same_elements (x ∷ xs) (y ∷ ys) ordered other same =
      let first = same_first x y xs ys ordered other ((same x).0 (at_front x xs)) ((same y).1 (at_front y ys)) in
      let rest = same_elements xs ys (ordered_rest x xs ordered) (ordered_rest y ys other) (λ z. (
        λ has. in_rest x y xs ys first ordered z has ((same z).0 (in_front x xs z has)),
        λ has. in_rest y x ys xs (sym first) other z has ((same z).1 (in_front y ys z has)),
      )) in
      ap (λ z. z ∷ xs) first ∙ ap (λ zs. y ∷ zs) rest

-- one list for each element of another
module _ {X Y : Type 0} where
  pub one_zipped : (R : X → Y → Type 0) → ((x : X) (y z : Y) → R x y → R x z → y ≡ z) → (xs : List X) (ys zs : List Y) → AllZip R xs ys → AllZip R xs zs → ys ≡ zs
  one_zipped R one [] [] [] first second = refl
  one_zipped R one [] [] (z ∷ zs) first second = absurd second
  one_zipped R one [] (y ∷ ys) zs first second = absurd first
  one_zipped R one (x ∷ xs) [] zs first second = absurd first
  one_zipped R one (x ∷ xs) (y ∷ ys) [] first second = absurd second
  one_zipped R one (x ∷ xs) (y ∷ ys) (z ∷ zs) first second =
      ap (λ v. v ∷ ys) (one x y z first.0 second.0) ∙ ap (λ vs. z ∷ vs) (one_zipped R one xs ys zs first.1 second.1)

  pub zipped_weaker : (R S : X → Y → Type 0) → ((x : X) (y : Y) → R x y → S x y) → (xs : List X) (ys : List Y) → AllZip R xs ys → AllZip S xs ys
  zipped_weaker R S weaker [] [] zipped = zipped
  zipped_weaker R S weaker [] (y ∷ ys) zipped = zipped
  zipped_weaker R S weaker (x ∷ xs) [] zipped = zipped
  zipped_weaker R S weaker (x ∷ xs) (y ∷ ys) zipped = (weaker x y zipped.0, zipped_weaker R S weaker xs ys zipped.1)

  pub zipped_map : (R : X → Y → Type 0) (f : X → Y) → ((x : X) → R x (f x)) → (xs : List X) → AllZip R xs (map f xs)
  zipped_map R f each [] = tt
  zipped_map R f each (x ∷ xs) = (each x, zipped_map R f each xs)

-- what is mapped, and what is filtered of it
module _ {X Y : Type 0} (f : X → Y) where
  pub in_map : (xs : List X) (x : X) → Contains xs x → Contains (map f xs) (f x)
  in_map xs x has = (has.0, omega (arith, has.1, length-map xs f), get_or-map f xs has.0 x (f x) has.1 ∙ ap f has.2)

  pub out_of_map : (xs : List X) (y : Y) → Contains (map f xs) y → (x : X) × Contains xs x × (f x ≡ y)
  out_of_map [] y has = absurd (omega (arith, has.1))
  out_of_map (x ∷ xs) y has = ⊎_elim
      (λ is. (x, at_front x xs, is))
      (λ later. let found = out_of_map xs y later in (found.0, in_front x xs found.0 found.1, found.2))
      (in_either (f x) (map f xs) y has)

  pub filter_map : (p : Y → Bool) (xs : List X) → map f (filter (λ x. p (f x)) xs) ≡ filter p (map f xs)
  filter_map p [] = refl
  filter_map p (x ∷ xs) = by_test (filter_map p xs) (p (f x))
    where
      by_test : map f (filter (λ z. p (f z)) xs) ≡ filter p (map f xs) → (b : Bool)
          → map f (if b then x ∷ filter (λ z. p (f z)) xs else filter (λ z. p (f z)) xs) ≡ (if b then f x ∷ filter p (map f xs) else filter p (map f xs))
      by_test rest true = ap (λ ys. f x ∷ ys) rest
      by_test rest false = rest
