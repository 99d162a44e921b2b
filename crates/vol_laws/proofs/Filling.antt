-- Lists that get one element more where a slot is filled.
use Rattle.std.specs.Prelude.{◌≡◌, ◌≢◌, ◌<◌, ◌≤◌, ℕ, ◌+◌, ◌==◌, suc, zero, if◌then◌else◌, Bool, true, false, List, [], ◌∷◌, ◌++◌, length, take, filter, flat_map, AllPairs, Contains}
use Rattle.std.proofs.Common.{refl, sym, ◌∙◌, ap, subst, arith, get_or, cond, length-append, ⊎_elim}
use Rattle.std.proofs.lemmas.Bool.Decides.{nat_tests}
use Rattle.std.proofs.lemmas.List.{ext_get_or}
use Rattle.vol_layout.proofs.Lists.{Contains-cases}
use Rattle.vol_laws.specs.Inserted.{index_in_all, insert_at}

pub insert_left : {X : Type 0} (i : ℕ) (x : X) (xs ys : List X) → i ≤ length xs → insert_at i x xs ++ ys ≡ insert_at i x (xs ++ ys)
insert_left zero x xs ys within = refl
insert_left (suc i) x [] ys within = absurd (omega (arith, within))
insert_left (suc i) x (first ∷ xs) ys within = ap (λ l. first ∷ l) (insert_left i x xs ys (omega (arith, within)))

pub insert_right : {X : Type 0} (i : ℕ) (x : X) (xs ys : List X) → xs ++ insert_at i x ys ≡ insert_at (length xs + i) x (xs ++ ys)
insert_right i x [] ys = let same : i ≡ 0 + i = omega arith in ap (λ n. insert_at n x ys) same
insert_right i x (first ∷ xs) ys =
    let same : suc (length xs + i) ≡ suc (length xs) + i = omega arith in
    ap (λ l. first ∷ l) (insert_right i x xs ys) ∙ ap (λ n. insert_at n x (first ∷ (xs ++ ys))) same

pub length-filter_take : {X : Type 0} (p : X → Bool) (k : ℕ) (xs : List X) → length (filter p (take k xs)) ≤ length (filter p xs)
length-filter_take p zero xs = omega arith
length-filter_take p (suc k) [] = omega arith
length-filter_take p (suc k) (x ∷ xs) = by_test (length-filter_take p k xs) (p x)
  where
    by_test : length (filter p (take k xs)) ≤ length (filter p xs) → (b : Bool)
        → length (if b then x ∷ filter p (take k xs) else filter p (take k xs)) ≤ length (if b then x ∷ filter p xs else filter p xs)
    by_test rest true = omega (arith, rest)
    by_test rest false = rest

-- a list with one element changed, that passes now and did not: the elements that pass are one more
pub filter_filled : {X : Type 0} (p : X → Bool) (k : ℕ) (d : X) (xs ys : List X) → length ys ≡ length xs → k < length xs
    → ((j : ℕ) → j < length xs → j ≢ k → get_or ys j d ≡ get_or xs j d) → p (get_or xs k d) ≡ false → p (get_or ys k d) ≡ true
    → filter p ys ≡ insert_at (length (filter p (take k xs))) (get_or ys k d) (filter p xs)
filter_filled p k d [] ys size inside same out in' = absurd (omega (arith, inside))
filter_filled p k d (x ∷ xs) [] size inside same out in' = absurd (omega (arith, size))
filter_filled p zero d (x ∷ xs) (y ∷ ys) size inside same out in' =
    ap (λ b. cond b (y ∷ filter p ys) (filter p ys)) in'
    ∙ ap (λ l. y ∷ filter p l) (ext_get_or d ys xs (omega (arith, size)) (λ j within. same (suc j) (omega (arith, within, size)) (omega arith)))
    ∙ ap (λ b. y ∷ cond b (x ∷ filter p xs) (filter p xs)) (sym out)
filter_filled p (suc k) d (x ∷ xs) (y ∷ ys) size inside same out in' =
    ap (λ z. cond (p z) (z ∷ filter p ys) (filter p ys)) (same 0 (omega arith) (omega arith))
    ∙ by_test (filter_filled p k d xs ys (omega (arith, size)) (omega (arith, inside)) (λ j within differ. same (suc j) (omega (arith, within)) (omega (arith, differ))) out in') (p x)
  where
    by_test : filter p ys ≡ insert_at (length (filter p (take k xs))) (get_or ys k d) (filter p xs) → (b : Bool)
        → cond b (x ∷ filter p ys) (filter p ys) ≡ insert_at (length (cond b (x ∷ filter p (take k xs)) (filter p (take k xs)))) (get_or ys k d) (cond b (x ∷ filter p xs) (filter p xs))
    by_test rest true = ap (λ l. x ∷ l) rest
    by_test rest false = rest

-- the lists of some places, one of which got one element more
module _ {X : Type 0} (f g : ℕ → List X) (place k : ℕ) (x : X) (within : k ≤ length (f place)) (here : g place ≡ insert_at k x (f place))
    (others : (other : ℕ) → other ≢ place → g other ≡ f other) where
  flat_kept : (places : List ℕ) → (Contains places place → ⊥) → flat_map g places ≡ flat_map f places
  flat_kept [] none = refl
  flat_kept (first ∷ rest) none =
      ap (λ l. l ++ flat_map g rest) (others first (λ same. none (0, omega arith, same)))
      ∙ ap (λ l. f first ++ l) (flat_kept rest (λ has. none (suc has.0, omega (arith, has.1), has.2)))

  pub flat_filled : (places : List ℕ) → AllPairs (λ place later. place ≢ later) places → Contains places place
      → flat_map g places ≡ insert_at (index_in_all f places place k) x (flat_map f places)
  flat_filled [] once has = absurd (omega (arith, has.1))
  flat_filled (first ∷ rest) once has = by_test (first == place) refl (flat_filled rest (λ i j d less inside. once (suc i) (suc j) d (omega (arith, less)) (omega (arith, inside))))
    where
      by_test : (b : Bool) → (first == place) ≡ b → (Contains rest place → flat_map g rest ≡ insert_at (index_in_all f rest place k) x (flat_map f rest))
          → g first ++ flat_map g rest ≡ insert_at (if b then k else (length (f first) + index_in_all f rest place k)) x (f first ++ flat_map f rest)
      by_test true is later =
          let same : first ≡ place = grind (arith, nat_tests, is) in
          ap (λ l. g first ++ l) (flat_kept rest (λ more. once 0 (suc more.0) place (omega arith) (omega (arith, more.1)) (same ∙ sym more.2)))
          ∙ subst (λ n. g n ++ flat_map f rest ≡ insert_at k x (f n ++ flat_map f rest)) (sym same)
          (ap (λ l. l ++ flat_map f rest) here ∙ insert_left k x (f place) (flat_map f rest) within)
      by_test false is later =
          let differ : first ≢ place = grind (arith, nat_tests, is) in
          ap (λ l. l ++ flat_map g rest) (others first differ)
          ∙ ap (λ l. f first ++ l) (later (⊎_elim (λ same. absurd (differ same)) (λ more. more) (Contains-cases first rest place has)))
          ∙ insert_right (index_in_all f rest place k) x (f first) (flat_map f rest)

-- an element that would be one more of the list of one of some places would stand among the elements of them all
pub index_within : {X : Type 0} (f : ℕ → List X) (place k : ℕ) → k ≤ length (f place) → (places : List ℕ) → Contains places place → index_in_all f places place k ≤ length (flat_map f places)
index_within f place k within [] has = absurd (omega (arith, has.1))
index_within f place k within (first ∷ rest) has = by_test (first == place) refl (index_within f place k within rest)
  where
    by_test : (b : Bool) → (first == place) ≡ b → (Contains rest place → index_in_all f rest place k ≤ length (flat_map f rest))
        → (if b then k else (length (f first) + index_in_all f rest place k)) ≤ length (f first ++ flat_map f rest)
    by_test true is later =
        let same : first ≡ place = grind (arith, nat_tests, is) in
        let size : length (f first) ≡ length (f place) = ap (λ n. length (f n)) same in
        omega (arith, within, size, length-append (f first) (flat_map f rest))
    by_test false is later =
        let differ : first ≢ place = grind (arith, nat_tests, is) in
        let more = later (⊎_elim (λ same. absurd (differ same)) (λ more. more) (Contains-cases first rest place has)) in
        omega (arith, more, length-append (f first) (flat_map f rest))
