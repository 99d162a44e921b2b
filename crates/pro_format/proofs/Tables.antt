-- Tables of places, one place more.
use Rattle.std.proofs.Common.{◌≡◌, ◌≢◌, ◌<◌, ◌+◌, ℕ, Bool, true, false, List, [], ◌∷◌, ◌++◌, length, map, set, take, get_or, cond, refl, sym, ◌∙◌, ap, subst, arith, append-nil, inl, inr}
use Rattle.std.specs.Prelude.{◌==◌, ◌||◌, not, filter, slice_index_or}
use Rattle.std.specs.List.{range_with_len}
use Rattle.std.proofs.lemmas.Bool.{cases_eq, eq-eqb}
use Rattle.std.proofs.lemmas.Bool.Decides.{nat_tests}
use Rattle.std.proofs.lemmas.List.{ext_get_or, length-set, get_or-set_same, get_or-set_other, map-id}
use Rattle.std.proofs.lemmas.List.Elements.{filter-append}
use Rattle.std.proofs.lemmas.List.Folds.{list_any_more}
use Rattle.std.proofs.lemmas.List.FromFn.{map-range_with_len_more, length-map-range_with_len, get_or-map-range_with_len}
use Rattle.pro_dir.specs.Volume.{Directory as Tree, total_blocks}
use Rattle.pro_format.specs.Pro.{is_fixed, is_one_of, is_pro_system, pro_system, first_available}
use Rattle.pro_format.specs.Tables.{IsMarked}

pub pushed : {X : Type 0} (f : ℕ → X) (table : List X) (n : ℕ) (x : X) → table ≡ map f (range_with_len 0 n) → x ≡ f n → table ++ x ∷ [] ≡ map f (range_with_len 0 (n + 1))
pushed f table n x is at =
    ap (λ t. t ++ x ∷ []) is ∙ ap (λ y. map f (range_with_len 0 n) ++ y ∷ []) at ∙ sym (map-range_with_len_more f 0 n n (omega arith))

-- one block more is marked
pub unmarked : (blocks : List ℕ) (old : List Bool) → IsMarked (take 0 blocks) old old
unmarked blocks old = record { size = refl; cells = λ place d within. sym (or_false (slice_index_or old place d)) }
  where
    or_false : (b : Bool) → (b || false) ≡ b
    or_false true = refl
    or_false false = refl

module _ (blocks : List ℕ) (old now new : List Bool) (i block : ℕ) (inside : i < length blocks) (at : block ≡ get_or blocks i 0) (within : block < length old)
    (new_is : new ≡ set now block true) (marked : IsMarked (take i blocks) old now) where
  tested : (place : ℕ) → is_one_of (take (i + 1) blocks) place ≡ (is_one_of (take i blocks) place || (block == place))
  tested place = list_any_more (λ block. block == place) blocks i 0 inside ∙ ap (λ b. is_one_of (take i blocks) place || (b == place)) (sym at)

  all_true : (x y z : Bool) → z ≡ true → (x || (y || z)) ≡ true
  all_true true y z is = refl
  all_true false true z is = refl
  all_true false false z is = is

  none_more : (x y z : Bool) → z ≡ false → (x || (y || z)) ≡ (x || y)
  none_more true y z is = refl
  none_more false true z is = refl
  none_more false false z is = is

  differ_test : (place : ℕ) (b : Bool) → (block == place) ≡ b → place ≢ block → (block == place) ≡ false
  differ_test place false is apart = is
  differ_test place true is apart = absurd (apart (sym (grind (arith, nat_tests, is))))

  pub marked_more : IsMarked (take (i + 1) blocks) old new
  marked_more = subst (IsMarked (take (i + 1) blocks) old) (sym new_is) (record {
    size = length-set now block true ∙ marked.size;
    cells = λ place d low. elim (cases_eq place block) [
      | inl same ↦
          ap (λ p. slice_index_or (set now block true) p d) same
          ∙ get_or-set_same now block true d (omega (arith, within, marked.size))
          ∙ sym (ap (λ b. slice_index_or old place d || b) (tested place)
          ∙ all_true (slice_index_or old place d) (is_one_of (take i blocks) place) (block == place) (eq-eqb block place (sym same)))
      | inr apart ↦
          get_or-set_other now block place true d apart
          ∙ marked.cells place d low
          ∙ sym (ap (λ b. slice_index_or old place d || b) (tested place)
          ∙ none_more (slice_index_or old place d) (is_one_of (take i blocks) place) (block == place) (differ_test place (block == place) refl apart))
    ];
  })

-- the table of the system's places
pub system_made : (reserved : List Bool) (tree : Tree) (blocks : List ℕ) (fixed new : List Bool) → fixed ≡ map (is_fixed reserved tree) (range_with_len 0 (total_blocks tree.header))
    → blocks ≡ tree.blocks → IsMarked blocks fixed new → new ≡ pro_system reserved tree
unfolding pro_system
system_made reserved tree blocks fixed new fixed_is blocks_are marked =
    ext_get_or false new (map (is_pro_system reserved tree) (range_with_len 0 total)) (size ∙ sym (length-map-range_with_len (is_pro_system reserved tree) 0 total))
    (λ place within.
    let inside : place < total = omega (arith, within, size) in
    marked.cells place false (omega (arith, inside, fixed_size))
    ∙ ap (λ t. slice_index_or t place false || is_one_of blocks place) fixed_is
    ∙ ap (λ b. b || is_one_of blocks place) (get_or-map-range_with_len (is_fixed reserved tree) 0 total place place false inside (omega arith))
    ∙ ap (λ bs. is_fixed reserved tree place || is_one_of bs place) blocks_are
    ∙ sym (get_or-map-range_with_len (is_pro_system reserved tree) 0 total place place false inside (omega arith)))
  where
    total : ℕ
    total = total_blocks tree.header

    fixed_size : length fixed ≡ total
    fixed_size = ap length fixed_is ∙ length-map-range_with_len (is_fixed reserved tree) 0 total

    size : length new ≡ total
    size = marked.size ∙ fixed_size

-- one place more is available, or not
pub none_yet : (system : List Bool) → [] ≡ first_available system 0
unfolding first_available
none_yet system = refl

module _ (system : List Bool) (before : List ℕ) (n : ℕ) (is : before ≡ first_available system n) where
  one_more : first_available system (n + 1) ≡ before ++ cond (not (slice_index_or system n true)) (n ∷ []) []
  unfolding first_available
  one_more =
      ap (filter (λ place. not (slice_index_or system place true))) range_more
      ∙ filter-append (λ place. not (slice_index_or system place true)) (range_with_len 0 n) (n ∷ [])
      ∙ ap (λ xs. xs ++ cond (not (slice_index_or system n true)) (n ∷ []) []) (sym is)
    where
      range_more : range_with_len 0 (n + 1) ≡ range_with_len 0 n ++ n ∷ []
      range_more = sym (map-id (range_with_len 0 (n + 1))) ∙ map-range_with_len_more (λ k. k) 0 n n (omega arith) ∙ ap (λ xs. xs ++ n ∷ []) (map-id (range_with_len 0 n))

  pub taken : slice_index_or system n true ≡ false → before ++ n ∷ [] ≡ first_available system (n + 1)
  taken outside = sym (one_more ∙ ap (λ b. before ++ cond (not b) (n ∷ []) []) outside)

  pub passed : slice_index_or system n true ≡ true → before ≡ first_available system (n + 1)
  passed inside = sym (one_more ∙ ap (λ b. before ++ cond (not b) (n ∷ []) []) inside ∙ append-nil before)
