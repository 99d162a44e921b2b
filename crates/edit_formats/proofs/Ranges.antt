-- Lists over a range of numbers, one number further.
use Rattle.std.proofs.Common.{◌≡◌, ◌≤◌, ◌+◌, ◌-◌, ◌*◌, ℕ, Bool, true, false, cond, List, [], ◌∷◌, ◌++◌, refl, sym, ◌∙◌, ap, arith, append-nil, append_assoc, zero-add}
use Rattle.std.specs.Prelude.{◌||◌, filter, flat_map}
use Rattle.std.specs.List.{range_with_len, list_any}
use Rattle.std.proofs.lemmas.List.{map-id}
use Rattle.std.proofs.lemmas.List.Concat.{flat_map-append}
use Rattle.std.proofs.lemmas.List.Elements.{filter-append}
use Rattle.std.proofs.lemmas.List.Folds.{list_any-append}
use Rattle.std.proofs.lemmas.List.FromFn.{filter_of_map_range_with_len_more, map-range_with_len_more}
use Rattle.a2_device.specs.declared.part.PartKind.TheVariants.{Body}
use Rattle.edit_formats.specs.declared.new_part.NewPart.{NewPart}
use Rattle.edit_formats.specs.Parts.{any_stored, bodies, index_with_bodies, indexes, is_stored, new_part}

range_more : (first count : ℕ) → range_with_len first (count + 1) ≡ range_with_len first count ++ (first + count) ∷ []
range_more first count =
    sym (map-id (range_with_len first (count + 1)))
    ∙ map-range_with_len_more (λ n. n) first count (first + count) refl
    ∙ ap (λ l. l ++ (first + count) ∷ []) (map-id (range_with_len first count))

flat_more : {X : Type 0} (f : ℕ → List X) (first count : ℕ) → flat_map f (range_with_len first (count + 1)) ≡ flat_map f (range_with_len first count) ++ f (first + count)
flat_more f first count =
    ap (flat_map f) (range_more first count)
    ∙ flat_map-append f (range_with_len first count) ((first + count) ∷ [])
    ∙ ap (λ l. flat_map f (range_with_len first count) ++ l) (append-nil (f (first + count)))

pub flat_next : {X : Type 0} (f : ℕ → List X) (count : ℕ) → flat_map f (range_with_len 0 (count + 1)) ≡ flat_map f (range_with_len 0 count) ++ f count
flat_next f count = flat_more f 0 count ∙ ap (λ n. flat_map f (range_with_len 0 count) ++ f n) (zero-add count)

-- no unit yet, and one unit more
pub bodies-none : (stored : List Bool) (first : ℕ) → bodies stored first 0 ≡ []
unfolding bodies
bodies-none stored first = refl

pub bodies-more : (stored : List Bool) (first count : ℕ) → bodies stored first (count + 1) ≡ bodies stored first count ++ cond (is_stored stored (first + count)) (new_part Body (first + count) ∷ []) []
unfolding bodies
bodies-more stored first count = filter_of_map_range_with_len_more (λ (part : NewPart). is_stored stored part.number) (new_part Body) first count (first + count) refl

any-more : (stored : List Bool) (first count : ℕ) → any_stored stored first (count + 1) ≡ (any_stored stored first count || is_stored stored (first + count))
unfolding any_stored
any-more stored first count =
    ap (list_any (is_stored stored)) (range_more first count) ∙ list_any-append (is_stored stored) (range_with_len first count) ((first + count) ∷ [])
    ∙ ap (λ b. any_stored stored first count || b) (or_false (is_stored stored (first + count)))
  where
    or_false : (b : Bool) → (b || false) ≡ b
    or_false true = refl
    or_false false = refl

none_stored : (stored : List Bool) (first : ℕ) → any_stored stored first 0 ≡ false
unfolding any_stored
none_stored stored first = refl

still_none : (stored : List Bool) (first count : ℕ) → any_stored stored first count ≡ false → is_stored stored (first + count) ≡ false → any_stored stored first (count + 1) ≡ false
still_none stored first count none not_here = any-more stored first count ∙ ap (λ b. b || is_stored stored (first + count)) none ∙ not_here

pub indexes-none : (stored : List Bool) → indexes stored 0 ≡ []
unfolding indexes
indexes-none stored = refl

-- the search for a unit that is stored: it has not begun, goes on, or is at its end
pub none_yet : (stored : List Bool) (first : ℕ) → any_stored stored first (first - first) ≡ false
none_yet stored first =
    let none : first - first ≡ 0 = omega arith in
    ap (any_stored stored first) none ∙ none_stored stored first

pub none_here : (stored : List Bool) (first number : ℕ) → first ≤ number → any_stored stored first (number - first) ≡ false → is_stored stored number ≡ false
    → any_stored stored first (number + 1 - first) ≡ false
none_here stored first number from none not_here =
    let more : number + 1 - first ≡ number - first + 1 = omega (arith, from) in
    let here : first + (number - first) ≡ number = omega (arith, from) in
    ap (any_stored stored first) more ∙ still_none stored first (number - first) none (ap (is_stored stored) here ∙ not_here)

pub none_of : (stored : List Bool) (first number count : ℕ) → first + count ≤ number → number ≤ first + count → any_stored stored first (number - first) ≡ false → any_stored stored first count ≡ false
none_of stored first number count low high none =
    let all : count ≡ number - first = omega (arith, low, high) in
    ap (any_stored stored first) all ∙ none

indexes-more : (stored : List Bool) (count : ℕ) → indexes stored (count + 1) ≡ indexes stored count ++ flat_map (index_with_bodies stored) (cond (any_stored stored (256 * count) 256) (count ∷ []) [])
unfolding indexes
indexes-more stored count =
    ap (λ l. flat_map (index_with_bodies stored) (filter p l)) (range_more 0 count)
    ∙ ap (flat_map (index_with_bodies stored)) (filter-append p (range_with_len 0 count) ((0 + count) ∷ []))
    ∙ flat_map-append (index_with_bodies stored) (filter p (range_with_len 0 count)) (filter p ((0 + count) ∷ []))
    ∙ ap (λ n. indexes stored count ++ flat_map (index_with_bodies stored) (cond (p n) (n ∷ []) [])) (zero-add count)
  where
    p : ℕ → Bool
    p number = any_stored stored (256 * number) 256

-- one unit more is taken, or passed over
module _ (stored : List Bool) (old before : List NewPart) (first number : ℕ) (from : first ≤ number) (is : before ≡ old ++ bodies stored first (number - first)) where
  one_on : (last : List NewPart) → cond (is_stored stored number) (new_part Body number ∷ []) [] ≡ last → before ++ last ≡ old ++ bodies stored first (number + 1 - first)
  one_on last last_is =
      let more : number + 1 - first ≡ number - first + 1 = omega (arith, from) in
      let here : first + (number - first) ≡ number = omega (arith, from) in
      ap (λ l. l ++ last) is
      ∙ append_assoc old (bodies stored first (number - first)) last
      ∙ ap (λ l. old ++ (bodies stored first (number - first) ++ l)) (sym last_is)
      ∙ ap (λ n. old ++ (bodies stored first (number - first) ++ cond (is_stored stored n) (new_part Body n ∷ []) [])) (sym here)
      ∙ ap (λ l. old ++ l) (sym (bodies-more stored first (number - first)))
      ∙ ap (λ n. old ++ bodies stored first n) (sym more)

  pub body_taken : is_stored stored number ≡ true → before ++ new_part Body number ∷ [] ≡ old ++ bodies stored first (number + 1 - first)
  body_taken is_there = one_on (new_part Body number ∷ []) (ap (λ b. cond b (new_part Body number ∷ []) []) is_there)

  pub body_passed : is_stored stored number ≡ false → before ≡ old ++ bodies stored first (number + 1 - first)
  body_passed is_not = sym (append-nil before) ∙ one_on [] (ap (λ b. cond b (new_part Body number ∷ []) []) is_not)

pub none_taken : (stored : List Bool) (old : List NewPart) (first : ℕ) → old ≡ old ++ bodies stored first (first - first)
none_taken stored old first =
    let none : 0 ≡ first - first = omega arith in
    sym (append-nil old) ∙ ap (λ l. old ++ l) (sym (bodies-none stored first)) ∙ ap (λ n. old ++ bodies stored first n) none

-- one index more is taken, or passed over
module _ (stored : List Bool) (top : NewPart) (old before : List NewPart) (number : ℕ) (is : before ≡ old ++ top ∷ indexes stored number) where
  index_on : (last : List NewPart) → flat_map (index_with_bodies stored) (cond (any_stored stored (256 * number) 256) (number ∷ []) []) ≡ last
      → before ++ last ≡ old ++ top ∷ indexes stored (number + 1)
  index_on last last_is =
      ap (λ l. l ++ last) is
      ∙ append_assoc old (top ∷ indexes stored number) last
      ∙ ap (λ l. old ++ top ∷ (indexes stored number ++ l)) (sym last_is)
      ∙ ap (λ l. old ++ top ∷ l) (sym (indexes-more stored number))

  pub index_taken : any_stored stored (256 * number) 256 ≡ true → before ++ index_with_bodies stored number ≡ old ++ top ∷ indexes stored (number + 1)
  index_taken some =
      index_on (index_with_bodies stored number)
      (ap (λ b. flat_map (index_with_bodies stored) (cond b (number ∷ []) [])) some ∙ append-nil (index_with_bodies stored number))

  pub index_passed : any_stored stored (256 * number) 256 ≡ false → before ≡ old ++ top ∷ indexes stored (number + 1)
  index_passed none = sym (append-nil before) ∙ index_on [] (ap (λ b. flat_map (index_with_bodies stored) (cond b (number ∷ []) [])) none)
