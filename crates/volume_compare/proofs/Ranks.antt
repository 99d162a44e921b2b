-- Partners by rank: the first free file of a path is the partner of the next file that has it.
use Rattle.std.specs.Prelude.{◌≡◌, ◌≢◌, ◌<◌, ◌≤◌, ◌+◌, ◌⊎◌, ℕ, zero, suc, Bool, true, false, List, Option, Some, None, length, count_by}
use Rattle.std.proofs.Common.{refl, sym, ◌∙◌, ap, subst, arith, inl, inr, set, get_or-set_same, get_or-set_other, add-one}
use Rattle.std.proofs.lemmas.Bool.{cases_lt, cases_eq}
use Rattle.std.proofs.lemmas.List.{get_or_past, take_all}
use Rattle.std.proofs.lemmas.List.Sums.{count_by_more_yes, count_by_more_no}
use Rattle.std.proofs.lemmas.Slice.Eq.{bytes_eq-Decides}
use Rattle.volume_compare.specs.Pairs.{IsPartner, IsTakenBefore, is_path, path_at, rank, taken_at}
use Rattle.volume_compare.specs.Candidates.{HasNoneFree, IsFirstFree}

pub passes : (path : List ℕ) (found : Option (List ℕ)) → found ≡ Some path → is_path path found ≡ true
passes path found is = ap (is_path path) is ∙ (bytes_eq-Decides path path).1 refl

pub is_of : (path : List ℕ) (found : Option (List ℕ)) → is_path path found ≡ true → found ≡ Some path
is_of path (Some other) true_is = ap Some ((bytes_eq-Decides other path).0 true_is)
is_of path None true_is = absurd (cc)

-- a path is that of an entry that there is
pub has_entry : (paths : List (Option (List ℕ))) (file : ℕ) (path : List ℕ) → path_at paths file ≡ Some path → file < length paths
has_entry paths file path is =
    elim (cases_lt file (length paths)) [
      | inl low ↦ low
      | inr high ↦ absurd (let past = get_or_past paths file None high in cc)
    ]

module _ (path : List ℕ) (paths : List (Option (List ℕ))) where
  abbrev rank_at : ℕ → ℕ
  rank_at file = rank path paths file

  pub rank_yes : (file : ℕ) → path_at paths file ≡ Some path → rank_at (file + 1) ≡ rank_at file + 1
  rank_yes file is = count_by_more_yes (is_path path) paths file None (has_entry paths file path is) (passes path (path_at paths file) is)

  -- a file more counts where it has the path
  pub rank_step : (file : ℕ) → (rank_at (file + 1) ≡ rank_at file) ⊎ (path_at paths file ≡ Some path)
  rank_step file = elim (cases_lt file (length paths)) [ inl low ↦ by_test low (is_path path (path_at paths file)) refl | inr high ↦ inl (none_more high) ]
    where
      by_test : file < length paths → (b : Bool) → is_path path (path_at paths file) ≡ b → (rank_at (file + 1) ≡ rank_at file) ⊎ (path_at paths file ≡ Some path)
      by_test low true is = inr (is_of path (path_at paths file) is)
      by_test low false is = inl (count_by_more_no (is_path path) paths file None low is)

      none_more : length paths ≤ file → rank_at (file + 1) ≡ rank_at file
      none_more high = ap (count_by (is_path path)) (take_all (file + 1) paths (omega arith) ∙ sym (take_all file paths high))

  not_fewer : (file : ℕ) → rank_at file ≤ rank_at (file + 1)
  not_fewer file = elim (rank_step file) [ inl same ↦ omega arith | inr is ↦ omega (arith, rank_yes file is) ]

  at_next : (k : ℕ) → rank_at (suc k) ≡ rank_at (k + 1)
  at_next k = sym (ap rank_at (add-one k))

  pub rank_rises : (file later : ℕ) → file < later → path_at paths file ≡ Some path → rank_at file < rank_at later
  rank_rises file zero before is = absurd (omega arith)
  rank_rises file (suc k) before is = by_place (λ low. rank_rises file k low is)
    where
      by_place : (file < k → rank_at file < rank_at k) → rank_at file < rank_at (suc k)
      by_place earlier = elim (cases_lt file k) [
        | inl low ↦ omega (arith, earlier low, not_fewer k, at_next k)
        | inr high ↦
            let here : file ≡ k = omega arith in
            omega (arith, rank_yes k (ap (path_at paths) (sym here) ∙ is), at_next k, ap rank_at here)
      ]

  -- a file before an entry that has a rank
  abbrev pub HasRankBefore : ℕ → ℕ → Type 0
  HasRankBefore later wanted = (file : ℕ) × (file < later) × (path_at paths file ≡ Some path) × (rank_at file ≡ wanted)

  -- each rank below that of an entry is that of a file before it
  pub rank_between : (later wanted : ℕ) → wanted < rank_at later → HasRankBefore later wanted
  rank_between zero wanted low = absurd (omega arith)
  rank_between (suc k) wanted low = by_rank (λ below. rank_between k wanted below)
    where
      here : rank_at k ≤ wanted → (rank_at (k + 1) ≡ rank_at k) ⊎ (path_at paths k ≡ Some path) → HasRankBefore (suc k) wanted
      here reached (inl same) = absurd (omega (arith, at_next k))
      here reached (inr is) = (k, omega arith, is, omega (arith, at_next k, rank_yes k is))

      by_rank : (wanted < rank_at k → HasRankBefore k wanted) → HasRankBefore (suc k) wanted
      by_rank earlier = elim (cases_lt wanted (rank_at k)) [
        | inl below ↦ let found = earlier below in (found.0, omega arith, found.2, found.3)
        | inr reached ↦ here reached (rank_step k)
      ]

-- files of one path and one rank are one
pub one_of_rank : (path : List ℕ) (paths : List (Option (List ℕ))) (file other : ℕ) → path_at paths file ≡ Some path → path_at paths other ≡ Some path
    → rank path paths file ≡ rank path paths other → file ≡ other
one_of_rank path paths file other is other_is same =
    elim (cases_lt file other) [
      | inl low ↦ absurd (omega (arith, rank_rises path paths file other low is, same))
      | inr high ↦ elim (cases_lt other file) [
        | inl low ↦ absurd (omega (arith, rank_rises path paths other file low other_is, same))
        | inr both ↦ omega arith
      ]
    ]

module _ (first second : List (Option (List ℕ))) where
  -- partners have the path of either
  one_path : (file other : ℕ) (path : List ℕ) → IsPartner first second file other → path_at second other ≡ Some path
      → (path_at first file ≡ Some path) × (rank path first file ≡ rank path second other)
  one_path file other path pair is =
      let same : pair.path ≡ path = cc (pair.of_other, is) in
      (pair.of_file ∙ ap Some same, subst (λ (p : List ℕ). rank p first file ≡ rank p second other) same pair.ranks)

  path_of_both : (file other : ℕ) (path : List ℕ) → IsPartner first second file other → path_at first file ≡ Some path
      → (path_at second other ≡ Some path) × (rank path first file ≡ rank path second other)
  path_of_both file other path pair is =
      let same : pair.path ≡ path = cc (pair.of_file, is) in
      (pair.of_other ∙ ap Some same, subst (λ (p : List ℕ). rank p first file ≡ rank p second other) same pair.ranks)

  -- a file has one partner, and is that of one
  pub one_partner : (file other another : ℕ) → IsPartner first second file other → IsPartner first second file another → other ≡ another
  one_partner file other another pair more =
      let as_path = path_of_both file another pair.path more pair.of_file in
      one_of_rank pair.path second other another pair.of_other as_path.0 (sym pair.ranks ∙ as_path.1)

  pub partner_of_one : (file later other : ℕ) → IsPartner first second file other → IsPartner first second later other → file ≡ later
  partner_of_one file later other pair more =
      let as_path = one_path later other pair.path more pair.of_other in
      one_of_rank pair.path first file later pair.of_file as_path.0 (pair.ranks ∙ sym as_path.1)

  module _ (many : ℕ) (taken : List Bool) (before : (other : ℕ) → IsTakenBefore first second many other (taken_at taken other)) where
    -- a file that is taken, and one that is not
    of_taken : (other : ℕ) → taken_at taken other ≡ true → (file : ℕ) × (file < many) × IsPartner first second file other
    of_taken other is = subst (IsTakenBefore first second many other) is (before other)

    of_free : (other : ℕ) → taken_at taken other ≡ false → (file : ℕ) → file < many → ¬ IsPartner first second file other
    of_free other is = subst (IsTakenBefore first second many other) is (before other)

    -- the first free file of the path of the next file is its partner
    pub found_partner : (path : List ℕ) (other : ℕ) → path_at first many ≡ Some path → IsFirstFree second taken path other → IsPartner first second many other
    found_partner path other is found = record { path = path; of_file = is; of_other = found.of_path; ranks = same }
      where
        too_low : ¬ (rank path second other < rank path first many)
        too_low low =
            let earlier = rank_between path first many (rank path second other) low in
            of_free other found.free earlier.0 earlier.1 (record { path = path; of_file = earlier.2; of_other = found.of_path; ranks = earlier.3 })

        too_high : ¬ (rank path first many < rank path second other)
        too_high high =
            let missed = rank_between path second other (rank path first many) high in
            let taker = of_taken missed.0 (found.first missed.0 missed.1 missed.2) in
            let as_path = one_path taker.0 missed.0 path taker.2 missed.2 in
            absurd (omega (arith, rank_rises path first taker.0 many taker.1 as_path.0, as_path.1, missed.3))

        same : rank path first many ≡ rank path second other
        same = elim (cases_lt (rank path first many) (rank path second other)) [
          | inl high ↦ absurd (too_high high)
          | inr not_high ↦ elim (cases_lt (rank path second other) (rank path first many)) [ inl low ↦ absurd (too_low low) | inr not_low ↦ omega arith ]
        ]

    -- where none is free, it has none
    pub no_partner : (path : List ℕ) → path_at first many ≡ Some path → HasNoneFree second taken path → (other : ℕ) → ¬ IsPartner first second many other
    no_partner path is none other pair =
        let here = path_of_both many other path pair is in
        let taker = of_taken other (none other here.0) in
        absurd (omega (arith, taker.1, partner_of_one taker.0 many other taker.2 pair))

    -- which files are taken by one file more
    pub taken_more : (other : ℕ) → other < length taken → IsPartner first second many other
        → (any : ℕ) → IsTakenBefore first second (many + 1) any (taken_at (set taken other true) any)
    taken_more other inside pair any = elim (cases_eq any other) [ inl here ↦ at_it here | inr elsewhere ↦ by_old elsewhere (taken_at taken any) refl ]
      where
        at_it : any ≡ other → IsTakenBefore first second (many + 1) any (taken_at (set taken other true) any)
        at_it here =
            let is : taken_at (set taken other true) any ≡ true = ap (taken_at (set taken other true)) here ∙ get_or-set_same taken other true false inside in
            subst (IsTakenBefore first second (many + 1) any) (sym is)
            (many, omega arith, subst (λ (k : ℕ). IsPartner first second many k) (sym here) pair)

        by_old : any ≢ other → (b : Bool) → taken_at taken any ≡ b → IsTakenBefore first second (many + 1) any (taken_at (set taken other true) any)
        by_old elsewhere true is =
            let now : taken_at (set taken other true) any ≡ true = get_or-set_other taken other any true false elsewhere ∙ is in
            let taker = of_taken any is in
            subst (IsTakenBefore first second (many + 1) any) (sym now) (taker.0, omega (arith, taker.1), taker.2)
        by_old elsewhere false is =
            let now : taken_at (set taken other true) any ≡ false = get_or-set_other taken other any true false elsewhere ∙ is in
            subst (IsTakenBefore first second (many + 1) any) (sym now) none
          where
            none : (file : ℕ) → file < many + 1 → ¬ IsPartner first second file any
            none file low has =
                elim (cases_lt file many) [
                  | inl before_it ↦ of_free any is file before_it has
                  | inr at_many ↦
                      let same : file ≡ many = omega arith in
                      elsewhere (one_partner many any other (subst (λ (k : ℕ). IsPartner first second k any) same has) pair)
                ]

    pub none_taken_more : ((other : ℕ) → ¬ IsPartner first second many other) → (any : ℕ) → IsTakenBefore first second (many + 1) any (taken_at taken any)
    none_taken_more none any = by_old (taken_at taken any) (before any)
      where
        by_old : (b : Bool) → IsTakenBefore first second many any b → IsTakenBefore first second (many + 1) any b
        by_old true was = (was.0, omega (arith, was.1), was.2)
        by_old false was = λ file low has.
            elim (cases_lt file many) [
              | inl before_it ↦ was file before_it has
              | inr at_many ↦ none any (let same : file ≡ many = omega arith in subst (λ (k : ℕ). IsPartner first second k any) same has)
            ]
