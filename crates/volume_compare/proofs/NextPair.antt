-- The next file takes its partner.
use Rattle.std.specs.Prelude.{◌≡◌, ◌<◌, ◌+◌, ℕ, Bool, false, List, [], ◌∷◌, ◌++◌, Option, Some, None, MatchOption, length, replicate}
use Rattle.std.proofs.Common.{sym, ◌∙◌, ap, subst, arith, get_or, inl, inr}
use Rattle.std.proofs.lemmas.Bool.{cases_lt}
use Rattle.std.proofs.lemmas.List.{get_or-replicate, get_or_append_left, get_or_past, get_or_push, length-replicate, length_push}
use Rattle.volume_compare.specs.Pairs.{ArePairsUpTo, IsPartner, IsPartnerOf, IsTakenBefore, path_at, taken_at}
use Rattle.volume_compare.specs.Candidates.{HasNoneFree, IsFirstFree, with_taken}
use Rattle.volume_compare.proofs.Ranks.{found_partner, has_entry, no_partner, none_taken_more, taken_more}

-- none of the files is taken at first
pub none_taken : (first second : List (Option (List ℕ))) (many other : ℕ) → IsTakenBefore first second 0 other (taken_at (replicate many false) other)
none_taken first second many other = subst (IsTakenBefore first second 0 other) (sym is) (λ file low. absurd (omega arith))
  where
    is : taken_at (replicate many false) other ≡ false
    is = elim (cases_lt other many) [
      | inl low ↦ get_or-replicate many other false false low
      | inr high ↦ get_or_past (replicate many false) other false (omega (arith, length-replicate many false))
    ]

module _ (first second : List (Option (List ℕ))) (file : ℕ) (taken : List Bool) (before : (other : ℕ) → IsTakenBefore first second file other (taken_at taken other)) where
  abbrev AreTaken : List Bool → Type 0
  AreTaken now = (other : ℕ) → IsTakenBefore first second (file + 1) other (taken_at now other)

  -- what was found for a path is the partner of the file that has it
  pub next_partner : (path : List ℕ) → path_at first file ≡ Some path → (found : Option ℕ)
      → MatchOption found (HasNoneFree second taken path) (IsFirstFree second taken path) → IsPartnerOf first second file found
  next_partner path is (Some other) found = found_partner first second file taken before path other is found
  next_partner path is None none = no_partner first second file taken before path is none

  pub next_taken : length taken ≡ length second → (path : List ℕ) → path_at first file ≡ Some path → (found : Option ℕ)
      → MatchOption found (HasNoneFree second taken path) (IsFirstFree second taken path) → AreTaken (with_taken taken found)
  next_taken long path is (Some other) found =
      taken_more first second file taken before other (let inside = has_entry second other path found.of_path in omega (arith, long))
      (found_partner first second file taken before path other is found)
  next_taken long path is None none = none_taken_more first second file taken before (no_partner first second file taken before path is none)

  -- a directory has no partner
  no_path : path_at first file ≡ None → (other : ℕ) → ¬ IsPartner first second file other
  no_path is other pair = absurd (let has = pair.of_file in cc)

  pub directory_alone : path_at first file ≡ None → IsPartnerOf first second file None
  directory_alone is = no_path is

  pub directory_taken : path_at first file ≡ None → AreTaken taken
  directory_taken is = none_taken_more first second file taken before (no_path is)

-- the pairs of one file more
pub pairs_more : (first second : List (Option (List ℕ))) (file : ℕ) (partners : List (Option ℕ)) (taken now : List Bool) (partner : Option ℕ)
    → ArePairsUpTo first second file partners taken → length now ≡ length second → IsPartnerOf first second file partner
    → ((other : ℕ) → IsTakenBefore first second (file + 1) other (taken_at now other)) → ArePairsUpTo first second (file + 1) (partners ++ partner ∷ []) now
pairs_more first second file partners taken now partner pairs long is are = record {
  told = length_push partners partner ∙ ap (λ (n : ℕ). n + 1) pairs.told;
  long = long;
  each = each;
  others = are;
}
  where
    each : (any : ℕ) → any < file + 1 → IsPartnerOf first second any (get_or (partners ++ partner ∷ []) any None)
    each any low = elim (cases_lt any file) [
      | inl old ↦
          subst (IsPartnerOf first second any) (sym (get_or_append_left partners (partner ∷ []) None any (let told = pairs.told in omega arith))) (pairs.each any old)
      | inr high ↦
          let here : file ≡ any = omega arith in
          let there : get_or (partners ++ partner ∷ []) any None ≡ partner = get_or_push partners partner None any (pairs.told ∙ here) in
          subst (IsPartnerOf first second any) (sym there) (subst (λ (k : ℕ). IsPartnerOf first second k partner) here is)
    ]
