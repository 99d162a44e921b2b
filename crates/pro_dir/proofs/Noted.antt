-- The last of the first entries that is of a directory, among fewer of them.
use Rattle.std.proofs.Common.{◌≡◌, ◌<◌, ◌≤◌, ℕ, zero, suc, subst, sym, arith, inl, inr, Bool, true, false, if◌then◌else◌, List, Some, None}
use Rattle.std.proofs.lemmas.Bool.{cases_eq}
use Rattle.pro_dir.specs.declared.entry.Entry.{Entry}
use Rattle.pro_dir.specs.Parents.{entry_in, last_directory, leads_to}

-- one that comes before all that are left out is the last still
pub still_last : (entries : List Entry) (count number key parent : ℕ) → number ≤ count → parent < number → last_directory entries count key ≡ Some parent
    → last_directory entries number key ≡ Some parent
still_last entries zero number key parent fewer before is = absurd (cc)
still_last entries (suc count) number key parent fewer before is = elim (cases_eq number (suc count)) [
  | inl same ↦ subst (λ n. last_directory entries n key ≡ Some parent) (sym same) is
  | inr apart ↦ let within : number ≤ count = omega (arith, fewer, apart) in by_test within (still_last entries count number key parent within before) (leads_to (entry_in entries count) key) is
]
  where
    by_test : number ≤ count → (last_directory entries count key ≡ Some parent → last_directory entries number key ≡ Some parent) → (here : Bool)
        → (if here then Some count else last_directory entries count key) ≡ Some parent → last_directory entries number key ≡ Some parent
    by_test within earlier true found = absurd (let same : count ≡ parent = cc in omega (arith, same, before, within))
    by_test within earlier false found = earlier found

-- where there is none, there is none among fewer
pub still_none : (entries : List Entry) (count number key : ℕ) → number ≤ count → last_directory entries count key ≡ None → last_directory entries number key ≡ None
still_none entries zero number key fewer is = let none : number ≡ 0 = omega (arith, fewer) in subst (λ n. last_directory entries n key ≡ None) (sym none) is
still_none entries (suc count) number key fewer is = elim (cases_eq number (suc count)) [
  | inl same ↦ subst (λ n. last_directory entries n key ≡ None) (sym same) is
  | inr apart ↦ by_test (still_none entries count number key (omega (arith, fewer, apart))) (leads_to (entry_in entries count) key) is
]
  where
    by_test : (last_directory entries count key ≡ None → last_directory entries number key ≡ None) → (here : Bool)
        → (if here then Some count else last_directory entries count key) ≡ None → last_directory entries number key ≡ None
    by_test earlier true found = absurd (cc)
    by_test earlier false found = earlier found
