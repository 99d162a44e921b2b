-- The keys of images in their order.
use Rattle.std.specs.Prelude.{◌≡◌, ◌<◌, ◌+◌, ℕ, List, [], ◌∷◌, ◌++◌, Option, Some, None, Contains, length, map, slice_index_or}
use Rattle.std.proofs.Common.{◌∙◌, ap, arith, inl, inr, subst, sym}
use Rattle.std.proofs.lemmas.Bool.{cases_lt}
use Rattle.std.proofs.lemmas.List.{get_or-map, length-map}
use Rattle.std.proofs.lemmas.List.Elements.{Contains-append_left, Contains-push, Contains-push_cases}
use Rattle.std.proofs.lemmas.List.Quantifiers.{all_pairs_push}
use Rattle.vol_format.proofs.Lists.{element}
use Rattle.image_survey.specs.Grouping.{AreNumbered}
use Rattle.image_survey.specs.Same.{key_at, no_candidate}
use Rattle.image_survey.specs.Told.{candidate_of, key_by, keys_by}
use Rattle.image_survey.specs.declared.kept.Kept.{Kept}
use Rattle.image_survey.specs.declared.likeness.Likeness.{Likeness}
use Rattle.image_survey.specs.declared.same.NumberedKey.{NumberedKey}

-- the key of one of the images that are kept
pub key_of_kept : (likeness : Likeness) (kept : List Kept) (n : ℕ) (one : Kept) → n < length kept → one ≡ slice_index_or kept n one
    → key_at (keys_by likeness (map candidate_of kept)) n ≡ key_by likeness (candidate_of one)
key_of_kept likeness kept n one within is =
    get_or-map (key_by likeness) (map candidate_of kept) n no_candidate None (omega (arith, within, length-map kept candidate_of))
    ∙ ap (key_by likeness) (get_or-map candidate_of kept n one no_candidate within)
    ∙ ap (λ (k : Kept). key_by likeness (candidate_of k)) (sym is)

pub many_keys : (likeness : Likeness) (kept : List Kept) → length (keys_by likeness (map candidate_of kept)) ≡ length kept
many_keys likeness kept = length-map (map candidate_of kept) (key_by likeness) ∙ length-map kept candidate_of

-- ---- one image more

pub none_yet : (keys : List (Option (List ℕ))) → AreNumbered keys 0 []
none_yet keys = record {
  each = λ one has. absurd (omega (arith, has.1));
  all = λ n key low has. absurd (omega (arith, low));
  rising = λ i j d less low. absurd (omega (arith, low));
}

module _ (keys : List (Option (List ℕ))) (n : ℕ) (numbered : List NumberedKey) (before : AreNumbered keys n numbered) where
  pub numbered_same : key_at keys n ≡ None → AreNumbered keys (n + 1) numbered
  numbered_same none = record {
    each = λ one has. let old = before.each one has in (omega (arith, old.0), old.1);
    all = λ m key low has. elim (cases_lt m n) [
      | inl less ↦ before.all m key less has
      | inr high ↦ absurd (let at : m ≡ n = omega (arith, high, low) in cc (none, subst (λ k. key_at keys k ≡ Some key) at has))
    ];
    rising = before.rising;
  }

  pub numbered_more : (key : List ℕ) → key_at keys n ≡ Some key → AreNumbered keys (n + 1) (numbered ++ record { key = key; number = n } ∷ [])
  numbered_more key is = record {
    each = λ one has. elim (Contains-push_cases numbered here one has) [
      | inl old ↦ let is_old = before.each one old in (omega (arith, is_old.0), is_old.1)
      | inr same ↦ subst (λ (k : NumberedKey). (k.number < n + 1) × (key_at keys k.number ≡ Some k.key)) same (omega arith, is)
    ];
    all = λ m other low has. elim (cases_lt m n) [
      | inl less ↦ Contains-append_left numbered (here ∷ []) (record { key = other; number = m }) (before.all m other less has)
      | inr high ↦
          let at : n ≡ m = omega (arith, high, low) in
          let same : key ≡ other = cc (is, subst (λ k. key_at keys k ≡ Some other) (sym at) has) in
          let one : here ≡ record { key = other; number = m } =
          ap (λ (k : List ℕ). record { key = k; number = n }) same ∙ ap (λ (k : ℕ). record { key = other; number = k }) at in
          subst (Contains (numbered ++ here ∷ [])) one (Contains-push numbered here)
    ];
    rising = all_pairs_push (λ (one later : NumberedKey). one.number < later.number) numbered here before.rising
        (λ k d low. (before.each (slice_index_or numbered k d) (element numbered k d low)).0);
  }
    where
      here : NumberedKey
      here = record { key = key; number = n }
