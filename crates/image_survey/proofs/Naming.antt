-- One entry more of a volume whose files are named.
use Rattle.std.specs.Prelude.{◌≡◌, ◌<◌, ◌≤◌, ◌+◌, ℕ, List, [], ◌∷◌, ◌++◌, Option, Some, None, Contains, count_by, is_some, length, take, drop, if◌then◌else◌}
use Rattle.std.proofs.Common.{sym, ◌∙◌, ap, subst, arith, inl, inr, add-zero}
use Rattle.std.proofs.lemmas.Bool.{cases_lt}
use Rattle.std.proofs.lemmas.List.{length_push, take_more, take-append-drop}
use Rattle.std.proofs.lemmas.List.Elements.{Contains-append_left, Contains-push, Contains-push_cases}
use Rattle.std.proofs.lemmas.List.Sums.{sum_by-append, sum_by_push}
use Rattle.volume_compare.specs.Pairs.{path_at}
use Rattle.image_survey.specs.Naming.{AreNamed}
use Rattle.image_survey.specs.Ordered.{IsNamed, path_bytes, path_size}
use Rattle.image_survey.specs.declared.ordered.Named.{Named}

abbrev one_if : Option (List ℕ) → ℕ
one_if path = if is_some path then 1 else 0

counted : (paths : List (Option (List ℕ))) (file : ℕ) → file < length paths
    → count_by is_some (take (file + 1) paths) ≡ count_by is_some (take file paths) + one_if (path_at paths file)
counted paths file within =
    ap (count_by is_some) (take_more paths file None within) ∙ sum_by_push one_if (take file paths) (path_at paths file)

-- the paths of one entry more
pub bytes_more : (paths : List (Option (List ℕ))) (file : ℕ) → file < length paths
    → path_bytes (take (file + 1) paths) ≡ path_bytes (take file paths) + path_size (path_at paths file)
bytes_more paths file within =
    ap path_bytes (take_more paths file None within) ∙ sum_by_push path_size (take file paths) (path_at paths file)

-- those of the first entries have no more bytes than all
pub bytes_within : (paths : List (Option (List ℕ))) (many : ℕ) → path_bytes (take many paths) ≤ path_bytes paths
bytes_within paths many =
    let whole : path_bytes (take many paths ++ drop many paths) ≡ path_bytes paths = ap path_bytes (take-append-drop many paths) in
    omega (arith, whole, sum_by-append path_size (take many paths) (drop many paths))

module _ (paths : List (Option (List ℕ))) (file : ℕ) (within : file < length paths) (named : List Named) (before : AreNamed paths file named) where
  -- the entry of a file
  pub named_more : (path : List ℕ) → path_at paths file ≡ Some path → AreNamed paths (file + 1) (named ++ record { path = path; file = file } ∷ [])
  named_more path is = record {
    each = λ one has. elim (Contains-push_cases named here one has) [
      | inl old ↦ before.each one old
      | inr same ↦ subst (IsNamed paths) same is
    ];
    all = all;
    once =
        length_push named here ∙ ap (λ (n : ℕ). n + 1) before.once
        ∙ sym (counted paths file within ∙ ap (λ (p : Option (List ℕ)). count_by is_some (take file paths) + one_if p) is);
  }
    where
      here : Named
      here = record { path = path; file = file }

      all : (any : ℕ) (other : List ℕ) → any < file + 1 → path_at paths any ≡ Some other
          → Contains (named ++ here ∷ []) (record { path = other; file = any })
      all any other low has = elim (cases_lt any file) [
        | inl old ↦ Contains-append_left named (here ∷ []) (record { path = other; file = any }) (before.all any other old has)
        | inr high ↦
            let at : any ≡ file = omega arith in
            let same : path ≡ other = cc (is, has, at) in
            let one : here ≡ record { path = other; file = any } =
            ap (λ (p : List ℕ). record { path = p; file = file }) same ∙ ap (λ (n : ℕ). record { path = other; file = n }) (sym at) in
            subst (Contains (named ++ here ∷ [])) one (Contains-push named here)
      ]

  -- the entry of a directory
  pub named_less : path_at paths file ≡ None → AreNamed paths (file + 1) named
  named_less is = record {
    each = before.each;
    all = λ any other low has. elim (cases_lt any file) [
      | inl old ↦ before.all any other old has
      | inr high ↦ absurd (let at : any ≡ file = omega arith in cc (is, has, at))
    ];
    once =
        before.once
        ∙ sym (counted paths file within ∙ ap (λ (p : Option (List ℕ)). count_by is_some (take file paths) + one_if p) is
        ∙ add-zero (count_by is_some (take file paths)));
  }
