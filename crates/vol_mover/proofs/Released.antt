-- Releases fit, and so does a change of the map: what they leave lost.
use Rattle.std.proofs.Common.{◌≡◌, ◌⊎◌, ℕ, ◌+◌, ◌≤◌, List, [], ◌∷◌, ◌++◌, length, get_or, refl, ap, sym, ◌∙◌, arith, inl, inr, subst, length-append}
use Rattle.std.specs.Prelude.{All}
use Rattle.std.proofs.lemmas.Bool.{cases_eq}
use Rattle.std.proofs.lemmas.List.{append-nil}
use Rattle.std.proofs.lemmas.List.Elements.{All-cons, All-head, All-tail, Contains-append_right}
use Rattle.vol_layout.specs.Layouts.{AreDistinct}
use Rattle.vol_format.specs.Directory.{Directory, map_place}
use Rattle.vol_format.specs.Laws.{IsDirectory}
use Rattle.vol_format.specs.Meaning.{Meaning}
use Rattle.vol_laws.specs.declared.mark.Mark.{Mark}
use Rattle.vol_mover.specs.Tasks.{Task, Map, FitsMark, IsAgenda, lost_after}
use Rattle.vol_mover.specs.Writes.{freed, with_mark, releases}
use Rattle.vol_mover.proofs.Places.{without-between, apart_between}
use Rattle.vol_mover.proofs.Releases.{headed, same_unit, other_unit}
use Rattle.vol_mover.proofs.Spare.{IsSpare, between, spare_freed, fits_more, available_below, two_units}

-- a write of the map may be made where so many places are lost
abbrev pub IsFew : ℕ → ℕ → ℕ → ℕ → ℕ → Type 0
IsFew units first writes moves lost =
    (lost ≤ 1) ⊎ ((2 ≤ units) × (lost ≤ 2)) ⊎ ((writes ≡ 0) × (lost ≤ first)) ⊎ ((2 ≤ units) × (moves ≡ 0) × Unit {0} × (lost ≤ first + 1))

-- at so many places lost or fewer, for the next write, and for each where the map has several units
abbrev pub AreFew : ℕ → ℕ → ℕ → ℕ → ℕ → Type 0
AreFew units first writes moves most = (lost w : ℕ) → lost ≤ most → (w ≡ writes) ⊎ (2 ≤ units) → IsFew units first w moves lost

module _ (format : Meaning) (directory : Directory) (is : IsDirectory format directory) (first : ℕ) (at : List ℕ) (m : ℕ) where
  abbrev units : ℕ
  units = length directory.map_units

  -- the write of a unit with one more mark before others
  one_more : (before behind : List ℕ) (place w : ℕ) (marks : List Mark) (tasks : List Task) → AreDistinct (before ++ place ∷ behind) → IsSpare directory at place
      → IsFew units first w m (length (before ++ place ∷ behind)) → All (FitsMark directory (between at (before ++ behind) w m) (map_place directory place)) marks
      → IsAgenda directory first (between at (lost_after (before ++ behind) marks) (w + 1) m) tasks
      → IsAgenda directory first (between at (before ++ place ∷ behind) w m) (Map (map_place directory place) (freed place ∷ marks) ∷ tasks)
  one_more before behind place w marks tasks apart spare few fit rest = (
    (
      refl,
      is.map_below place (available_below format directory is place spare.available),
      All-cons (FitsMark directory (between at (before ++ place ∷ behind) w m) (map_place directory place)) (freed place) marks
          (spare_freed directory at (before ++ place ∷ behind) w m (map_place directory place) place spare refl (Contains-append_right before (place ∷ behind) place (0, omega arith, refl)))
          (λ i d within. fits_more directory at before behind w w m (map_place directory place) place (get_or marks i d) (fit i d within)),
    ),
    few,
    subst (λ lost. IsAgenda directory first (between at (lost_after lost marks) (w + 1) m) tasks) (sym (without-between before behind place apart)) rest,
  )

  longer : (before behind : List ℕ) (place : ℕ) → length (before ++ behind) ≤ length (before ++ place ∷ behind)
  longer before behind place = omega (arith, length-append before behind, length-append before (place ∷ behind))

  pub released : (kept places : List ℕ) (w : ℕ) (rest : List Task) → AreDistinct (kept ++ places) → All (IsSpare directory at) places
      → AreFew units first w m (length (kept ++ places)) → ((v : ℕ) → IsAgenda directory first (between at kept v m) rest)
      → IsAgenda directory first (between at (kept ++ places) w m) (releases directory places ++ rest)
  released kept [] w rest apart spare few next = subst (λ lost. IsAgenda directory first (between at lost w m) rest) (sym (append-nil kept)) (next w)
  released kept (p ∷ []) w rest apart spare few next =
      one_more kept [] p w [] rest apart (All-head (IsSpare directory at) p [] spare) (few (length (kept ++ p ∷ [])) w (omega arith) (inl refl)) (λ i d within. absurd (omega (arith, within)))
      (subst (λ lost. IsAgenda directory first (between at lost (w + 1) m) rest) (sym (append-nil kept)) (next (w + 1)))
  released kept (p ∷ q ∷ qs) w rest apart spare few next =
      let here = All-head (IsSpare directory at) p (q ∷ qs) spare in
      let later = All-tail (IsSpare directory at) p (q ∷ qs) spare in
      let apart_later = apart_between kept (q ∷ qs) p apart in
      let fewer = longer kept (q ∷ qs) p in
      let now = few (length (kept ++ p ∷ q ∷ qs)) w (omega arith) (inl refl) in
      let h = headed (map_place directory q) (freed q) (releases directory qs) in
      elim (cases_eq (map_place directory q) (map_place directory p)) [
        | inl same ↦
            let behind = released kept (q ∷ qs) w rest apart_later later (λ lost v most which. few lost v (omega (arith, most, fewer)) which) next in
            let split = subst (λ tasks. IsAgenda directory first (between at (kept ++ q ∷ qs) w m) (tasks ++ rest)) h.is behind in
            let joined = one_more kept (q ∷ qs) p w h.marks (h.rest ++ rest) apart here now (subst (λ unit. All (FitsMark directory (between at (kept ++ q ∷ qs) w m) unit) h.marks) same split.0.2) split.2 in
            let whole : releases directory (p ∷ q ∷ qs) ≡ Map (map_place directory p) (freed p ∷ h.marks) ∷ h.rest =
            ap (with_mark (map_place directory p) (freed p)) (h.is ∙ ap (λ unit. Map unit h.marks ∷ h.rest) same) ∙ same_unit (map_place directory p) (freed p) h.marks h.rest in
            subst (λ tasks. IsAgenda directory first (between at (kept ++ p ∷ q ∷ qs) w m) (tasks ++ rest)) (sym whole) joined
        | inr other ↦
            let two = two_units format directory is q p (All-head (IsSpare directory at) q qs later).available here.available other in
            let behind = released kept (q ∷ qs) (w + 1) rest apart_later later (λ lost v most which. few lost v (omega (arith, most, fewer)) (inr two)) next in
            let alone = one_more kept (q ∷ qs) p w [] (releases directory (q ∷ qs) ++ rest) apart here now (λ i d within. absurd (omega (arith, within))) behind in
            let whole : releases directory (p ∷ q ∷ qs) ≡ Map (map_place directory p) (freed p ∷ []) ∷ releases directory (q ∷ qs) =
            ap (with_mark (map_place directory p) (freed p)) h.is
            ∙ (other_unit (map_place directory p) (map_place directory q) (freed p) h.marks h.rest other ∙ ap (λ tasks. Map (map_place directory p) (freed p ∷ []) ∷ tasks) (sym h.is)) in
            subst (λ tasks. IsAgenda directory first (between at (kept ++ p ∷ q ∷ qs) w m) (tasks ++ rest)) (sym whole) alone
      ]
