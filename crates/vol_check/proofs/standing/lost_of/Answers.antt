use Rattle.std.proofs.Common.{◌≡◌, ◌++◌, ◌∷◌, [], ◌<◌, ◌≤◌, ◌+◌, ℕ, Bool, cond, List, Vec, length, get_or, take, sym, ap, subst, ◌∙◌, append-nil}
use Rattle.std.specs.Prelude.{filter, false, not, ◌&&◌, slice_index_or}
use Rattle.std.proofs.lemmas.List.{take_all}
use Rattle.std.proofs.lemmas.List.Elements.{filter_more}
use Rattle.vol_format.specs.Directory.{is_free}
use Rattle.vol_check.proofs.standing.lost_of.Goals as goal
use Rattle.vol_check.proofs.standing.lost_of.Goals.{then-is_lost+in_ok-push, else-is_lost}

-- one more place, where it passes
one_more : (passes : ℕ → Bool) (places : List ℕ) (i place : ℕ) (lost longer : List ℕ) (test : Bool) → i < length places → place ≡ get_or places i 0
    → lost ≡ filter passes (take i places) → test ≡ passes place → longer ≡ lost ++ cond test (place ∷ []) [] → longer ≡ filter passes (take (i + 1) places)
one_more passes places i place lost longer test within place_is lost_is test_is more =
    more ∙ ap (λ ps. ps ++ cond test (place ∷ []) []) lost_is
    ∙ ap (λ t. filter passes (take i places) ++ cond t (place ∷ []) []) test_is
    ∙ ap (λ p. filter passes (take i places) ++ cond (passes p) (p ∷ []) []) place_is
    ∙ sym (filter_more passes places i 0 within)

pub loop-number-init : goal.loop-number-init
loop-number-init g c = c.new-lost.ensures.items

pub loop-number-preserved : goal.loop-number-preserved
loop-number-preserved g c =
    let directory = g.F.Format.directory c.args.format.now c.args.volume.now in
    let place = c.place_at-place.result in
    let lost = c.loop-number.lost.items in
    let more : c.if-is_lost.lost.items ≡ lost ++ cond c.is_lost.result (place ∷ []) [] =
    elim c.if-is_lost.branch [
      | then-is_lost+in_ok-push w ↦
          ap (λ (v : Vec ℕ _). v.items) w.lost-is ∙ w.in_ok-push.ensures.items ∙ ap (λ test. lost ++ cond test (place ∷ []) []) (sym w.if-is_lost.true)
      | else-is_lost w ↦
          ap (λ (v : Vec ℕ _). v.items) w.lost-is ∙ sym (append-nil lost) ∙ ap (λ test. lost ++ cond test (place ∷ []) []) (sym w.if-is_lost.false)
    ] in
    one_more (λ place. not (is_free directory place) && not (slice_index_or c.args.taken.now place false)) directory.available c.loop-number.number place
    lost c.if-is_lost.lost.items c.is_lost.result (subst (λ n. c.loop-number.number < n) c.count_available-number-end.ensures c.loop-number-test.true)
    c.place_at-place.ensures.value c.loop-number.invariant c.is_lost.ensures more

pub returns : goal.returns
returns g c =
    let directory = g.F.Format.directory c.args.format.now c.args.volume.now in
    c.loop-number.invariant
    ∙ ap (filter (λ place. not (is_free directory place) && not (slice_index_or c.args.taken.now place false)))
    (take_all c.loop-number.number directory.available (subst (λ n. n ≤ c.loop-number.number) c.count_available-number-end.ensures c.loop-number-test.false))
