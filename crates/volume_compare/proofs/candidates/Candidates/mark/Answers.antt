use Rattle.std.proofs.Common.{◌≡◌, ℕ, ◌<◌, ◌+◌, arith, ap, sym, subst, true, length, slice_index, set}
use Rattle.std.proofs.lemmas.List.{get_or_read}
use Rattle.volume_compare.specs.Candidates.{AreFronts, key_at, no_key}
use Rattle.volume_compare.specs.declared.keys.Key.{Key}
use Rattle.volume_compare.proofs.Free.{front_within, fronts_grow, fronts_stay}
use Rattle.volume_compare.proofs.candidates.Candidates.mark.Goals as goal

pub overflow_add-start : goal.overflow_add-start
overflow_add-start c =
    let of = c.args.self.now in
    omega (arith, front_within of.keys.items of.fronts.items of.taken.items c.requires.fronts c.args.start (omega (arith, c.requires.start)), c.front.ensures, c.requires.few)

pub returns-then-place-start-clause-fronts : goal.returns-then-place-start-clause-fronts
returns-then-place-start-clause-fronts c =
    let of = c.args.self.now in
    let key = get_or_read of.keys.items c.args.place c.index.result.now c.requires.place c.index.ensures no_key in
    let front = slice_index of.fronts.items c.args.start in
    let here : c.args.place ≡ c.args.start + front = omega (arith, c.if-place-start.true, c.front.ensures) in
    let long = c.requires.fronts.long in
    let begun : c.args.start < length of.fronts.items = omega (arith, long, c.requires.start) in
    let grown : c.index_mut-then-place-start.result.now ≡ front =
    get_or_read of.fronts.items c.args.start c.index_mut-then-place-start.result.now begun c.index_mut-then-place-start.ensures.value 0 in
    subst (λ (many : ℕ). AreFronts of.keys.items (set of.fronts.items c.args.start (many + 1)) (set of.taken.items c.index.result.now.file true)) (sym grown)
    (subst (λ (file : ℕ). AreFronts of.keys.items (set of.fronts.items c.args.start (front + 1)) (set of.taken.items file true)) (sym (ap (λ (key : Key). key.file) key))
    (fronts_grow of.keys.items of.fronts.items of.taken.items c.requires.fronts (key_at of.keys.items c.args.place).file c.requires.file
    c.args.start c.requires.start (omega (arith, here, c.requires.place)) (ap (λ (place : ℕ). (key_at of.keys.items place).file) (sym here))))

pub returns-else-place-start-clause-fronts : goal.returns-else-place-start-clause-fronts
returns-else-place-start-clause-fronts c =
    let of = c.args.self.now in
    let key = get_or_read of.keys.items c.args.place c.index.result.now c.requires.place c.index.ensures no_key in
    subst (λ (file : ℕ). AreFronts of.keys.items of.fronts.items (set of.taken.items file true)) (sym (ap (λ (key : Key). key.file) key))
    (fronts_stay of.keys.items of.fronts.items of.taken.items c.requires.fronts (key_at of.keys.items c.args.place).file c.requires.file)
