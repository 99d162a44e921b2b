use Rattle.std.proofs.Common.{◌≡◌, ℕ, ◌<◌, ◌+◌, ◌-◌, ◌∙◌, arith, ap, sym, subst, List, Bool, length, take, drop, min, slice_index}
use Rattle.std.proofs.lemmas.List.{length-map}
use Rattle.vol_format.specs.Directory.{entries}
use Rattle.volume_compare.specs.Pairs.{file_path, paths_of}
use Rattle.volume_compare.specs.Candidates.{IsFreeAt, NoneFreeIn, key_at}
use Rattle.volume_compare.specs.declared.keys.Key.{Key}
use Rattle.volume_compare.proofs.Free.{first_free, front_within, none_free, searched_inside}
use Rattle.volume_compare.proofs.candidates.Candidates.find.Goals as goal

pub overflow_add-run : goal.overflow_add-run
overflow_add-run g c =
    let of = c.args.self.now in
    let are = c.requires.candidates in
    let within = front_within of.keys.items of.fronts.items of.taken.items are.are_fronts c.args.run.start (omega (arith, c.requires.run.begun)) in
    omega (arith, within, c.front.ensures, are.are_keys.short, are.few)

from_is : (start end front from : ℕ) (fronts : List ℕ) → from ≡ min end (start + front) → front ≡ slice_index fronts start → from ≡ min end (start + slice_index fronts start)
from_is start end front from fronts is front_is = is ∙ ap (λ (front : ℕ). min end (start + front)) front_is

pub first_free-requires-clause-files : goal.first_free-requires-clause-files
first_free-requires-clause-files g c =
    let of = c.args.self.now in
    let files = g.F.FileFormat.files c.args.format.now in
    let directory = g.F.Format.directory c.args.format.now c.args.volume.now in
    let start = c.args.run.start in
    let end = c.args.run.end in
    let from = c.min-from.result in
    subst (λ (keys : List Key). (place : ℕ) → place < length (take (end - from) (drop from keys)) → (key_at (take (end - from) (drop from keys)) place).file < entries directory)
    (sym c.deref.ensures.value)
    (λ place low. omega (
      arith,
      length-map directory.listed (file_path files),
      searched_inside (paths_of files directory) of.keys.items of.fronts.items of.taken.items c.requires.candidates c.args.path.now start end from c.requires.run
          (from_is start end c.front.result from of.fronts.items c.min-from.ensures c.front.ensures) place low,
    ))

pub returns-in-Some : goal.returns-in-Some
returns-in-Some g c =
    let of = c.args.self.now in
    let paths = paths_of (g.F.FileFormat.files c.args.format.now) (g.F.Format.directory c.args.format.now c.args.volume.now) in
    let start = c.args.run.start in
    let end = c.args.run.end in
    let from = c.min-from.result in
    let found = rw c.in-Some.is at c.in_ok-found.ensures in
    first_free paths of.keys.items of.fronts.items of.taken.items c.requires.candidates c.args.path.now start end from c.requires.run
    (from_is start end c.front.result from of.fronts.items c.min-from.ensures c.front.ensures) c.in-Some.behind
    (subst (λ (keys : List Key). IsFreeAt paths of.taken.items c.args.path.now (take (end - from) (drop from keys)) c.in-Some.behind) c.deref.ensures.value
    (subst (λ (taken : List Bool). IsFreeAt paths taken c.args.path.now (take (end - from) (drop from c.deref.result.now)) c.in-Some.behind) c.deref-2.ensures.value found))

pub returns-in-None : goal.returns-in-None
returns-in-None g c =
    let of = c.args.self.now in
    let paths = paths_of (g.F.FileFormat.files c.args.format.now) (g.F.Format.directory c.args.format.now c.args.volume.now) in
    let start = c.args.run.start in
    let end = c.args.run.end in
    let from = c.min-from.result in
    let found = rw c.in-None.is at c.in_ok-found.ensures in
    let searched : List Key → List Key = λ (keys : List Key). take (end - from) (drop from keys) in
    none_free paths of.keys.items of.fronts.items of.taken.items c.requires.candidates c.args.path.now start end from c.requires.run
    (from_is start end c.front.result from of.fronts.items c.min-from.ensures c.front.ensures)
    (subst (λ (keys : List Key). NoneFreeIn paths of.taken.items c.args.path.now (searched keys) (length (searched keys))) c.deref.ensures.value
    (subst (λ (taken : List Bool). NoneFreeIn paths taken c.args.path.now (searched c.deref.result.now) (length (searched c.deref.result.now))) c.deref-2.ensures.value found))
