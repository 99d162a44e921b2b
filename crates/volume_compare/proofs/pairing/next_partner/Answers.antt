use Rattle.std.proofs.Common.{◌≡◌, ℕ, Some, None, Bool, ◌+◌, ◌∙◌, ap, sym, subst, List}
use Rattle.volume_compare.specs.Pairs.{IsTakenBefore, path_at, paths_of, taken_at}
use Rattle.volume_compare.proofs.Free.{path_of_entry}
use Rattle.volume_compare.proofs.NextPair.{directory_taken, next_partner, next_taken}
use Rattle.volume_compare.proofs.pairing.next_partner.Goals as goal

pub returns-clause-partner : goal.returns-clause-partner
returns-clause-partner g c =
    let files = g.F.FileFormat.files c.args.format.now in
    let first = g.F.Format.directory c.args.format.now c.args.first.now in
    let second = g.F.Format.directory c.args.format.now c.args.second.now in
    let file = c.args.file in
    let taken = c.args.candidates.now.taken.items in
    let path : List ℕ = c.as_bytes.result.now in
    let is : path_at (paths_of files first) file ≡ Some path =
    path_of_entry files first file c.requires.file ∙ sym c.in_ok-path.ensures ∙ c.in-Some.is ∙ ap Some (sym c.as_bytes.ensures) in
    next_partner (paths_of files first) (paths_of files second) file taken c.requires.before path is c.in_ok-partner.partner c.in_ok-partner.ensures.found

pub returns-clause-taken : goal.returns-clause-taken
returns-clause-taken g c =
    let files = g.F.FileFormat.files c.args.format.now in
    let first = g.F.Format.directory c.args.format.now c.args.first.now in
    let second = g.F.Format.directory c.args.format.now c.args.second.now in
    let file = c.args.file in
    let taken = c.args.candidates.now.taken.items in
    let path : List ℕ = c.as_bytes.result.now in
    let is : path_at (paths_of files first) file ≡ Some path =
    path_of_entry files first file c.requires.file ∙ sym c.in_ok-path.ensures ∙ c.in-Some.is ∙ ap Some (sym c.as_bytes.ensures) in
    subst (λ (now : List Bool). (other : ℕ) → IsTakenBefore (paths_of files first) (paths_of files second) (file + 1) other (taken_at now other))
    (sym c.in_ok-partner.ensures.taken)
    (next_taken (paths_of files first) (paths_of files second) file taken c.requires.before c.requires.candidates.long path is c.in_ok-partner.partner
    c.in_ok-partner.ensures.found)

pub returns-in_default-clause-taken : goal.returns-in_default-clause-taken
returns-in_default-clause-taken g c =
    let files = g.F.FileFormat.files c.args.format.now in
    let first = g.F.Format.directory c.args.format.now c.args.first.now in
    let second = g.F.Format.directory c.args.format.now c.args.second.now in
    let file = c.args.file in
    let is : path_at (paths_of files first) file ≡ None = path_of_entry files first file c.requires.file ∙ sym c.in_ok-path.ensures ∙ c.in_default.is in
    directory_taken (paths_of files first) (paths_of files second) file c.args.candidates.now.taken.items c.requires.before is
