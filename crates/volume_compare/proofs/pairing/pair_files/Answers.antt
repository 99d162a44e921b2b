use Rattle.std.proofs.Common.{◌≡◌, ◌+◌, ℕ, Option, ap, arith, sym, subst, List, Bool, length}
use Rattle.std.proofs.lemmas.List.{length-map}
use Rattle.vol_format.specs.Directory.{entries}
use Rattle.volume_compare.specs.Pairs.{ArePairsUpTo, IsTakenBefore, file_path, paths_of, taken_at}
use Rattle.volume_compare.proofs.NextPair.{none_taken, pairs_more}
use Rattle.volume_compare.proofs.pairing.pair_files.Goals as goal

pub returns : goal.returns
returns g c =
    let files = g.F.FileFormat.files c.args.format.now in
    let first = g.F.Format.directory c.args.format.now c.args.first.now in
    let second = g.F.Format.directory c.args.format.now c.args.second.now in
    let all : c.loop-file.file ≡ length (paths_of files first) =
    omega (arith, c.loop-file-test.false, c.entries-file-end.ensures, c.loop-file.auto.file-end, length-map first.listed (file_path files)) in
    subst (λ (taken : List Bool). ArePairsUpTo (paths_of files first) (paths_of files second) (length (paths_of files first)) c.loop-file.partners.items taken)
    (sym c.into_taken.ensures)
    (subst (λ (many : ℕ). ArePairsUpTo (paths_of files first) (paths_of files second) many c.loop-file.partners.items c.loop-file.candidates.taken.items) all
    c.loop-file.invariant.pairs)

pub loop-file-init : goal.loop-file-init
loop-file-init g c =
    let files = g.F.FileFormat.files c.args.format.now in
    let first = paths_of files (g.F.Format.directory c.args.format.now c.args.first.now) in
    let second = paths_of files (g.F.Format.directory c.args.format.now c.args.second.now) in
    let candidates = c.in_ok-candidates.ensures.candidates in
    record {
      pairs = record {
        told = ap (λ (partners : List (Option ℕ)). length partners) c.in_ok-partners.ensures.items;
        long = candidates.long;
        each = λ file none. absurd (omega arith);
        others = λ other. subst (λ (taken : List Bool). IsTakenBefore first second 0 other (taken_at taken other)) (sym c.in_ok-candidates.ensures.free)
            (none_taken first second (entries (g.F.Format.directory c.args.format.now c.args.second.now)) other);
      };
      candidates = candidates;
    }

pub loop-file-preserved : goal.loop-file-preserved
loop-file-preserved g c =
    let files = g.F.FileFormat.files c.args.format.now in
    let first = paths_of files (g.F.Format.directory c.args.format.now c.args.first.now) in
    let second = paths_of files (g.F.Format.directory c.args.format.now c.args.second.now) in
    let told = c.in_ok-next_partner.ensures in
    let now = c.next_partner.new.candidates.taken.items in
    record {
      pairs = subst (λ (partners : List (Option ℕ)). ArePairsUpTo first second (c.loop-file.file + 1) partners now) (sym c.in_ok-push.ensures.items)
          (pairs_more first second c.loop-file.file c.loop-file.partners.items c.loop-file.candidates.taken.items now c.in_ok-next_partner.field-0
          c.loop-file.invariant.pairs told.kept.long told.partner told.taken);
      candidates = told.kept;
    }

pub next_partner-requires-clause-file : goal.next_partner-requires-clause-file
next_partner-requires-clause-file g c = omega (arith, c.loop-file-test.true, c.entries-file-end.ensures)

pub next_partner-requires-clause-candidates : goal.next_partner-requires-clause-candidates
next_partner-requires-clause-candidates g c = c.loop-file.invariant.candidates

pub next_partner-requires-clause-before : goal.next_partner-requires-clause-before
next_partner-requires-clause-before g c = c.loop-file.invariant.pairs.others
