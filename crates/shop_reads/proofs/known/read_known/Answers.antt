use Rattle.std.proofs.Common.{◌≡◌, ◌<◌, ◌+◌, ◌++◌, ◌∷◌, [], ◌∙◌, ℕ, ap, arith, length, subst, sym, List}
use Rattle.std.specs.Prelude.{Bool, IsTrue, not, ◌&&◌}
use Rattle.std.proofs.lemmas.List.{length-append}
use Rattle.file_cmds.specs.ReadingOn.{FailedInFile}
use Rattle.file_cmds.specs.lemmas.Reading.{read_twice}
use Rattle.vol_format.specs.Directory.{entries}
use Rattle.file_listings.specs.Known.{FileFacts, facts_in, facts_with}
use Rattle.volume_compare.specs.Contents.{volume_in}
use Rattle.shop_reads.specs.EntriesReply.{AreFactsUpTo, IsCompleteUpTo, bytes_read, bytes_told, parts_found, wants_places}
use Rattle.shop_reads.proofs.FirstFiles.{bytes_more, more_complete, step_known, too_much}
use Rattle.shop_reads.proofs.known.read_known.Goals as goal

pub returns-in_default-clause-many : goal.returns-in_default-clause-many
returns-in_default-clause-many g c = λ honest is.
    let start = g.D.Device.state c.args.device.now in
    let now = g.D.Device.state c.loop-file.device in
    let after = g.D.Device.state c.entry_known.new.device in
    let form = g.F.ShownFormat.form c.args.format.now in
    let files = g.F.FileFormat.files c.args.format.now in
    let meaning = g.F.Format.meaning c.args.format.now in
    let directory = g.F.Format.directory c.args.format.now c.args.volume.now in
    let before = c.loop-file.invariant in
    let facts = facts_in c.loop-file.known.files in
    let low : c.loop-file.file < entries directory = omega (arith, c.loop-file-test.true, c.entries-file-end.ensures) in
    let read = c.in_ok-read.read in
    let known : FileFacts = facts_with read.facts (parts_found (wants_places c.args.options) read.parts) in
    let size : c.unit-unit.result ≡ meaning.unit_size = c.unit-unit.ensures ∙ c.in_ok-files.ensures.reads.same.unit_size ∙ c.requires.fits.unit in
    let over : c.loop-file.left < bytes_told meaning.unit_size known = subst (λ n. c.loop-file.left < bytes_told n known) size c.in_default.ensures.none in
    too_much (volume_in form files meaning directory start.store) c.args.options (FailedInFile meaning directory start after) c.loop-file.file c.loop-file.left facts
    known before.many before.left over
    (step_known form files meaning directory c.args.options start now after c.loop-file.file facts known honest before.reads
    c.in_ok-read.ensures.reads before.many low (before.facts honest)
    (c.in_ok-read.ensures.known (subst IsTrue (sym before.reads.same.honest) honest)))

pub loop-file-preserved : goal.loop-file-preserved
loop-file-preserved g c =
    let start = g.D.Device.state c.args.device.now in
    let now = g.D.Device.state c.loop-file.device in
    let after = g.D.Device.state c.entry_known.new.device in
    let form = g.F.ShownFormat.form c.args.format.now in
    let files = g.F.FileFormat.files c.args.format.now in
    let meaning = g.F.Format.meaning c.args.format.now in
    let directory = g.F.Format.directory c.args.format.now c.args.volume.now in
    let before = c.loop-file.invariant in
    let facts = facts_in c.loop-file.known.files in
    let read = c.in_ok-read.read in
    let known : FileFacts = facts_with read.facts (parts_found (wants_places c.args.options) read.parts) in
    let more = c.in_ok-add.ensures.facts before.runs
    ∙ ap (λ (places : Bool). facts ++ facts_with read.facts (parts_found places read.parts) ∷ []) before.places in
    let low : c.loop-file.file < entries directory = omega (arith, c.loop-file-test.true, c.entries-file-end.ensures) in
    record {
      reads = read_twice start now after before.reads c.in_ok-read.ensures.reads;
      facts = λ honest.
          subst (λ (all : List FileFacts). AreFactsUpTo (volume_in form files meaning directory start.store) c.args.options (FailedInFile meaning directory start after) (c.loop-file.file + 1) all)
          (sym more)
          (step_known form files meaning directory c.args.options start now after c.loop-file.file facts known honest before.reads
          c.in_ok-read.ensures.reads before.many low (before.facts honest)
          (c.in_ok-read.ensures.known (subst IsTrue (sym before.reads.same.honest) honest)));
      opened = c.in_ok-read.ensures.kept;
      within = omega (arith, low);
      places = c.in_ok-add.ensures.places ∙ before.places;
      runs = c.in_ok-add.ensures.runs before.runs;
      many = ap (λ (all : List FileFacts). length all) more ∙ length-append facts (known ∷ []) ∙ ap (λ (n : ℕ). n + 1) before.many;
      left =
          let sum : bytes_read meaning.unit_size (facts_in c.add.new.self.files) ≡ bytes_read meaning.unit_size facts + bytes_told meaning.unit_size known =
          ap (bytes_read meaning.unit_size) more ∙ bytes_more meaning.unit_size facts known in
          let size : c.unit-unit.result ≡ meaning.unit_size = c.unit-unit.ensures ∙ c.in_ok-files.ensures.reads.same.unit_size ∙ c.requires.fits.unit in
          let rest : c.in-Some.rest + bytes_told meaning.unit_size known ≡ c.loop-file.left = subst (λ n. c.in-Some.rest + bytes_told n known ≡ c.loop-file.left) size c.in-Some.ensures.some in
          omega (arith, sum, before.left, rest);
      complete =
          subst (λ (b : Bool). IsCompleteUpTo directory (facts_in c.add.new.self.files) (c.loop-file.file + 1) b) (sym c.in_ok-add.ensures.complete)
          (subst (λ (all : List FileFacts). IsCompleteUpTo directory all (c.loop-file.file + 1) (c.loop-file.known.complete && not c.lacks_digest-lacks.result)) (sym more)
          (more_complete directory facts known c.loop-file.file before.many c.loop-file.known.complete c.lacks_digest-lacks.result c.lacks_digest-lacks.ensures before.complete));
    }

pub returns-clause-complete : goal.returns-clause-complete
returns-clause-complete g c =
    let directory = g.F.Format.directory c.args.format.now c.args.volume.now in
    let all : c.loop-file.file ≡ entries directory = omega (arith, c.loop-file-test.false, c.entries-file-end.ensures, c.loop-file.invariant.within) in
    subst (λ (n : ℕ). IsCompleteUpTo directory (facts_in c.loop-file.known.files) n c.loop-file.known.complete) all c.loop-file.invariant.complete
