use Rattle.std.proofs.Common.{◌≡◌, ◌<◌, ℕ, List, Option, Some, None, sym, ap, ◌∙◌, arith, length}
use Rattle.std.proofs.lemmas.List.{get_or_read, length-map}
use Rattle.file_cmds.specs.lemmas.Reading.{none_read}
use Rattle.vol_format.specs.Directory.{Directory, entries}
use Rattle.file_formats.specs.Files.{FileMeaning}
use Rattle.volume_compare.specs.Contents.{content_view}
use Rattle.volume_compare.specs.Findings.{compared_in}
use Rattle.volume_compare.specs.declared.finding.Finding.TheVariants.{Only, Unreadable}
use Rattle.volume_compare.specs.declared.finding.Found.{Found}
use Rattle.volume_compare.specs.declared.finding.Side.TheVariants.{First, Second}
use Rattle.volume_compare.specs.Pairs.{file_path, paths_of}
use Rattle.volume_compare.proofs.Looks.{both_read, only_first, partner_inside, partner_told, unreadable_first, unreadable_second}
use Rattle.volume_compare.proofs.looking.look_at.Goals as goal

inside : (files : FileMeaning) (first : Directory) (partners : List (Option ℕ)) (file : ℕ) → length partners ≡ length (paths_of files first) → file < entries first
    → file < length partners
inside files first partners file long low = omega (arith, length-map first.listed (file_path files))

pub returns-in_default-clause-found : goal.returns-in_default-clause-found
returns-in_default-clause-found g c = λ honest other_honest.
    let format = g.F.Format.meaning c.args.volumes.now.format.now in
    let files = g.F.FileFormat.files c.args.volumes.now.format.now in
    let first = g.F.Format.directory c.args.volumes.now.format.now c.args.volumes.now.first in
    let second = g.F.Format.directory c.args.volumes.now.format.now c.args.volumes.now.second in
    let compared = compared_in c.args.volumes.now.form files format first second (g.D.Device.state c.args.first.now) (g.D.Device.state c.content_of.new.device)
    (g.E.Device.state c.args.second.now) (g.E.Device.state c.args.second.now) in
    let unread = rw c.in_default.is at (c.in_ok-content.ensures.content honest) in
    unreadable_first compared c.args.file c.unreadable.result unread c.unreadable.ensures

pub returns-in_default-index-clause-found : goal.returns-in_default-index-clause-found
returns-in_default-index-clause-found g c = λ honest other_honest.
    let format = g.F.Format.meaning c.args.volumes.now.format.now in
    let files = g.F.FileFormat.files c.args.volumes.now.format.now in
    let first = g.F.Format.directory c.args.volumes.now.format.now c.args.volumes.now.first in
    let second = g.F.Format.directory c.args.volumes.now.format.now c.args.volumes.now.second in
    let compared = compared_in c.args.volumes.now.form files format first second (g.D.Device.state c.args.first.now) (g.D.Device.state c.content_of.new.device)
    (g.E.Device.state c.args.second.now) (g.E.Device.state c.args.second.now) in
    let content = content_view c.in-Some.content in
    let is_content = rw c.in-Some.is at (c.in_ok-content.ensures.content honest) in
    let bytes : c.bytes-bytes.result ≡ length content.text = c.bytes-bytes.ensures in
    let at = get_or_read c.args.volumes.now.pairs.partners.items c.args.file c.index.result.now (inside files first c.args.volumes.now.pairs.partners.items c.args.file c.requires.pairs.told c.requires.file) c.index.ensures None in
    let partner = partner_told files first second c.args.volumes.now.pairs.partners.items c.args.file c.args.volumes.now.pairs.taken.items
    c.requires.pairs c.requires.file None (sym at ∙ c.in_default-index.is) in
    only_first compared c.args.file c.only_first.result content is_content partner
    (c.only_first.ensures ∙ ap {B = Found} (λ (bytes : ℕ). record { finding = Only First; first_bytes = bytes; second_bytes = 0 }) bytes)

pub content_of-requires-2-clause-file : goal.content_of-requires-2-clause-file
content_of-requires-2-clause-file g c =
    let format = g.F.Format.meaning c.args.volumes.now.format.now in
    let files = g.F.FileFormat.files c.args.volumes.now.format.now in
    let first = g.F.Format.directory c.args.volumes.now.format.now c.args.volumes.now.first in
    let second = g.F.Format.directory c.args.volumes.now.format.now c.args.volumes.now.second in
    let at = get_or_read c.args.volumes.now.pairs.partners.items c.args.file c.index.result.now (inside files first c.args.volumes.now.pairs.partners.items c.args.file c.requires.pairs.told c.requires.file) c.index.ensures None in
    let partner = partner_told files first second c.args.volumes.now.pairs.partners.items c.args.file c.args.volumes.now.pairs.taken.items
    c.requires.pairs c.requires.file (Some c.in-Some-index.partner) (sym at ∙ c.in-Some-index.is) in
    partner_inside files first second c.args.file c.in-Some-index.partner partner

pub returns-in-Some-other-clause-found : goal.returns-in-Some-other-clause-found
returns-in-Some-other-clause-found g c = λ honest other_honest.
    let format = g.F.Format.meaning c.args.volumes.now.format.now in
    let files = g.F.FileFormat.files c.args.volumes.now.format.now in
    let first = g.F.Format.directory c.args.volumes.now.format.now c.args.volumes.now.first in
    let second = g.F.Format.directory c.args.volumes.now.format.now c.args.volumes.now.second in
    let compared = compared_in c.args.volumes.now.form files format first second (g.D.Device.state c.args.first.now) (g.D.Device.state c.content_of.new.device)
    (g.E.Device.state c.args.second.now) (g.E.Device.state c.content_of-2.new.device) in
    let content = content_view c.in-Some.content in
    let is_content = rw c.in-Some.is at (c.in_ok-content.ensures.content honest) in
    let bytes : c.bytes-bytes.result ≡ length content.text = c.bytes-bytes.ensures in
    let at = get_or_read c.args.volumes.now.pairs.partners.items c.args.file c.index.result.now (inside files first c.args.volumes.now.pairs.partners.items c.args.file c.requires.pairs.told c.requires.file) c.index.ensures None in
    let partner = partner_told files first second c.args.volumes.now.pairs.partners.items c.args.file c.args.volumes.now.pairs.taken.items
    c.requires.pairs c.requires.file (Some c.in-Some-index.partner) (sym at ∙ c.in-Some-index.is) in
    let is_other = rw c.in-Some-other.is at (c.in_ok-other.ensures.content other_honest) in
    both_read compared c.args.file c.both.result content is_content c.in-Some-index.partner partner (content_view c.in-Some-other.other) is_other
    c.both.ensures.judged (c.both.ensures.first, c.both.ensures.second)

pub returns-clause-found : goal.returns-clause-found
returns-clause-found g c = λ honest other_honest.
    let format = g.F.Format.meaning c.args.volumes.now.format.now in
    let files = g.F.FileFormat.files c.args.volumes.now.format.now in
    let first = g.F.Format.directory c.args.volumes.now.format.now c.args.volumes.now.first in
    let second = g.F.Format.directory c.args.volumes.now.format.now c.args.volumes.now.second in
    let compared = compared_in c.args.volumes.now.form files format first second (g.D.Device.state c.args.first.now) (g.D.Device.state c.content_of.new.device)
    (g.E.Device.state c.args.second.now) (g.E.Device.state c.content_of-2.new.device) in
    let content = content_view c.in-Some.content in
    let is_content = rw c.in-Some.is at (c.in_ok-content.ensures.content honest) in
    let bytes : c.bytes-bytes.result ≡ length content.text = c.bytes-bytes.ensures in
    let at = get_or_read c.args.volumes.now.pairs.partners.items c.args.file c.index.result.now (inside files first c.args.volumes.now.pairs.partners.items c.args.file c.requires.pairs.told c.requires.file) c.index.ensures None in
    let partner = partner_told files first second c.args.volumes.now.pairs.partners.items c.args.file c.args.volumes.now.pairs.taken.items
    c.requires.pairs c.requires.file (Some c.in-Some-index.partner) (sym at ∙ c.in-Some-index.is) in
    let unread = rw c.in-None.is at (c.in_ok-other.ensures.content other_honest) in
    unreadable_second compared c.args.file c.unreadable-in-None.result content is_content c.in-Some-index.partner partner unread
    (c.unreadable-in-None.ensures ∙ ap {B = Found} (λ (bytes : ℕ). record { finding = Unreadable Second; first_bytes = bytes; second_bytes = 0 }) bytes)

pub returns-in_err-content-clause-reads : goal.returns-in_err-content-clause-reads
returns-in_err-content-clause-reads g c = c.content_of.ensures.reads

pub returns-in_err-content-clause-other_reads : goal.returns-in_err-content-clause-other_reads
returns-in_err-content-clause-other_reads g c = none_read (g.E.Device.state c.args.second.now)

pub returns-in_default-clause-reads : goal.returns-in_default-clause-reads
returns-in_default-clause-reads g c = c.content_of.ensures.reads

pub returns-in_default-clause-other_reads : goal.returns-in_default-clause-other_reads
returns-in_default-clause-other_reads g c = none_read (g.E.Device.state c.args.second.now)

pub returns-in_default-index-clause-reads : goal.returns-in_default-index-clause-reads
returns-in_default-index-clause-reads g c = c.content_of.ensures.reads

pub returns-in_default-index-clause-other_reads : goal.returns-in_default-index-clause-other_reads
returns-in_default-index-clause-other_reads g c = none_read (g.E.Device.state c.args.second.now)

pub returns-in_err-other-clause-reads : goal.returns-in_err-other-clause-reads
returns-in_err-other-clause-reads g c = c.content_of.ensures.reads

pub returns-in_err-other-clause-other_reads : goal.returns-in_err-other-clause-other_reads
returns-in_err-other-clause-other_reads g c = c.content_of-2.ensures.reads

pub returns-in-Some-other-clause-reads : goal.returns-in-Some-other-clause-reads
returns-in-Some-other-clause-reads g c = c.content_of.ensures.reads

pub returns-in-Some-other-clause-other_reads : goal.returns-in-Some-other-clause-other_reads
returns-in-Some-other-clause-other_reads g c = c.content_of-2.ensures.reads

pub returns-clause-reads : goal.returns-clause-reads
returns-clause-reads g c = c.content_of.ensures.reads

pub returns-clause-other_reads : goal.returns-clause-other_reads
returns-clause-other_reads g c = c.content_of-2.ensures.reads
