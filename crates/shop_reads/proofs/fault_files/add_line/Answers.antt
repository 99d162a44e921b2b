use Rattle.std.proofs.Common.{rules, ◌≡◌, ◌∙◌, ◌<◌, ◌++◌, true, false, List, Some, None, length, get_or, ap, subst, sym, string_bytes}
use Rattle.std.proofs.lemmas.List.{append-nil}
use Rattle.std.proofs.lemmas.Option.{slice_get_within, get_or_from_slice_get}
use Rattle.a2_device.specs.declared.fault.Fault.{Fault}
use Rattle.a2_device.specs.declared.fault.Fault.TheVariants.{Geometry}
use Rattle.vol_format.specs.Directory.{entries}
use Rattle.file_listings.specs.DosText.{line}
use Rattle.shop_reads.specs.FaultLines.{file_fault_text, file_line, first_of, is_of}
use Rattle.shop_reads.proofs.FirstFaults.{found, lacking, missing}
use Rattle.shop_reads.proofs.fault_files.add_line.Goals as goal

pub returns-in_default : goal.returns-in_default
returns-in_default g c =
    let list = c.args.faults.now in
    let none : first_of list c.args.kind ≡ None =
    missing (is_of c.args.kind) list.faults list.files (Geometry 0)
    (subst (λ (faults : List Fault). (number : _) → number < length faults → is_of c.args.kind (get_or faults number (Geometry 0)) ≡ false)
    c.as_slice.ensures (λ number within. c.in_default.ensures.none number (Geometry 0) within)) in
    sym (ap (λ told. string_bytes c.args.text.now ++ file_line c.args.form (g.F.FileFormat.files c.args.format.now) (g.F.Format.directory c.args.format.now c.args.volume.now) told) none
    ∙ append-nil (string_bytes c.args.text.now))

pub returns-in_default-file_of : goal.returns-in_default-file_of
returns-in_default-file_of g c =
    let list = c.args.faults.now in
    let none : first_of list c.args.kind ≡ None =
    lacking (is_of c.args.kind) list.faults list.files c.in-Some.number (Geometry 0)
    (subst (λ (faults : List Fault). (earlier : _) → earlier < c.in-Some.number → is_of c.args.kind (get_or faults earlier (Geometry 0)) ≡ false)
    c.as_slice.ensures (λ earlier before. c.in-Some.ensures.first earlier (Geometry 0) before))
    (sym c.file_of.ensures ∙ c.in_default-file_of.is) in
    sym (ap (λ told. string_bytes c.args.text.now ++ file_line c.args.form (g.F.FileFormat.files c.args.format.now) (g.F.Format.directory c.args.format.now c.args.volume.now) told) none
    ∙ append-nil (string_bytes c.args.text.now))

pub list_entry-requires : goal.list_entry-requires
list_entry-requires g c =
    let files = c.args.faults.now.files in
    let at = sym c.file_of.ensures ∙ c.in-Some-file_of.is in
    subst (λ file. file < entries (g.F.Format.directory c.args.format.now c.args.volume.now))
    (get_or_from_slice_get files c.in-Some.number c.in-Some-file_of.file c.in-Some-file_of.file at)
    (c.requires c.in-Some.number c.in-Some-file_of.file (slice_get_within files c.in-Some.number c.in-Some-file_of.file at))

pub returns : goal.returns
returns g c =
    let list = c.args.faults.now in
    let told : first_of list c.args.kind ≡ Some (get_or list.faults c.in-Some.number (Geometry 0), c.in-Some-file_of.file) =
    found (is_of c.args.kind) list.faults list.files c.in-Some.number c.in-Some-file_of.file (Geometry 0)
    (subst (λ (faults : List Fault). c.in-Some.number < length faults) c.as_slice.ensures c.in-Some.ensures.some)
    (subst (λ (faults : List Fault). is_of c.args.kind (get_or faults c.in-Some.number (Geometry 0)) ≡ true) c.as_slice.ensures (c.in-Some.ensures.is (Geometry 0)))
    (subst (λ (faults : List Fault). (earlier : _) → earlier < c.in-Some.number → is_of c.args.kind (get_or faults earlier (Geometry 0)) ≡ false)
    c.as_slice.ensures (λ earlier before. c.in-Some.ensures.first earlier (Geometry 0) before))
    (sym c.file_of.ensures ∙ c.in-Some-file_of.is) in
    let text = string_bytes c.args.text.now in
    c.in_ok-writeln.ensures.bytes
    ∙ ap (λ (faults : List Fault). text ++ line (file_fault_text c.args.form (get_or faults c.in-Some.number (Geometry 0)) c.as_bytes.result.now)) c.as_slice-2.ensures
    ∙ ap (λ path. text ++ line (file_fault_text c.args.form (get_or list.faults c.in-Some.number (Geometry 0)) path)) (search rules)
    ∙ sym (ap (λ t. string_bytes c.args.text.now ++ file_line c.args.form (g.F.FileFormat.files c.args.format.now) (g.F.Format.directory c.args.format.now c.args.volume.now) t) told)
