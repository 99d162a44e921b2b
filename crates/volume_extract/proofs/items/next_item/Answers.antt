use Rattle.std.proofs.Common.{◌≡◌, ◌∙◌, ap, inr, refl, sym, subst, arith, length, string_bytes}
use Rattle.std.specs.declared.alloc.Global.{Global}
use Rattle.file_cmds.specs.lemmas.Reading.{none_read, read_twice}
use Rattle.file_formats.specs.declared.listing.ListEntry.{ListEntry}
use Rattle.volume_extract.specs.Items.{IsAbove}
use Rattle.volume_extract.specs.Keys.{keys_of}
use Rattle.volume_extract.specs.Kept.{StandsBefore}
use Rattle.volume_extract.specs.Looked.{aux_seen}
use Rattle.volume_extract.specs.Source.{contents_since, source_of}
use Rattle.volume_extract.proofs.Ready.{IsNamedSo, aux_early, early_since, few_keys, found_on, long_at, next_at, text_early}
use Rattle.volume_extract.proofs.SafeHosts.{stands_before}
use Rattle.volume_extract.proofs.Wider.{aux_later, text_later}
use Rattle.volume_extract.proofs.items.next_item.Goals as goal

pub host_of-requires-clause-above : goal.host_of-requires-clause-above
host_of-requires-clause-above g c =
    let opened = c.args.opened.now in
    let own = g.F.TreeFormat.own opened.format.now in
    let directory = g.F.Format.directory opened.format.now opened.volume in
    let some = c.requires.kept in
    let place = c.in-Some.ensures some.0 some.1 in
    subst (StandsBefore (length c.args.kept.now)) (sym c.in_ok-head.ensures.above)
    (stands_before own directory (length c.args.kept.now) c.in-Some.place.above
    (subst (λ n. IsAbove own directory n c.in-Some.place.above) (sym some.1.long) place.is_above))

pub returns-then-len-gt-MOST_HOST-clause-next : goal.returns-then-len-gt-MOST_HOST-clause-next
returns-then-len-gt-MOST_HOST-clause-next g c = λ start items reads are counted.
    let opened = c.args.opened.now in
    let format = opened.format.now in
    let source = source_of opened.form opened.naming opened.texts (g.F.FileFormat.files format) (g.F.Format.meaning format) (g.F.TreeFormat.own format)
    (g.F.Format.directory format opened.volume) in
    let old = g.D.Device.state c.args.device.now in
    let now = g.D.Device.state c.see_early.new.device in
    let same : c.args.entry ≡ length items = c.requires.entry ∙ are.long in
    let early = early_since source start old now reads c.args.entry c.in_ok-early.early c.in_ok-early.ensures.early in
    let aux = c.aux_of.ensures ∙ ap (λ (shown : ListEntry Global). aux_seen opened.form shown c.in_ok-early.early) c.in_ok-shown.ensures in
    let named : IsNamedSo source start (contents_since source start now) items c.name_entry.new.names c.in-Some.place c.in_ok-head.head
    (string_bytes c.in_ok-host.host) c.args.entry = record {
      tail = record { kind = c.in_ok-shown.shown.kind; aux = c.aux_of.result; text = c.is_text.result };
      is_head = c.in_ok-head.ensures.head (keys_of opened.naming items) counted (few_keys opened.naming items c.args.entry same c.requires.few);
      is_kind = ap (λ (shown : ListEntry Global). shown.kind) c.in_ok-shown.ensures;
      has_aux = aux_early source start now c.args.entry c.in_ok-early.early early c.aux_of.result aux;
      says_text = text_early source start now c.args.entry c.in_ok-early.early early c.is_text.result c.is_text.ensures;
      is_path = c.in_ok-host.ensures items are;
    } in
    inr (long_at source start (contents_since source start now) items c.name_entry.new.names c.in-Some.place c.in_ok-head.head (string_bytes c.in_ok-host.host)
    (c.in-Some.ensures items are) c.args.entry same c.requires.few named (omega (arith, c.if-len-gt-MOST_HOST.true, c.len.ensures)))

pub returns-clause-next : goal.returns-clause-next
returns-clause-next g c = λ start items reads are counted.
    let opened = c.args.opened.now in
    let format = opened.format.now in
    let source = source_of opened.form opened.naming opened.texts (g.F.FileFormat.files format) (g.F.Format.meaning format) (g.F.TreeFormat.own format)
    (g.F.Format.directory format opened.volume) in
    let old = g.D.Device.state c.args.device.now in
    let now = g.D.Device.state c.see_early.new.device in
    let last = g.D.Device.state c.see_on.new.device in
    let same : c.args.entry ≡ length items = c.requires.entry ∙ are.long in
    let early = early_since source start old now reads c.args.entry c.in_ok-early.early c.in_ok-early.ensures.early in
    let aux = c.aux_of.ensures ∙ ap (λ (shown : ListEntry Global). aux_seen opened.form shown c.in_ok-early.early) c.in_ok-shown.ensures in
    let reads_now = read_twice start old now reads c.in_ok-early.ensures.reads in
    let head = c.in_ok-head.ensures.head (keys_of opened.naming items) counted (few_keys opened.naming items c.args.entry same c.requires.few) in
    let named : IsNamedSo source start (contents_since source start last) items c.name_entry.new.names c.in-Some.place c.in_ok-head.head
    (string_bytes c.in_ok-host.host) c.args.entry = record {
      tail = record { kind = c.in_ok-shown.shown.kind; aux = c.aux_of.result; text = c.is_text.result };
      is_head = head;
      is_kind = ap (λ (shown : ListEntry Global). shown.kind) c.in_ok-shown.ensures;
      has_aux = aux_later source start now last c.in_ok-seen.ensures.reads c.args.entry c.aux_of.result
          (aux_early source start now c.args.entry c.in_ok-early.early early c.aux_of.result aux);
      says_text = text_later source start now last c.in_ok-seen.ensures.reads c.args.entry c.is_text.result
          (text_early source start now c.args.entry c.in_ok-early.early early c.is_text.result c.is_text.ensures);
      is_path = c.in_ok-host.ensures items are;
    } in
    next_at source start (contents_since source start last) items c.name_entry.new.names c.in-Some.place c.in_ok-head.head (string_bytes c.in_ok-host.host)
    (c.in-Some.ensures items are) c.args.entry same c.requires.few named c.in_ok-seen.seen.body c.in_ok-host.host refl
    (omega (arith, c.if-len-gt-MOST_HOST.false, c.len.ensures))
    (found_on source start now c.args.entry c.in_ok-early.early early last c.in_ok-seen.seen c.in_ok-head.head.text (head.text ∙ c.is_text.ensures)
    c.in_ok-seen.ensures.early (c.in_ok-seen.ensures.seen start reads_now early))

pub returns-in_default-clause-reads : goal.returns-in_default-clause-reads
returns-in_default-clause-reads g c = none_read (g.D.Device.state c.args.device.now)

pub returns-in_default-clause-files : goal.returns-in_default-clause-files
returns-in_default-clause-files g c = c.requires.opened

pub returns-in_err-shown-clause-reads : goal.returns-in_err-shown-clause-reads
returns-in_err-shown-clause-reads g c = none_read (g.D.Device.state c.args.device.now)

pub returns-in_err-shown-clause-files : goal.returns-in_err-shown-clause-files
returns-in_err-shown-clause-files g c = c.requires.opened

pub returns-in_err-early-clause-reads : goal.returns-in_err-early-clause-reads
returns-in_err-early-clause-reads g c = c.see_early.ensures.reads

pub returns-in_err-early-clause-files : goal.returns-in_err-early-clause-files
returns-in_err-early-clause-files g c = c.see_early.ensures.kept

pub returns-in_err-head-clause-reads : goal.returns-in_err-head-clause-reads
returns-in_err-head-clause-reads g c = c.see_early.ensures.reads

pub returns-in_err-head-clause-files : goal.returns-in_err-head-clause-files
returns-in_err-head-clause-files g c = c.see_early.ensures.kept

pub returns-in_err-host-clause-reads : goal.returns-in_err-host-clause-reads
returns-in_err-host-clause-reads g c = c.see_early.ensures.reads

pub returns-in_err-host-clause-files : goal.returns-in_err-host-clause-files
returns-in_err-host-clause-files g c = c.see_early.ensures.kept

pub returns-then-len-gt-MOST_HOST-clause-reads : goal.returns-then-len-gt-MOST_HOST-clause-reads
returns-then-len-gt-MOST_HOST-clause-reads g c = c.see_early.ensures.reads

pub returns-then-len-gt-MOST_HOST-clause-files : goal.returns-then-len-gt-MOST_HOST-clause-files
returns-then-len-gt-MOST_HOST-clause-files g c = c.see_early.ensures.kept

pub returns-in_err-seen-clause-reads : goal.returns-in_err-seen-clause-reads
returns-in_err-seen-clause-reads g c = read_twice (g.D.Device.state c.args.device.now) (g.D.Device.state c.see_early.new.device) (g.D.Device.state c.see_on.new.device) c.see_early.ensures.reads c.see_on.ensures.reads

pub returns-in_err-seen-clause-files : goal.returns-in_err-seen-clause-files
returns-in_err-seen-clause-files g c = c.see_on.ensures.kept

pub returns-clause-reads : goal.returns-clause-reads
returns-clause-reads g c = read_twice (g.D.Device.state c.args.device.now) (g.D.Device.state c.see_early.new.device) (g.D.Device.state c.see_on.new.device) c.see_early.ensures.reads c.see_on.ensures.reads

pub returns-clause-files : goal.returns-clause-files
returns-clause-files g c = c.see_on.ensures.kept

pub see_on-requires-clause-opened : goal.see_on-requires-clause-opened
see_on-requires-clause-opened g c = c.see_early.ensures.kept

pub see_on-requires-clause-entry : goal.see_on-requires-clause-entry
see_on-requires-clause-entry g c = c.requires.inside

pub see_on-requires-clause-shown : goal.see_on-requires-clause-shown
see_on-requires-clause-shown g c = c.in_ok-shown.ensures

pub see_on-requires-clause-places : goal.see_on-requires-clause-places
see_on-requires-clause-places g c = c.requires.places ∙ sym c.see_early.ensures.reads.same.places

pub see_on-requires-clause-fits : goal.see_on-requires-clause-fits
see_on-requires-clause-fits g c = record {
  unit = c.see_early.ensures.reads.same.unit_size ∙ c.requires.fits.unit;
  places = subst (g.F.Format.meaning c.args.opened.now.format.now).Takes (sym c.see_early.ensures.reads.same.places) c.requires.fits.places;
}

pub host_of-requires-clause-number : goal.host_of-requires-clause-number
host_of-requires-clause-number g c = c.in_ok-head.ensures.some

pub host_of-requires-clause-kept : goal.host_of-requires-clause-kept
host_of-requires-clause-kept g c = c.requires.kept
