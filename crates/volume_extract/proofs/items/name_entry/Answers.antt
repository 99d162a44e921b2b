use Rattle.std.proofs.Common.{◌≡◌, ◌≤◌, ◌+◌, ◌++◌, ◌∷◌, [], ◌∙◌, ap, refl, subst, length, count_by}
use Rattle.host_folders.specs.HostNames.{Entry, bare_name, folded}
use Rattle.host_folders.specs.Laws.{IsEntry}
use Rattle.vol_format.specs.Directory.{entry_of}
use Rattle.volume_extract.specs.Counts.{AreCounted}
use Rattle.volume_extract.specs.Keys.{NameKey, is_key, key_with}
use Rattle.volume_extract.specs.Naming.{key_by}
use Rattle.volume_extract.specs.declared.kept.Head.{Head}
use Rattle.volume_extract.proofs.items.name_entry.Goals as goal

pub returns-clause-head : goal.returns-clause-head
returns-clause-head g c = λ keys counted few.
    let opened = c.args.opened.now in
    let own = g.F.TreeFormat.own opened.format.now (entry_of (g.F.Format.directory opened.format.now opened.volume) c.args.entry) in
    let head : Head = record {
      above = c.args.place.above;
      number = c.in_ok-number.number;
      depth = c.args.place.depth;
      kind = c.args.tail.kind;
      aux = c.args.tail.aux;
      directory = c.is_folder.result;
      text = c.args.tail.text;
    } in
    let stored = c.stored_of-stored.ensures in
    let number = c.in_ok-number.ensures.counted keys counted few in
    let key : key_with c.args.place.above c.in_ok-bare.bare.items ≡ key_by opened.form own opened.naming head =
    ap (key_with c.args.place.above) (c.in_ok-bare.ensures ∙ ap (λ (entry : Entry). folded (bare_name opened.naming entry)) stored.stored) in
    record {
      above = refl;
      depth = refl;
      kind = refl;
      aux = refl;
      text = refl;
      directory = c.is_folder.ensures;
      fits = subst IsEntry stored.stored stored.fits;
      short = subst (λ (entry : Entry). length entry.name ≤ 30) stored.stored stored.short;
      number = number.0 ∙ ap (λ (key : NameKey). count_by (is_key key) keys + 1) key;
      counted = subst (λ (key : NameKey). AreCounted (keys ++ key ∷ []) c.number.new.self) key number.1;
    }
