use Rattle.std.proofs.Common.{map, string_bytes}
use Rattle.folder_adding.specs.HostEntries.{entry_view}
use Rattle.folder_adding.proofs.Told.{all_told}
use Rattle.folder_adding.proofs.telling.added_text.Goals as goal

pub returns : goal.returns
returns c =
    all_told c.args.batch.now (map entry_view c.args.entries.now) c.args.passed.now (string_bytes c.new-text.result)
    (string_bytes c.push_added.new.text) (string_bytes c.push_passed.new.text) (string_bytes c.writeln.new.self)
    c.new-text.ensures.bytes c.in_ok-push_added.ensures c.in_ok-push_passed.ensures c.in_ok-writeln.ensures.bytes
