use Rattle.std.proofs.Common.{◌≡◌, ◌+◌, arith, count_by, refl}
use Rattle.std.proofs.lemmas.List.Sums.{count_by-le-length}
use Rattle.volume_extract.specs.Keys.{is_key}
use Rattle.volume_extract.specs.Counts.{key_view}
use Rattle.volume_extract.specs.declared.names.Key.{Key}
use Rattle.volume_extract.proofs.SameKeys.{counted_one_more}
use Rattle.volume_extract.proofs.names.Names.number.Goals as goal

pub returns-clause-counted : goal.returns-clause-counted
returns-clause-counted c = λ keys counted few.
    let key : Key = record { above = c.args.above; name = c.args.name } in
    let number : c.saturating_add-number.result ≡ count_by (is_key (key_view key)) keys + 1 =
    omega (arith, c.saturating_add-number.ensures, c.count.ensures, counted key, count_by-le-length (is_key (key_view key)) keys, few) in
    let updates = c.in_ok-insert.ensures.updates in
    (number, λ q. rw (updates.0 q) (counted_one_more keys (key_view key) (key_view q) (is_key (key_view key) (key_view q)) refl _ c.saturating_add-number.result number (counted q)))
