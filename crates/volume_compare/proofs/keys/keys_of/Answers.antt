use Rattle.std.proofs.Common.{rules, ◌≡◌, length}
use Rattle.volume_compare.specs.Pairs.{paths_of}
use Rattle.std.proofs.lemmas.List.Sorted.{answers_always}
use Rattle.volume_compare.proofs.RisingKeys.{in_pair, keys_moved, rising}
use Rattle.volume_compare.proofs.keys.keys_of.Goals as goal

pub returns-clause-keys : goal.returns-clause-keys
returns-clause-keys g c =
    let paths = paths_of (g.F.FileFormat.files c.args.format.now) (g.F.Format.directory c.args.format.now c.args.volume.now) in
    keys_moved paths (length paths) c.in_ok-keys.keys.items c.sort_unstable_by_key.new.self.items c.sort_unstable_by_key.ensures.permutation c.in_ok-keys.ensures

pub returns-clause-rising : goal.returns-clause-rising
returns-clause-rising g c =
    rising c.sort_unstable_by_key.new.self.items
    (c.sort_unstable_by_key.ensures.sorted in_pair (answers_always _ (λ a r. r ≡ in_pair a.0.now) _ (λ f a r f' k. search rules)))
