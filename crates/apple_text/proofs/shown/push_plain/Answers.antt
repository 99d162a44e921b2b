use Rattle.std.proofs.Common.{rules, arith}
use Rattle.std.proofs.lemmas.Iterator.{YieldsList-from_map, YieldsList-from_slice}
use Rattle.std.proofs.lemmas.Iterator.Adapters.{items_from_extend}
use Rattle.std.proofs.lemmas.List.Sums.{prefix_len-le-length}
use Rattle.apple_text.specs.Shown.{low}
use Rattle.apple_text.specs.Reading.{shows_plain}
use Rattle.apple_text.proofs.shown.push_plain.Goals as goal

pub split_at-requires : goal.split_at-requires
split_at-requires g c = omega (arith, c.plain_len-len.ensures, prefix_len-le-length shows_plain c.args.bytes.now)

pub returns-clause-shown : goal.returns-clause-shown
returns-clause-shown g c =
    let h = items_from_extend c.extend.result c.extend.ensures.ran
    (YieldsList-from_map _ low (YieldsList-from_slice c.split_at.result.0.now cc) c.map.ensures.closure (λ x r q k. search rules)) in
    search rules
