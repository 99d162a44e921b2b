use Rattle.std.proofs.Common.{◌≡◌, ◌-◌, ℕ, arith, string_bytes, subst}
use Rattle.std.specs.Prelude.{flat_map}
use Rattle.std.specs.List.{range_with_len}
use Rattle.shop_reads.specs.MapText.{sector_line}
use Rattle.shop_reads.proofs.Pictures.{line_pushed}
use Rattle.shop_reads.proofs.map_lines.sector_lines.Goals as goal

pub loop-below-preserved : goal.loop-below-preserved
loop-below-preserved c =
    line_pushed (λ below. sector_line c.args.places.now (15 - below)) (string_bytes c.loop-below.text) (string_bytes c.push_sector.new.text) c.loop-below.below
    c.loop-below.invariant c.in_ok-push_sector.ensures

pub returns : goal.returns
returns c =
    let all : c.loop-below.below ≡ 16 = omega (arith, c.loop-below-test.false) in
    subst (λ (n : ℕ). string_bytes c.loop-below.text ≡ flat_map (λ below. sector_line c.args.places.now (15 - below)) (range_with_len 0 n)) all c.loop-below.invariant
