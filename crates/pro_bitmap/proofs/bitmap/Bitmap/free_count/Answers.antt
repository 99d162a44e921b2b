use Rattle.std.proofs.Common.{◌≡◌, ◌<◌, ◌≤◌, ◌+◌, ◌-◌, ◌*◌, [], List, ℕ, sym, ◌∙◌, ap, arith, length, get_or}
use Rattle.std.proofs.lemmas.List.{get_or_default}
use Rattle.a2_device.specs.Device.{unit_at}
use Rattle.pro_bitmap.specs.Bitmap.{FreeMap, free_below, units_of}
use Rattle.pro_bitmap.proofs.Counting.{free_before, free_before-zero, free_before-le, free_before-all, next_unit}
use Rattle.pro_bitmap.proofs.bitmap.Bitmap.free_count.Goals as goal
use Rattle.pro_bitmap.proofs.bitmap.Bitmap.free_count.Goals.{After-free_in_unit-free}

pub loop-unit-init : goal.loop-unit-init
loop-unit-init g c =
    let map = c.args.self.now in
    let total : c.self.inside.total ≡ map.total = ap (λ (m : FreeMap). m.total) c.self.view_is in
    let none : map.total - c.self.inside.total ≡ 0 = omega (arith, total) in
    record { small = omega (arith, total); left = omega (arith, total); free = free_before-zero map ∙ ap (free_before map) (sym none) }

-- one unit more
more : (g : _) (c : After-free_in_unit-free g)
    → c.loop-unit.free + c.free_in_unit-free.result ≡ free_before c.args.self.now (c.args.self.now.total - (c.loop-unit.left - 4096))
more g c =
    let map = c.args.self.now in
    let total : c.self.inside.total ≡ map.total = ap (λ (m : FreeMap). m.total) c.self.view_is in
    let units : c.as_slice-unit-items.result.now ≡ map.units = c.as_slice-unit-items.ensures.value ∙ ap (λ (m : FreeMap). m.units) c.self.view_is in
    let all : length c.as_slice-unit-items.result.now ≡ units_of map.total =
    ap length c.as_slice-unit-items.ensures.value ∙ c.self.invariant.all ∙ ap units_of total in
    let here : get_or c.as_slice-unit-items.result.now c.loop-unit.unit-index [] ≡ unit_at map.units c.loop-unit.unit-index =
    ap (λ (us : List (List ℕ)). unit_at us c.loop-unit.unit-index) units in
    omega (
      arith,
      c.loop-unit.invariant.free,
      c.free_in_unit-free.ensures ∙ ap (λ (unit : List ℕ). free_below unit c.min.result) (get_or_default c.as_slice-unit-items.result.now c.loop-unit.unit-index _ [] c.loop-unit-test.true),
      next_unit map c.loop-unit.unit-index c.loop-unit.left c.min.result (get_or c.as_slice-unit-items.result.now c.loop-unit.unit-index []) (omega (arith, c.loop-unit-test.true, all)) c.loop-unit.invariant.left c.min.ensures here,
    )

pub overflow_add-free : goal.overflow_add-free
overflow_add-free g c =
    record { fits = omega (arith, more g c, free_before-le c.args.self.now (c.args.self.now.total - (c.loop-unit.left - 4096)), c.loop-unit.invariant.small) }

pub loop-unit-preserved : goal.loop-unit-preserved
loop-unit-preserved g c = record {
  small = c.loop-unit.invariant.small;
  left = omega (arith, c.saturating_sub-left.ensures, c.loop-unit.invariant.left);
  free = more g c.before ∙ ap (λ (n : ℕ). free_before c.args.self.now (c.args.self.now.total - n)) (sym c.saturating_sub-left.ensures);
}

pub returns : goal.returns
returns g c =
    let map = c.args.self.now in
    let total : c.self.inside.total ≡ map.total = ap (λ (m : FreeMap). m.total) c.self.view_is in
    let all : length c.as_slice-unit-items.result.now ≡ units_of map.total =
    ap length c.as_slice-unit-items.ensures.value ∙ c.self.invariant.all ∙ ap units_of total in
    let end : map.total - c.loop-unit.left ≡ map.total = omega (arith, c.loop-unit-test.false, all, c.loop-unit.invariant.left) in
    c.loop-unit.invariant.free ∙ ap (free_before map) end ∙ free_before-all map
