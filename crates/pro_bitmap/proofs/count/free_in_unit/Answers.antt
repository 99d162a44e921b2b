use Rattle.std.proofs.Common.{◌∙◌, ◌*◌, ◌+◌, true, false, sym, arith}
use Rattle.pro_bitmap.specs.Bitmap.{is_free_in}
use Rattle.pro_bitmap.proofs.Counting.{number_more, group_more, free_below-zero, free_below-le}
use Rattle.pro_bitmap.proofs.count.free_in_unit.Goals as goal
use Rattle.pro_bitmap.proofs.count.free_in_unit.Goals.{then-is_free_in, else-is_free_in}

pub loop-group-init : goal.loop-group-init
loop-group-init c = free_below-zero c.args.unit.now

pub overflow_add-free : goal.overflow_add-free
overflow_add-free c =
    let unit = c.args.unit.now in
    record {
      fits = omega (
        arith,
        c.requires,
        c.loop-group-test.true,
        c.loop-group.invariant,
        c.free_in_group-free.ensures,
        group_more unit c.loop-group.group c.fits-unit,
        free_below-le unit (128 * (c.loop-group.group + 1)),
      );
    }

pub loop-group-preserved : goal.loop-group-preserved
loop-group-preserved c =
    omega (arith, c.loop-group.invariant, c.free_in_group-free.ensures, group_more c.args.unit.now c.loop-group.group c.fits-unit)

pub overflow_add-free-then-is_free_in : goal.overflow_add-free-then-is_free_in
overflow_add-free-then-is_free_in c = record { fits = omega (arith, c.requires, c.loop-number-test.true, c.loop-number.invariant, free_below-le c.args.unit.now c.loop-number.number) }

pub loop-number-preserved : goal.loop-number-preserved
loop-number-preserved c =
    elim c.if-is_free_in.branch [
      | then-is_free_in w ↦
          omega (arith, w.free-is, c.loop-number.invariant, number_more c.args.unit.now c.loop-number.number true (sym c.is_free_in.ensures ∙ w.if-is_free_in.true))
      | else-is_free_in w ↦
          omega (arith, w.free-is, c.loop-number.invariant, number_more c.args.unit.now c.loop-number.number false (sym c.is_free_in.ensures ∙ w.if-is_free_in.false))
    ]
