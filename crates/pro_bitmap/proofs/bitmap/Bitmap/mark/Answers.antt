use Rattle.std.proofs.Common.{◌≡◌, ◌∙◌, ◌^◌, ◌%◌, ◌-◌, ℕ, ap, bit_and}
use Rattle.pro_bitmap.specs.Bitmap.{FreeMap, is_free, marked, with_byte, byte_of}
use Rattle.pro_bitmap.proofs.Bits.{is_free-marked_same, is_free-marked_other}
use Rattle.pro_bitmap.proofs.bitmap.Bitmap.mark.Goals as goal
use Rattle.pro_bitmap.proofs.bitmap.Bitmap.mark.Goals.{After-put_byte}

-- what stands after the write
value : (g : _) (c : After-put_byte g) → c.put_byte.new.self ≡ marked c.args.self.now c.args.block
value g c =
    c.put_byte.ensures.value
    ∙ ap (λ (byte : ℕ). with_byte c.args.self.now c.args.block (bit_and byte (255 - c.bit_of.result))) c.byte_of.ensures
    ∙ ap (λ (bit : ℕ). with_byte c.args.self.now c.args.block (bit_and (byte_of c.args.self.now c.args.block) (255 - bit))) c.bit_of.ensures

pub returns-clause-used : goal.returns-clause-used
returns-clause-used g c =
    ap (λ (m : FreeMap). is_free m c.args.block) (value g c)
    ∙ is_free-marked_same c.args.self.now c.args.block c.put_byte.ensures.unit.0 c.put_byte.ensures.unit.1

pub returns-clause-others : goal.returns-clause-others
returns-clause-others g c = λ other apart.
    ap (λ (m : FreeMap). is_free m other) (value g c)
    ∙ is_free-marked_other c.args.self.now c.args.block c.put_byte.ensures.unit.0 c.put_byte.ensures.unit.1 other apart
