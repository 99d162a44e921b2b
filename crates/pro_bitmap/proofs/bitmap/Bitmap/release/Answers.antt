use Rattle.std.proofs.Common.{◌≡◌, ◌∙◌, ◌^◌, ◌%◌, ◌-◌, ℕ, ap, bit_or}
use Rattle.pro_bitmap.specs.Bitmap.{FreeMap, is_free, released, with_byte, byte_of}
use Rattle.pro_bitmap.proofs.Bits.{is_free-released_same, is_free-released_other}
use Rattle.pro_bitmap.proofs.bitmap.Bitmap.release.Goals as goal
use Rattle.pro_bitmap.proofs.bitmap.Bitmap.release.Goals.{After-put_byte}

-- what stands after the write
value : (g : _) (c : After-put_byte g) → c.put_byte.new.self ≡ released c.args.self.now c.args.block
value g c =
    c.put_byte.ensures.value
    ∙ ap (λ (byte : ℕ). with_byte c.args.self.now c.args.block (bit_or byte c.bit_of.result)) c.byte_of.ensures
    ∙ ap (λ (bit : ℕ). with_byte c.args.self.now c.args.block (bit_or (byte_of c.args.self.now c.args.block) bit)) c.bit_of.ensures

pub returns-clause-free : goal.returns-clause-free
returns-clause-free g c =
    ap (λ (m : FreeMap). is_free m c.args.block) (value g c)
    ∙ is_free-released_same c.args.self.now c.args.block c.put_byte.ensures.unit.0 c.put_byte.ensures.unit.1

pub returns-clause-others : goal.returns-clause-others
returns-clause-others g c = λ other apart.
    ap (λ (m : FreeMap). is_free m other) (value g c)
    ∙ is_free-released_other c.args.self.now c.args.block c.put_byte.ensures.unit.0 c.put_byte.ensures.unit.1 other apart
