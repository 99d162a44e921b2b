use Rattle.std.proofs.Common.{◌≡◌, ◌∙◌, ◌+◌, ◌*◌, ◌<◌, ap, arith, length, subst, sym}
use Rattle.shop_words.specs.Hexadecimal.{bytes_named}
use Rattle.shop_words.proofs.HexWords.{ReadTo, byte_read, odd_read}
use Rattle.shop_words.proofs.hexadecimal.bytes_named.Goals as goal

pub loop-at-preserved : goal.loop-at-preserved
loop-at-preserved c =
    let digits = c.as_bytes-digits.result.now in
    let at = c.loop-at.at in
    let within : 2 * at + 1 < length digits = omega (arith, c.loop-at-test.true) in
    let next : 2 * at + 2 ≡ 2 * (at + 1) = omega arith in
    subst (ReadTo digits c.push.new.self.items) next
    (byte_read digits c.loop-at.bytes.items (2 * at) within c.loop-at.invariant c.in-Some.byte c.push.new.self.items (sym c.hex_byte.ensures ∙ c.in-Some.is) c.in_ok-push.ensures.items)

pub returns-then-digits-ne0 : goal.returns-then-digits-ne0
returns-then-digits-ne0 c =
    let digits = c.as_bytes-digits.result.now in
    let at = c.loop-at.at in
    let one : length digits ≡ 2 * at + 1 = omega (arith, c.loop-at-test.false, c.loop-at.auto.at-end, c.if-digits-ne0.true) in
    odd_read digits c.loop-at.bytes.items (2 * at) one c.loop-at.invariant ∙ ap bytes_named c.as_bytes-digits.ensures.value
