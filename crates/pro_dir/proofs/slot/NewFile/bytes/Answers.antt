use Rattle.std.proofs.Common.{◌+◌, ◌*◌, ◌++◌, List, [], ◌∷◌, ℕ, refl, ◌∙◌, ap, arith, append-nil}
use Rattle.pro_dir.specs.Writes.{word_bytes, long_bytes}
use Rattle.pro_dir.proofs.Written.{IsFilled, put_next, set_next, zeros_next, joined}
use Rattle.pro_dir.proofs.slot.NewFile.bytes.Goals as goal

pub returns : goal.returns
returns c =
    let file = c.args.self.now in
    let date = c.put_date.ensures.size in
    let name = c.padded.result in
    let head = (16 * file.storage + file.len) ∷ [] in
    let s0 : IsFilled head 1 38 _ = record { size = refl; stands = refl } in
    let s1 = put_next head name _ c.put.new.unit 1 38 16 23 s0 c.put.ensures (omega (arith, c.padded.ensures.size)) (omega (arith, c.padded.ensures.size)) in
    let s2 = set_next _ c.put.new.unit file.kind 16 22 17 s1 (omega arith) in
    let s3 = put_next _ (word_bytes file.key) _ c.put_word.new.unit 17 22 19 20 s2 c.put_word.ensures (omega arith) (omega arith) in
    let s4 = put_next _ (word_bytes file.blocks) _ c.put_word-2.new.unit 19 20 21 18 s3 c.put_word-2.ensures (omega arith) (omega arith) in
    let s5 = put_next _ (long_bytes file.eof) _ c.put_long.new.unit 21 18 24 15 s4 c.put_long.ensures (omega arith) (omega arith) in
    let s6 = put_next _ file.date.0 _ c.put_date.new.unit 24 15 28 11 s5 c.put_date.ensures.value (omega (arith, date)) (omega (arith, date)) in
    let s7 = zeros_next _ c.put_date.new.unit 28 9 30 s6 (omega arith) in
    let s8 = set_next _ c.put_date.new.unit file.access 30 8 31 s7 (omega arith) in
    let s9 = put_next _ (word_bytes file.aux) _ c.put_word-3.new.unit 31 8 33 6 s8 c.put_word-3.ensures (omega arith) (omega arith) in
    let s10 = put_next _ file.date.0 _ c.put_date-2.new.unit 33 6 37 2 s9 c.put_date-2.ensures.value (omega (arith, date)) (omega (arith, date)) in
    let s11 = put_next _ (word_bytes file.dir) _ c.put_word-4.new.unit 37 2 39 0 s10 c.put_word-4.ensures (omega arith) (omega arith) in
    s11.stands ∙ append-nil _
    ∙ joined (16 * file.storage + file.len) file.kind file.access name (word_bytes file.key) (word_bytes file.blocks) (long_bytes file.eof) file.date.0 (word_bytes file.aux) (word_bytes file.dir)
    ∙ ap (λ (bytes : List ℕ). (16 * file.storage + file.len) ∷ (bytes ++ file.kind ∷ (word_bytes file.key ++ word_bytes file.blocks ++ long_bytes file.eof ++ file.date.0
    ++ 0 ∷ 0 ∷ file.access ∷ (word_bytes file.aux ++ file.date.0 ++ word_bytes file.dir)))) c.padded.ensures.value
