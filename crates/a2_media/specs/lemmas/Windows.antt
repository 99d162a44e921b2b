-- What stands in a part of a file, and around it.
use Rattle.std.proofs.Common.{◌≡◌, ◌∙◌, ℕ, ◌+◌, ◌-◌, ◌≤◌, List, length, arith, rules, sym, ap, refl, subst, length-take, length-drop, take, drop, ⊎_elim}
use Rattle.std.specs.Prelude.{◌⊎◌, Err, Ok, OnErr, OnOk, Result, slice_range}
use Rattle.std.proofs.lemmas.List.{same_lists, places}
use Rattle.a2_image.specs.Lending.{written}
use Rattle.a2_media.specs.File.{FileState, after_write}
use Rattle.a2_media.specs.declared.file.FileFailure.{FileFailure}
use Rattle.a2_media.specs.Window.{IsSameAround, window_state}

pub whole_window : (start size : ℕ) (file : FileState) → length file.bytes ≡ file.size → start + size ≤ file.size
    → length (window_state start size file).bytes ≡ size
whole_window start size file whole inside =
    omega (arith, whole, length-take (start + size - start) (drop start file.bytes), length-drop start file.bytes)

-- a part of a part
pub part_of_part : (xs : List ℕ) (a b c d : ℕ) → b ≤ length xs → a + d ≤ b → c ≤ d
    → slice_range (slice_range xs a b) c d ≡ slice_range xs (a + c) (a + d)
part_of_part xs a b c d all inside order = same_lists _ _ (search (rules, places)) (λ k e h. grind (arith, places))

-- a part of what was written over, within the part
written_in_part : (xs ys : List ℕ) (a b p : ℕ) → b ≤ length xs → a + (p + length ys) ≤ b
    → slice_range (written xs (a + p) ys) a b ≡ written (slice_range xs a b) p ys
unfolding written
written_in_part xs ys a b p all inside = same_lists _ _ (search (rules, places)) (λ k e h. grind (arith, places))

-- a write through a part is a write into it
pub written_through : (start size position : ℕ) (content : List ℕ) (file new : FileState) → length file.bytes ≡ file.size
    → start + size ≤ file.size → position + length content ≤ size → new ≡ after_write (start + position) content file
    → window_state start size new ≡ after_write position content (window_state start size file)
written_through start size position content file new whole inside room is =
    let same : slice_range (written file.bytes (start + position) content) start (start + size)
    ≡ written (slice_range file.bytes start (start + size)) position content =
    written_in_part file.bytes content start (start + size) position (omega (arith, whole, inside)) (omega (arith, room)) in
    ap (window_state start size) is
    ∙ ap (λ bytes. record file { size = size; bytes = bytes; standing = file.standing + 1 }) same

-- what is written into a part leaves what stands around it
written_front : (xs ys : List ℕ) (a p : ℕ) → a + p + length ys ≤ length xs → take a (written xs (a + p) ys) ≡ take a xs
unfolding written
written_front xs ys a p inside = same_lists _ _ (search (rules, places)) (λ k e h. grind (arith, places))

written_back : (xs ys : List ℕ) (a b p : ℕ) → b ≤ length xs → a + p + length ys ≤ b → drop b (written xs (a + p) ys) ≡ drop b xs
unfolding written
written_back xs ys a b p all inside = same_lists _ _ (search (rules, places)) (λ k e h. grind (arith, places))

pub nothing_around : (start size : ℕ) (file new : FileState) → new ≡ file → IsSameAround start size file new
nothing_around start size file new is =
    subst (λ (n : FileState). IsSameAround start size file n) (sym is) (record { front = refl; back = refl })

pub written_around : (start size position : ℕ) (content : List ℕ) (file new : FileState) → length file.bytes ≡ file.size
    → start + size ≤ file.size → position + length content ≤ size → new ≡ after_write (start + position) content file
    → IsSameAround start size file new
written_around start size position content file new whole inside room is =
    subst (λ (n : FileState). IsSameAround start size file n) (sym is) (record {
      front = written_front file.bytes content start position (omega (arith, whole, inside, room));
      back = written_back file.bytes content start (start + size) position (omega (arith, whole, inside)) (omega (arith, room));
    })

-- a write that was done or failed leaves it
pub around_either : (result : Result (Unit {0}) FileFailure) (start size position : ℕ) (content : List ℕ) (file new : FileState)
    → length file.bytes ≡ file.size → start + size ≤ file.size → position + length content ≤ size
    → OnOk result (new ≡ after_write (start + position) content file)
    → OnErr result ((new ≡ file) ⊎ (new ≡ after_write (start + position) content file)) → IsSameAround start size file new
around_either (Ok done) start size position content file new whole inside room written failed =
    written_around start size position content file new whole inside room written
around_either (Err failure) start size position content file new whole inside room written failed =
    ⊎_elim (nothing_around start size file new) (written_around start size position content file new whole inside room) failed
