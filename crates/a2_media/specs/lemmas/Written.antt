-- Bytes written over others.
use Rattle.std.proofs.Common.{◌≡◌, ◌∙◌, ℕ, ◌+◌, ◌≤◌, List, ◌++◌, length, take, drop, arith, ap, sym, length-drop, length-append}
use Rattle.std.proofs.lemmas.List.{length-take-le, take_all}
use Rattle.a2_image.specs.Lending.{written}

pub written_whole : (bytes : List ℕ) (at count : ℕ) (content copied : List ℕ) → at + length content ≤ length bytes → count ≡ length content → copied ≡ content
    → take at bytes ++ (copied ++ drop count (drop at bytes)) ≡ written bytes at content
unfolding written
written_whole bytes at count content copied fits is same =
    ap (λ c. take at bytes ++ (c ++ drop count (drop at bytes))) same
    ∙ ap (λ n. take at bytes ++ (content ++ drop n (drop at bytes))) is
    ∙ sym (take_all (length bytes) (take at bytes ++ (content ++ drop (length content) (drop at bytes)))
    (omega (
      arith,
      fits,
      length-append (take at bytes) (content ++ drop (length content) (drop at bytes)),
      length-append content (drop (length content) (drop at bytes)),
      length-take-le at bytes (omega (arith, fits)),
      length-drop (length content) (drop at bytes),
      length-drop at bytes,
    )))
