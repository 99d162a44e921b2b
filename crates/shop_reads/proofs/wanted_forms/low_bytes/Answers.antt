use Rattle.std.proofs.Common.{◌≡◌, ◌∙◌, ◌+◌, ◌<◌, ℕ, List, [], ◌∷◌, ◌++◌, length, get_or, map, take, ap, sym}
use Rattle.std.proofs.lemmas.List.{map_more}
use Rattle.apple_text.specs.Shown.{low}
use Rattle.shop_reads.proofs.wanted_forms.low_bytes.Goals as goal

low_more : (bytes now new : List ℕ) (i : ℕ) → i < length bytes → now ≡ map low (take i bytes) → new ≡ now ++ low (get_or bytes i 0) ∷ []
    → new ≡ map low (take (i + 1) bytes)
low_more bytes now new i below is more = more ∙ ap (λ (t : List ℕ). t ++ low (get_or bytes i 0) ∷ []) is ∙ sym (map_more low bytes i 0 below)

pub loop-byte-preserved : goal.loop-byte-preserved
loop-byte-preserved c =
    low_more c.args.bytes.now c.loop-byte.codes.items c.push.new.self.items c.loop-byte.byte-index c.loop-byte-test.true c.loop-byte.invariant c.in_ok-push.ensures.items
