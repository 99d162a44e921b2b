-- Runs of plain characters: each is its own code, so a run is taken and shown as it stands.
use Rattle.std.proofs.Common.{◌≡◌, ◌≢◌, ℕ, ◌+◌, ◌<◌, ◌≤◌, true, List, [], ◌∷◌, ◌++◌, All, length, take, drop, map, arith, refl, sym, ap, ◌∙◌, subst, inl, append_assoc, append-nil, get_or-take, length-take-le, take-append-drop, get_or}
use Rattle.std.specs.Prelude.{nat_le, nat_lt, Bool}
use Rattle.std.specs.List.{between, prefix_len}
use Rattle.std.proofs.lemmas.Grind.{common_steps, flat_map-append}
use Rattle.std.proofs.lemmas.Bool.{and_parts, leb-true, ltb-true}
use Rattle.std.proofs.lemmas.List.Elements.{All-head, All-tail}
use Rattle.std.proofs.lemmas.Slice.{first_rest}
use Rattle.std.proofs.lemmas.List.Sums.{prefix_len-le-length, prefix_len_passes}
use Rattle.apple_text.specs.declared.form.TextForm.{TextForm}
use Rattle.apple_text.specs.Shown.{Text, low, shown_code, shown_text, with_high}
use Rattle.apple_text.specs.Reading.{IsFirstByte, behind_plain, behind_shown, is_plain, plain_bytes, plainly_shown, shows_plain}
use Rattle.apple_text.proofs.Taking.{low_high, low_small}
use Rattle.apple_text.proofs.SoFar.{SoFar, more_behind_end, more_within}

-- ---- one plain character

record IsWithin (code : ℕ) : Type 0 where
  least : 32 ≤ code
  most : code < 127

within : (code : ℕ) → is_plain code ≡ true → IsWithin code
within code plain =
    let both = and_parts (nat_le 0x20 code) (nat_lt code 0x7f) plain in
    record { least = leb-true 0x20 code both.0; most = ltb-true code 0x7f both.1 }

shown_within : (code : ℕ) → 32 ≤ code → code < 127 → shown_code code ≡ code ∷ []
shown_within code least most = grind (arith, common_steps)

shown_plain : (code : ℕ) → is_plain code ≡ true → shown_code code ≡ code ∷ []
shown_plain code plain = let is = within code plain in shown_within code is.least is.most

-- ---- the front of a list that passes a test

passes : (test : ℕ → Bool) (xs : List ℕ) → All (λ x. test x ≡ true) (take (prefix_len test xs) xs)
passes test xs k d less =
    let n = prefix_len test xs in
    let whole : length (take n xs) ≡ n = length-take-le n xs (prefix_len-le-length test xs) in
    let less' : k < n = omega (arith, whole, less) in
    subst (λ x. test x ≡ true) (sym (get_or-take n xs k d less')) (prefix_len_passes test xs k d less')

-- ---- a run that is taken

module _ (form : TextForm) (text : Text) (line : ℕ) where
  first_plain : (c : ℕ) (cs : Text) → is_plain c ≡ true → IsFirstByte form (c ∷ cs) (with_high form.high (low c)) cs
  first_plain c cs plain =
      let is = within c plain in
      let byte = with_high form.high (low c) in
      let code : low byte ≡ low c = low_high form.high (low c) (low_small c) in
      let same : low byte ≡ c = omega (arith, code, is.most) in
      record {
        allowed = record {
          high = ap (with_high form.high) (sym code);
          zero = λ none zero. omega (arith, same, is.least, ap low zero);
        };
        begins = record {
          small = low_small byte;
          split = inl (ap (λ piece. piece ++ cs) (sym (ap shown_code same ∙ shown_plain c plain)));
        };
      }

  on_plain : (bytes : List ℕ) (front rest : Text) → All (λ c. is_plain c ≡ true) front → SoFar form text bytes (front ++ rest) line
      → SoFar form text (bytes ++ map (λ c. with_high form.high (low c)) front) rest line
  on_plain bytes [] rest plain so_far = subst (λ items. SoFar form text items rest line) (sym (append-nil bytes)) so_far
  on_plain bytes (c ∷ cs) rest plain so_far =
      let first : is_plain c ≡ true = All-head (λ x. is_plain x ≡ true) c cs plain in
      let byte = with_high form.high (low c) in
      let same : low byte ≡ low c = low_high form.high (low c) (low_small c) in
      let is = within c first in
      let one : SoFar form text (bytes ++ byte ∷ []) (cs ++ rest) line
      = more_within form text bytes (c ∷ (cs ++ rest)) line so_far byte (cs ++ rest) (first_plain c (cs ++ rest) first) (λ e. omega (arith, same, is.least, is.most, e)) in
      subst (λ items. SoFar form text items rest line) (append_assoc bytes (byte ∷ []) (map (λ x. with_high form.high (low x)) cs))
      (on_plain (bytes ++ byte ∷ []) cs rest (All-tail (λ x. is_plain x ≡ true) c cs plain) one)

  past_plain : (bytes : List ℕ) (rest : Text) → SoFar form text bytes rest line → (after : List ℕ) (left : Text) → after ≡ bytes ++ plain_bytes form.high rest
      → left ≡ behind_plain rest → SoFar form text after left line
  past_plain bytes rest so_far after left is is' =
      let n = prefix_len is_plain rest in
      let whole : SoFar form text bytes (take n rest ++ drop n rest) line
      = subst (λ r. SoFar form text bytes r line) (sym (take-append-drop n rest)) so_far in
      let on : SoFar form text (bytes ++ plain_bytes form.high rest) (behind_plain rest) line
      = on_plain bytes (take n rest) (drop n rest) (passes is_plain rest) whole in
      subst (λ items. SoFar form text items left line) (sym is) (subst (λ r. SoFar form text (bytes ++ plain_bytes form.high rest) r line) (sym is') on)

-- a byte is pushed, and those of the plain characters behind what shows it
module _ (form : TextForm) (text : Text) (bytes : List ℕ) (rest : Text) (line : ℕ) (so_far : SoFar form text bytes rest line)
    (byte : ℕ) (more : Text) (first : IsFirstByte form rest byte more)
    (pushed : List ℕ) (pushed_is : pushed ≡ bytes ++ byte ∷ [])
    (after : List ℕ) (left : Text) (after_is : after ≡ pushed ++ plain_bytes form.high more) (left_is : left ≡ behind_plain more) where
  pub run_within : low byte ≢ 13 → SoFar form text after left line
  run_within within' =
      past_plain form text line pushed more
      (subst (λ items. SoFar form text items more line) (sym pushed_is) (more_within form text bytes rest line so_far byte more first within'))
      after left after_is left_is

  pub run_behind_end : low byte ≡ 13 → SoFar form text after left (line + 1)
  run_behind_end ends =
      past_plain form text (line + 1) pushed more
      (subst (λ items. SoFar form text items more (line + 1)) (sym pushed_is) (more_behind_end form text bytes rest line so_far byte more first ends))
      after left after_is left_is

-- ---- a run that is shown

shown_as_codes : (bytes : List ℕ) → All (λ b. shows_plain b ≡ true) bytes → shown_text bytes ≡ map low bytes
shown_as_codes [] plain = refl
shown_as_codes (b ∷ bytes) plain =
    let first : shows_plain b ≡ true = All-head (λ x. shows_plain x ≡ true) b bytes plain in
    ap (λ piece. piece ++ shown_text bytes) (shown_plain (low b) first)
    ∙ ap (λ t. low b ∷ t) (shown_as_codes bytes (All-tail (λ x. shows_plain x ≡ true) b bytes plain))

shown_front : (bytes : List ℕ) → shown_text bytes ≡ plainly_shown bytes ++ shown_text (behind_shown bytes)
shown_front bytes =
    let n = prefix_len shows_plain bytes in
    ap shown_text (sym (take-append-drop n bytes)) ∙ flat_map-append (λ b. shown_code (low b)) (take n bytes) (drop n bytes)
    ∙ ap (λ t. t ++ shown_text (drop n bytes)) (shown_as_codes (take n bytes) (passes shows_plain bytes))

-- this text and what the bytes that are left are shown as is all that is shown
pub record IsShownSoFar (bytes : List ℕ) (text : Text) (rest : List ℕ) : Type 0 where
  pub whole : text ++ shown_text rest ≡ shown_text bytes

-- the first byte that is left is shown, and the run of those behind it
pub shown_more : (bytes : List ℕ) (text : Text) (rest : List ℕ) → IsShownSoFar bytes text rest → 0 < length rest → (one two : Text) (left : List ℕ)
    → one ≡ text ++ shown_code (low (get_or rest 0 0)) → two ≡ one ++ plainly_shown (between 1 (length rest) rest)
    → left ≡ behind_shown (between 1 (length rest) rest) → IsShownSoFar bytes two left
shown_more bytes text rest so_far some one two left is is' is'' = record {
  whole =
      let more = between 1 (length rest) rest in
      let code = shown_code (low (get_or rest 0 0)) in
      let front = plainly_shown more in
      let tail = shown_text (behind_shown more) in
      ap (λ t. t ++ shown_text left) (is' ∙ ap (λ t. t ++ front) is) ∙ ap (λ l. ((text ++ code) ++ front) ++ shown_text l) is''
      ∙ append_assoc (text ++ code) front tail ∙ ap (λ t. (text ++ code) ++ t) (sym (shown_front more))
      ∙ append_assoc text code (shown_text more) ∙ ap (λ l. text ++ shown_text l) (sym (first_rest rest 0 some)) ∙ so_far.whole;
}
