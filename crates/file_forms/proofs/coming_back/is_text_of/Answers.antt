use Rattle.std.proofs.Common.{◌∙◌, ap, subst, sym, List, ℕ, true, IsFalse}
use Rattle.std.proofs.lemmas.Slice.Eq.{bytes_eq-Decides}
use Rattle.apple_text.specs.Taken.{IsTaken}
use Rattle.apple_text.specs.declared.form.HighBit.{HighBit}
use Rattle.file_forms.specs.Found.{file_view, text_bytes}
use Rattle.file_forms.specs.Readable.{AreZerosBehind, high_of}
use Rattle.file_forms.proofs.coming_back.is_text_of.Goals as goal

pub returns-in-Ok : goal.returns-in-Ok
returns-in-Ok g c =
    let text = c.args.given.now in
    let file = file_view c.args.file.now in
    let is = c.text-bytes.ensures.value in
    let high = c.high_of.ensures ∙ ap high_of is in
    let made = subst (λ (high : HighBit). IsTaken (record { high = high; zeros = true }) text c.in-Ok.taken.items) high
    c.in-Ok.ensures.taken in
    let zeros = subst (λ (bytes : List ℕ). AreZerosBehind c.args.file.now.system bytes c.args.file.now.whole.now) is
    (c.are_zeros_behind.ensures.0 c.if-not-are_zeros_behind.false) in
    let decides = bytes_eq-Decides c.as_slice.result.now c.text-bytes.result.now in (
      λ yes. record {
        taken = subst (λ (bytes : List ℕ). IsTaken (record { high = high_of (text_bytes file); zeros = true }) text bytes)
            (sym c.as_slice.ensures.value ∙ decides.0 (sym c.eq.ensures ∙ yes) ∙ is) made;
        zeros = zeros;
      },
      λ back. c.eq.ensures ∙ decides.1 (c.as_slice.ensures.value
          ∙ c.a_text_is_taken_in_one_way.ensures (record { high = high_of (text_bytes file); zeros = true }) text
          c.in-Ok.taken.items (text_bytes file) made back.taken ∙ sym is),
    )
