use Rattle.std.proofs.Common.{◌≡◌, ◌∙◌, ap, subst, sym, true, List, ℕ, All}
use Rattle.apple_text.specs.Shown.{shown_text}
use Rattle.apple_text.specs.Taken.{IsAllowed, IsTaken}
use Rattle.apple_text.specs.declared.form.HighBit.{HighBit}
use Rattle.apple_text.specs.declared.form.TextForm.{TextForm}
use Rattle.file_forms.specs.Found.{file_view, text_bytes}
use Rattle.file_forms.specs.Readable.{AreZerosBehind, high_of}
use Rattle.file_forms.proofs.coming_back.readable_text.Goals as goal

pub returns-clause-some : goal.returns-clause-some
returns-clause-some g c =
    let file = file_view c.args.file.now in
    let value = c.text-bytes.ensures.value in
    let shown : c.in_ok-text.text.items ≡ shown_text (text_bytes file) = c.in_ok-text.ensures ∙ ap shown_text value in
    let allowed : All (IsAllowed (record { high = high_of (text_bytes file); zeros = true })) (text_bytes file) =
    subst (λ (bytes : List ℕ). All (IsAllowed (record { high = high_of bytes; zeros = true })) bytes) value
    (subst (λ (high : HighBit). All (IsAllowed (record { high = high; zeros = true })) c.text-bytes.result.now) c.high_of.ensures
    (c.have_high.ensures.0 c.if-not-have_high.false)) in
    let form : TextForm = record { high = high_of (text_bytes file); zeros = true } in (
      shown,
      record {
        taken = subst (λ (text : List ℕ). IsTaken form text (text_bytes file)) (sym shown)
            (c.what_was_shown_is_taken_back.ensures form (text_bytes file) allowed);
        zeros = subst (λ (bytes : List ℕ). AreZerosBehind file.system bytes file.whole) value
            (c.are_zeros_behind.ensures.0 c.if-not-are_zeros_behind.false);
      },
    )
