use Rattle.std.proofs.Common.{◌≡◌, ◌∙◌, ◌<◌, ◌/◌, ◌%◌, ℕ, pos, sym, ap, arith, rules, FitsSigned, w8, w16, slice_index}
use Rattle.std.proofs.lemmas.Int.{to_z-of_z}
use Rattle.pro_dates.specs.Dates.{year_bits, full_year}
use Rattle.pro_dir.specs.Entry.{word}
use Rattle.pro_dates.proofs.Small.{fits8, fits16, full_year_low}
use Rattle.pro_dates.proofs.civil.to_civil.Goals as goal

pub returns-clause-known : goal.returns-clause-known
returns-clause-known c =
    let word : c.read_u16-word.result ≡ word c.args.date.0 0 = search rules in
    let year = c.full_year-year.ensures ∙ ap (λ (w : ℕ). pos (full_year (w / 512))) word in
    let month = c.signed-month.ensures ∙ ap (λ (w : ℕ). pos (w / 32 % 16)) word in
    let day = c.signed-day.ensures ∙ ap (λ (w : ℕ). pos (w % 32)) word in
    let low : year_bits c.args.date.0 < 100 = rw (← word) (omega arith) in
    let f1 : FitsSigned w16 c.full_year-year.result = rw c.full_year-year.ensures (fits16 _ (full_year_low _ (omega arith))) in
    let f2 : FitsSigned w8 c.signed-month.result = rw c.signed-month.ensures (fits8 _ (omega arith)) in
    let f3 : FitsSigned w8 c.signed-day.result = rw c.signed-day.ensures (fits8 _ (omega arith)) in
    let f4 : FitsSigned w8 c.signed-hour.result = rw c.signed-hour.ensures (fits8 _ (omega arith)) in
    let f5 : FitsSigned w8 c.signed-minute.result = rw c.signed-minute.ensures (fits8 _ (omega arith)) in
    let plain = simp to_z-of_z at c.new.ensures.succeeds in
    let hour : c.signed-hour.result ≡ pos (slice_index c.args.date.0 3) = search rules in
    let minute : c.signed-minute.result ≡ pos (slice_index c.args.date.0 2) = search rules in
    let exact = rw (year, month, day, hour, minute) at plain in (
      λ some. let parts = exact.0 (sym c.ok.ensures.variant ∙ some) in record { year = low; date = parts.0; time = parts.1 },
      λ moment. c.ok.ensures.variant ∙ exact.1 (moment.date, moment.time),
    )
