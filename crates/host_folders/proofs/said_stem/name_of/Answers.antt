use Rattle.std.proofs.Common.{◌≡◌, true, codes, List, ℕ, sym, subst, ◌∙◌}
use Rattle.std.proofs.lemmas.Slice.Eq.{bytes_eq-Decides}
use Rattle.host_folders.specs.HostEntries.{SaysBytes, SaysName}
use Rattle.host_folders.proofs.InOneWay.{bytes_say, found_map, nothing_says, percent_says, say_bytes}
use Rattle.host_folders.proofs.SoFar.{none_left, some_left}
use Rattle.host_folders.proofs.said_stem.name_of.Goals as goal

pub returns-then-is_empty : goal.returns-then-is_empty
returns-then-is_empty g c =
    nothing_says c.args.form c.args.stem.now (none_left _ _ c.is_empty.ensures c.if-is_empty.true)

pub returns-then-eq : goal.returns-then-eq
returns-then-eq g c = percent_says c.args.form c.args.stem.now c.new.result.items
    ((bytes_eq-Decides c.args.stem.now (codes "%")).0 (sym c.eq.ensures ∙ c.if-eq.true)) c.new.ensures.items

pub returns-else-eq : goal.returns-else-eq
returns-else-eq g c =
    let value = c.as_bytes.ensures.value in
    found_map c.bytes_of.result (λ v. v.items) (SaysBytes c.args.form c.as_bytes.result.now)
    (SaysName c.args.form c.args.stem.now)
    (λ name says. bytes_say c.args.form c.args.stem.now (some_left _ _ c.is_empty.ensures c.if-is_empty.false) name
    (subst (λ (t : List ℕ). SaysBytes c.args.form t name) value says))
    (λ name says. subst (λ (t : List ℕ). SaysBytes c.args.form t name) (sym value)
    (say_bytes c.args.form c.args.stem.now
    (λ is. let holds : c.eq.result ≡ true = c.eq.ensures ∙ (bytes_eq-Decides c.args.stem.now (codes "%")).1 is in
    absurd (cc)) name says))
    c.bytes_of.ensures
