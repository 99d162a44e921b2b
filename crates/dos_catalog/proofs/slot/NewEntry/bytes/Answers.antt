use Rattle.std.proofs.Common.{rules, ◌≡◌, ◌∙◌, ◌++◌, ◌/◌, ◌%◌, [], ◌∷◌, List, ℕ, ap}
use Rattle.dos_catalog.proofs.slot.NewEntry.bytes.Goals as goal

pub returns : goal.returns
returns c =
    let entry = c.args.self in
    let high : entry.sectors / 256 % 256 ≡ entry.sectors / 256 = search rules in
    ap (λ (name : List ℕ). (entry.pointer / 16) ∷ (entry.pointer % 16) ∷ entry.kind ∷ (name ++ (c.write_u16.new.buf ++ []))) c.copy_from_slice.ensures.after
    ∙ ap (λ (sectors : List ℕ). (entry.pointer / 16) ∷ (entry.pointer % 16) ∷ entry.kind ∷ (entry.name ++ (sectors ++ []))) c.write_u16.ensures
    ∙ ap (λ (byte : ℕ). (entry.pointer / 16) ∷ (entry.pointer % 16) ∷ entry.kind ∷ (entry.name ++ (entry.sectors % 256) ∷ byte ∷ [])) high
