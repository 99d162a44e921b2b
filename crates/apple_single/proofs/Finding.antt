-- The first entry of an ID, as a table is read on.
use Rattle.std.proofs.Common.{◌≡◌, ◌≢◌, ℕ, ◌<◌, List, [], ◌∷◌, ◌++◌, Contains, length, arith, refl, sym, ap, ◌∙◌}
use Rattle.std.proofs.Common.{subst, append_assoc, append-nil}
use Rattle.std.proofs.lemmas.List.Elements.{All-push, Contains-append_right}
use Rattle.apple_single.specs.declared.entries.Entry.{Entry}
use Rattle.apple_single.specs.Format.{entry_bytes}
use Rattle.apple_single.specs.Reading.{HasNone, IsListed, IsTable}
use Rattle.apple_single.proofs.Tables.{short_end, table_front}

-- these entries are some that have another ID, and those of the rest
pub record Behind (rest : List ℕ) (id : ℕ) (entries : List Entry) : Type 0 where
  pub passed : List Entry
  pub more : List Entry
  pub split : entries ≡ passed ++ more
  pub others : HasNone passed id
  pub is_table : IsTable rest more

-- no entry of a table before the rest has the ID
pub record Passed (table rest : List ℕ) (id : ℕ) : Type 0 where
  pub behind : (entries : List Entry) → IsTable table entries → Behind rest id entries

module _ (table rest : List ℕ) (id : ℕ) (e : Entry) (more : List ℕ) (passed : Passed table rest id)
    (split : rest ≡ entry_bytes e ++ more) where
  pub step : e.id ≢ id → Passed table more id
  step other = record {
    behind = λ entries is.
        let b = passed.behind entries is in
        let next = table_front rest e more b.more split b.is_table in
        record {
          passed = b.passed ++ e ∷ [];
          more = next.0;
          split = b.split ∙ ap (λ m. b.passed ++ m) next.1 ∙ sym (append_assoc b.passed (e ∷ []) next.0);
          others = All-push (λ (f : Entry). f.id ≢ id) b.passed e b.others other;
          is_table = next.2;
        };
  }

  pub found : e.id ≡ id → (entries : List Entry) → IsTable table entries → IsListed entries id e
  found same entries is =
      let b = passed.behind entries is in
      let next = table_front rest e more b.more split b.is_table in
      let whole : entries ≡ b.passed ++ e ∷ next.0 = b.split ∙ ap (λ m. b.passed ++ m) next.1 in
      let first : Contains (e ∷ next.0) e = (0, omega arith, refl) in
      record {
        listed = subst (λ es. Contains es e) (sym whole) (Contains-append_right b.passed (e ∷ next.0) e first);
        of_id = same;
      }

pub missing : (table rest : List ℕ) (id : ℕ) → Passed table rest id → length rest < 12 → (entries : List Entry)
    → IsTable table entries → HasNone entries id
missing table rest id passed short entries is =
    let b = passed.behind entries is in
    let whole : entries ≡ b.passed
    = b.split ∙ ap (λ m. b.passed ++ m) (short_end rest b.more short b.is_table) ∙ append-nil b.passed in
    subst (λ es. HasNone es id) (sym whole) b.others
