-- Whether all entries are sound, as a table is read on.
use Rattle.std.proofs.Common.{◌≡◌, ◌≢◌, ℕ, zero, suc, ◌<◌, List, [], ◌∷◌, ◌++◌, AllPairs, length, slice_index_or}
use Rattle.std.proofs.Common.{arith, sym, subst}
use Rattle.std.proofs.lemmas.List.Elements.{All-cons, All-contains, All-head, All-nil, All-tail}
use Rattle.apple_single.specs.declared.entries.Entry.{Entry}
use Rattle.apple_single.specs.Format.{entry_bytes}
use Rattle.apple_single.specs.Reading.{HasNone, IsListed, IsTable}
use Rattle.apple_single.specs.Single.{AreSound, IsSound}
use Rattle.apple_single.proofs.Tables.{short_end, table_front}

-- ---- IDs that stand once

abbrev StandOnce : List Entry → Type 0
StandOnce entries = AllPairs (λ entry later. entry.id ≢ later.id) entries

once_at : (e : Entry) (es : List Entry) → HasNone es e.id → StandOnce es
    → (i j : ℕ) (d : Entry) → i < j → j < length (e ∷ es)
    → (slice_index_or (e ∷ es) i d).id ≢ (slice_index_or (e ∷ es) j d).id
once_at e es none once i zero d less within = absurd (omega (arith, less))
once_at e es none once zero (suc j) d less within = λ same. none j d (omega (arith, within)) (sym same)
once_at e es none once (suc i) (suc j) d less within = once i j d (omega (arith, less)) (omega (arith, within))

once_head : (e : Entry) (es : List Entry) → StandOnce (e ∷ es) → HasNone es e.id
once_head e es once = λ k d within same. once 0 (suc k) d (omega arith) (omega (arith, within)) (sym same)

once_tail : (e : Entry) (es : List Entry) → StandOnce (e ∷ es) → StandOnce es
once_tail e es once = λ i j d less within. once (suc i) (suc j) d (omega (arith, less)) (omega (arith, within))

-- ---- one entry more, and one less

pub sound_none : (file : List ℕ) → AreSound file []
sound_none file = record { each = All-nil (IsSound file); once = λ i j d less within. absurd (omega (arith, within)) }

pub sound_more : (file : List ℕ) (e : Entry) (es : List Entry) → IsSound file e → HasNone es e.id → AreSound file es
    → AreSound file (e ∷ es)
sound_more file e es sound none are = record {
  each = All-cons (IsSound file) e es sound are.each;
  once = once_at e es none are.once;
}

sound_less : (file : List ℕ) (e : Entry) (es : List Entry) → AreSound file (e ∷ es) → AreSound file es
sound_less file e es are = record { each = All-tail (IsSound file) e es are.each; once = once_tail e es are.once }

-- ---- how far a table is judged

-- these entries are sound exactly where those of the rest are
pub record Judgement (file rest : List ℕ) (entries : List Entry) : Type 0 where
  pub more : List Entry
  pub is_table : IsTable rest more
  pub onto : AreSound file more → AreSound file entries
  pub back : AreSound file entries → AreSound file more

pub record Judged (file table rest : List ℕ) : Type 0 where
  pub behind : (entries : List Entry) → IsTable table entries → Judgement file rest entries

module _ (file table rest : List ℕ) (e : Entry) (more : List ℕ) (judged : Judged file table rest)
    (split : rest ≡ entry_bytes e ++ more) where
  pub step : IsSound file e → ((es : List Entry) → IsTable more es → HasNone es e.id) → Judged file table more
  step sound none = record {
    behind = λ entries is.
        let j = judged.behind entries is in
        let next = table_front rest e more j.more split j.is_table in
        record {
          more = next.0;
          is_table = next.2;
          onto = λ are. j.onto (subst (AreSound file) (sym next.1)
              (sound_more file e next.0 sound (none next.0 next.2) are));
          back = λ are. sound_less file e next.0 (subst (AreSound file) next.1 (j.back are));
        };
  }

  pub unsound : ¬ IsSound file e → (entries : List Entry) → IsTable table entries → ¬ AreSound file entries
  unsound bad entries is are =
      let j = judged.behind entries is in
      let next = table_front rest e more j.more split j.is_table in
      let those : AreSound file (e ∷ next.0) = subst (AreSound file) next.1 (j.back are) in
      bad (All-head (IsSound file) e next.0 those.each)

  pub twice : ((es : List Entry) → IsTable more es → (f : Entry) × IsListed es e.id f) → (entries : List Entry)
      → IsTable table entries → ¬ AreSound file entries
  twice again entries is are =
      let j = judged.behind entries is in
      let next = table_front rest e more j.more split j.is_table in
      let those : AreSound file (e ∷ next.0) = subst (AreSound file) next.1 (j.back are) in
      let f = again next.0 next.2 in
      All-contains (λ (g : Entry). g.id ≢ e.id) next.0 f.0 (once_head e next.0 those.once) f.1.listed f.1.of_id

pub at_end : (file table rest : List ℕ) → Judged file table rest → length rest < 12 → (entries : List Entry)
    → IsTable table entries → AreSound file entries
at_end file table rest judged short entries is =
    let j = judged.behind entries is in
    j.onto (subst (AreSound file) (sym (short_end rest j.more short j.is_table)) (sound_none file))
