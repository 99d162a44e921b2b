-- The parts whose units can't be read, one after the other.
use Rattle.std.proofs.Common.{◌≡◌, ◌∙◌, ℕ, ◌+◌, ◌<◌, Bool, true, false, List, [], ◌∷◌, ◌++◌, ap, append-nil, arith, cond, get_or, inl, inr, length, refl, subst, sym, take}
use Rattle.std.specs.Prelude.{◌==◌, not, Contains, if◌then◌else◌}
use Rattle.std.specs.List.{list_any}
use Rattle.std.proofs.lemmas.Bool.Decides.{nat_tests}
use Rattle.std.proofs.lemmas.List.Elements.{Contains-push_cases, filter_more}
use Rattle.std.proofs.lemmas.List.Folds.{Any-from_list_any, list_any_at}
use Rattle.vol_format.proofs.Lists.{element}
use Rattle.a2_device.specs.Device.{DeviceState, FailsRead, OnlyReads}
use Rattle.a2_device.specs.declared.part.Part.{Part}
use Rattle.file_cmds.specs.ReadingOn.{FailedAt, ReadsOn}
use Rattle.file_cmds.specs.lemmas.Reading.{failed_at, failed_at_among, none_read, one_reading}
use Rattle.shop_reads.specs.BodiesReply.{unread_parts}

module _ (unreadable : List ℕ) (place : ℕ) where
  abbrev is_listed : Bool
  is_listed = list_any (λ p. p == place) unreadable

  listed : Contains unreadable place → is_listed ≡ true
  listed has =
      let same : get_or unreadable has.0 place ≡ place = has.2 in
      list_any_at (λ p. p == place) unreadable has.0 place has.1 (grind (arith, nat_tests))

  listed_has : is_listed ≡ true → Contains unreadable place
  listed_has is =
      let (i, k, within, at, passes) = Any-from_list_any (λ p. p == place) unreadable is in
      let same : k ≡ place = grind (arith, nat_tests) in
      (i, within, subst (λ p. get_or unreadable i p ≡ p) same at)

  unlisted : (Contains unreadable place → ⊥) → is_listed ≡ false
  unlisted none = by_test is_listed refl
    where
      by_test : (b : Bool) → is_listed ≡ b → is_listed ≡ false
      by_test true is = absurd (none (listed_has is))
      by_test false is = is

module _ (start : DeviceState) (parts : List Part) where
  -- those of the first parts, where each read that failed was of a unit that can't be read
  abbrev pub AreUnread : DeviceState → ℕ → List Part → Type 0
  AreUnread now many unread =
      ((place : ℕ) → FailedAt place start now → Contains start.unreadable place) → unread ≡ unread_parts start.unreadable (take many parts)

  pub none_unread : (now : DeviceState) → AreUnread now 0 []
  none_unread now lacking = refl

  -- some of the parts
  abbrev pub AreAmong : List Part → Type 0
  AreAmong unread = (part : Part) → Contains unread part → Contains parts part

  pub none_among : AreAmong []
  none_among part has = absurd (omega (arith, has.1))

  one_among : (i : ℕ) (d : Part) → i < length parts → (unread : List Part) → AreAmong unread → AreAmong (unread ++ get_or parts i d ∷ [])
  one_among i d within unread among part has = elim (Contains-push_cases unread (get_or parts i d) part has) [
    | inl before ↦ among part before
    | inr same ↦ subst (Contains parts) same (element parts i d within)
  ]

  pub either_among : (i : ℕ) (d : Part) → i < length parts → (unread : List Part) (readable : Bool) (new : List Part) → AreAmong unread
      → new ≡ (if readable then unread else unread ++ get_or parts i d ∷ []) → AreAmong new
  either_among i d within unread true new among is = subst AreAmong (sym is) among
  either_among i d within unread false new among is = subst AreAmong (sym is) (one_among i d within unread among)

  module _ (now after : DeviceState) (i : ℕ) (d : Part) (unread : List Part) (within : i < length parts) (reads : ReadsOn start now) where
    abbrev part : Part
    part = get_or parts i d

    abbrev is_unread : Part → Bool
    is_unread p = is_listed start.unreadable p.place

    abbrev earlier : List Part
    earlier = unread_parts start.unreadable (take i parts)

    abbrev with_part : Bool → List Part
    with_part failed = earlier ++ cond failed (part ∷ []) []

    more : (failed : Bool) → (is_listed start.unreadable part.place ≡ failed) → (new : List Part) → unread ≡ earlier
        → new ≡ (if failed then unread ++ part ∷ [] else unread) → new ≡ unread_parts start.unreadable (take (i + 1) parts)
    more true is new so_far new_is =
        new_is ∙ ap (λ (ps : List Part). ps ++ part ∷ []) so_far ∙ sym (filter_more is_unread parts i d within ∙ ap with_part is)
    more false is new so_far new_is =
        new_is ∙ so_far ∙ sym (filter_more is_unread parts i d within ∙ ap with_part is ∙ append-nil earlier)

    pub read_part : (readable : Bool) → OnlyReads (not readable) now after → (Contains now.unreadable part.place → readable ≡ false)
        → (readable ≡ false → FailsRead part.place now after) → (new : List Part) → AreUnread now i unread
        → new ≡ (if readable then unread else unread ++ part ∷ []) → AreUnread after (i + 1) new
    read_part readable read lacks fails new so_far new_is lacking = by_reading readable refl
      where
        until : unread ≡ earlier
        until = so_far (λ place failed. lacking place (failed_at_among place start start now after (none_read start) (one_reading now after (not readable) read) failed))

        by_reading : (b : Bool) → readable ≡ b → new ≡ unread_parts start.unreadable (take (i + 1) parts)
        by_reading true is =
            more false (unlisted start.unreadable part.place (λ has. absurd (true_not_false (sym is ∙ lacks (subst (λ places. Contains places part.place) (sym reads.same.unreadable) has)))))
            new until (new_is ∙ ap (λ b. if b then unread else (unread ++ part ∷ [])) is)
          where
            true_not_false : true ≡ false → ⊥
            true_not_false e = cc
        by_reading false is =
            more true (listed start.unreadable part.place (lacking part.place
            (failed_at_among part.place start now after after reads (none_read after) (failed_at now after part.place (fails is)))))
            new until (new_is ∙ ap (λ b. if b then unread else (unread ++ part ∷ [])) is)
