-- The entries of a tree of directories: each stands in a slot of its own, of a block of the tree.
use Rattle.std.specs.Prelude.{◌≡◌, ◌≢◌, ◌<◌, ◌≤◌, ℕ, ◌+◌, ◌*◌, zero, suc, not, Bool, true, false, List, [], ◌∷◌, ◌++◌, length, map, All, AllPairs, Contains}
use Rattle.std.specs.List.{range_with_len}
use Rattle.std.proofs.Common.{refl, sym, ap, arith, subst, get_or, length-append}
use Rattle.std.proofs.lemmas.List.{get_or_default}
use Rattle.std.proofs.lemmas.List.Elements.{All-nil, All-cons, All-head, All-tail, All-append, All-filter, filter_passes, Contains-append_left, Contains-append_right}
use Rattle.std.proofs.lemmas.List.Filters.{length-filter_both}
use Rattle.std.proofs.lemmas.List.Kept.{AllPairs-filter, AllPairs-cons}
use Rattle.std.proofs.lemmas.List.FromFn.{length-map-range_with_len, get_or-map-range_with_len}
use Rattle.vol_layout.proofs.Lists.{Contains-cons}
use Rattle.a2_device.specs.Device.{unit_at}
use Rattle.pro_dir.specs.declared.entry.Entry.{Entry}
use Rattle.pro_dir.specs.Entry.{entry_at, entries_of, entries_in, is_listed, is_directory, key_of}
use Rattle.pro_dir.specs.Tree.{CanLink, Leads, IsRun, HasBlocks, Lists}

-- what holds of each entry in use of a block
pub each_slot : (P : Entry → Type 0) (directory place : ℕ) (unit : List ℕ)
    → ((slot : ℕ) → slot < 13 → is_listed (entry_at directory place unit slot) ≡ true → P (entry_at directory place unit slot)) → All P (entries_of directory place unit)
unfolding entries_of
each_slot P directory place unit each = λ k d within.
    All-filter is_listed (λ e. is_listed e ≡ true → P e) (map (entry_at directory place unit) (range_with_len 0 13))
    (λ i d' inside.
    let low : i < 13 = omega (arith, inside, length-map-range_with_len (entry_at directory place unit) 0 13) in
    subst (λ e. is_listed e ≡ true → P e) (sym (get_or-map-range_with_len (entry_at directory place unit) 0 13 i i d' low (omega arith))) (each i low))
    k d within
    (filter_passes is_listed (map (entry_at directory place unit) (range_with_len 0 13)) k d within)

-- and of some blocks of one directory
pub each_entry : (P : Entry → Type 0) (store : List (List ℕ)) (directory : ℕ) (places : List ℕ)
    → ((place slot : ℕ) → Contains places place → slot < 13 → is_listed (entry_at directory place (unit_at store place) slot) ≡ true → P (entry_at directory place (unit_at store place) slot))
    → All P (entries_in store directory places)
each_entry P store directory [] each = All-nil P
each_entry P store directory (place ∷ rest) each =
    All-append P (entries_of directory place (unit_at store place)) (entries_in store directory rest)
    (each_slot P directory place (unit_at store place) (λ slot low. each place slot (0, omega arith, refl) low))
    (each_entry P store directory rest (λ other slot has low. each other slot (Contains-cons place rest other has) low))

-- and of all that is listed
pub each_listed : (P : Entry → Type 0) (store : List (List ℕ)) (from entries : List Entry) (blocks : List ℕ) (rest : List Entry) → Lists store from entries blocks rest → All P from
    → ((directory place slot : ℕ) → Contains blocks place → slot < 13 → is_listed (entry_at directory place (unit_at store place) slot) ≡ true → P (entry_at directory place (unit_at store place) slot))
    → All P entries
each_listed P store from [] blocks rest so all each = All-nil P
each_listed P store from (entry ∷ entries) blocks rest so all each =
    let both = subst (All P) so.3 all in
    All-cons P entry entries (All-head P entry so.0 both)
    (each_listed P store (entries_in store (key_of entry) so.1 ++ so.0) entries so.2 rest so.6
    (All-append P (entries_in store (key_of entry) so.1) so.0
    (each_entry P store (key_of entry) so.1 (λ place slot has. each (key_of entry) place slot (subst (λ bs. Contains bs place) (sym so.4) (Contains-append_left so.1 so.2 place has))))
    (All-tail P entry so.0 both))
    (λ directory place slot has. each directory place slot (subst (λ bs. Contains bs place) (sym so.4) (Contains-append_right so.1 so.2 place has))))

-- the blocks are ones that a link can name
leads_can : (store : List (List ℕ)) (from : ℕ) (blocks : List ℕ) (last : ℕ) → Leads store from blocks last → All (CanLink store) blocks
leads_can store from [] last way = All-nil (CanLink store)
leads_can store from (block ∷ rest) last way = All-cons (CanLink store) block rest way.0 (leads_can store block rest last way.2)

pub run_can : (store : List (List ℕ)) (key : ℕ) (blocks : List ℕ) → IsRun store key blocks → All (CanLink store) blocks
run_can store key blocks run = subst (All (CanLink store)) (sym run.is) (All-cons (CanLink store) key run.rest run.can_link (leads_can store key run.rest run.last run.leads))

own_can : (directory : Bool) (store : List (List ℕ)) (key : ℕ) (blocks : List ℕ) → HasBlocks directory store key blocks → All (CanLink store) blocks
own_can true store key blocks has = run_can store key blocks has.run
own_can false store key blocks none = subst (All (CanLink store)) (sym none) (All-nil (CanLink store))

pub listed_can : (store : List (List ℕ)) (from entries : List Entry) (blocks : List ℕ) (rest : List Entry) → Lists store from entries blocks rest → All (CanLink store) blocks
listed_can store from [] blocks rest so = subst (All (CanLink store)) (sym so.1) (All-nil (CanLink store))
listed_can store from (entry ∷ entries) blocks rest so = subst (All (CanLink store)) (sym so.4)
    (All-append (CanLink store) so.1 so.2 (own_can (is_directory entry) store (key_of entry) so.1 so.5)
    (listed_can store (entries_in store (key_of entry) so.1 ++ so.0) entries so.2 rest so.6))

-- at most thirteen entries a block
few_of : (directory place : ℕ) (unit : List ℕ) → length (entries_of directory place unit) ≤ 13
unfolding entries_of
few_of directory place unit = omega (
  arith,
  length-filter_both is_listed (λ e. not (is_listed e)) (λ _. refl) (map (entry_at directory place unit) (range_with_len 0 13)),
  length-map-range_with_len (entry_at directory place unit) 0 13,
)

pub few_in : (store : List (List ℕ)) (directory : ℕ) (places : List ℕ) → length (entries_in store directory places) ≤ 13 * length places
few_in store directory [] = omega arith
few_in store directory (place ∷ rest) = omega (
  arith,
  few_in store directory rest,
  few_of directory place (unit_at store place),
  length-append (entries_of directory place (unit_at store place)) (entries_in store directory rest),
)

pub few_listed : (store : List (List ℕ)) (from entries : List Entry) (blocks : List ℕ) (rest : List Entry) → Lists store from entries blocks rest
    → length entries ≤ length from + 13 * length blocks
few_listed store from [] blocks rest so = omega arith
few_listed store from (entry ∷ entries) blocks rest so = omega (
  arith,
  few_listed store (entries_in store (key_of entry) so.1 ++ so.0) entries so.2 rest so.6,
  length-append (entries_in store (key_of entry) so.1) so.0,
  few_in store (key_of entry) so.1,
  ap length so.3,
  ap length so.4,
  length-append so.1 so.2,
)

-- two entries stand in different slots, or in different blocks
abbrev pub AreApart : Entry → Entry → Type 0
AreApart entry later = entry.place ≡ later.place → entry.slot ≡ later.slot → ⊥

AllPairs-append : {X : Type 0} (R : X → X → Type 0) (xs ys : List X) → AllPairs R xs → AllPairs R ys → All (λ x. All (R x) ys) xs → AllPairs R (xs ++ ys)
AllPairs-append R [] ys first second across = second
AllPairs-append R (x ∷ xs) ys first second across =
    AllPairs-cons R x (xs ++ ys)
    (All-append (R x) xs ys (λ k d within. first 0 (suc k) d (omega arith) (omega (arith, within))) (All-head (λ x. All (R x) ys) x xs across))
    (AllPairs-append R xs ys (λ i j d less within. first (suc i) (suc j) d (omega (arith, less)) (omega (arith, within))) second (All-tail (λ x. All (R x) ys) x xs across))

slots_apart : (directory place : ℕ) (unit : List ℕ) → AllPairs AreApart (entries_of directory place unit)
unfolding entries_of
slots_apart directory place unit = AllPairs-filter AreApart is_listed (map (entry_at directory place unit) (range_with_len 0 13)) (λ i j d less within same_place same_slot.
    let inside : j < 13 = omega (arith, within, length-map-range_with_len (entry_at directory place unit) 0 13) in
    let first = ap (λ (e : Entry). e.slot) (get_or-map-range_with_len (entry_at directory place unit) 0 13 i i d (omega (arith, less, inside)) (omega arith)) in
    let second = ap (λ (e : Entry). e.slot) (get_or-map-range_with_len (entry_at directory place unit) 0 13 j j d inside (omega arith)) in
    omega (arith, first, second, same_slot, less))

-- no block stands twice
abbrev pub AreDistinct : List ℕ → Type 0
AreDistinct blocks = AllPairs (λ block later. block ≢ later) blocks

distinct_tail : (block : ℕ) (rest : List ℕ) → AreDistinct (block ∷ rest) → AreDistinct rest
distinct_tail block rest once = λ i j d less within. once (suc i) (suc j) d (omega (arith, less)) (omega (arith, within))

not_behind : (block : ℕ) (rest : List ℕ) → AreDistinct (block ∷ rest) → Contains rest block → ⊥
not_behind block rest once has = once 0 (suc has.0) block (omega arith) (omega (arith, has.1)) (sym has.2)

pub distinct_left : (own later : List ℕ) → AreDistinct (own ++ later) → AreDistinct own
distinct_left [] later once = λ i j d less within. absurd (omega (arith, within))
distinct_left (block ∷ own) later once =
    AllPairs-cons (λ block later. block ≢ later) block own
    (λ k d within same. not_behind block (own ++ later) once
    (subst (Contains (own ++ later)) (sym same) (Contains-append_left own later (get_or own k d) (k, within, get_or_default own k (get_or own k d) d within))))
    (distinct_left own later (distinct_tail block (own ++ later) once))

pub distinct_right : (own later : List ℕ) → AreDistinct (own ++ later) → AreDistinct later
distinct_right [] later once = once
distinct_right (block ∷ own) later once = distinct_right own later (distinct_tail block (own ++ later) once)

pub in_both : (own later : List ℕ) (block : ℕ) → AreDistinct (own ++ later) → Contains own block → Contains later block → ⊥
in_both [] later block once has has' = omega (arith, has.1)
in_both (first ∷ own) later block once (zero, within, same) has' =
    not_behind first (own ++ later) once (subst (Contains (own ++ later)) (sym same) (Contains-append_right own later block has'))
in_both (first ∷ own) later block once (suc k, within, same) has' =
    in_both own later block (distinct_tail first (own ++ later) once) (k, omega (arith, within), same) has'

pub entries_apart : (store : List (List ℕ)) (directory : ℕ) (places : List ℕ) → AreDistinct places → AllPairs AreApart (entries_in store directory places)
entries_apart store directory [] once = λ i j d less within. absurd (omega (arith, within))
entries_apart store directory (place ∷ rest) once =
    AllPairs-append AreApart (entries_of directory place (unit_at store place)) (entries_in store directory rest) (slots_apart directory place (unit_at store place))
    (entries_apart store directory rest (distinct_tail place rest once))
    (each_slot (λ entry. All (AreApart entry) (entries_in store directory rest)) directory place (unit_at store place) (λ slot low used.
    each_entry (AreApart (entry_at directory place (unit_at store place) slot)) store directory rest (λ other at has low' used' same_place same_slot.
    not_behind place rest once (subst (Contains rest) (sym same_place) has))))

-- an entry of another block than these
abbrev pub IsOutside : List ℕ → Entry → Type 0
IsOutside blocks entry = Contains blocks entry.place → ⊥

pub listed_apart : (store : List (List ℕ)) (from entries : List Entry) (blocks : List ℕ) (rest : List Entry) → Lists store from entries blocks rest
    → AreDistinct blocks → AllPairs AreApart from → All (IsOutside blocks) from → AllPairs AreApart entries
listed_apart store from [] blocks rest so once apart outside = λ i j d less within. absurd (omega (arith, within))
listed_apart store from (entry ∷ entries) blocks rest so once apart outside =
    AllPairs-cons AreApart entry entries
    (each_listed (AreApart entry) store (entries_in store (key_of entry) so.1 ++ so.0) entries so.2 rest so.6
    (All-append (AreApart entry) (entries_in store (key_of entry) so.1) so.0
    (each_entry (AreApart entry) store (key_of entry) so.1 (λ place slot has low used same same_slot.
    head (in_left place has) same)) behind)
    (λ directory place slot has low used same same_slot. head (in_right place has) same))
    (listed_apart store (entries_in store (key_of entry) so.1 ++ so.0) entries so.2 rest so.6 (distinct_right so.1 so.2 once')
    (AllPairs-append AreApart (entries_in store (key_of entry) so.1) so.0 (entries_apart store (key_of entry) so.1 (distinct_left so.1 so.2 once'))
    (λ i j d less within. apart' (suc i) (suc j) d (omega (arith, less)) (omega (arith, within)))
    (each_entry (λ e. All (AreApart e) so.0) store (key_of entry) so.1 (λ place slot has low used k d within same same_slot.
    tail_outside k d within (in_left place has) same)))
    (All-append (IsOutside so.2) (entries_in store (key_of entry) so.1) so.0
    (each_entry (IsOutside so.2) store (key_of entry) so.1 (λ place slot has low used has'. in_both so.1 so.2 place once' has has'))
    (λ k d within has. tail_outside k d within (in_right (get_or so.0 k d).place has) refl)))
  where
    apart' : AllPairs AreApart (entry ∷ so.0)
    apart' = subst (AllPairs AreApart) so.3 apart

    outside' : All (IsOutside blocks) (entry ∷ so.0)
    outside' = subst (All (IsOutside blocks)) so.3 outside

    once' : AreDistinct (so.1 ++ so.2)
    once' = subst AreDistinct so.4 once

    behind : All (AreApart entry) so.0
    behind k d within = apart' 0 (suc k) d (omega arith) (omega (arith, within))

    in_left : (place : ℕ) → Contains so.1 place → Contains blocks place
    in_left place has = subst (λ bs. Contains bs place) (sym so.4) (Contains-append_left so.1 so.2 place has)

    in_right : (place : ℕ) → Contains so.2 place → Contains blocks place
    in_right place has = subst (λ bs. Contains bs place) (sym so.4) (Contains-append_right so.1 so.2 place has)

    head : {place : ℕ} → Contains blocks place → entry.place ≡ place → ⊥
    head {place} has same = All-head (IsOutside blocks) entry so.0 outside' (subst (Contains blocks) (sym same) has)

    tail_outside : (k : ℕ) (d : Entry) → k < length so.0 → {place : ℕ} → Contains blocks place → place ≡ (get_or so.0 k d).place → ⊥
    tail_outside k d within {place} has same = All-tail (IsOutside blocks) entry so.0 outside' k d within (subst (Contains blocks) same has)
