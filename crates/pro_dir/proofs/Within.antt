-- Entries that stand in slots of blocks within a volume.
use Rattle.std.proofs.Common.{◌≡◌, ◌≢◌, ◌<◌, ◌≤◌, ◌+◌, ◌-◌, ◌*◌, ℕ, Bool, true, false, cond, List, [], ◌∷◌, ◌++◌, length, refl, sym, ◌∙◌, ap, subst, arith, get_or, map, replicate, drop, count_by, length-append}
use Rattle.std.specs.Prelude.{Option, Some, None, IfSome, ◌==◌, find, not, option_map, reverse, sum_by}
use Rattle.std.specs.Option.{option_or}
use Rattle.std.specs.List.{All, range_with_len}
use Rattle.std.proofs.lemmas.List.{reverse-append, length-take-le, length-drop, length-replicate, get_or_default, get_or_past}
use Rattle.std.proofs.lemmas.List.Elements.{All-nil, All-cons, All-head, All-tail, All-push, All-append, All-drop, All-map}
use Rattle.std.proofs.lemmas.List.FromFn.{length-range_with_len, get_or-range_with_len}
use Rattle.std.proofs.lemmas.List.Sums.{count_by-le-length, sum_by-append, sum_by_push}
use Rattle.std.proofs.lemmas.Bool.{cases_lt}
use Rattle.std.proofs.lemmas.Bool.Decides.{nat_tests}
use Rattle.std.proofs.Common.{⊎_elim}
use Rattle.pro_dir.specs.declared.entry.Entry.{Entry}
use Rattle.pro_dir.specs.declared.reading.FreeSlot.{FreeSlot}
use Rattle.pro_dir.specs.declared.waiting.Waiting.{Waiting}
use Rattle.pro_dir.specs.Entry.{entry_at, is_inactive}
use Rattle.pro_dir.specs.Volume.{map_first, total_blocks}
use Rattle.pro_dir.specs.Walk.{HasMetMore, IsTable, first_free_of, is_met, kept_for, kept_slots, left_in, whole_block, work}
use Rattle.pro_dir.specs.Within.{IsFreeWithin, IsInSlot, IsKeptWithin, IsReadWithin, IsWaitingWithin, IsWithin}
use Rattle.pro_dir.proofs.Described.{AreNew}

module _ (places directory block : ℕ) (unit : List ℕ) (named : directory < places) (below : block < places) (long : length unit ≡ 512) where
  pub in_slot : (slot : ℕ) → slot < 13 → IsInSlot places (entry_at directory block unit slot)
  in_slot slot inside = record {
    directory = named;
    place = below;
    slot = inside;
    bytes = length-take-le 39 (drop (4 + 39 * slot) unit) (omega (arith, inside, long, length-drop (4 + 39 * slot) unit));
  }

-- what is found in a list has what all of it have, and passes the test
found_in : {X : Type 0} (P : X → Type 0) (p : X → Bool) (xs : List X) → All P xs → IfSome (find p xs) (λ x. P x × (p x ≡ true))
found_in P p [] all = tt
found_in P p (x ∷ xs) all = by_test (p x) refl (found_in P p xs (All-tail P x xs all))
  where
    by_test : (b : Bool) → p x ≡ b → IfSome (find p xs) (λ y. P y × (p y ≡ true)) → IfSome (cond b (Some x) (find p xs)) (λ y. P y × (p y ≡ true))
    by_test true is rest = (All-head P x xs all, is)
    by_test false is rest = rest

thirteen : All (λ slot. slot < 13) (range_with_len 0 13)
thirteen k d within =
    let inside : k < 13 = omega (arith, within, length-range_with_len 0 13) in
    omega (arith, inside, get_or-range_with_len 0 13 k d inside)

-- a slot without an entry is no header
no_header : (key place slot : ℕ) (unit : List ℕ) → is_inactive (entry_at key place unit slot) ≡ true → slot ≡ 0 → place ≢ key
no_header key place slot unit is first same = grind (arith, nat_tests)

slot_found : (places key place : ℕ) (unit : List ℕ) (found : Option ℕ) → place < places
    → IfSome found (λ slot. (slot < 13) × (is_inactive (entry_at key place unit slot) ≡ true)) → IfSome (option_map (λ slot. (place, slot)) found) (IsFreeWithin places key)
slot_found places key place unit None below is = tt
slot_found places key place unit (Some slot) below is = record { place = below; number = is.0; no_header = no_header key place slot unit is.1 }

-- the first free slot, with one block more
free_slot_within : (places key place : ℕ) (unit : List ℕ) (old first : Option (ℕ × ℕ)) → place < places → first ≡ option_or old (first_free_of key place unit)
    → IfSome old (IsFreeWithin places key) → IfSome first (IsFreeWithin places key)
unfolding first_free_of
free_slot_within places key place unit (Some slot) first below is before = subst (λ free. IfSome free (IsFreeWithin places key)) (sym is) before
free_slot_within places key place unit None first below is before =
    let is_free : ℕ → Bool = λ slot. is_inactive (entry_at key place unit slot) in
    subst (λ free. IfSome free (IsFreeWithin places key)) (sym is)
    (slot_found places key place unit (find is_free (range_with_len 0 13)) below (found_in (λ slot. slot < 13) is_free (range_with_len 0 13) thirteen))

-- one block more is read
pub read_within : (places key block : ℕ) (unit : List ℕ) (free first : Option (ℕ × ℕ)) → block < places → first ≡ option_or free (first_free_of key block unit)
    → IsReadWithin places key free → IsReadWithin places key first
read_within places key block unit free first below first_is before = record {
  named = before.named;
  free = free_slot_within places key block unit free first below first_is before.free;
}

pub none_read : (places key : ℕ) (free : Option (ℕ × ℕ)) → key < places → free ≡ None → IsReadWithin places key free
none_read places key free below none = record { named = below; free = subst (λ slot. IfSome slot (IsFreeWithin places key)) (sym none) tt }

-- what is kept of a directory
one_kept : (places key : ℕ) (free : Option (ℕ × ℕ)) → IfSome free (IsFreeWithin places key) → All (IsKeptWithin places) (kept_slots key free)
one_kept places key None within = All-nil (IsKeptWithin places)
one_kept places key (Some slot) within =
    All-cons (IsKeptWithin places) (record { directory = key; place = slot.0; number = slot.1 }) [] within (All-nil (IsKeptWithin places))

pub kept_within : (places key : ℕ) (old new : List FreeSlot) (free : Option (ℕ × ℕ)) → new ≡ old ++ kept_slots key free → IfSome free (IsFreeWithin places key)
    → All (IsKeptWithin places) old → All (IsKeptWithin places) new
kept_within places key old new free is within before =
    subst (All (IsKeptWithin places)) (sym is) (All-append (IsKeptWithin places) old (kept_slots key free) before (one_kept places key free within))

slot_kept : (places key : ℕ) (found : Option FreeSlot) → IfSome found (λ slot. IsKeptWithin places slot × ((slot.directory == key) ≡ true))
    → IfSome (option_map (λ (slot : FreeSlot). (slot.place, slot.number)) found) (IsFreeWithin places key)
slot_kept places key None is = tt
slot_kept places key (Some slot) is =
    let same : slot.directory ≡ key = let test = is.1 in grind (arith, nat_tests) in
    subst (λ k. IsFreeWithin places k (slot.place, slot.number)) same is.0

-- so the slot that is kept for a directory lies within the volume
pub kept_for_within : (places : ℕ) (free : List FreeSlot) → All (IsKeptWithin places) free → (key : ℕ) → IfSome (kept_for free key) (IsFreeWithin places key)
kept_for_within places free all key =
    let is_own : FreeSlot → Bool = λ slot. slot.directory == key in
    slot_kept places key (find is_own free) (found_in (IsKeptWithin places) is_own free all)

inside_table : (places block : ℕ) (met : List Bool) → length met ≡ places → is_met met block ≡ true → block < places
inside_table places block met size is = ⊎_elim (λ within. omega (arith, within, size))
    (λ beyond. absurd (let none : is_met met block ≡ false = get_or_past met block false beyond in cc)) (cases_lt block (length met))

reversed : (places : ℕ) (waiting : List Waiting) → All (IsWaitingWithin places) waiting → All (IsWaitingWithin places) (reverse waiting)
reversed places [] all = All-nil (IsWaitingWithin places)
reversed places (slots ∷ waiting) all =
    let Within : Waiting → Type 0 = IsWaitingWithin places in
    subst (All Within) (sym (reverse-append (slots ∷ []) waiting))
    (All-push Within (reverse waiting) slots (reversed places waiting (All-tail Within slots waiting all)) (All-head Within slots waiting all))

-- the blocks of the table are below the places
below_places : (places : ℕ) (met : List Bool) (blocks : List ℕ) → IsTable places met blocks → All (λ block. block < places) blocks
below_places places met blocks table k d within = inside_table places (get_or blocks k d) met table.size (table.all (get_or blocks k d) (k, within, get_or_default blocks k (get_or blocks k d) d within))

-- with the blocks of a directory that wait
pub blocks_within : (places : ℕ) (met : List Bool) (blocks : List ℕ) (key first : ℕ) (pending waiting : List Waiting) → IsTable places met blocks → key < places
    → waiting ≡ pending ++ reverse (map (whole_block key) (drop first blocks)) → All (IsWaitingWithin places) pending → All (IsWaitingWithin places) waiting
blocks_within places met blocks key first pending waiting table named is before =
    let Within : Waiting → Type 0 = IsWaitingWithin places in
    let below = All-drop (λ block. block < places) first blocks (below_places places met blocks table) in
    let each = All-map Within (whole_block key) (drop first blocks) (λ k d within. record { directory = named; place = below k d within; slot = omega arith }) in
    subst (All Within) (sym is) (All-append Within pending (reverse (map (whole_block key) (drop first blocks))) before (reversed places (map (whole_block key) (drop first blocks)) each))

-- slots behind that of an entry wait
pub behind_within : (places : ℕ) (pending waiting : List Waiting) (slots : Waiting) (slot : ℕ) → slot < 13 → IsWaitingWithin places slots
    → waiting ≡ pending ++ (record slots { slot = slot + 1 }) ∷ [] → All (IsWaitingWithin places) pending → All (IsWaitingWithin places) waiting
behind_within places pending waiting slots slot below inside is before =
    subst (All (IsWaitingWithin places)) (sym is)
    (All-push (IsWaitingWithin places) pending (record slots { slot = slot + 1 }) before (record { directory = inside.directory; place = inside.place; slot = omega (arith, below) }))

split : (P : Waiting → Type 0) (left : List Waiting) (slots : Waiting) → All P (left ++ slots ∷ []) → All P left × P slots
split P [] slots all = (All-nil P, All-head P slots [] all)
split P (x ∷ left) slots all =
    let rest = split P left slots (All-tail P x (left ++ slots ∷ []) all) in
    (All-cons P x left (All-head P x (left ++ slots ∷ []) all) rest.0, rest.1)

-- the last that wait, and those before them
pub last_within : (places : ℕ) (pending left : List Waiting) (slots : Waiting) → pending ≡ left ++ slots ∷ [] → All (IsWaitingWithin places) pending
    → All (IsWaitingWithin places) left × IsWaitingWithin places slots
last_within places pending left slots is all = split (IsWaitingWithin places) left slots (subst (All (IsWaitingWithin places)) is all)

pub listed_within : (places : ℕ) (entries longer : List Entry) (entry : Entry) → longer ≡ entries ++ entry ∷ [] → All (IsInSlot places) entries → IsInSlot places entry
    → All (IsInSlot places) longer
listed_within places entries longer entry is all one = subst (All (IsInSlot places)) (sym is) (All-push (IsInSlot places) entries entry all one)

-- each block that waits whole takes the place of fourteen
left_in_blocks : (key : ℕ) (blocks : List ℕ) → sum_by left_in (reverse (map (whole_block key) blocks)) ≡ 14 * length blocks
left_in_blocks key [] = refl
left_in_blocks key (block ∷ blocks) =
    ap (sum_by left_in) (reverse-append (whole_block key block ∷ []) (map (whole_block key) blocks))
    ∙ sum_by_push left_in (reverse (map (whole_block key) blocks)) (whole_block key block)
    ∙ omega (arith, left_in_blocks key blocks)

-- where the slots behind an entry wait, there is less to do than when its slot waited too
behind_work : (met marks : List Bool) (pending waiting : List Waiting) (slots : Waiting) (slot : ℕ) → slot < 13 → marks ≡ met
    → waiting ≡ pending ++ (record slots { slot = slot + 1 }) ∷ [] → work marks waiting + slot ≡ work met pending + 13
behind_work met marks pending waiting slots slot below met_is is =
    let left : sum_by left_in waiting ≡ sum_by left_in pending + (14 - (slot + 1)) =
    ap (sum_by left_in) is ∙ sum_by_push left_in pending (record slots { slot = slot + 1 }) in
    omega (arith, left, ap (count_by not) met_is)

pub less_work : (met marks last : List Bool) (pending waiting rest : List Waiting) (slots : Waiting) (slot : ℕ) → slots.slot ≤ slot → slot < 13 → marks ≡ met
    → waiting ≡ pending ++ (record slots { slot = slot + 1 }) ∷ [] → work last rest ≤ work marks waiting → work last rest < work met pending + left_in slots
less_work met marks last pending waiting rest slots slot from below met_is is fewer =
    omega (arith, behind_work met marks pending waiting slots slot below met_is is)

-- one entry more is listed, and its slot is done with
pub few_work : (met marks last : List Bool) (pending waiting rest : List Waiting) (slots : Waiting) (slot : ℕ) (old longer listed : List Entry) (entry : Entry) → slots.slot ≤ slot → slot < 13
    → marks ≡ met → waiting ≡ pending ++ (record slots { slot = slot + 1 }) ∷ [] → work last rest ≤ work marks waiting
    → length longer + slots.slot ≤ length old + slot → listed ≡ longer ++ entry ∷ []
    → length listed + work last rest ≤ length old + work met pending + left_in slots
few_work met marks last pending waiting rest slots slot old longer listed entry from below met_is is fewer few listed_is =
    omega (arith, behind_work met marks pending waiting slots slot below met_is is, ap length listed_is, length-append longer (entry ∷ []))

-- where no slot waits again, there is less to do
pub less_done : (met marks : List Bool) (pending waiting : List Waiting) (slots : Waiting) → slots.slot ≤ 13 → marks ≡ met → waiting ≡ pending
    → work marks waiting < work met pending + left_in slots
less_done met marks pending waiting slots inside met_is is = omega (arith, ap (count_by not) met_is, ap (sum_by left_in) is)

pub few_done : (met marks : List Bool) (pending waiting : List Waiting) (slots : Waiting) (old listed : List Entry) → slots.slot ≤ 13 → marks ≡ met → waiting ≡ pending
    → length listed + slots.slot ≤ length old + 13 → length listed + work marks waiting ≤ length old + work met pending + left_in slots
few_done met marks pending waiting slots old listed inside met_is is few = omega (arith, ap (count_by not) met_is, ap (sum_by left_in) is)

-- there is as much to do when blocks that were met wait
pub same_work : (met marks : List Bool) (blocks more : List ℕ) (key first : ℕ) (pending waiting : List Waiting) → first ≡ length blocks
    → HasMetMore met marks blocks more → waiting ≡ pending ++ reverse (map (whole_block key) (drop first more)) → work marks waiting ≤ work met pending
same_work met marks blocks more key first pending waiting first_is met_more is =
    let left : sum_by left_in waiting ≡ sum_by left_in pending + 14 * length (drop first more) =
    ap (sum_by left_in) is ∙ sum_by-append left_in pending (reverse (map (whole_block key) (drop first more)))
    ∙ ap (λ n. sum_by left_in pending + n) (left_in_blocks key (drop first more)) in
    omega (arith, left, met_more.unmet, met_more.longer, first_is, length-drop first more)

-- slots that are taken up wait no longer
pub taken_up : (pending left : List Waiting) (slots : Waiting) → pending ≡ left ++ slots ∷ [] → sum_by left_in pending ≡ sum_by left_in left + left_in slots
taken_up pending left slots is = ap (sum_by left_in) is ∙ sum_by_push left_in left slots

-- at the beginning there is as much to do as slots
pub first_work : (places : ℕ) (met marks : List Bool) (none blocks : List ℕ) (pending waiting : List Waiting) (listed : List Entry) (key : ℕ) → met ≡ replicate places false → none ≡ []
    → HasMetMore met marks none blocks → pending ≡ [] → waiting ≡ pending ++ reverse (map (whole_block key) (drop 0 blocks)) → listed ≡ []
    → length listed + work marks waiting ≤ 14 * places
first_work places met marks none blocks pending waiting listed key met_is empty met_more no_pending waiting_is no_listed =
    omega (
      arith,
      same_work met marks none blocks key 0 pending waiting (sym (ap length empty)) met_more waiting_is,
      ap length met_is ∙ length-replicate places false,
      count_by-le-length not met,
      ap (sum_by left_in) no_pending,
      ap length no_listed,
    )

pub volume_within : (places first : ℕ) (header : List ℕ) (met : List Bool) (blocks : List ℕ) (entries : List Entry) → length header ≡ 39 → total_blocks header ≡ places → places < 65536
    → IsTable places met blocks → All (IsInSlot places) entries → length entries ≤ 14 * places → first ≡ map_first header → AreNew first places met
    → IsWithin places (record { header = header; blocks = blocks; entries = entries })
volume_within places first header met blocks entries size total low table all few first_is new = record {
  header = size;
  total = total;
  blocks = λ block has. (table.low block has, inside_table places block met table.size (table.all block has));
  once = table.once;
  entries = all;
  few = omega (arith, few, low);
  map = λ place from below.
      let is = subst (λ n. AreNew n places met) first_is new place from below in
      (is.0, is.1, λ has. let met_is = table.all place has in let unmet = is.2 in cc);
}
