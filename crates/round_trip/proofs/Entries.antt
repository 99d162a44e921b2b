-- The entries that what was made of an extraction are.
use Rattle.std.proofs.Common.{◌≡◌, ◌<◌, ◌+◌, ◌⊎◌, ◌∙◌, ℕ, suc, zero, List, [], ◌∷◌, ◌++◌, Option, Some, None, codes, length, map, refl, sym, ap, arith, inl, inr, length-append}
use Rattle.std.specs.Prelude.{Contains, option_map, slice_get}
use Rattle.std.specs.Option.{option_map_or}
use Rattle.std.proofs.lemmas.List.{append_cancel_right}
use Rattle.std.proofs.lemmas.Option.{get_or_from_slice_get, slice_get-get_or, slice_get-map, slice_get_within}
use Rattle.folder_adding.specs.HostEntries.{EntryView}
use Rattle.folder_adding.specs.declared.host_entry.HostKind.TheVariants.{File, Folder}
use Rattle.host_folders.specs.Folder.{Made, file, folder as made_folder}
use Rattle.host_folders.specs.HostNames.{text_beside}
use Rattle.round_trip.specs.Extracted.{Extracted, IsExtracted, item_in}
use Rattle.round_trip.specs.Planned.{file_at, folder_at, form_host}
use Rattle.round_trip.specs.Whole.{AreEntriesOf, IsDirectoryIn, IsFileIn, IsFormIn, entry_of}
use Rattle.round_trip.proofs.Forms.{file_of_form, no_text_alone}
use Rattle.round_trip.proofs.Made.{either, made_at, only}
use Rattle.round_trip.proofs.Own.{no_form, same_number}
use Rattle.volume_extract.specs.ExtractText.{has_text, is_file, is_folder}
use Rattle.volume_extract.specs.Items.{Found, Item, found_both, found_file, found_folder, found_text, found_unread, item_at, made_by, made_in, made_of}

-- an entry is the file of an item, its readable form, or the folder of a directory
pub data IsOf (e : Extracted) (entry : EntryView) (number : ℕ) : Type 0 where
  its_file : IsFileIn e number → entry ≡ file_at (item_in e number).host → IsOf e entry number
  its_form : IsFormIn e number → entry ≡ file_at (form_host e number) → IsOf e entry number
  its_folder : IsDirectoryIn e number → entry ≡ folder_at (item_in e number).host → IsOf e entry number

entry_is : (one other : Made) (entry : EntryView) → other ≡ one → entry ≡ entry_of one → entry ≡ entry_of other
entry_is one other entry same is = is ∙ ap entry_of (sym same)

kinds_differ : (one other : List ℕ) → file_at one ≡ folder_at other → ⊥
kinds_differ one other same = let kinds : File ≡ Folder = ap (λ (entry : EntryView). entry.kind) same in cc

module _ (e : Extracted) (is : IsExtracted e) where
  from_found : (number : ℕ) → number < length e.items → (found : Found) → (item_in e number).found ≡ found → (one : Made) (entry : EntryView)
      → Contains (made_by (item_in e number).host found) one → entry ≡ entry_of one → IsOf e entry number
  from_found number inside found_folder same one entry has of =
      its_folder (inside, ap is_folder same) (entry_is one (made_folder (item_in e number).host) entry (only _ one has) of)
  from_found number inside (found_file bytes) same one entry has of =
      its_file (inside, ap is_file same) (entry_is one (file (item_in e number).host bytes) entry (only _ one has) of)
  from_found number inside (found_both bytes text) same one entry has of = elim (either _ _ one has) [
    | inl first ↦ its_file (inside, ap is_file same) (entry_is one (file (item_in e number).host bytes) entry first of)
    | inr second ↦ its_form (inside, ap has_text same) (entry_is one (file (form_host e number) text) entry second of)
  ]
  from_found number inside (found_text text) same one entry has of = absurd (no_text_alone e is number inside text same)
  from_found number inside found_unread same one entry has of = absurd (omega (arith, has.1))

  pub from_item : (number : ℕ) → number < length e.items → (one : Made) (entry : EntryView) → Contains (made_of (item_in e number)) one
      → entry ≡ entry_of one → IsOf e entry number
  from_item number inside one entry has of = from_found number inside (item_in e number).found refl one entry has of

  pub from_made : (one : Made) (entry : EntryView) → Contains (made_in e.items) one → entry ≡ entry_of one → (number : ℕ) × IsOf e entry number
  from_made one entry has of = let at = made_at e.items one has in (at.0, from_item at.0 at.1 one entry at.2 of)

  -- ---- an entry is of one item

  pub same_file : (one other : ℕ) → IsFileIn e one → IsFileIn e other → file_at (item_in e one).host ≡ file_at (item_in e other).host → one ≡ other
  same_file one other of also same = same_number e is one other of.0 also.0 (ap (λ (entry : EntryView). entry.path) same)

  pub same_folder : (one other : ℕ) → IsDirectoryIn e one → IsDirectoryIn e other → folder_at (item_in e one).host ≡ folder_at (item_in e other).host
      → one ≡ other
  same_folder one other of also same = same_number e is one other of.0 also.0 (ap (λ (entry : EntryView). entry.path) same)

  pub same_form : (one other : ℕ) → IsFormIn e one → IsFormIn e other → file_at (form_host e one) ≡ file_at (form_host e other) → one ≡ other
  same_form one other of also same =
      same_number e is one other of.0 also.0
      (append_cancel_right (item_in e one).host (item_in e other).host (codes ".utf8.txt") (ap (λ (entry : EntryView). entry.path) same))

  form_no_file : (one other : ℕ) → IsFormIn e one → IsFileIn e other → file_at (form_host e one) ≡ file_at (item_in e other).host → ⊥
  form_no_file one other of also same =
      no_form e is one other of.0 also.0 (file_of_form e is one of.0 of.1) also.1 (ap (λ (entry : EntryView). entry.path) same)

  one_item : (entry : EntryView) (one other : ℕ) → IsOf e entry one → IsOf e entry other → one ≡ other
  one_item entry one other (its_file of at) (its_file also there) = same_file one other of also (sym at ∙ there)
  one_item entry one other (its_file of at) (its_form also there) = absurd (form_no_file other one also of (sym there ∙ at))
  one_item entry one other (its_file of at) (its_folder also there) = absurd (kinds_differ _ _ (sym at ∙ there))
  one_item entry one other (its_form of at) (its_file also there) = absurd (form_no_file one other of also (sym at ∙ there))
  one_item entry one other (its_form of at) (its_form also there) = same_form one other of also (sym at ∙ there)
  one_item entry one other (its_form of at) (its_folder also there) = absurd (kinds_differ _ _ (sym at ∙ there))
  one_item entry one other (its_folder of at) (its_file also there) = absurd (kinds_differ _ _ (sym there ∙ at))
  one_item entry one other (its_folder of at) (its_form also there) = absurd (kinds_differ _ _ (sym there ∙ at))
  one_item entry one other (its_folder of at) (its_folder also there) = same_folder one other of also (sym at ∙ there)

-- ---- of what was made no two are one entry

longer : (host : List ℕ) → host ≡ text_beside host → ⊥
longer host same =
    let long : length host ≡ length host + 9 = ap length same ∙ length-append host (codes ".utf8.txt") in omega (arith, long)

one_of_made : (host : List ℕ) (found : Found) (i j : ℕ) (x y : Made) → slice_get (made_by host found) i ≡ Some x → slice_get (made_by host found) j ≡ Some y
    → entry_of x ≡ entry_of y → i ≡ j
one_of_made host found_folder zero zero x y at there same = refl
one_of_made host found_folder zero (suc j) x y at there same = absurd cc
one_of_made host found_folder (suc i) j x y at there same = absurd cc
one_of_made host (found_file bytes) zero zero x y at there same = refl
one_of_made host (found_file bytes) zero (suc j) x y at there same = absurd cc
one_of_made host (found_file bytes) (suc i) j x y at there same = absurd cc
one_of_made host (found_both bytes text) zero zero x y at there same = refl
one_of_made host (found_both bytes text) zero (suc zero) x y at there same =
    let first : file host bytes ≡ x = cc in
    let second : file (text_beside host) text ≡ y = cc in
    absurd (longer host (ap (λ (entry : EntryView). entry.path) (ap entry_of first ∙ same ∙ ap entry_of (sym second))))
one_of_made host (found_both bytes text) (suc zero) zero x y at there same =
    let first : file host bytes ≡ y = cc in
    let second : file (text_beside host) text ≡ x = cc in
    absurd (longer host (ap (λ (entry : EntryView). entry.path) (ap entry_of first ∙ sym same ∙ ap entry_of (sym second))))
one_of_made host (found_both bytes text) (suc zero) (suc zero) x y at there same = refl
one_of_made host (found_both bytes text) zero (suc (suc j)) x y at there same = absurd cc
one_of_made host (found_both bytes text) (suc zero) (suc (suc j)) x y at there same = absurd cc
one_of_made host (found_both bytes text) (suc (suc i)) j x y at there same = absurd cc
one_of_made host (found_text text) zero zero x y at there same = refl
one_of_made host (found_text text) zero (suc j) x y at there same = absurd cc
one_of_made host (found_text text) (suc i) j x y at there same = absurd cc
one_of_made host found_unread i j x y at there same = absurd cc

-- an element of two lists, one behind the other
in_which : (xs ys : List Made) (i : ℕ) (x : Made) → slice_get (xs ++ ys) i ≡ Some x
    → (slice_get xs i ≡ Some x) ⊎ ((k : ℕ) × (i ≡ length xs + k) × (slice_get ys k ≡ Some x))
in_which [] ys i x at = inr (i, omega arith, at)
in_which (z ∷ xs) ys zero x at = inl at
in_which (z ∷ xs) ys (suc i) x at = elim (in_which xs ys i x at) [
  | inl first ↦ inl first
  | inr behind ↦ inr (behind.0, omega (arith, behind.1), behind.2)
]

has_at : (xs : List Made) (i : ℕ) (x : Made) → slice_get xs i ≡ Some x → Contains xs x
has_at xs i x at = (i, slice_get_within xs i x at, get_or_from_slice_get xs i x x at)

-- an entry that is made of two items is made of one
abbrev AreApart : List Item → Type 0
AreApart items = (a b : ℕ) (x y : Made) → a < length items → b < length items → Contains (made_of (item_at items a)) x
    → Contains (made_of (item_at items b)) y → entry_of x ≡ entry_of y → a ≡ b

all_apart : (items : List Item) → AreApart items → (i j : ℕ) (x y : Made) → slice_get (made_in items) i ≡ Some x → slice_get (made_in items) j ≡ Some y
    → entry_of x ≡ entry_of y → i ≡ j
all_apart [] apart i j x y at there same = absurd cc
all_apart (item ∷ items) apart i j x y at there same =
    by_place (λ k l here also. all_apart items rest k l x y here also same) (in_which (made_of item) (made_in items) i x at)
    (in_which (made_of item) (made_in items) j y there)
  where
    rest : AreApart items
    rest a b x y low low_b has also same =
        let one : suc a ≡ suc b = apart (suc a) (suc b) x y (omega (arith, low)) (omega (arith, low_b)) has also same in omega (arith, one)

    first_alone : (x y : Made) → Contains (made_of item) x → Contains (made_in items) y → entry_of x ≡ entry_of y → ⊥
    first_alone x y has also same =
        let b = made_at items y also in
        let one : 0 ≡ suc b.0 = apart 0 (suc b.0) x y (omega arith) (omega (arith, b.1)) has b.2 same in omega (arith, one)

    by_place : ((k l : ℕ) → slice_get (made_in items) k ≡ Some x → slice_get (made_in items) l ≡ Some y → k ≡ l)
        → (slice_get (made_of item) i ≡ Some x) ⊎ ((k : ℕ) × (i ≡ length (made_of item) + k) × (slice_get (made_in items) k ≡ Some x))
        → (slice_get (made_of item) j ≡ Some y) ⊎ ((k : ℕ) × (j ≡ length (made_of item) + k) × (slice_get (made_in items) k ≡ Some y)) → i ≡ j
    by_place behind (inl here) (inl also) = one_of_made item.host item.found i j x y here also same
    by_place behind (inl here) (inr also) =
        absurd (first_alone x y (has_at (made_of item) i x here) (has_at (made_in items) also.0 y also.2) same)
    by_place behind (inr here) (inl also) =
        absurd (first_alone y x (has_at (made_of item) j y also) (has_at (made_in items) here.0 x here.2) (sym same))
    by_place behind (inr here) (inr also) = let one = behind here.0 also.0 here.2 also.2 in omega (arith, here.1, also.1, one)

-- ---- the entries, in the order in which they were made

value_of : (found : Option Made) (entry : EntryView) → option_map entry_of found ≡ Some entry → (one : Made) × (found ≡ Some one) × (entry_of one ≡ entry)
value_of None entry is = absurd cc
value_of (Some one) entry is =
    (one, refl, ap (λ (found : Option EntryView). option_map_or (λ (view : EntryView). view) found entry) is)

entry_at : (made : List Made) (place : ℕ) (entry : EntryView) → slice_get (map entry_of made) place ≡ Some entry
    → (one : Made) × (slice_get made place ≡ Some one) × (entry_of one ≡ entry)
entry_at made place entry at = value_of (slice_get made place) entry (sym (slice_get-map entry_of made place) ∙ at)

module _ (e : Extracted) (is : IsExtracted e) where
  apart : AreApart e.items
  apart a b x y low low_b has also same =
      one_item e is (entry_of x) a b (from_item e is a low x (entry_of x) has refl) (from_item e is b low_b y (entry_of x) also same)

  once : (entry : EntryView) (one other : ℕ) → slice_get (map entry_of (made_in e.items)) one ≡ Some entry
      → slice_get (map entry_of (made_in e.items)) other ≡ Some entry → one ≡ other
  once entry one other at also =
      let x = entry_at (made_in e.items) one entry at in
      let y = entry_at (made_in e.items) other entry also in
      all_apart e.items apart one other x.0 y.0 x.1 y.1 (x.2 ∙ sym y.2)

  each : (one : Made) → Contains (made_in e.items) one → Contains (map entry_of (made_in e.items)) (entry_of one)
  each one has =
      let made = made_in e.items in
      let here : slice_get made has.0 ≡ Some one = slice_get-get_or made has.0 one has.1 ∙ ap Some has.2 in
      let at : slice_get (map entry_of made) has.0 ≡ Some (entry_of one) = slice_get-map entry_of made has.0 ∙ ap (option_map entry_of) here in
      (has.0, slice_get_within (map entry_of made) has.0 (entry_of one) at, get_or_from_slice_get (map entry_of made) has.0 (entry_of one) (entry_of one) at)

  none_else : (entry : EntryView) → Contains (map entry_of (made_in e.items)) entry → (one : Made) × Contains (made_in e.items) one × (entry ≡ entry_of one)
  none_else entry has =
      let made = made_in e.items in
      let x = entry_at made has.0 entry (slice_get-get_or (map entry_of made) has.0 entry has.1 ∙ ap Some has.2) in
      (x.0, has_at made has.0 x.0 x.1, sym x.2)

  pub in_order : AreEntriesOf (made_in e.items) (map entry_of (made_in e.items))
  in_order = record { each = each; none_else = none_else; once = once }
