-- How many items there are, and how many are alike.
use Rattle.std.proofs.Common.{◌≡◌, ◌<◌, ◌+◌, ◌^◌, ◌-◌, ◌∙◌, ℕ, Bool, cond, List, [], ◌∷◌, ◌++◌, length, refl, sym, ap, subst, arith, count_by}
use Rattle.std.proofs.lemmas.List.{flat_map_more, map-append}
use Rattle.std.proofs.lemmas.List.Sums.{count_by-le-length, sum_by-cons, sum_by_push}
use Rattle.host_folders.specs.Folder.{FolderState, Made}
use Rattle.host_folders.specs.declared.entry.Naming.{Naming}
use Rattle.volume_extract.specs.ExtractText.{AreAtMost, has_text, is_file, is_folder, is_unreadable, outcome_of, totals_of, totals_with}
use Rattle.volume_extract.specs.Items.{Found, Item, bytes_in, bytes_of, found_both, found_file, found_folder, found_text, found_unread, is_alike, made_of}
use Rattle.volume_extract.specs.Keys.{is_key, key_of, keys_of}
use Rattle.volume_extract.specs.Made.{after_item, after_items}
use Rattle.volume_extract.specs.declared.totals.Totals.{Totals}

-- names that are alike are those of one key
pub alike_keys : (naming : Naming) (item : Item) (items : List Item) → count_by (is_alike naming item) items ≡ count_by (is_key (key_of naming item)) (keys_of naming items)
alike_keys naming item [] = refl
alike_keys naming item (one ∷ items) =
    sum_by-cons (λ other. cond (is_alike naming item other) 1 0) one items
    ∙ ap (λ n. cond (is_alike naming item one) 1 0 + n) (alike_keys naming item items)
    ∙ sym (sum_by-cons (λ key. cond (is_key (key_of naming item) key) 1 0) (key_of naming one) (keys_of naming items))

pub keys_more : (naming : Naming) (items : List Item) (item : Item) → keys_of naming (items ++ item ∷ []) ≡ keys_of naming items ++ key_of naming item ∷ []
keys_more naming items item = map-append (key_of naming) items (item ∷ [])

abbrev numbers : ℕ → ℕ → ℕ → ℕ → ℕ → Totals
numbers files folders texts unreadable bytes = record { files = files; folders = folders; texts = texts; unreadable = unreadable; bytes = bytes }

abbrev with_made : FolderState → List Made → FolderState
with_made folder made = record folder { made = made }

-- one item more
module _ (items : List Item) (item : Item) where
  pub bytes_more : bytes_in (items ++ item ∷ []) ≡ bytes_in items + bytes_of item
  bytes_more = sum_by_push bytes_of items item

  how_many : (test : Found → Bool) → count_by (λ (one : Item). test one.found) (items ++ item ∷ []) ≡ count_by (λ (one : Item). test one.found) items + cond (test item.found) 1 0
  how_many test = sum_by_push (λ (one : Item). cond (test one.found) 1 0) items item

  by_numbers : (files folders texts unreadable bytes : ℕ) → count_by (λ (one : Item). is_file one.found) (items ++ item ∷ []) ≡ files
      → count_by (λ (one : Item). is_folder one.found) (items ++ item ∷ []) ≡ folders
      → count_by (λ (one : Item). has_text one.found) (items ++ item ∷ []) ≡ texts
      → count_by (λ (one : Item). is_unreadable one.found) (items ++ item ∷ []) ≡ unreadable → bytes_in (items ++ item ∷ []) ≡ bytes
      → totals_of (items ++ item ∷ []) ≡ numbers files folders texts unreadable bytes
  by_numbers files folders texts unreadable bytes a b t c d =
      ap (λ n. numbers n (count_by (λ (one : Item). is_folder one.found) (items ++ item ∷ [])) (count_by (λ (one : Item). has_text one.found) (items ++ item ∷ [])) (count_by (λ (one : Item). is_unreadable one.found) (items ++ item ∷ [])) (bytes_in (items ++ item ∷ []))) a
      ∙ ap (λ n. numbers files n (count_by (λ (one : Item). has_text one.found) (items ++ item ∷ [])) (count_by (λ (one : Item). is_unreadable one.found) (items ++ item ∷ [])) (bytes_in (items ++ item ∷ []))) b
      ∙ ap (λ n. numbers files folders n (count_by (λ (one : Item). is_unreadable one.found) (items ++ item ∷ [])) (bytes_in (items ++ item ∷ []))) t
      ∙ ap (λ n. numbers files folders texts n (bytes_in (items ++ item ∷ []))) c
      ∙ ap (numbers files folders texts unreadable) d

  pub totals_more : totals_of (items ++ item ∷ []) ≡ totals_with (totals_of items) (outcome_of item.found) (bytes_in items + bytes_of item)
  totals_more = by_found item.found refl
    where
      by_found : (found : Found) → item.found ≡ found → totals_of (items ++ item ∷ []) ≡ totals_with (totals_of items) (outcome_of found) (bytes_in items + bytes_of item)
      by_found found_folder is = by_numbers _ _ _ _ _ (how_many is_file ∙ rw is (omega arith)) (how_many is_folder ∙ rw is refl) (how_many has_text ∙ rw is (omega arith)) (how_many is_unreadable ∙ rw is (omega arith)) bytes_more
      by_found (found_file bytes) is = by_numbers _ _ _ _ _ (how_many is_file ∙ rw is refl) (how_many is_folder ∙ rw is (omega arith)) (how_many has_text ∙ rw is (omega arith)) (how_many is_unreadable ∙ rw is (omega arith)) bytes_more
      by_found (found_both bytes text) is = by_numbers _ _ _ _ _ (how_many is_file ∙ rw is refl) (how_many is_folder ∙ rw is (omega arith)) (how_many has_text ∙ rw is refl) (how_many is_unreadable ∙ rw is (omega arith)) bytes_more
      by_found (found_text text) is = by_numbers _ _ _ _ _ (how_many is_file ∙ rw is (omega arith)) (how_many is_folder ∙ rw is (omega arith)) (how_many has_text ∙ rw is refl) (how_many is_unreadable ∙ rw is (omega arith)) bytes_more
      by_found found_unread is = by_numbers _ _ _ _ _ (how_many is_file ∙ rw is (omega arith)) (how_many is_folder ∙ rw is (omega arith)) (how_many has_text ∙ rw is (omega arith)) (how_many is_unreadable ∙ rw is refl) bytes_more

-- and one more is made
pub made_more : (items : List Item) (item : Item) (folder : FolderState) → after_item item.host item.found (after_items items folder) ≡ after_items (items ++ item ∷ []) folder
made_more items item folder = ap (λ (made : List Made). (with_made folder made)) (flat_map_more made_of folder.made items item)

-- no number is greater than that of all items
pub few_totals : (items : List Item) (totals : Totals) → totals ≡ totals_of items → length items < 2 ^ 32 → AreAtMost totals (2 ^ 64 - 2)
few_totals items totals is few = subst (λ (t : Totals). AreAtMost t (2 ^ 64 - 2)) (sym is) (record {
  files = omega (arith, few, count_by-le-length (λ (one : Item). is_file one.found) items);
  folders = omega (arith, few, count_by-le-length (λ (one : Item). is_folder one.found) items);
  texts = omega (arith, few, count_by-le-length (λ (one : Item). has_text one.found) items);
  unreadable = omega (arith, few, count_by-le-length (λ (one : Item). is_unreadable one.found) items);
})
