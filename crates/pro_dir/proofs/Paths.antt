-- The path of an entry is its name below that of its parent.
use Rattle.std.proofs.Common.{◌≡◌, ◌<◌, ◌≤◌, ℕ, zero, suc, refl, sym, ◌∙◌, ap, arith, Bool, true, false, ◌==◌, ◌&&◌, if◌then◌else◌, List, [], ◌∷◌, ◌++◌, Option, Some, None, length, find, option_map, get_or, append_assoc, reverse}
use Rattle.std.specs.Prelude.{IfSome}
use Rattle.std.proofs.lemmas.List.{reverse-append, reverse-reverse}
use Rattle.pro_dir.specs.declared.entry.Entry.{Entry}
use Rattle.pro_dir.specs.Entry.{is_directory, key_of, name_of}
use Rattle.pro_dir.specs.Parents.{no_entry, entry_in, leads_to, last_directory, parent_of, path_above}
use Rattle.pro_dir.specs.Paths.{path_at, name_below, path_below, paths_from, path_of}

-- the subdirectories known after one more entry, and after the first entries, so many
abbrev with_entry : List (ℕ × List ℕ) → Entry → List (ℕ × List ℕ)
with_entry known entry = if is_directory entry then ((key_of entry, path_below known entry) ∷ known) else known

abbrev known_after : List (ℕ × List ℕ) → List Entry → ℕ → List (ℕ × List ℕ)
known_after known entries zero = known
known_after known [] (suc count) = known
known_after known (entry ∷ entries) (suc count) = known_after (with_entry known entry) entries count

path_in : (known : List (ℕ × List ℕ)) (entries : List Entry) (k : ℕ) → k < length entries
    → get_or (paths_from known entries) k [] ≡ path_below (known_after known entries k) (get_or entries k no_entry)
path_in known [] k within = absurd (omega (arith, within))
path_in known (entry ∷ entries) zero within = refl
path_in known (entry ∷ entries) (suc k) within = path_in (with_entry known entry) entries k (omega (arith, within))

known_on : (known : List (ℕ × List ℕ)) (entries : List Entry) (k : ℕ) → k < length entries
    → known_after known entries (suc k) ≡ with_entry (known_after known entries k) (get_or entries k no_entry)
known_on known [] k within = absurd (omega (arith, within))
known_on known (entry ∷ entries) zero within = refl
known_on known (entry ∷ entries) (suc k) within = known_on (with_entry known entry) entries k (omega (arith, within))

-- what is known of a key block after the first entries is the path of the last of them that names it
known_path : (entries : List Entry) (k key : ℕ) → k ≤ length entries → path_at (known_after [] entries k) key ≡ option_map (path_of entries) (last_directory entries k key)
known_path entries zero key within = refl
known_path entries (suc k) key within =
    ap (λ known. path_at known key) (known_on [] entries k (omega (arith, within)))
    ∙ by_directory (known_path entries k key (omega (arith, within))) (is_directory (entry_in entries k))
  where
    known : List (ℕ × List ℕ)
    known = known_after [] entries k

    path_is : path_below known (entry_in entries k) ≡ path_of entries k
    path_is = sym (path_in [] entries k (omega (arith, within)))

    Before : Type 0
    Before = path_at known key ≡ option_map (path_of entries) (last_directory entries k key)

    by_same : Before → (same : Bool)
        → option_map (λ (known : ℕ × List ℕ). known.1) (if same then Some (key_of (entry_in entries k), path_below known (entry_in entries k)) else find (λ (known : ℕ × List ℕ). known.0 == key) known)
        ≡ option_map (path_of entries) (if same then Some k else last_directory entries k key)
    by_same before true = ap (λ (path : List ℕ). Some path) path_is
    by_same before false = before

    by_directory : Before → (directory : Bool)
        → path_at (if directory then ((key_of (entry_in entries k), path_below known (entry_in entries k)) ∷ known) else known) key
        ≡ option_map (path_of entries) (if directory && (key_of (entry_in entries k) == key) then Some k else last_directory entries k key)
    by_directory before false = before
    by_directory before true = by_same before (key_of (entry_in entries k) == key)

pub path-named : (entries : List Entry) (k : ℕ) → k < length entries → path_of entries k ≡ name_below (path_above entries k) (name_of (entry_in entries k).bytes)
path-named entries k within =
    path_in [] entries k within
    ∙ ap (λ (above : Option (List ℕ)). name_below above (name_of (entry_in entries k).bytes)) (known_path entries k (entry_in entries k).directory (omega (arith, within)))

-- a parent comes before what is in it
pub directory_before : (entries : List Entry) (count key : ℕ) → IfSome (last_directory entries count key) (λ parent. parent < count)
directory_before entries zero key = tt
directory_before entries (suc count) key = by_test (directory_before entries count key) (leads_to (entry_in entries count) key)
  where
    weaker : (found : Option ℕ) → IfSome found (λ parent. parent < count) → IfSome found (λ parent. parent < suc count)
    weaker None before = tt
    weaker (Some parent) before = omega (arith, before)

    by_test : IfSome (last_directory entries count key) (λ parent. parent < count) → (here : Bool) → IfSome (if here then Some count else last_directory entries count key) (λ parent. parent < suc count)
    by_test before true = omega arith
    by_test before false = weaker (last_directory entries count key) before

-- a parent is a directory
pub directory_leads : (entries : List Entry) (count key : ℕ) → IfSome (last_directory entries count key) (λ parent. is_directory (entry_in entries parent) ≡ true)
directory_leads entries zero key = tt
directory_leads entries (suc count) key = by_test (directory_leads entries count key) (is_directory (entry_in entries count)) refl (key_of (entry_in entries count) == key)
  where
    Leads : Option ℕ → Type 0
    Leads found = IfSome found (λ parent. is_directory (entry_in entries parent) ≡ true)

    by_test : Leads (last_directory entries count key) → (directory : Bool) → is_directory (entry_in entries count) ≡ directory → (same : Bool)
        → Leads (if directory && same then Some count else last_directory entries count key)
    by_test before true is true = is
    by_test before true is false = before
    by_test before false is same = before

-- what is below a name below a path
joined : (above : Option (List ℕ)) (name rest : List ℕ) → name_below above name ++ 0x2f ∷ rest ≡ name_below above (name ++ 0x2f ∷ rest)
joined None name rest = refl
joined (Some path) name rest = append_assoc path (0x2f ∷ name) (0x2f ∷ rest)

turned : (text name : List ℕ) → reverse ((text ++ 0x2f ∷ []) ++ reverse name) ≡ name ++ 0x2f ∷ reverse text
turned text name =
    reverse-append (text ++ 0x2f ∷ []) (reverse name) ∙ ap (λ (front : List ℕ). front ++ reverse (text ++ 0x2f ∷ [])) (reverse-reverse name)
    ∙ ap (λ (back : List ℕ). name ++ back) (reverse-append text (0x2f ∷ []))

pub path_above-some : (entries : List Entry) (number parent : ℕ) → parent_of entries number ≡ Some parent → path_above entries number ≡ Some (path_of entries parent)
path_above-some entries number parent is = ap (option_map (path_of entries)) is

-- one more name, backward, behind the names below it
pub named_on : (entries : List Entry) (entry number parent : ℕ) (text : List ℕ) → parent < length entries → parent_of entries number ≡ Some parent
    → path_of entries entry ≡ name_below (path_above entries number) (reverse text)
    → path_of entries entry ≡ name_below (path_above entries parent) (reverse ((text ++ 0x2f ∷ []) ++ reverse (name_of (entry_in entries parent).bytes)))
named_on entries entry number parent text within is path =
    let name = name_of (entry_in entries parent).bytes in
    path
    ∙ ap (λ (above : Option (List ℕ)). name_below above (reverse text)) (path_above-some entries number parent is)
    ∙ ap (λ (path : List ℕ). path ++ 0x2f ∷ reverse text) (path-named entries parent within)
    ∙ joined (path_above entries parent) name (reverse text)
    ∙ ap (name_below (path_above entries parent)) (sym (turned text name))

-- a name that was put backward behind nothing
pub backward : (text before name : List ℕ) → text ≡ before ++ reverse name → before ≡ [] → reverse text ≡ name
backward text before name is none = ap reverse (is ∙ ap (λ (front : List ℕ). front ++ reverse name) none) ∙ reverse-reverse name
