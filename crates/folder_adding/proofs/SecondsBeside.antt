-- The readable forms beside files.
use Rattle.std.proofs.Common.{◌≡◌, ◌≢◌, ◌<◌, ◌∙◌, ◌+◌, ℕ, List, [], ◌∷◌, ◌++◌, Option, Some, None, ap, ap₂, arith, sym, refl, length, get_or, take, true, false}
use Rattle.std.specs.Prelude.{◌&&◌, Bool, cond, if◌then◌else◌, map}
use Rattle.std.specs.List.{position, position_from}
use Rattle.std.specs.Option.{is_some, option_or}
use Rattle.std.specs.Str.{bytes_eq}
use Rattle.std.proofs.lemmas.Bool.{false_from_ne_true}
use Rattle.std.proofs.lemmas.Iterator.Adapters.{position_from-zero}
use Rattle.std.proofs.lemmas.List.{length-map, length-take-le, map_more}
use Rattle.std.proofs.lemmas.Slice.Eq.{bytes_eq-Decides}
use Rattle.folder_adding.specs.HostEntries.{EntryView, entry_view, is_file, readable_path, second_at, stands_beside}
use Rattle.folder_adding.specs.declared.host_entry.HostEntry.{HostEntry}
use Rattle.folder_adding.proofs.FilesBeside.{same_beside, turned}

-- ---- the first place of one more

module _ {X : Type 0} (test : X → Bool) where
  from_more : (at : ℕ) (xs : List X) (last : X)
      → position_from test at (xs ++ last ∷ []) ≡ option_or (position_from test at xs) (if test last then Some (at + length xs) else None)
  from_more at [] last = ap (λ (n : ℕ). cond (test last) (Some n) None) (omega arith)
  from_more at (x ∷ xs) last = by_first (from_more (at + 1) xs last) (test x)
    where
      by_first : position_from test (at + 1) (xs ++ last ∷ [])
          ≡ option_or (position_from test (at + 1) xs) (if test last then Some (at + 1 + length xs) else None) → (here : Bool)
          → cond here (Some at) (position_from test (at + 1) (xs ++ last ∷ []))
          ≡ option_or (cond here (Some at) (position_from test (at + 1) xs)) (if test last then Some (at + length (x ∷ xs)) else None)
      by_first rest true = refl
      by_first rest false =
          rest
          ∙ ap (λ (n : ℕ). option_or (position_from test (at + 1) xs) (if test last then Some n else None)) (omega arith)

  pub position_more : (xs : List X) (last : X) → position test (xs ++ last ∷ []) ≡ option_or (position test xs) (if test last then Some (length xs) else None)
  position_more xs last =
      position_from-zero test (xs ++ last ∷ []) ∙ from_more 0 xs last
      ∙ ap₂ (λ (found : Option ℕ) (n : ℕ). option_or found (if test last then Some n else None)) (sym (position_from-zero test xs)) (omega arith)

-- ---- a number that is put where none is

module _ (old : List ℕ → Option ℕ) (path : List ℕ) (number : ℕ) where
  none_here : (other : List ℕ) → old other ≡ None → other ≡ path → is_some (old path) ≡ false
  none_here other none same = ap is_some (ap old (sym same) ∙ none)

  pub kept : is_some (old path) ≡ true → (other : List ℕ) → old other ≡ option_or (old other) (if bytes_eq other path then Some number else None)
  kept some other = by (old other) refl (bytes_eq other path) refl
    where
      by : (found : Option ℕ) → old other ≡ found → (same : Bool) → bytes_eq other path ≡ same → found ≡ option_or found (if same then Some number else None)
      by (Some n) is same eq = refl
      by None is true eq =
          let none = none_here other is ((bytes_eq-Decides other path).0 eq) in
          absurd (let e : true ≡ false = sym some ∙ none in cc)
      by None is false eq = refl

  pub put : is_some (old path) ≡ false → (other : List ℕ) (new : Option ℕ) → new ≡ cond (bytes_eq path other) (Some number) (old other)
      → new ≡ option_or (old other) (if bytes_eq other path then Some number else None)
  put none other new is = is ∙ ap (λ (b : Bool). cond b (Some number) (old other)) (turned path other) ∙ by (old other) refl (bytes_eq other path) refl
    where
      by : (found : Option ℕ) → old other ≡ found → (same : Bool) → bytes_eq other path ≡ same
          → cond same (Some number) found ≡ option_or found (if same then Some number else None)
      by None is true eq = refl
      by None is false eq = refl
      by (Some n) is false eq = refl
      by (Some n) is true eq =
          let some : is_some (old path) ≡ true = ap is_some (ap old (sym ((bytes_eq-Decides other path).0 eq)) ∙ is) in
          absurd (let e : true ≡ false = sym some ∙ none in cc)

-- ---- the entries up to the next one

module _ (entries : List HostEntry) (number : ℕ) (entry : HostEntry) (inside : number < length entries) (here : entry ≡ get_or entries number entry) (path : List ℕ) where
  one_more : second_at (map entry_view (take (number + 1) entries)) path
      ≡ option_or (second_at (map entry_view (take number entries)) path) (if stands_beside path (entry_view entry) then Some number else None)
  one_more =
      let all = map entry_view (take number entries) in
      let last : EntryView = entry_view (get_or entries number entry) in
      ap (λ (views : List EntryView). second_at views path) (map_more entry_view entries number entry inside)
      ∙ position_more (stands_beside path) all last
      ∙ ap₂ (λ (n : ℕ) (e : HostEntry). option_or (second_at all path) (if stands_beside path (entry_view e) then Some n else None))
      (length-map (take number entries) entry_view ∙ length-take-le number entries (omega arith)) (sym here)

  -- the entry is no readable form
  pub none_more : ((file : List ℕ) → is_file entry.kind ≡ true → (entry_view entry).path ≢ readable_path file) → (had : Option ℕ)
      → had ≡ second_at (map entry_view (take number entries)) path → had ≡ second_at (map entry_view (take (number + 1) entries)) path
  none_more none had is =
      let other : stands_beside path (entry_view entry) ≡ false = not_beside (is_file entry.kind) refl in
      is ∙ no_more (second_at (map entry_view (take number entries)) path)
      ∙ sym (one_more ∙ ap (λ (b : Bool). option_or (second_at (map entry_view (take number entries)) path) (if b then Some number else None)) other)
    where
      not_beside : (file : Bool) → is_file entry.kind ≡ file → (file && bytes_eq (readable_path path) (entry_view entry).path) ≡ false
      not_beside true of =
          false_from_ne_true (bytes_eq (readable_path path) (entry_view entry).path)
          (λ same. none path of (sym ((bytes_eq-Decides (readable_path path) (entry_view entry).path).0 same)))
      not_beside false of = refl

      no_more : (found : Option ℕ) → found ≡ option_or found None
      no_more None = refl
      no_more (Some n) = refl

  -- the entry stands beside a file, and its number was put there
  pub one_form_more : (file : List ℕ) → is_file entry.kind ≡ true → (entry_view entry).path ≡ readable_path file → (had has : Option ℕ)
      → had ≡ second_at (map entry_view (take number entries)) path → has ≡ option_or had (if bytes_eq path file then Some number else None)
      → has ≡ second_at (map entry_view (take (number + 1) entries)) path
  one_form_more file of named had has is put_there =
      let front = second_at (map entry_view (take number entries)) path in
      let same : bytes_eq path file ≡ stands_beside path (entry_view entry) =
      same_beside path file ∙ sym (ap₂ (λ (b : Bool) (p : List ℕ). b && bytes_eq (readable_path path) p) of named) in
      put_there
      ∙ ap₂ (λ (found : Option ℕ) (b : Bool). option_or found (if b then Some number else None)) is same ∙ sym one_more
