-- The files beside which others stand.
use Rattle.std.proofs.Common.{◌≡◌, ◌≢◌, ◌<◌, ◌∙◌, ◌+◌, ℕ, List, [], ◌∷◌, ap, ap₂, sym, refl, length, get_or, take, codes, true, false}
use Rattle.std.specs.Prelude.{◌&&◌, ◌||◌, Bool, cond, map, string_bytes}
use Rattle.std.specs.Str.{bytes_eq}
use Rattle.std.proofs.lemmas.Bool.{and_right, false_from_ne_true}
use Rattle.std.proofs.lemmas.Bool.Decides.{Decides-like, same_from_decides}
use Rattle.std.proofs.lemmas.List.{append_cancel_right, map_more}
use Rattle.std.proofs.lemmas.List.Folds.{list_any-append}
use Rattle.std.proofs.lemmas.Slice.Eq.{bytes_eq-Decides}
use Rattle.folder_adding.specs.HostEntries.{EntryView, entry_view, has_file, has_file_beside, is_file, readable_path}
use Rattle.folder_adding.specs.declared.host_entry.HostEntry.{HostEntry}
use Rattle.folder_adding.specs.declared.host_entry.HostKind.{HostKind}
use Rattle.folder_adding.specs.declared.host_entry.HostKind.TheVariants.{File, Folder, Other}

-- two paths are equal where their readable forms are
pub same_beside : (one other : List ℕ) → bytes_eq one other ≡ bytes_eq (readable_path one) (readable_path other)
same_beside one other =
    same_from_decides (bytes_eq one other) (bytes_eq (readable_path one) (readable_path other)) (bytes_eq-Decides one other)
    (Decides-like (bytes_eq (readable_path one) (readable_path other)) (append_cancel_right one other (codes ".utf8.txt")) (ap readable_path)
    (bytes_eq-Decides (readable_path one) (readable_path other)))

-- a file is there just where its readable form stands beside one
pub beside_file : (entries : List EntryView) (file : List ℕ) → has_file entries file ≡ has_file_beside entries (readable_path file)
beside_file [] file = refl
beside_file (entry ∷ entries) file =
    ap₂ (λ (here behind : Bool). (is_file entry.kind && here) || behind) (same_beside file entry.path) (beside_file entries file)

-- what is no readable form stands beside no file
pub beside_none : (entries : List EntryView) (path : List ℕ) → ((file : List ℕ) → path ≢ readable_path file) → false ≡ has_file_beside entries path
beside_none [] path none = refl
beside_none (entry ∷ entries) path none =
    let other : bytes_eq path (readable_path entry.path) ≡ false =
    false_from_ne_true (bytes_eq path (readable_path entry.path)) (λ same. none entry.path ((bytes_eq-Decides path (readable_path entry.path)).0 same)) in
    let here : (is_file entry.kind && bytes_eq path (readable_path entry.path)) ≡ false =
    and_right (is_file entry.kind) (bytes_eq path (readable_path entry.path)) other in
    beside_none entries path none ∙ ap (λ (b : Bool). b || has_file_beside entries path) (sym here)

pub turned : (one other : List ℕ) → bytes_eq one other ≡ bytes_eq other one
turned one other =
    same_from_decides (bytes_eq one other) (bytes_eq other one) (bytes_eq-Decides one other)
    (Decides-like (bytes_eq other one) sym sym (bytes_eq-Decides other one))

cond_or : (here before : Bool) → cond here true before ≡ (before || here)
cond_or true true = refl
cond_or true false = refl
cond_or false true = refl
cond_or false false = refl

pub not_file : (kind : HostKind) → (kind ≡ File → ⊥) → is_file kind ≡ false
not_file File other = absurd (other refl)
not_file Folder other = refl
not_file Other other = refl

-- ---- the entries up to the next one

or_nothing : (b : Bool) → (b || false) ≡ b
or_nothing true = refl
or_nothing false = refl

module _ (entries : List HostEntry) (number : ℕ) (entry : HostEntry) (inside : number < length entries) (here : entry ≡ get_or entries number entry) (path : List ℕ) where
  one_more : has_file (map entry_view (take (number + 1) entries)) path
      ≡ (has_file (map entry_view (take number entries)) path || (is_file entry.kind && bytes_eq path (string_bytes entry.path)))
  one_more =
      let all = map entry_view (take number entries) in
      let last : EntryView = entry_view (get_or entries number entry) in
      ap (λ (views : List EntryView). has_file views path) (map_more entry_view entries number entry inside)
      ∙ list_any-append (λ (view : EntryView). is_file view.kind && bytes_eq path view.path) all (last ∷ [])
      ∙ ap (λ (b : Bool). has_file all path || b) (or_nothing (is_file last.kind && bytes_eq path last.path))
      ∙ ap (λ (e : HostEntry). has_file all path || (is_file e.kind && bytes_eq path (string_bytes e.path))) (sym here)

  -- the entry is no file
  pub same_files : is_file entry.kind ≡ false → (has : Bool) → has ≡ has_file (map entry_view (take number entries)) path
      → has ≡ has_file (map entry_view (take (number + 1) entries)) path
  same_files other has is =
      is ∙ sym (one_more ∙ ap (λ (b : Bool). has_file (map entry_view (take number entries)) path || (b && bytes_eq path (string_bytes entry.path))) other
      ∙ or_nothing (has_file (map entry_view (take number entries)) path))

  -- the entry is a file, and its path was put beside those of the others
  pub one_file_more : is_file entry.kind ≡ true → (file : List ℕ) → file ≡ string_bytes entry.path → (had has : Bool)
      → had ≡ has_file (map entry_view (take number entries)) path → has ≡ cond (bytes_eq file path) true had
      → has ≡ has_file (map entry_view (take (number + 1) entries)) path
  one_file_more is_one file named had has is put =
      let front = has_file (map entry_view (take number entries)) path in
      put ∙ cond_or (bytes_eq file path) had
      ∙ ap₂ (λ (b c : Bool). b || c) is (turned file path ∙ ap (bytes_eq path) named)
      ∙ sym (one_more ∙ ap (λ (b : Bool). front || (b && bytes_eq path (string_bytes entry.path))) is_one)
