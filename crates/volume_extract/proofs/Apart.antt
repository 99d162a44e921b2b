-- Of two items the paths differ.
use Rattle.std.proofs.Common.{◌≡◌, ◌≢◌, ◌<◌, ◌≤◌, ◌+◌, ◌⊎◌, ◌∙◌, ℕ, Bool, true, cond, List, [], ◌∷◌, ◌++◌, Option, Some, None, length, take, refl, sym, ap, ap₂, subst, arith, inl, inr, ⊎_elim, count_by, append_assoc}
use Rattle.std.specs.Prelude.{Contains, IsFalse, codes}
use Rattle.std.proofs.lemmas.Bool.{true≢false}
use Rattle.std.specs.Char.{to_ascii_lowercase}
use Rattle.std.proofs.lemmas.Grind.{common_steps}
use Rattle.std.proofs.lemmas.List.{get_or-take, length_push, map-append, take-append-le}
use Rattle.std.proofs.Math.Seq.{take-append_seam}
use Rattle.std.proofs.lemmas.List.Elements.{All-contains, Contains-append_right}
use Rattle.std.proofs.lemmas.List.Sums.{sum_by_more_le}
use Rattle.host_folders.specs.HostNames.{IsSafe, bare_name, folded, has_tail, host_name, is_one_of, text_beside}
use Rattle.host_folders.specs.Laws.{IsFile, IsNumber}
use Rattle.host_folders.specs.declared.entry.Naming.{Naming}
use Rattle.host_folders.proofs.Apart.{names_apart}
use Rattle.host_folders.proofs.Beside.{beside_is_safe, same_files, texts_apart}
use Rattle.host_folders.proofs.IsSafe.{host_is_safe}
use Rattle.vol_format.specs.Directory.{Listed}
use Rattle.volume_compare.specs.Contents.{SeenVolume}
use Rattle.volume_extract.specs.Items.{AreItems, Contents, IsNamed, Item, host_below, is_alike, item_at, no_item, no_items, one_more}
use Rattle.volume_extract.specs.Kept.{StandsBefore}
use Rattle.volume_extract.specs.Keys.{NameKey, is_key, key_of, key_with}
use Rattle.volume_extract.proofs.Growing.{last_item, same_item}
use Rattle.volume_extract.specs.Laws.{HaveOwnTexts}
use Rattle.volume_extract.proofs.SafeHosts.{beside_below, is_number, stands_before}
use Rattle.volume_extract.proofs.SameKeys.{key_itself}

-- ---- texts with slashes

abbrev NoSlash : List ℕ → Type 0
NoSlash [] = Unit {0}
NoSlash (c ∷ cs) = (c ≢ 47) × NoSlash cs

no_slash_behind : (b t : List ℕ) → NoSlash (b ++ 47 ∷ t) → ⊥
no_slash_behind [] t none = none.0 refl
no_slash_behind (c ∷ b) t none = no_slash_behind b t none.1

-- what stands before the last slash, and behind it
last_split : (a b s t : List ℕ) → NoSlash s → NoSlash t → a ++ 47 ∷ s ≡ b ++ 47 ∷ t → (a ≡ b) × (s ≡ t)
last_split [] [] s t h k e = let same : s ≡ t = cc in (refl, same)
last_split [] (y ∷ b) s t h k e = let rest : s ≡ b ++ 47 ∷ t = cc in absurd (no_slash_behind b t (subst NoSlash rest h))
last_split (x ∷ a) [] s t h k e = let rest : a ++ 47 ∷ s ≡ t = cc in absurd (no_slash_behind a s (subst NoSlash (sym rest) k))
last_split (x ∷ a) (y ∷ b) s t h k e =
    let first : x ≡ y = cc in
    let rest : a ++ 47 ∷ s ≡ b ++ 47 ∷ t = cc in
    let same = last_split a b s t h k rest in
    (ap₂ (λ (z : ℕ) (zs : List ℕ). z ∷ zs) first same.0, same.1)

low_slash : (c : ℕ) → c ≢ 47 → to_ascii_lowercase c ≢ 47
low_slash c other is = other (grind (arith, common_steps, is))

no_slash_in : (name : List ℕ) → ((c : ℕ) → Contains name c → c ≢ 47) → NoSlash (folded name)
no_slash_in [] none = tt
no_slash_in (c ∷ name) none =
    (low_slash c (none c (0, omega arith, refl)), no_slash_in name (λ d has. none d (Contains-append_right (c ∷ []) name d has)))

-- a name that is safe has none
safe_no_slash : (name : List ℕ) → IsSafe name → NoSlash (folded name)
safe_no_slash name safe =
    no_slash_in name
    (λ c has same. true≢false (All-contains (λ c. IsFalse (is_one_of (codes "/\\:*?\"<>|") c)) name 47 safe.allowed
    (subst (Contains name) same has)))

-- a name on the host has none
name_no_slash : (naming : Naming) (volume : SeenVolume) (own : Listed → List ℕ) (contents : Contents) (earlier : List Item) (item : Item)
    → IsNamed volume own contents naming earlier item → NoSlash (folded (host_name naming item.entry item.number))
name_no_slash naming volume own contents earlier item is =
    safe_no_slash (host_name naming item.entry item.number)
    (host_is_safe naming item.entry item.number is.fits is.short (is_number volume own contents naming earlier item is))

text_no_slash : (naming : Naming) (volume : SeenVolume) (own : Listed → List ℕ) (contents : Contents) (earlier : List Item) (item : Item)
    → IsNamed volume own contents naming earlier item → NoSlash (folded (text_beside (host_name naming item.entry item.number)))
text_no_slash naming volume own contents earlier item is =
    safe_no_slash (text_beside (host_name naming item.entry item.number))
    (beside_is_safe naming item.entry item.number is.fits is.short (is_number volume own contents naming earlier item is))

folded_below : (host name : List ℕ) → folded (host ++ codes "/" ++ name) ≡ folded host ++ 47 ∷ folded name
folded_below host name =
    map-append to_ascii_lowercase (host ++ codes "/") name
    ∙ ap (λ (front : List ℕ). front ++ folded name) (map-append to_ascii_lowercase host (codes "/"))
    ∙ append_assoc (folded host) (47 ∷ []) (folded name)

-- paths that are one have one name, below folders that are one
abbrev AreBelowOne : List Item → Option ℕ → Option ℕ → Type 0
AreBelowOne items None None = Unit {0}
AreBelowOne items (Some a) (Some b) = folded (item_at items a).host ≡ folded (item_at items b).host
AreBelowOne items None (Some b) = ⊥
AreBelowOne items (Some a) None = ⊥

paths_same : (items : List Item) (a b : Option ℕ) (n m : List ℕ) → NoSlash (folded n) → NoSlash (folded m)
    → folded (host_below items a n) ≡ folded (host_below items b m) → AreBelowOne items a b × (folded n ≡ folded m)
paths_same items None None n m h k e = (tt, e)
paths_same items (Some a) (Some b) n m h k e =
    last_split (folded (item_at items a).host) (folded (item_at items b).host) (folded n) (folded m) h k
    (sym (folded_below (item_at items a).host n) ∙ e ∙ folded_below (item_at items b).host m)
paths_same items None (Some b) n m h k e =
    absurd (no_slash_behind (folded (item_at items b).host) (folded m) (subst NoSlash (e ∙ folded_below (item_at items b).host m) h))
paths_same items (Some a) None n m h k e =
    absurd (no_slash_behind (folded (item_at items a).host) (folded n) (subst NoSlash (sym e ∙ folded_below (item_at items a).host n) k))

below_or_last : (number many : ℕ) → number < many + 1 → (number < many) ⊎ (number ≡ many)
below_or_last number many low = grind (arith, low)

one_where : (b : Bool) (n : ℕ) → n ≡ cond b 1 0 → b ≡ true → n ≡ 1
one_where b n is true_is = grind (arith, common_steps, is, true_is)

nat_order : (a b : ℕ) → (a < b) ⊎ (a ≡ b) ⊎ (b < a)
nat_order a b = grind arith

-- ---- items

module _ (volume : SeenVolume) (own : Listed → List ℕ) (contents : Contents) (naming : Naming) where
  -- an item is named behind those before it, where one more is
  named_more : (earlier : List Item) (item : Item) → IsNamed volume own contents naming earlier item
      → ((number : ℕ) → number < length earlier → IsNamed volume own contents naming (take number earlier) (item_at earlier number))
      → (number : ℕ) → (number < length earlier) ⊎ (number ≡ length earlier)
      → IsNamed volume own contents naming (take number (earlier ++ item ∷ [])) (item_at (earlier ++ item ∷ []) number)
  named_more earlier item is were number place =
      ⊎_elim
      (λ before.
      subst (λ (front : List Item). IsNamed volume own contents naming front (item_at (earlier ++ item ∷ []) number))
      (sym (take-append-le number earlier (item ∷ []) (omega (arith, before))))
      (subst (IsNamed volume own contents naming (take number earlier)) (sym (same_item earlier item number before)) (were number before)))
      (λ last.
      subst (λ n. IsNamed volume own contents naming (take n (earlier ++ item ∷ [])) (item_at (earlier ++ item ∷ []) n)) (sym last)
      (subst (λ (front : List Item). IsNamed volume own contents naming front (item_at (earlier ++ item ∷ []) (length earlier)))
      (sym (take-append_seam earlier (item ∷ [])))
      (subst (IsNamed volume own contents naming earlier) (sym (last_item earlier item)) is)))
      place

  named_at : (items : List Item) → AreItems volume own contents naming items → (number : ℕ) → number < length items
      → IsNamed volume own contents naming (take number items) (item_at items number)
  named_at items no_items number low = absurd (omega (arith, low))
  named_at items (one_more earlier item are is) number low =
      named_more earlier item is.named (named_at earlier are) number (below_or_last number (length earlier) (omega (arith, low, length_push earlier item)))

  same_front : (items : List Item) (number : ℕ) (above : Option ℕ) (name : List ℕ) → StandsBefore number above
      → host_below (take number items) above name ≡ host_below items above name
  same_front items number None name before = refl
  same_front items number (Some above) name before = ap (λ (one : Item). one.host ++ codes "/" ++ name) (get_or-take number items above no_item before)

  -- names that are alike have different numbers
  counts_on : (items : List Item) (one : ℕ) (item : Item) → one < length items → key_of naming (item_at items one) ≡ key_of naming item
      → count_by (is_alike naming (item_at items one)) (take one items) + 1 ≤ count_by (is_alike naming item) items
  counts_on items one item low same =
      let test : NameKey → Item → Bool = λ key other. is_key key (key_of naming other) in
      let same_test : is_alike naming (item_at items one) ≡ is_alike naming item = ap test same in
      let itself : is_alike naming item (item_at items one) ≡ true =
      ap (λ (test : Item → Bool). test (item_at items one)) (sym same_test) ∙ key_itself (key_of naming (item_at items one)) in
      let more = sum_by_more_le (λ other. cond (is_alike naming item other) 1 0) items one no_item low in
      let number : ℕ = cond (is_alike naming item (item_at items one)) 1 0 in
      let counted : number ≡ 1 = one_where (is_alike naming item (item_at items one)) number refl itself in
      subst (λ (test : Item → Bool). count_by test (take one items) + 1 ≤ count_by (is_alike naming item) items) (sym same_test)
      (omega (arith, more, counted))

  -- an item and one behind all
  module _ (items : List Item) (are : AreItems volume own contents naming items) (own_paths : (a b : ℕ) → a < b → b < length items
      → folded (item_at items a).host ≡ folded (item_at items b).host → ⊥) (item : Item) (is : IsNamed volume own contents naming items item) where
    same_directory : (a b : Option ℕ) → StandsBefore (length items) a → StandsBefore (length items) b → AreBelowOne items a b → a ≡ b
    same_directory None None low low_b same = refl
    same_directory (Some a) (Some b) low low_b same = ap Some (by_order (nat_order a b))
      where
        by_order : (a < b) ⊎ (a ≡ b) ⊎ (b < a) → a ≡ b
        by_order (inl before) = absurd (own_paths a b before low_b same)
        by_order (inr (inl equal)) = equal
        by_order (inr (inr behind)) = absurd (own_paths b a behind low (sym same))
    same_directory None (Some b) low low_b same = absurd same
    same_directory (Some a) None low low_b same = absurd same

    apart_from : (one : ℕ) → one < length items → folded (item_at items one).host ≡ folded item.host → ⊥
    apart_from one low same =
        let x = item_at items one in
        let named = named_at items are one low in
        let before = stands_before own volume.directory (length (take one items)) x.above named.above in
        let length_one : length (take one items) ≡ one = grind (arith, common_steps, low) in
        let before_one : StandsBefore one x.above = subst (λ n. StandsBefore n x.above) length_one before in
        let path : x.host ≡ host_below items x.above (host_name naming x.entry x.number) = named.host ∙ same_front items one x.above (host_name naming x.entry x.number) before_one in
        let split = paths_same items x.above item.above (host_name naming x.entry x.number) (host_name naming item.entry item.number)
        (name_no_slash naming volume own contents (take one items) x named) (name_no_slash naming volume own contents items item is)
        (ap folded (sym path) ∙ same ∙ ap folded is.host) in
        let directory = same_directory x.above item.above (wider one x.above low before_one) (stands_before own volume.directory (length items) item.above is.above) split.0 in
        let alike = names_apart naming x.entry item.entry x.number item.number (named.form ∙ sym is.form) named.fits is.fits
        (is_number volume own contents naming (take one items) x named) (is_number volume own contents naming items item is) split.1 in
        let key : key_of naming x ≡ key_of naming item = ap (λ above. key_with above (folded (bare_name naming x.entry))) directory ∙ ap (key_with item.above) alike.0 in
        omega (arith, alike.1, named.number, is.number, counts_on items one item low key)
      where
        wider : (one : ℕ) (above : Option ℕ) → one < length items → StandsBefore one above → StandsBefore (length items) above
        wider one None low before = tt
        wider one (Some above) low before = omega (arith, low, before)

  own_more : (earlier : List Item) (item : Item) → AreItems volume own contents naming earlier → IsNamed volume own contents naming earlier item
      → ((a b : ℕ) → a < b → b < length earlier → folded (item_at earlier a).host ≡ folded (item_at earlier b).host → ⊥)
      → (a b : ℕ) → a < b → (b < length earlier) ⊎ (b ≡ length earlier)
      → folded (item_at (earlier ++ item ∷ []) a).host ≡ folded (item_at (earlier ++ item ∷ []) b).host → ⊥
  own_more earlier item are is were a b order (inl before) same =
      were a b order before
      (ap (λ (one : Item). folded one.host) (sym (same_item earlier item a (omega (arith, order, before)))) ∙ same
      ∙ ap (λ (one : Item). folded one.host) (same_item earlier item b before))
  own_more earlier item are is were a b order (inr last) same =
      let low_a : a < length earlier = omega (arith, order, last) in
      apart_from earlier are were item is a low_a
      (ap (λ (one : Item). folded one.host) (sym (same_item earlier item a low_a)) ∙ same
      ∙ ap (λ (n : ℕ). folded (item_at (earlier ++ item ∷ []) n).host) last ∙ ap (λ (one : Item). folded one.host) (last_item earlier item))

  own_in_order : (items : List Item) → AreItems volume own contents naming items → (a b : ℕ) → a < b → b < length items
      → folded (item_at items a).host ≡ folded (item_at items b).host → ⊥
  own_in_order items no_items a b order low same = omega (arith, low)
  own_in_order items (one_more earlier item are is) a b order low same =
      own_more earlier item are is.named (own_in_order earlier are) a b order
      (below_or_last b (length earlier) (omega (arith, low, length_push earlier item))) same

  -- all paths differ
  pub own_paths : (items : List Item) → AreItems volume own contents naming items → (one other : ℕ) → one < length items → other < length items → one ≢ other
      → folded (item_at items one).host ≢ folded (item_at items other).host
  own_paths items are one other low low_other differ same = by_order (nat_order one other)
    where
      by_order : (one < other) ⊎ (one ≡ other) ⊎ (other < one) → ⊥
      by_order (inl before) = own_in_order items are one other before low_other same
      by_order (inr (inl equal)) = differ equal
      by_order (inr (inr behind)) = own_in_order items are other one behind low (sym same)

  -- ---- readable forms

  -- the path of an item is its name below the folder of its directory
  host_at : (items : List Item) → AreItems volume own contents naming items → (number : ℕ) → number < length items
      → (item_at items number).host
      ≡ host_below items (item_at items number).above (host_name naming (item_at items number).entry (item_at items number).number)
  host_at items are number low =
      let x = item_at items number in
      let named = named_at items are number low in
      let before = stands_before own volume.directory (length (take number items)) x.above named.above in
      let length_front : length (take number items) ≡ number = grind (arith, common_steps, low) in
      named.host ∙ same_front items number x.above (host_name naming x.entry x.number) (subst (λ n. StandsBefore n x.above) length_front before)

  number_at : (items : List Item) → AreItems volume own contents naming items → (number : ℕ) → number < length items → IsNumber (item_at items number).number
  number_at items are number low =
      is_number volume own contents naming (take number items) (item_at items number) (named_at items are number low)

  file_at : (items : List Item) → AreItems volume own contents naming items → (number : ℕ) → number < length items
      → has_tail naming (item_at items number).entry.directory ≡ true → IsFile naming (item_at items number).entry
  file_at items are number low tail = record { fits = (named_at items are number low).fits; tail = tail }

  no_file : (items : List Item) → AreItems volume own contents naming items → (one other : ℕ) → one < length items → other < length items
      → has_tail naming (item_at items one).entry.directory ≡ true → has_tail naming (item_at items other).entry.directory ≡ true
      → folded (text_beside (item_at items one).host) ≢ folded (item_at items other).host
  no_file items are one other low low_other tail tail_other same =
      let x = item_at items one in
      let y = item_at items other in
      let name = host_name naming x.entry x.number in
      let name_other = host_name naming y.entry y.number in
      let paths = ap (λ (host : List ℕ). folded host) (sym (beside_below items x.above name) ∙ ap text_beside (sym (host_at items are one low)))
      ∙ same ∙ ap folded (host_at items are other low_other) in
      let split = paths_same items x.above y.above (text_beside name) name_other
      (text_no_slash naming volume own contents (take one items) x (named_at items are one low))
      (name_no_slash naming volume own contents (take other items) y (named_at items are other low_other)) paths in
      (texts_apart naming x.entry y.entry x.number y.number (file_at items are one low tail) (file_at items are other low_other tail_other)
      (number_at items are one low) (number_at items are other low_other)).file split.1

  -- those beside files have paths of their own
  pub own_texts : (items : List Item) → AreItems volume own contents naming items → (one other : ℕ) → one < length items → other < length items
      → HaveOwnTexts naming items one other
  own_texts items are one other low low_other = record {
    file = no_file items are one other low low_other;
    text = λ differ same. own_paths items are one other low low_other differ (same_files (item_at items one).host (item_at items other).host same);
  }
