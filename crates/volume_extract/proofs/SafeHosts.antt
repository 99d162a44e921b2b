-- Paths on the host are safe.
use Rattle.std.proofs.Common.{◌≡◌, ◌<◌, ◌∙◌, ℕ, List, ◌++◌, Option, Some, None, length, refl, sym, ap, subst, arith, IsTrue, append_assoc}
use Rattle.std.specs.Prelude.{IsFalse, codes}
use Rattle.std.specs.List.{All}
use Rattle.std.proofs.lemmas.Bool.{false≢true, true≢false}
use Rattle.std.proofs.lemmas.List.Elements.{All-contains, All-get_or, All-nil, All-push}
use Rattle.vol_format.specs.Directory.{Directory, Listed}
use Rattle.host_folders.specs.HostNames.{IsSafe, host_name, is_one_of, is_printed, text_beside}
use Rattle.host_folders.specs.Laws.{IsNumber}
use Rattle.host_folders.specs.Path.{IsSafeName, IsSafePath, below, only}
use Rattle.host_folders.specs.declared.entry.Naming.{Naming}
use Rattle.host_folders.proofs.Beside.{beside_is_safe}
use Rattle.host_folders.proofs.IsSafe.{host_is_safe}
use Rattle.volume_compare.specs.Contents.{SeenVolume}
use Rattle.volume_extract.specs.Items.{AreItems, Contents, IsAbove, IsNamed, Item, host_below, item_at, no_item, no_items, one_more}
use Rattle.volume_extract.specs.Kept.{StandsBefore}

-- a name that is safe on every system is safe in a folder
pub safe_name : (name : List ℕ) → IsSafe name → IsSafeName name
safe_name name safe = record {
  some = safe.some;
  short = safe.short;
  no_slash = λ has. true≢false (All-contains (λ c. IsFalse (is_one_of (codes "/\\:*?\"<>|") c)) name 47 safe.allowed has);
  no_zero = λ has. false≢true (All-contains (λ c. IsTrue (is_printed c)) name 0 safe.printed has);
  not_itself = safe.not_here;
  not_above = safe.not_above;
}

-- the entry of a directory stands before
pub stands_before : (own : Listed → List ℕ) (directory : Directory) (number : ℕ) (above : Option ℕ) → IsAbove own directory number above → StandsBefore number above
stands_before own directory number None is = tt
stands_before own directory number (Some above) is = is.before

pub is_number : (volume : SeenVolume) (own : Listed → List ℕ) (contents : Contents) (naming : Naming) (items : List Item) (item : Item)
    → IsNamed volume own contents naming items item → IsNumber item.number
is_number volume own contents naming items item is = record { some = omega (arith, is.number); fits = is.few }

-- a safe name below a safe folder
path_below : (items : List Item) (above : Option ℕ) (name : List ℕ) → All (λ (item : Item). IsSafePath item.host) items → StandsBefore (length items) above
    → IsSafeName name → IsSafePath (host_below items above name)
path_below items None name safe before is = only name is
path_below items (Some above) name safe before is =
    below (item_at items above).host name (All-get_or (λ (item : Item). IsSafePath item.host) items above no_item before safe) is

pub safe_next : (volume : SeenVolume) (own : Listed → List ℕ) (contents : Contents) (naming : Naming) (items : List Item) (item : Item)
    → All (λ (item : Item). IsSafePath item.host) items → IsNamed volume own contents naming items item → IsSafePath item.host
safe_next volume own contents naming items item safe is =
    subst IsSafePath (sym is.host)
    (path_below items item.above (host_name naming item.entry item.number) safe (stands_before own volume.directory (length items) item.above is.above)
    (safe_name (host_name naming item.entry item.number)
    (host_is_safe naming item.entry item.number is.fits is.short (is_number volume own contents naming items item is))))

-- the readable form of a file stands in the folder of its file
pub beside_below : (items : List Item) (above : Option ℕ) (name : List ℕ)
    → text_beside (host_below items above name) ≡ host_below items above (text_beside name)
beside_below items None name = refl
beside_below items (Some above) name = append_assoc ((item_at items above).host ++ codes "/") name (codes ".utf8.txt")

pub safe_text_next : (volume : SeenVolume) (own : Listed → List ℕ) (contents : Contents) (naming : Naming) (items : List Item) (item : Item)
    → All (λ (item : Item). IsSafePath item.host) items → IsNamed volume own contents naming items item → IsSafePath (text_beside item.host)
safe_text_next volume own contents naming items item safe is =
    let name = host_name naming item.entry item.number in
    subst IsSafePath (sym (ap text_beside is.host ∙ beside_below items item.above name))
    (path_below items item.above (text_beside name) safe (stands_before own volume.directory (length items) item.above is.above)
    (safe_name (text_beside name)
    (beside_is_safe naming item.entry item.number is.fits is.short (is_number volume own contents naming items item is))))

all_safe : (volume : SeenVolume) (own : Listed → List ℕ) (contents : Contents) (naming : Naming) (items : List Item)
    → AreItems volume own contents naming items → All (λ (item : Item). IsSafePath item.host) items
all_safe volume own contents naming items no_items = All-nil (λ (item : Item). IsSafePath item.host)
all_safe volume own contents naming items (one_more earlier item are is) =
    let safe = all_safe volume own contents naming earlier are in
    All-push (λ (item : Item). IsSafePath item.host) earlier item safe (safe_next volume own contents naming earlier item safe is.named)

-- of items of any contents
pub safe_paths : (volume : SeenVolume) (own : Listed → List ℕ) (contents : Contents) (naming : Naming) (items : List Item)
    → AreItems volume own contents naming items → (number : ℕ) → number < length items → IsSafePath (item_at items number).host
safe_paths volume own contents naming items are number low =
    All-get_or (λ (item : Item). IsSafePath item.host) items number no_item low (all_safe volume own contents naming items are)

all_texts_safe : (volume : SeenVolume) (own : Listed → List ℕ) (contents : Contents) (naming : Naming) (items : List Item)
    → AreItems volume own contents naming items → All (λ (item : Item). IsSafePath (text_beside item.host)) items
all_texts_safe volume own contents naming items no_items = All-nil (λ (item : Item). IsSafePath (text_beside item.host))
all_texts_safe volume own contents naming items (one_more earlier item are is) =
    All-push (λ (item : Item). IsSafePath (text_beside item.host)) earlier item (all_texts_safe volume own contents naming earlier are)
    (safe_text_next volume own contents naming earlier item (all_safe volume own contents naming earlier are) is.named)

pub safe_texts : (volume : SeenVolume) (own : Listed → List ℕ) (contents : Contents) (naming : Naming) (items : List Item)
    → AreItems volume own contents naming items → (number : ℕ) → number < length items → IsSafePath (text_beside (item_at items number).host)
safe_texts volume own contents naming items are number low =
    All-get_or (λ (item : Item). IsSafePath (text_beside item.host)) items number no_item low (all_texts_safe volume own contents naming items are)
