-- What stands at a path after one more item.
use Rattle.std.proofs.Common.{◌≡◌, ◌∙◌, ℕ, ◌+◌, ◌<◌, List, Option, length, take, get_or, ap, sym, string_bytes}
use Rattle.std.proofs.lemmas.List.Sums.{fold_more}
use Rattle.shop_host.specs.State.{Path}
use Rattle.memory_host.specs.declared.entries.Entry.{Entry}
use Rattle.memory_host.specs.declared.journal.Item.{Item}
use Rattle.memory_host.specs.Journal.{Held, IsFound, content_after, content_in, held_after, held_of, kind_after, kind_in, nothing}

held_more : (items : List Item) (i : ℕ) (item : Item) → i < length items → get_or items i item ≡ item
    → held_of (take (i + 1) items) ≡ held_after (held_of (take i items)) item
held_more items i item below at = fold_more held_after nothing items i item below ∙ ap (held_after (held_of (take i items))) at

pub found_more : (items : List Item) (i : ℕ) (item : Item) (path : Path) (now new : Option Entry) → i < length items
    → get_or items i item ≡ item → IsFound (take i items) path now
    → content_in new ≡ content_after (string_bytes item.path) item.change path (content_in now)
    → kind_in new ≡ kind_after (string_bytes item.path) item.change path (kind_in now)
    → IsFound (take (i + 1) items) path new
found_more items i item path now new below at found content kind = record {
  files = ap (λ (h : Held). h.files path) (held_more items i item below at)
      ∙ (ap (content_after (string_bytes item.path) item.change path) found.files ∙ sym content);
  kind = λ given own. ap (λ (h : Held). h.kind given) (held_more items i item below at)
      ∙ (ap (λ (p : Path). kind_after (string_bytes item.path) item.change p ((held_of (take i items)).kind given)) own
      ∙ (ap (kind_after (string_bytes item.path) item.change path) (found.kind given own) ∙ sym kind));
}
