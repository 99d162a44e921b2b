-- Why words are not read.
use Rattle.std.specs.Prelude.{◌≡◌, List, [], None}
use Rattle.clap.specs.Faults.{fault_of}
use Rattle.clap.specs.Kinds.{HasKind, Kinds}
use Rattle.clap.specs.Values.{kind_of}
use Rattle.clap.specs.declared.error.kind.ErrorKind.TheVariants.{OutOfMemory}
use Rattle.shop_words.specs.Asked.{asked_list}
use Rattle.shop_words.specs.Grammar.{shop}
use Rattle.shop_words.specs.Job.{meant_words}
use Rattle.shop_words.specs.Table.{Text}
use Rattle.shop_words.specs.declared.unread.Unread.{Unread}
use Rattle.shop_words.specs.declared.unread.Unread.TheVariants as unread

-- what clap's reading of the words may end with in place of a command, by its first step that fails; nothing, where
-- clap takes them
unfoldable pub ends_of : List Text → Kinds
ends_of words = fault_of shop words

-- memory ran out
abbrev pub IsWantOfMemory : Unread → Type 0
IsWantOfMemory (unread.Clap error) = kind_of error ≡ OutOfMemory
IsWantOfMemory unread.NoCommand = ⊥

-- why these words are not read: clap's reading of them may end so, or memory ran out; or clap takes them, and they are
-- those of no command
abbrev pub IsUnreadOf : List Text → Unread → Type 0
IsUnreadOf words (unread.Clap error) = HasKind (ends_of (meant_words words)) error
IsUnreadOf words unread.NoCommand = (ends_of (meant_words words) ≡ []) × (asked_list words ≡ None)
