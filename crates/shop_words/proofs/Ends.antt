-- What clap's reading of words may end with.
use Rattle.std.proofs.Common.{◌≡◌, refl, subst, List}
use Rattle.clap.specs.Faults.{fault_of}
use Rattle.clap.specs.Kinds.{HasKind, Kinds}
use Rattle.clap.specs.declared.error.Error.{Error}
use Rattle.shop_words.specs.Grammar.{shop}
use Rattle.shop_words.specs.Table.{Text}
use Rattle.shop_words.specs.Unread.{ends_of}

pub ends_of-is : (words : List Text) → fault_of shop words ≡ ends_of words
unfolding ends_of
ends_of-is words = refl

pub ends_so : (words : List Text) (error : Error) → HasKind (fault_of shop words) error → HasKind (ends_of words) error
ends_so words error has = subst (λ (kinds : Kinds). HasKind kinds error) (ends_of-is words) has
