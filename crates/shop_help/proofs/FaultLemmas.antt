-- What is told of words that are not read.
use Rattle.std.proofs.Common.{◌≡◌, ◌∙◌, refl, sym, subst, inl, inr, true, List, Option, Some, None, is_some, option_and_then}
use Rattle.clap.specs.Kinds.{HasKind, IsAmong}
use Rattle.clap.specs.Values.{kind_of}
use Rattle.clap.specs.declared.error.Error.{Error}
use Rattle.clap.specs.declared.error.kind.ErrorKind.TheVariants.{DisplayHelp, DisplayVersion, OutOfMemory}
use Rattle.shop_help.specs.Fault.{IsFaultBy, IsFaultIn}
use Rattle.shop_help.specs.declared.fault.WordsFault.{WordsFault}
use Rattle.shop_help.specs.declared.fault.WordsFault.TheVariants as faults
use Rattle.shop_words.specs.Asked.{AskedView}
use Rattle.shop_words.specs.Job.{meant_words, settled_alone, words_job}
use Rattle.shop_words.specs.Table.{Text}
use Rattle.shop_words.specs.Unread.{ends_of}

-- an error of clap has one of the kinds that its reading may end with
pub told_fault : (words : List Text) (error : Error) (fault : WordsFault) → HasKind (ends_of (meant_words words)) error
    → IsFaultBy (kind_of error) fault → IsFaultIn words fault
told_fault words error (faults.Help text) has by =
    let meant = meant_words words in
    elim has [
      | inl memory ↦ elim by [
        | inl help ↦ let never : OutOfMemory ≡ DisplayHelp = sym memory ∙ help in cc
        | inr version ↦ let never : OutOfMemory ≡ DisplayVersion = sym memory ∙ version in cc
      ]
      | inr among ↦ elim by [
        | inl help ↦ inl (subst (λ kind. IsAmong kind (ends_of meant)) help among)
        | inr version ↦ inr (subst (λ kind. IsAmong kind (ends_of meant)) version among)
      ]
    ]
told_fault words error (faults.Refused text) has by =
    elim has [
      | inl memory ↦ absurd (by.1 memory)
      | inr among ↦ inl (kind_of error, by.0, among)
    ]
told_fault words error faults.Memory has by = tt

-- words of a job are those of a command
pub asked_some : (o : Option AskedView) → is_some (option_and_then settled_alone (option_and_then (λ v. words_job v.words) o)) ≡ true → is_some o ≡ true
asked_some None some = some
asked_some (Some a) some = refl
