-- Why words are no job.
use Rattle.std.specs.Prelude.{◌≡◌, ◌≢◌, ◌⊎◌, List, [], None}
use Rattle.clap.specs.Kinds.{IsAmong}
use Rattle.clap.specs.declared.error.kind.ErrorKind.{ErrorKind}
use Rattle.clap.specs.declared.error.kind.ErrorKind.TheVariants.{DisplayHelp, DisplayVersion, OutOfMemory}
use Rattle.shop_words.specs.Asked.{asked_job, asked_list}
use Rattle.shop_words.specs.Job.{meant_words}
use Rattle.shop_words.specs.Table.{Text}
use Rattle.shop_words.specs.Unread.{ends_of}
use Rattle.shop_help.specs.declared.fault.WordsFault.{WordsFault}
use Rattle.shop_help.specs.declared.fault.WordsFault.TheVariants as faults

-- help or the version is what is asked for, as by `--help`, `-h`, `help`, `--version` or `-V`
abbrev pub IsAsked : ErrorKind → Type 0
IsAsked kind = (kind ≡ DisplayHelp) ⊎ (kind ≡ DisplayVersion)

-- the words may ask for it
abbrev pub MayAskHelp : List Text → Type 0
MayAskHelp words = IsAmong DisplayHelp (ends_of words) ⊎ IsAmong DisplayVersion (ends_of words)

-- something else is wrong with them
abbrev pub AreRefused : List Text → Type 0
AreRefused words = (kind : ErrorKind) × (¬ IsAsked kind) × IsAmong kind (ends_of words)

-- or clap takes them, and they have no job: an option does not take its value, or the words do not go together
abbrev pub AreMistaken : List Text → Type 0
AreMistaken words = AreRefused (meant_words words)
    ⊎ ((ends_of (meant_words words) ≡ []) × (asked_job words ≡ None))

-- or clap takes them, and they are those of no command
abbrev pub AreStray : List Text → Type 0
AreStray words = AreRefused (meant_words words)
    ⊎ ((ends_of (meant_words words) ≡ []) × (asked_list words ≡ None))

-- help is told of words that may ask for it, and a refusal of words that are refused
abbrev pub IsFaultIn : List Text → WordsFault → Type 0
IsFaultIn words (faults.Help text) = MayAskHelp (meant_words words)
IsFaultIn words (faults.Refused text) = AreStray words
IsFaultIn words faults.Memory = Unit {0}

-- the same where a job is asked for: a refusal of words that are mistaken
abbrev pub IsFaultOf : List Text → WordsFault → Type 0
IsFaultOf words (faults.Help text) = MayAskHelp (meant_words words)
IsFaultOf words (faults.Refused text) = AreMistaken words
IsFaultOf words faults.Memory = Unit {0}

-- what is told of words that clap refuses in this way
abbrev pub IsFaultBy : ErrorKind → WordsFault → Type 0
IsFaultBy kind (faults.Help text) = IsAsked kind
IsFaultBy kind (faults.Refused text) = (¬ IsAsked kind) × (kind ≢ OutOfMemory)
IsFaultBy kind faults.Memory = Unit {0}

-- a refusal, or want of memory
abbrev pub IsRefused : WordsFault → Type 0
IsRefused (faults.Help text) = ⊥
IsRefused (faults.Refused text) = Unit {0}
IsRefused faults.Memory = Unit {0}
