-- A walk over one file of a volume in which no other entry points to anything.
use Rattle.std.proofs.Common.{◌≡◌, ℕ, ◌+◌, ◌<◌, List, [], length, arith, inr}
use Rattle.vol_format.specs.Directory.{Directory, entries}
use Rattle.vol_format.specs.Laws.{IsReadable}
use Rattle.vol_format.specs.Meaning.{Meaning}
use Rattle.vol_check.specs.Answer.{AreFaults}
use Rattle.vol_check.specs.FileWalker.{HasOneRoot, IsFaultlessFile}
use Rattle.vol_check.specs.Walk.{Lists, unseen}
use Rattle.vol_check.specs.Walking.{IsWalking, None}
use Rattle.vol_check.proofs.Files.{start_walking}
use Rattle.vol_check.proofs.Verdict.{nothing, some_faults}
use Rattle.vol_check.proofs.Visits.{accepted, ended, parts_of}

module _ (format : Meaning) (laws : IsReadable format) (directory : Directory) (store : List (List ℕ)) (file : ℕ) (alone : HasOneRoot directory file) where
  pub begins : (walk : Lists) → walk ≡ unseen directory.places → IsWalking format directory store file None walk
  begins walk is = start_walking format laws directory store file (λ other less. alone other (λ same. absurd (omega (arith, same, less)))) walk is

  module _ (within : file < entries directory) (described : format.Describes store directory) (walk : Lists) (empty : walk.pending ≡ [])
      (walking : IsWalking format directory store (file + 1) None walk) where
    whole : IsWalking format directory store (entries directory) None walk
    whole = ended format laws directory store (file + 1) (entries directory) walk (omega (arith, within))
        (λ other beyond below. alone other (λ same. absurd (omega (arith, same, beyond)))) empty walking

    pub faultless : length walk.faults ≡ 0 → IsFaultlessFile format directory store walk.parts
    faultless none = record {
      accepted = accepted format laws directory store walk whole empty (nothing walk.faults none) described;
      are_parts = parts_of format laws directory store walk whole empty (nothing walk.faults none);
    }

    pub refused : (length walk.faults ≡ 0 → ⊥) → AreFaults format store walk.faults
    refused some = some_faults format store walk.faults laws (λ fault has. inr (directory, described, walking.faults fault has)) some
