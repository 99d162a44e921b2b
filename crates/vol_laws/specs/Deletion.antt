-- The writes that delete a file: its entry is erased, then its places are marked free (Beneath Apple DOS, chapter 4;
-- ProDOS 8 Technical Reference Manual, chapter 4 and appendix B).
use Rattle.std.specs.Prelude.{◌≡◌, ◌≢◌, ◌<◌, ◌≤◌, ℕ, true, List, ◌++◌, length, map, take, All, Contains}
use Rattle.a2_device.specs.declared.part.Part.{Part}
use Rattle.vol_format.specs.Directory.{Directory, entries, entry_of, root_of, map_place}
use Rattle.vol_format.specs.Meaning.{Meaning}
use Rattle.vol_laws.specs.Entered.{HasSameRest, IsTaken}
use Rattle.vol_laws.specs.Inserted.{inserted}
use Rattle.vol_laws.specs.PartsOf.{PartOf}
use Rattle.vol_laws.specs.declared.mark.Mark.{Mark}
use Rattle.vol_laws.specs.Markings.{Marking, marking_of, mark_as, marking_write}
use Rattle.vol_laws.specs.Writes.{Write, store_after}

-- a mark that says that a place is free
abbrev pub free_mark : ℕ → Mark
free_mark = mark_as true

-- the one write of a unit of the map that marks places of it free
abbrev pub release_write : Meaning → List (List ℕ) → Marking → Write
release_write format = marking_write format true

-- The mark of a place of the file that a link leads to stands in this unit of the map.
pub record IsOwnPlace (format : Meaning) (directory few : Directory) (file : ℕ) (store : List (List ℕ))
    (at place : ℕ) : Type 0 where
  pub inside : place < few.places
  pub here : map_place few place ≡ at
  pub own : IsTaken format store (root_of directory file) place

-- The writes that delete the file of an entry. Those to the directory come first: from the first of them on the store
-- has the directory without that entry, `few`, and no unit outside the system is written. Then come the units of the
-- map, in rising order and each once, none of them a unit that was written before, and none without a place, in which
-- the places of the file are marked free: these places alone, all of them.
pub record IsDeletion (format : Meaning) (directory : Directory) (file : ℕ) (store : List (List ℕ))
    (writes : List Write) : Type 0 where
  pub few : Directory
  pub takes : format.Takes few.places
  pub within : file ≤ entries few
  pub is : directory ≡ inserted few file (entry_of directory file)
  pub system : List Write
  pub erases : 0 < length system
  pub described : (n : ℕ) → 0 < n → n ≤ length system → format.Describes (store_after (take n system) store) few
  pub rest : (n : ℕ) → 0 < n → n ≤ length system → HasSameRest few store (store_after (take n system) store)
  pub releases : List Marking
  pub are : writes ≡ system ++ map (release_write format store) releases
  pub inside : (k : ℕ) → k < length releases → (marking_of releases k).at < few.places
  pub rising : (j k : ℕ) → j < k → k < length releases → (marking_of releases j).at < (marking_of releases k).at
  pub apart : (k : ℕ) → k < length releases → All (λ (write : Write). write.place ≢ (marking_of releases k).at) system
  pub own : (k : ℕ) → k < length releases
      → All (IsOwnPlace format directory few file store (marking_of releases k).at) (marking_of releases k).places
  pub some : (k : ℕ) → k < length releases → 0 < length (marking_of releases k).places
  pub each : (part : Part) → PartOf format store (root_of directory file) part
      → (k : ℕ) × (k < length releases) × Contains (marking_of releases k).places part.place
