-- Stores that hold the same volume.
use Rattle.std.specs.Prelude.{ℕ, List}
use Rattle.std.proofs.Common.{refl, ◌∙◌, subst}
use Rattle.vol_format.specs.Directory.{Directory, IsSameFrame}
use Rattle.vol_format.specs.Laws.{IsReadable}
use Rattle.vol_format.specs.Meaning.{Meaning}
use Rattle.vol_format.specs.Reach.{SameContents}
use Rattle.vol_format.proofs.Frames.{same_system}
use Rattle.vol_laws.specs.System.{SameSystem}
use Rattle.vol_mover.specs.Volume.{SameVolume}

module _ (format : Meaning) (laws : IsReadable format) where
  -- it is enough to see it of the directories that they have
  pub same_volume : (before after : Directory) (old new : List (List ℕ)) → format.Describes old before → format.Describes new after
      → SameContents format before after old new → SameSystem format before after old new → IsSameFrame before after → SameVolume format old new
  same_volume before after old new was is contents system frame a b is_a is_b =
      let to_a = laws.one_directory old before a was is_a in
      let to_b = laws.one_directory new after b is is_b in (
        subst (λ d. SameContents format d b old new) to_a (subst (λ d. SameContents format before d old new) to_b contents),
        subst (λ d. SameSystem format d b old new) to_a (subst (λ d. SameSystem format before d old new) to_b system),
        subst (λ d. IsSameFrame d b) to_a (subst (λ d. IsSameFrame before d) to_b frame),
      )

  pub same_volume-refl : (store : List (List ℕ)) → SameVolume format store store
  same_volume-refl store a b is_a is_b =
      subst (λ d. SameContents format a d store store × SameSystem format a d store store × IsSameFrame a d) (laws.one_directory store a b is_a is_b)
      (λ file kind number content. (λ has. has, λ has. has), λ place system. refl, refl)

  pub same_volume-trans : (old mid new : List (List ℕ)) (directory : Directory) → format.Describes mid directory
      → SameVolume format old mid → SameVolume format mid new → SameVolume format old new
  same_volume-trans old mid new directory described first then a b is_a is_b =
      let one = first a directory is_a described in
      let two = then directory b described is_b in (
        λ file kind number content.
            let x = one.0 file kind number content in
            let y = two.0 file kind number content in
            (λ has. y.0 (x.0 has), λ has. x.1 (y.1 has)),
        λ place system. two.1 place (same_system a directory one.2 place ∙ system) ∙ one.1 place system,
        two.2 ∙ one.2,
      )
