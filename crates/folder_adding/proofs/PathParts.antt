-- The parts of a path, read one after the other.
use Rattle.std.proofs.Common.{◌≡◌, ◌≢◌, ◌≤◌, ◌<◌, ◌∙◌, ◌+◌, ℕ, List, [], ◌∷◌, ◌++◌, ap, sym, subst, refl, arith, length, false}
use Rattle.std.specs.Prelude.{◌==◌, All, codes, count_by}
use Rattle.std.specs.List.{slice_split}
use Rattle.std.proofs.lemmas.Bool.{ne_eqb}
use Rattle.std.proofs.lemmas.List.{append-nil, append_assoc}
use Rattle.std.proofs.lemmas.List.Elements.{All-weaker}
use Rattle.std.proofs.lemmas.List.Splits.{length-slice_split, slice_split_at, slice_split_none}
use Rattle.folder_adding.specs.HostPaths.{SayPartsIn, Text, parts}
use Rattle.folder_adding.specs.Weighing.{IsCut, IsParted, IsUnsaid}
use Rattle.host_folders.specs.HostEntries.{SaysFile, SaysFolder}
use Rattle.vol_layout.specs.declared.form.PlaceForm.TheVariants.{Block}

no_slash : (text : Text) → All (λ byte. byte ≢ 47) text → All (λ byte. (byte == 47) ≡ false) text
no_slash text lacks = All-weaker (λ byte. byte ≢ 47) (λ byte. (byte == 47) ≡ false) (λ byte other. ne_eqb byte 47 other) text lacks

parts_alone : (path : Text) → All (λ byte. byte ≢ 47) path → parts path ≡ path ∷ []
parts_alone path lacks = slice_split_none (λ byte. byte == 47) path (no_slash path lacks)

parts_cut : (path folder behind : Text) → IsCut path folder behind → parts path ≡ folder ∷ parts behind
parts_cut path folder behind cut =
    ap parts cut.split ∙ slice_split_at (λ byte. byte == 47) folder 47 behind (no_slash folder cut.lacks) refl

some_part : (path : Text) → 1 ≤ length (parts path)
some_part path = omega (arith, length-slice_split (λ byte. byte == 47) path)

-- what is said of the last part
module _ {S : Type 0} (Says : Text → S → Type 0) where
  -- ---- one part more

  onward : (folder name : Text) (behind names : List Text) (said : S) → SaysFolder Block folder name → SayPartsIn Says behind names said
      → SayPartsIn Says (folder ∷ behind) (name ∷ names) said
  onward folder name [] names said is says = absurd says
  onward folder name (next ∷ more) names said is says = (is, says)

  record IsOnward (folder : Text) (behind : List Text) (said : S) : Type 0 where
    name : Text
    names : List Text
    is : SaysFolder Block folder name
    says : SayPartsIn Says behind names said

  back_from : (folder : Text) (behind names : List Text) (said : S) → 1 ≤ length behind → SayPartsIn Says (folder ∷ behind) names said
      → IsOnward folder behind said
  back_from folder [] names said some says = absurd (omega arith)
  back_from folder (next ∷ more) [] said some says = absurd says
  back_from folder (next ∷ more) (name ∷ names) said some says = record { name = name; names = names; is = says.0; says = says.1 }

  last_alone : (last : Text) (names : List Text) (said : S) → SayPartsIn Says (last ∷ []) names said → Says last said
  last_alone last [] said says = says
  last_alone last (name ∷ names) said says = absurd says

  -- ---- how far a path is read

  -- of a path this rest is left, and the parts before it say these names
  pub record Reaches (path rest : Text) (names : List Text) : Type 0 where
    forth : (behind : List Text) (said : S) → SayPartsIn Says (parts rest) behind said → SayPartsIn Says (parts path) (names ++ behind) said
    back : (all : List Text) (said : S) → SayPartsIn Says (parts path) all said → (behind : List Text) × SayPartsIn Says (parts rest) behind said

  pub at_start : (path : Text) → Reaches path path []
  at_start path = record { forth = λ behind said says. says; back = λ all said says. (all, says) }

  module _ (path rest : Text) (names : List Text) (so_far : Reaches path rest names) where
    module _ (folder behind : Text) (cut : IsCut rest folder behind) where
      next_of : (all : List Text) (said : S) → SayPartsIn Says (parts path) all said → IsOnward folder (parts behind) said
      next_of all said says =
          let here = so_far.back all said says in
          back_from folder (parts behind) here.0 said (some_part behind)
          (subst (λ (ps : List Text). SayPartsIn Says ps here.0 said) (parts_cut rest folder behind cut) here.1)

      pub one_further : (name : Text) → SaysFolder Block folder name → Reaches path behind (names ++ name ∷ [])
      one_further name is = record {
        forth = λ last said says.
            subst (λ (all : List Text). SayPartsIn Says (parts path) all said) (sym (append_assoc names (name ∷ []) last))
            (so_far.forth (name ∷ last) said
            (subst (λ (ps : List Text). SayPartsIn Says ps (name ∷ last) said) (sym (parts_cut rest folder behind cut))
            (onward folder name (parts behind) last said is says)));
        back = λ all said says. let onward = next_of all said says in (onward.names, onward.says);
      }

      pub none_said : ((name : Text) → ¬ SaysFolder Block folder name) → (all : List Text) (said : S) → ¬ SayPartsIn Says (parts path) all said
      none_said none all said says = let onward = next_of all said says in none onward.name onward.is

    module _ (alone : All (λ byte. byte ≢ 47) rest) where
      pub last_there : (said : S) → Says rest said → SayPartsIn Says (parts path) names said
      last_there said says =
          subst (λ (all : List Text). SayPartsIn Says (parts path) all said) (append-nil names)
          (so_far.forth [] said (subst (λ (ps : List Text). SayPartsIn Says ps [] said) (sym (parts_alone rest alone)) says))

      pub last_only : (all : List Text) (said : S) → SayPartsIn Says (parts path) all said → Says rest said
      last_only all said says =
          let here = so_far.back all said says in
          last_alone rest here.0 said (subst (λ (ps : List Text). SayPartsIn Says ps here.0 said) (parts_alone rest alone) here.1)

-- ---- what both kinds of paths say

-- the parts before this rest say these names
pub record AreRead (path rest : Text) (names : List Text) : Type 0 where
  files : Reaches (SaysFile Block) path rest names
  folders : Reaches (SaysFolder Block) path rest names

pub none_read : (path : Text) → AreRead path path []
none_read path = record { files = at_start (SaysFile Block) path; folders = at_start (SaysFolder Block) path }

module _ (path rest : Text) (names : List Text) (so_far : AreRead path rest names) where
  module _ (folder behind : Text) (cut : IsCut rest folder behind) where
    pub one_read : (name : Text) → SaysFolder Block folder name → AreRead path behind (names ++ name ∷ [])
    one_read name is = record {
      files = one_further (SaysFile Block) path rest names so_far.files folder behind cut name is;
      folders = one_further (SaysFolder Block) path rest names so_far.folders folder behind cut name is;
    }

    pub unsaid : ((name : Text) → ¬ SaysFolder Block folder name) → IsUnsaid path
    unsaid none = record {
      file = none_said (SaysFile Block) path rest names so_far.files folder behind cut none;
      folder = none_said (SaysFolder Block) path rest names so_far.folders folder behind cut none;
    }

  pub all_read : All (λ byte. byte ≢ 47) rest → IsParted path names rest
  all_read alone = record {
    file = last_there (SaysFile Block) path rest names so_far.files alone;
    file_alone = last_only (SaysFile Block) path rest names so_far.files alone;
    folder = last_there (SaysFolder Block) path rest names so_far.folders alone;
    folder_alone = last_only (SaysFolder Block) path rest names so_far.folders alone;
  }
