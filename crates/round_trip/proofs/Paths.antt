-- Paths of the host, part by part.
use Rattle.std.proofs.Common.{◌≡◌, ◌≢◌, ℕ, false, List, [], ◌∷◌, ◌++◌, refl, sym, subst}
use Rattle.std.specs.Prelude.{◌==◌, All, IsFalse, codes}
use Rattle.std.proofs.lemmas.Bool.{ne_eqb, true≢false}
use Rattle.std.proofs.lemmas.List.{append-nil, append_assoc}
use Rattle.std.proofs.lemmas.List.Elements.{All-weaker}
use Rattle.std.proofs.lemmas.List.Splits.{slice_split_at, slice_split_none}
use Rattle.folder_adding.specs.HostPaths.{SayPartsIn, Text, parts}
use Rattle.host_folders.specs.HostEntries.{SaysFolder}
use Rattle.host_folders.specs.HostNames.{IsSafe, is_one_of}
use Rattle.vol_layout.specs.declared.form.PlaceForm.TheVariants.{Block}

abbrev pub HasNoSlash : Text → Type 0
HasNoSlash text = All (λ byte. byte ≢ 47) text

-- a safe name has none
pub safe_no_slash : (name : Text) → IsSafe name → HasNoSlash name
safe_no_slash name safe =
    All-weaker (λ c. IsFalse (is_one_of (codes "/\\:*?\"<>|") c)) (λ c. c ≢ 47)
    (λ c allowed same. true≢false (subst (λ (d : ℕ). IsFalse (is_one_of (codes "/\\:*?\"<>|") d)) same allowed)) name safe.allowed

no_slash : (text : Text) → HasNoSlash text → All (λ byte. (byte == 47) ≡ false) text
no_slash text lacks = All-weaker (λ byte. byte ≢ 47) (λ byte. (byte == 47) ≡ false) (λ byte other. ne_eqb byte 47 other) text lacks

parts_alone : (text : Text) → HasNoSlash text → parts text ≡ text ∷ []
parts_alone text lacks = slice_split_none (λ byte. byte == 47) text (no_slash text lacks)

parts_behind : (host behind : Text) → HasNoSlash host → parts (host ++ 47 ∷ behind) ≡ host ∷ parts behind
parts_behind host behind lacks = slice_split_at (λ byte. byte == 47) host 47 behind (no_slash host lacks) refl

-- whatever the last part of a path says
module _ (S : Type 0) (Says : Text → S → Type 0) where
  onward : (folder name : Text) (behind names : List Text) (said : S) → SaysFolder Block folder name → SayPartsIn Says behind names said
      → SayPartsIn Says (folder ∷ behind) (name ∷ names) said
  onward folder name [] names said is says = absurd says
  onward folder name (next ∷ more) names said is says = (is, says)

  -- what stands behind the path of a folder stands in the directories that have these names
  abbrev pub LeadsBy : Text → List Text → Type 0
  LeadsBy host names = (behind : Text) (more : List Text) (said : S) → SayPartsIn Says (parts behind) more said
      → SayPartsIn Says (parts (host ++ 47 ∷ behind)) (names ++ more) said

  module _ (text name : Text) (lacks : HasNoSlash text) (is : SaysFolder Block text name) where
    pub leads_alone : LeadsBy text (name ∷ [])
    leads_alone behind more said says =
        subst (λ (ps : List Text). SayPartsIn Says ps (name ∷ more) said) (sym (parts_behind text behind lacks))
        (onward text name (parts behind) more said is says)

    pub leads_below : (host : Text) (names : List Text) → LeadsBy host names → LeadsBy (host ++ 47 ∷ text) (names ++ name ∷ [])
    leads_below host names leads behind more said says =
        subst (λ (path : Text). SayPartsIn Says (parts path) ((names ++ name ∷ []) ++ more) said) (sym (append_assoc host (47 ∷ text) (47 ∷ behind)))
        (subst (λ (all : List Text). SayPartsIn Says (parts (host ++ 47 ∷ (text ++ 47 ∷ behind))) all said) (sym (append_assoc names (name ∷ []) more))
        (leads (text ++ 47 ∷ behind) (name ∷ more) said (leads_alone behind more said says)))

  -- what stands in no folder, or in one
  module _ (text : Text) (said : S) (lacks : HasNoSlash text) (is : Says text said) where
    pub says_alone : SayPartsIn Says (parts text) [] said
    says_alone = subst (λ (ps : List Text). SayPartsIn Says ps [] said) (sym (parts_alone text lacks)) is

    pub says_below : (host : Text) (names : List Text) → LeadsBy host names → SayPartsIn Says (parts (host ++ 47 ∷ text)) names said
    says_below host names leads =
        subst (λ (all : List Text). SayPartsIn Says (parts (host ++ 47 ∷ text)) all said) (append-nil names) (leads text [] said says_alone)
