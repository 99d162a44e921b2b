-- The directories in which an entry stands, and its path on the volume and on the host.
use Rattle.std.proofs.Common.{◌≡◌, ◌<◌, ◌∙◌, ℕ, suc, zero, true, List, [], ◌∷◌, ◌++◌, Option, Some, None, length, refl, sym, ap, subst, arith, add-one}
use Rattle.std.specs.Prelude.{codes, flat_map}
use Rattle.std.proofs.lemmas.List.{append-nil, append_assoc}
use Rattle.std.proofs.lemmas.List.Concat.{flat_map-append}
use Rattle.folder_adding.specs.HostPaths.{SayPartsIn, Text, before, parts}
use Rattle.host_folders.specs.HostEntries.{SaysFolder}
use Rattle.host_folders.proofs.ReadBack.{folder_read_back}
use Rattle.host_folders.specs.HostNames.{host_name, name_bytes}
use Rattle.host_folders.specs.declared.entry.Naming.TheVariants.{Naps}
use Rattle.host_folders.proofs.IsSafe.{host_is_safe}
use Rattle.vol_layout.specs.declared.form.PlaceForm.{PlaceForm}
use Rattle.vol_layout.specs.declared.form.PlaceForm.TheVariants.{Block}
use Rattle.round_trip.specs.Extracted.{Extracted, directories_of, entry_in, item_in, names_above}
use Rattle.shop_commands.specs.Extracting.{own_of}
use Rattle.shop_jobs.specs.declared.input.FileSystem.TheVariants.{Prodos}
use Rattle.shop_replies.specs.Volume.{form_of}
use Rattle.volume_extract.specs.Items.{IsAbove, depth_below, host_below}
use Rattle.round_trip.proofs.Items.{IsKnown}
use Rattle.round_trip.proofs.Paths.{HasNoSlash, LeadsBy, leads_alone, leads_below, safe_no_slash, says_alone, says_below}

pub host_no_slash : (e : Extracted) (number : ℕ) → IsKnown e number → HasNoSlash (host_name Naps (item_in e number).entry (item_in e number).number)
host_no_slash e number k =
    let item = item_in e number in
    safe_no_slash (host_name Naps item.entry item.number) (host_is_safe Naps item.entry item.number k.fits k.short k.counts)

-- ---- names

pub names_top : (e : Extracted) (deep : ℕ) → names_above e.items deep None ≡ []
names_top e zero = refl
names_top e (suc deep) = refl

names_in : (e : Extracted) (deep above : ℕ) → deep ≡ depth_below e.items (Some above)
    → names_above e.items deep (Some above) ≡ directories_of e above ++ (item_in e above).entry.name ∷ []
names_in e deep above depth = ap (λ (n : ℕ). names_above e.items n (Some above)) (depth ∙ add-one (item_in e above).depth)

-- the path of what stands in a folder, after the folder's slash
below_slash : (host text : Text) → (host ++ codes "/") ++ text ≡ host ++ 47 ∷ text
below_slash host text = append_assoc host (codes "/") text

joined : (front name own : Text) → (front ++ name) ++ 47 ∷ own ≡ (front ++ ((name ++ codes "/") ++ [])) ++ own
joined front name own =
    append_assoc front name (47 ∷ own)
    ∙ ap (λ (behind : Text). front ++ behind) (sym (below_slash name own))
    ∙ ap (λ (behind : Text). front ++ (behind ++ own)) (sym (append-nil (name ++ codes "/")))
    ∙ sym (append_assoc front ((name ++ codes "/") ++ []) own)

module _ (e : Extracted) (all : (number : ℕ) → number < length e.items → IsKnown e number) where
  -- ---- the path on the volume

  -- the path of an entry is those of its directories and its name
  abbrev HasPath : ℕ → Type 0
  HasPath number = (entry_in e number).path ≡ flat_map before (directories_of e number) ++ (item_in e number).entry.name

  path_by : (number deep : ℕ) (above : Option ℕ) → number < length e.items → IsAbove (own_of e.volume.file_system) e.directory number above
      → deep ≡ depth_below e.items above → ((other : ℕ) → other < number → other < length e.items → HasPath other)
      → (entry_in e number).path ≡ flat_map before (names_above e.items deep above) ++ own_of e.volume.file_system (entry_in e number)
  path_by number deep None inside is depth earlier =
      is ∙ ap (λ (names : List Text). flat_map before names ++ own_of e.volume.file_system (entry_in e number)) (sym (names_top e deep))
  path_by number deep (Some above) inside is depth earlier =
      let own = own_of e.volume.file_system (entry_in e number) in
      let names = directories_of e above in
      let name = (item_in e above).entry.name in
      is.path
      ∙ ap (λ (front : Text). front ++ 47 ∷ own) (earlier above is.before (omega (arith, is.before, inside)))
      ∙ joined (flat_map before names) name own
      ∙ ap (λ (front : Text). front ++ own) (sym (flat_map-append before names (name ∷ [])))
      ∙ ap (λ (all : List Text). flat_map before all ++ own) (sym (names_in e deep above depth))

  path_at : (bound number : ℕ) → number < bound → number < length e.items → HasPath number
  path_at zero number low inside = absurd (omega (arith, low))
  path_at (suc bound) number low inside =
      let k = all number inside in
      path_by number (item_in e number).depth (item_in e number).above inside k.above k.depth
      (λ other before within. path_at bound other (omega (arith, low, before)) within)
      ∙ ap (λ (name : Text). flat_map before (directories_of e number) ++ name) (sym k.name)

  pub has_path : (number : ℕ) → number < length e.items → HasPath number
  has_path number inside = path_at (suc number) number (omega arith) inside

  -- ---- the path on the host

  module _ (prodos : e.volume.file_system ≡ Prodos) where
    pub says_folder : (number : ℕ) → number < length e.items → (item_in e number).entry.directory ≡ true
        → SaysFolder Block (host_name Naps (item_in e number).entry (item_in e number).number) (item_in e number).entry.name
    says_folder number inside folder =
        let k = all number inside in
        let item = item_in e number in
        let host = host_name Naps item.entry item.number in
        subst (λ (form : PlaceForm). SaysFolder form host (name_bytes form item.entry.name)) (k.form ∙ ap form_of prodos)
        (folder_read_back Naps item.entry item.number k.fits k.counts folder k.text)

    -- whatever the last part of a path says
    module _ (S : Type 0) (Says : Text → S → Type 0) where
      -- what stands in the folder of a directory stands in the directory
      abbrev Leads : ℕ → Type 0
      Leads number = (item_in e number).entry.directory ≡ true
          → LeadsBy S Says (item_in e number).host (directories_of e number ++ (item_in e number).entry.name ∷ [])

      leads_above : (number above : ℕ) → number < length e.items → IsAbove (own_of e.volume.file_system) e.directory number (Some above)
          → ((other : ℕ) → other < number → other < length e.items → Leads other)
          → LeadsBy S Says (item_in e above).host (directories_of e above ++ (item_in e above).entry.name ∷ [])
      leads_above number above inside is earlier =
          let within : above < length e.items = omega (arith, is.before, inside) in
          earlier above is.before within ((all above within).directory ∙ is.of_directory)

      leads_by : (number deep : ℕ) (above : Option ℕ) (text name : Text) → number < length e.items
          → IsAbove (own_of e.volume.file_system) e.directory number above → deep ≡ depth_below e.items above
          → ((other : ℕ) → other < number → other < length e.items → Leads other) → HasNoSlash text → SaysFolder Block text name
          → LeadsBy S Says (host_below e.items above text) (names_above e.items deep above ++ name ∷ [])
      leads_by number deep None text name inside is depth earlier lacks says =
          subst (λ (names : List Text). LeadsBy S Says text (names ++ name ∷ [])) (sym (names_top e deep)) (leads_alone S Says text name lacks says)
      leads_by number deep (Some above) text name inside is depth earlier lacks says =
          let host = (item_in e above).host in
          let names = directories_of e above ++ (item_in e above).entry.name ∷ [] in
          subst (λ (path : Text). LeadsBy S Says path (names_above e.items deep (Some above) ++ name ∷ [])) (sym (below_slash host text))
          (subst (λ (all : List Text). LeadsBy S Says (host ++ 47 ∷ text) (all ++ name ∷ [])) (sym (names_in e deep above depth))
          (leads_below S Says text name lacks says host names (leads_above number above inside is earlier)))

      leads_at : (bound number : ℕ) → number < bound → number < length e.items → Leads number
      leads_at zero number low inside folder = absurd (omega (arith, low))
      leads_at (suc bound) number low inside folder =
          let k = all number inside in
          let item = item_in e number in
          subst (λ (path : Text). LeadsBy S Says path (directories_of e number ++ item.entry.name ∷ [])) (sym k.host)
          (leads_by number item.depth item.above (host_name Naps item.entry item.number) item.entry.name inside k.above k.depth
          (λ other before within. leads_at bound other (omega (arith, low, before)) within) (host_no_slash e number k)
          (says_folder number inside folder))

      -- what stands in the folder of a directory, or in none
      parts_by : (number deep : ℕ) (above : Option ℕ) (text : Text) (said : S) → number < length e.items
          → IsAbove (own_of e.volume.file_system) e.directory number above → deep ≡ depth_below e.items above → HasNoSlash text
          → Says text said → SayPartsIn Says (parts (host_below e.items above text)) (names_above e.items deep above) said
      parts_by number deep None text said inside is depth lacks says =
          subst (λ (names : List Text). SayPartsIn Says (parts text) names said) (sym (names_top e deep)) (says_alone S Says text said lacks says)
      parts_by number deep (Some above) text said inside is depth lacks says =
          let host = (item_in e above).host in
          let names = directories_of e above ++ (item_in e above).entry.name ∷ [] in
          subst (λ (path : Text). SayPartsIn Says (parts path) (names_above e.items deep (Some above)) said) (sym (below_slash host text))
          (subst (λ (all : List Text). SayPartsIn Says (parts (host ++ 47 ∷ text)) all said) (sym (names_in e deep above depth))
          (says_below S Says text said lacks says host names
          (leads_above number above inside is (λ other before within. leads_at (suc other) other (omega arith) within))))

      pub say_parts : (number : ℕ) (text : Text) (said : S) → number < length e.items → HasNoSlash text → Says text said
          → SayPartsIn Says (parts (host_below e.items (item_in e number).above text)) (directories_of e number) said
      say_parts number text said inside lacks says =
          let k = all number inside in
          parts_by number (item_in e number).depth (item_in e number).above text said inside k.above k.depth lacks says
