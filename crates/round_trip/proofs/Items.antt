-- What is known of an item of an extraction.
use Rattle.std.proofs.Common.{◌≡◌, ◌<◌, ◌≤◌, ◌+◌, ◌⊎◌, ◌∙◌, ℕ, codes, Bool, true, false, List, [], ◌∷◌, ◌++◌, Option, Some, None, length, take, refl, sym, ap, subst, arith, ⊎_elim}
use Rattle.std.proofs.lemmas.List.{get_or-take, length-take-le, length_push, take-append-le}
use Rattle.std.proofs.Math.Seq.{take-append_seam}
use Rattle.file_cmds.specs.ReadingOn.{FailedInFile}
use Rattle.host_folders.specs.HostNames.{host_name}
use Rattle.host_folders.specs.Laws.{IsEntry, IsNumber}
use Rattle.host_folders.specs.declared.entry.Naming.{Naming}
use Rattle.host_folders.specs.declared.entry.Naming.TheVariants.{Naps, Plain}
use Rattle.round_trip.specs.Extracted.{Extracted, IsExtracted, entry_in, item_in, source_in}
use Rattle.shop_commands.specs.Extracting.{own_of}
use Rattle.shop_replies.specs.Volume.{form_of}
use Rattle.vol_format.specs.Directory.{Listed, is_directory}
use Rattle.volume_compare.specs.Contents.{SeenVolume}
use Rattle.volume_extract.specs.ExtractText.{is_file, is_folder}
use Rattle.volume_extract.specs.Items.{AreItems, Contents, Found, IsAbove, IsFound, IsNext, Item, SaysTextBy, depth_below, found_both, found_file, found_folder, found_text, found_unread, host_below, is_folder_at, item_at, no_item, no_items, one_more, shown_of}
use Rattle.volume_extract.specs.Kept.{StandsBefore}
use Rattle.volume_extract.specs.Source.{contents_at, seen_at}
use Rattle.volume_extract.specs.Texts.{are_alone, texts_for}
use Rattle.volume_extract.specs.declared.texts.Texts.{Texts}
use Rattle.volume_extract.proofs.Growing.{last_item, same_item}
use Rattle.volume_extract.proofs.SafeHosts.{is_number, stands_before}

-- ---- each item is the next one behind those before it

below_or_last : (number many : ℕ) → number < many + 1 → (number < many) ⊎ (number ≡ many)
below_or_last number many low = grind (arith, low)

module _ (volume : SeenVolume) (own : Listed → List ℕ) (contents : Contents) (naming : Naming) where
  next_more : (earlier : List Item) (item : Item) → IsNext volume own contents naming earlier item
      → ((number : ℕ) → number < length earlier → IsNext volume own contents naming (take number earlier) (item_at earlier number))
      → (number : ℕ) → (number < length earlier) ⊎ (number ≡ length earlier)
      → IsNext volume own contents naming (take number (earlier ++ item ∷ [])) (item_at (earlier ++ item ∷ []) number)
  next_more earlier item is were number place =
      ⊎_elim
      (λ before.
      subst (λ (front : List Item). IsNext volume own contents naming front (item_at (earlier ++ item ∷ []) number))
      (sym (take-append-le number earlier (item ∷ []) (omega (arith, before))))
      (subst (IsNext volume own contents naming (take number earlier)) (sym (same_item earlier item number before)) (were number before)))
      (λ last.
      subst (λ n. IsNext volume own contents naming (take n (earlier ++ item ∷ [])) (item_at (earlier ++ item ∷ []) n)) (sym last)
      (subst (λ (front : List Item). IsNext volume own contents naming front (item_at (earlier ++ item ∷ []) (length earlier)))
      (sym (take-append_seam earlier (item ∷ [])))
      (subst (IsNext volume own contents naming earlier) (sym (last_item earlier item)) is)))
      place

  next_at : (items : List Item) → AreItems volume own contents naming items → (number : ℕ) → number < length items
      → IsNext volume own contents naming (take number items) (item_at items number)
  next_at items no_items number low = absurd (omega (arith, low))
  next_at items (one_more earlier item are is) number low =
      next_more earlier item is (next_at earlier are) number (below_or_last number (length earlier) (omega (arith, low, length_push earlier item)))

-- what stands before an item stands among all
same_depth : (items : List Item) (number : ℕ) (above : Option ℕ) → StandsBefore number above
    → depth_below (take number items) above ≡ depth_below items above
same_depth items number None before = refl
same_depth items number (Some above) before = ap (λ (one : Item). one.depth + 1) (get_or-take number items above no_item before)

same_host : (items : List Item) (number : ℕ) (above : Option ℕ) (name : List ℕ) → StandsBefore number above
    → host_below (take number items) above name ≡ host_below items above name
same_host items number None name before = refl
same_host items number (Some above) name before = ap (λ (one : Item). one.host ++ codes "/" ++ name) (get_or-take number items above no_item before)

-- ---- the facts

abbrev pub volume_of : Extracted → SeenVolume
volume_of e = seen_at (source_in e) e.device

abbrev pub Failed : Extracted → ℕ → Type 0
Failed e = FailedInFile (source_in e).meaning e.directory e.device e.device_now

pub record IsKnown (e : Extracted) (number : ℕ) : Type 0 where
  pub fits : IsEntry (item_in e number).entry
  pub counts : IsNumber (item_in e number).number
  pub short : length (item_in e number).entry.name ≤ 30
  pub form : (item_in e number).entry.form ≡ form_of e.volume.file_system
  pub name : (item_in e number).entry.name ≡ own_of e.volume.file_system (entry_in e number)
  pub kind : (item_in e number).entry.kind ≡ (shown_of (volume_of e) number).kind
  pub text : (item_in e number).entry.text ≡ false
  pub directory : (item_in e number).entry.directory ≡ is_directory (entry_in e number)
  pub above : IsAbove (own_of e.volume.file_system) e.directory number (item_in e number).above
  pub depth : (item_in e number).depth ≡ depth_below e.items (item_in e number).above
  pub host : (item_in e number).host
      ≡ host_below e.items (item_in e number).above (host_name Naps (item_in e number).entry (item_in e number).number)
  pub found : IsFound (texts_for Naps e.options.texts) (volume_of e) (Failed e) number (item_in e number).found

none_alone : (naming : Naming) (texts : Bool) → naming ≡ Naps → are_alone (texts_for naming texts) ≡ false
none_alone Naps false is = refl
none_alone Naps true is = refl
none_alone Plain texts is = absurd cc

module _ (e : Extracted) (is : IsExtracted e) (number : ℕ) (inside : number < length e.items) where
  pub known : IsKnown e number
  known =
      let source = source_in e in
      let volume = volume_of e in
      let contents = contents_at source e.device e.device_now in
      let next = next_at volume source.own contents source.naming e.items is.are_items number inside in
      let named = next.named in
      let long : length (take number e.items) ≡ number = length-take-le number e.items (omega (arith, inside)) in
      let item = item_in e number in
      let above : IsAbove source.own e.directory number item.above = subst (λ n. IsAbove source.own e.directory n item.above) long named.above in
      let before = stands_before source.own e.directory number item.above above in
      record {
        fits = named.fits;
        counts = is_number volume source.own contents source.naming (take number e.items) item named;
        short = named.short;
        form = named.form;
        name = subst (λ n. item.entry.name ≡ source.own (entry_in e n)) long named.name;
        kind = subst (λ n. item.entry.kind ≡ (shown_of volume n).kind) long named.kind;
        text = subst (λ (alone : Bool). SaysTextBy alone contents (length (take number e.items)) item.entry.text)
            (none_alone e.options.naming e.options.texts is.named) named.text;
        directory = subst (λ n. item.entry.directory ≡ is_directory (entry_in e n)) long named.folder_or_file;
        above = above;
        depth = named.depth ∙ same_depth e.items number item.above before;
        host = named.host ∙ same_host e.items number item.above (host_name source.naming item.entry item.number) before
            ∙ ap (λ (naming : Naming). host_below e.items item.above (host_name naming item.entry item.number)) is.named;
        found = subst (λ (naming : Naming). IsFound (texts_for naming e.options.texts) volume (Failed e) number item.found) is.named
            (subst (λ n. IsFound source.texts volume (Failed e) n item.found) long next.found.0);
      }

-- ---- what is found of it

module _ (texts : Texts) (volume : SeenVolume) (failed : ℕ → Type 0) (number : ℕ) where
  a_file : (found : Found) → IsFound texts volume failed number found → is_file found ≡ true → is_folder_at volume number ≡ false
  a_file found_folder is read = absurd cc
  a_file (found_file bytes) is read = is.of_file
  a_file (found_both bytes text) is read = is.of_file
  a_file (found_text text) is read = absurd cc
  a_file found_unread is read = absurd cc

  a_folder : (found : Found) → IsFound texts volume failed number found → is_folder found ≡ true → is_folder_at volume number ≡ true
  a_folder found_folder is led = is
  a_folder (found_file bytes) is led = absurd cc
  a_folder (found_both bytes text) is led = absurd cc
  a_folder (found_text text) is led = absurd cc
  a_folder found_unread is led = absurd cc

module _ (e : Extracted) (is : IsExtracted e) (number : ℕ) (inside : number < length e.items) where
  pub file_found : is_file (item_in e number).found ≡ true → (item_in e number).entry.directory ≡ false
  file_found read =
      let k = known e is number inside in
      k.directory ∙ a_file (texts_for Naps e.options.texts) (volume_of e) (Failed e) number (item_in e number).found k.found read

  pub folder_found : is_folder (item_in e number).found ≡ true → (item_in e number).entry.directory ≡ true
  folder_found led =
      let k = known e is number inside in
      k.directory ∙ a_folder (texts_for Naps e.options.texts) (volume_of e) (Failed e) number (item_in e number).found k.found led
