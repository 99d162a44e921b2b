-- The item of an entry is ready.
use Rattle.std.proofs.Common.{◌≡◌, ◌≢◌, ◌<◌, ◌≤◌, ◌+◌, ◌^◌, ◌∙◌, ℕ, Bool, true, false, List, Option, Some, None, length, refl, sym, ap, subst, arith, inl, inr, string_bytes}
use Rattle.std.specs.Prelude.{IsTrue, String, if◌then◌else◌, not, ◌&&◌, ◌||◌}
use Rattle.std.proofs.lemmas.Bool.{true≢false}
use Rattle.std.specs.declared.alloc.Global.{Global}
use Rattle.std.proofs.lemmas.List.{length-map}
use Rattle.std.proofs.lemmas.List.Sums.{count_by-le-length}
use Rattle.a2_device.specs.Device.{DeviceState}
use Rattle.vol_format.specs.Directory.{entry_of, is_directory}
use Rattle.file_cmds.specs.ReadingOn.{FailedInFile, ReadsOn}
use Rattle.file_cmds.specs.lemmas.Reading.{still_honest}
use Rattle.host_folders.specs.HostNames.{host_name}
use Rattle.host_folders.specs.declared.entry.Naming.{Naming}
use Rattle.file_cmds.specs.Address.{is_binary}
use Rattle.volume_compare.specs.Contents.{SeenVolume}
use Rattle.volume_extract.specs.Counts.{AreCounted}
use Rattle.volume_extract.specs.Items.{AuxBy, Contents, Found, found_folder, found_file, found_both, found_text, found_unread, contents_of, contents_where, depth_below, IsAbove, IsAddress, IsAux, IsFileFound, IsFound, IsNamed, Item, SaysText, SaysTextBy, host_below, is_folder_at, is_text, shown_of, view_at}
use Rattle.volume_extract.specs.Keys.{is_key, key_of, keys_of}
use Rattle.volume_extract.specs.Kept.{head_entry}
use Rattle.volume_extract.specs.Looked.{IsEarly, IsLooked, IsSeen, IsSeenBy, IsSeenOn, aux_seen, body_view, text_seen}
use Rattle.volume_extract.specs.Naming.{IsHead, key_by}
use Rattle.volume_extract.specs.Placing.{IsPlace}
use Rattle.volume_extract.specs.Progress.{HasNext}
use Rattle.volume_extract.specs.Source.{HasLongPath, Source, contents_since, seen_at}
use Rattle.volume_extract.specs.Texts.{are_alone}
use Rattle.volume_extract.specs.declared.kept.Head.{Head}
use Rattle.volume_extract.specs.declared.kept.Tail.{Tail}
use Rattle.volume_extract.specs.declared.body.Body.{Body}
use Rattle.volume_extract.specs.declared.looking.Looked.{Looked}
use Rattle.volume_extract.specs.declared.looking.Looked.TheVariants as looked
use Rattle.volume_extract.specs.declared.names.Names.{Names}
use Rattle.volume_extract.specs.declared.placing.Place.{Place}
use Rattle.volume_extract.specs.declared.seeing.Seen.{Seen}
use Rattle.volume_extract.specs.declared.texts.Texts.{Texts}
use Rattle.volume_extract.specs.declared.texts.Texts.TheVariants.{Without, Beside, Alone}
use Rattle.volume_extract.proofs.Counted.{alike_keys, keys_more}
use Rattle.volume_extract.proofs.SafeHosts.{stands_before}
use Rattle.volume_extract.proofs.Wider.{seen_since}

-- what was seen early, since a device was as it was
pub early_since : (source : Source) (start now last : DeviceState) → ReadsOn start now → (entry : ℕ) (early : Option Seen)
    → IsEarly (IsTrue now.honest) source.texts (seen_at source now) (FailedInFile source.meaning source.directory now last) entry early
    → IsEarly (IsTrue start.honest) source.texts (seen_at source start) (FailedInFile source.meaning source.directory start last) entry early
early_since source start now last reads entry None is = is
early_since source start now last reads entry (Some one) is =
    (is.0, λ honest. seen_since source start now last honest reads entry one (is.1 (still_honest start now reads honest)))

-- ---- which entries are seen early

no_folder : (f b : Bool) → (not f && b) ≡ true → f ≡ false
no_folder true b has = absurd (grind (arith, has))
no_folder false b has = refl

no_second : (f a b : Bool) → (not f && (a || b)) ≡ false → (not f && b) ≡ false
no_second true a b none = refl
no_second false true b none = absurd (grind (arith, none))
no_second false false b none = none

a_folder : (f b : Bool) → (not f && (true || b)) ≡ false → f ≡ true
a_folder true b none = refl
a_folder false b none = absurd (grind (arith, none))

module _ (Holds : Type 0) (texts : Texts) (volume : SeenVolume) (failed : ℕ → Type 0) (entry : ℕ) where
  -- the aux type that is told
  aux_by : (f b : Bool) (address : ℕ) → f ≡ false → IsAddress volume failed entry address
      → AuxBy (not f && b) volume failed entry (if b then address else (shown_of volume entry).aux)
  aux_by true b address of_file is = absurd (true≢false of_file)
  aux_by false true address of_file is = is
  aux_by false false address of_file is = refl

  pub aux_told : (early : Option Seen) → IsEarly Holds texts volume failed entry early → Holds
      → IsAux volume failed entry (aux_seen volume.form (shown_of volume entry) early)
  aux_told None is holds =
      subst (λ b. AuxBy b volume failed entry (shown_of volume entry).aux)
      (sym (no_second (is_folder_at volume entry) (are_alone texts) (is_binary volume.form (shown_of volume entry)) is)) refl
  aux_told (Some seen) is holds =
      let of_file = no_folder (is_folder_at volume entry) _ is.0 in
      aux_by (is_folder_at volume entry) (is_binary volume.form (shown_of volume entry)) seen.address of_file ((is.1 holds).address of_file)

  -- what is found
  found_in_file : (f : Found) → IsFileFound texts volume entry f → IsFound texts volume failed entry f
  found_in_file found_folder is = absurd is.is_found
  found_in_file (found_file bytes) is = is
  found_in_file (found_both bytes text) is = is
  found_in_file (found_text text) is = is
  found_in_file found_unread is = absurd is.is_found

  pub seen_so : (one : Looked) → IsLooked volume failed entry one → (seen : Seen) → IsSeenBy texts (view_at volume entry) one seen
      → IsSeen texts volume failed entry seen
  seen_so looked.Folder is seen by = record {
    found = subst (IsFound texts volume failed entry) (sym by) is;
    address = λ of_file. absurd (true≢false (sym is ∙ of_file));
  }
  seen_so (looked.Whole whole) is seen by = record {
    found = found_in_file (body_view seen.body) (record { of_file = is.0; whole = whole.items; is_whole = is.1; is_found = by.0 });
    address = λ of_file. inl (whole.items, is.1, by.1);
  }
  seen_so looked.Unreadable is seen by = record {
    found = subst (IsFound texts volume failed entry) (sym by.0) is;
    address = λ of_file. inr (is.1, by.1);
  }

  -- a directory has no readable form, and none stands alone where that is not wanted
  folder_text : (f : Found) → is_folder_at volume entry ≡ true → IsFound texts volume failed entry f → false ≡ is_text f
  folder_text found_folder folder is = refl
  folder_text (found_file bytes) folder is = refl
  folder_text (found_both bytes text) folder is = refl
  folder_text (found_text text) folder is = absurd (true≢false (sym folder ∙ is.of_file))
  folder_text found_unread folder is = refl

  none_alone : (f : Found) → texts ≢ Alone → IsFound texts volume failed entry f → false ≡ is_text f
  none_alone found_folder other is = refl
  none_alone (found_file bytes) other is = refl
  none_alone (found_both bytes text) other is = refl
  none_alone (found_text text) other is = absurd (other is.is_found.0)
  none_alone found_unread other is = refl

-- what the name says of a readable form
module _ (Holds : Type 0) (volume : SeenVolume) (entry : ℕ) where
  pub text_told : (texts : Texts) (failed : ℕ → Type 0) (early : Option Seen) → IsEarly Holds texts volume failed entry early
      → SaysTextBy (are_alone texts) (contents_where Holds (contents_of texts volume failed)) entry (text_seen texts early)
  text_told Without failed early is = refl
  text_told Beside failed early is = refl
  text_told Alone failed None is = (found_folder, λ holds. (a_folder (is_folder_at volume entry) (is_binary volume.form (shown_of volume entry)) is, refl))
  text_told Alone failed (Some seen) is = (body_view seen.body, λ holds. ((is.1 holds).found, refl))

  -- and what is found then
  pub text_agrees : (texts : Texts) (failed failed_now : ℕ → Type 0) (early : Option Seen) (seen : Seen) → IsEarly Holds texts volume failed entry early
      → IsSeenOn early seen → IsSeen texts volume failed_now entry seen → text_seen texts early ≡ is_text (body_view seen.body)
  text_agrees Without failed failed_now early seen is on now =
      none_alone Holds Without volume failed_now entry (body_view seen.body) (λ same. cc) now.found
  text_agrees Beside failed failed_now early seen is on now =
      none_alone Holds Beside volume failed_now entry (body_view seen.body) (λ same. cc) now.found
  text_agrees Alone failed failed_now None seen is on now =
      folder_text Holds Alone volume failed_now entry (body_view seen.body) (a_folder (is_folder_at volume entry) (is_binary volume.form (shown_of volume entry)) is) now.found
  text_agrees Alone failed failed_now (Some early) seen is on now = ap (λ (one : Seen). is_text (body_view one.body)) (sym on)

pub few_keys : (naming : Naming) (items : List Item) (entry : ℕ) → entry ≡ length items → entry + 1 < 2 ^ 32 → length (keys_of naming items) + 1 < 2 ^ 32
few_keys naming items entry same few = omega (arith, same, few, length-map items (key_of naming))

-- what is known of an entry that is named
pub record IsNamedSo (source : Source) (start : DeviceState) (contents : Contents) (items : List Item) (names : Names) (place : Place) (head : Head) (path : List ℕ) (entry : ℕ) : Type 0 where
  pub tail : Tail
  pub is_head : IsHead source.form (source.own (entry_of source.directory entry)) (is_directory (entry_of source.directory entry)) source.naming place tail
      (keys_of source.naming items) names head
  pub is_kind : tail.kind ≡ (shown_of (seen_at source start) entry).kind
  pub has_aux : contents.HasAux entry tail.aux
  pub says_text : SaysText contents entry tail.text
  pub is_path : path ≡ host_below items head.above
      (host_name source.naming (head_entry source.form (source.own (entry_of source.directory entry)) head) head.number)

-- an entry that is named
module _ (source : Source) (start : DeviceState) (contents : Contents) (items : List Item) (names : Names) (place : Place) (head : Head) (path : List ℕ)
    (is_place : IsPlace source.own source.directory items place) (few : length items + 1 < 2 ^ 32)
    (is : IsNamedSo source start contents items names place head path (length items)) where
  abbrev item_with : Found → Item
  item_with found = record {
    above = head.above;
    entry = head_entry source.form (source.own (entry_of source.directory (length items))) head;
    number = head.number;
    depth = head.depth;
    host = path;
    found = found;
  }

  is_above : IsAbove source.own source.directory (length items) head.above
  is_above = subst (IsAbove source.own source.directory (length items)) (sym is.is_head.above) is_place.is_above

  pub is_named : (found : Found) → IsNamed (seen_at source start) source.own contents source.naming items (item_with found)
  is_named found = record {
    above = is_above;
    form = refl;
    name = refl;
    kind = is.is_head.kind ∙ is.is_kind;
    aux = subst (contents.HasAux (length items)) (sym is.is_head.aux) is.has_aux;
    text = subst (SaysText contents (length items)) (sym is.is_head.text) is.says_text;
    folder_or_file = is.is_head.directory;
    fits = is.is_head.fits;
    short = is.is_head.short;
    number = is.is_head.number ∙ ap (λ n. n + 1) (sym (alike_keys source.naming (item_with found) items));
    few = omega (arith, is.is_head.number, few, count_by-le-length (is_key (key_by source.form (source.own (entry_of source.directory (length items))) source.naming head)) (keys_of source.naming items), length-map items (key_of source.naming));
    depth = is.is_head.depth ∙ is_place.depth ∙ ap (depth_below items) (sym is.is_head.above);
    host = is.is_path;
  }

  -- its path is too long
  pub long_path : 1024 < length path → HasLongPath source start contents items
  long_path long = record { item = item_with found_unread; named = is_named found_unread; long = long }

  -- it is ready
  pub has_next : (body : Body) (host : String Global) → path ≡ string_bytes host → length path ≤ 1024
      → contents.HasFound (length items) head.text (body_view body)
      → HasNext source start contents items names (record { head = head; host = host; body = body })
  has_next body host is_host short found = record {
    item = item_with (body_view body);
    is_next = record { named = is_named (body_view body); found = found };
    ready = record {
      kept = record {
        above = refl;
        before = stands_before source.own source.directory (length items) head.above is_above;
        numbered = refl;
        some = omega (arith, is.is_head.number);
        depth = refl;
        shallow = subst (λ n. n ≤ 64) (sym is.is_head.depth) is_place.shallow;
        entry = refl;
        outcome = refl;
        host = is.is_path;
      };
      host = sym is_host;
      short = short;
      body = refl;
    };
    counted = subst (λ keys. AreCounted keys names) (sym (keys_more source.naming items (item_with (body_view body)))) is.is_head.counted;
  }

-- the same of the entry behind some items
module _ (source : Source) (start : DeviceState) (contents : Contents) (items : List Item) (names : Names) (place : Place) (head : Head) (path : List ℕ)
    (is_place : IsPlace source.own source.directory items place) (entry : ℕ) (same : entry ≡ length items) (few : entry + 1 < 2 ^ 32)
    (is : IsNamedSo source start contents items names place head path entry) where
  is_last : IsNamedSo source start contents items names place head path (length items)
  is_last = subst (IsNamedSo source start contents items names place head path) same is

  few_items : length items + 1 < 2 ^ 32
  few_items = omega (arith, few, same)

  pub long_at : 1024 < length path → HasLongPath source start contents items
  long_at = long_path source start contents items names place head path is_place few_items is_last

  pub next_at : (body : Body) (host : String Global) → path ≡ string_bytes host → length path ≤ 1024
      → contents.HasFound entry head.text (body_view body)
      → HasNext source start contents items names (record { head = head; host = host; body = body })
  next_at body host is_host short found =
      has_next source start contents items names place head path is_place few_items is_last body host is_host short
      (subst (λ n. contents.HasFound n head.text (body_view body)) same found)

-- what is told of an entry that was looked at early, and on
module _ (source : Source) (start now : DeviceState) (entry : ℕ) (early : Option Seen)
    (is : IsEarly (IsTrue start.honest) source.texts (seen_at source start) (FailedInFile source.meaning source.directory start now) entry early) where
  pub aux_early : (aux : ℕ) → aux ≡ aux_seen source.form (shown_of (seen_at source start) entry) early → (contents_since source start now).HasAux entry aux
  aux_early aux same = λ honest.
      subst (IsAux (seen_at source start) (FailedInFile source.meaning source.directory start now) entry) (sym same)
      (aux_told (IsTrue start.honest) source.texts (seen_at source start) (FailedInFile source.meaning source.directory start now) entry early is honest)

  pub text_early : (text : Bool) → text ≡ text_seen source.texts early → SaysText (contents_since source start now) entry text
  text_early text same =
      subst (SaysText (contents_since source start now) entry) (sym same)
      (text_told (IsTrue start.honest) (seen_at source start) entry source.texts (FailedInFile source.meaning source.directory start now) early is)

  pub found_on : (last : DeviceState) (seen : Seen) (text : Bool) → text ≡ text_seen source.texts early → IsSeenOn early seen
      → (IsTrue start.honest → IsSeen source.texts (seen_at source start) (FailedInFile source.meaning source.directory start last) entry seen)
      → (contents_since source start last).HasFound entry text (body_view seen.body)
  found_on last seen text same on now_seen = λ honest. (
    (now_seen honest).found,
    same ∙ text_agrees (IsTrue start.honest) (seen_at source start) entry source.texts (FailedInFile source.meaning source.directory start now)
        (FailedInFile source.meaning source.directory start last) early seen is on (now_seen honest),
  )
