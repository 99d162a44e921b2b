-- One more item is made, or why it isn't.
use Rattle.std.proofs.Common.{◌≡◌, ◌<◌, ◌≤◌, ◌+◌, ◌∙◌, ℕ, List, [], ◌∷◌, ◌++◌, length, sym, ap, subst, string_bytes}
use Rattle.std.specs.Prelude.{IsTrue}
use Rattle.std.specs.List.{All}
use Rattle.std.proofs.lemmas.List.Elements.{All-push}
use Rattle.a2_device.specs.Device.{DeviceState}
use Rattle.vol_format.specs.Directory.{entries}
use Rattle.file_cmds.specs.ReadingOn.{ReadsOn}
use Rattle.file_cmds.specs.lemmas.Reading.{read_twice}
use Rattle.host_folders.specs.Folder.{FolderState}
use Rattle.host_folders.specs.HostNames.{text_beside}
use Rattle.host_folders.specs.Path.{IsSafePath}
use Rattle.host_folders.specs.declared.folder.FolderFailure.{FolderFailure}
use Rattle.volume_extract.specs.ExtractText.{outcome_of, totals_of, totals_with}
use Rattle.volume_extract.specs.Extraction.{AreMade, IsStopped}
use Rattle.volume_extract.specs.Items.{Contents, Found, Item, bytes_found, bytes_in, bytes_of, made_by, made_of, one_more}
use Rattle.volume_extract.specs.Kept.{AreKept}
use Rattle.volume_extract.specs.Looked.{body_view}
use Rattle.volume_extract.specs.Made.{HasFailedCall, IsHalfMade, after_item, after_items, after_made}
use Rattle.volume_extract.specs.Progress.{HasNext, HasNoNext, HasOneMore, IsExtracting, IsNotTaken, IsTaken, kept_of}
use Rattle.volume_extract.specs.Source.{Source, contents_since, seen_at}
use Rattle.volume_extract.specs.declared.error.ExtractError.{ExtractError}
use Rattle.volume_extract.specs.declared.error.ExtractError.TheVariants.{Check, Device, Folder, Memory, TooDeep, TooLarge}
use Rattle.volume_extract.specs.declared.items.Next.{Next}
use Rattle.volume_extract.specs.declared.kept.Kept.{Kept}
use Rattle.volume_extract.specs.declared.names.Names.{Names}
use Rattle.volume_extract.specs.declared.totals.Totals.{Totals}
use Rattle.volume_extract.proofs.Counted.{bytes_more, made_more, totals_more}
use Rattle.volume_extract.proofs.Growing.{kept_more}
use Rattle.volume_extract.proofs.SafeHosts.{safe_next, safe_text_next}
use Rattle.volume_extract.proofs.Wider.{items_later}

all_more : (P : Item → Type 0) (items : List Item) (item : Item) → All P items → P item → All P (items ++ item ∷ [])
all_more P items item all is = All-push P items item all is

module _ (source : Source) (most : ℕ) (start now later : DeviceState) (before folder : FolderState) (items : List Item) (kept : List Kept) (totals : Totals)
    (names names_now : Names) (old : IsExtracting source most start now before folder items kept totals names) (next : Next)
    (has : HasNext source start (contents_since source start later) items names_now next) where
  pub safe_host : IsSafePath (string_bytes next.host)
  safe_host = subst IsSafePath (sym has.ready.host)
      (safe_next (seen_at source start) source.own (contents_since source start later) source.naming items has.item old.safe has.is_next.named)

  pub safe_text : IsSafePath (text_beside (string_bytes next.host))
  safe_text = subst (λ (host : List ℕ). IsSafePath (text_beside host)) (sym has.ready.host)
      (safe_text_next (seen_at source start) source.own (contents_since source start later) source.naming items has.item old.safe has.is_next.named)

  same_bytes : totals.bytes + bytes_found (body_view next.body) ≡ bytes_in items + bytes_of has.item
  same_bytes = ap (λ (t : Totals). t.bytes + bytes_found (body_view next.body)) old.counts ∙ ap (λ (f : Found). bytes_in items + bytes_found f) has.ready.body

  -- it is made
  pub made_one : ReadsOn now later → length items < entries source.directory → (kept_now : List Kept) (totals_now : Totals) (folder_now : FolderState)
      → IsTaken most next kept kept_now totals totals_now folder folder_now → folder_now.honest ≡ folder.honest
      → HasOneMore source most start later before folder_now items kept_now totals_now names_now
  made_one reads inside kept_now totals_now folder_now taken same = (
    has.item,
    record {
      reads = read_twice start now later old.reads reads;
      are_items = one_more items has.item (items_later source start now later reads items old.are_items) has.is_next;
      are_kept = subst (AreKept source.form source.own source.directory source.naming (items ++ has.item ∷ [])) (sym taken.kept)
          (kept_more source.form source.own source.directory source.naming items has.item kept (kept_of next) old.are_kept inside has.ready.kept);
      counts = taken.counts
          ∙ ap (λ (t : Totals). totals_with t (outcome_of (body_view next.body)) (totals.bytes + bytes_found (body_view next.body))) old.counts
          ∙ ap (λ (f : Found). totals_with (totals_of items) (outcome_of f) (totals.bytes + bytes_found (body_view next.body))) has.ready.body
          ∙ ap (totals_with (totals_of items) (outcome_of has.item.found)) same_bytes
          ∙ sym (totals_more items has.item);
      counted = has.counted;
      safe = all_more (λ (one : Item). IsSafePath one.host) items has.item old.safe (subst IsSafePath has.ready.host safe_host);
      within = record {
        shallow = all_more (λ (one : Item). one.depth ≤ 64) items has.item old.within.shallow
            (subst (λ n. n ≤ 64) has.ready.kept.depth has.ready.kept.shallow);
        short = all_more (λ (one : Item). length one.host ≤ 1024) items has.item old.within.short has.ready.short;
        few = subst (λ n. n ≤ most) (same_bytes ∙ sym (bytes_more items has.item)) taken.few;
      };
      honest = same ∙ old.honest;
      made = λ honest.
          taken.made (subst IsTrue (sym old.honest) honest)
          ∙ ap (λ (host : List ℕ). after_item host (body_view next.body) folder) has.ready.host
          ∙ ap (λ (f : Found). after_item has.item.host f folder) has.ready.body
          ∙ ap (after_item has.item.host has.item.found) (old.made honest)
          ∙ made_more items has.item before;
    },
  )

  -- it isn't
  module _ {O : Type 0} (state : O → FolderState) (may_fail : O → FolderFailure → Type 0) (at : O) (is_state : state at ≡ folder) where
    still_made : (folder_now : FolderState) → folder_now ≡ state at → AreMade before folder_now items
    still_made folder_now is = λ honest. is ∙ is_state ∙ old.made honest

    -- a call that failed, seen from the items that were made
    failed_here : (folder_now : FolderState) (failure : FolderFailure)
        → HasFailedCall state may_fail (made_of has.item) (state at) folder_now failure
        → HasFailedCall state may_fail (made_of has.item) (after_items items before) folder_now failure
    failed_here folder_now failure is =
        let honest_here : IsTrue before.honest → IsTrue (state at).honest =
        subst IsTrue (sym (ap (λ (f : FolderState). f.honest) is_state ∙ old.honest)) in
        let same : IsTrue before.honest → state at ≡ after_items items before = λ honest. is_state ∙ old.made honest in
        record {
          first = is.first;
          next = is.next;
          rest = is.rest;
          is = is.is;
          at = is.at;
          before = λ honest. is.before (honest_here honest) ∙ ap (after_made is.first) (same honest);
          failed = is.failed;
          half_made = λ honest.
              subst (λ (f : FolderState). IsHalfMade is.next (after_made is.first f) folder_now) (same honest) (is.half_made (honest_here honest));
        }

    pub not_made : (folder_now : FolderState) (error : ExtractError) → IsNotTaken state may_fail most next totals at folder_now error
        → IsStopped state may_fail source most start (contents_since source start later) before folder_now items error
    not_made folder_now TooLarge is =
        (record { item = has.item; next = has.is_next; large = subst (λ n. most < n) same_bytes is.0 }, still_made folder_now is.1)
    not_made folder_now (Folder failure) is = record {
      item = has.item;
      next = has.is_next;
      failed = failed_here folder_now failure
          (subst (λ (f : Found). HasFailedCall state may_fail (made_by has.item.host f) (state at) folder_now failure) has.ready.body
          (subst (λ (host : List ℕ). HasFailedCall state may_fail (made_by host (body_view next.body)) (state at) folder_now failure) has.ready.host is));
    }
    not_made folder_now Memory is = still_made folder_now is
    not_made folder_now TooDeep is = absurd is
    not_made folder_now Check is = absurd is
    not_made folder_now Device is = absurd is

-- no item is ready
pub stopped_before : {O : Type 0} (state : O → FolderState) (may_fail : O → FolderFailure → Type 0) (source : Source) (most : ℕ) (start : DeviceState) (contents : Contents)
    (before folder : FolderState) (items : List Item) (error : ExtractError) → AreMade before folder items → HasNoNext source start contents items error
    → IsStopped state may_fail source most start contents before folder items error
stopped_before state may_fail source most start contents before folder items TooDeep made is = (is, made)
stopped_before state may_fail source most start contents before folder items Memory made is = made
stopped_before state may_fail source most start contents before folder items TooLarge made is = absurd is
stopped_before state may_fail source most start contents before folder items (Folder failure) made is = absurd is
stopped_before state may_fail source most start contents before folder items Check made is = absurd is
stopped_before state may_fail source most start contents before folder items Device made is = absurd is
