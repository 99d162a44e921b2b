-- The items of a batch, by their numbers.
use Rattle.std.proofs.Common.{◌≡◌, ◌≢◌, ◌∙◌, ◌+◌, ◌<◌, ◌≤◌, ℕ, List, refl, sym, ap, subst, arith, inl, inr, length, take, take_all}
use Rattle.std.specs.Prelude.{IfSome, IsTrue, Option, drop, map, slice_index_or, suc}
use Rattle.std.proofs.lemmas.List.{get_or-map, length-take, take_more}
use Rattle.std.proofs.Math.Seq.{split_at}
use Rattle.a2_device.specs.Device.{DeviceState, IsSameDevice, counted}
use Rattle.folder_adding.specs.Added.{AreAdded, HasAdded, IsItemAdded, IsNewFileOutcome}
use Rattle.folder_adding.specs.Items.{BatchView, ItemView, file_at, item_view, new_file, new_files, said_by}
use Rattle.folder_adding.specs.Reads.{AreGivenBack, IsItemRead, IsItemUnread, IsUnlike, IsUnread, TellsUnlike}
use Rattle.folder_adding.specs.Refused.{CountsFailure, HasRefused, IsItemRefused}
use Rattle.folder_adding.specs.Steps.{IsAddedAt, IsRefusedAt, item_at, no_item}
use Rattle.folder_adding.specs.declared.adding.Refused.{Refused}
use Rattle.folder_adding.specs.declared.item.Item.{Item}
use Rattle.folder_adding.specs.declared.item.Second.{Second}
use Rattle.file_forms.specs.declared.form.FileForm.{FileForm}
use Rattle.shop_jobs.specs.declared.input.FileSystem.{FileSystem}
use Rattle.folder_adding.proofs.Chain.{added_quiet, item_volume, known_alike, known_stored, one_more}
use Rattle.folder_adding.proofs.Outcomes.{memory_quiet, refused_quiet, said_counts, said_kept}
use Rattle.folder_adding.proofs.Same.{same_on}
use Rattle.edit_formats.specs.Saves.{SaveMeaning}
use Rattle.shop_changes.specs.SaidFile.{IsSaidOutcome, SaidView}
use Rattle.shop_changes.specs.declared.outcome.Outcome.{Outcome}
use Rattle.shop_changes.specs.declared.outcome.Outcome.TheVariants.{Changed, Unfinished}
use Rattle.shop_replies.specs.declared.refusal.Failure.{Failure}
use Rattle.shop_replies.specs.declared.refusal.Failure.TheVariants.{Device, Input, Memory}
use Rattle.shop_replies.specs.declared.refusal.Refusal.TheVariants as refusals
use Rattle.shop_replies.specs.declared.reply.Reply.{Reply}
use Rattle.shop_replies.specs.declared.reply.Told.TheVariants as Told
use Rattle.shop_replies.specs.Reading.{IsReadFailure}
use Rattle.shop_replies.specs.Reply.{failed}
use Rattle.vol_format.specs.Accepted.{IsVolume}
use Rattle.vol_format.specs.Meaning.{Meaning}

long_enough : (items : List ItemView) (number : ℕ) → number < length items → length (take number items) ≡ number
long_enough items number inside = omega (arith, length-take number items)

unread_quiet : (failure : Failure) (reply : Reply) → IsReadFailure failure → reply ≡ failed failure → reply ≢ failed Device
unread_quiet failure reply is told device = elim is [
  | inl input ↦ let e : Told.Failure Input ≡ Told.Failure Device = ap (λ (r : Reply). r.told) (ap failed (sym input) ∙ sym told ∙ device) in cc
  | inr memory ↦ let e : Told.Failure Memory ≡ Told.Failure Device = ap (λ (r : Reply). r.told) (ap failed (sym memory) ∙ sym told ∙ device) in cc
]

file_quiet : {H : Type 0} (may_fail : H → ℕ → Failure → Type 0) (file : ℕ) (reply : Reply) → IsUnread may_fail file reply → reply ≢ failed Device
file_quiet may_fail file reply unread = unread_quiet unread.failure reply unread.is unread.told

tells_quiet : (file_system : FileSystem) (form : FileForm) (bytes given : List ℕ) (reply : Reply) → TellsUnlike file_system form bytes given reply → reply ≢ failed Device
tells_quiet file_system form bytes given reply tells = elim tells [
  | inl long ↦ refused_quiet refusals.InputTooLong reply long.0
  | inr (inl differs) ↦ refused_quiet refusals.Differs reply differs.0
  | inr (inr memory) ↦ memory_quiet reply memory.0
]

unlike_quiet : {H : Type 0} (may_fail : H → ℕ → Failure → Type 0) (file_system : FileSystem) (holds : Option (ℕ → List ℕ)) (bytes : List ℕ) (second : Second) (reply : Reply)
    → IsUnlike may_fail file_system holds bytes second reply → reply ≢ failed Device
unlike_quiet may_fail file_system holds bytes second reply unlike = elim unlike [
  | inl unread ↦ file_quiet may_fail second.file reply unread
  | inr read ↦ tells_quiet file_system second.form bytes read.0 reply read.2
]

-- no failure of the device is told of what was not read
item_quiet : {H : Type 0} (may_fail : H → ℕ → Failure → Type 0) (file_system : FileSystem) (holds : Option (ℕ → List ℕ)) (file : ℕ) (item : ItemView) (told : ℕ) (reply : Reply)
    → IsItemUnread may_fail file_system holds file item told reply → reply ≢ failed Device
item_quiet may_fail file_system holds file item told reply unread = elim unread [
  | inl own ↦ file_quiet may_fail file reply own.1
  | inr has ↦ unlike_quiet may_fail file_system holds has.bytes has.second reply has.unlike
]

-- what is seen of the item that stands there among the items
pub seen : (items : List Item) (number : ℕ) (default : Item) → number < length items → item_at (map item_view items) number ≡ item_view (slice_index_or items number default)
seen items number default inside = get_or-map item_view items number default no_item inside

-- what became of an item of which these bytes were read
module _ (batch : BatchView) (holds : Option (ℕ → List ℕ)) (saves : SaveMeaning) (format : Meaning) (number : ℕ) (item : ItemView) (old new : DeviceState)
    (path bytes : List ℕ) (said : SaidView) (here : item_at batch.items number ≡ item) (is_path : path ≡ item.path) (is_said : said ≡ said_by batch item bytes)
    (file : ℕ) (file_is : file ≡ file_at batch number) (read : IsItemRead batch.file_system holds file item bytes) where
  said_of : (outcome : Outcome) → IsSaidOutcome path said saves format old new outcome → IsNewFileOutcome saves format (new_file batch item bytes) old new outcome
  said_of outcome is =
      subst (λ (s : SaidView). IsSaidOutcome item.path s saves format old new outcome) is_said
      (subst (λ (p : List ℕ). IsSaidOutcome p said saves format old new outcome) is_path is)

  pub was_added : IsSaidOutcome path said saves format old new Changed → IsAddedAt batch holds saves format number old new
  was_added is =
      subst (λ (i : ItemView). IsItemAdded batch holds saves format (file_at batch number) i old new) (sym here)
      (subst (λ (f : ℕ). IsItemAdded batch holds saves format f item old new) file_is
      (record { bytes = bytes; read = read; saved = said_of Changed is }))

  pub was_unsaved : {H : Type 0} (may_fail : H → ℕ → Failure → Type 0) (reply : Reply) → IsSaidOutcome path said saves format old new (Unfinished reply)
      → IsRefusedAt may_fail batch holds saves format number old new file reply
  was_unsaved may_fail reply is =
      subst (λ (i : ItemView). IsItemRefused may_fail batch holds saves format (file_at batch number) i old new file reply) (sym here)
      (subst (λ (f : ℕ). IsItemRefused may_fail batch holds saves format f item old new file reply) file_is
      (inr (record { bytes = bytes; read = read; of = refl; unsaved = said_of (Unfinished reply) is })))

-- an item was not read, and nothing was done to the device
pub was_unread : {H : Type 0} (may_fail : H → ℕ → Failure → Type 0) (batch : BatchView) (holds : Option (ℕ → List ℕ)) (saves : SaveMeaning) (format : Meaning) (number : ℕ) (item : ItemView)
    (device : DeviceState) (file told : ℕ) (reply : Reply) → item_at batch.items number ≡ item → file ≡ file_at batch number
    → IsItemUnread may_fail batch.file_system holds file item told reply → IsRefusedAt may_fail batch holds saves format number device device told reply
was_unread may_fail batch holds saves format number item device file told reply here file_is unread =
    subst (λ (i : ItemView). IsItemRefused may_fail batch holds saves format (file_at batch number) i device device told reply) (sym here)
    (subst (λ (f : ℕ). IsItemRefused may_fail batch holds saves format f item device device told reply) file_is (inl (unread, refl)))

-- The first so many items were saved, and the files hold what they held.
pub record AreAddedTo (batch : BatchView) (holds now : Option (ℕ → List ℕ)) (saves : SaveMeaning) (format : Meaning) (number : ℕ) (old new : DeviceState) : Type 0 where
  pub files : now ≡ holds
  pub same : IsSameDevice old new
  pub added : AreAdded batch holds saves format 0 (take number batch.items) old new

pub none_added : (batch : BatchView) (holds : Option (ℕ → List ℕ)) (saves : SaveMeaning) (format : Meaning) (device : DeviceState) → AreAddedTo batch holds holds saves format 0 device device
none_added batch holds saves format device = record {
  files = refl;
  same = record { places = refl; unit_size = refl; image = refl; honest = refl; unreadable = refl };
  added = refl;
}

module _ {H : Type 0} (may_fail : H → ℕ → Failure → Type 0) (batch : BatchView) (holds : Option (ℕ → List ℕ)) (saves : SaveMeaning) (format : Meaning) where
  -- one more of the first items was saved
  pub more_added : (number : ℕ) (old mid new : DeviceState) → number < length batch.items → AreAdded batch holds saves format 0 (take number batch.items) old mid
      → IsAddedAt batch holds saves format number mid new → AreAdded batch holds saves format 0 (take (number + 1) batch.items) old new
  more_added number old mid new inside added last =
      subst (λ (items : List ItemView). AreAdded batch holds saves format 0 items old new) (sym (take_more batch.items number no_item inside))
      (one_more batch saves format holds 0 (take number batch.items) (item_at batch.items number) old mid new added
      (subst (λ (n : ℕ). IsItemAdded batch holds saves format (file_at batch n) (item_at batch.items number) mid new) (omega (arith, long_enough batch.items number inside)) last))

  item_kept : (file : ℕ) (item : ItemView) (old new : DeviceState) (told : ℕ) (reply : Reply) → IsItemRefused may_fail batch holds saves format file item old new told reply
      → IsTrue old.honest → reply ≢ failed Device → new ≡ old
  item_kept file item old new told reply refusal honest quiet = elim refusal [
    | inl unread ↦ unread.1
    | inr unsaved ↦ said_kept item.path (said_by batch item unsaved.bytes) saves format old new reply unsaved.unsaved honest quiet
  ]

  item_counts : (file : ℕ) (item : ItemView) (old new : DeviceState) (told : ℕ) (reply : Reply) → IsItemRefused may_fail batch holds saves format file item old new told reply
      → CountsFailure reply old new
  item_counts file item old new told reply refusal = elim refusal [
    | inl unread ↦ inr (item_quiet may_fail batch.file_system holds file item told reply unread.0, ap (λ (d : DeviceState). d.faults) unread.1)
    | inr unsaved ↦ said_counts item.path (said_by batch item unsaved.bytes) saves format old new reply unsaved.unsaved
  ]

  module _ (old mid new : DeviceState) (refused : Refused) (same : IsSameDevice old mid) (inside : refused.item < length batch.items)
      (added : AreAdded batch holds saves format 0 (take refused.item batch.items) old mid) (refusal : IsRefusedAt may_fail batch holds saves format refused.item mid new refused.file refused.reply) where
    -- the one behind the first items was not saved
    pub was_refused : HasRefused may_fail batch holds saves format old new refused
    was_refused =
        let items = batch.items in
        let number = refused.item in
        record {
          before = take number items;
          item = item_at items number;
          behind = drop (suc number) items;
          all = split_at items number no_item inside;
          number = sym (long_enough items number inside);
          mid = mid;
          added = added;
          refusal = subst (λ (n : ℕ). IsItemRefused may_fail batch holds saves format (file_at batch n) (item_at items number) mid new refused.file refused.reply)
              (sym (long_enough items number inside)) refusal;
          volume = λ honest. known_stored batch saves format holds (take number items) old mid honest added;
          kept = λ honest quiet. item_kept (file_at batch number) (item_at items number) mid new refused.file refused.reply refusal (subst IsTrue (sym same.honest) honest) quiet;
        }

    pub was_counted : CountsFailure refused.reply old new
    was_counted =
        let before = added_quiet batch saves format holds 0 (take refused.item batch.items) old mid added in
        elim (item_counts (file_at batch refused.item) (item_at batch.items refused.item) mid new refused.file refused.reply refusal) [
          | inl device ↦ inl (device.0, device.1 ∙ ap counted before)
          | inr quiet ↦ inr (quiet.0, quiet.1 ∙ before)
        ]

-- ---- what the loop keeps, and what it ends with

module _ {H : Type 0} (may_fail : H → ℕ → Failure → Type 0) (batch : BatchView) (holds now : Option (ℕ → List ℕ)) (saves : SaveMeaning) (format : Meaning) (number : ℕ) (old mid : DeviceState)
    (so_far : AreAddedTo batch holds now saves format number old mid) where
  module _ (inside : number < length batch.items) (new : DeviceState) where
    pub went_on : (after : Option (ℕ → List ℕ)) → after ≡ now → IsSameDevice mid new → IsAddedAt batch now saves format number mid new → AreAddedTo batch holds after saves format (number + 1) old new
    went_on after kept same last = record {
      files = kept ∙ so_far.files;
      same = same_on old mid new so_far.same same;
      added = more_added may_fail batch holds saves format number old mid new inside so_far.added
          (subst (λ (held : Option (ℕ → List ℕ)). IsAddedAt batch held saves format number mid new) so_far.files last);
    }

    -- and the volume is accepted
    pub accepted_on : IsAddedAt batch now saves format number mid new → IsTrue old.honest → IsVolume format new.store
    accepted_on last honest = item_volume batch saves format now (file_at batch number) (item_at batch.items number) mid new (subst IsTrue (sym so_far.same.honest) honest) last

    module _ (told : ℕ) (reply : Reply) (refusal : IsRefusedAt may_fail batch now saves format number mid new told reply) where
      refused_so : IsRefusedAt may_fail batch holds saves format number mid new told reply
      refused_so = subst (λ (held : Option (ℕ → List ℕ)). IsRefusedAt may_fail batch held saves format number mid new told reply) so_far.files refusal

      pub stopped_at : HasRefused may_fail batch holds saves format old new (record { item = number; file = told; reply = reply })
      stopped_at = was_refused may_fail batch holds saves format old mid new (record { item = number; file = told; reply = reply }) so_far.same inside so_far.added refused_so

      pub counted_at : CountsFailure reply old new
      counted_at = was_counted may_fail batch holds saves format old mid new (record { item = number; file = told; reply = reply }) so_far.same inside so_far.added refused_so

  module _ (all : length batch.items ≤ number) where
    pub all_added : AreAdded batch holds saves format 0 batch.items old mid
    all_added = subst (λ (items : List ItemView). AreAdded batch holds saves format 0 items old mid) (take_all number batch.items all) so_far.added

    pub all_quiet : mid.faults ≡ old.faults
    all_quiet = added_quiet batch saves format holds 0 batch.items old mid all_added

    pub all_stored : IsTrue old.honest → IfSome holds (λ contents. HasAdded saves format (new_files batch contents 0 batch.items) old.store mid.store)
    all_stored honest = known_stored batch saves format holds batch.items old mid honest all_added

    pub all_alike : IfSome holds (λ contents. AreGivenBack batch contents)
    all_alike = known_alike batch saves format holds old mid all_added
