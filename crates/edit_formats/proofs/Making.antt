-- Writes that are made one after another, and what stands before each.
use Rattle.std.specs.Prelude.{◌≡◌, ◌<◌, ◌≤◌, ◌+◌, ℕ, List, [], ◌∷◌, ◌++◌, length, take, slice_index_or, Result, Ok, Err, IsTrue, OnOk, if◌then◌else◌}
use Rattle.std.proofs.Common.{refl, sym, ◌∙◌, ap, subst, inr}
use Rattle.std.proofs.lemmas.List.{take_all, take_more}
use Rattle.a2_device.specs.Device.{DeviceState, IsSameDevice, counted, written}
use Rattle.vol_laws.specs.Writes.{Write}
use Rattle.edit_formats.specs.declared.error.EditError.{EditError}
use Rattle.edit_formats.specs.declared.error.EditError.TheVariants.{Device}
use Rattle.edit_formats.specs.Refusal.{told_device}
use Rattle.edit_formats.specs.Writes.{HasEdited, RefusesWrite, device_after, no_write}

device_after_both : (first later : List Write) (device : DeviceState) → device_after (first ++ later) device ≡ device_after later (device_after first device)
device_after_both [] later device = refl
device_after_both (write ∷ first) later device = device_after_both first later (written write.place write.unit device)

-- the error that is told
abbrev told_error : {T : Type 0} → Result T EditError → EditError
told_error (Ok x) = Device
told_error (Err e) = e

-- the first so many of the writes stand
pub record HasMade (writes : List Write) (n : ℕ) (old now : DeviceState) : Type 0 where
  pub same : IsSameDevice old now
  pub faults : now.faults ≡ old.faults
  pub stand : IsTrue old.honest → now ≡ device_after (take n writes) old

pub none_made : (writes : List Write) (device : DeviceState) → HasMade writes 0 device device
none_made writes device = record {
  same = record { places = refl; unit_size = refl; image = refl; honest = refl; unreadable = refl };
  faults = refl;
  stand = λ honest. refl;
}

module _ (writes : List Write) (n : ℕ) (old mid new : DeviceState) (made : HasMade writes n old mid) (below : n < length writes) (same : IsSameDevice mid new) where
  both_same : IsSameDevice old new
  both_same = record {
    places = same.places ∙ made.same.places;
    unit_size = same.unit_size ∙ made.same.unit_size;
    image = same.image ∙ made.same.image;
    honest = same.honest ∙ made.same.honest;
    unreadable = same.unreadable ∙ made.same.unreadable;
  }

  still : IsTrue old.honest → IsTrue mid.honest
  still honest = subst IsTrue (sym made.same.honest) honest

  abbrev next : Write
  next = slice_index_or writes n no_write

  pub one_more : (write : Write) → next ≡ write → new.faults ≡ mid.faults → (IsTrue mid.honest → new ≡ written write.place write.unit mid) → HasMade writes (n + 1) old new
  one_more write is faults stands = record {
    same = both_same;
    faults = faults ∙ made.faults;
    stand = λ honest. stands (still honest) ∙ ap (λ (w : Write). written w.place w.unit mid) (sym is) ∙ ap (written next.place next.unit) (made.stand honest)
        ∙ sym (device_after_both (take n writes) (next ∷ []) old) ∙ ap (λ (l : List Write). device_after l old) (sym (take_more writes n no_write below));
  }

  pub one_refused : {T : Type 0} (result : Result T EditError) (write : Write) → next ≡ write → result ≡ Err Device → new.faults ≡ counted mid.faults
      → (IsTrue mid.honest → RefusesWrite write mid new) → HasEdited (λ (made : List Write). made ≡ writes) result old new
  one_refused {T} result write next_is is faults refused = record {
    same = both_same;
    faults = faults ∙ ap counted made.faults ∙ sym (ap (λ (r : Result T EditError). if told_device r then counted old.faults else old.faults) is);
    done = λ honest. subst (λ (r : Result T EditError). OnOk r ((made : List Write) × (made ≡ writes) × (new ≡ device_after made old))) (sym is) tt;
    stopped = λ honest told. inr (
      writes,
      refl,
      record {
        made = n;
        below = below;
        refused = subst (λ (d : DeviceState). RefusesWrite next d new) (made.stand honest) (subst (λ (w : Write). RefusesWrite w mid new) (sym next_is) (refused (still honest)));
      },
    );
    refused = λ honest error told differs. absurd (differs (ap told_error (sym told ∙ is)));
  }

pub all_made : {T : Type 0} (writes : List Write) (n : ℕ) (old new : DeviceState) (value : T) → HasMade writes n old new → length writes ≤ n
    → HasEdited (λ (made : List Write). made ≡ writes) (Ok value) old new
all_made writes n old new value made all = record {
  same = made.same;
  faults = made.faults;
  done = λ honest. (writes, refl, made.stand honest ∙ ap (λ (l : List Write). device_after l old) (take_all n writes all));
  stopped = λ honest told. absurd (cc);
  refused = λ honest error told differs. absurd (cc);
}
