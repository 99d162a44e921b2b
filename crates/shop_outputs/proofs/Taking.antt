-- How a file aside takes its place.
use Rattle.std.proofs.Common.{◌≡◌, ◌≢◌, ◌∙◌, ◌⊎◌, ℕ, Bool, true, false, List, [], ◌∷◌, Option, None, IsTrue, bytes_eq, sym, ap, subst, inl, inr, ⊎_elim, refl}
use Rattle.std.specs.Prelude.{Result, Ok, Err, OnOk, OnErr}
use Rattle.std.specs.declared.io.Error.{Error}
use Rattle.std.specs.List.{AllByRecursion}
use Rattle.std.proofs.lemmas.Slice.Eq.{bytes_eq-Decides}
use Rattle.shop_host.specs.State.{Content, Files, HostState, IsNoted, IsQuiet, IsSameBut, Path, unflushed, whole}
use Rattle.shop_host.specs.Calls.{Links, Makes, Removes, Renames}
use Rattle.shop_host.specs.Runs.{IsKeptBut, IsRun, May}
use Rattle.shop_host.specs.lemmas.Runs.{kept_but, kept_same, run_noted, run_quiet, run_then, run_wider}
use Rattle.shop_outputs.specs.declared.aside.Placing.{Placing}
use Rattle.shop_outputs.specs.declared.aside.Placing.TheVariants.{Free, Over}
use Rattle.shop_outputs.specs.Asides.{IsTakenBack, TakesPlace, may_at, may_empty, may_give}

-- what stands at this path, where two may have changed
split_two : (may : May) (one other path : Path) (old files : Files) (is_one is_other : Bool) → bytes_eq path one ≡ is_one
    → bytes_eq path other ≡ is_other
    → ((path : Path) → path ≢ one → path ≢ other → files path ≡ old path) → may one (files one) → may other (files other)
    → (files path ≡ old path) ⊎ may path (files path)
split_two may one other path old files true is_other e f same first second =
    inr (subst (λ p. may p (files p)) (sym ((bytes_eq-Decides path one).0 e)) first)
split_two may one other path old files false true e f same first second =
    inr (subst (λ p. may p (files p)) (sym ((bytes_eq-Decides path other).0 f)) second)
split_two may one other path old files false false e f same first second =
    inl (same path (λ is. let both : true ≡ false = sym ((bytes_eq-Decides path one).1 is) ∙ e in cc)
    (λ is. let both : true ≡ false = sym ((bytes_eq-Decides path other).1 is) ∙ f in cc))

-- what is the same but at two paths, at which what stands may stand
pub kept_two : (may : May) (one other : Path) (old files : Files)
    → ((path : Path) → path ≢ one → path ≢ other → files path ≡ old path) → may one (files one) → may other (files other)
    → IsKeptBut may old files
kept_two may one other old files same first second = λ path.
    split_two may one other path old files (bytes_eq path one) (bytes_eq path other) refl refl same first second

-- after a call that changed nothing the same stands
pub quiet_files : (old new : HostState) → IsQuiet old new → new.files ≡ old.files
quiet_files old new quiet = ap (λ (h : HostState). h.files) quiet.same

pub quiet_honest : (old new : HostState) → IsTrue old.honest → IsQuiet old new → IsTrue new.honest
quiet_honest old new honest quiet = subst IsTrue (sym (ap (λ (h : HostState). h.honest) quiet.same)) honest

-- a renaming
pub run_rename : {T : Type 0} (placing : Placing) (aside place : Path) (bytes : List ℕ) (result : Result T Error)
    (old new : HostState) → old.files aside ≡ whole bytes → Renames aside place result old new
    → IsRun (may_give placing aside place bytes) old new
run_rename placing aside place bytes (Ok value) old new stands is =
    let (moved, gone, same) = is.done (record { bytes = bytes; on_disk = true }) stands in
    run_noted (may_give placing aside place bytes) old new is.noted
    (kept_two (may_give placing aside place bytes) aside place old.files new.files same (inl refl) (inr (refl, inl moved)))
run_rename placing aside place bytes (Err error) old new stands is =
    run_noted (may_give placing aside place bytes) old new is.noted
    (kept_same (may_give placing aside place bytes) old.files new.files is.refused.0)

pub stands_rename : {T : Type 0} (aside place : Path) (bytes : List ℕ) (result : Result T Error) (old new : HostState)
    → old.files aside ≡ whole bytes → Renames aside place result old new
    → OnOk result (new.files place ≡ whole bytes) × OnErr result (new.files place ≡ old.files place)
stands_rename aside place bytes (Ok value) old new stands is = ((is.done (record { bytes = bytes; on_disk = true }) stands).0, tt)
stands_rename aside place bytes (Err error) old new stands is = (tt, ap (λ (f : Files). f place) is.refused.0)

-- a second name
pub run_link : {T : Type 0} (placing : Placing) (aside place : Path) (bytes : List ℕ) (result : Result T Error)
    (old new : HostState) → old.files aside ≡ whole bytes → Links aside place result old new
    → IsRun (may_give placing aside place bytes) old new
run_link placing aside place bytes (Ok value) old new stands is =
    let (free, second, same) = is.done in
    run_noted (may_give placing aside place bytes) old new is.noted
    (kept_but (may_give placing aside place bytes) place old.files new.files same (inr (refl, inl (second ∙ stands))))
run_link placing aside place bytes (Err error) old new stands is =
    run_noted (may_give placing aside place bytes) old new is.noted
    (kept_same (may_give placing aside place bytes) old.files new.files is.refused.0)

-- what a file aside may leave may come to stand where it takes its place too
pub aside_gives : (placing : Placing) (aside place : Path) (bytes : List ℕ) (old new : HostState)
    → IsRun (may_at aside) old new → IsRun (may_give placing aside place bytes) old new
aside_gives placing aside place bytes old new run =
    run_wider (may_at aside) (may_give placing aside place bytes) old new (λ path content is. inl is) run

-- an empty file was made at a place
pub run_made : {F : Type 0} (at : F → Path) (aside place : Path) (bytes : List ℕ) (file : F) (old new : HostState)
    → IsNoted old new → IsSameBut place old.files new.files → new.files place ≡ unflushed []
    → IsRun (may_give Free aside place bytes) old new
run_made at aside place bytes file old new noted same made =
    run_noted (may_give Free aside place bytes) old new noted
    (kept_but (may_give Free aside place bytes) place old.files new.files same (inr (refl, inr (refl, made))))

-- an empty file was taken away again, or it was not
pub taken_back : {T : Type 0} (place : Path) (result : Result T Error) (old between new : HostState) → IsTrue old.honest
    → IsQuiet old between → old.files place ≡ unflushed [] → (IsTrue between.honest → Removes place result between new)
    → IsTakenBack place old new
taken_back place (Ok value) old between new honest quiet stands is =
    let removed = is (quiet_honest old between honest quiet) in
    record {
      run = run_then (may_empty place) old between new (run_quiet (may_empty place) old between honest quiet)
          (run_noted (may_empty place) between new removed.noted
          (kept_but (may_empty place) place between.files new.files removed.done.1 (refl, inl removed.done.0)));
      stands = inl removed.done.0;
    }
taken_back place (Err error) old between new honest quiet stands is =
    let removed = is (quiet_honest old between honest quiet) in
    record {
      run = run_then (may_empty place) old between new (run_quiet (may_empty place) old between honest quiet)
          (run_noted (may_empty place) between new removed.noted
          (kept_same (may_empty place) between.files new.files removed.refused.0));
      stands = inr (ap (λ (f : Files). f place) (removed.refused.0 ∙ quiet_files old between quiet) ∙ stands);
    }

-- it was not looked at, or is left
pub left_back : (place : Path) (old new : HostState) → IsTrue old.honest → IsQuiet old new
    → old.files place ≡ unflushed [] → IsTakenBack place old new
left_back place old new honest quiet stands = record {
  run = run_quiet (may_empty place) old new honest quiet;
  stands = inr (ap (λ (f : Files). f place) (quiet_files old new quiet) ∙ stands);
}

-- after each of these calls the files are as is said, since they are as was said
each_by : (P Q : Files → Type 0) (since : List Files) → ((files : Files) → P files → Q files) → AllByRecursion P since
    → AllByRecursion Q since
each_by P Q [] by each = tt
each_by P Q (files ∷ since) by each = (by files each.0, each_by P Q since by each.1)

-- a run, and then one in which what comes to stand is what stood at the start, or may stand
pub run_by : (more may : May) (start old new : HostState)
    → ((path : Path) (content : Option Content) → more path content → (content ≡ start.files path) ⊎ may path content)
    → IsRun may start old → IsRun more old new → IsRun may start new
run_by more may start old new by first then =
    let wide : May = λ path content. may path content ⊎ (content ≡ start.files path) in
    let back : (files : Files) → IsKeptBut wide start.files files → IsKeptBut may start.files files = λ files kept path.
    ⊎_elim (λ same. inl same) (λ is. ⊎_elim (λ new. inr new) (λ same. inl same) is) (kept path) in
    let both : IsRun wide start new = run_then wide start old new
    (run_wider may wide start old (λ path content is. inl is) first)
    (run_wider more wide old new (λ path content is. ⊎_elim (λ same. inr same) (λ new. inl new) (by path content is)) then) in
    record {
      honest = both.honest;
      leads = both.leads;
      since = both.since;
      noted = both.noted;
      each = each_by (IsKeptBut wide start.files) (IsKeptBut may start.files) both.since back both.each;
      files = back new.files both.files;
      refused = both.refused;
    }

-- A run that only takes an empty file back, from a start at which nothing stood there: what it leaves is what stood there,
-- or that file.
pub run_back : (aside place : Path) (bytes : List ℕ) (start old new : HostState)
    → IsRun (may_give Free aside place bytes) start old → start.files place ≡ None → IsTakenBack place old new
    → IsRun (may_give Free aside place bytes) start new
run_back aside place bytes start old new run free back =
    run_by (may_empty place) (may_give Free aside place bytes) start old new
    (λ path content is. ⊎_elim (λ none. inl (none ∙ sym (ap start.files is.0 ∙ free))) (λ empty. inr (inr (is.0, inr (refl, empty)))) is.1)
    run back.run

-- a renaming over whatever stands there
pub over_takes : {T : Type 0} (aside place : Path) (bytes : List ℕ) (result : Result T Error) (old new : HostState)
    → old.files aside ≡ whole bytes → Renames aside place result old new → TakesPlace Over aside place bytes result old new
over_takes aside place bytes (Ok value) old new stands is = record {
  run = run_rename Over aside place bytes (Ok value) old new stands is;
  done = ((stands_rename aside place bytes (Ok value) old new stands is).0, λ other. absurd (cc));
  stays = tt;
}
over_takes aside place bytes (Err error) old new stands is = record {
  run = run_rename Over aside place bytes (Err error) old new stands is;
  done = tt;
  stays = inl ((stands_rename aside place bytes (Err error) old new stands is).1);
}

-- a second name at a free place, behind which the first is taken away
pub link_takes : {S T : Type 0} (aside place : Path) (bytes : List ℕ) (value : S) (answer : T) (old between new : HostState)
    → aside ≢ place → old.files aside ≡ whole bytes → Links {T = S} aside place (Ok value) old between
    → IsRun (may_at aside) between new → IsSameBut aside between.files new.files
    → TakesPlace {T = T} Free aside place bytes (Ok answer) old new
link_takes aside place bytes value answer old between new apart stands is removed same =
    let (free, second, others) = is.done in
    record {
      run = run_then (may_give Free aside place bytes) old between new
          (run_link Free aside place bytes (Ok value) old between stands is)
          (aside_gives Free aside place bytes between new removed);
      done = (same place (λ e. apart (sym e)) ∙ (second ∙ stands), λ _. free);
      stays = tt;
    }

-- no second name was given, and nothing changed
pub link_fails : {S T : Type 0} (aside place : Path) (bytes : List ℕ) (error : Error) (result : Result T Error)
    (old between new : HostState) → old.files aside ≡ whole bytes → Links {T = S} aside place (Err error) old between
    → TakesPlace Free aside place bytes result between new → TakesPlace Free aside place bytes result old new
link_fails aside place bytes error (Ok value) old between new stands is then =
    let same : between.files place ≡ old.files place = ap (λ (f : Files). f place) is.refused.0 in
    record {
      run = run_then (may_give Free aside place bytes) old between new
          (run_link Free aside place bytes (Err error) old between stands is) then.run;
      done = (then.done.0, λ free. sym same ∙ then.done.1 free);
      stays = tt;
    }
link_fails aside place bytes error (Err other) old between new stands is then =
    let same : between.files place ≡ old.files place = ap (λ (f : Files). f place) is.refused.0 in
    record {
      run = run_then (may_give Free aside place bytes) old between new
          (run_link Free aside place bytes (Err error) old between stands is) then.run;
      done = tt;
      stays = ⊎_elim (λ kept. inl (kept ∙ same)) (λ empty. inr (empty.0, sym same ∙ empty.1, empty.2)) then.stays;
    }

-- no second name was given, for another reason
pub link_refused : {S T : Type 0} (aside place : Path) (bytes : List ℕ) (error other : Error) (old new : HostState)
    → old.files aside ≡ whole bytes → Links {T = S} aside place (Err error) old new
    → TakesPlace {T = T} Free aside place bytes (Err other) old new
link_refused aside place bytes error other old new stands is = record {
  run = run_link Free aside place bytes (Err error) old new stands is;
  done = tt;
  stays = inl (ap (λ (f : Files). f place) is.refused.0);
}

-- nothing could be made at a free place
pub make_refused : {F T : Type 0} (at : F → Path) (aside place : Path) (bytes : List ℕ) (error other : Error) (old new : HostState)
    → IsTrue old.honest → Makes at place (Err error) old new → TakesPlace {T = T} Free aside place bytes (Err other) old new
make_refused at aside place bytes error other old new honest is = record {
  run = run_quiet (may_give Free aside place bytes) old new honest is.refused.0;
  done = tt;
  stays = inl (ap (λ (f : Files). f place) (quiet_files old new is.refused.0));
}

-- Up to a renaming over the empty file that was made at a free place.
made_run : {F : Type 0} (at : F → Path) (aside place : Path) (bytes : List ℕ) (file : F) (old made asked : HostState)
    → Makes at place (Ok file) old made → IsQuiet made asked → IsRun (may_give Free aside place bytes) old asked
made_run at aside place bytes file old made asked is quiet =
    let (noted, there, free, empty, same) = is.done in
    run_then (may_give Free aside place bytes) old made asked (run_made at aside place bytes file old made noted same empty)
    (run_quiet (may_give Free aside place bytes) made asked noted.honest quiet)

-- what stood aside stands there still
made_stands : {F : Type 0} (at : F → Path) (aside place : Path) (bytes : List ℕ) (file : F) (old made asked : HostState)
    → aside ≢ place → old.files aside ≡ whole bytes → Makes at place (Ok file) old made → IsQuiet made asked
    → asked.files aside ≡ whole bytes
made_stands at aside place bytes file old made asked apart stands is quiet =
    let (noted, there, free, empty, same) = is.done in
    ap (λ (f : Files). f aside) (quiet_files made asked quiet) ∙ (same aside apart ∙ stands)

pub made_takes : {F S T : Type 0} (at : F → Path) (aside place : Path) (bytes : List ℕ) (file : F) (value : S) (answer : T)
    (old made asked new : HostState) → aside ≢ place → old.files aside ≡ whole bytes → Makes at place (Ok file) old made
    → IsQuiet made asked → Renames {T = S} aside place (Ok value) asked new
    → TakesPlace {T = T} Free aside place bytes (Ok answer) old new
made_takes at aside place bytes file value answer old made asked new apart stands is quiet renamed =
    let (noted, there, free, empty, same) = is.done in
    let ready = made_stands at aside place bytes file old made asked apart stands is quiet in
    record {
      run = run_then (may_give Free aside place bytes) old asked new
          (made_run at aside place bytes file old made asked is quiet)
          (run_rename Free aside place bytes (Ok value) asked new ready renamed);
      done = ((stands_rename aside place bytes (Ok value) asked new ready renamed).0, λ _. free);
      stays = tt;
    }

pub made_fails : {F S T : Type 0} (at : F → Path) (aside place : Path) (bytes : List ℕ) (file : F) (error other : Error)
    (old made asked renamed new : HostState) → aside ≢ place → old.files aside ≡ whole bytes
    → Makes at place (Ok file) old made → IsQuiet made asked → Renames {T = S} aside place (Err error) asked renamed
    → (renamed.files place ≡ unflushed [] → IsTakenBack place renamed new)
    → TakesPlace {T = T} Free aside place bytes (Err other) old new
made_fails at aside place bytes file error other old made asked renamed new apart stands is quiet failed back =
    let (noted, there, free, empty, same) = is.done in
    let ready = made_stands at aside place bytes file old made asked apart stands is quiet in
    let left : renamed.files place ≡ unflushed [] = (stands_rename aside place bytes (Err error) asked renamed ready failed).1
    ∙ (ap (λ (f : Files). f place) (quiet_files made asked quiet) ∙ empty) in
    let taken = back left in
    let run = run_then (may_give Free aside place bytes) old asked renamed
    (made_run at aside place bytes file old made asked is quiet)
    (run_rename Free aside place bytes (Err error) asked renamed ready failed) in
    record {
      run = run_back aside place bytes old renamed new run free taken;
      done = tt;
      stays = ⊎_elim (λ none. inl (none ∙ sym free)) (λ stays. inr (refl, free, stays)) taken.stands;
    }

-- A file aside was removed behind a place that it could not take.
pub fails_removed : {T : Type 0} (placing : Placing) (aside place : Path) (bytes : List ℕ) (error other : Error)
    (old between new : HostState) → aside ≢ place → TakesPlace {T = T} placing aside place bytes (Err error) old between
    → IsRun (may_at aside) between new → IsSameBut aside between.files new.files
    → TakesPlace {T = T} placing aside place bytes (Err other) old new
fails_removed placing aside place bytes error other old between new apart first removed same =
    let kept : new.files place ≡ between.files place = same place (λ e. apart (sym e)) in
    record {
      run = run_then (may_give placing aside place bytes) old between new first.run
          (aside_gives placing aside place bytes between new removed);
      done = tt;
      stays = ⊎_elim (λ is. inl (kept ∙ is)) (λ is. inr (is.0, is.1, kept ∙ is.2)) first.stays;
    }

-- the same of a placing that is this one
pub takes_as : {T : Type 0} (placing other : Placing) (aside place : Path) (bytes : List ℕ) (result : Result T Error)
    (old new : HostState) → placing ≡ other → TakesPlace other aside place bytes result old new
    → TakesPlace placing aside place bytes result old new
takes_as {T} placing other aside place bytes result old new is takes =
    subst (λ (p : Placing). TakesPlace {T = T} p aside place bytes result old new) (sym is) takes
