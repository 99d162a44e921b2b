-- How runs of calls go on.
use Rattle.std.proofs.Common.{◌≡◌, ◌≢◌, ◌∙◌, ◌⊎◌, ℕ, Bool, true, false, List, [], ◌∷◌, ◌++◌, Option, IsTrue, bytes_eq, sym, ap, subst, inl, inr, ⊎_elim, refl, append_assoc, arith, suc}
use Rattle.std.specs.List.{AllByRecursion, Contains}
use Rattle.std.proofs.lemmas.Slice.Eq.{bytes_eq-Decides}
use Rattle.shop_host.specs.State.{AreRefusedStill, Content, Files, HostState, IsNoted, IsQuiet, IsSameBut, Path, Request}
use Rattle.shop_host.specs.declared.host.Lock.{Lock}
use Rattle.shop_host.specs.Runs.{IsKeptBut, IsLooking, IsReadingInput, IsRun, May}
use Rattle.shop_host.specs.Calls.{ReadsInput}
use Rattle.std.specs.Prelude.{Result}
use Rattle.std.specs.declared.io.Error.{Error}

-- what is the same at each path is kept
pub kept_same : (may : May) (old files : Files) → files ≡ old → IsKeptBut may old files
kept_same may old files same = λ path. inl (ap (λ (f : Files). f path) same)

-- what was kept, and then was kept again
pub kept_then : (may : May) (old between files : Files) → IsKeptBut may old between → IsKeptBut may between files
    → IsKeptBut may old files
kept_then may old between files first then = λ path.
    ⊎_elim (λ same. ⊎_elim (λ before. inl (same ∙ before)) (λ new. inr (subst (may path) (sym same) new)) (first path))
    (λ new. inr new) (then path)

-- what may come to stand there may come to stand there by more too
pub kept_wider : (may more : May) (old files : Files)
    → ((path : Path) (content : Option Content) → may path content → more path content)
    → IsKeptBut may old files → IsKeptBut more old files
kept_wider may more old files wider kept = λ path. ⊎_elim (λ same. inl same) (λ new. inr (wider path (files path) new)) (kept path)

split : (may : May) (place path : Path) (old files : Files) (is : Bool) → bytes_eq path place ≡ is
    → IsSameBut place old files → may place (files place) → (files path ≡ old path) ⊎ may path (files path)
split may place path old files true is same new =
    inr (subst (λ p. may p (files p)) (sym ((bytes_eq-Decides path place).0 is)) new)
split may place path old files false is same new =
    inl (same path (λ one. let no : true ≡ false = sym ((bytes_eq-Decides path place).1 one) ∙ is in cc))

-- what is the same but at one path, at which what stands may stand
pub kept_but : (may : May) (place : Path) (old files : Files) → IsSameBut place old files → may place (files place)
    → IsKeptBut may old files
kept_but may place old files same new = λ path. split may place path old files (bytes_eq path place) refl same new

-- after each of these calls it was kept
all_then : (may : May) (old between : Files) (since : List Files) → IsKeptBut may old between
    → AllByRecursion (IsKeptBut may between) since → AllByRecursion (IsKeptBut may old) since
all_then may old between [] first each = tt
all_then may old between (files ∷ since) first each =
    (kept_then may old between files first each.0, all_then may old between since first each.1)

all_wider : (may more : May) (old : Files) (since : List Files)
    → ((path : Path) (content : Option Content) → may path content → more path content)
    → AllByRecursion (IsKeptBut may old) since → AllByRecursion (IsKeptBut more old) since
all_wider may more old [] wider each = tt
all_wider may more old (files ∷ since) wider each =
    (kept_wider may more old files wider each.0, all_wider may more old since wider each.1)

all_both : (P : Files → Type 0) (since before : List Files) → AllByRecursion P since → AllByRecursion P before
    → AllByRecursion P (since ++ before)
all_both P [] before each earlier = earlier
all_both P (files ∷ since) before each earlier = (each.0, all_both P since before each.1 earlier)

-- before the first call
pub run_here : (may : May) (host : HostState) → IsTrue host.honest → IsRun may host host
run_here may host honest = record {
  honest = honest;
  leads = refl;
  since = [];
  noted = refl;
  each = tt;
  files = kept_same may host.files host.files refl;
  refused = λ request is. is;
}

-- one run and then another
pub run_then : (may : May) (old between now : HostState) → IsRun may old between → IsRun may between now
    → IsRun may old now
run_then may old between now first then = record {
  honest = then.honest;
  leads = then.leads ∙ first.leads;
  since = then.since ++ first.since;
  noted = then.noted ∙ (ap (λ ms. then.since ++ ms) first.noted ∙ sym (append_assoc then.since first.since old.moments));
  each = all_both (IsKeptBut may old.files) then.since first.since
      (all_then may old.files between.files then.since first.files then.each) first.each;
  files = kept_then may old.files between.files now.files first.files then.files;
  refused = λ request is. then.refused request (first.refused request is);
}

-- the same run, of which more may come
pub run_wider : (may more : May) (old now : HostState)
    → ((path : Path) (content : Option Content) → may path content → more path content) → IsRun may old now
    → IsRun more old now
run_wider may more old now wider run = record {
  honest = run.honest;
  leads = run.leads;
  since = run.since;
  noted = run.noted;
  each = all_wider may more old.files run.since wider run.each;
  files = kept_wider may more old.files now.files wider run.files;
  refused = run.refused;
}

-- a call that changed nothing
pub run_quiet : (may : May) (old new : HostState) → IsTrue old.honest → IsQuiet old new → IsRun may old new
run_quiet may old new honest quiet = record {
  honest = subst IsTrue (sym (ap (λ (h : HostState). h.honest) quiet.same)) honest;
  leads = ap (λ (h : HostState). h.leads) quiet.same;
  since = [];
  noted = ap (λ (h : HostState). h.moments) quiet.same;
  each = tt;
  files = kept_same may old.files new.files (ap (λ (h : HostState). h.files) quiet.same);
  refused = quiet.refused;
}

-- a call that is noted
pub run_noted : (may : May) (old new : HostState) → IsNoted old new → IsKeptBut may old.files new.files
    → IsRun may old new
run_noted may old new is kept =
    ⊎_elim (λ (noted : new.moments ≡ new.files ∷ old.moments). record {
      honest = is.honest;
      leads = is.leads;
      since = new.files ∷ [];
      noted = noted;
      each = (kept, tt);
      files = kept;
      refused = is.refused;
    }) (λ (silent : (new.moments ≡ old.moments) × (new.files ≡ old.files)). record {
      honest = is.honest;
      leads = is.leads;
      since = [];
      noted = silent.0;
      each = tt;
      files = kept;
      refused = is.refused;
    }) is.noted

-- a call that changed nothing has only looked
pub look_quiet : (old new : HostState) → IsQuiet old new → IsLooking old new
look_quiet old new quiet = record {
  same = quiet.same ∙ ap (λ (locks : List (Path × Lock)). record old { refused = new.refused; locks = locks })
      (sym (ap (λ (h : HostState). h.locks) quiet.same));
  refused = quiet.refused;
  locks = λ held has. subst (λ (locks : List (Path × Lock)). Contains locks held)
      (sym (ap (λ (h : HostState). h.locks) quiet.same)) has;
}

-- nothing was asked yet
pub look_here : (host : HostState) → IsLooking host host
look_here host = record { same = refl; refused = λ request is. is; locks = λ held has. has }

-- one look and then another
pub look_then : (old between now : HostState) → IsLooking old between → IsLooking between now → IsLooking old now
look_then old between now first then = record {
  same = then.same ∙ ap (λ (h : HostState). record h { refused = now.refused; locks = now.locks }) first.same;
  refused = λ request is. then.refused request (first.refused request is);
  locks = λ held has. then.locks held (first.locks held has);
}

-- a look is a run in which nothing came to stand anywhere
pub run_look : (may : May) (old new : HostState) → IsTrue old.honest → IsLooking old new → IsRun may old new
run_look may old new honest look = record {
  honest = subst IsTrue (sym (ap (λ (h : HostState). h.honest) look.same)) honest;
  leads = ap (λ (h : HostState). h.leads) look.same;
  since = [];
  noted = ap (λ (h : HostState). h.moments) look.same;
  each = tt;
  files = kept_same may old.files new.files (ap (λ (h : HostState). h.files) look.same);
  refused = look.refused;
}

-- after a look the host is honest as before
pub honest_look : (old new : HostState) → IsTrue old.honest → IsLooking old new → IsTrue new.honest
honest_look old new honest look = subst IsTrue (sym (ap (λ (h : HostState). h.honest) look.same)) honest

-- nothing was read yet
pub input_here : (host : HostState) → IsReadingInput host host
input_here host = look_here host

-- one reading of standard input and then another
pub input_then : (old between now : HostState) → IsReadingInput old between → IsReadingInput between now
    → IsReadingInput old now
input_then old between now first then = record {
  same = then.same ∙ ap (λ (h : HostState). record h { refused = now.refused; locks = now.locks; input = now.input })
      first.same;
  refused = λ request is. then.refused request (first.refused request is);
  locks = λ held has. then.locks held (first.locks held has);
}

-- a call that read standard input
pub input_read : {T : Type 0} (result : Result T Error) (old new : HostState) → ReadsInput result old new
    → IsReadingInput old new
input_read result old new read = look_quiet (record old { input = new.input }) new read.quiet

-- after a reading of standard input the host is honest as before
pub honest_input : (old new : HostState) → IsTrue old.honest → IsReadingInput old new → IsTrue new.honest
honest_input old new honest look = honest_look (record old { input = new.input }) new honest look

contains_behind : {X : Type 0} (first x : X) (xs : List X) → Contains xs x → Contains (first ∷ xs) x
contains_behind first x xs has = (suc has.0, omega (arith, has.1), has.2)

-- a lock that was taken is noted, and nothing else has changed
pub look_locked : (held : Path × Lock) (old new : HostState) → IsQuiet (record old { locks = held ∷ old.locks }) new
    → IsLooking old new
look_locked held old new quiet =
    let locks : new.locks ≡ held ∷ old.locks = ap (λ (h : HostState). h.locks) quiet.same in
    record {
      same = quiet.same ∙ ap (λ (ls : List (Path × Lock)). record old { refused = new.refused; locks = ls }) (sym locks);
      refused = quiet.refused;
      locks = λ other has. subst (λ (ls : List (Path × Lock)). Contains ls other) (sym locks)
          (contains_behind held other old.locks has);
    }

-- a look, and then a call that changed nothing
pub look_more : (old between now : HostState) → (IsTrue old.honest → IsLooking old between)
    → (IsTrue between.honest → IsQuiet between now) → IsTrue old.honest → IsLooking old now
look_more old between now first then honest =
    let look = first honest in
    look_then old between now look (look_quiet between now (then (honest_look old between honest look)))

-- one look and then another, from an honest host on
pub look_both : (old between now : HostState) → (IsTrue old.honest → IsLooking old between)
    → (IsTrue between.honest → IsLooking between now) → IsTrue old.honest → IsLooking old now
look_both old between now first then honest =
    let look = first honest in
    look_then old between now look (then (honest_look old between honest look))
