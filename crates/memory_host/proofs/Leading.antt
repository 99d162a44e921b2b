-- Where paths lead, as it is compared.
use Rattle.std.proofs.Common.{◌≡◌, ◌∙◌, Bool, IsTrue, IfOk, Ok, Err, Result, bytes_eq, string_bytes, ap, refl, subst, sym}
use Rattle.std.specs.Prelude.{String}
use Rattle.std.specs.declared.alloc.Global.{Global}
use Rattle.std.specs.declared.io.Error.{Error}
use Rattle.std.proofs.lemmas.Slice.Eq.{bytes_eq-Decides}
use Rattle.shop_host.specs.State.{HostState, Path}
use Rattle.shop_host.specs.Calls.{FollowsLink}
use Rattle.shop_host.specs.Paths.{IsIn, behind, in_folder}
use Rattle.memory_host.specs.declared.store.Store.{Store}
use Rattle.memory_host.specs.Journal.{memory_state}

-- a path leads to its name in its folder
pub its_name : (leads : Path → Path) (path folder name own own_folder named : Path)
    → ((f n : Path) → IsIn f n path → (f ≡ folder) × (n ≡ name)) → own ≡ leads path → own_folder ≡ leads folder
    → named ≡ in_folder own_folder name → (is : Bool) → is ≡ bytes_eq own named → IsTrue is
    → (f n : Path) → IsIn f n path → leads path ≡ in_folder (leads f) n
its_name leads path folder name own own_folder named split leads_own leads_folder in_it is test holds f n inside =
    let parts = split f n inside in
    let same : own ≡ named = (bytes_eq-Decides own named).0 (sym test ∙ holds) in
    sym leads_own ∙ (same ∙ (in_it ∙ (ap (λ o. in_folder o name) (leads_folder ∙ ap leads (sym parts.0)) ∙ ap (in_folder (leads f)) (sym parts.1))))

-- a path leads where another leads from its folder on
pub there : (leads : Path → Path) (path folder name to own beyond other : Path)
    → ((f n : Path) → IsIn f n path → (f ≡ folder) × (n ≡ name)) → own ≡ leads path → beyond ≡ behind folder to
    → other ≡ leads beyond → (is : Bool) → is ≡ bytes_eq own other → IsTrue is
    → (f n : Path) → IsIn f n path → leads path ≡ leads (behind f to)
there leads path folder name to own beyond other split leads_own is_behind leads_other is test holds f n inside =
    let parts = split f n inside in
    let same : own ≡ other = (bytes_eq-Decides own other).0 (sym test ∙ holds) in
    sym leads_own ∙ (same ∙ (leads_other ∙ ap leads (is_behind ∙ ap (λ x. behind x to) (sym parts.0))))

-- the path that is told, if any is, leads from the link's folder on to where the link leads
abbrev IsTarget : Path → Result (String Global) Error → HostState → Type 0
IsTarget path result host = IfOk result (λ to. (folder name : Path) → IsIn folder name path
    → host.leads path ≡ host.leads (behind folder (string_bytes to)))

told : (path : Path) (result : Result (String Global) Error) (store : Store) → IsTarget path result (memory_state store)
    → FollowsLink path result (memory_state store) (memory_state store)
told path (Ok to) store target = record {
  asks = record { quiet = record { same = refl; refused = λ request known. known }; refused = tt };
  found = target;
}
told path (Err e) store target = record {
  asks = record { quiet = record { same = refl; refused = λ request known. known }; refused = refl };
  found = target;
}

-- the path in a link is told, and nothing was changed
pub follows : (path : Path) (result : Result (String Global) Error) (old new : Store) → new ≡ old
    → IsTarget path result (memory_state new) → FollowsLink path result (memory_state old) (memory_state new)
follows path result old new same =
    subst (λ (s : Store). IsTarget path result (memory_state s) → FollowsLink path result (memory_state old) (memory_state s))
    (sym same) (told path result old)
