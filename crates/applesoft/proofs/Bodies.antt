-- A line is read from a text in one way.
use Rattle.std.proofs.Common.{◌≡◌, ◌≢◌, ℕ, ◌≤◌, ◌↔◌, Bool, true, false, IsTrue, List, [], drop, length, sym, ap, ◌∙◌, subst}
use Rattle.std.specs.List.{prefix_len}
use Rattle.std.specs.Char.{is_ascii_digit}
use Rattle.apple_text.specs.Shown.{Text}
use Rattle.applesoft.specs.Scan.{CanBeScanned, IsScanned}
use Rattle.applesoft.specs.Tokens.{IsBody, IsRead, Shows, behind_number, without_spaces}
use Rattle.applesoft.proofs.Characters as characters
use Rattle.applesoft.proofs.Scanning as scanning

pub no_codes : (text : Text) → ((all : List ℕ) → ¬ Shows text all) → (body : List ℕ) → ¬ IsBody text body
no_codes text none body is = none is.codes is.shown

pub no_scan : (text : Text) (codes : List ℕ) → Shows text codes → ¬ CanBeScanned true codes → (body : List ℕ) → ¬ IsBody text body
no_scan text codes shows none body is =
    let same : is.codes ≡ codes = characters.one_way text is.codes codes is.shown shows in
    none (body, subst (λ cs. IsScanned true cs body) same is.scanned)

pub is_body : (text : Text) (codes body : List ℕ) → Shows text codes → IsScanned true codes body → (body ≢ []) × (length body ≤ 250) → IsBody text body
is_body text codes body shows scanned fits = record { codes = codes; shown = shows; scanned = scanned; some = fits.0; short = fits.1 }

pub one_body : (text : Text) (a b : List ℕ) → IsBody text a → IsBody text b → a ≡ b
one_body text a b one other =
    let same : other.codes ≡ one.codes = characters.one_way text other.codes one.codes other.shown one.shown in
    scanning.one_way true one.codes a b one.scanned (subst (λ cs. IsScanned true cs b) same other.scanned)

pub no_fit : (text : Text) (codes body : List ℕ) → Shows text codes → IsScanned true codes body → ¬ ((body ≢ []) × (length body ≤ 250))
    → (all : List ℕ) → ¬ IsBody text all
no_fit text codes body shows scanned none all is =
    let same : is.codes ≡ codes = characters.one_way text is.codes codes is.shown shows in
    let whole : all ≡ body = scanning.one_way true codes all body (subst (λ cs. IsScanned true cs all) same is.scanned) scanned in
    none (subst (λ b. (b ≢ []) × (length b ≤ 250)) whole (is.some, is.short))

pub one_read : (text : Text) (m n : ℕ) (a b : List ℕ) → IsRead text m a → IsRead text n b → (m ≡ n) × (a ≡ b)
one_read text m n a b one other = (one.number_is ∙ sym other.number_is, one_body (behind_number text) a b one.body_is other.body_is)

-- ---- as the readers answer

pub no_scan_at : (text : Text) (codes slice : List ℕ) → slice ≡ codes → Shows text codes → ¬ CanBeScanned true slice → (body : List ℕ) → ¬ IsBody text body
no_scan_at text codes slice same shows none = no_scan text slice (subst (Shows text) (sym same) shows) none

not_true : (test : Bool) → test ≡ false → IsTrue test → ⊥
not_true true is holds = let no' : true ≡ false = is in cc
not_true false is holds = let no' : false ≡ true = holds in cc

pub no_fit_at : (text : Text) (codes slice body whole : List ℕ) (test : Bool) → slice ≡ codes → Shows text codes → IsScanned true slice body → whole ≡ body
    → (IsTrue test ↔ ((whole ≢ []) × (length whole ≤ 250))) → test ≡ false → (all : List ℕ) → ¬ IsBody text all
no_fit_at text codes slice body whole test same shows scanned same' tells is =
    no_fit text slice body (subst (Shows text) (sym same) shows) scanned
    (λ fits. not_true test is (tells.1 (subst (λ b. (b ≢ []) × (length b ≤ 250)) (sym same') fits)))

pub no_read : (text spaced rest : Text) → spaced ≡ without_spaces text → rest ≡ drop (prefix_len is_ascii_digit spaced) spaced
    → ((body : List ℕ) → ¬ IsBody rest body) → (number : ℕ) (body : List ℕ) → ¬ IsRead text number body
no_read text spaced rest is is' none number body read =
    let behind : behind_number text ≡ rest = ap (λ t. drop (prefix_len is_ascii_digit t) t) (sym is) ∙ sym is' in
    none body (subst (λ t. IsBody t body) behind read.body_is)
