-- Laws of the chain of catalog sectors.
use Rattle.std.specs.Prelude.{◌≡◌, ◌≢◌, ℕ, List, [], ◌∷◌, ◌++◌, length, slice_index, AllPairs, Contains}
use Rattle.std.proofs.Common.{refl, sym, ◌∙◌, ap, arith, subst, ⊎_elim, length-append, append-nil}
use Rattle.std.proofs.lemmas.List.{get_or_append_left}
use Rattle.std.proofs.Math.Seq.{get_or-append_seam}
use Rattle.a2_device.specs.Device.{unit_at}
use Rattle.dos_catalog.specs.Catalog.{IsLink, HasNoLink, linked, Leads, IsCatalog, HasBadLink}

-- one link further
pub leads_on : (store : List (List ℕ)) (from : ℕ) (sectors : List ℕ) (last next : ℕ) → Leads store from sectors last
    → IsLink (unit_at store last) → next ≡ linked (unit_at store last) → Leads store from (sectors ++ next ∷ []) next
leads_on store from [] last next is link named =
    (subst (λ p. IsLink (unit_at store p)) is link, named ∙ ap (λ p. linked (unit_at store p)) is, refl)
leads_on store from (place ∷ rest) last next way link named = (way.0, way.1, leads_on store place rest last next way.2 link named)

-- a catalog goes on from where other links of its chain lead
pub record GoesOn (store : List (List ℕ)) (sectors chain : List ℕ) (holder last : ℕ) : Type 0 where
  pub rest : List ℕ
  pub is : chain ≡ sectors ++ rest
  pub leads : Leads store holder rest last

pub goes_on : (store : List (List ℕ)) (from : ℕ) (sectors chain : List ℕ) (holder last : ℕ) → Leads store from sectors holder
    → Leads store from chain last → HasNoLink (unit_at store last) → GoesOn store sectors chain holder last
goes_on store from [] chain holder last here way ends = record { rest = chain; is = refl; leads = subst (λ p. Leads store p chain last) (sym here) way }
goes_on store from (place ∷ rest) [] holder last here way ends =
    absurd (let none : slice_index (unit_at store from) 1 ≡ 0 = subst (λ p. HasNoLink (unit_at store p)) way ends in omega (arith, here.0.0, none))
goes_on store from (place ∷ rest) (next ∷ chain) holder last here way ends =
    let same : next ≡ place = way.1 ∙ sym here.1 in
    let further = goes_on store place rest chain holder last here.2 (subst (λ p. Leads store p chain last) same way.2) ends in
    record { rest = further.rest; is = ap (λ p. p ∷ chain) same ∙ ap (λ ps. place ∷ ps) further.is; leads = further.leads }

-- no catalog is two lists of sectors
pub one_catalog : (store : List (List ℕ)) (sectors others : List ℕ) → IsCatalog store sectors → IsCatalog store others → others ≡ sectors
one_catalog store sectors others one other = ended on.rest on.is on.leads
  where
    on : GoesOn store sectors others one.last other.last
    on = goes_on store 272 sectors others one.last other.last one.leads other.leads other.ends

    ended : (rest : List ℕ) → others ≡ sectors ++ rest → Leads store one.last rest other.last → others ≡ sectors
    ended [] is way = is ∙ append-nil sectors
    ended (next ∷ rest) is way = absurd (omega (arith, way.0.0, one.ends))

not_twice : (sectors rest : List ℕ) (place : ℕ) → AllPairs (λ place later. place ≢ later) (sectors ++ place ∷ rest) → Contains sectors place → ⊥
not_twice sectors rest place once has =
    once has.0 (length sectors) place has.1 (omega (arith, length-append sectors (place ∷ rest)))
    (get_or_append_left sectors (place ∷ rest) place has.0 has.1 ∙ has.2 ∙ sym (get_or-append_seam sectors place rest place))

-- a store with a bad link has no catalog
pub no_catalog : (store : List (List ℕ)) (holder : ℕ) (sectors : List ℕ) → HasBadLink store holder → IsCatalog store sectors → ⊥
no_catalog store holder chain fault catalog = met on.rest on.is on.leads
  where
    on : GoesOn store fault.sectors chain holder catalog.last
    on = goes_on store 272 fault.sectors chain holder catalog.last fault.leads catalog.leads catalog.ends

    met : (rest : List ℕ) → chain ≡ fault.sectors ++ rest → Leads store holder rest catalog.last → ⊥
    met [] is way = fault.linked_on (subst (λ p. HasNoLink (unit_at store p)) way catalog.ends)
    met (next ∷ rest) is way =
        ⊎_elim (λ none. none way.0)
        (λ twice. not_twice fault.sectors rest next (subst (AllPairs (λ place later. place ≢ later)) is catalog.once)
        (subst (Contains fault.sectors) (sym way.1) twice.1))
        fault.bad
