-- Hints, while more are added.
use Rattle.std.proofs.Common.{◌≡◌, ◌≢◌, ℕ, ◌+◌, inl, inr, ◌==◌, true, List, Some, slice_get, ap, sym, ◌∙◌, refl, subst, below_more, eq-eqb}
use Rattle.std.specs.List.{list_any}
use Rattle.std.proofs.lemmas.Bool.{cases_eq}
use Rattle.std.proofs.lemmas.Option.{same_Some}
use Rattle.audit.specs.Places.{on}
use Rattle.table_image.specs.declared.port.Port.{Port}
use Rattle.table_image.specs.declared.router.Router.{Router}
use Rattle.audit.specs.Hints.{hint_at, port_slot, has_slot, IsHint, HasHintsBelow, Names, FirstOr}
use Rattle.audit.specs.declared.next.Hints.{Hints}
use Rattle.audit.proofs.Finding.{any_from}
use Rattle.audit.proofs.Firsts.{on_some}

-- a hint that names s still does after one more hint for s
pub still_names : (new old : Hints) (x s : ℕ) → hint_at new x ≡ s → ((slot : ℕ) → slot ≢ x → hint_at new slot ≡ hint_at old slot)
    → (slot : ℕ) → hint_at old slot ≡ s → hint_at new slot ≡ s
still_names new old x s here others slot was = elim (cases_eq slot x) [
  | inl same ↦ ap (hint_at new) same ∙ here
  | inr other ↦ others slot other ∙ was
]

-- each hint is unchanged, or names s and is that of one of s's ports
pub first_or_new : (new old first : Hints) (x s : ℕ) (ports : List Port) → hint_at new x ≡ s
    → ((slot : ℕ) → slot ≢ x → hint_at new slot ≡ hint_at old slot) → list_any (λ p. port_slot p == x) ports ≡ true → (slot : ℕ)
    → FirstOr old first s ports slot → FirstOr new first s ports slot
first_or_new new old first x s ports here others any slot was = elim (cases_eq slot x) [
  | inl same ↦ inr (ap (hint_at new) same ∙ here, ap (λ y. list_any (λ p. port_slot p == y) ports) same ∙ any)
  | inr other ↦ elim was [
    | inl as_first ↦ inl (others slot other ∙ as_first)
    | inr by_s ↦ inr (others slot other ∙ by_s.0, by_s.1)
  ]
]

-- a port has the hint at its own index
pub own_slot : (ports : List Port) (p : ℕ) (port : Port) → slice_get ports p ≡ Some port
    → list_any (λ q. port_slot q == port_slot port) ports ≡ true
own_slot ports p port at = any_from (λ q. port_slot q == port_slot port) ports p port at (eq-eqb (port_slot port) (port_slot port) refl)

-- a hint for r names router r
names_router : (hints : Hints) (routers : List Router) (r : ℕ) (router : Router) (slot : ℕ) → slice_get routers r ≡ Some router
    → hint_at hints slot ≡ r → has_slot slot router ≡ true → IsHint hints routers slot
names_router hints routers r router slot at names has =
    ap (λ h. on (slice_get routers h) (has_slot slot)) names ∙ on_some routers r router (has_slot slot) true at has

-- a hint stays valid if it is unchanged, or names a router with a port at its index
stays_hint : (new old : Hints) (routers : List Router) (r : ℕ) (router : Router) (slot : ℕ) → slice_get routers r ≡ Some router
    → FirstOr new old r router.ports slot → IsHint old routers slot → IsHint new routers slot
stays_hint new old routers r router slot at how was = elim how [
  | inl same ↦ ap (λ h. on (slice_get routers h) (has_slot slot)) same ∙ was
  | inr by_r ↦ names_router new routers r router slot at by_r.0 by_r.1
]

-- after router r's ports have hints, those of all routers up to r do
pub one_more : (new old : Hints) (routers : List Router) (r : ℕ) (router : Router) → slice_get routers r ≡ Some router
    → Names new r router.ports → ((slot : ℕ) → FirstOr new old r router.ports slot) → HasHintsBelow old routers r
    → HasHintsBelow new routers (r + 1)
one_more new old routers r router at each others below =
    below_more (λ s. (other : Router) → slice_get routers s ≡ Some other → (p : ℕ) (port : Port) → slice_get other.ports p ≡ Some port
    → IsHint new routers (port_slot port)) r
    (λ s lt other e p port f.
    stays_hint new old routers r router (port_slot port) at (others (port_slot port)) (below s lt other e p port f))
    (λ other e. subst (λ x. (p : ℕ) (port : Port) → slice_get x.ports p ≡ Some port → IsHint new routers (port_slot port))
    (same_Some router other (sym at ∙ e))
    (λ p port f. names_router new routers r router (port_slot port) at (each p port f) (own_slot router.ports p port f)))
