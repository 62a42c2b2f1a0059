-- Where no first offer is found, there is none.
use Rattle.std.proofs.Common.{◌≡◌, ℕ, ◌-◌, ◌<◌, Bool, true, false, List, [], ◌∷◌, Option, Some, None, refl, sym}
use Rattle.std.proofs.lemmas.Bool.{lt-ltb}
use Rattle.std.specs.List.{list_any}
use Rattle.std.specs.Prelude.{slice_get, if◌then◌else◌, IfNone}
use Rattle.at_base.specs.declared.error.Place.{Place}
use Rattle.at_base.specs.declared.error.Place.TheVariants as place
use Rattle.audit.specs.Places.{on}
use Rattle.audit.specs.Rules.{at_row}
use Rattle.settled.specs.Offers.{has_nearer_offer, is_nearer_offer, is_on, offers_nearer}
use Rattle.settled.specs.Offered.{first_or, has_offer, next_number, offer_by, offer_in, offer_or, offer_to, port_offering, row_of, row_offering, router_offering}
use Rattle.settled.specs.declared.offering.Offer.{Offer}
use Rattle.table_image.specs.Internet.{Internet}
use Rattle.table_image.specs.declared.port.Port.{Port}
use Rattle.table_image.specs.declared.row.Row.{Row}
use Rattle.table_image.specs.declared.router.Router.{Router}

no_row : (cable : ℕ) (row : Row) (s : Router) (m : ℕ) (rows : List Row) → row_offering cable row s m rows ≡ None
    → list_any (is_nearer_offer cable row s) rows ≡ false
no_row cable row s m [] e = refl
no_row cable row s m (o ∷ rows) e = by (is_nearer_offer cable row s o) refl e (no_row cable row s (next_number m) rows)
  where
    by : (b : Bool) → is_nearer_offer cable row s o ≡ b
        → (if b then Some (m, o.distance) else row_offering cable row s (next_number m) rows) ≡ None
        → (row_offering cable row s (next_number m) rows ≡ None → list_any (is_nearer_offer cable row s) rows ≡ false)
        → list_any (is_nearer_offer cable row s) (o ∷ rows) ≡ false
    by true t f rest = absurd cc
    by false t f rest = rw t (rest f)

no_row_of : (cable : ℕ) (row : Row) (s : Router) → row_of cable row s ≡ None → offers_nearer cable row s ≡ false
no_row_of cable row s e = by (is_on cable s) refl e
  where
    by : (b : Bool) → is_on cable s ≡ b → (if b then row_offering cable row s 1 s.rows else None) ≡ None
        → offers_nearer cable row s ≡ false
    by true t f = rw t (no_row cable row s 1 s.rows f)
    by false t f = rw t refl

no_router : (cable : ℕ) (row : Row) (s : ℕ) (routers : List Router) → router_offering cable row s routers ≡ None
    → list_any (offers_nearer cable row) routers ≡ false
no_router cable row s [] e = refl
no_router cable row s (router ∷ routers) e =
    by (row_of cable row router) refl e (no_router cable row (next_number s) routers)
  where
    by : (o : Option (ℕ × ℕ)) → row_of cable row router ≡ o
        → offer_or cable s o (router_offering cable row (next_number s) routers) ≡ None
        → (router_offering cable row (next_number s) routers ≡ None → list_any (offers_nearer cable row) routers ≡ false)
        → list_any (offers_nearer cable row) (router ∷ routers) ≡ false
    by None t f rest = rw (no_row_of cable row router t) (rest f)
    by (Some found) t f rest = absurd cc

pub no_port : (row : Row) (routers : List Router) (ports : List Port) → port_offering row routers ports ≡ None
    → list_any (λ port. list_any (offers_nearer port.cable row) routers) ports ≡ false
no_port row routers [] e = refl
no_port row routers (p ∷ ports) e = by (router_offering p.cable row 1 routers) refl e (no_port row routers ports)
  where
    by : (o : Option Offer) → router_offering p.cable row 1 routers ≡ o → first_or o (port_offering row routers ports) ≡ None
        → (port_offering row routers ports ≡ None → list_any (λ port. list_any (offers_nearer port.cable row) routers) ports ≡ false)
        → list_any (λ port. list_any (offers_nearer port.cable row) routers) (p ∷ ports) ≡ false
    by None t f rest = rw (no_router p.cable row 1 routers t) (rest f)
    by (Some found) t f rest = absurd cc

pub no_offer_by : (i : Internet) (k : ℕ) (router : Router) → offer_by i k (Some router) ≡ None
    → on (slice_get router.rows k) (has_nearer_offer i router) ≡ false
no_offer_by i k router e = by (slice_get router.rows k) e
  where
    by : (o : Option Row) → offer_in i router o ≡ None → on o (has_nearer_offer i router) ≡ false
    by None f = refl
    by (Some row) f = no_port row i.routers router.ports f

-- where no offer is found to the row with an index, none is made
no_offer_at : (i : Internet) (r k : ℕ) → offer_by i k (slice_get i.routers r) ≡ None → at_row i r k (has_nearer_offer i) ≡ false
no_offer_at i r k e = by (slice_get i.routers r) e
  where
    by : (o : Option Router) → offer_by i k o ≡ None → on o (λ router. on (slice_get router.rows k) (has_nearer_offer i router)) ≡ false
    by None f = refl
    by (Some router) f = no_offer_by i k router f

-- the offer to the row at a place, whose numbers aren't 0
pub offer_there : (i : Internet) (p : Place) (r k : ℕ) → p ≡ place.Row r k → 0 < r → 0 < k
    → offer_to i p ≡ offer_by i (k - 1) (slice_get i.routers (r - 1))
offer_there i p r k is low lower = rw (is, lt-ltb 0 r low, lt-ltb 0 k lower) refl

pub none_there : (i : Internet) (p : Place) (r k : ℕ) → p ≡ place.Row r k → 0 < r → 0 < k → (o : Option Offer)
    → o ≡ offer_by i (k - 1) (slice_get i.routers (r - 1)) → IfNone o (has_offer i p ≡ false)
none_there i p r k is low lower (Some offer) e = tt
none_there i p r k is low lower None e = rw (is, lt-ltb 0 r low, lt-ltb 0 k lower) (no_offer_at i (r - 1) (k - 1) (sym e))
