-- Calls that have no room.
use Rattle.std.proofs.Common.{◌≡◌, ◌↔◌, ℕ, zero, suc, ◌<◌, ◌≤◌, Bool, true, false, ◌&&◌, ◌==◌, List, [], ◌∷◌, Option, Some, None, length}
use Rattle.std.proofs.Common.{Result, Err, inl, inr, refl, sym, ◌∙◌, arith, eq-eqb, slice_get, true≢false}
use Rattle.std.specs.Prelude.{IsSome, nat_lt, option_and_then}
use Rattle.std.proofs.lemmas.Bool.{and_from, and_parts, cases_lt, le-leb, lt-leb, lt-ltb, ltb-true}
use Rattle.aarp.specs.Mapping.{Mappings, to_ask}
use Rattle.at_base.specs.declared.address.Addr.{Addr}
use Rattle.at_base.specs.declared.error.Error.{Error}
use Rattle.at_base.specs.declared.error.Error.TheVariants.{Full}
use Rattle.cable_model.specs.Logs.{Cabling}
use Rattle.cable_model.specs.Outcomes.{is_seated}
use Rattle.cable_model.specs.declared.seat.Seat.{Seat}
use Rattle.live_cables.specs.Finding.{held_at}
use Rattle.live_cables.specs.Holding.{IsRequest}
use Rattle.live_cables.specs.Putting.{room_by}
use Rattle.live_cables.specs.Steps.{HasNoRoom}
use Rattle.live_cables.proofs.Pending.{both, has_any}

-- ---- A take

-- The frame is pending, and there is no room to take it.
pub crowded : (limit lines : ℕ) (named : Bool) → (nat_lt limit lines && named) ≡ true → (limit < lines) × (named ≡ true)
crowded limit lines named h = let parts = and_parts (nat_lt limit lines) named h in (ltb-true limit lines parts.0, parts.1)

pub not_crowded : (limit lines : ℕ) (named : Bool) → (nat_lt limit lines && named) ≡ false → named ≡ true → limit < lines → ⊥
not_crowded limit lines named h is less =
    true≢false (sym (and_from (nat_lt limit lines) named (lt-ltb limit lines less) is) ∙ h)

-- ---- A request

pub some_none : {X : Type 0} (o : Option X) → IsSome o → o ≡ None → ⊥
some_none None h e = true≢false (sym h)
some_none (Some x) h e = cc

-- There is a request where there is a seat.
pub some_request : (s : Option Seat) (own : Option (Option Addr)) (a : Addr) (ask : Option (List ℕ)) → IsRequest true s own a ask
    → IsSome s → ask ≡ None → ⊥
some_request None own a ask h is e = true≢false (sym is)
some_request (Some s) own a ask (bytes, spells, some) is e = cc

-- A seat with mappings.
same_there : {X Y : Type 0} (xs : List X) (ys : List Y) (k : ℕ) (x : X) → length xs ≡ length ys → slice_get xs k ≡ Some x
    → IsSome (slice_get ys k)
same_there [] ys k x same at = absurd cc
same_there (x ∷ xs) [] k y same at = absurd cc
same_there (x ∷ xs) (y ∷ ys) zero z same at = refl
same_there (x ∷ xs) (y ∷ ys) (suc k) z same at = same_there xs ys k z (omega (arith, same)) at

-- There is a seat where there is something to ask for.
pub seat_there : (seats : List Seat) (maps : List Mappings) (k : ℕ) → length maps ≡ length seats
    → 1 ≤ length (to_ask (held_at maps k)) → IsSome (slice_get seats k)
seat_there seats maps k same some = by (slice_get maps k) refl
  where
    by : (o : Option Mappings) → slice_get maps k ≡ o → IsSome (slice_get seats k)
    by None e = let none = rw e at some in absurd (omega (arith, none))
    by (Some m) e = same_there maps seats k m same e

-- ---- A frame, or a datagram

-- The station of a seat is on the seat's cable.
pub seat_seated : (seats : List Seat) (place : Option ℕ) (s : Seat) → option_and_then (slice_get seats) place ≡ Some s
    → is_seated seats s.cable s.station ≡ true
seat_seated seats None s e = absurd cc
seat_seated seats (Some k) s e =
    has_any (λ (t : Seat). t.cable == s.cable && t.station == s.station) seats s (k, e)
    (both (s.cable == s.cable) (s.station == s.station) (eq-eqb s.cable s.cable refl) (eq-eqb s.station s.station refl))

-- The error is Full where the bytes fit a frame and there is too little room, and only there.
pub full_by : {A : Type 0} (r : Result A Error) (seat : Option Seat) (s : Seat) (bytes : List ℕ) (more : ℕ) (c : Cabling) (seated : Bool)
    → seat ≡ Some s → seated ≡ true → 1 ≤ more
    → ((r ≡ Err Full) ↔ ((seated ≡ true) × (length bytes ≤ 599) × HasNoRoom more c))
    → (r ≡ Err Full) ↔ ((1 ≤ room_by seat bytes more) × HasNoRoom (room_by seat bytes more) c)
full_by r seat s bytes more c seated is there some full = elim (cases_lt 599 (length bytes)) [
  | inl long ↦ (
    λ e. let fits = (full.0 e).1 in absurd (omega (arith, fits, long)),
    λ x. absurd (let needs = x.0 in let zero = rw (is, lt-leb (length bytes) 599 long) at needs in omega (arith, zero)),
  )
  | inr few ↦ (
    λ e. (rw (is, le-leb (length bytes) 599 few) some, rw (is, le-leb (length bytes) 599 few) (full.0 e).2),
    λ x. let none = x.1 in full.1 (there, few, rw (is, le-leb (length bytes) 599 few) at none),
  )
]

-- Where no room is needed, the bytes don't fit a frame.
pub long_by : (seat : Option Seat) (s : Seat) (bytes : List ℕ) (more : ℕ) → seat ≡ Some s → 1 ≤ more
    → room_by seat bytes more ≡ 0 → 599 < length bytes
long_by seat s bytes more is some none =
    elim (cases_lt 599 (length bytes)) [
      | inl long ↦ long
      | inr few ↦ absurd (let all = rw (is, le-leb (length bytes) 599 few) at none in omega (arith, all, some))
    ]
