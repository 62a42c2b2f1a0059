-- The pair of a datagram that was held counts as the datagram does: a copy is held for a router that it isn't addressed
-- to, and a request for a station.
use Rattle.std.proofs.Common.{◌≡◌, ℕ, Bool, true, false, cond, not, ◌&&◌, ◌==◌, List, [], ◌∷◌, ◌++◌, Option, Some}
use Rattle.std.proofs.Common.{None, ap, inl, inr, is_some, length, ne_eqb, nat_lt, refl, subst, sym, ◌∙◌, true≢false}
use Rattle.std.specs.List.{AllByRecursion as Each}
use Rattle.std.proofs.lemmas.Bool.{cases_Bool, false_from_ne_true}
use Rattle.at_base.specs.Address.{same_address}
use Rattle.at_base.specs.Multicast.{is_all, is_group}
use Rattle.at_base.specs.Text.{same_bytes}
use Rattle.ddp.specs.Bodies.{body, target}
use Rattle.table_image.specs.Internet.{Internet}
use Rattle.table_image.specs.Seats.{Seat, seat_at}
use Rattle.audit.specs.Routing.{router_of}
use Rattle.audit.specs.Rules.{Passes}
use Rattle.audit.proofs.SeatUnique.{addressed}
use Rattle.station.specs.declared.heard.Kind.TheVariants.{Ddp}
use Rattle.cable_model.specs.Holdings.{holds, released_frame}
use Rattle.cable_model.specs.Pending.{Pair, pairs, pairs_of}
use Rattle.cable_model.specs.Transcript.{Entry, Holding, Sent, Put, Took, Reached, Dropped, Lost, Hold}
use Rattle.legal_runs.specs.Counts.{carries}
use Rattle.legal_runs.specs.Legs.{is_copy, is_datagram, is_unicast}
use Rattle.legal_runs.specs.Lookups.{asks, forwarded, seeks, waits}
use Rattle.legal_runs.specs.Requests.{is_lookup, request}
use Rattle.legal_runs.specs.Stations.{cable_seats, has_address, is_router}
use Rattle.legal_runs.proofs.Legs.{SeatThere, has_no_other, has_own, same_address_is, same_address_self, seat_there}
use Rattle.legal_runs.proofs.Passing.{PairOk}
use Rattle.legal_runs.proofs.Seated.{heard_alone, not_all, not_group}
use Rattle.resolved_runs.specs.HeldCounts.{holds_copy, holds_forward, holds_request, is_held_copy}
use Rattle.resolved_runs.specs.Plain.{plain, plain_after, plain_entry, plain_hold}
use Rattle.resolved_runs.proofs.Never.{each_parts}
use Rattle.resolved_runs.proofs.Networks.{IsSome}
use Rattle.resolved_runs.proofs.PlainPairs.{held_pair, passes, passes_at}

-- What holds of the frame of a datagram that was held, for the station with its next address.
abbrev pub OfFrame : Internet → (Entry → Type 0) → Holding → Type 0
OfFrame i Q h = (s : Seat) → seat_at i h.cable h.next ≡ Some s → Q (Put (released_frame h s.hardware))

-- The datagram is no lookup, if a station has its next address.
abbrev pub IsNoLookup : Internet → Holding → Type 0
IsNoLookup i h = (s : Seat) → seat_at i h.cable h.next ≡ Some s → is_lookup (request (body h.bytes)) ≡ false

-- What holds of each entry of the plain transcript holds of the frames of all datagrams that were held.
module _ (i : Internet) (Q : Entry → Type 0) where
  of_hold : (h : Holding) (o : Option Seat) → Each Q (plain_hold h o) → (s : Seat) → o ≡ Some s → Q (Put (released_frame h s.hardware))
  of_hold h None each s e = cc
  of_hold h (Some x) each s e =
      let same : x ≡ s = cc in subst (λ (y : Seat). Q (Put (released_frame h y.hardware))) same each.0

  of_rest : (u : List Entry) (e : Entry) (es : List Entry) → Each Q (plain_after i u (e ∷ es)) → Each Q (plain_after i (u ++ e ∷ []) es)
  of_rest u e es each = (each_parts Q (plain_entry i u e) (plain_after i (u ++ e ∷ []) es) each).1

  of_holds : (u es : List Entry) → Each Q (plain_after i u es) → Each (OfFrame i Q) (holds es)
  of_holds u [] each = tt
  of_holds u (Hold h ∷ es) each = (
    of_hold h (seat_at i h.cable h.next)
        (each_parts Q (plain_hold h (seat_at i h.cable h.next)) (plain_after i (u ++ Hold h ∷ []) es) each).0,
    of_holds (u ++ Hold h ∷ []) es (of_rest u (Hold h) es each),
  )
  of_holds u (Put f ∷ es) each = of_holds (u ++ Put f ∷ []) es (of_rest u (Put f) es each)
  of_holds u (Sent s b ∷ es) each = of_holds (u ++ Sent s b ∷ []) es (of_rest u (Sent s b) es each)
  of_holds u (Took k s ∷ es) each = of_holds (u ++ Took k s ∷ []) es (of_rest u (Took k s) es each)
  of_holds u (Reached c s how b ∷ es) each = of_holds (u ++ Reached c s how b ∷ []) es (of_rest u (Reached c s how b) es each)
  of_holds u (Dropped r c b ∷ es) each = of_holds (u ++ Dropped r c b ∷ []) es (of_rest u (Dropped r c b) es each)
  of_holds u (Lost k ∷ es) each = of_holds (u ++ Lost k ∷ []) es (of_rest u (Lost k) es each)

  pub held_frames : (t : List Entry) → Each Q (plain i t) → Each (OfFrame i Q) (holds t)
  held_frames t each = of_holds [] t each

-- What holds of each pair holds of the pairs of each entry.
pub by_entry : (i : Internet) (P : Pair → Type 0) (es : List Entry) → Each P (pairs (cable_seats i) es)
    → Each (λ e. Each P (pairs_of (cable_seats i) e)) es
by_entry i P [] each = tt
by_entry i P (e ∷ es) each =
    let w = each_parts P (pairs_of (cable_seats i) e) (pairs (cable_seats i) es) each in (w.0, by_entry i P es w.1)

router_some : (b : Bool) (r : ℕ) → is_some (cond b (Some r) None) ≡ b
router_some true r = refl
router_some false r = refl

copy_bits : (u r z h m : Bool) → u ≡ true → z ≡ false → h ≡ m → (is_datagram Ddp && u && r && not z && not h) ≡ (r && not m)
copy_bits true true false h m eu ez eh = ap not eh
copy_bits true false false h m eu ez eh = refl
copy_bits false r z h m eu ez eh = cc
copy_bits true r true h m eu ez eh = cc

module _ (i : Internet) (ok : Passes i) where
  -- ---- The hardware address of a seat

  pub seat_single : (h : Holding) (s : Seat) → seat_at i h.cable h.next ≡ Some s → is_unicast s.hardware ≡ true
  seat_single h s e =
      let w = seat_there i h.cable h.next s e in
      let single = (addressed i ok w.place s w.at).single in
      both (is_all s.hardware) (is_group s.hardware) (not_all i ok s.hardware single) (not_group i ok s.hardware single)
    where
      both : (a b : Bool) → a ≡ false → b ≡ false → (not a && not b) ≡ true
      both false false ea eb = refl
      both true b ea eb = cc
      both false true ea eb = cc

  -- A held datagram's pair is the only one of its frame.
  pub of_pair : (P : Pair → Type 0) (h : Holding) (s : Seat) → seat_at i h.cable h.next ≡ Some s
      → Each P (pairs_of (cable_seats i) (Put (released_frame h s.hardware))) → P (held_pair i h s)
  of_pair P h s e each =
      let w = seat_there i h.cable h.next s e in
      (subst (Each P) (heard_alone i ok (released_frame h s.hardware) w.place s w.at w.cable_is refl) each).0

  -- ---- Copies

  -- The station with the next address has no other address there.
  own_address : (h : Holding) (s : Seat) → SeatThere i h.cable h.next s
      → has_address i s.station s.cable (target h.bytes) ≡ same_address h.next (target h.bytes)
  own_address h s w =
      elim (cases_Bool (same_address (target h.bytes) s.address)) as
      (λ _. has_address i s.station s.cable (target h.bytes) ≡ same_address h.next (target h.bytes)) [
        | inl same ↦
            let e = same_address_is (target h.bytes) s.address same in
            ap (has_address i s.station s.cable) e
            ∙ (has_own i ok s w.place w.at
            ∙ sym (ap (same_address h.next) (e ∙ w.address) ∙ same_address_self h.next))
        | inr other ↦
            has_no_other i ok s w.place (target h.bytes) w.at other
            ∙ sym (false_from_ne_true (same_address h.next (target h.bytes)) (λ same.
            let e = same_address_is h.next (target h.bytes) same in
            true≢false (sym (ap (λ x. same_address x s.address) (sym e ∙ sym w.address) ∙ same_address_self s.address) ∙ other)))
      ]

  -- The pair of a held datagram is a copy where the datagram is held for a router that it isn't addressed to.
  pub copy_same : (h : Holding) (o : Option Seat) → seat_at i h.cable h.next ≡ o → OfFrame i IsSome h
      → passes_at i (is_copy i) h o ≡ (is_some (router_of i o) && not (same_address h.next (target h.bytes)))
  copy_same h None e some = refl
  copy_same h (Some s) e some =
      let w = seat_there i h.cable h.next s e in
      let single = seat_single h s e in
      copy_bits (is_unicast s.hardware) (is_router i s.station) ((target h.bytes).net == 0)
      (has_address i s.station s.cable (target h.bytes)) (same_address h.next (target h.bytes)) single
      (ne_eqb _ _ (some s e single)) (own_address h s w)
      ∙ ap (λ b. b && not (same_address h.next (target h.bytes))) (sym (router_some (nat_lt s.station (length i.routers)) s.station))

  module _ (test : List ℕ → Bool) where
    copies_by : (h : Holding) (o : Option Seat) → seat_at i h.cable h.next ≡ o → OfFrame i IsSome h
        → passes_at i (λ p. is_copy i p && test p.frame.bytes) h o
        ≡ ((is_some (router_of i o) && not (same_address h.next (target h.bytes))) && test h.bytes)
    copies_by h None e some = refl
    copies_by h (Some s) e some = ap (λ b. b && test h.bytes) (copy_same h (Some s) e some)

    -- A test of copies counts the datagrams that are held for a router.
    pub copies_held : (h : Holding) → OfFrame i IsSome h
        → passes i (λ p. is_copy i p && test p.frame.bytes) h ≡ (is_held_copy i h && test h.bytes)
    copies_held h some = copies_by h (seat_at i h.cable h.next) refl some

  pub carries_held : (b : List ℕ) (h : Holding) → OfFrame i IsSome h → passes i (carries i b) h ≡ holds_copy i b h
  carries_held b h some = copies_held (λ bytes. same_bytes b (body bytes)) h some

  pub forwarded_held : (k : List ℕ) (c : ℕ) (h : Holding) → OfFrame i IsSome h → passes i (forwarded i k c) h ≡ holds_forward i k c h
  forwarded_held k c h some = copies_held (λ bytes. seeks i k c (body bytes)) h some

  -- ---- Requests

  waits_by : (k : List ℕ) (h : Holding) (o : Option Seat) → seat_at i h.cable h.next ≡ o
      → passes_at i (waits i k) h o ≡ (is_some o && asks i k (body h.bytes))
  waits_by k h None e = refl
  waits_by k h (Some s) e = ap (λ b. b && asks i k (body h.bytes)) (seat_single h s e)

  pub waits_held : (k : List ℕ) (h : Holding) → passes i (waits i k) h ≡ holds_request i k h
  waits_held k h = waits_by k h (seat_at i h.cable h.next) refl

  -- ---- Lookups

  pub no_lookup : (h : Holding) → OfFrame i (λ e. Each (PairOk i) (pairs_of (cable_seats i) e)) h → IsNoLookup i h
  no_lookup h good s e =
      let p = of_pair (PairOk i) h s e (good s e) in
      false_from_ne_true (is_lookup (request (body h.bytes))) (λ look. true≢false (sym (seat_single h s e) ∙ p.looker look))
