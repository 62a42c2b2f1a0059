-- Entries that keep frames numbered: what is put has the next number, or that of a datagram that is held, and what is taken
-- or lost has a number that was given.
use Rattle.std.proofs.Common.{◌≡◌, ◌⊎◌, inl, inr, ℕ, zero, suc, ◌<◌, ◌≤◌, Bool, true, false, cond, List, [], ◌∷◌, ◌++◌}
use Rattle.std.proofs.Common.{Option, Some, None, refl, sym, ap, ◌∙◌, subst, append-nil, append_assoc, arith, eqb-true, eq-eqb}
use Rattle.std.specs.List.{list_any}
use Rattle.std.proofs.Math.Bool.{or-true}
use Rattle.std.specs.Prelude.{Contains}
use Rattle.at_base.specs.Address.{same_address}
use Rattle.at_base.specs.Multicast.{all_hw, group_hw}
use Rattle.at_base.specs.declared.address.Addr.{Addr}
use Rattle.at_base.specs.declared.address.Hw.{Hw}
use Rattle.cable_model.proofs.Counting.{At as IsAt, contained_at, each-append, each_more}
use Rattle.cable_model.proofs.Pairs.{below_more}
use Rattle.cable_model.proofs.Stamps.{above_next, next_after, not_put_yet, once_after, open_below, open_not_put, stamp_from-append, stamp_from_more}
use Rattle.cable_model.specs.Books.{EndsBelow}
use Rattle.cable_model.specs.Holdings.{has_number, is_open, still_held}
use Rattle.cable_model.specs.Outcomes.{Held, Places, Sender, entries_of, framed, leg, sender_by, to_other, to_target}
use Rattle.cable_model.specs.Outgoing.{GoOut, IsHeldBy, asked, held_entry, let_go, losses}
use Rattle.cable_model.specs.Transcript.{ArePutOnce, Entry, Frame, Holding, Sent, Put, Took, Reached, Dropped, Lost, Hold, has_put, next_stamp, stamp_after}
use Rattle.cable_model.specs.declared.resolve.Found.{Found}
use Rattle.cable_model.specs.declared.resolve.Found.TheVariants.{At, Nobody, Later}
use Rattle.cable_model.specs.declared.resolve.HeldBy.{HeldBy}
use Rattle.cable_model.specs.declared.seat.Seat.{Seat}
use Rattle.cable_model.specs.declared.entry.How.TheVariants as how
use Rattle.ddp.specs.Bodies.{body, target}
use Rattle.lasting.specs.Resting.{IsBelow}
use Rattle.station.specs.declared.heard.Kind.{Kind}
use Rattle.station.specs.declared.heard.Kind.TheVariants.{Aarp, Ddp}
use Rattle.station.specs.declared.output.Next.{Next}
use Rattle.station.specs.declared.output.Next.TheVariants as next
use Rattle.station.specs.declared.output.Output.{Output}
use Rattle.station.specs.declared.output.Output.TheVariants as output

-- ---- One more entry

-- The entry may follow: a frame has the next number, or that of a datagram that is held, and what ends has a number that was
-- given.
abbrev pub IsNext : List Entry → Entry → Type 0
IsNext t (Put f) = (f.stamp ≡ next_stamp t) ⊎ (is_open t f.stamp ≡ true)
IsNext t (Took stamp station) = stamp < next_stamp t
IsNext t (Lost stamp) = stamp < next_stamp t
IsNext t _ = Unit {0}

-- each of these entries may follow those before it
abbrev pub AreNext : List Entry → List Entry → Type 0
AreNext t [] = Unit {0}
AreNext t (e ∷ es) = IsNext t e × AreNext (t ++ e ∷ []) es

-- no two frames have one number, and nothing ended has a number that is still to come
pub record AreCounted (t : List Entry) : Type 0 where
  pub once : ArePutOnce t
  pub below : IsBelow t

new_put : (t : List Entry) (e : Entry) → IsNext t e → (stamp : ℕ) → has_put stamp e ≡ true → list_any (has_put stamp) t ≡ false
new_put t (Put f) (inl is) stamp h =
    let same : stamp ≡ next_stamp t = eqb-true stamp f.stamp h ∙ is in
    subst (λ n. list_any (has_put n) t ≡ false) (sym same) (not_put_yet t)
new_put t (Put f) (inr held) stamp h =
    subst (λ n. list_any (has_put n) t ≡ false) (sym (eqb-true stamp f.stamp h)) (open_not_put t f.stamp held)
new_put t (Sent s x) n stamp h = cc
new_put t (Took p s) n stamp h = cc
new_put t (Reached c s w x) n stamp h = cc
new_put t (Dropped r c x) n stamp h = cc
new_put t (Lost p) n stamp h = cc
new_put t (Hold d) n stamp h = cc

pub next_more : (t es : List Entry) → next_stamp t ≤ next_stamp (t ++ es)
next_more t es =
    let sum = stamp_from-append 0 t es in
    let more = stamp_from_more (next_stamp t) es in
    omega (arith, sum, more)

new_below : (t : List Entry) (e : Entry) → IsNext t e → EndsBelow (next_stamp (t ++ e ∷ [])) e
new_below t (Took p s) n = let more = next_more t (Took p s ∷ []) in omega (arith, n, more)
new_below t (Lost p) n = let more = next_more t (Lost p ∷ []) in omega (arith, n, more)
new_below t (Put f) n = tt
new_below t (Sent s x) n = tt
new_below t (Reached c s w x) n = tt
new_below t (Dropped r c x) n = tt
new_below t (Hold d) n = tt

one_counted : (t : List Entry) (e : Entry) → AreCounted t → IsNext t e → AreCounted (t ++ e ∷ [])
one_counted t e h n = record {
  once = once_after t e h.once (λ stamp there. new_put t e n stamp there);
  below =
      each-append (EndsBelow (next_stamp (t ++ e ∷ []))) t (e ∷ [])
      (each_more (EndsBelow (next_stamp t)) (EndsBelow (next_stamp (t ++ e ∷ []))) t
      (λ x low. below_more (next_stamp t) (next_stamp (t ++ e ∷ [])) (next_more t (e ∷ [])) x low) h.below)
      (new_below t e n, tt);
}

-- entries that may follow keep frames numbered
pub all_counted : (t es : List Entry) → AreCounted t → AreNext t es → AreCounted (t ++ es)
all_counted t [] h n = subst AreCounted (sym (append-nil t)) h
all_counted t (e ∷ es) h n =
    subst AreCounted (append_assoc t (e ∷ []) es) (all_counted (t ++ e ∷ []) es (one_counted t e h n.0) n.1)

pub next-append : (t a b : List Entry) → AreNext t a → AreNext (t ++ a) b → AreNext t (a ++ b)
next-append t [] b h g = subst (λ l. AreNext l b) (append-nil t) g
next-append t (e ∷ a) b h g =
    (h.0, next-append (t ++ e ∷ []) a b h.1 (subst (λ l. AreNext l b) (sym (append_assoc t (e ∷ []) a)) g))

-- ---- The entries of outputs

-- a frame with the next number may follow
put_next : (t : List Entry) (s : Sender) (to : Hw) (kind : Kind) (bytes : List ℕ) → next_stamp t ≡ s.stamp
    → AreNext t (framed s to kind bytes ∷ [])
put_next t s to kind bytes is = (inl (sym is), tt)

-- and after an entry that has no number, too
reached_next : (t : List Entry) (e : Entry) (s : Sender) (to : Hw) (kind : Kind) (bytes : List ℕ) → next_stamp t ≡ s.stamp
    → stamp_after (next_stamp t) e ≡ next_stamp t → IsNext t e → AreNext t (e ∷ framed s to kind bytes ∷ [])
reached_next t e s to kind bytes is same first = (first, put_next (t ++ e ∷ []) s to kind bytes (next_after t e ∙ (same ∙ is)))

module _ (t : List Entry) (s : Sender) (is : next_stamp t ≡ s.stamp) where
  target_next : (bytes : List ℕ) (f : Found) → AreNext t (to_target s bytes f)
  target_next bytes (At hw) = reached_next t (Reached s.cable s.station how.Station (body bytes)) s hw Ddp bytes is refl tt
  target_next bytes Nobody = (tt, tt)
  target_next bytes Later = (tt, tt)

  other_next : (bytes : List ℕ) (f : Found) → AreNext t (to_other s bytes f)
  other_next bytes (At hw) = put_next t s hw Ddp bytes is
  other_next bytes Nobody = tt
  other_next bytes Later = tt

  either_next : (b : Bool) (xs ys : List Entry) → AreNext t xs → AreNext t ys → AreNext t (cond b xs ys)
  either_next true xs ys x y = x
  either_next false xs ys x y = y

  pub leg_next : (places : Places) (to : Next) (bytes : List ℕ) → AreNext t (leg places s to bytes)
  leg_next places (next.Station a) bytes =
      either_next (same_address (target bytes) a) (to_target s bytes (places.finds s.cable a)) (to_other s bytes (places.finds s.cable a))
      (target_next bytes (places.finds s.cable a)) (other_next bytes (places.finds s.cable a))
  leg_next places next.All bytes =
      either_next (places.lists (target bytes).net) _ _
      (reached_next t (Reached s.cable s.station how.All (body bytes)) s all_hw Ddp bytes is refl tt) (put_next t s all_hw Ddp bytes is)
  leg_next places (next.Group g) bytes = put_next t s (group_hw g) Ddp bytes is

pub own_next : (t : List Entry) (places : Places) (seats : List Seat) (station : ℕ) (o : Output)
    → AreNext t (entries_of places seats station (next_stamp t) o)
own_next t places seats station (output.Made port to bytes) =
    (tt, leg_next (t ++ Sent station (body bytes) ∷ []) (sender_by seats station (next_stamp t) port) (next_after t (Sent station (body bytes))) places to bytes)
own_next t places seats station (output.Passed port to bytes) =
    leg_next t (sender_by seats station (next_stamp t) port) refl places to bytes
own_next t places seats station (output.Kept port bytes) = (tt, tt)
own_next t places seats station (output.Dropped cause bytes) = (tt, tt)
own_next t places seats station (output.Wire port to bytes) = put_next t (sender_by seats station (next_stamp t) port) to Aarp bytes refl

-- ---- Datagrams that are held

gone_next : (t u : List Entry) (o : Option ℕ) → next_stamp t ≤ next_stamp u → AreNext u (let_go t o)
gone_next t u None le = tt
gone_next t u (Some stamp) le = by (is_open t stamp) refl
  where
    by : (b : Bool) → is_open t stamp ≡ b → AreNext u (losses (cond b (Some stamp) None))
    by true e = let low = open_below t stamp e in (omega (arith, low, le), tt)
    by false e = tt

-- what is let go may follow
pub let_go_next : (t : List Entry) (o : Option ℕ) → AreNext t (let_go t o)
let_go_next t o = gone_next t t o (omega arith)

-- losses leave the next number as it is
pub gone_same : (t u : List Entry) (o : Option ℕ) → next_stamp (u ++ let_go t o) ≡ next_stamp u
gone_same t u None = ap next_stamp (append-nil u)
gone_same t u (Some stamp) = by (is_open t stamp)
  where
    by : (b : Bool) → next_stamp (u ++ losses (cond b (Some stamp) None)) ≡ next_stamp u
    by true = next_after u (Lost stamp)
    by false = ap next_stamp (append-nil u)

asked_next : (t : List Entry) (s : Sender) (o : Option (List ℕ)) → next_stamp t ≡ s.stamp → AreNext t (asked s o)
asked_next t s None is = tt
asked_next t s (Some bytes) is = put_next t s all_hw Aarp bytes is

module _ {X : Type 0} (Holds : X → ℕ → Addr → ℕ → HeldBy → X → Type 0) (station : ℕ) where
  pub waits_next : (t : List Entry) (ws : List Held) (x : X) (es : List Entry) (ks : List (List ℕ)) (y : X)
      → IsHeldBy Holds station t ws x es ks y → AreNext t es
  waits_next t [] x es ks y h = subst (AreNext t) (sym h.0) tt
  waits_next t (w ∷ ws) x es ks y h =
      let hold = held_entry (next_stamp t) station w in
      let u = t ++ hold ∷ [] in
      let up : next_stamp u ≡ suc (next_stamp t) = next_after t hold ∙ above_next (next_stamp t) in
      let gone = let_go t h.0.shed in
      subst (AreNext t) (sym h.2) (
        tt,
        next-append u gone _ (gone_next t u h.0.shed (omega (arith, up)))
            (asked_next (u ++ gone) (record { stamp = suc (next_stamp t); cable = w.cable; station = station }) h.0.ask
            (gone_same t u h.0.shed ∙ up)),
      )

  module _ (places : X → Places) (seats : List Seat) where
    pub outs_next : (t : List Entry) (os : List Output) (x : X) (es : List Entry) (ks : List (List ℕ)) (y : X)
        → GoOut places Holds seats station t os x es ks y → AreNext t es
    outs_next t [] x es ks y h = subst (AreNext t) (sym h.0) tt
    outs_next t (o ∷ os) x es ks y (first, rest, bytes, others, z, step, onward, split, stored) =
        let own = entries_of (places x) seats station (next_stamp t) o in
        let here : AreNext t first =
        subst (AreNext t) (sym step.entries)
        (next-append t own step.more (own_next t (places x) seats station o) (waits_next (t ++ own) _ x step.more step.asks z step.held)) in
        subst (AreNext t) (sym split) (next-append t first rest here (outs_next (t ++ first) os z rest others y onward))

-- ---- Datagrams that are released

named_open : (hs : List Holding) (k : ℕ) (h : Holding) → IsAt hs k h → list_any (has_number h.stamp) hs ≡ true
named_open [] k h e = cc
named_open (d ∷ hs) zero h e =
    let is : d ≡ h = cc in
    rw (ap (has_number h.stamp) is ∙ eq-eqb h.stamp h.stamp refl) refl
named_open (d ∷ hs) (suc k) h e = rw (named_open hs k h e) (or-true (has_number h.stamp d))

-- the frame of a datagram that is held may follow
pub released_next : (t : List Entry) (f : Frame) (h : Holding) → Contains (still_held t) h → f.stamp ≡ h.stamp → AreNext t (Put f ∷ [])
released_next t f h there is =
    let w = contained_at (still_held t) h there in
    (inr (subst (λ n. is_open t n ≡ true) (sym is) (named_open (still_held t) w.0 h w.1)), tt)
