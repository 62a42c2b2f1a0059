-- The counts of bodies that a leg adds, by its receiver.
use Rattle.std.proofs.Common.{◌≡◌, ℕ, ◌+◌, ◌<◌, ◌≤◌, inl, inr, Bool, true, false, not, ◌&&◌, ◌==◌, cond, [], ◌∷◌, Option, Some, None}
use Rattle.std.proofs.Common.{length, refl, sym, ap, ◌∙◌, subst, arith, true≢false, eqb-true, eq-eqb, lt-ltb, is_some}
use Rattle.std.proofs.lemmas.Bool.{and_parts, cases_eq, false_from_ne_true, ne_eqb}
use Rattle.at_base.specs.Address.{same_address}
use Rattle.at_base.specs.Range.{is_between}
use Rattle.at_base.specs.declared.address.Addr.{Addr}
use Rattle.ddp.specs.Bodies.{body, target}
use Rattle.table_image.specs.Internet.{Internet}
use Rattle.audit.specs.Places.{on}
use Rattle.audit.specs.Routing.{distance, home, owner}
use Rattle.audit.specs.Rules.{Passes}
use Rattle.table_image.specs.Seats.{Seat as PlaceOf, seat_at, seats}
use Rattle.audit.proofs.Finding.{any_at, any_from}
use Rattle.audit.proofs.SeatUnique.{addressed, unique}
use Rattle.audit.proofs.WalkFacts.{owner_is}
use Rattle.audit.proofs.WalkLists.{at_one, find_at}
use Rattle.cable_model.specs.Outcomes.{framed, leg as leg_on, to_other, to_target}
use Rattle.cable_model.specs.Transcript.{Reached}
use Rattle.cable_model.specs.declared.entry.How.TheVariants as how
use Rattle.station.specs.declared.heard.Kind.TheVariants.{Ddp}
use Rattle.at_base.specs.Multicast.{all_hw, group_hw, is_all, is_group}
use Rattle.cable_model.proofs.Counting.{At}
use Rattle.legal_runs.specs.Answers.{MayLeave, Straight, ByRouter, ToThem, OnCable, ToThese}
use Rattle.legal_runs.specs.Legs.{Leg, found_at, is_datagram, leg, leg_bytes, places_of, sender}
use Rattle.legal_runs.specs.Stations.{cable_holds, cable_seat, has_address, is_on, is_router}
use Rattle.legal_runs.proofs.Does.{Does, copy_is, does_arrive, does_end, does_go, does_stay, none_alone, none_at_all, frame_to}
use Rattle.legal_runs.proofs.Frames.{Whole, target_stays}
use Rattle.legal_runs.proofs.Tests.{all_three, three_are}
use Rattle.legal_runs.proofs.Seated.{home_is, listed_some, not_all, not_group}
use Rattle.station.specs.declared.output.Next.{Next}
use Rattle.station.specs.declared.output.Next.TheVariants as next

-- ---- Equal addresses

abbrev address_of : ℕ → ℕ → Addr
address_of net node = record { net = net; node = node }

pub same_address_is : (a b : Addr) → same_address a b ≡ true → a ≡ b
same_address_is a b e =
    let h = and_parts (a.net == b.net) (a.node == b.node) e in
    let net : a.net ≡ b.net = eqb-true _ _ h.0 in
    let node : a.node ≡ b.node = eqb-true _ _ h.1 in
    ap (λ n. address_of n a.node) net ∙ ap (address_of b.net) node

pub same_address_self : (a : Addr) → same_address a a ≡ true
same_address_self a = ap (λ b. b && a.node == a.node) (eq-eqb a.net _ refl) ∙ eq-eqb a.node _ refl

-- A seat with this address on a cable.
pub record SeatThere (i : Internet) (cable : ℕ) (a : Addr) (s : PlaceOf) : Type 0 where
  pub place : ℕ
  pub at : At (seats i) place s
  pub cable_is : s.cable ≡ cable
  pub address : s.address ≡ a

pub seat_there : (i : Internet) (cable : ℕ) (a : Addr) (s : PlaceOf) → seat_at i cable a ≡ Some s → SeatThere i cable a s
seat_there i cable a s e =
    let w = find_at (λ s. s.cable == cable && same_address s.address a) (seats i) s e in
    let h = and_parts (s.cable == cable) (same_address s.address a) w.2 in
    record { place = w.0; at = w.1; cable_is = eqb-true _ _ h.0; address = same_address_is s.address a h.1 }

module _ (i : Internet) (ok : Passes i) where
  -- A seat's address is at home on its cable.
  pub seat_home : (cable : ℕ) (a : Addr) (s : PlaceOf) → SeatThere i cable a s → home i a.net ≡ Some cable
  seat_home cable a s w =
      let g = addressed i ok w.place s w.at in
      let holds : cable_holds i s.cable s.address.net ≡ true = ap (λ o. on o (λ c. is_between c.start c.end s.address.net)) g.known
      ∙ g.holds in
      let there = home_is i ok s.address.net s.cable holds in
      ap (λ (a : Addr). home i a.net) (sym w.address) ∙ (there ∙ ap Some w.cable_is)

  -- A seat's station has the seat's address on that cable.
  pub has_own : (s : PlaceOf) (k : ℕ) → At (seats i) k s → has_address i s.station s.cable s.address ≡ true
  has_own s k at =
      any_from (λ (t : PlaceOf). t.station == s.station && t.cable == s.cable && same_address s.address t.address) (seats i) k s at
      (three_are (s.station == s.station) (s.cable == s.cable) (same_address s.address s.address) (eq-eqb s.station _ refl)
      (eq-eqb s.cable _ refl) (same_address_self s.address))

  -- A seat's station has no other address on that cable.
  pub has_no_other : (s : PlaceOf) (k : ℕ) (a : Addr) → At (seats i) k s → same_address a s.address ≡ false
      → has_address i s.station s.cable a ≡ false
  has_no_other s k a at apart =
      false_from_ne_true (has_address i s.station s.cable a) (λ e.
      let w = any_at (λ (t : PlaceOf). t.station == s.station && t.cable == s.cable && same_address a t.address) (seats i) e in
      let h = all_three (w.1.station == s.station) (w.1.cable == s.cable) (same_address a w.1.address) w.3 in
      let same : w.0 ≡ k = (unique i ok).by_station w.0 k w.1 s w.2 at (eqb-true _ _ h.0) (eqb-true _ _ h.1) in
      let one : w.1 ≡ s = at_one (seats i) k w.1 s (subst (λ n. At (seats i) n w.1) same w.2) at in
      true≢false (sym (ap (λ (t : PlaceOf). same_address a t.address) (sym one) ∙ h.2) ∙ apart))

-- ---- The entries of a leg, by its next receiver

module _ (i : Internet) (stamp : ℕ) (l : Leg) where
  by_next : (n : Next) → l.next ≡ n → leg i stamp l ≡ leg_on (places_of i) (sender stamp l) n (leg_bytes l)
  by_next n e = ap (λ n. leg_on (places_of i) (sender stamp l) n (leg_bytes l)) e

  pub to_group : (g : ℕ) → l.next ≡ next.Group g
      → leg i stamp l ≡ framed (sender stamp l) (group_hw g) Ddp (leg_bytes l) ∷ []
  to_group g e = by_next (next.Group g) e

  -- Hops don't change whom a datagram is for, so that its body tells it.
  module _ (few : l.hops ≤ 15) where
    pub to_station : (a : Addr) → l.next ≡ next.Station a
        → leg i stamp l ≡ cond (same_address (target l.body) a)
        (to_target (sender stamp l) (leg_bytes l) (found_at (seat_at i l.cable a)))
        (to_other (sender stamp l) (leg_bytes l) (found_at (seat_at i l.cable a)))
    to_station a e =
        by_next (next.Station a) e
        ∙ ap (λ t. cond (same_address t a) (to_target (sender stamp l) (leg_bytes l) (found_at (seat_at i l.cable a)))
        (to_other (sender stamp l) (leg_bytes l) (found_at (seat_at i l.cable a)))) (target_stays l.hops few l.body)

    pub to_everybody : l.next ≡ next.All
        → leg i stamp l ≡ cond (is_some (home i (target l.body).net))
        (Reached l.cable l.station how.All (body (leg_bytes l)) ∷ framed (sender stamp l) all_hw Ddp (leg_bytes l) ∷ [])
        (framed (sender stamp l) all_hw Ddp (leg_bytes l) ∷ [])
    to_everybody e =
        by_next next.All e
        ∙ ap (λ (t : Addr). cond (is_some (home i t.net))
        (Reached l.cable l.station how.All (body (leg_bytes l)) ∷ framed (sender stamp l) all_hw Ddp (leg_bytes l) ∷ [])
        (framed (sender stamp l) all_hw Ddp (leg_bytes l) ∷ [])) (target_stays l.hops few l.body)

-- ---- Legs

module _ (i : Internet) (ok : Passes i) (N A : ℕ → Type 0) where
  -- A leg to its target, at a seat that exists.
  to_there : (stamp : ℕ) (l : Leg) (whole : Whole l.body) (few : l.hops ≤ 15) (seated : is_on i l.station l.cable ≡ true) (s : PlaceOf)
      → SeatThere i l.cable (target l.body) s → A l.cable
      → Does i N A l.body l.hops (to_target (sender stamp l) (leg_bytes l) (found_at (Some s)))
  to_there stamp l whole few seated s w there =
      does_arrive i ok N A stamp l whole few seated how.Station s.hardware (seat_home i ok l.cable (target l.body) s w) there
      (none_alone i ok N A (frame_to i ok N A stamp l whole few seated s.hardware) w.place s w.at w.cable_is refl
      (copy_is i ok N A stamp l whole few seated s.hardware (cable_seat i s) ∙ last _ own))
    where
      own : has_address i s.station s.cable (target l.body) ≡ true
      own = ap (has_address i s.station s.cable) (sym w.address) ∙ has_own i ok s w.place w.at

      last : (a : Bool) → has_address i s.station s.cable (target l.body) ≡ true
          → (a && not (has_address i s.station s.cable (target l.body))) ≡ false
      last a e = ap (λ b. a && not b) e ∙ none a
        where
          none : (a : Bool) → (a && false) ≡ false
          none true = refl
          none false = refl

  -- A leg to its target, which may not exist.
  straight : (stamp : ℕ) (l : Leg) (whole : Whole l.body) (few : l.hops ≤ 15) (seated : is_on i l.station l.cable ≡ true) → home i
      (target l.body).net ≡ Some l.cable → A l.cable
      → (o : Option PlaceOf) → seat_at i l.cable (target l.body) ≡ o
      → Does i N A l.body l.hops (to_target (sender stamp l) (leg_bytes l) (found_at o))
  straight stamp l whole few seated home_is there None e =
      does_end i ok N A stamp l whole few seated how.Absent home_is there
  straight stamp l whole few seated home_is there (Some s) e =
      to_there stamp l whole few seated s (seat_there i l.cable (target l.body) s e) there

  -- A leg to a router that isn't its target.
  onward : (stamp : ℕ) (l : Leg) (whole : Whole l.body) (few : l.hops ≤ 15) (seated : is_on i l.station l.cable ≡ true) (a : Addr)
      (s : PlaceOf) → SeatThere i l.cable a s
      → s.station < length i.routers → same_address (target l.body) a ≡ false
      → ((c : ℕ) → home i (target l.body).net ≡ Some c → l.hops + distance i s.station (target l.body).net ≤ 14) → N s.station
      → Does i N A l.body l.hops (to_other (sender stamp l) (leg_bytes l) (found_at (Some s)))
  onward stamp l whole few seated a s w router apart near next =
      elim (cases_eq (target l.body).net 0) [
        | inl none ↦ does_stay i ok N A stamp l whole few seated s.hardware none
        | inr some ↦
            does_go i ok N A stamp l whole few seated w.place s w.at w.cable_is
            (copy_is i ok N A stamp l whole few seated s.hardware (cable_seat i s)
            ∙ all_true (is_all s.hardware) (is_group s.hardware) (is_router i s.station) ((target l.body).net == 0)
            (has_address i s.station s.cable (target l.body))
            (not_all i ok s.hardware (addressed i ok w.place s w.at).single)
            (not_group i ok s.hardware (addressed i ok w.place s w.at).single)
            (lt-ltb _ _ router) (ne_eqb _ _ some)
            (has_no_other i ok s w.place (target l.body) w.at (ap (same_address (target l.body)) w.address ∙ apart))) near next
      ]
    where
      all_true : (a g r z h : Bool) → a ≡ false → g ≡ false → r ≡ true → z ≡ false → h ≡ false
          → (is_datagram Ddp && (not a && not g) && r && not z && not h) ≡ true
      all_true false false true false false ea eg er ez eh = refl
      all_true true g r z h ea eg er ez eh = cc
      all_true false true r z h ea eg er ez eh = cc
      all_true false false false z h ea eg er ez eh = cc
      all_true false false true true h ea eg er ez eh = cc
      all_true false false true false true ea eg er ez eh = cc

  pub leg_does : (stamp : ℕ) (l : Leg) → Whole l.body → l.hops ≤ 15 → is_on i l.station l.cable ≡ true → MayLeave i l
      → ((a : Addr) (r c : ℕ) → l.next ≡ next.Station a → owner i l.cable a ≡ Some r → same_address (target l.body) a ≡ false
      → home i (target l.body).net ≡ Some c → l.hops + distance i r (target l.body).net ≤ 14)
      → (home i (target l.body).net ≡ Some l.cable → A l.cable)
      → ((a : Addr) (r : ℕ) → l.next ≡ next.Station a → owner i l.cable a ≡ Some r → same_address (target l.body) a ≡ false → N r)
      → Does i N A l.body l.hops (leg i stamp l)
  leg_does stamp l whole few seated (Straight e on single one) near there next =
      let found = found_at (seat_at i l.cable (target l.body)) in
      subst (Does i N A l.body l.hops) (sym (to_station i stamp l few (target l.body) e))
      (subst (λ b. Does i N A l.body l.hops
      (cond b (to_target (sender stamp l) (leg_bytes l) found) (to_other (sender stamp l) (leg_bytes l) found)))
      (sym (same_address_self (target l.body)))
      (straight stamp l whole few seated (home_is i ok (target l.body).net l.cable on)
      (there (home_is i ok (target l.body).net l.cable on)) (seat_at i l.cable (target l.body)) refl))
  leg_does stamp l whole few seated (ByRouter a r e own some) near there next =
      let w = owner_is i l.cable a r own in
      let s = w.0.0 in
      let place = seat_there i l.cable a s w.0.1 in
      subst (Does i N A l.body l.hops) (sym (to_station i stamp l few a e))
      (subst (λ o. Does i N A l.body l.hops (cond (same_address (target l.body) a)
      (to_target (sender stamp l) (leg_bytes l) (found_at o)) (to_other (sender stamp l) (leg_bytes l) (found_at o))))
      (sym w.0.1)
      ((elim (same_address (target l.body) a) as (λ b. same_address (target l.body) a ≡ b
      → Does i N A l.body l.hops (cond b (to_target (sender stamp l) (leg_bytes l) (found_at (Some s)))
      (to_other (sender stamp l) (leg_bytes l) (found_at (Some s))))) [
        | true ↦ λ same. (let mine = at_target (same_address_is (target l.body) a same) place in
            to_there stamp l whole few seated s mine (there (seat_home i ok l.cable (target l.body) s mine)))
        | false ↦ λ apart.
            let router : s.station < length i.routers = subst (λ n. n < length i.routers) (sym w.0.2) w.1 in
            onward stamp l whole few seated a s place router apart (λ c h.
            let far = near a r c e own apart h in
            let dist = ap (λ x. distance i x (target l.body).net) w.0.2 in
            omega (arith, far, dist)) (subst N (sym w.0.2) (next a r e own apart))
      ]) refl))
    where
      at_target : {s : PlaceOf} {a : Addr} → target l.body ≡ a → SeatThere i l.cable a s → SeatThere i l.cable (target l.body) s
      at_target {s} {a} e w = subst (λ x. SeatThere i l.cable x s) (sym e) w
  leg_does stamp l whole few seated (ToThem e on all) near there next =
      let home_is_there = home_is i ok (target l.body).net l.cable on in
      subst (Does i N A l.body l.hops) (sym (to_everybody i stamp l few e))
      (subst (λ o. Does i N A l.body l.hops (cond (is_some o)
      (Reached l.cable l.station how.All (body (leg_bytes l)) ∷ framed (sender stamp l) all_hw Ddp (leg_bytes l) ∷ [])
      (framed (sender stamp l) all_hw Ddp (leg_bytes l) ∷ [])))
      (sym home_is_there)
      (does_arrive i ok N A stamp l whole few seated how.All all_hw home_is_there (there home_is_there)
      (none_at_all i ok N A (frame_to i ok N A stamp l whole few seated all_hw) (λ s. refl))))
  leg_does stamp l whole few seated (OnCable e none all) near there next =
      subst (Does i N A l.body l.hops) (sym (to_everybody i stamp l few e))
      (by (home i (target l.body).net) refl)
    where
      by : (o : Option ℕ) → home i (target l.body).net ≡ o
          → Does i N A l.body l.hops (cond (is_some o)
          (Reached l.cable l.station how.All (body (leg_bytes l))
          ∷ framed (sender stamp l) all_hw Ddp (leg_bytes l) ∷ [])
          (framed (sender stamp l) all_hw Ddp (leg_bytes l) ∷ []))
      by None h = does_stay i ok N A stamp l whole few seated all_hw none
      by (Some c) h = let low = listed_some i ok (target l.body).net c h in absurd (omega (arith, low, none))
  leg_does stamp l whole few seated (ToThese g lt e none all) near there next =
      subst (Does i N A l.body l.hops) (sym (to_group i stamp l g e))
      (does_stay i ok N A stamp l whole few seated (group_hw g) none)
