-- Which stations hear which frames on the cables of an internet that passes the audit.
use Rattle.std.proofs.Common.{◌≡◌, ℕ, zero, suc, ◌+◌, ◌++◌, ◌≤◌, ◌%◌, Bool, true, false, not, ◌||◌, ◌&&◌, ◌==◌, if◌then◌else◌, List, []}
use Rattle.std.proofs.Common.{◌∷◌, Option, Some, None}
use Rattle.std.proofs.Common.{length, map, take, refl, sym, ap, ◌∙◌, subst, arith, slice_get, slice_index, eqb-true, eq-eqb, true≢false}
use Rattle.std.specs.List.{list_any}
use Rattle.std.proofs.lemmas.Bool.{and_parts, false_from_ne_true}
use Rattle.at_base.specs.Range.{is_between}
use Rattle.at_base.specs.Text.{same_bytes}
use Rattle.at_base.specs.declared.address.Hw.{Hw}
use Rattle.at_base.proofs.Texts.{same_bytes_is, same_bytes_self}
use Rattle.table_image.specs.Internet.{Internet}
use Rattle.table_image.specs.declared.cable.Cable.{Cable}
use Rattle.table_image.specs.declared.port.Port.{Port}
use Rattle.table_image.specs.declared.router.Router.{Router}
use Rattle.audit.specs.Places.{on}
use Rattle.audit.specs.Routing.{home}
use Rattle.audit.specs.Rules.{Passes}
use Rattle.table_image.specs.Seats.{Seat as PlaceOf, node_seats, port_seat, router_seats, seats}
use Rattle.audit.specs.Walks.{HasPort}
use Rattle.audit.proofs.Finding.{any_from}
use Rattle.audit.proofs.SeatUnique.{addressed, unique}
use Rattle.audit.proofs.WalkFacts.{between_is}
use Rattle.audit.proofs.WalkLists.{index_at, index_found}
use Rattle.audit.proofs.WalkSteps.{cable_good, one_cable}
use Rattle.cable_model.specs.declared.seat.Seat.{Seat}
use Rattle.cable_model.specs.Pending.{is_for, is_heard, listens, pairs_of}
use Rattle.at_base.specs.Multicast.{is_all, is_group}
use Rattle.cable_model.specs.Transcript.{Frame, Put, count}
use Rattle.cable_model.proofs.Counting.{At, any-append, count-map, count_one, filter_one, map_at}
use Rattle.legal_runs.specs.Stations.{cable_holds, cable_seat, cable_seats, is_on}

-- ---- Homes

-- The cable whose range holds a network is its home.
pub home_is : (i : Internet) → Passes i → (n c : ℕ) → cable_holds i c n ≡ true → home i n ≡ Some c
home_is i ok n c h = there (slice_get i.cables c) refl h
  where
    there : (o : Option Cable) → slice_get i.cables c ≡ o → on o (λ c. is_between c.start c.end n) ≡ true → home i n ≡ Some c
    there None e holds = cc
    there (Some cable) e holds =
        let found = index_found (λ c. is_between c.start c.end n) i.cables c cable e holds in
        let w = index_at (λ c. is_between c.start c.end n) i.cables found.0 found.1 in
        let same = one_cable i ok found.0 c w.0 cable n w.1 e w.2 holds in
        found.1 ∙ ap Some same

-- A network is in the range of its home.
pub home_holds : (i : Internet) (n c : ℕ) → home i n ≡ Some c → cable_holds i c n ≡ true
home_holds i n c h =
    let w = index_at (λ c. is_between c.start c.end n) i.cables c h in
    ap (λ o. on o (λ c. is_between c.start c.end n)) w.1 ∙ w.2

-- ---- A router with a port on a cable is on it

any_left : {X : Type 0} (t : X → Bool) (xs ys : List X) → list_any t xs ≡ true → list_any t (xs ++ ys) ≡ true
any_left t xs ys e = any-append t xs ys ∙ ap (λ b. b || list_any t ys) e

any_right : {X : Type 0} (t : X → Bool) (xs ys : List X) → list_any t ys ≡ true → list_any t (xs ++ ys) ≡ true
any_right t xs ys e = any-append t xs ys ∙ last (list_any t xs) (list_any t ys) e
  where
    last : (a b : Bool) → b ≡ true → (a || b) ≡ true
    last true b e = refl
    last false b e = e

ports_on : (r k cable : ℕ) (port : Port) (ports : List Port) → At ports k port → port.cable ≡ cable
    → list_any (λ (s : PlaceOf). s.station == r && s.cable == cable) (map (port_seat r) ports) ≡ true
ports_on r k cable port ports at on =
    any_from (λ (s : PlaceOf). s.station == r && s.cable == cable) (map (port_seat r) ports) k (port_seat r port)
    (map_at (port_seat r) ports k port at) (ap (λ b. b && port.cable == cable) (eq-eqb r r refl) ∙ eq-eqb _ _ on)

routers_on : (m r k cable : ℕ) (router : Router) (port : Port) (routers : List Router) → At routers r router → At router.ports k port
    → port.cable ≡ cable → list_any (λ (s : PlaceOf). s.station == (m + r) && s.cable == cable) (router_seats m routers) ≡ true
routers_on m r k cable router port [] known at on = cc
routers_on m zero k cable router port (q ∷ routers) known at on =
    let s : q ≡ router = cc in
    let here = subst (λ (x : Router). At x.ports k port) (sym s) at in
    let n : m ≡ m + 0 = omega arith in
    any_left (λ (s : PlaceOf). s.station == (m + 0) && s.cable == cable) (map (port_seat m) q.ports) (router_seats (suc m) routers)
    (subst (λ z. list_any (λ (s : PlaceOf). s.station == z && s.cable == cable) (map (port_seat m) q.ports) ≡ true) n
    (ports_on m k cable port q.ports here on))
routers_on m (suc r) k cable router port (q ∷ routers) known at on =
    let n : suc m + r ≡ m + suc r = omega arith in
    any_right (λ (s : PlaceOf). s.station == (m + suc r) && s.cable == cable) (map (port_seat m) q.ports) (router_seats (suc m) routers)
    (subst (λ z. list_any (λ (s : PlaceOf). s.station == z && s.cable == cable) (router_seats (suc m) routers) ≡ true) n
    (routers_on (suc m) r k cable router port routers known at on))

pub port_seated : (i : Internet) (r cable : ℕ) → HasPort i r cable → is_on i r cable ≡ true
port_seated i r cable h =
    any_left (λ (s : PlaceOf). s.station == r && s.cable == cable) (router_seats 0 i.routers) (node_seats (length i.routers) i.nodes)
    (subst (λ z. list_any (λ (s : PlaceOf). s.station == z && s.cable == cable) (router_seats 0 i.routers) ≡ true) (omega arith)
    (routers_on 0 r h.place cable h.router h.port i.routers h.known h.at h.on))

module _ (i : Internet) (ok : Passes i) where
  -- A listed network isn't 0.
  pub listed_some : (n c : ℕ) → home i n ≡ Some c → 1 ≤ n
  listed_some n c h =
      let w = index_at (λ c. is_between c.start c.end n) i.cables c h in
      let within = between_is w.0.start w.0.end n w.2 in
      let low = (cable_good i ok c w.0 w.1).low in
      omega (arith, within, low)

  -- ---- Seats

  -- A station has at most one seat on a cable.
  pub one_seat : (cable station : ℕ) → count (λ s. s.cable == cable && s.station == station) (cable_seats i) ≤ 1
  one_seat cable station =
      let moved = count-map (λ (s : Seat). s.cable == cable && s.station == station) (cable_seat i) (seats i) in
      let few = count_one (λ (s : PlaceOf). s.cable == cable && s.station == station) (seats i) (λ j k s t ej ek ps pt.
      let a = and_parts (s.cable == cable) (s.station == station) ps in
      let b = and_parts (t.cable == cable) (t.station == station) pt in
      (unique i ok).by_station j k s t ej ek (eqb-true _ _ a.1 ∙ sym (eqb-true _ _ b.1)) (eqb-true _ _ a.0 ∙ sym (eqb-true _ _ b.0))) in
      omega (arith, moved, few)

  -- A seat's hardware address is neither the broadcast address nor a group's.
  single_first : (h : Hw) (rest : List ℕ) → (slice_index h.0 0 % 2 == 1) ≡ false → h.0 ≡ 9 ∷ rest → ⊥
  single_first h rest single e =
      let first : slice_index h.0 0 ≡ 9 = ap (λ bytes. slice_index bytes 0) e in
      true≢false (sym (ap (λ n. n % 2 == 1) first) ∙ single)

  pub not_all : (h : Hw) → (slice_index h.0 0 % 2 == 1) ≡ false → is_all h ≡ false
  not_all h single = false_from_ne_true (is_all h) (λ e. absurd (single_first h _ single (same_bytes_is _ _ e)))

  pub not_group : (h : Hw) → (slice_index h.0 0 % 2 == 1) ≡ false → is_group h ≡ false
  not_group h single =
      false_from_ne_true (is_group h) (λ e.
      let front = same_bytes_is _ _ (and_parts (same_bytes (take 5 h.0) _) _ e).0 in
      absurd (odd h.0 single front))
    where
      odd : (bytes : List ℕ) → (slice_index bytes 0 % 2 == 1) ≡ false → take 5 bytes ≡ 9 ∷ 0 ∷ 7 ∷ 0 ∷ 0 ∷ [] → ⊥
      odd [] s e = cc
      odd (b ∷ bytes) s e =
          let first : b ≡ 9 = ap (λ bytes. slice_index bytes 0) e in
          true≢false (sym (ap (λ n. n % 2 == 1) first) ∙ s)

  -- A frame to one hardware address is for the seats that have that address.
  pub for_one : (to : Hw) (sender : ℕ) (s : Seat) → is_all to ≡ false → is_group to ≡ false → is_for to sender s ≡ same_bytes s.hw.0 to.0
  for_one to sender s all group =
      ap (λ b. if b then not (s.station == sender) else if is_group to then not (s.station == sender) && listens
      (slice_index to.0 5) s.group else same_bytes s.hw.0 to.0) all
      ∙ ap (λ b. if b then not (s.station == sender) && listens (slice_index to.0 5) s.group else same_bytes s.hw.0 to.0) group

  -- A frame to the hardware address of a seat on its cable is heard only by that seat.
  pub heard_alone : (f : Frame) (k : ℕ) (s : PlaceOf) → At (seats i) k s → s.cable ≡ f.cable → s.hardware.0 ≡ f.to.0
      → pairs_of (cable_seats i) (Put f) ≡ record { frame = f; seat = cable_seat i s } ∷ []
  heard_alone f k s at cable hw =
      ap (map (λ (seat : Seat). record { frame = f; seat = seat }))
      (filter_one (is_heard f) (cable_seats i) k (cable_seat i s) few (map_at (cable_seat i) (seats i) k s at) mine)
    where
      single : (slice_index f.to.0 0 % 2 == 1) ≡ false
      single = ap (λ bytes. slice_index bytes 0 % 2 == 1) (sym hw) ∙ (addressed i ok k s at).single

      is_mine : (t : Seat) → is_heard f t ≡ (t.cable == f.cable && same_bytes t.hw.0 f.to.0)
      is_mine t = ap (λ b. t.cable == f.cable && b) (for_one f.to f.sender t (not_all f.to single) (not_group f.to single))

      mine : is_heard f (cable_seat i s) ≡ true
      mine = is_mine (cable_seat i s) ∙ (ap (λ b. b && same_bytes s.hardware.0 f.to.0) (eq-eqb _ _ cable)
          ∙ (ap (λ bytes. same_bytes bytes f.to.0) hw ∙ same_bytes_self f.to.0))

      few : count (is_heard f) (cable_seats i) ≤ 1
      few =
          let moved = count-map (is_heard f) (cable_seat i) (seats i) in
          let one = count_one (λ s. is_heard f (cable_seat i s)) (seats i) (λ j l a b ej el pa pb.
          let x = and_parts (a.cable == f.cable) (same_bytes a.hardware.0 f.to.0) (sym (is_mine (cable_seat i a)) ∙ pa) in
          let y = and_parts (b.cable == f.cable) (same_bytes b.hardware.0 f.to.0) (sym (is_mine (cable_seat i b)) ∙ pb) in
          let same : a.hardware.0 ≡ b.hardware.0 = same_bytes_is _ _ x.1 ∙ sym (same_bytes_is _ _ y.1) in
          (unique i ok).by_hardware j l a b ej el (eqb-true _ _ x.0 ∙ sym (eqb-true _ _ y.0))
          (ap (λ bytes. same_bytes bytes b.hardware.0) same ∙ same_bytes_self b.hardware.0)) in
          omega (arith, moved, one)
