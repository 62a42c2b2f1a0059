-- In a tick in which rows age, each router tells of each row of its own that another router's row goes by.
use Rattle.std.proofs.Common.{◌≡◌, inl, inr, ℕ, zero, suc, ◌+◌, ◌*◌, ◌<◌, ◌≤◌, ◌==◌, Bool, true, false, not, ◌||◌, ◌&&◌, if◌then◌else◌}
use Rattle.std.proofs.Common.{List, [], ◌∷◌, Option, Some, None, refl, sym, ap, ◌∙◌, subst, slice_get, length, filter, take, drop, arith, nat_lt, eqb-true, eq-eqb, true≢false, find, ◌-◌}
use Rattle.std.proofs.lemmas.Bool.{and_parts, cases_Bool, cases_lt, lt-ltb}
use Rattle.std.proofs.lemmas.Option.{same_Some}
use Rattle.audit.proofs.WalkLists.{At, at_below, at_one, at_within, find_at, find_found}
use Rattle.audit.proofs.WalkSteps.{owner_has_port}
use Rattle.audit.specs.Routing.{owner}
use Rattle.audit.specs.Rules.{Passes, same_row}
use Rattle.lasting.proofs.Images.{dropped}
use Rattle.rtmp.specs.Sending.{rows_sent}
use Rattle.rtmp.specs.declared.request.Horizon.TheVariants.{Split}
use Rattle.rtmp.specs.declared.row.Row.{Row as RouteRow}
use Rattle.settled.proofs.Next.{near_enough, offered_by_next, same_when, step}
use Rattle.settled.proofs.Tests.{any_at}
use Rattle.settled.specs.Exchange.{AreMovedRows, image_row}
use Rattle.settled.specs.Moved.{IsMoved}
use Rattle.settled.specs.Offers.{is_on, leaves_by, same_range}
use Rattle.settled.specs.Settling.{IsSettled}
use Rattle.table_image.specs.Bounds.{IsBounded}
use Rattle.table_image.specs.Internet.{Internet}
use Rattle.table_image.specs.Rows.{is_direct}
use Rattle.table_image.specs.declared.port.Port.{Port}
use Rattle.table_image.specs.declared.router.Router.{Router}
use Rattle.table_image.specs.declared.row.Row.{Row}

-- what passes a filter is left, at a place no later
kept_at : {X : Type 0} (f : X → Bool) (xs : List X) (k : ℕ) (x : X) → At xs k x → f x ≡ true → (j : ℕ) × At (filter f xs) j x
kept_at f [] k x e t = cc
kept_at f (y ∷ xs) zero x e t =
    let is : y ≡ x = cc in
    (zero, ap (λ b. slice_get (if b then y ∷ filter f xs else filter f xs) zero) (ap f is ∙ t) ∙ e)
kept_at f (y ∷ xs) (suc k) x e t =
    let w = kept_at f xs k x e t in
    elim (f y) as (λ b. (j : ℕ) × At (if b then y ∷ filter f xs else filter f xs) j x) [
      | true ↦ (suc w.0, w.1)
      | false ↦ w
    ]

fewer : {X : Type 0} (f : X → Bool) (xs : List X) → length (filter f xs) ≤ length xs
fewer f [] = omega arith
fewer f (x ∷ xs) =
    let w = fewer f xs in
    elim (f x) as (λ b. length (if b then x ∷ filter f xs else filter f xs) ≤ suc (length xs)) [
      | true ↦ omega (arith, w)
      | false ↦ omega (arith, w)
    ]

taken : {X : Type 0} (n : ℕ) (xs : List X) (k : ℕ) (x : X) → k < n → At xs k x → At (take n xs) k x
taken zero xs k x lt e = absurd (omega (arith, lt))
taken (suc n) [] k x lt e = cc
taken (suc n) (y ∷ xs) zero x lt e = e
taken (suc n) (y ∷ xs) (suc k) x lt e = taken n xs k x (omega (arith, lt)) e

-- the packet that has a row which is sent by a port
pub record IsInPacket (q : ℕ) (rows : List RouteRow) (c : RouteRow) : Type 0 where
  pub m : ℕ
  pub few : m < 3
  pub there : (m == 0 || nat_lt (m * 96) (length (rows_sent Split q rows))) ≡ true
  pub j : ℕ
  pub at : At (take 96 (drop (m * 96) (rows_sent Split q rows))) j c

or_true : (b : Bool) → (b || true) ≡ true
or_true true = refl
or_true false = refl

-- each row that doesn't leave by the port is in a packet, of a table of at most 200 rows
pub in_packet : (q : ℕ) (rows : List RouteRow) (k : ℕ) (c : RouteRow) → length rows ≤ 200 → At rows k c → (c.port == q) ≡ false → IsInPacket q rows c
in_packet q rows k c few e off =
    let sent = rows_sent Split q rows in
    let at = kept_at (λ (r : RouteRow). not (r.port == q)) rows k c e (ap not off) in
    let less = fewer (λ (r : RouteRow). not (r.port == q)) rows in
    let low = at_within sent at.0 c at.1 in
    by at.0 at.1 low (omega (arith, low, less, few))
  where
    window : (m j n : ℕ) → n ≡ m * 96 + j → j < 96 → m < 3 → At (rows_sent Split q rows) n c → n < length (rows_sent Split q rows) → IsInPacket q rows c
    window m j n is lt few e low = record {
      m = m;
      few = few;
      there = first m (omega (arith, is, low));
      j = j;
      at = taken 96 (drop (m * 96) (rows_sent Split q rows)) j c lt (dropped (m * 96) (rows_sent Split q rows) j ∙ (ap (slice_get (rows_sent Split q rows)) (sym is) ∙ e));
    }
      where
        first : (m : ℕ) → m * 96 < length (rows_sent Split q rows) → (m == 0 || nat_lt (m * 96) (length (rows_sent Split q rows))) ≡ true
        first m lt = ap (λ b. m == 0 || b) (lt-ltb (m * 96) (length (rows_sent Split q rows)) lt) ∙ or_true (m == 0)

    by : (n : ℕ) → At (rows_sent Split q rows) n c → n < length (rows_sent Split q rows) → n < 200 → IsInPacket q rows c
    by n e low small =
        elim (cases_lt n 96) [
          | inl lt ↦ window 0 n n (omega arith) lt (omega arith) e low
          | inr le ↦ elim (cases_lt n 192) [
            | inl lt ↦ let j : ℕ = n - 96 in window 1 j n (omega (arith, le)) (omega (arith, lt, le)) (omega arith) e low
            | inr ge ↦ let j : ℕ = n - 192 in window 2 j n (omega (arith, ge)) (omega (arith, small, ge)) (omega arith) e low
          ]
        ]

module _ (i : Internet) (ok : Passes i) (settled : IsSettled i) (bounded : IsBounded i) where
  -- The next router of a row has a port on the row's cable, and by rows that its rows may be it tells there of the row's
  -- range, one nearer.
  pub record IsNextTelling (r : ℕ) (x : Router) (row : Row) : Type 0 where
    pub s : ℕ
    pub other : s ≡ r → ⊥
    pub port : Port
    pub port_at : At x.ports row.port port
    pub their : Router
    pub their_at : At i.routers s their
    pub q : ℕ
    pub theirs : Port
    pub theirs_at : At their.ports q theirs
    pub shared : theirs.cable ≡ port.cable
    pub tells : (rows : List RouteRow) → AreMovedRows i s their rows
        → (c : RouteRow) × (c.range.start ≡ row.start) × (c.distance + 1 ≡ row.distance) × IsInPacket q rows c

  pub next_tells : (r k : ℕ) (x : Router) (row : Row) → At i.routers r x → At x.rows k row → is_direct row ≡ false → IsNextTelling r x row
  next_tells r k x row er ek indirect =
      let w = offered_by_next i ok settled r k x row er ek indirect in
      let f = find_found (λ (p : Port). p.cable == w.port.cable) w.their.ports w.on_cable in
      let g = find_at (λ (p : Port). p.cable == w.port.cable) w.their.ports f.0 f.1 in
      let shared : f.0.cable ≡ w.port.cable = eqb-true f.0.cable w.port.cable g.2 in
      record {
        port = w.port;
        port_at = w.port_at;
        s = w.next;
        other = λ same.
            let v = step i ok r k x row er ek indirect in
            let port : v.port ≡ w.port = at_one x.ports row.port v.port w.port v.port_at w.port_at in
            let next : v.next ≡ w.next =
            same_Some v.next w.next (sym v.owned ∙ (ap (λ (p : Port). owner i p.cable row.next) port ∙ w.owned)) in
            true≢false (sym (eq-eqb r v.next (sym same ∙ sym next)) ∙ v.other);
        their = w.their;
        their_at = w.their_at;
        q = g.0;
        theirs = f.0;
        theirs_at = g.1;
        shared = shared;
        tells = λ rows moved.
            let low = at_within w.their.rows w.place w.offered w.offered_at in
            let many = moved.count in
            let c = at_below rows w.place (omega (arith, low, many)) in
            let m = moved.each w.place w.offered c.0 w.offered_at c.1 in
            let offer = and_parts _ _ w.offer in
            let parts = and_parts _ _ offer.0 in
            let range = and_parts (w.offered.start == row.start) (w.offered.end == row.end) parts.0 in
            let near = w.nearer in
            let same = m.distance in (
              c.0,
              sym m.start ∙ eqb-true w.offered.start row.start range.0,
              omega (arith, near, same),
              in_packet g.0 rows w.place c.0 moved.table.few c.1
                  (off w.port w.port_at w.their w.next w.their_at w.place w.offered w.offered_at parts.0 w.nearer offer.1 g.0 f.0 g.1 shared w.next c.0 m),
            );
      }
    where
      off : (port : Port) → At x.ports row.port port → (their : Router) (s : ℕ) → At i.routers s their → (l : ℕ) (o : Row) → At their.rows l o
          → same_range o row ≡ true → o.distance + 1 ≡ row.distance → not (leaves_by port.cable their o) ≡ true
          → (q : ℕ) (theirs : Port) → At their.ports q theirs → theirs.cable ≡ port.cable → (t : ℕ) (c : RouteRow) → IsMoved i t their o (image_row c)
          → (c.port == q) ≡ false
      off port ep their s es l o el range near away q theirs eq shared t c m =
          elim (cases_Bool (c.port == q)) [
            | inr off_it ↦ off_it
            | inl on_it ↦ absurd (by (is_direct (image_row c)) refl (eqb-true c.port q on_it))
          ]
        where
          by : (d : Bool) → is_direct (image_row c) ≡ d → c.port ≡ q → ⊥
          by true direct here =
              let port_same : o.port ≡ q = m.stays (m.direct ∙ direct) ∙ here in
              let leaves : leaves_by port.cable their o ≡ true =
              ap (λ z. Rattle.audit.specs.Places.on z (λ (p : Port). p.cable == port.cable)) (ap (slice_get their.ports) port_same ∙ eq)
              ∙ eq-eqb theirs.cable port.cable shared in
              true≢false (sym away ∙ ap not leaves)
          by false far here =
              let v = m.leads far in
              let is : v.port ≡ theirs = at_one their.ports q v.port theirs (subst (λ n. At their.ports n v.port) here v.port_at) eq in
              let cable : v.port.cable ≡ port.cable = ap (λ (p : Port). p.cable) is ∙ shared in
              let has = owner_has_port i v.port.cable c.next v.next v.owned in
              let found = by_router (slice_get i.routers v.next) refl v.found in
              let u = find_at (λ (z : Row). z.start == c.range.start && z.end == c.range.end) found.0.rows v.nearer found.2 in
              let router : has.router ≡ found.0 = at_one i.routers v.next has.router found.0 has.known found.1 in
              let on_it : is_on port.cable found.0 ≡ true =
              any_at (λ (p : Port). p.cable == port.cable) found.0.ports has.place has.port
              (subst (λ (z : Router). At z.ports has.place has.port) router has.at) (eq-eqb has.port.cable port.cable (has.on ∙ cable)) in
              let ends = and_parts (v.nearer.start == c.range.start) (v.nearer.end == c.range.end) u.2 in
              let mine = and_parts (o.start == row.start) (o.end == row.end) range in
              let like : same_range v.nearer row ≡ true =
              same_when v.nearer row (eqb-true _ _ ends.0 ∙ (sym m.start ∙ eqb-true _ _ mine.0)) (eqb-true _ _ ends.1 ∙ (sym m.end ∙ eqb-true _ _ mine.1)) in
              let enough = near_enough i ok settled r k x row er ek indirect row.port port ep v.next u.0 found.0 v.nearer found.1 u.1 on_it like in
              let less = v.one_less in
              let same = m.distance in
              absurd (omega (arith, enough, less, same, near))
            where
              by_router : (z : Option Router) → slice_get i.routers (m.leads far).next ≡ z → same_row z (image_row c) ≡ Some (m.leads far).nearer
                  → (y : Router) × At i.routers (m.leads far).next y
                  × (find (λ (z : Row). z.start == c.range.start && z.end == c.range.end) y.rows ≡ Some (m.leads far).nearer)
              by_router None e f = cc
              by_router (Some y) e f = (y, e, f)
