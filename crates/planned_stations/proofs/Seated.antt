-- The stations of a sound plan have the seats that their ports need.
use Rattle.std.proofs.Common.{◌≡◌, ◌⊎◌, inl, inr, ℕ, zero, suc, ◌+◌, ◌-◌, ◌<◌, ◌≤◌, Bool, true, false, not, ◌&&◌, ◌==◌, IsTrue}
use Rattle.std.proofs.Common.{List, [], ◌∷◌, ◌++◌, Option, Some, None, map, length, slice_get, nat_le}
use Rattle.std.proofs.Common.{refl, sym, ap, ◌∙◌, subst, arith, append_assoc, eqb-true, eq-eqb}
use Rattle.std.specs.List.{list_all, AllByRecursion as Each}
use Rattle.std.proofs.lemmas.Bool.{and_parts, and_from, and_right, not-true, false_from_ne_true}
use Rattle.at_base.specs.Limits.{max_zones}
use Rattle.at_base.specs.Range.{is_between, is_range, overlaps}
use Rattle.cable_model.proofs.Counting.{At, contained_at, count-append, count_le, count_none, each_at, each-append, each_more}
use Rattle.cable_model.proofs.Finds.{contains_at}
use Rattle.cable_model.specs.Books.{HasOneSeat}
use Rattle.cable_model.specs.Transcript.{count, one}
use Rattle.cable_model.specs.declared.seat.Seat.{Seat}
use Rattle.internet_file.specs.Files.{Planned}
use Rattle.internet_file.specs.Sound.{IsSound, is_cable, is_port, is_router, may_try_on}
use Rattle.internet_file.specs.Stations.{are_apart, cable_at, meet}
use Rattle.internet_file.specs.declared.cable.Cable.{Cable}
use Rattle.internet_file.specs.declared.node.Node.{Node}
use Rattle.internet_file.specs.declared.port.Port.{Port}
use Rattle.internet_file.specs.declared.router.Router.{Router}
use Rattle.at_base.specs.Multicast.{group_of}
use Rattle.planned_stations.specs.Planning.{AreSeated, planned_ports}
use Rattle.planned_stations.specs.Seating.{node_seats, plan_seats, port_seats, router_seats}

-- ---- Seats, station by station

-- The seats are those of a station with this many ports, in any order, at most one on a cable.
record IsRow (station ports : ℕ) (seats : List Seat) : Type 0 where
  inside : Each (λ s. (s.station ≡ station) × (s.port < ports)) seats
  seated : (q : ℕ) → q < ports → (k : ℕ) × (s : Seat) × At seats k s × (s.port ≡ q)
  one : (c : ℕ) → count (λ s. s.cable == c) seats ≤ 1

-- The seats are those of stations that are numbered from `station` on and have these numbers of ports.
abbrev Laid : ℕ → List ℕ → List Seat → Type 0
Laid station [] seats = seats ≡ []
Laid station (n ∷ ns) seats =
    (mine : List Seat) × (rest : List Seat) × (seats ≡ mine ++ rest) × IsRow station n mine × Laid (station + 1) ns rest

-- The seats of the first stations, followed by those of further ones.
laid-append : (station : ℕ) (ns ms : List ℕ) (xs ys : List Seat) → Laid station ns xs → Laid (station + length ns) ms ys
    → Laid station (ns ++ ms) (xs ++ ys)
laid-append station [] ms xs ys h g =
    subst (λ l. Laid station ms (l ++ ys)) (sym h) (subst (λ n. Laid n ms ys) (omega arith) g)
laid-append station (n ∷ ns) ms xs ys h g = (
  h.0,
  h.1 ++ ys,
  ap (λ l. l ++ ys) h.2 ∙ append_assoc h.0 h.1 ys,
  h.3,
  laid-append (station + 1) ns ms h.1 ys h.4 (subst (λ n. Laid n ms ys) (omega arith) g),
)

-- ---- Elements of two lists

-- An element of one of two lists.
at_either : {X : Type 0} (xs ys : List X) (k : ℕ) (x : X) → At (xs ++ ys) k x → ((j : ℕ) × At xs j x) ⊎ ((j : ℕ) × At ys j x)
at_either [] ys k x h = inr (k, h)
at_either (y ∷ xs) ys zero x h = inl (zero, h)
at_either (y ∷ xs) ys (suc k) x h = elim (at_either xs ys k x h) [
  | inl e ↦ inl (suc e.0, e.1)
  | inr e ↦ inr e
]

at_first : {X : Type 0} (xs ys : List X) (k : ℕ) (x : X) → At xs k x → At (xs ++ ys) k x
at_first [] ys k x h = cc
at_first (y ∷ xs) ys zero x h = h
at_first (y ∷ xs) ys (suc k) x h = at_first xs ys k x h

at_second : {X : Type 0} (xs ys : List X) (k : ℕ) (x : X) → At ys k x → (j : ℕ) × At (xs ++ ys) j x
at_second [] ys k x h = (k, h)
at_second (y ∷ xs) ys k x h = let r = at_second xs ys k x h in (suc r.0, r.1)

-- ---- Properties of such seats

-- Each seat is of one of these stations.
laid_within : (station : ℕ) (ns : List ℕ) (xs : List Seat) → Laid station ns xs
    → Each (λ s. (station ≤ s.station) × (s.station < station + length ns)) xs
laid_within station [] xs h = subst (Each (λ s. (station ≤ s.station) × (s.station < station + 0))) (sym h) tt
laid_within station (n ∷ ns) xs h =
    subst (Each (λ s. (station ≤ s.station) × (s.station < station + suc (length ns)))) (sym h.2)
    (each-append (λ s. (station ≤ s.station) × (s.station < station + suc (length ns))) h.0 h.1
    (each_more (λ s. (s.station ≡ station) × (s.port < n)) (λ s. (station ≤ s.station) × (s.station < station + suc (length ns))) h.0
    (λ s p. let is = p.0 in (omega (arith, is), omega (arith, is))) h.3.inside)
    (each_more (λ s. (station + 1 ≤ s.station) × (s.station < (station + 1) + length ns))
    (λ s. (station ≤ s.station) × (s.station < station + suc (length ns))) h.1
    (λ s p. let low = p.0 in let high = p.1 in (omega (arith, low), omega (arith, high)))
    (laid_within (station + 1) ns h.1 h.4)))

-- The seats of one of these stations.
laid_each : (station : ℕ) (ns : List ℕ) (xs : List Seat) (j n : ℕ) → Laid station ns xs → At ns j n
    → Each (λ s. s.station ≡ station + j → s.port < n) xs
    × ((q : ℕ) → q < n → (k : ℕ) × (s : Seat) × At xs k s × (s.station ≡ station + j) × (s.port ≡ q))
laid_each station [] xs j n h at = cc
laid_each station (m ∷ ns) xs zero n h at =
    let is : m ≡ n = cc in
    let later = laid_within (station + 1) ns h.1 h.4 in (
      subst (Each (λ s. s.station ≡ station + 0 → s.port < n)) (sym h.2)
          (each-append (λ s. s.station ≡ station + 0 → s.port < n) h.0 h.1
          (each_more (λ s. (s.station ≡ station) × (s.port < m)) (λ s. s.station ≡ station + 0 → s.port < n) h.0
          (λ s p e. let less = p.1 in omega (arith, less, is)) h.3.inside)
          (each_more (λ s. (station + 1 ≤ s.station) × (s.station < (station + 1) + length ns))
          (λ s. s.station ≡ station + 0 → s.port < n) h.1 (λ s p e. let low = p.0 in absurd (omega (arith, low, e))) later)),
      λ q less.
          let w = h.3.seated q (omega (arith, less, is)) in
          let mine = each_at (λ s. (s.station ≡ station) × (s.port < m)) h.0 w.0 w.1 w.2 h.3.inside in
          let here = mine.0 in (
            w.0,
            w.1,
            subst (λ l. At l w.0 w.1) (sym h.2) (at_first h.0 h.1 w.0 w.1 w.2),
            omega (arith, here),
            w.3,
          ),
    )
laid_each station (m ∷ ns) xs (suc j) n h at =
    let rest = laid_each (station + 1) ns h.1 j n h.4 at in (
      subst (Each (λ s. s.station ≡ station + suc j → s.port < n)) (sym h.2)
          (each-append (λ s. s.station ≡ station + suc j → s.port < n) h.0 h.1
          (each_more (λ s. (s.station ≡ station) × (s.port < m)) (λ s. s.station ≡ station + suc j → s.port < n) h.0
          (λ s p e. let is = p.0 in absurd (omega (arith, is, e))) h.3.inside)
          (each_more (λ s. s.station ≡ (station + 1) + j → s.port < n) (λ s. s.station ≡ station + suc j → s.port < n) h.1
          (λ s p e. p (omega (arith, e))) rest.0)),
      λ q less.
          let w = rest.1 q less in
          let k = at_second h.0 h.1 w.0 w.1 w.2 in
          let is = w.3 in (k.0, w.1, subst (λ l. At l k.0 w.1) (sym h.2) k.1, omega (arith, is), w.4),
    )

-- The seats of a station.
laid_seats : (ns : List ℕ) (xs : List Seat) → Laid 0 ns xs → AreSeated xs ns
laid_seats ns xs h = record {
  each = λ k n at.
      let w = laid_each 0 ns xs k n h at in
      record {
        inside = λ s c is.
            let there = contained_at xs s c in
            each_at (λ s. s.station ≡ 0 + k → s.port < n) xs there.0 s there.1 w.0 (omega (arith, is));
        seated = λ q less.
            let v = w.1 q less in
            let is = v.3 in (v.1, contains_at xs v.0 v.1 v.2, omega (arith, is), v.4);
      };
  within = λ s c.
      let there = contained_at xs s c in
      let is = (each_at (λ s. (0 ≤ s.station) × (s.station < 0 + length ns)) xs there.0 s there.1 (laid_within 0 ns xs h)).1 in
      omega (arith, is);
}

-- A station has at most one seat on a cable.
laid_one : (station : ℕ) (ns : List ℕ) (xs : List Seat) → Laid station ns xs → HasOneSeat xs
laid_one station [] xs h c k = subst (λ l. count (λ (s : Seat). s.cable == c && s.station == k) l ≤ 1) (sym h) (omega arith)
laid_one station (n ∷ ns) xs h c k = by (laid_one (station + 1) ns h.1 h.4 c k) (k == station) refl
  where
    test : Seat → Bool
    test s = s.cable == c && s.station == k

    whole : count test xs ≡ count test h.0 + count test h.1
    whole = ap (count test) h.2 ∙ count-append test h.0 h.1

    by : count test h.1 ≤ 1 → (b : Bool) → (k == station) ≡ b → count test xs ≤ 1
    by rest true e =
        let is = eqb-true k station e in
        let one = h.3.one c in
        let few = count_le test (λ s. s.cable == c) h.0 (λ s p. (and_parts (s.cable == c) (s.station == k) p).0) in
        let none = count_none test h.1
        (each_more (λ s. (station + 1 ≤ s.station) × (s.station < (station + 1) + length ns)) (λ s. test s ≡ false) h.1
        (λ s p. and_right (s.cable == c) (s.station == k) (false_from_ne_true (s.station == k)
        (λ g. let same = eqb-true s.station k g in let low = p.0 in absurd (omega (arith, same, low, is)))))
        (laid_within (station + 1) ns h.1 h.4)) in
        let sum = whole in
        omega (arith, one, few, none, sum)
    by rest false e =
        let none = count_none test h.0
        (each_more (λ s. (s.station ≡ station) × (s.port < n)) (λ s. test s ≡ false) h.0
        (λ s p. and_right (s.cable == c) (s.station == k) (false_from_ne_true (s.station == k)
        (λ g. let same = eqb-true s.station k g in
        let here = p.0 in
        let is : k ≡ station = omega (arith, same, here) in
        let yes = eq-eqb k station is in
        cc))) h.3.inside) in
        let sum = whole in
        omega (arith, none, rest, sum)

-- ---- A router

module _ (cables : List Cable) (valid : IsTrue (list_all is_cable cables)) where
  all_at : {X : Type 0} (t : X → Bool) (xs : List X) (k : ℕ) (x : X) → IsTrue (list_all t xs) → At xs k x → IsTrue (t x)
  all_at t [] k x h at = cc
  all_at t (y ∷ xs) zero x h at = let is : y ≡ x = cc in subst (λ z. IsTrue (t z)) is (and_parts (t y) (list_all t xs) h).0
  all_at t (y ∷ xs) (suc k) x h at = all_at t xs k x (and_parts (t y) (list_all t xs) h).1 at

  -- A cable's range has a network in common with itself.
  with_itself : (c : Cable) → IsTrue (is_cable c) → overlaps c.range c.range ≡ true
  with_itself c h =
      let valid = and_parts (is_range c.range.start c.range.end) (is_between 1 max_zones (length c.zones)) h in
      let low = and_parts (nat_le 1 c.range.start && nat_le c.range.start c.range.end) (nat_le c.range.end 65279) valid.0 in
      let mid = (and_parts (nat_le 1 c.range.start) (nat_le c.range.start c.range.end) low.0).1 in
      and_from (nat_le c.range.start c.range.end) (nat_le c.range.start c.range.end) mid mid

  -- The cables of two ports of one cable have a network in common.
  meets : (p q : Port) → IsTrue (is_port cables p) → p.cable - 1 ≡ q.cable - 1 → meet cables p q ≡ true
  meets p q h same = by (cable_at cables p.cable) refl (cable_at cables q.cable) refl
      (and_parts (nat_le 1 p.cable && nat_le p.cable (length cables)) (may_try_on (cable_at cables p.cable) p.tries) h).1
    where
      by : (a : Option Cable) → cable_at cables p.cable ≡ a → (b : Option Cable) → cable_at cables q.cable ≡ b
          → IsTrue (may_try_on a p.tries) → meet cables p q ≡ true
      by None e b g h = cc
      by (Some c) e b g h =
          let other : cable_at cables q.cable ≡ Some c = ap (slice_get cables) (sym same) ∙ e in
          let one = all_at is_cable cables (p.cable - 1) c valid e in
          rw e (rw other (with_itself c one))

  -- The ports that follow are on other cables.
  none_there : (station q c : ℕ) (p : Port) (ps : List Port) → IsTrue (is_port cables p) → p.cable - 1 ≡ c
      → IsTrue (list_all (λ r. not (meet cables p r)) ps) → Each (λ (s : Seat). (s.cable == c) ≡ false) (port_seats station q ps)
  none_there station q c p [] h is apart = tt
  none_there station q c p (r ∷ ps) h is apart =
      let parts = and_parts (not (meet cables p r)) (list_all (λ r. not (meet cables p r)) ps) apart in (
        false_from_ne_true (r.cable - 1 == c) (λ g.
            let same = eqb-true (r.cable - 1) c g in
            let m = meets p r h (is ∙ sym same) in
            let n = not-true (meet cables p r) parts.0 in
            cc),
        none_there station (q + 1) c p ps h is parts.1,
      )

  one_port : (station q c : ℕ) (ps : List Port) → IsTrue (list_all (is_port cables) ps) → IsTrue (are_apart cables ps)
      → count (λ (s : Seat). s.cable == c) (port_seats station q ps) ≤ 1
  one_port station q c [] h apart = omega arith
  one_port station q c (p ∷ ps) h apart =
      let ports = and_parts (is_port cables p) (list_all (is_port cables) ps) h in
      let others = and_parts (list_all (λ r. not (meet cables p r)) ps) (are_apart cables ps) apart in
      by ports.0 others.0 (one_port station (q + 1) c ps ports.1 others.1) (p.cable - 1 == c) refl
    where
      by : IsTrue (is_port cables p) → IsTrue (list_all (λ r. not (meet cables p r)) ps)
          → count (λ (s : Seat). s.cable == c) (port_seats station (q + 1) ps) ≤ 1 → (b : Bool) → (p.cable - 1 == c) ≡ b
          → one (p.cable - 1 == c) + count (λ (s : Seat). s.cable == c) (port_seats station (q + 1) ps) ≤ 1
      by first others rest true e =
          let none = count_none (λ (s : Seat). s.cable == c) (port_seats station (q + 1) ps)
          (none_there station (q + 1) c p ps first (eqb-true (p.cable - 1) c e) others) in
          let is = ap one e in
          omega (arith, none, is)
      by first others rest false e = let is = ap one e in omega (arith, rest, is)

  -- The ports are those of the router, by their numbers.
  ports_inside : (station q : ℕ) (ps : List Port)
      → Each (λ s. (s.station ≡ station) × (s.port < q + length ps)) (port_seats station q ps)
  ports_inside station q [] = tt
  ports_inside station q (p ∷ ps) = (
    (refl, omega arith),
    each_more (λ s. (s.station ≡ station) × (s.port < (q + 1) + length ps)) (λ s. (s.station ≡ station) × (s.port < q + suc (length ps)))
        (port_seats station (q + 1) ps) (λ s h. let less = h.1 in (h.0, omega (arith, less))) (ports_inside station (q + 1) ps),
  )

  apart_from : (a b : ℕ) → a ≤ b → (a == b) ≡ false → a + 1 ≤ b
  apart_from a b h e = elim (same_or_more a b h) [
    | inl is ↦ let yes = eq-eqb a b is in absurd (no yes e)
    | inr g ↦ g
  ]
    where
      no : (a == b) ≡ true → (a == b) ≡ false → ⊥
      no x y = cc

      same_or_more : (a b : ℕ) → a ≤ b → (a ≡ b) ⊎ (a + 1 ≤ b)
      same_or_more zero zero h = inl refl
      same_or_more zero (suc b) h = inr (omega arith)
      same_or_more (suc a) zero h = absurd (omega (arith, h))
      same_or_more (suc a) (suc b) h = elim (same_or_more a b (omega (arith, h))) [
        | inl is ↦ inl (ap suc is)
        | inr g ↦ inr (omega (arith, g))
      ]

  ports_seated : (station q : ℕ) (ps : List Port) (r : ℕ) → q ≤ r → r < q + length ps
      → (k : ℕ) × (s : Seat) × At (port_seats station q ps) k s × (s.port ≡ r)
  ports_seated station q [] r low high = absurd (omega (arith, low, high))
  ports_seated station q (p ∷ ps) r low high =
      by (λ more. ports_seated station (q + 1) ps r more (omega (arith, high))) (q == r) refl
    where
      by : (q + 1 ≤ r → (k : ℕ) × (s : Seat) × At (port_seats station (q + 1) ps) k s × (s.port ≡ r)) → (b : Bool) → (q == r) ≡ b
          → (k : ℕ) × (s : Seat) × At (port_seats station q (p ∷ ps)) k s × (s.port ≡ r)
      by rest true e = (zero, _, refl, eqb-true q r e)
      by rest false e = let w = rest (apart_from q r low e) in (suc w.0, w.1, w.2, w.3)

  -- The seats of a router.
  router_row : (station : ℕ) (r : Router) → IsTrue (is_router cables r) → IsRow station (length r.port) (port_seats station 0 r.port)
  router_row station r h =
      let parts = and_parts (is_between 1 16 (length r.port) && list_all (is_port cables) r.port) (are_apart cables r.port) h in
      let ports = and_parts (is_between 1 16 (length r.port)) (list_all (is_port cables) r.port) parts.0 in
      record {
        inside = each_more (λ s. (s.station ≡ station) × (s.port < 0 + length r.port))
            (λ s. (s.station ≡ station) × (s.port < length r.port))
            (port_seats station 0 r.port) (λ s h. let less = h.1 in (h.0, omega (arith, less))) (ports_inside station 0 r.port);
        seated = λ q less. ports_seated station 0 r.port q (omega arith) (omega (arith, less));
        one = λ c. one_port station 0 c r.port ports.1 parts.1;
      }

  routers_laid : (station : ℕ) (rs : List Router) → IsTrue (list_all (is_router cables) rs)
      → Laid station (map (λ r. length r.port) rs) (router_seats station rs)
  routers_laid station [] h = refl
  routers_laid station (r ∷ rs) h =
      let parts = and_parts (is_router cables r) (list_all (is_router cables) rs) h in (
        port_seats station 0 r.port,
        router_seats (station + 1) rs,
        refl,
        router_row station r parts.0,
        routers_laid (station + 1) rs parts.1,
      )

-- ---- A node

-- The seat of a node.
node_row : (station : ℕ) (s : Seat) → s.station ≡ station → s.port ≡ 0 → IsRow station 1 (s ∷ [])
node_row station s here port = record {
  inside = ((here, omega (arith, port)), tt);
  seated = λ q less. (zero, s, refl, omega (arith, port, less));
  one = λ c. by c (s.cable == c);
}
  where
    by : (c : ℕ) (b : Bool) → one b + 0 ≤ 1
    by c true = omega arith
    by c false = omega arith

nodes_laid : (station : ℕ) (ns : List Node) → Laid station (map (λ n. 1) ns) (node_seats station ns)
nodes_laid station [] = refl
nodes_laid station (n ∷ ns) = (
  record { cable = n.cable - 1; station = station; port = 0; hw = n.hardware; group = Some (group_of n.zone) } ∷ [],
  node_seats (station + 1) ns,
  refl,
  node_row station _ refl refl,
  nodes_laid (station + 1) ns,
)

-- ---- A plan

length-map : {X Y : Type 0} (f : X → Y) (xs : List X) → length (map f xs) ≡ length xs
length-map f [] = refl
length-map f (x ∷ xs) = ap suc (length-map f xs)

plan_laid : (p : Planned) → IsSound p → Laid 0 (planned_ports p) (plan_seats p)
plan_laid p sound =
    let number = length-map (λ (r : Router). length r.port) p.routers in
    laid-append 0 (map (λ r. length r.port) p.routers) (map (λ n. 1) p.nodes) (router_seats 0 p.routers)
    (node_seats (length p.routers) p.nodes) (routers_laid p.cables sound.cables 0 p.routers sound.routers)
    (subst (λ n. Laid n (map (λ n. 1) p.nodes) (node_seats (length p.routers) p.nodes)) (omega (arith, number))
    (nodes_laid (length p.routers) p.nodes))

pub plan_seated : (p : Planned) → IsSound p → AreSeated (plan_seats p) (planned_ports p)
plan_seated p sound = laid_seats (planned_ports p) (plan_seats p) (plan_laid p sound)

pub plan_one : (p : Planned) → IsSound p → HasOneSeat (plan_seats p)
plan_one p sound = laid_one 0 (planned_ports p) (plan_seats p) (plan_laid p sound)
