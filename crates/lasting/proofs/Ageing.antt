-- A tick in which routers send routing data: what they send is pending before frames are taken.
use Rattle.std.proofs.Common.{◌≡◌, inl, inr, ℕ, zero, suc, ◌+◌, ◌-◌, ◌%◌, ◌<◌, ◌≤◌, ◌==◌, true, List, [], ◌∷◌, ◌++◌}
use Rattle.std.proofs.Common.{Option, Some, refl, sym, ap, ◌∙◌, subst, length, map, arith, if◌then◌else◌}
use Rattle.std.specs.Prelude.{option_to_list, slice_set}
use Rattle.std.specs.List.{AllByRecursion as Each}
use Rattle.std.proofs.lemmas.Bool.{cases_eq}
use Rattle.aarp.specs.Choosing.{Choice, settled as settled_of}
use Rattle.at_base.specs.Range.{Span}
use Rattle.at_base.specs.Spelling.{bytes_of}
use Rattle.at_base.specs.declared.address.Addr.{Addr}
use Rattle.audit.proofs.WalkLists.{At, at_one, at_within}
use Rattle.audit.specs.Rules.{Passes}
use Rattle.cable_model.specs.declared.seat.Seat.{Seat}
use Rattle.ddp.specs.Datagram.{datagram}
use Rattle.lasting.proofs.Alike.{AreGround, IsLike}
use Rattle.lasting.proofs.Given.{IsFineOn, IsFineStep, IsLossless, MayPut, gives_same, gives_step, step_then}
use Rattle.lasting.proofs.Passed.{HasGoodRows, ticks_alike}
use Rattle.lasting.proofs.Routers.{one_settled, ticks}
use Rattle.lasting.proofs.Speaking.{IsSaid, calm_below, gives_said, said_step}
use Rattle.lasting.proofs.Telling.{IsToldOf}
use Rattle.lasting.proofs.Idling.{AreLaid, AreSparedFrom, all_aged, get_set, get_set_other, router_spared}
use Rattle.lasting.proofs.Turning.{all_come, all_steps, one_passed, still_lossless}
use Rattle.lasting.specs.Hears.{data_datagram}
use Rattle.lasting.specs.Resting.{IsBelow}
use Rattle.lasting.specs.Settled.{IsNoNextRouter}
use Rattle.learning.specs.Queries.{queries_of}
use Rattle.live_cables.proofs.Pending.{Has}
use Rattle.live_cables.specs.Living.{Wires, happened}
use Rattle.live_node.specs.Living.{LivingNode}
use Rattle.live_router.specs.Living.{Living}
use Rattle.live_router.specs.Ticking.{all_queries, data_by, data_from, data_way, packets_for, phase_after, sent_by}
use Rattle.planned_stations.specs.Planning.{ports_of}
use Rattle.rtmp.specs.Data.{RoutingData, routing_data}
use Rattle.rtmp.specs.Sending.{packet_numbered}
use Rattle.rtmp.specs.declared.request.Horizon.TheVariants.{Split}
use Rattle.rtmp.specs.declared.row.Row.{Row as RouteRow}
use Rattle.settled.specs.Settling.{IsSettled}
use Rattle.station.specs.Making.{made}
use Rattle.station.specs.declared.member.Member.{Member}
use Rattle.station.specs.declared.member.Member.TheVariants.{Router as RouterMember, Node as NodeMember}
use Rattle.station.specs.declared.output.Output.{Output}
use Rattle.table_image.specs.Bounds.{IsBounded}
use Rattle.table_image.specs.Internet.{Internet}
use Rattle.world.specs.Doing.{settled_own}
use Rattle.world.specs.Passing.{AreAged, HasTicked, HavePassed}

-- ---- What is among the outputs

has_left : {X : Type 0} (xs ys : List X) (x : X) → Has xs x → Has (xs ++ ys) x
has_left xs ys x h = (h.0, at xs h.0 h.1)
  where
    at : (xs : List _) (k : ℕ) → At xs k x → At (xs ++ ys) k x
    at [] k e = cc
    at (y ∷ xs) zero e = e
    at (y ∷ xs) (suc k) e = at xs k e

has_right : {X : Type 0} (xs ys : List X) (x : X) → Has ys x → Has (xs ++ ys) x
has_right [] ys x h = h
has_right (y ∷ xs) ys x h = let w = has_right xs ys x h in (suc w.0, w.1)

has_map : {X Y : Type 0} (f : X → Y) (xs : List X) (x : X) → Has xs x → Has (map f xs) (f x)
has_map f xs x h = (h.0, at xs h.0 h.1)
  where
    at : (xs : List _) (k : ℕ) → At xs k x → At (map f xs) k (f x)
    at [] k e = cc
    at (y ∷ xs) zero e = let is : y ≡ x = cc in ap (λ z. Some (f z)) is
    at (y ∷ xs) (suc k) e = at xs k e

option_has : (o : Option RoutingData) (p : RoutingData) → o ≡ Some p → Has (option_to_list o) p
option_has o p e = subst (λ z. Has (option_to_list z) p) (sym e) (zero, refl)

-- the packets with the first three numbers are sent
packet_has : (n : ℕ) (range : Span) (me : Addr) (rows : List RouteRow) (m : ℕ) (p : RoutingData) → m < 3
    → packet_numbered Split n range me m rows ≡ Some p → Has (packets_for n range me rows) p
packet_has n range me rows zero p lt e =
    has_left (option_to_list (packet_numbered Split n range me 0 rows) ++ option_to_list (packet_numbered Split n range me 1 rows)) _ p
    (has_left (option_to_list (packet_numbered Split n range me 0 rows)) _ p (option_has _ p e))
packet_has n range me rows (suc zero) p lt e =
    has_left (option_to_list (packet_numbered Split n range me 0 rows) ++ option_to_list (packet_numbered Split n range me 1 rows)) _ p
    (has_right (option_to_list (packet_numbered Split n range me 0 rows)) _ p (option_has _ p e))
packet_has n range me rows (suc (suc zero)) p lt e =
    has_right (option_to_list (packet_numbered Split n range me 0 rows) ++ option_to_list (packet_numbered Split n range me 1 rows)) _ p
    (option_has _ p e)
packet_has n range me rows (suc (suc (suc m))) p lt e = absurd (omega (arith, lt))

data_has : (n : ℕ) (cs : List Choice) (rows : List RouteRow) (j : ℕ) (c : Choice) → At cs j c → c.is_settled ≡ true → (m : ℕ) (p : RoutingData) → m < 3
    → packet_numbered Split (n + j) c.range c.tentative m rows ≡ Some p
    → Has (data_from n cs rows) (made (data_way (n + j) c.tentative) (bytes_of routing_data p))
data_has n [] rows j c e s m p lt sent = cc
data_has n (x ∷ cs) rows zero c e s m p lt sent =
    let is : x ≡ c = cc in
    let none : n + 0 ≡ n = omega arith in
    let own : settled_of c ≡ Some c.tentative = rw s refl in
    let here : Has (data_by n c.range (Some c.tentative) rows) (made (data_way n c.tentative) (bytes_of routing_data p)) =
    has_map (λ p. made (data_way n c.tentative) (bytes_of routing_data p)) (packets_for n c.range c.tentative rows) p
    (packet_has n c.range c.tentative rows m p lt (sym (ap (λ z. packet_numbered Split z c.range c.tentative m rows) none) ∙ sent)) in
    has_left (data_by n x.range (settled_of x) rows) (data_from (n + 1) cs rows) (made (data_way (n + 0) c.tentative) (bytes_of routing_data p))
    (subst (λ z. Has (data_by n x.range (settled_of x) rows) (made (data_way z c.tentative) (bytes_of routing_data p))) (sym none)
    (subst (λ (z : Choice). Has (data_by n z.range (settled_of z) rows) (made (data_way n c.tentative) (bytes_of routing_data p))) (sym is)
    (subst (λ o. Has (data_by n c.range o rows) (made (data_way n c.tentative) (bytes_of routing_data p))) (sym own) here)))
data_has n (x ∷ cs) rows (suc j) c e s m p lt sent =
    let next : (n + 1) + j ≡ n + suc j = omega arith in
    has_right (data_by n x.range (settled_of x) rows) (data_from (n + 1) cs rows) (made (data_way (n + suc j) c.tentative) (bytes_of routing_data p))
    (subst (λ z. Has (data_from (n + 1) cs rows) (made (data_way z c.tentative) (bytes_of routing_data p))) next
    (data_has (n + 1) cs rows j c e s m p lt (ap (λ z. packet_numbered Split z c.range c.tentative m rows) next ∙ sent)))

abbrev same_member : Member Living LivingNode → Member Living LivingNode → Type 0
same_member x y = x ≡ y

-- routing data is among what is sent
spoken : (phase : ℕ) (t : Living) → (phase % 50 == 0) ≡ true → (o : Output) → Has (data_from 0 t.router.ports t.router.routes) o
    → Has (sent_by phase t.router) o
spoken phase t e o h =
    subst (λ b. Has (if b then data_from 0 t.router.ports t.router.routes ++ all_queries t.router.ports (queries_of t.router.routes t.router.zones) else []) o) (sym e)
    (has_left (data_from 0 t.router.ports t.router.routes) _ o h)

module _ (i : Internet) (ok : Passes i) (settled : IsSettled i) (bounded : IsBounded i) (seats : List Seat)
    (stations : List (Member Living LivingNode)) (ground : AreGround i seats stations)
    (good : (k : ℕ) (m : Member Living LivingNode) → At stations k m → HasGoodRows m)
    (laid : AreLaid seats stations)
    (seated : (k : ℕ) (a : Living) → At stations k (RouterMember a) → (q : ℕ) (c : Choice) → At a.router.ports q c
    → (z : Seat) × Has seats z × (z.station ≡ k) × (z.port ≡ q))
    (speaks : (k : ℕ) (a : Living) → At stations k (RouterMember a) → (phase_after a.phase % 50 == 0) ≡ true)
    (short : (k : ℕ) (a b : Living) → At stations k (RouterMember a) → (q : ℕ) (c : Choice) → At b.router.ports q c → (m : ℕ) (p : RoutingData)
    → packet_numbered Split q c.range c.tentative m b.router.routes ≡ Some p → length (bytes_of datagram (data_datagram c.tentative p)) ≤ 599) where
  -- what router k sends of its rows on a port is pending for all that hear it
  abbrev pub HasSaid : ℕ → Living → Wires → Type 0
  HasSaid k b w =
      (q : ℕ) (c : Choice) → At b.router.ports q c → (m : ℕ) (p : RoutingData) → m < 3
      → packet_numbered Split q c.range c.tentative m b.router.routes ≡ Some p
      → IsSaid seats (happened w) k q (bytes_of datagram (data_datagram c.tentative p))

  stays_said : (k : ℕ) (b : Living) (old new : Wires) → IsFineStep (IsToldOf i) (Unit {0}) old.cabling new.cabling → HasSaid k b old → HasSaid k b new
  stays_said k b old new x h q c e m p lt sent =
      said_step (IsToldOf i) old.cabling new.cabling seats k q (bytes_of datagram (data_datagram c.tentative p)) x (h q c e m p lt sent)

  stays_below : (old new : Wires) → IsFineStep (IsToldOf i) (Unit {0}) old.cabling new.cabling → IsBelow (happened old) → IsBelow (happened new)
  stays_below old new x b = subst IsBelow (sym x.grown) (calm_below (happened old) x.added b (x.calm tt))

  abbrev Good : Wires → Type 0
  Good w = (w.cabling.seats ≡ seats) × IsFineOn (IsToldOf i) (Unit {0}) w.cabling × (Unit {0} → IsLossless (IsToldOf i) (Unit {0}) w)

  abbrev Spared : ℕ → Wires → Type 0
  Spared seat w = AreSparedFrom (IsNoNextRouter stations seats) seat w.maps

  pub record HasSpoken (number : ℕ) (now : List (Member Living LivingNode)) (w : Wires) : Type 0 where
    pub below : IsBelow (happened w)
    pub said : (k : ℕ) (b : Living) → k < number → At now k (RouterMember b) → HasSaid k b w

  -- the steps of one station
  one_spoken : (number seat : ℕ) (m after ticked : Member Living LivingNode) (old mid new : Wires) → At stations number m → Good old
      → IsBelow (happened old) → (number < length i.routers → (seat ≡ laid.first number) × Spared seat old) → (tick : HasTicked number seat m ticked old mid)
      → AreAged seat (ports_of ticked) ticked after mid new
      → IsFineStep (IsToldOf i) (Unit {0}) old.cabling new.cabling × ((b : Living) → after ≡ RouterMember b → HasSaid number b new)
  one_spoken number seat m after ticked old mid new em wires below idle tick ages =
      (step_then (IsToldOf i) (Unit {0}) old.cabling mid.cabling new.cabling first second, by m ticked em tick ages)
    where
      may : Each (MayPut (IsToldOf i) old.cabling.seats number) tick.outputs
      may =
          subst (λ s. Each (MayPut (IsToldOf i) s number) tick.outputs) (sym wires.0)
          (ticks_alike i ok seats number m ticked (ground number m em) tick.outputs (good number m em) tick.ticks).0

      first : IsFineStep (IsToldOf i) (Unit {0}) old.cabling mid.cabling
      first =
          gives_step (IsToldOf i) (Unit {0}) number tick.outputs (record old { own = settled_own ticked seat (ports_of ticked) old.own }) mid wires.2 may
          tick.gives

      lossless : Unit {0} → IsLossless (IsToldOf i) (Unit {0}) mid
      lossless =
          still_lossless i ok settled bounded seats stations ground (Unit {0}) (record old { own = settled_own ticked seat (ports_of ticked) old.own }) mid
          tick.gives.4.losing wires.2

      second : IsFineStep (IsToldOf i) (Unit {0}) mid.cabling new.cabling
      second = (all_steps i ok settled bounded seats stations ground (Unit {0}) good laid seat (ports_of ticked) ticked after mid new lossless ages).0

      by : (m ticked : Member Living LivingNode) → At stations number m → (tick : HasTicked number seat m ticked old mid)
          → AreAged seat (ports_of ticked) ticked after mid new → (b : Living) → after ≡ RouterMember b → HasSaid number b new
      by (NodeMember n) ticked em tick ages b is =
          let o =
          one_passed i ok settled bounded seats stations ground (Unit {0}) good laid number seat (NodeMember n) after old new em wires idle (ticked, mid, tick, ages) in
          absurd (subst (IsLike i number (NodeMember n)) is o.1)
      by (RouterMember a) (NodeMember n) em tick ages b is = absurd tick.ticks
      by (RouterMember a) (RouterMember t) em tick ages b is = λ q c e m p lt sent.
          let g = ground number (RouterMember a) em in
          let alike = ticks_alike i ok seats number (RouterMember a) (RouterMember t) g tick.outputs (good number (RouterMember a) em) tick.ticks in
          let low = at_within i.routers number g.x g.x_at in
          let still : Spared seat mid =
          subst (AreSparedFrom (IsNoNextRouter stations seats) seat) (sym (gives_same number tick.outputs _ mid alike.2 tick.gives)) (idle low).1 in
          let w = ticks a t tick.outputs g.settled tick.ticks in
          let aged =
          all_aged (IsNoNextRouter stations seats) seat (ports_of (RouterMember t)) (RouterMember t) after mid new still
          (λ j x le lt none.
          let at_first = (idle low).0 in
          let many : length t.router.ports ≡ length a.router.ports = ap length w.ports in
          let z = laid.own number a (j - seat) em (omega (arith, le, lt, many)) in
          let here : laid.first number + (j - seat) ≡ j = omega (arith, at_first, le) in
          router_spared stations seats number a t j z.0 x em (subst (λ n. At seats n z.0) here z.1) z.2 w.routes none) ages in
          let whole : same_member (RouterMember t) (RouterMember b) = sym aged.0 ∙ is in
          let same : t ≡ b = router_is t b whole in
          let et : At t.router.ports q c = subst (λ (z : Living). At z.router.ports q c) (sym same) e in
          let ea : At a.router.ports q c = subst (λ ps. At ps q c) w.ports et in
          let sent_t : packet_numbered Split q c.range c.tentative m t.router.routes ≡ Some p =
          subst (λ (z : Living). packet_numbered Split q c.range c.tentative m z.router.routes ≡ Some p) (sym same) sent in
          let bytes = bytes_of datagram (data_datagram c.tentative p) in
          let none : 0 + q ≡ q = omega arith in
          let told : Has (data_from 0 t.router.ports t.router.routes) (made (data_way q c.tentative) (bytes_of routing_data p)) =
          subst (λ z. Has (data_from 0 t.router.ports t.router.routes) (made (data_way z c.tentative) (bytes_of routing_data p))) none
          (data_has 0 t.router.ports t.router.routes q c et (one_settled a.router.ports q c g.settled ea) m p lt
          (ap (λ z. packet_numbered Split z c.range c.tentative m t.router.routes) none ∙ sent_t)) in
          let all : Has tick.outputs (made (data_way q c.tentative) (bytes_of routing_data p)) =
          subst (λ os. Has os (made (data_way q c.tentative) (bytes_of routing_data p))) (sym w.sends)
          (spoken (phase_after a.phase) t (speaks number a em) (made (data_way q c.tentative) (bytes_of routing_data p)) told) in
          let z = seated number a em q c ea in
          let may : Each (MayPut (IsToldOf i) old.cabling.seats number) tick.outputs =
          subst (λ s. Each (MayPut (IsToldOf i) s number) tick.outputs) (sym wires.0) alike.0 in
          let said =
          gives_said (IsToldOf i) number q bytes tick.outputs all.0 (record old { own = settled_own (RouterMember t) seat (ports_of (RouterMember t)) old.own }) mid
          (wires.2 tt) below z.0 (subst (λ s. Has s z.0) (sym wires.0) z.1) z.2 z.3 (short number a t em q c et m p sent_t) all.1 may tick.gives in
          said_step (IsToldOf i) mid.cabling new.cabling seats number q bytes second (subst (λ s. IsSaid s (happened mid) number q bytes) wires.0 said)
        where
          router_is : (t b : Living) → same_member (RouterMember t) (RouterMember b) → t ≡ b
          router_is t b e = cc

  -- all stations
  pub all_spoken : (number seat : ℕ) (now : List (Member Living LivingNode)) (old new : Wires) → Good old → Spared 0 old → IsBelow (happened old)
      → HavePassed number seat stations now old new → HasSpoken number now new
  all_spoken zero seat now old new wires idle below (none, same, stays) =
      record { below = subst (λ (w : Wires). IsBelow (happened w)) (sym stays) below; said = λ k b lt e. absurd (omega (arith, lt)) }
  all_spoken (suc number) next now old new wires idle below (seat, before, mid, passes, m, after, em, (ticked, between, tick, ages), set, at) =
      let h = all_spoken number seat before old mid wires idle below passes in
      let come = all_come i ok settled bounded seats stations ground (Unit {0}) good laid number seat before old mid wires idle passes in
      let es : At stations number m = sym (come.later number (omega arith)) ∙ em in
      let o =
      one_spoken number seat m after ticked mid between new es come.through.wires h.below (λ lt. come.idle (omega (arith, lt))) tick ages in
      record {
        below = stays_below mid new o.0 h.below;
        said = λ k b lt eb.
            let there : At (slice_set before number after) k (RouterMember b) = subst (λ l. At l k (RouterMember b)) set eb in
            elim (cases_eq k number) [
              | inl here ↦
                  let mine : At (slice_set before number after) number (RouterMember b) = subst (λ n. At (slice_set before number after) n (RouterMember b)) here there in
                  let is : after ≡ RouterMember b = at_one (slice_set before number after) number after (RouterMember b) (get_set before number after m em) mine in
                  subst (λ n. HasSaid n b new) (sym here) (o.1 b is)
              | inr other ↦
                  stays_said k b mid new o.0
                  (h.said k b (omega (arith, lt, other)) (sym (get_set_other before number k after (λ s. absurd (other s))) ∙ there))
            ];
      }
