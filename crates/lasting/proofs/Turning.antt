-- The steps of a tick, one after the other, in a world whose image passes and is settled.
use Rattle.std.proofs.Common.{◌≡◌, inl, inr, ℕ, zero, suc, ◌+◌, ◌-◌, ◌<◌, ◌≤◌, Bool, true, false, List, [], ◌∷◌, ◌++◌}
use Rattle.std.proofs.Common.{Option, Some, None, Result, Ok, Err, refl, sym, ap, ◌∙◌, subst, slice_get, length, arith}
use Rattle.std.specs.Prelude.{Contains, cond, nat_lt, option_map, slice_set}
use Rattle.std.specs.List.{AllByRecursion as Each}
use Rattle.std.proofs.lemmas.Bool.{cases_eq}
use Rattle.std.proofs.lemmas.List.{length-set}
use Rattle.std.proofs.lemmas.Option.{same_Some}
use Rattle.aarp.specs.Choosing.{settled as settled_of}
use Rattle.at_base.specs.ErrorNumber.{number_of}
use Rattle.at_base.specs.Limits.{max_data}
use Rattle.at_base.specs.declared.error.Error.{Error}
use Rattle.ddp.specs.declared.header.Header.{Header}
use Rattle.at_base.specs.declared.address.Addr.{Addr}
use Rattle.audit.proofs.WalkLists.{At, at_below, at_one, at_within}
use Rattle.audit.specs.Rules.{Passes}
use Rattle.cable_model.proofs.Counting.{contained_at}
use Rattle.cable_model.specs.Logs.{pending_on, transcript}
use Rattle.cable_model.specs.Outcomes.{heard_by}
use Rattle.cable_model.specs.Pending.{Pair}
use Rattle.cable_model.specs.declared.seat.Seat.{Seat}
use Rattle.end_node.specs.Asking.{asking, asking_from, names_way}
use Rattle.end_node.specs.Holding.{NodeHolding}
use Rattle.end_node.specs.Sending.{header_to, is_nobodys, next_of, sending, sending_from, way_or_none}
use Rattle.internet_file.specs.Files.{Planned}
use Rattle.internet_file.specs.declared.action.Action.{Action}
use Rattle.internet_file.specs.declared.action.Do.{Do}
use Rattle.internet_file.specs.declared.action.Do.TheVariants.{Send, Lookup}
use Rattle.lasting.proofs.Alike.{AreGround, IsLike, IsStationAt, hears_alike, node_like, router_like, seat_hears}
use Rattle.lasting.proofs.Given.{IsFineOn, IsFineStep, IsLossless, MayPut, fine_taken, fine_then, gives_same, gives_step, passes_step, step_same, step_then, takes_step}
use Rattle.lasting.proofs.Idling.{AreLaid, AreSparedFrom, all_aged, get_set, get_set_other, node_aged, router_spared}
use Rattle.lasting.proofs.Passed.{AreToAll, HasGoodRows, HasTickedTo, plain_all, ticked_then, ticks_alike}
use Rattle.lasting.proofs.Plainly.{made_plain, two}
use Rattle.lasting.proofs.Telling.{IsToldOf}
use Rattle.lasting.proofs.Routers.{ticks}
use Rattle.lasting.specs.Settled.{IsNoNextRouter}
use Rattle.lasting.specs.Plain.{IsOtherDo, IsPlainKind, IsPlainOutput}
use Rattle.live_cables.proofs.Pending.{Has}
use Rattle.live_cables.specs.Living.{GivesOut, Wires}
use Rattle.live_cables.specs.Steps.{loses_by}
use Rattle.live_node.specs.Living.{LivingNode, LiveHears as NodeHears}
use Rattle.live_node.specs.Ticking.{LiveTicks as NodeTicks}
use Rattle.live_router.specs.Living.{Living, LiveHears as RouterHears}
use Rattle.live_router.specs.Ticking.{LiveTicks as RouterTicks}
use Rattle.planned_stations.specs.Planning.{ports_of}
use Rattle.settled.specs.Settling.{IsSettled}
use Rattle.station.specs.Members.{EitherHears, EitherTicks}
use Rattle.station.specs.declared.member.Member.{Member}
use Rattle.station.specs.declared.member.Member.TheVariants.{Router as RouterMember, Node as NodeMember}
use Rattle.station.specs.declared.output.Next.{Next}
use Rattle.station.specs.declared.output.Output.{Output}
use Rattle.station.specs.declared.way.Way.{Way}
use Rattle.table_image.specs.Bounds.{IsBounded}
use Rattle.table_image.specs.Internet.{Internet}
use Rattle.world.specs.Acting.{AreDone, tick_of}
use Rattle.world.specs.Doing.{IsDone, IsDoneBy, acted_by, number_from, put_by, settled_own, station_for}
use Rattle.world.specs.Passing.{AreAged, HasPassed, HavePassed}
use Rattle.world.specs.Taking.{AreTaken, IsTaken}

-- ---- The stations

module _ (i : Internet) (ok : Passes i) (settled : IsSettled i) (bounded : IsBounded i) (seats : List Seat)
    (stations : List (Member Living LivingNode)) (ground : AreGround i seats stations) (Lossless : Type 0) where
  -- what the seats from this one on give up is for no next router of these stations
  abbrev pub AreSpared : ℕ → Wires → Type 0
  AreSpared seat w = AreSparedFrom (IsNoNextRouter stations seats) seat w.maps

  abbrev IsGoodWires : Wires → Type 0
  IsGoodWires w = (w.cabling.seats ≡ seats) × IsFineOn (IsToldOf i) Lossless w.cabling × (Lossless → IsLossless (IsToldOf i) Lossless w)

  -- The stations are like those of the image, and what is pending and held is fine.
  pub record IsThrough (now : List (Member Living LivingNode)) (w : Wires) : Type 0 where
    pub wires : IsGoodWires w
    pub count : length now ≡ length stations
    pub alike : (k : ℕ) (a b : Member Living LivingNode) → At stations k a → At now k b → IsLike i k a b

  -- the stations have passed a tick
  abbrev pub AreTicked : List (Member Living LivingNode) → Type 0
  AreTicked now = (k : ℕ) (a b : Member Living LivingNode) → At stations k a → At now k b → HasTickedTo a b

  pub still_lossless : (old new : Wires) → new.losing ≡ old.losing → (Lossless → IsLossless (IsToldOf i) Lossless old)
      → (Lossless → IsLossless (IsToldOf i) Lossless new)
  still_lossless old new same none l cable = ap (λ (losing : List Bool). loses_by losing cable) same ∙ none l cable

  pub good_step : (old new : Wires) → new.losing ≡ old.losing → IsGoodWires old → IsFineStep (IsToldOf i) Lossless old.cabling new.cabling → IsGoodWires new
  good_step old new same g x =
      (x.seats ∙ g.0, fine_then (IsToldOf i) Lossless old.cabling new.cabling g.1 x, still_lossless old new same g.2)

  abbrev pub IsGoodStep : Wires → Wires → Type 0
  IsGoodStep old new = IsGoodWires new × IsFineStep (IsToldOf i) Lossless old.cabling new.cabling

  unchanged : (old new : Wires) → new ≡ old → IsGoodWires old → IsGoodStep old new
  unchanged old new same g =
      (subst IsGoodWires (sym same) g, step_same (IsToldOf i) Lossless old.cabling new.cabling (ap (λ (w : Wires). w.cabling) same))

  -- a station is replaced by another one that is like it
  replaced : (now : List (Member Living LivingNode)) (number : ℕ) (m after : Member Living LivingNode) → length now ≡ length stations
      → At now number m → ((a : Member Living LivingNode) → At stations number a → IsLike i number a after)
      → ((k : ℕ) (a b : Member Living LivingNode) → At stations k a → At now k b → IsLike i k a b)
      → (k : ℕ) (a b : Member Living LivingNode) → At stations k a → At (slice_set now number after) k b → IsLike i k a b
  replaced now number m after count em like alike k a b ea eb =
      elim (cases_eq k number) [
        | inl same ↦
            let there : At (slice_set now number after) number b = subst (λ n. At (slice_set now number after) n b) same eb in
            let is : after ≡ b = at_one (slice_set now number after) number after b (get_set now number after m em) there in
            let old : At stations number a = subst (λ n. At stations n a) same ea in
            subst (λ n. IsLike i n a b) (sym same) (subst (IsLike i number a) is (like a old))
        | inr other ↦ alike k a b ea (sym (get_set_other now number k after (λ s. absurd (other s))) ∙ eb)
      ]

  -- ---- All stations pass a tick

  module _ (good : (k : ℕ) (m : Member Living LivingNode) → At stations k m → HasGoodRows m) (laid : AreLaid seats stations) where
    -- The first stations have passed a tick, and the others are as they were; what their seats give up is for no next
    -- router as long as only routers passed.
    pub record HasCome (number seat : ℕ) (now : List (Member Living LivingNode)) (w : Wires) : Type 0 where
      pub through : IsThrough now w
      pub later : (k : ℕ) → number ≤ k → slice_get now k ≡ slice_get stations k
      pub idle : number ≤ length i.routers → (seat ≡ laid.first number) × AreSpared seat w
      pub ticked : (k : ℕ) (a b : Member Living LivingNode) → k < number → At stations k a → At now k b → HasTickedTo a b

    -- the mappings of a station's seats pass a tick
    pub all_steps : (seat ports : ℕ) (m after : Member Living LivingNode) (old new : Wires) → (Lossless → IsLossless (IsToldOf i) Lossless old)
        → AreAged seat ports m after old new → IsFineStep (IsToldOf i) Lossless old.cabling new.cabling × (new.losing ≡ old.losing)
    all_steps seat zero m after old new none h =
        (step_same (IsToldOf i) Lossless old.cabling new.cabling (ap (λ (w : Wires). w.cabling) h.1), ap (λ (w : Wires). w.losing) h.1)
    all_steps seat (suc ports) m after old new none (before, mid, first, last) =
        let w = all_steps seat ports m before old mid none first in (
          step_then (IsToldOf i) Lossless old.cabling mid.cabling new.cabling w.0
              (passes_step (IsToldOf i) Lossless (seat + ports) mid new (still_lossless old mid w.1 none) last.passes),
          last.passes.6.losing ∙ w.1,
        )

    abbrev IsSparedAfter : ℕ → ℕ → Wires → Type 0
    IsSparedAfter number seat w = (seat ≡ laid.first (suc number)) × AreSpared seat w

    -- a station passes a tick: the cables are as good as before, and it is like before
    pub one_passed : (number seat : ℕ) (m after : Member Living LivingNode) (old new : Wires) → At stations number m → IsGoodWires old
        → (number < length i.routers → (seat ≡ laid.first number) × AreSpared seat old) → HasPassed number seat m after old new
        → IsGoodWires new × IsLike i number m after × (number < length i.routers → IsSparedAfter number (seat + ports_of after) new) × HasTickedTo m after
    one_passed number seat m after old new em wires idle (ticked, mid, tick, ages) =
        let t = ticks_alike i ok seats number m ticked (ground number m em) tick.outputs (good number m em) tick.ticks in
        let before : Wires = record old { own = settled_own ticked seat (ports_of ticked) old.own } in
        let first : IsGoodWires mid =
        good_step before mid tick.gives.4.losing wires
        (gives_step (IsToldOf i) Lossless number tick.outputs before mid wires.2
        (subst (λ s. Each (MayPut (IsToldOf i) s number) tick.outputs) (sym wires.0) t.0) tick.gives) in
        let f = finish m ticked em (ground number m em) t.1 t.2 tick.ticks ages in
        let s = all_steps seat (ports_of ticked) ticked after mid new first.2 ages in
        (good_step mid new s.1 first s.0, subst (IsLike i number m) (sym f.0) t.1, f.1, subst (HasTickedTo m) (sym f.0) t.3)
      where
        finish : (m ticked : Member Living LivingNode) → At stations number m → IsStationAt i seats number m → IsLike i number m ticked
            → AreToAll m tick.outputs → EitherTicks RouterTicks NodeTicks m tick.outputs ticked → AreAged seat (ports_of ticked) ticked after mid new
            → (after ≡ ticked) × (number < length i.routers → IsSparedAfter number (seat + ports_of after) new)
        finish (RouterMember a) (RouterMember b) em g like all h ages =
            let low = at_within i.routers number g.x g.x_at in
            let still : AreSpared seat mid =
            subst (AreSparedFrom (IsNoNextRouter stations seats) seat) (sym (gives_same number tick.outputs _ mid all tick.gives)) (idle low).1 in
            let routes = (ticks a b tick.outputs g.settled h).routes in
            let at_first = (idle low).0 in
            let many : length b.router.ports ≡ length a.router.ports = ap length like.0.ports in
            let w =
            all_aged (IsNoNextRouter stations seats) seat (ports_of (RouterMember b)) (RouterMember b) after mid new still
            (λ j x le lt none.
            let s = laid.own number a (j - seat) em (omega (arith, le, lt, many)) in
            let here : laid.first number + (j - seat) ≡ j = omega (arith, at_first, le) in
            router_spared stations seats number a b j s.0 x em (subst (λ n. At seats n s.0) here s.1) s.2 routes none) ages in
            let after_first : seat + ports_of (RouterMember b) ≡ laid.first (suc number) =
            let next = laid.next number a em in omega (arith, next, at_first, many) in
            (w.0, λ lt. subst (λ (z : Member Living LivingNode). IsSparedAfter number (seat + ports_of z) new) (sym w.0) (after_first, w.1))
        finish (NodeMember a) (NodeMember b) em g like all h ages =
            let number = g.number in
            (node_aged seat 1 b after mid new ages, λ lt. absurd (omega (arith, lt, number)))
        finish (RouterMember a) (NodeMember b) em g like all h ages = absurd like
        finish (NodeMember a) (RouterMember b) em g like all h ages = absurd like

    self_like : (k : ℕ) (m : Member Living LivingNode) → IsStationAt i seats k m → IsLike i k m m
    self_like k (RouterMember a) g = router_like i seats k a a g (record { ports = refl; zones = refl }) g.rows
    self_like k (NodeMember a) g =
        node_like i seats k a a g (record { port = refl; zone = refl; names = refl; asked = refl; answered = refl }) g.served

    pub all_come : (number seat : ℕ) (now : List (Member Living LivingNode)) (old new : Wires) → IsGoodWires old → AreSpared 0 old
        → HavePassed number seat stations now old new → HasCome number seat now new
    all_come zero seat now old new wires idle (first, same, stays) =
        record {
          through =
              record {
                wires = subst IsGoodWires (sym stays) wires;
                count = ap length same;
                alike = λ k a b ea eb.
                    let is : a ≡ b = at_one stations k a b ea (subst (λ l. At l k b) same eb) in
                    subst (IsLike i k a) is (self_like k a (ground k a ea));
              };
          later = λ k le. ap (λ l. slice_get l k) same;
          idle = λ le. (first ∙ sym laid.begins, subst (AreSpared seat) (sym stays) (subst (λ n. AreSpared n old) (sym first) idle));
          ticked = λ k a b lt ea eb. absurd (omega (arith, lt));
        }
    all_come (suc number) next now old new wires idle (seat, before, mid, passes, m, after, em, passed, set, at) =
        let h = all_come number seat before old mid wires idle passes in
        let es : At stations number m = sym (h.later number (omega arith)) ∙ em in
        let o = one_passed number seat m after mid new es h.through.wires (λ lt. h.idle (omega (arith, lt))) passed in
        record {
          through =
              record {
                wires = o.0;
                count = ap length set ∙ (length-set before number after ∙ h.through.count);
                alike = λ k a b ea eb.
                    replaced before number m after h.through.count em
                    (λ c ec. subst (λ z. IsLike i number z after) (at_one stations number m c es ec) o.1) h.through.alike k a b ea
                    (subst (λ l. At l k b) set eb);
              };
          later = λ k le.
              ap (λ l. slice_get l k) set
              ∙ (get_set_other before number k after (λ s. absurd (omega (arith, s, le))) ∙ h.later k (omega (arith, le)));
          idle = λ le. subst (λ n. IsSparedAfter number n new) (sym at) (o.2 (omega (arith, le)));
          ticked = λ k a b lt ea eb.
              elim (cases_eq k number) [
                | inl here ↦
                    let there : At (slice_set before number after) number b = subst (λ n. At (slice_set before number after) n b) here (subst (λ l. At l k b) set eb) in
                    let is : after ≡ b = at_one (slice_set before number after) number after b (get_set before number after m em) there in
                    let was : m ≡ a = at_one stations number m a es (subst (λ n. At stations n a) here ea) in
                    subst (λ z. HasTickedTo z b) was (subst (HasTickedTo m) is o.3)
                | inr other ↦
                    h.ticked k a b (omega (arith, lt, other)) ea
                    (sym (get_set_other before number k after (λ s. absurd (other s))) ∙ subst (λ l. At l k b) set eb)
              ];
        }

    -- all stations pass a tick
    pub all_passed : (number seat : ℕ) (now : List (Member Living LivingNode)) (old new : Wires) → IsGoodWires old → AreSpared 0 old
        → HavePassed number seat stations now old new → length stations ≤ number → IsThrough now new × AreTicked now
    all_passed number seat now old new wires idle h enough =
        let w = all_come number seat now old new wires idle h in
        (w.through, λ k a b ea eb. let low = at_within stations k a ea in w.ticked k a b (omega (arith, low, enough)) ea eb)

  -- ---- Actions

  -- the operation, if it succeeds, puts out plain datagrams
  abbrev IsPlainResult : Result (List Output) Error → Type 0
  IsPlainResult (Ok os) = Each IsPlainOutput os
  IsPlainResult (Err e) = Unit {0}

  abbrev IsPlainSending : Result Way Error → Type 0
  IsPlainSending (Ok w) = IsPlainKind w.header.kind
  IsPlainSending (Err e) = Unit {0}

  put_plain : (data_by : Way → List ℕ) (r : Result Way Error) → IsPlainSending r → IsPlainResult (put_by data_by r)
  put_plain data_by (Ok w) p = (made_plain w (data_by w) p, tt)
  put_plain data_by (Err e) p = tt

  either_way : (b : Bool) (x y : Result Way Error) → IsPlainSending x → IsPlainSending y → IsPlainSending (cond b x y)
  either_way true x y p q = p
  either_way false x y p q = q

  sending_plain : (h : NodeHolding) (own : Option Addr) (header : Header) (len : ℕ) → IsPlainKind header.kind
      → IsPlainSending (sending_from h own header len)
  sending_plain h None header len p = tt
  sending_plain h (Some own) header len p =
      either_way (is_nobodys header.target) _ _ tt (either_way (nat_lt max_data len) _ _ tt (by (next_of h header.target)))
    where
      by : (o : Option Next) → IsPlainSending (way_or_none own header o)
      by None = tt
      by (Some to) = p

  asking_plain : (own router : Option Addr) → IsPlainSending (asking_from names_way own router)
  asking_plain None router = tt
  asking_plain (Some own) None = tt
  asking_plain (Some own) (Some router) = two

  acted_plain : (m : Member Living LivingNode) (action : Do) → IsOtherDo action → IsPlainResult (acted_by m action)
  acted_plain (RouterMember l) action p = tt
  acted_plain (NodeMember n) (Send to socket source kind hex) p =
      put_plain (λ way. hex) (sending n.node (header_to to socket source kind false) (length hex))
      (sending_plain n.node (settled_of n.node.port) (header_to to socket source kind false) (length hex) p)
  acted_plain (NodeMember n) (Lookup id object kind zone) p =
      put_plain _ (asking n.node) (asking_plain (settled_of n.node.port) n.node.router)

  module _ (plan : Planned) (tick : ℕ)
      (quiet : (index : ℕ) (a : Action) → slice_get plan.actions index ≡ Some a → a.at ≡ tick → IsOtherDo a.action) where
    done_by : (now : List (Member Living LivingNode)) (m : Member Living LivingNode) (station : ℕ) (action : Do) (index : ℕ)
        (old new : Wires × List (ℕ × ℕ)) → IsOtherDo action → IsGoodWires old.0 → IsDoneBy m station action index old new → IsGoodStep old.0 new.0
    done_by now m station action index old new other wires h = by (acted_by m action) (acted_plain m action other) h
      where
        by : (r : Result (List Output) Error) → IsPlainResult r
            → (elim r as (λ r. Type 0) [
              | Ok os ↦ GivesOut station os old.0 new.0 × (new.1 ≡ old.1)
              | Err e ↦ (new.0 ≡ old.0) × (new.1 ≡ old.1 ++ (number_from index, number_of e) ∷ [])
            ])
            → IsGoodStep old.0 new.0
        by (Err e) p g = unchanged old.0 new.0 g.0 wires
        by (Ok os) p g =
            let x = gives_step (IsToldOf i) Lossless station os old.0 new.0 wires.2 (plain_all (IsToldOf i) old.0.cabling.seats station os p) g.0 in
            (good_step old.0 new.0 g.0.4.losing wires x, x)

    one_done : (now : List (Member Living LivingNode)) (index : ℕ) (old new : Wires × List (ℕ × ℕ)) → tick_of plan.actions index ≡ Some tick
        → IsGoodWires old.0 → IsDone plan now index old new → IsGoodStep old.0 new.0
    one_done now index old new due wires h = of (slice_get plan.actions index) refl h
      where
        at_station : (action : Action) → IsOtherDo action.action → (o : Option (Member Living LivingNode))
            → (elim o as (λ o. Type 0) [
              | None ↦ (new.0 ≡ old.0) × (new.1 ≡ old.1)
              | Some m ↦ IsDoneBy m (station_for plan action) action.action index old new
            ]) → IsGoodStep old.0 new.0
        at_station action other None g = unchanged old.0 new.0 g.0 wires
        at_station action other (Some m) g = done_by now m (station_for plan action) action.action index old new other wires g

        of : (o : Option Action) → slice_get plan.actions index ≡ o
            → (elim o as (λ o. Type 0) [
              | None ↦ (new.0 ≡ old.0) × (new.1 ≡ old.1)
              | Some action ↦ (elim (slice_get now (station_for plan action)) as (λ o. Type 0) [
                | None ↦ (new.0 ≡ old.0) × (new.1 ≡ old.1)
                | Some m ↦ IsDoneBy m (station_for plan action) action.action index old new
              ])
            ]) → IsGoodStep old.0 new.0
        of None e g = unchanged old.0 new.0 g.0 wires
        of (Some action) e g =
            let at : Some action.at ≡ Some tick = sym (ap (option_map (λ (a : Action). a.at)) e) ∙ due in
            at_station action (quiet index action e (same_Some action.at tick at)) (slice_get now (station_for plan action)) g

    -- the actions of a tick leave the cables as good as before
    pub all_done : (n : ℕ) (now : List (Member Living LivingNode)) (schedule left : List ℕ) (old new : Wires × List (ℕ × ℕ))
        → IsGoodWires old.0 → AreDone plan now tick n schedule left old new → IsGoodStep old.0 new.0
    all_done zero now schedule left old new wires h = unchanged old.0 new.0 (ap (λ (x : Wires × List (ℕ × ℕ)). x.0) h.1) wires
    all_done (suc n) now schedule left old new wires (rest, index, mid, split, due, does, more) =
        let first = one_done now index old mid due wires does in
        let last = all_done n now rest left mid new first.0 more in
        (last.0, step_then (IsToldOf i) Lossless old.0.cabling mid.0.cabling new.0.cabling first.1 last.1)

  -- ---- Takings

  one_taken : (before now : List (Member Living LivingNode)) (old new : Wires) → IsThrough before old → AreTicked before → IsTaken before now old new
      → IsThrough now new × AreTicked now
  one_taken before now old new h ticked t =
      let one = t.by in
      let low = at_within before t.station one.m one.there in
      let many = h.count in
      let a = at_below stations t.station (omega (arith, low, many)) in
      let like = h.alike t.station a.0 one.m a.1 one.there in
      let heard = λ (p : Pair) (added : List Output) (there : Contains (pending_on old.cabling) p) (of : p.seat.station ≡ t.station)
      (hears : EitherHears RouterHears NodeHears one.m (heard_by p) added one.after).
      (let has = contained_at (pending_on old.cabling) p there in
      let seat = seat_hears old.cabling.seats (transcript old.cabling) p has in
      hears_alike i ok settled bounded seats t.station p (subst (λ s. Has s p.seat) h.wires.0 seat.0) of seat.1 a.0 one.m one.after
      (ground t.station a.0 a.1) added (h.wires.1.pending p has) like hears) in
      let took = one.does.2.took in
      let after = heard took.pair took.added took.was_pending took.of_station took.heard in
      let step =
      takes_step (IsToldOf i) Lossless t.stamp t.station (ports_of one.m) _ old new h.wires.2 h.wires.1 one.does
      (λ p added there stamp of hears. (heard p added there of hears).0) in (
        record {
          wires = (
            step.seats ∙ h.wires.0,
            fine_taken (IsToldOf i) Lossless t.stamp t.station old.cabling new.cabling h.wires.1 step,
            still_lossless old new one.does.5.losing h.wires.2,
          );
          count = ap length one.set ∙ (length-set before t.station one.after ∙ h.count);
          alike = λ k x b ea eb.
              replaced before t.station one.m one.after h.count one.there
              (λ c ec. subst (λ z. IsLike i t.station z one.after) (at_one stations t.station a.0 c a.1 ec) after.1) h.alike k x b ea
              (subst (λ l. At l k b) one.set eb);
        },
        λ k x b ea eb.
            elim (cases_eq k t.station) [
              | inl here ↦
                  let there : At (slice_set before t.station one.after) t.station b =
                  subst (λ n. At (slice_set before t.station one.after) n b) here (subst (λ l. At l k b) one.set eb) in
                  let is : one.after ≡ b = at_one (slice_set before t.station one.after) t.station one.after b (get_set before t.station one.after one.m one.there) there in
                  let was : At stations t.station x = subst (λ n. At stations n x) here ea in
                  subst (HasTickedTo x) is (ticked_then x one.m one.after (ticked t.station x one.m was one.there) after.2)
              | inr other ↦ ticked k x b ea (sym (get_set_other before t.station k one.after (λ s. absurd (other s))) ∙ subst (λ l. At l k b) one.set eb)
            ],
      )

  -- frames are taken
  pub all_taken : (n : ℕ) (before now : List (Member Living LivingNode)) (old new : Wires) → IsThrough before old → AreTicked before
      → AreTaken n before now old new → IsThrough now new × AreTicked now
  all_taken zero before now old new h ticked t =
      (subst (λ l. IsThrough l new) (sym t.0) (subst (IsThrough before) (sym t.1) h), subst AreTicked (sym t.0) ticked)
  all_taken (suc n) before now old new h ticked (mid_stations, mid, first, last) =
      let w = all_taken n before mid_stations old mid h ticked first in
      one_taken mid_stations now mid new w.0 w.1 last
