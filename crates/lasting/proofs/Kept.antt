-- A tick of a world that has settled leaves all so that the seats know.
use Rattle.std.proofs.Common.{◌≡◌, ℕ, zero, suc, ◌%◌, List, [], ◌∷◌, ◌++◌, refl, sym, ap, ◌∙◌, subst, length, map, arith}
use Rattle.at_base.specs.declared.address.Addr.{Addr}
use Rattle.at_base.specs.declared.address.Hw.{Hw}
use Rattle.audit.proofs.WalkLists.{At}
use Rattle.lasting.proofs.Learning.{known_of}
use Rattle.lasting.proofs.Rested.{IsResting}
use Rattle.lasting.proofs.Run.{has_come, rests, tick_stays}
use Rattle.lasting.proofs.Seated.{IsTold, all_settled, base, choices_at, found, lies, speaks}
use Rattle.lasting.proofs.Told.{AreSo}
use Rattle.lasting.proofs.Truthful.{AreAllTrue, tick_true}
use Rattle.lasting.specs.Begun.{HasRun, IsNextTick}
use Rattle.lasting.specs.Resting.{AreOther, IsSameNode, KeepsDistances}
use Rattle.lasting.specs.Settled.{IsSettledWorld}
use Rattle.planned_stations.specs.Seating.{plan_seats}
use Rattle.table_image.specs.Internet.{Internet}
use Rattle.table_image.specs.Seats.{Seat as ImageSeat, node_seats, port_seat, router_seats, seats}
use Rattle.table_image.specs.declared.node.Node.{Node}
use Rattle.table_image.specs.declared.port.Port.{Port}
use Rattle.table_image.specs.declared.router.Router.{Router}
use Rattle.table_image.specs.declared.version.Version.TheVariants.{V1}
use Rattle.world.specs.Frozen.{frozen_as}
use Rattle.world.specs.Worlds.{Worldly}

-- ---- Seats of an image

-- routers with the same ports have the same seats
routers_same : (n : ℕ) (xs ys : List Router) → length xs ≡ length ys → ((k : ℕ) (a b : Router) → At xs k a → At ys k b → a.ports ≡ b.ports)
    → router_seats n xs ≡ router_seats n ys
routers_same n [] [] e h = refl
routers_same n [] (y ∷ ys) e h = absurd (omega arith)
routers_same n (x ∷ xs) [] e h = absurd (omega arith)
routers_same n (x ∷ xs) (y ∷ ys) e h =
    ap (λ (ps : List Port). map (port_seat n) ps ++ router_seats (suc n) xs) (h zero x y refl refl)
    ∙ ap (λ l. map (port_seat n) y.ports ++ l) (routers_same (suc n) xs ys (omega (arith, e)) (λ k a b ea eb. h (suc k) a b ea eb))

-- and nodes with the same addresses
nodes_same : (n : ℕ) (xs ys : List Node) → length xs ≡ length ys → ((k : ℕ) (a b : Node) → At xs k a → At ys k b → IsSameNode a b)
    → node_seats n xs ≡ node_seats n ys
nodes_same n [] [] e h = refl
nodes_same n [] (y ∷ ys) e h = absurd (omega arith)
nodes_same n (x ∷ xs) [] e h = absurd (omega arith)
nodes_same n (x ∷ xs) (y ∷ ys) e h =
    let w = h zero x y refl refl in
    let seat : ℕ → Addr → Hw → ImageSeat = λ c a hw. record { station = n; cable = c; address = a; hardware = hw } in
    let same : seat x.cable x.address x.hardware ≡ seat y.cable y.address y.hardware =
    ap (λ c. seat c x.address x.hardware) (sym w.cable) ∙ (ap (λ a. seat y.cable a x.hardware) (sym w.address) ∙ ap (λ hw. seat y.cable y.address hw) (sym w.hardware)) in
    ap (λ s. s ∷ node_seats (suc n) xs) same
    ∙ ap (λ l. seat y.cable y.address y.hardware ∷ l) (nodes_same (suc n) xs ys (omega (arith, e)) (λ k a b ea eb. h (suc k) a b ea eb))

-- an internet that keeps its distances keeps its seats
seats_kept : (i j : Internet) → KeepsDistances i j → seats i ≡ seats j
seats_kept i j k =
    ap (λ l. l ++ node_seats (length i.routers) i.nodes)
    (routers_same 0 i.routers j.routers k.routers.count (λ n a b ea eb. (k.routers.each n a b ea eb).ports))
    ∙ (ap (λ n. router_seats 0 j.routers ++ node_seats n i.nodes) k.routers.count
    ∙ ap (λ l. router_seats 0 j.routers ++ l) (nodes_same (length j.routers) i.nodes j.nodes k.as_many k.nodes))

-- ---- A tick

-- what the seats know stays so
pub still_so : (old new : Worldly) (run : HasRun old) (s : IsSettledWorld old) → AreOther old.plan new.now → (t : IsNextTick old new)
    → (later : HasRun new) (s2 : IsSettledWorld new) → AreSo old run s → AreSo new later s2
still_so old new run s others t later s2 so =
    let rest : IsResting (old.now % 100) old = rests old (has_come old run) s in
    let kept = (tick_stays old new run s others t).keeps in
    let after : AreAllTrue (IsTold (seats (frozen_as V1 old))) (plan_seats old.plan) (known_of new.wires.maps) =
    tick_true (IsTold (seats (frozen_as V1 old))) (plan_seats old.plan)
    (base old.plan (old.now % 100) old.stations old.wires.maps rest.standing rest.passes rest.settled rest.bounded)
    (all_settled old.plan (old.now % 100) old.stations old.wires.maps rest.standing rest.passes rest.settled rest.bounded)
    (speaks old.plan (old.now % 100) old.stations old.wires.maps rest.standing rest.passes rest.settled rest.bounded)
    (found old.plan (old.now % 100) old.stations old.wires.maps rest.standing rest.passes rest.settled rest.bounded)
    (lies old.plan (old.now % 100) old.stations old.wires.maps rest.standing rest.passes rest.settled rest.bounded) old new t.tick
    (λ k m e. sym (ap choices_at e)) rest.seats rest.pending so in
    subst (λ p. AreAllTrue (IsTold (seats (frozen_as V1 new))) (plan_seats p) (known_of new.wires.maps)) (sym t.plan)
    (subst (λ ss. AreAllTrue (IsTold ss) (plan_seats old.plan) (known_of new.wires.maps)) (seats_kept (frozen_as V1 old) (frozen_as V1 new) kept) after)
