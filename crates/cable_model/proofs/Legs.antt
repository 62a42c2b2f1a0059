-- The legs of datagrams, by their routes; and the room that outputs need.
use Rattle.std.proofs.Common.{◌≡◌, ℕ, ◌+◌, ◌*◌, Bool, true, false, not, ◌&&◌, cond, List, [], ◌∷◌, length, refl, arith, sym, ap, ◌∙◌, subst}
use Rattle.at_base.specs.Address.{same_address}
use Rattle.cable_model.specs.Outcomes.{Places, Sender, goes_nowhere, held_by, held_next, is_nobody, leg, to_other, to_target}
use Rattle.cable_model.specs.Ways.{all_lines, all_spare, is_nowhere_way, sender_at, way_entries, way_held, way_of}
use Rattle.cable_model.proofs.Steps.{same_grows, same_log}
use Rattle.cable_model.specs.Books.{Grows}
use Rattle.cable_model.specs.declared.outlet.Outlet.{Outlet}
use Rattle.cable_model.specs.declared.log.Log.{Log}
use Rattle.cable_model.specs.declared.resolve.Found.{Found}
use Rattle.cable_model.specs.declared.resolve.Found.TheVariants.{At, Nobody, Later}
use Rattle.cable_model.specs.declared.route.Route.{Route}
use Rattle.cable_model.specs.declared.route.Route.TheVariants as way
use Rattle.ddp.specs.Bodies.{target}
use Rattle.station.specs.Lawful.{count, is_made}
use Rattle.station.specs.declared.output.Next.{Next}
use Rattle.station.specs.declared.output.Next.TheVariants as next
use Rattle.station.specs.declared.output.Output.{Output}
use Rattle.station.specs.declared.output.Output.TheVariants as output

pub leg_is : (places : Places) (s : Sender) (to : Next) (bytes : List ℕ)
    → leg places s to bytes ≡ way_entries s bytes (way_of places s.cable to bytes)
leg_is places s (next.Station a) bytes = by (same_address (target bytes) a) (places.finds s.cable a)
  where
    by : (b : Bool) (f : Found)
        → cond b (to_target s bytes f) (to_other s bytes f) ≡ way_entries s bytes (cond b (way.Target a f) (way.Other a f))
    by true f = refl
    by false f = refl
leg_is places s next.All bytes = refl
leg_is places s (next.Group g) bytes = refl

pub held_is : (places : Places) (cable : ℕ) (to : Next) (bytes : List ℕ)
    → held_next places cable to bytes ≡ way_held cable bytes (way_of places cable to bytes)
held_is places cable (next.Station a) bytes = by (same_address (target bytes) a) (places.finds cable a)
  where
    by : (b : Bool) (f : Found) → held_by f cable a bytes ≡ way_held cable bytes (cond b (way.Target a f) (way.Other a f))
    by true f = refl
    by false f = refl
held_is places cable next.All bytes = refl
held_is places cable (next.Group g) bytes = refl

-- a datagram left on the route that was found
pub left_grows : (places : Places) (exit : Outlet) (to : Next) (bytes b : List ℕ) (w : Route) (old new : Log) (n stamp : ℕ)
    → w ≡ way_of places exit.cable to bytes → n ≡ stamp → b ≡ bytes
    → Grows old new (way_entries (sender_at exit n) b w) (way_held exit.cable b w)
    → Grows old new (leg places (sender_at exit stamp) to bytes) (held_next places exit.cable to bytes)
left_grows places exit to bytes b w old new n stamp e p q x =
    let s = sender_at exit stamp in
    let entries =
    ap (λ n. way_entries (sender_at exit n) b w) p
    ∙ (ap (λ b. way_entries s b w) q ∙ (ap (way_entries s bytes) e ∙ sym (leg_is places s to bytes))) in
    let waits =
    ap (λ b. way_held exit.cable b w) q ∙ (ap (way_held exit.cable bytes) e ∙ sym (held_is places exit.cable to bytes)) in
    subst (λ es. Grows old new es (held_next places exit.cable to bytes)) entries
    (subst (λ hs. Grows old new (way_entries (sender_at exit n) b w) hs) waits x)

-- a datagram goes nowhere on its route just if it goes nowhere
pub nowhere_is : (places : Places) (cable : ℕ) (to : Next) (bytes : List ℕ)
    → is_nowhere_way (way_of places cable to bytes) ≡ goes_nowhere places cable to bytes
nowhere_is places cable (next.Station a) bytes = by (same_address (target bytes) a) (places.finds cable a)
  where
    by : (b : Bool) (f : Found) → is_nowhere_way (cond b (way.Target a f) (way.Other a f)) ≡ (not b && is_nobody f)
    by true f = refl
    by false Nobody = refl
    by false Later = refl
    by false (At hw) = refl
nowhere_is places cable next.All bytes = refl
nowhere_is places cable (next.Group g) bytes = refl

nowhere_none : (s : Sender) (cable : ℕ) (bytes : List ℕ) (w : Route) → is_nowhere_way w ≡ true
    → (way_entries s bytes w ≡ []) × (way_held cable bytes w ≡ [])
nowhere_none s cable bytes (way.Other a Nobody) e = (refl, refl)
nowhere_none s cable bytes (way.Other a Later) e = cc
nowhere_none s cable bytes (way.Other a (At hw)) e = cc
nowhere_none s cable bytes (way.Target a f) e = cc
nowhere_none s cable bytes (way.All listed) e = cc
nowhere_none s cable bytes (way.Group g) e = cc

-- a datagram that goes nowhere changes nothing
pub nowhere_grows : (places : Places) (exit : Outlet) (to : Next) (bytes : List ℕ) (w : Route) (log : Log) (stamp : ℕ)
    → w ≡ way_of places exit.cable to bytes → is_nowhere_way w ≡ true
    → Grows log log (leg places (sender_at exit stamp) to bytes) (held_next places exit.cable to bytes)
nowhere_grows places exit to bytes w log stamp e none =
    let n = nowhere_none (sender_at exit stamp) exit.cable bytes w none in
    left_grows places exit to bytes bytes w log log stamp stamp e refl refl
    (subst (λ es. Grows log log es (way_held exit.cable bytes w)) (sym n.0)
    (subst (λ hs. Grows log log [] hs) (sym n.1)
    (same_grows log log (same_log log))))

-- The room that outputs need, given how many of them the station made.
pub record Needs (os : List Output) : Type 0 where
  pub lines : all_lines os ≡ 3 * count is_made os + 2 * count (λ o. not (is_made o)) os
  pub spare : all_spare os ≡ count (λ o. not (is_made o)) os
  pub all : length os ≡ count is_made os + count (λ o. not (is_made o)) os

pub needs : (os : List Output) → Needs os
needs [] = record { lines = refl; spare = refl; all = refl }
needs (output.Made port to bytes ∷ os) = let n = needs os in record {
  lines = omega (arith, n.lines);
  spare = omega (arith, n.spare);
  all = omega (arith, n.all);
}
needs (output.Passed port to bytes ∷ os) = let n = needs os in record {
  lines = omega (arith, n.lines);
  spare = omega (arith, n.spare);
  all = omega (arith, n.all);
}
needs (output.Kept port bytes ∷ os) = let n = needs os in record {
  lines = omega (arith, n.lines);
  spare = omega (arith, n.spare);
  all = omega (arith, n.all);
}
needs (output.Dropped cause bytes ∷ os) = let n = needs os in record {
  lines = omega (arith, n.lines);
  spare = omega (arith, n.spare);
  all = omega (arith, n.all);
}
needs (output.Wire port to bytes ∷ os) = let n = needs os in record {
  lines = omega (arith, n.lines);
  spare = omega (arith, n.spare);
  all = omega (arith, n.all);
}
