-- Where nothing is to be done, live cables stay as they are.
use Rattle.std.proofs.Common.{◌≡◌, ℕ, List, [], ◌∷◌, false, length, Option, Some, None, ◌++◌, refl, sym, ap, ◌∙◌, slice_get}
use Rattle.std.proofs.lemmas.List.{append-nil}
use Rattle.std.specs.List.{list_any}
use Rattle.std.specs.Prelude.{slice_set}
use Rattle.aarp.specs.Mapping.{Mappings, given_up, shed, to_ask, waited}
use Rattle.aarp.specs.declared.held.Held.{Held}
use Rattle.cable_model.specs.Logs.{Cabling, transcript}
use Rattle.cable_model.specs.Pending.{pending}
use Rattle.live_cables.proofs.Learning.{set_same}
use Rattle.live_cables.proofs.Released.{adds_none}
use Rattle.live_cables.specs.Finding.{held_at}
use Rattle.live_cables.specs.Holding.{AreShed, with_tick}
use Rattle.live_cables.specs.Living.{GivesOut, PassesFor, AddsAllowed, PlaysOn, Stays, Wires, happened, knowing}
use Rattle.live_cables.specs.Putting.{AreAsked}
use Rattle.live_cables.specs.Steps.{Loses}
use Rattle.station.specs.declared.output.Output.{Output}

none_long : {X : Type 0} (xs : List X) → length xs ≡ 0 → xs ≡ []
none_long [] e = refl
none_long (x ∷ xs) e = absurd cc

fails_for_all : {X : Type 0} (xs : List X) → list_any (λ x. false) xs ≡ false
fails_for_all [] = refl
fails_for_all (x ∷ xs) = fails_for_all xs

pub plays_none : (w : Wires) → AddsAllowed w w
plays_none w = record {
  added = [];
  grown = sym (append-nil (happened w));
  played = record { due = tt; each = refl };
  seats = refl;
  limit = refl;
  own = refl;
  ranges = refl;
  losing = refl;
}

pub done_none : (w : Wires) → PlaysOn 0 w w
unfolding plays_none
done_none w = record {
  plays = plays_none w;
  takes = refl;
  lost = rw (fails_for_all (pending w.cabling.seats (transcript w.cabling ++ []))) refl;
}

stays_none : (w : Wires) → Stays w w
stays_none w = record { own = refl; ranges = refl; losing = refl }

loses_none : (stamps : List ℕ) (c : Cabling) → Loses stamps c c
loses_none stamps c =
    record { added = []; grown = sym (append-nil (transcript c)); losses = tt; seats = refl; limit = refl }

-- no outputs were given out
pub gives_none : (station : ℕ) (os : List Output) (w : Wires) → length os ≡ 0 → GivesOut station os w w
gives_none station [] w e = ((w.cabling, knowing w station), (refl, refl), loses_none _ w.cabling, refl, stays_none w)
gives_none station (o ∷ os) w e = absurd cc

-- where nothing is held a tick leaves the mappings as they are
ticks_none : (maps : List Mappings) (i : ℕ) → held_at maps i ≡ [] → maps ≡ with_tick maps i
ticks_none maps i none = by (slice_get maps i) refl
  where
    by : (o : Option Mappings) → slice_get maps i ≡ o → maps ≡ with_tick maps i
    by None at = rw at refl
    by (Some m) at =
        let empty : m.held ≡ [] = sym (ap held_in at) ∙ none in
        let same : (record m { held = waited m.held }) ≡ m =
        ap (λ (h : List Held). (record m { held = waited h })) empty ∙ ap (λ (h : List Held). (record m { held = h })) (sym empty) in
        rw at (sym (ap (slice_set maps i) same ∙ set_same maps i m at))
      where
        held_in : Option Mappings → List Held
        held_in None = []
        held_in (Some n) = n.held

-- a seat at which nothing is held passed a tick
pub passes_none : (seat : ℕ) (w : Wires) → length (held_at w.maps seat) ≡ 0 → PassesFor seat w w
passes_none seat w e =
    let none : held_at w.maps seat ≡ [] = none_long (held_at w.maps seat) e in
    let c : Cabling = w.cabling in
    let asked : AreAsked (slice_get c.seats seat) (slice_get w.own seat) (to_ask (held_at w.maps seat)) c c = rw none refl in
    let given_up : AreShed (shed (held_at w.maps seat)) c c = rw none (adds_none c) in
    (c, asked, c, loses_none _ c, given_up, ticks_none w.maps seat none, stays_none w)

-- where nothing is held no address is given up
pub nobody_given_up : (held : List Held) → length held ≡ 0 → given_up held ≡ []
nobody_given_up [] e = refl
nobody_given_up (h ∷ held) e = absurd cc
