-- A response that is taken and learnt.
use Rattle.std.proofs.Common.{◌≡◌, ℕ, ◌≤◌, true, Bool, List, Option, Some, None, Result, Ok, Err, refl}
use Rattle.std.proofs.Common.{sym, ap, ◌∙◌, slice_get, subst, arith}
use Rattle.std.specs.Prelude.{OnErr, OnOk}
use Rattle.aarp.specs.Mapping.{Mappings, forgotten, learnt}
use Rattle.at_base.specs.declared.error.Error.{Error}
use Rattle.cable_model.specs.Books.{HasOneSeat}
use Rattle.cable_model.specs.Logs.{Cabling, transcript}
use Rattle.cable_model.specs.Outgoing.{IsTaken}
use Rattle.cable_model.specs.Rooms.{held_rooms}
use Rattle.cable_model.specs.Transcript.{ArePutOnce}
use Rattle.live_cables.specs.Finding.{Knowing, places_of, seat_by}
use Rattle.live_cables.specs.Holding.{AreFew, AreReleased, Holds, IsKnownAt, IsMet, IsTold, stamps_for, with_known, with_learnt}
use Rattle.live_cables.specs.Holding.{without_held}
use Rattle.live_cables.specs.Putting.{IsAnswer}
use Rattle.live_cables.specs.Taking.{IsTakenIn}
use Rattle.live_cables.specs.declared.answer.Answer.{Answer}
use Rattle.live_cables.proofs.Learning.{few_then, forgotten_then, known_then, met_then, stamps_stay}
use Rattle.live_cables.proofs.Released.{adds_none}
use Rattle.live_cables.proofs.Taken.{TakesQuietly, few_taken, takes_quietly}
use Rattle.station.specs.Hearing.{Hearing}
use Rattle.station.specs.declared.output.Output.{Output}

-- What was learnt ahead of a take that was refused is forgotten.
pub undone : (seat : ℕ) (answer : Answer) (old met gone : Knowing) → IsMet seat answer old.maps true met.maps
    → met ≡ record old { maps = met.maps }
    → gone ≡ record met { maps = with_known met.maps seat (forgotten answer.source) } → gone ≡ old
undone seat answer old met gone is_met others forgot =
    forgot
    ∙ (ap {A = Knowing} (λ k. record k { maps = with_known met.maps seat (forgotten answer.source) }) others
    ∙ ap (λ l. record old { maps = l }) (forgotten_then seat answer old.maps met.maps is_met))

-- A response was taken after its mapping was learnt ahead.
pub record IsTakenAhead (stamp station ports : ℕ) (Hears : Hearing → List Output → Type 0) (seat : ℕ) (answer : Answer)
    (new : Bool) (a b : Cabling) (old met after : Knowing) : Type 0 where
  pub once : ArePutOnce (transcript a)
  pub one_seat : HasOneSeat a.seats
  pub heard : IsAnswer a stamp station (Some answer)
  pub is_met : IsMet seat answer old.maps new met.maps
  pub others : met ≡ record old { maps = met.maps }
  pub took : IsTaken places_of Holds ports a b stamp station Hears met after

module _ (stamp station ports : ℕ) (Hears : Hearing → List Output → Type 0) (seat : ℕ) (answer : Answer) (new : Bool)
    (a b : Cabling) (old met after : Knowing) (h : IsTakenAhead stamp station ports Hears seat answer new a b old met after) where
  quiet : TakesQuietly ports a b stamp station Hears met after
  quiet = takes_quietly ports a b stamp station Hears met after answer h.once h.one_seat h.heard h.took

  pub known_after : IsKnownAt after.maps seat answer.source
  known_after =
      subst (λ k. IsKnownAt k.maps seat answer.source) (sym quiet.stays) (known_then seat answer old.maps new met.maps h.is_met)

  pub room_after : a.rooms ≡ held_rooms → 16 ≤ b.spare
  room_after rooms =
      let room = quiet.room in
      let pairs : a.rooms.take.pairs ≡ 257 = ap (λ r. r.take.pairs) rooms in
      omega (arith, room, pairs)

  module _ (c : Cabling) (known final : Knowing)
      (learns : known ≡ record after { maps = with_known after.maps seat (learnt answer.source answer.source_hw) })
      (left : final ≡ record known { maps = without_held known.maps seat answer.source }) where
    known_maps : known.maps ≡ with_known old.maps seat (learnt answer.source answer.source_hw)
    known_maps =
        ap (λ k. k.maps) learns
        ∙ (ap (λ k. with_known k.maps seat (learnt answer.source answer.source_hw)) quiet.stays
        ∙ met_then seat answer old.maps new met.maps h.is_met)

    final_maps : final.maps ≡ with_learnt old.maps seat answer
    final_maps = ap (λ k. k.maps) left ∙ ap (λ l. without_held l seat answer.source) known_maps

    final_others : final ≡ record old { maps = final.maps }
    final_others =
        left
        ∙ (ap (λ l. record known { maps = l }) (sym (ap (λ k. k.maps) left))
        ∙ (ap {A = Knowing} (λ k. record k { maps = final.maps }) learns
        ∙ (ap {A = Knowing} (λ k. record k { maps = final.maps }) quiet.stays
        ∙ ap {A = Knowing} (λ k. record k { maps = final.maps }) h.others)))

    pub few_after : AreFew old.maps → AreFew final.maps
    few_after few = subst AreFew (sym final_maps) (few_then seat answer old.maps few)

    pub taken_in : seat_by old.seats station answer.port ≡ Some seat
        → AreReleased answer.source_hw (stamps_for (slice_get known.maps seat) answer) b c
        → IsTakenIn stamp station ports Hears (a, old) (c, final)
    taken_in is_seat released =
        let stamps =
        ap (λ l. stamps_for (slice_get l seat) answer) known_maps
        ∙ stamps_stay old.maps seat (learnt answer.source answer.source_hw) answer in
        record {
          taken = b;
          after = old;
          took = quiet.by_any old;
          answer = Some answer;
          said = h.heard;
          told = rw is_seat (subst (λ l. AreReleased answer.source_hw l b c) stamps released, final_maps);
          others = final_others;
        }

-- ---- A frame that tells no mapping

pub taken_plain : (stamp station ports : ℕ) (Hears : Hearing → List Output → Type 0) (a b : Cabling) (k l : Knowing)
    (o : Option Answer) → IsAnswer a stamp station o → IsTold k.seats station o (b, l.maps) (b, l.maps)
    → IsTaken places_of Holds ports a b stamp station Hears k l → IsTakenIn stamp station ports Hears (a, k) (b, l)
taken_plain stamp station ports Hears a b k l o is told took =
    record { taken = b; after = l; took = took; answer = o; said = is; told = told; others = refl }

pub told_nowhere : (k : Knowing) (station : ℕ) (answer : Answer) (c : Cabling × List Mappings)
    → seat_by k.seats station answer.port ≡ None → IsTold k.seats station (Some answer) c c
told_nowhere k station answer c none = rw none (adds_none c.0, refl)

pub few_either : (stamp station ports : ℕ) (Hears : Hearing → List Output → Type 0) (a b : Cabling) (k l : Knowing)
    (r : Result (Unit {0}) Error) → OnOk r (IsTaken places_of Holds ports a b stamp station Hears k l) → OnErr r (l ≡ k)
    → AreFew k.maps → AreFew l.maps
few_either stamp station ports Hears a b k l (Ok u) took stays few = few_taken ports a b stamp station Hears k l took few
few_either stamp station ports Hears a b k l (Err e) took stays few = subst (λ n. AreFew n.maps) (sym stays) few
