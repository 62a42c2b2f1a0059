use Rattle.std.proofs.Common.{◌≡◌, ◌*◌, ◌++◌, [], ◌∷◌, List, ℕ, ◌≤◌, vec_len, arith, length, subst, ap, append_assoc, ap₂, ◌∙◌}
use Rattle.cable_model.proofs.RoomLeft.{room_for}
use Rattle.cable_model.proofs.Steps.{adds_of, grows_then, same_grows, tells_then, told}
use Rattle.cable_model.proofs.Takes.{enough, no_spare, roomy, sent_room, settle_room, settled_room, waiting_long}
use Rattle.cable_model.specs.Books.{Grows, HasRoom, held as held_in, said as said_in}
use Rattle.cable_model.specs.Logs.{Cabling}
use Rattle.cable_model.specs.Outcomes.{Places, Sender, held_next, leg}
use Rattle.cable_model.specs.Outgoing.{IsAnswering, IsHeldBy}
use Rattle.cable_model.specs.Rooms.{known_rooms}
use Rattle.cable_model.specs.Transcript.{Entry, Sent, next_stamp}
use Rattle.ddp.specs.Bodies.{body}
use Rattle.cable_model.proofs.cables.Cables.send.Goals as goal
use Rattle.cable_model.specs.Places.{widest}

pub invariant_of-self : goal.invariant_of-self
invariant_of-self g c = roomy c.make_room.ensures.same c.self.invariant

pub sent-requires-clause-book : goal.sent-requires-clause-book
sent-requires-clause-book g c = (roomy c.make_room.ensures.same c.self.invariant).0.book

pub sent-requires-clause-room : goal.sent-requires-clause-room
sent-requires-clause-room g c =
    let rooms = c.self.inside.rooms in
    let is = enough rooms c.self.invariant.1 in
    let n = widest c.self.inside.seats in
    let frames : rooms.send.pairs * c.widest.result ≡ 1 * n = ap₂ (λ p k. p * k) is.sent_pairs c.widest.ensures.value in
    room_for c.make_room.new.log rooms.send.lines rooms.send.bytes rooms.send.bytes (rooms.send.pairs * c.widest.result)
    3 1 1 n c.in-Ok-make_room.ensures.room
    (omega (arith, is.sent_lines)) (omega (arith, is.sent_bytes)) (omega (arith, is.sent_bytes)) (omega (arith, frames))

pub make_room-requires : goal.make_room-requires
make_room-requires g c =
    let is = enough c.self.inside.rooms c.self.invariant.1 in
    record { kept = (c.self.inside.seats, c.self.invariant.0); fewer = is.sent_fewer; few = omega (arith, is.sent_few) }

pub settle-requires-clause-room : goal.settle-requires-clause-room
settle-requires-clause-room g c =
    let s = c.self.inside.seats in
    let rooms = c.self.inside.rooms in
    let mid = c.make_room.new.log in
    let new = c.sent.new.log in
    let k = (roomy c.make_room.ensures.same c.self.invariant).0 in
    let places : Places = record { finds = g.R.Resolve.finds c.args.resolver.now; lists = g.R.Resolve.lists c.args.resolver.now } in
    let known : rooms ≡ known_rooms → IsAnswering places =
    λ e. c.requires.known (subst (λ (v : Cabling). v.rooms ≡ known_rooms) c.self.view_is e) in
    let sender : Sender = record { stamp = mid.next_stamp; cable = c.args.cable; station = c.args.station } in
    let waits = held_next places c.args.cable c.args.next c.args.bytes in
    let used = sent_room s rooms places c.self.invariant.1 known sender c.args.next c.args.bytes (body c.args.bytes) mid new k.book
    c.sent.ensures.book c.sent.ensures.grows c.sent.ensures.uses in
    let es = Sent c.args.station (body c.args.bytes) ∷ leg places sender c.args.next c.args.bytes in
    let long = (waiting_long mid new es waits k.idle c.sent.ensures.grows).1 in
    let room =
    subst (λ n. HasRoom mid rooms.send.lines rooms.send.bytes rooms.send.bytes (rooms.send.pairs * n)) c.widest.ensures.value
    c.in-Ok-make_room.ensures.room in
    settle_room rooms waits mid new s room c.in-Ok-make_room.ensures.holdings long used

pub settle-requires-clause-few : goal.settle-requires-clause-few
settle-requires-clause-few g c =
    let k = (roomy c.make_room.ensures.same c.self.invariant).0 in
    let mid = c.make_room.new.log in
    let none = ap length k.idle in
    omega (arith, c.sent.ensures.uses.waiting, none, mid.waiting.ok.0)

pub invariant_of-self-2 : goal.invariant_of-self-2
invariant_of-self-2 g c =
    let s = c.self.inside.seats in
    let rooms = c.self.inside.rooms in
    let mid = c.make_room.new.log in
    let new = c.sent.new.log in
    let k = (roomy c.make_room.ensures.same c.self.invariant).0 in
    let places : Places = record { finds = g.R.Resolve.finds c.args.resolver.now; lists = g.R.Resolve.lists c.args.resolver.now } in
    let known : rooms ≡ known_rooms → IsAnswering places =
    λ e. c.requires.known (subst (λ (v : Cabling). v.rooms ≡ known_rooms) c.self.view_is e) in
    let sender : Sender = record { stamp = mid.next_stamp; cable = c.args.cable; station = c.args.station } in
    let waits = held_next places c.args.cable c.args.next c.args.bytes in
    let used = sent_room s rooms places c.self.invariant.1 known sender c.args.next c.args.bytes (body c.args.bytes) mid new k.book
    c.sent.ensures.book c.sent.ensures.grows c.sent.ensures.uses in
    let es = Sent c.args.station (body c.args.bytes) ∷ leg places sender c.args.next c.args.bytes in
    let long = (waiting_long mid new es waits k.idle c.sent.ensures.grows).1 in
    let room =
    subst (λ n. HasRoom mid rooms.send.lines rooms.send.bytes rooms.send.bytes (rooms.send.pairs * n)) c.widest.ensures.value
    c.in-Ok-make_room.ensures.room in
    let limit = c.self.inside.limit in
    let last = c.settle.new.log in
    let gone = c.settle.ensures.used in
    let all = settled_room rooms waits mid new last s c.self.invariant.1 room long used gone in
    let few : vec_len last.lines ≤ limit = omega (arith, all.lines, c.in-Ok-make_room.ensures.within) in (
      record {
        book = c.settle.ensures.book;
        few = few;
        named = omega (arith, c.sent.ensures.named, gone.named, k.named);
        frames = omega (arith, k.frames, c.sent.ensures.uses.steady, gone.steady);
        idle = c.settle.ensures.idle;
        one_seat = k.one_seat;
      },
      c.self.invariant.1,
      no_spare s limit last,
    )

pub returns-clause-ok : goal.returns-clause-ok
returns-clause-ok g c =
    let s = c.self.inside.seats in
    let old = c.self.inside.log in
    let mid = c.make_room.new.log in
    let new = c.sent.new.log in
    let last = c.settle.new.log in
    let places : Places = record { finds = g.R.Resolve.finds c.args.resolver.now; lists = g.R.Resolve.lists c.args.resolver.now } in
    let at : ℕ → Sender = λ n. record { stamp = n; cable = c.args.cable; station = c.args.station } in
    let entries : ℕ → List Entry =
    λ n. Sent c.args.station (body c.args.bytes) ∷ leg places (at n) c.args.next c.args.bytes in
    let waits = held_next places c.args.cable c.args.next c.args.bytes in
    let room = c.make_room.ensures.same in
    let stamp : mid.next_stamp ≡ next_stamp (said_in old) = room.next_stamp ∙ c.self.invariant.0.book.next in
    let es = entries (next_stamp (said_in old)) in
    let grows = subst (λ n. Grows mid new (entries n) waits) stamp c.sent.ensures.grows in
    let first = grows_then old mid new [] es [] waits (same_grows old mid room) grows in
    let held = (waiting_long mid new es waits (roomy c.make_room.ensures.same c.self.invariant).0.idle grows).0 in
    let done = c.settle.ensures.settled in
    let x = c.args.resolver.now in
    let y = c.settle.new.resolver in
    let by =
    subst (λ ws. IsHeldBy g.R.Resolve.holds c.args.station (said_in old ++ es) ws x done.0 done.1 y) held
    (subst (λ t. IsHeldBy g.R.Resolve.holds c.args.station t (held_in new) x done.0 done.1 y) first.said done.4) in
    rw (← c.self.view_is) (record {
      more = done.0;
      asks = done.1;
      held = by;
      entries =
          adds_of s c.self.inside.limit c.self.inside.rooms old last _ _ _
          (tells_then old new last es done.0 (told old new es waits first) done.2);
      stored =
          done.3
          ∙ (ap (λ k. k ++ done.1) (c.sent.ensures.stored ∙ ap (λ k. k ++ c.args.bytes ∷ []) room.kept)
          ∙ append_assoc old.kept.items (c.args.bytes ∷ []) done.1);
    })
