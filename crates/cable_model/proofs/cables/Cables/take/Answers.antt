use Rattle.std.proofs.Common.{rules, ◌≡◌, ◌⊎◌, ◌<◌, ◌≤◌, ◌+◌, ◌++◌, ◌==◌, ◌*◌, true, false, List, [], ◌∷◌, arith, sym, subst, ap, ◌∙◌}
use Rattle.std.proofs.Common.{eqb-true}
use Rattle.std.proofs.Common.{Contains, length, vec_len}
use Rattle.std.specs.List.{list_any}
use Rattle.std.specs.Prelude.{IsSome}
use Rattle.std.proofs.lemmas.Bool.{and_parts}
use Rattle.cable_model.proofs.Books.{stamp_is}
use Rattle.cable_model.proofs.Legs.{needs}
use Rattle.cable_model.proofs.Steps.{adds_of, grows_then, same_grows, tells_then, told}
use Rattle.cable_model.proofs.Takes.{enough, known_room, no_spare, none_long, roomy, same_said, seat_there, take_few, take_more}
use Rattle.cable_model.proofs.Takes.{take_spare}
use Rattle.cable_model.specs.Books.{HasHeldRoom, HasRoom, IsSpare, pair_at, said as said_in, seat_at}
use Rattle.cable_model.specs.Logs.{Cabling, transcript as said}
use Rattle.cable_model.specs.Outcomes.{Places, heard_by, is_named}
use Rattle.cable_model.specs.Outgoing.{GoOut, IsAnswering}
use Rattle.cable_model.specs.Pending.{pending as pending_on}
use Rattle.cable_model.specs.Rooms.{known_rooms}
use Rattle.cable_model.specs.Transcript.{Entry, Took, has_put}
use Rattle.cable_model.specs.Ways.{all_lines, all_spare}
use Rattle.station.specs.Hearing.{hearing}
use Rattle.station.specs.Resolution.{response_in}
use Rattle.cable_model.proofs.cables.Cables.take.Goals.{then-is_empty, else-is_empty}
use Rattle.cable_model.proofs.cables.Cables.take.Goals as goal
use Rattle.cable_model.specs.Places.{widest}

pub returns-in_default-clause-full : goal.returns-in_default-clause-full
returns-in_default-clause-full g c =
    let v : list_any (is_named c.args.stamp c.args.station) (pending_on c.args.self.now.seats (said c.args.self.now)) ≡ false =
    rw (← c.self.view_is)
    (sym (c.in_default.ensures.value c.self.inside.seats c.self.invariant.0.book)) in
    search rules

pub invariant_of-self : goal.invariant_of-self
invariant_of-self g c = roomy c.make_room.ensures.same c.self.invariant

pub returns-in-Err-clause-not_pending : goal.returns-in-Err-clause-not_pending
returns-in-Err-clause-not_pending g c =
    let v : list_any (is_named c.args.stamp c.args.station) (pending_on c.args.self.now.seats (said c.args.self.now)) ≡ true =
    rw (← c.self.view_is)
    (sym (c.in-Some.ensures.value c.self.inside.seats c.self.invariant.0.book)) in
    search rules

pub invariant_of-self-in-Err-make_ready : goal.invariant_of-self-in-Err-make_ready
invariant_of-self-in-Err-make_ready g c = roomy c.make_room.ensures.same c.self.invariant

pub returns-in-Err-make_ready-clause-not_pending : goal.returns-in-Err-make_ready-clause-not_pending
returns-in-Err-make_ready-clause-not_pending g c =
    let v : list_any (is_named c.args.stamp c.args.station) (pending_on c.args.self.now.seats (said c.args.self.now)) ≡ true =
    rw (← c.self.view_is)
    (sym (c.in-Some.ensures.value c.self.inside.seats c.self.invariant.0.book)) in
    search rules

pub receive-requires : goal.receive-requires
receive-requires g c =
    let ss = c.self.inside.seats in
    let due = c.in-Some.due in
    let is_due = c.in-Some.ensures.due ss c.self.invariant.0.book in
    let there = seat_there ss (said_in c.self.inside.log) due is_due in
    let named = and_parts (c.args.stamp == due.stamp) (c.args.station == due.station) c.in-Some.ensures.of_it in
    let station = eqb-true c.args.station due.station named.1 ∙ sym is_due.station in
    let less = c.requires.seats.inside (seat_at ss due.seat)
    (subst (λ (v : Cabling). Contains v.seats (seat_at ss due.seat)) c.self.view_is there) (sym station) in
    let port : c.heard_of-heard.result.port ≡ (seat_at ss due.seat).port =
    ap (λ h. h.port) c.heard_of-heard.ensures ∙ ap (λ ss. (seat_at ss due.seat).port) c.as_slice.ensures in
    record { port = subst (λ n. n < g.S.Station.ports_of c.args.taker.now) (sym port) less }

pub invariant_of-self-in-Err-receive : goal.invariant_of-self-in-Err-receive
invariant_of-self-in-Err-receive g c = roomy c.make_room.ensures.same c.self.invariant

pub returns-in-Err-receive-clause-not_pending : goal.returns-in-Err-receive-clause-not_pending
returns-in-Err-receive-clause-not_pending g c =
    let v : list_any (is_named c.args.stamp c.args.station) (pending_on c.args.self.now.seats (said c.args.self.now)) ≡ true =
    rw (← c.self.view_is)
    (sym (c.in-Some.ensures.value c.self.inside.seats c.self.invariant.0.book)) in
    search rules

pub took-requires-clause-put : goal.took-requires-clause-put
took-requires-clause-put g c =
    let put = c.in-Some.ensures.put c.self.inside.seats c.self.invariant.0.book in
    subst (λ t. list_any (has_put c.args.stamp) t ≡ true)
    (sym (same_said c.self.inside.log c.make_room.new.log c.make_room.ensures.same)) put

pub add_all-requires-clause-room : goal.add_all-requires-clause-room
add_all-requires-clause-room g c =
    let put = c.in-Ok-receive.ensures.ok in
    let os = c.receive.new.outputs.items in
    let same : os ≡ put.added = put.grown ∙ ap (λ l. l ++ put.added) c.in-Ok-make_ready.ensures.ok in
    let s = c.self.inside.seats in
    let mid = c.make_room.new.log in
    let new = c.took.new.log in
    let rooms = c.self.inside.rooms in
    let room =
    subst (λ n. HasRoom mid rooms.take.lines rooms.take.bytes rooms.take.bytes (rooms.take.pairs * n)) c.widest.ensures.value
    c.in-Ok.ensures.room in
    subst (λ l. HasRoom new (all_lines l) (length l) (length l) (length l * widest s)) (sym same)
    (known_room rooms c.self.invariant.1 (widest s) mid new put.added room c.took.ensures.uses put.lawful.made put.lawful.others)

pub add_all-requires-clause-more : goal.add_all-requires-clause-more
add_all-requires-clause-more g c =
    let put = c.in-Ok-receive.ensures.ok in
    let os = c.receive.new.outputs.items in
    let same : os ≡ put.added = put.grown ∙ ap (λ l. l ++ put.added) c.in-Ok-make_ready.ensures.ok in
    let s = c.self.inside.seats in
    let mid = c.make_room.new.log in
    let new = c.took.new.log in
    let rooms = c.self.inside.rooms in
    let room =
    subst (λ n. HasRoom mid rooms.take.lines rooms.take.bytes rooms.take.bytes (rooms.take.pairs * n)) c.widest.ensures.value
    c.in-Ok.ensures.room in
    let places : Places = record { finds = g.R.Resolve.finds c.args.resolver.now; lists = g.R.Resolve.lists c.args.resolver.now } in
    let known : rooms ≡ known_rooms → IsAnswering places =
    λ e. c.requires.known (subst (λ (v : Cabling). v.rooms ≡ known_rooms) c.self.view_is e) in
    subst (λ l. IsAnswering places ⊎ HasHeldRoom new l (widest s)) (sym same)
    (take_more rooms places c.self.invariant.1 known (widest s) mid new put.added room c.in-Ok.ensures.holdings c.took.ensures.uses
    put.lawful.made put.lawful.others)

pub add_all-requires-clause-idle : goal.add_all-requires-clause-idle
add_all-requires-clause-idle g c =
    ap (λ v. v.items) c.took.ensures.waiting ∙ (roomy c.make_room.ensures.same c.self.invariant).0.idle

pub add_all-requires-clause-book : goal.add_all-requires-clause-book
add_all-requires-clause-book g c =
    c.took.ensures.book c.self.inside.seats (roomy c.make_room.ensures.same c.self.invariant).0.book

pub invariant_of-self-2 : goal.invariant_of-self-2
invariant_of-self-2 g c =
    let put = c.in-Ok-receive.ensures.ok in
    let os = c.receive.new.outputs.items in
    let same : os ≡ put.added = put.grown ∙ ap (λ l. l ++ put.added) c.in-Ok-make_ready.ensures.ok in
    let s = c.self.inside.seats in
    let mid = c.make_room.new.log in
    let new = c.took.new.log in
    let rooms = c.self.inside.rooms in
    let room =
    subst (λ n. HasRoom mid rooms.take.lines rooms.take.bytes rooms.take.bytes (rooms.take.pairs * n)) c.widest.ensures.value
    c.in-Ok.ensures.room in
    let places : Places = record { finds = g.R.Resolve.finds c.args.resolver.now; lists = g.R.Resolve.lists c.args.resolver.now } in
    let known : rooms ≡ known_rooms → IsAnswering places =
    λ e. c.requires.known (subst (λ (v : Cabling). v.rooms ≡ known_rooms) c.self.view_is e) in
    let limit = c.self.inside.limit in
    let last = c.add_all.new.log in
    let k = (roomy c.make_room.ensures.same c.self.invariant).0 in
    let all = c.add_all.ensures in
    let kept = ap (λ k. length k.items) c.took.ensures.kept in
    let spare = ap all_spare same in
    let others = needs put.added in
    let lines =
    take_few rooms places c.self.invariant.1 known mid new last put.added c.took.ensures.one
    (subst (λ l. vec_len last.lines ≤ vec_len new.lines + all_lines l + 2 * length l) same all.few)
    (subst (λ l. IsAnswering places → vec_len last.lines ≤ vec_len new.lines + all_lines l) same all.few_known)
    put.lawful.made put.lawful.others in
    let few : vec_len last.lines ≤ limit = omega (arith, lines, c.in-Ok.ensures.within) in (
      record {
        book = all.book;
        few = few;
        named = omega (arith, all.named, c.took.ensures.one, kept, k.named, spare, others.spare, put.lawful.others);
        frames = omega (arith, all.steady, c.took.ensures.one, c.took.ensures.next_stamp, k.frames);
        idle = all.idle;
        one_seat = k.one_seat;
      },
      c.self.invariant.1,
      elim c.if-is_empty.branch [
        | then-is_empty w ↦
            let none : os ≡ [] = none_long os (eqb-true (length os) 0 (sym w.if-is_empty.ensures)) in
            subst (IsSpare s limit last) (sym w.self-is)
            (subst (λ l. IsSpare s limit l rooms.take.pairs) (sym (all.unchanged none))
            (take_spare rooms c.self.invariant.1 s limit mid new room c.in-Ok.ensures.within c.took.ensures.one c.took.ensures.uses))
        | else-is_empty w ↦ subst (IsSpare s limit last) (sym w.self-is) (no_spare s limit last)
      ],
    )

pub returns-clause-ok : goal.returns-clause-ok
returns-clause-ok g c =
    let ss = c.self.inside.seats in
    let old = c.self.inside.log in
    let mid = c.make_room.new.log in
    let took = c.took.new.log in
    let new = c.add_all.new.log in
    let due = c.in-Some.due in
    let put = c.in-Ok-receive.ensures.ok in
    let os = c.receive.new.outputs.items in
    let same : os ≡ put.added = put.grown ∙ ap (λ l. l ++ put.added) c.in-Ok-make_ready.ensures.ok in
    let is_due = c.in-Some.ensures.due ss c.self.invariant.0.book in
    let named = and_parts (c.args.stamp == due.stamp) (c.args.station == due.station) c.in-Some.ensures.of_it in
    let station = eqb-true c.args.station due.station named.1 ∙ sym is_due.station in
    let room = c.make_room.ensures.same in
    let text = same_said old mid room in
    let heard : hearing c.heard_of-heard.result ≡ heard_by (pair_at ss (said_in old) due) =
    c.heard_of-heard.ensures
    ∙ (ap (λ ss. heard_by (pair_at ss (said_in mid) due)) c.as_slice.ensures ∙ ap (λ t. heard_by (pair_at ss t due)) text) in
    let entry : List Entry = Took c.args.stamp c.args.station ∷ [] in
    let first = told old took _ _ (grows_then old mid took [] entry [] [] (same_grows old mid room) c.took.ensures.grows) in
    let done = c.add_all.ensures.out in
    let places : g.row.R.Denot → Places = λ r. record { finds = g.R.Resolve.finds r; lists = g.R.Resolve.lists r } in
    let x = c.args.resolver.now in
    let y = c.add_all.new.resolver in
    let out =
    subst (λ t. GoOut places g.R.Resolve.holds ss c.args.station t put.added x done.0 done.1 y) first.said
    (subst (λ l. GoOut places g.R.Resolve.holds ss c.args.station (said_in took) l x done.0 done.1 y) same done.4) in
    rw (← c.self.view_is)
    (record {
      pair = pair_at ss (said_in old) due;
      was_pending = c.in-Some.ensures.pending ss c.self.invariant.0.book;
      of_stamp = stamp_is ss (said_in old) due is_due ∙ sym (eqb-true _ _ named.0);
      of_station = sym station;
      added = put.added;
      heard = subst (λ h. g.S.Station.hears c.args.taker.now h put.added c.receive.new.self) heard put.holds;
      lawful = put.lawful;
      quiet = λ some.
          sym same
          ∙ (c.in-Ok-receive.ensures.quiet (subst (λ h. IsSome (response_in h)) (sym heard) some)
          ∙ c.in-Ok-make_ready.ensures.ok);
      told = done.0;
      bytes = done.1;
      out = out;
      entries =
          adds_of ss c.self.inside.limit c.self.inside.rooms old new _ _ _ (tells_then old took new entry done.0 first done.2);
      stored = done.3 ∙ ap (λ k. k ++ done.1) (ap (λ k. k.items) c.took.ensures.kept ∙ room.kept);
      room = λ none. elim c.if-is_empty.branch [
        | then-is_empty w ↦ w.self-is
        | else-is_empty w ↦
            let long : length os ≡ 0 = ap length (same ∙ none) in
            let apart : false ≡ true = w.if-is_empty.ensures ∙ ap (λ n. n == 0) long in
            cc
      ];
    })

pub returns-clause-not_pending : goal.returns-clause-not_pending
returns-clause-not_pending g c =
    let v : list_any (is_named c.args.stamp c.args.station) (pending_on c.args.self.now.seats (said c.args.self.now)) ≡ true =
    rw (← c.self.view_is)
    (sym (c.in-Some.ensures.value c.self.inside.seats c.self.invariant.0.book)) in
    search rules

pub make_room-requires : goal.make_room-requires
make_room-requires g c =
    let is = enough c.self.inside.rooms c.self.invariant.1 in
    record { kept = (c.self.inside.seats, c.self.invariant.0); fewer = is.fewer; few = is.few }

pub returns-in_default-clause-not_pending : goal.returns-in_default-clause-not_pending
returns-in_default-clause-not_pending g c =
    let v : list_any (is_named c.args.stamp c.args.station) (pending_on c.args.self.now.seats (said c.args.self.now)) ≡ false =
    rw (← c.self.view_is) (sym (c.in_default.ensures.value c.self.inside.seats c.self.invariant.0.book)) in
    search rules

pub returns-in-Err-clause-full : goal.returns-in-Err-clause-full
returns-in-Err-clause-full g c =
    let v : list_any (is_named c.args.stamp c.args.station) (pending_on c.args.self.now.seats (said c.args.self.now)) ≡ true =
    rw (← c.self.view_is) (sym (c.in-Some.ensures.value c.self.inside.seats c.self.invariant.0.book)) in
    search rules
