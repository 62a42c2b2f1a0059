-- The log after a frame was taken or a datagram sent.
use Rattle.std.proofs.Common.{◌≡◌, ◌⊎◌, inl, inr, ℕ, zero, suc, ◌+◌, ◌-◌, ◌*◌, ◌^◌, ◌≤◌, ◌<◌, Bool, true, false, not, ◌||◌, ◌==◌}
use Rattle.std.proofs.Common.{List, [], ◌∷◌, ◌++◌, length, map, slice_get, get_or, Contains, Some, vec_len}
use Rattle.std.proofs.Common.{refl, arith, sym, ap, ◌∙◌, subst}
use Rattle.std.specs.List.{list_any}
use Rattle.std.proofs.lemmas.List.{length-map}
use Rattle.std.proofs.lemmas.Option.{slice_get-get_or}
use Rattle.std.proofs.Math.Nat.{add-mul}
use Rattle.cable_model.proofs.Finds.{contains_at}
use Rattle.cable_model.proofs.Legs.{needs}
use Rattle.cable_model.proofs.Steps.{same_kept}
use Rattle.cable_model.specs.Books.{Grows, HasHeldRoom, HasRoom, IsBook, IsDue, IsHeldLine, IsKept, IsSame, IsSpare, Settles, Uses, held}
use Rattle.cable_model.specs.Books.{said, seat_at}
use Rattle.cable_model.specs.Holdings.{has_number, is_open, still_held}
use Rattle.cable_model.specs.Logs.{entry_at}
use Rattle.cable_model.specs.Outcomes.{Held, Places, Sender, held_at, held_next, leg}
use Rattle.cable_model.specs.Outgoing.{IsAnswering}
use Rattle.cable_model.specs.Rooms.{AreRooms, held_rooms, known_rooms}
use Rattle.cable_model.specs.Transcript.{Entry, Sent}
use Rattle.cable_model.specs.Ways.{all_lines}
use Rattle.cable_model.specs.declared.due.Due.{Due}
use Rattle.cable_model.specs.declared.log.Log.{Log}
use Rattle.cable_model.specs.declared.putting.HeldLine.{HeldLine}
use Rattle.cable_model.specs.declared.room.Rooms.{Rooms}
use Rattle.cable_model.specs.declared.seat.Seat.{Seat}
use Rattle.station.specs.Lawful.{count, is_made}
use Rattle.station.specs.declared.output.Next.{Next}
use Rattle.station.specs.declared.output.Output.{Output}
use Rattle.cable_model.proofs.Deferred.{Waits, dues_still, lines_long, may_wait}
use Rattle.cable_model.specs.Places.{widest}

-- the seat of a pair is one of the seats
pub seat_there : (seats : List Seat) (t : List Entry) (d : Due) → IsDue seats t d → Contains seats (seat_at seats d.seat)
seat_there seats t d h =
    let x = get_or seats d.seat (seat_at seats d.seat) in
    let e = slice_get-get_or seats d.seat (seat_at seats d.seat) h.seat in
    subst (Contains seats) (sym (seat_is seats d.seat x e)) (contains_at seats d.seat x e)
  where
    seat_is : (seats : List Seat) (k : ℕ) (x : Seat) → slice_get seats k ≡ Some x → seat_at seats k ≡ x
    seat_is seats k x e = rw e

-- cables without room to spare
pub no_spare : (seats : List Seat) (limit : ℕ) (log : Log) → IsSpare seats limit log 0
no_spare seats limit log = λ some. absurd (omega (arith, some))

-- making room leaves the room that there was
pub same_spare : (seats : List Seat) (limit : ℕ) (old new : Log) (spare : ℕ) → IsSame old new → IsSpare seats limit old spare
    → IsSpare seats limit new spare
same_spare seats limit old new spare same s = λ some.
    let h = s some in
    let lines = ap length same.lines in
    let kept = ap length same.kept in
    let due = ap length same.due in
    record {
      lines = omega (arith, h.lines, same.lines_room, lines, old.lines.ok.0, new.lines.ok.0);
      kept = omega (arith, h.kept, same.kept_room, kept);
      due = omega (arith, h.due, same.due_room, due);
      within = omega (arith, h.within, lines, old.lines.ok.0, new.lines.ok.0);
    }

-- what making room leaves of the invariant of cables
pub roomy : {seats : List Seat} {limit : ℕ} {rooms : Rooms} {spare : ℕ} {old new : Log} → IsSame old new
    → IsKept seats limit old × AreRooms rooms × IsSpare seats limit old spare
    → IsKept seats limit new × AreRooms rooms × IsSpare seats limit new spare
roomy same (kept, rooms, spare) = (same_kept _ _ _ _ same kept, rooms, same_spare _ _ _ _ _ same spare)

-- an element that passes is in the list
any_there : {X : Type 0} (t : X → Bool) (xs : List X) (k : ℕ) (x : X) → slice_get xs k ≡ Some x → t x ≡ true → list_any t xs ≡ true
any_there t [] k x e h = cc
any_there t (y ∷ xs) zero x e h = let s : y ≡ x = cc in ap (λ b. b || list_any t xs) (ap t s ∙ h)
any_there {X} t (y ∷ xs) (suc k) x e h = late (t y) (any_there t xs k x e h)
  where
    late : (b : Bool) → list_any t xs ≡ true → (b || list_any t xs) ≡ true
    late true p = refl
    late false p = p

-- the datagram of a held line is held
pub held_open : (log : Log) (stamp : ℕ) (l : HeldLine) → IsHeldLine log stamp l → is_open (said log) l.stamp ≡ true
held_open log stamp l h =
    let all = still_held (said log) in
    let same : (l.stamp == h.held.stamp) ≡ true = (let e = h.same_stamp in grind arith) in
    any_there (has_number l.stamp) all h.there.0 h.held
    (slice_get-get_or all h.there.0 h.held h.there.1 ∙ ap Some h.there.2) same

-- n times at most 257 is at most n * 257
pub few_times : (m n : ℕ) → m ≤ 257 → m * n ≤ n * 257
few_times m n le =
    let e : m + (257 - m) ≡ 257 = omega (arith, le) in
    let whole = ap (λ k. k * n) e in
    let parts = add-mul m (257 - m) n in
    omega (arith, whole, parts)

-- the room for one entry, which may put a frame, of the room to spare
pub spare_room : (seats : List Seat) (limit : ℕ) (log : Log) (spare : ℕ) → IsKept seats limit log → IsSpare seats limit log spare
    → 1 ≤ spare → limit < 2 ^ 32 → HasRoom log 1 0 0 (widest seats)
spare_room seats limit log spare k some one low =
    let s = some one in
    let n = widest seats in
    let e : 1 + (spare - 1) ≡ spare = omega (arith, one) in
    let whole = ap (λ k. k * n) e in
    let parts = add-mul 1 (spare - 1) n in
    record {
      lines = omega (arith, s.lines, one);
      kept = omega (arith, s.kept);
      waiting = omega (arith, log.waiting.ok.1);
      due = omega (arith, s.due, whole, parts);
      line_numbers = omega (arith, s.within, one, low);
      byte_numbers = omega (arith, k.named, s.within, one, low);
      stamps = omega (arith, k.frames, s.within, one, low);
    }

-- The rooms of cables are enough for what calls add.
pub record IsEnough (rooms : Rooms) : Type 0 where
  pub lines : 771 ≤ rooms.take.lines
  pub bytes : 257 ≤ rooms.take.bytes
  pub pairs : rooms.take.pairs ≡ 257
  pub few : rooms.take.lines ≤ 1285
  pub fewer : rooms.take.bytes ≤ rooms.take.lines
  pub sent_lines : 3 ≤ rooms.send.lines
  pub sent_bytes : 1 ≤ rooms.send.bytes
  pub sent_pairs : rooms.send.pairs ≡ 1
  pub sent_few : rooms.send.lines ≤ 5
  pub sent_fewer : rooms.send.bytes ≤ rooms.send.lines

pub enough : (rooms : Rooms) → AreRooms rooms → IsEnough rooms
enough rooms (inl e) = rw e (record {
  lines = omega arith;
  bytes = omega arith;
  pairs = refl;
  few = omega arith;
  fewer = omega arith;
  sent_lines = omega arith;
  sent_bytes = omega arith;
  sent_pairs = refl;
  sent_few = omega arith;
  sent_fewer = omega arith;
})
enough rooms (inr e) = rw e (record {
  lines = omega arith;
  bytes = omega arith;
  pairs = refl;
  few = omega arith;
  fewer = omega arith;
  sent_lines = omega arith;
  sent_bytes = omega arith;
  sent_pairs = refl;
  sent_few = omega arith;
  sent_fewer = omega arith;
})

-- ---- the log after a datagram was sent

-- as many datagrams wait as are to be held, where none waited before
pub waiting_long : (old new : Log) (es : List Entry) (hs : List Held) → old.waiting.items ≡ [] → Grows old new es hs
    → held new ≡ hs × (length new.waiting.items ≡ length hs)
waiting_long old new es hs none x =
    let e = x.held ∙ ap (λ ws. map (held_at old.kept.items) ws ++ hs) none in
    (e, sym (length-map new.waiting.items (held_at new.kept.items)) ∙ ap length e)

pub none_long : {X : Type 0} (xs : List X) → length xs ≡ 0 → xs ≡ []
none_long [] e = refl
none_long (x ∷ xs) e = absurd (omega (arith, e))

-- What was used of the room of a send. Where a datagram waits, no pair was added yet.
pub record IsSentRoom (rooms : Rooms) (waits : List Held) (old new : Log) (n : ℕ) : Type 0 where
  pub uses : Uses old new 3 1 1 n
  pub none : (waits ≡ []) ⊎ ((rooms ≡ held_rooms) × (vec_len new.lines ≤ vec_len old.lines + 2)
      × (length new.due.dues ≡ length old.due.dues) × (length waits ≡ 1))

-- what a send used of its room, before what waits is held
pub sent_room : (seats : List Seat) (rooms : Rooms) (places : Places) → AreRooms rooms → (rooms ≡ known_rooms → IsAnswering places)
    → (s : Sender) (to : Next) (bytes body : List ℕ) (old new : Log) → IsBook seats old → IsBook seats new
    → Grows old new (Sent s.station body ∷ leg places s to bytes) (held_next places s.cable to bytes)
    → Uses old new 3 1 1 (widest seats) → IsSentRoom rooms (held_next places s.cable to bytes) old new (widest seats)
sent_room seats rooms places are known s to bytes body old new a b x u =
    record { uses = u; none = by (may_wait rooms places are known s to bytes) }
  where
    by : (held_next places s.cable to bytes ≡ []) ⊎ Waits rooms places s to bytes → (held_next places s.cable to bytes ≡ [])
        ⊎ ((rooms ≡ held_rooms) × (vec_len new.lines ≤ vec_len old.lines + 2) × (length new.due.dues ≡ length old.due.dues)
        × (length (held_next places s.cable to bytes) ≡ 1))
    by (inl e) = inl e
    by (inr w) = inr (
      w.with_room,
      let long = lines_long old new (Sent s.station body ∷ leg places s to bytes) x.said in
          omega (arith, long, w.few),
      dues_still seats old new (Sent s.station body ∷ leg places s to bytes) a b x.said (tt, w.still),
      w.one,
    )

-- the room to hold a datagram that waits
pub settle_room : (rooms : Rooms) (waits : List Held) (old new : Log) (seats : List Seat)
    → HasRoom old rooms.send.lines rooms.send.bytes rooms.send.bytes (rooms.send.pairs * widest seats)
    → length old.holdings.dues + rooms.send.pairs ≤ old.holdings.room
    → length new.waiting.items ≡ length waits → IsSentRoom rooms waits old new (widest seats)
    → (new.waiting.items ≡ []) ⊎ (HasRoom new 3 1 0 (widest seats) × (length new.holdings.dues + 1 ≤ new.holdings.room))
settle_room rooms waits old new seats room held long r = by r.none
  where
    by : (waits ≡ []) ⊎ ((rooms ≡ held_rooms) × (vec_len new.lines ≤ vec_len old.lines + 2)
        × (length new.due.dues ≡ length old.due.dues) × (length waits ≡ 1))
        → (new.waiting.items ≡ []) ⊎ (HasRoom new 3 1 0 (widest seats) × (length new.holdings.dues + 1 ≤ new.holdings.room))
    by (inl e) = inl (none_long new.waiting.items (long ∙ ap length e))
    by (inr w) =
        let u = r.uses in
        let five : rooms.send.lines ≡ 5 = ap (λ r. r.send.lines) w.0 in
        let two : rooms.send.bytes ≡ 2 = ap (λ r. r.send.bytes) w.0 in
        let one : rooms.send.pairs ≡ 1 = ap (λ r. r.send.pairs) w.0 in
        let pairs : rooms.send.pairs * widest seats ≡ 1 * widest seats = ap (λ n. n * widest seats) one in
        inr (
          record {
            lines = omega (arith, room.lines, five, w.1, u.lines_room);
            kept = omega (arith, room.kept, two, u.kept, u.kept_room);
            waiting = omega (arith, new.waiting.ok.1);
            due = omega (arith, room.due, pairs, w.2, u.due_room);
            line_numbers = omega (arith, room.line_numbers, five, w.1);
            byte_numbers = omega (arith, room.byte_numbers, two, u.kept);
            stamps = omega (arith, room.stamps, five, w.1, u.steady);
          },
          omega (arith, held, one, u.holdings, u.holdings_room),
        )

-- The log after a send has no more lines and pairs than there was room for.
pub record IsSettled (rooms : Rooms) (old new : Log) : Type 0 where
  pub lines : vec_len new.lines ≤ vec_len old.lines + rooms.send.lines
  pub due : length new.due.dues ≤ new.due.room
  pub shelf : length new.kept.items ≤ new.kept.room

-- the log after a send, once what waits is held
pub settled_room : (rooms : Rooms) (waits : List Held) (old mid new : Log) (seats : List Seat) → AreRooms rooms
    → HasRoom old rooms.send.lines rooms.send.bytes rooms.send.bytes (rooms.send.pairs * widest seats)
    → length mid.waiting.items ≡ length waits → IsSentRoom rooms waits old mid (widest seats) → Settles mid new (widest seats)
    → IsSettled rooms old new
settled_room rooms waits old mid new seats are room long r t = by r.none
  where
    by : (waits ≡ []) ⊎ ((rooms ≡ held_rooms) × (vec_len mid.lines ≤ vec_len old.lines + 2)
        × (length mid.due.dues ≡ length old.due.dues) × (length waits ≡ 1)) → IsSettled rooms old new
    by (inl e) =
        let u = r.uses in
        let is = enough rooms are in
        let same = t.none (none_long mid.waiting.items (long ∙ ap length e)) in
        let lines = ap (λ v. v.len) same.lines in
        let dues = ap (λ d. length d.dues) same.due in
        let due_room = ap (λ d. d.room) same.due in
        let kept = ap (λ k. length k.items) same.kept in
        let kept_room = ap (λ k. k.room) same.kept in
        let pairs : rooms.send.pairs * widest seats ≡ 1 * widest seats = ap (λ n. n * widest seats) is.sent_pairs in
        record {
          lines = omega (arith, lines, u.lines, is.sent_lines);
          due = omega (arith, room.due, pairs, u.due, u.due_room, dues, due_room);
          shelf = omega (arith, room.kept, u.kept, u.kept_room, kept, kept_room, is.sent_bytes);
        }
    by (inr w) =
        let u = r.uses in
        let five : rooms.send.lines ≡ 5 = ap (λ r. r.send.lines) w.0 in
        let two : rooms.send.bytes ≡ 2 = ap (λ r. r.send.bytes) w.0 in
        let one : rooms.send.pairs ≡ 1 = ap (λ r. r.send.pairs) w.0 in
        let pairs : rooms.send.pairs * widest seats ≡ 1 * widest seats = ap (λ n. n * widest seats) one in
        record {
          lines = omega (arith, five, w.1, t.lines);
          due = omega (arith, room.due, pairs, w.2, u.due_room, t.due, t.due_room);
          shelf = omega (arith, room.kept, two, u.kept, u.kept_room, t.kept, t.kept_room);
        }

-- ---- the log after a take

-- making room leaves the entries as they were
pub same_said : (old new : Log) → IsSame old new → said new ≡ said old
same_said old new same =
    ap (map (entry_at new.kept.items)) same.lines ∙ ap (λ k. map (entry_at k) old.lines.items) same.kept

-- the room for outputs where all addresses are known
pub known_room : (rooms : Rooms) → AreRooms rooms → (n : ℕ) (mid new : Log) (os : List Output)
    → HasRoom mid rooms.take.lines rooms.take.bytes rooms.take.bytes (rooms.take.pairs * n) → Uses mid new 1 0 0 0
    → count is_made os ≤ 256 → count (λ o. not (is_made o)) os ≤ 1
    → HasRoom new (all_lines os) (length os) (length os) (length os * n)
known_room rooms are n mid new os room u made others =
    let is = enough rooms are in
    let need = needs os in
    let few = few_times (length os) n (omega (arith, need.all, made, others)) in
    let pairs : rooms.take.pairs * n ≡ 257 * n = ap (λ k. k * n) is.pairs in
    record {
      lines = omega (arith, room.lines, is.lines, need.lines, made, others, u.lines, u.lines_room);
      kept = omega (arith, room.kept, is.bytes, need.all, made, others, u.kept, u.kept_room);
      waiting = omega (arith, room.waiting, is.bytes, need.all, made, others, u.waiting, u.waiting_room);
      due = omega (arith, room.due, pairs, few, u.due, u.due_room);
      line_numbers = omega (arith, room.line_numbers, is.lines, need.lines, made, others, u.lines);
      byte_numbers = omega (arith, room.byte_numbers, is.bytes, need.all, made, others, u.kept);
      stamps = omega (arith, room.stamps, is.lines, need.lines, made, others, u.next_stamp);
    }

-- the room for outputs where all datagrams among them may be held
pub held_room : (rooms : Rooms) → rooms ≡ held_rooms → (n : ℕ) (mid new : Log) (os : List Output)
    → HasRoom mid rooms.take.lines rooms.take.bytes rooms.take.bytes (rooms.take.pairs * n)
    → length mid.holdings.dues + rooms.take.pairs ≤ mid.holdings.room → Uses mid new 1 0 0 0
    → count is_made os ≤ 256 → count (λ o. not (is_made o)) os ≤ 1 → HasHeldRoom new os n
held_room rooms are n mid new os room held u made others =
    let need = needs os in
    let few = few_times (length os) n (omega (arith, need.all, made, others)) in
    let l : rooms.take.lines ≡ 1285 = ap (λ r. r.take.lines) are in
    let b : rooms.take.bytes ≡ 514 = ap (λ r. r.take.bytes) are in
    let p : rooms.take.pairs ≡ 257 = ap (λ r. r.take.pairs) are in
    let pairs : rooms.take.pairs * n ≡ 257 * n = ap (λ k. k * n) p in
    record {
      room = record {
        lines = omega (arith, room.lines, l, need.lines, need.all, made, others, u.lines, u.lines_room);
        kept = omega (arith, room.kept, b, need.all, made, others, u.kept, u.kept_room);
        waiting = omega (arith, room.waiting, b, need.all, made, others, u.waiting, u.waiting_room);
        due = omega (arith, room.due, pairs, few, u.due, u.due_room);
        line_numbers = omega (arith, room.line_numbers, l, need.lines, need.all, made, others, u.lines);
        byte_numbers = omega (arith, room.byte_numbers, b, need.all, made, others, u.kept);
        stamps = omega (arith, room.stamps, l, need.lines, need.all, made, others, u.next_stamp);
      };
      holdings = omega (arith, held, p, need.all, made, others, u.holdings, u.holdings_room);
    }

-- every lookup is answered, or there is room for what is held
pub take_more : (rooms : Rooms) (places : Places) → AreRooms rooms → (rooms ≡ known_rooms → IsAnswering places) → (n : ℕ) (mid new : Log)
    (os : List Output) → HasRoom mid rooms.take.lines rooms.take.bytes rooms.take.bytes (rooms.take.pairs * n)
    → length mid.holdings.dues + rooms.take.pairs ≤ mid.holdings.room → Uses mid new 1 0 0 0
    → count is_made os ≤ 256 → count (λ o. not (is_made o)) os ≤ 1 → IsAnswering places ⊎ HasHeldRoom new os n
take_more rooms places (inl e) known n mid new os room held u made others = inl (known e)
take_more rooms places (inr e) known n mid new os room held u made others = inr (held_room rooms e n mid new os room held u made others)

-- a take adds at most as many lines as there was room for
pub take_few : (rooms : Rooms) (places : Places) → AreRooms rooms → (rooms ≡ known_rooms → IsAnswering places) → (mid new last : Log)
    (os : List Output) → vec_len new.lines ≡ vec_len mid.lines + 1
    → vec_len last.lines ≤ vec_len new.lines + all_lines os + 2 * length os
    → (IsAnswering places → vec_len last.lines ≤ vec_len new.lines + all_lines os)
    → count is_made os ≤ 256 → count (λ o. not (is_made o)) os ≤ 1 → vec_len last.lines ≤ vec_len mid.lines + rooms.take.lines
take_few rooms places (inl e) known mid new last os one few few_known made others =
    let need = needs os in
    let l : rooms.take.lines ≡ 771 = ap (λ r. r.take.lines) e in
    let k = few_known (known e) in
    omega (arith, need.lines, l, k, one, made, others)
take_few rooms places (inr e) known mid new last os one few few_known made others =
    let need = needs os in
    let l : rooms.take.lines ≡ 1285 = ap (λ r. r.take.lines) e in
    omega (arith, need.lines, need.all, l, few, one, made, others)

-- after a take without outputs there is room for further entries
pub take_spare : (rooms : Rooms) → AreRooms rooms → (seats : List Seat) (limit : ℕ) (mid new : Log)
    → HasRoom mid rooms.take.lines rooms.take.bytes rooms.take.bytes (rooms.take.pairs * widest seats)
    → vec_len mid.lines + rooms.take.lines ≤ limit → vec_len new.lines ≡ vec_len mid.lines + 1 → Uses mid new 1 0 0 0
    → IsSpare seats limit new rooms.take.pairs
take_spare rooms are seats limit mid new room within one u =
    let is = enough rooms are in λ some. record {
      lines = omega (arith, room.lines, is.lines, is.pairs, one, u.lines_room);
      kept = omega (arith, room.kept, u.kept, u.kept_room);
      due = omega (arith, room.due, u.due, u.due_room);
      within = omega (arith, within, is.lines, is.pairs, one);
    }
