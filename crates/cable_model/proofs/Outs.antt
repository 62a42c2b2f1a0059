-- The outputs of a station as they go out, one after another.
use Rattle.std.proofs.Common.{◌≡◌, ℕ, ◌+◌, ◌*◌, ◌≤◌, ◌⊎◌, ◌++◌, List, [], ◌∷◌, length, map}
use Rattle.std.proofs.Common.{inl, inr, refl, sym, ap, ◌∙◌, subst, arith, append-nil, append_assoc, length-append, vec_len}
use Rattle.at_base.specs.declared.address.Addr.{Addr}
use Rattle.cable_model.proofs.RoomLeft.{product, room_for}
use Rattle.cable_model.proofs.Steps.{same_tells, tells_then, told}
use Rattle.cable_model.specs.Books.{Grows, HasHeldRoom, HasRoom, IsBook, Settles, Tells, Uses, held, said}
use Rattle.cable_model.specs.Outcomes.{Places, entries_of, held_at, held_of}
use Rattle.cable_model.specs.Outcomes.{stored_of}
use Rattle.cable_model.specs.Outgoing.{GoOut, GoesOut, IsAnswering, IsHeldBy}
use Rattle.cable_model.specs.Pending.{pending}
use Rattle.cable_model.specs.Transcript.{Entry, next_stamp}
use Rattle.cable_model.specs.Ways.{all_lines, lines_for}
use Rattle.cable_model.specs.declared.log.Log.{Log}
use Rattle.cable_model.specs.declared.resolve.HeldBy.{HeldBy}
use Rattle.cable_model.specs.declared.seat.Seat.{Seat}
use Rattle.cable_model.specs.declared.waiting.Waiting.{Waiting}
use Rattle.station.specs.declared.output.Output.{Output}
use Rattle.cable_model.proofs.Light.{due_count, held_light, held_none, line_count, pending_calm}
use Rattle.cable_model.specs.Places.{widest}

-- ---- an output whose entries were added

-- the room where all datagrams of the outputs may be held is that of the outputs, and more
pub held_room : (log : Log) (os : List Output) (n : ℕ) → HasHeldRoom log os n
    → HasRoom log (all_lines os) (length os) (length os) (length os * n)
held_room log os n h =
    room_for log (all_lines os + 2 * length os) (2 * length os) (length os) (length os * n) (all_lines os) (length os) (length os)
    (length os * n) h.room (omega arith) (omega arith) (omega arith) (omega arith)

-- the output put no frame, and has fewer entries than there was room for
record IsLight (a b : Log) (o : Output) : Type 0 where
  pub lines : vec_len b.lines + 1 ≤ vec_len a.lines + lines_for o
  pub due : length b.due.dues ≡ length a.due.dues

module _ (places : Places) (seats : List Seat) (station : ℕ) (a b : Log) (o : Output) (old : IsBook seats a) (new : IsBook seats b)
    (idle : a.waiting.items ≡ []) (grown : Grows a b (entries_of places seats station a.next_stamp o) (held_of places seats station o))
    (used : Uses a b (lines_for o) 1 1 (widest seats)) where
  -- what waits is what the output has to be held
  pub held_now : held b ≡ held_of places seats station o
  held_now = grown.held ∙ ap (λ hs. hs ++ held_of places seats station o) (ap (map (held_at a.kept.items)) idle)

  none_waits : held_of places seats station o ≡ [] → b.waiting.items ≡ []
  none_waits none = by b.waiting.items (held_now ∙ none)
    where
      by : (ws : List Waiting) → map (held_at b.kept.items) ws ≡ [] → ws ≡ []
      by [] e = refl
      by (w ∷ ws) e = cc

  -- where every lookup is answered nothing waits
  pub none_where_known : IsAnswering places → b.waiting.items ≡ []
  none_where_known known = none_waits (held_none places seats station o known)

  pub one_waits : vec_len b.waiting ≤ 1
  one_waits = let none = ap length idle in omega (arith, used.waiting, none, a.waiting.ok.0)

  light : (b.waiting.items ≡ []) ⊎ IsLight a b o
  light =
      elim (held_light places seats station a.next_stamp o) as (λ _. (b.waiting.items ≡ []) ⊎ IsLight a b o) [
        | inl none ↦ inl (none_waits none)
        | inr h ↦
            let es = entries_of places seats station a.next_stamp o in
            let long : vec_len b.lines ≡ vec_len a.lines + length es =
            line_count b ∙ (ap length grown.said ∙ (length-append (said a) es ∙ ap (λ n. n + length es) (sym (line_count a)))) in
            inr
            (record {
              lines = omega (arith, long, h.1);
              due =
                  due_count seats b new
                  ∙ (ap (λ t. length (pending seats t)) grown.said
                  ∙ (ap length (pending_calm seats (said a) es h.0) ∙ sym (due_count seats a old)));
            })
      ]

  -- there is room for what is held after the output
  pub room_to_settle : (rest : List Output) → IsAnswering places ⊎ HasHeldRoom a (o ∷ rest) (widest seats)
      → (b.waiting.items ≡ []) ⊎ (HasRoom b 3 1 0 (widest seats) × (length b.holdings.dues + 1 ≤ b.holdings.room))
  room_to_settle rest (inl known) = inl (none_where_known known)
  room_to_settle rest (inr h) =
      elim light
      as (λ _. (b.waiting.items ≡ []) ⊎ (HasRoom b 3 1 0 (widest seats) × (length b.holdings.dues + 1 ≤ b.holdings.room))) [
        | inl none ↦ inl none
        | inr l ↦
            let pairs = product (length rest) (widest seats) in
            inr (
              record {
                lines = omega (arith, h.room.lines, l.lines, used.lines_room);
                kept = omega (arith, h.room.kept, used.kept, used.kept_room);
                waiting = omega (arith, h.room.waiting, used.waiting, used.waiting_room);
                due = omega (arith, h.room.due, l.due, used.due_room, pairs);
                line_numbers = omega (arith, h.room.line_numbers, l.lines);
                byte_numbers = omega (arith, h.room.byte_numbers, used.kept);
                stamps = omega (arith, h.room.stamps, l.lines, used.steady);
              },
              omega (arith, h.holdings, used.holdings, used.holdings_room),
            )
      ]

  module _ (c : Log) (settled : Settles b c (widest seats)) (quiet : c.waiting.items ≡ []) (rest : List Output) where
    -- where nothing waited there is the room that was left
    pub room_same : b.waiting.items ≡ []
        → HasRoom a (all_lines (o ∷ rest)) (length (o ∷ rest)) (length (o ∷ rest)) (length (o ∷ rest) * widest seats)
        → HasRoom c (all_lines rest) (length rest) (length rest) (length rest * widest seats)
    room_same none r =
        let same = settled.none none in
        let n = widest seats in
        let pairs = product (length rest) n in
        let lines = ap (λ v. vec_len v) same.lines in
        let kept = ap (λ k. length k.items) same.kept in
        let due = ap (λ d. length d.dues) same.due in
        let waits = ap length quiet in
        record {
          lines = omega (arith, r.lines, used.lines, used.lines_room, lines, settled.lines_room);
          kept = omega (arith, r.kept, used.kept, used.kept_room, kept, settled.kept_room);
          waiting = omega (arith, r.waiting, waits, c.waiting.ok.0, used.waiting_room, settled.waiting_room);
          due = omega (arith, r.due, used.due, used.due_room, pairs, due, settled.due_room);
          line_numbers = omega (arith, r.line_numbers, used.lines, lines);
          byte_numbers = omega (arith, r.byte_numbers, used.kept, kept);
          stamps = omega (arith, r.stamps, used.next_stamp, same.next_stamp);
        }

    -- there is still the room where all datagrams of the other outputs may be held
    pub more_left : HasHeldRoom a (o ∷ rest) (widest seats) → HasHeldRoom c rest (widest seats)
    more_left h =
        let n = widest seats in
        let pairs = product (length rest) n in
        let waits = ap length quiet in
        elim light as (λ _. HasHeldRoom c rest n) [
          | inl none ↦
              let same = settled.none none in
              let lines = ap (λ v. vec_len v) same.lines in
              let kept = ap (λ k. length k.items) same.kept in
              let due = ap (λ d. length d.dues) same.due in
              let holdings = ap (λ d. length d.dues) same.holdings in
              record {
                room =
                    record {
                      lines = omega (arith, h.room.lines, used.lines, used.lines_room, lines, settled.lines_room);
                      kept = omega (arith, h.room.kept, used.kept, used.kept_room, kept, settled.kept_room);
                      waiting = omega (arith, h.room.waiting, waits, c.waiting.ok.0, used.waiting_room, settled.waiting_room);
                      due = omega (arith, h.room.due, used.due, used.due_room, pairs, due, settled.due_room);
                      line_numbers = omega (arith, h.room.line_numbers, used.lines, lines);
                      byte_numbers = omega (arith, h.room.byte_numbers, used.kept, kept);
                      stamps = omega (arith, h.room.stamps, used.next_stamp, same.next_stamp);
                    };
                holdings = omega (arith, h.holdings, used.holdings, used.holdings_room, holdings, settled.holdings_room);
              }
          | inr l ↦
              record {
                room =
                    record {
                      lines = omega (arith, h.room.lines, l.lines, used.lines_room, settled.lines, settled.lines_room);
                      kept = omega (arith, h.room.kept, used.kept, used.kept_room, settled.kept, settled.kept_room);
                      waiting = omega (arith, h.room.waiting, waits, c.waiting.ok.0, used.waiting_room, settled.waiting_room);
                      due = omega (arith, h.room.due, l.due, used.due_room, pairs, settled.due, settled.due_room);
                      line_numbers = omega (arith, h.room.line_numbers, l.lines, settled.lines);
                      byte_numbers = omega (arith, h.room.byte_numbers, used.kept, settled.kept);
                      stamps = omega (arith, h.room.stamps, l.lines, used.steady, settled.lines, settled.steady);
                    };
                holdings = omega (arith, h.holdings, used.holdings, used.holdings_room, settled.holdings, settled.holdings_room);
              }
        ]

    -- both rooms, where the lookups are answered as before if nothing waited
    pub rooms_left : (known : Type 0) → (IsAnswering places → known)
        → HasRoom a (all_lines (o ∷ rest)) (length (o ∷ rest)) (length (o ∷ rest)) (length (o ∷ rest) * widest seats)
        → IsAnswering places ⊎ HasHeldRoom a (o ∷ rest) (widest seats)
        → HasRoom c (all_lines rest) (length rest) (length rest) (length rest * widest seats) × (known ⊎ HasHeldRoom c rest (widest seats))
    rooms_left known still r (inl answers) = (room_same (none_where_known answers) r, inl (still answers))
    rooms_left known still r (inr h) = let left = more_left h in (held_room c rest (widest seats) left, inr left)

    -- at most two further entries were added after those of the output
    pub few_left : vec_len c.lines ≤ vec_len a.lines + lines_for o + 2
    few_left =
        elim light as (λ _. vec_len c.lines ≤ vec_len a.lines + lines_for o + 2) [
          | inl none ↦ let lines = ap (λ v. vec_len v) (settled.none none).lines in omega (arith, used.lines, lines)
          | inr l ↦ omega (arith, l.lines, settled.lines)
        ]

-- ---- the outputs so far

module _ {X : Type 0} (view : X → Places) (Holds : X → ℕ → Addr → ℕ → HeldBy → X → Type 0) (seats : List Seat) (station : ℕ) where
  -- The entries added so far and their bytes, and those of the outputs that are left, are those of all outputs.
  pub record SoFar (start log : Log) (all os : List Output) (first x : X) : Type 0 where
    pub es : List Entry
    pub ks : List (List ℕ)
    pub tells : Tells start log es
    pub stored : log.kept.items ≡ start.kept.items ++ ks
    pub onward : (es' : List Entry) (ks' : List (List ℕ)) (y : X)
        → GoOut view Holds seats station (said log) os x es' ks' y
        → GoOut view Holds seats station (said start) all first (es ++ es') (ks ++ ks') y

  pub first_so_far : (log : Log) (all : List Output) (x : X) → SoFar log log all all x x
  first_so_far log all x = record {
    es = [];
    ks = [];
    tells = same_tells log log refl refl;
    stored = sym (append-nil log.kept.items);
    onward = λ es' ks' y g. g;
  }

  pub next_so_far : (start a b c : Log) (all os rest : List Output) (o : Output) (first x z : X) → os ≡ o ∷ rest
      → SoFar start a all os first x → IsBook seats a → a.waiting.items ≡ []
      → Grows a b (entries_of (view x) seats station a.next_stamp o) (held_of (view x) seats station o)
      → b.kept.items ≡ a.kept.items ++ stored_of (view x) seats station o
      → (es : List Entry) × (ks : List (List ℕ)) × Tells b c es × (c.kept.items ≡ b.kept.items ++ ks)
      × IsHeldBy Holds station (said b) (held b) x es ks z
      → SoFar start c all rest first z
  next_so_far start a b c all os rest o first x z split i book idle grown stored (more, asks, tells, kept, by) =
      let e0 = entries_of (view x) seats station (next_stamp (said a)) o in
      let k0 = stored_of (view x) seats station o in
      let hs = held_of (view x) seats station o in
      let g : Grows a b e0 hs = subst (λ n. Grows a b (entries_of (view x) seats station n o) hs) book.next grown in
      let waits : held b ≡ hs = g.held ∙ ap (λ l. l ++ hs) (ap (map (held_at a.kept.items)) idle) in
      let step : GoesOut view Holds seats station (said a) o x (e0 ++ more) (k0 ++ asks) z = record {
        more = more;
        asks = asks;
        entries = refl;
        bytes = refl;
        held =
            subst (λ t. IsHeldBy Holds station t hs x more asks z) g.said
            (subst (λ l. IsHeldBy Holds station (said b) l x more asks z) waits by);
      } in
      let both : Tells a c (e0 ++ more) = tells_then a b c e0 more (told a b e0 hs g) tells in
      record {
        es = i.es ++ (e0 ++ more);
        ks = i.ks ++ (k0 ++ asks);
        tells = tells_then start a c i.es (e0 ++ more) i.tells both;
        stored =
            kept
            ∙ (ap (λ l. l ++ asks) stored
            ∙ (append_assoc a.kept.items k0 asks
            ∙ (ap (λ l. l ++ (k0 ++ asks)) i.stored ∙ append_assoc start.kept.items i.ks (k0 ++ asks))));
        onward = λ es' ks' y h.
            let here : GoOut view Holds seats station (said a) (o ∷ rest) x ((e0 ++ more) ++ es') ((k0 ++ asks) ++ ks') y = (
              e0 ++ more,
              es',
              k0 ++ asks,
              ks',
              z,
              step,
              subst (λ t. GoOut view Holds seats station t rest z es' ks' y) both.said h,
              refl,
              refl,
            ) in
            subst (λ l. GoOut view Holds seats station (said start) all first l ((i.ks ++ (k0 ++ asks)) ++ ks') y)
            (sym (append_assoc i.es (e0 ++ more) es'))
            (subst (λ l. GoOut view Holds seats station (said start) all first (i.es ++ ((e0 ++ more) ++ es')) l y)
            (sym (append_assoc i.ks (k0 ++ asks) ks'))
            (i.onward ((e0 ++ more) ++ es') ((k0 ++ asks) ++ ks') y
            (subst (λ l. GoOut view Holds seats station (said a) l x ((e0 ++ more) ++ es') ((k0 ++ asks) ++ ks') y) (sym split) here)));
      }

  pub last_so_far : (start log : Log) (all os : List Output) (first x : X) → os ≡ [] → SoFar start log all os first x
      → (es : List Entry) × (ks : List (List ℕ)) × Tells start log es × (log.kept.items ≡ start.kept.items ++ ks)
      × GoOut view Holds seats station (said start) all first es ks x
  last_so_far start log all os first x none i = (
    i.es,
    i.ks,
    i.tells,
    i.stored,
    subst (λ l. GoOut view Holds seats station (said start) all first l i.ks x) (append-nil i.es)
        (subst (λ l. GoOut view Holds seats station (said start) all first (i.es ++ []) l x) (append-nil i.ks)
        (i.onward [] [] x
        (subst (λ l. GoOut view Holds seats station (said log) l x [] [] x) (sym none) (refl, refl, refl)))),
  )

  -- where every lookup is answered the resolver stays the same
  pub resolver_same : (a b c : Log) (o : Output) (x z : X) → a.waiting.items ≡ []
      → Grows a b (entries_of (view x) seats station a.next_stamp o) (held_of (view x) seats station o)
      → (es : List Entry) × (ks : List (List ℕ)) × Tells b c es × (c.kept.items ≡ b.kept.items ++ ks)
      × IsHeldBy Holds station (said b) (held b) x es ks z
      → IsAnswering (view x) → z ≡ x
  resolver_same a b c o x z idle grown (more, asks, tells, kept, by) known =
      let hs = held_of (view x) seats station o in
      let none : held b ≡ [] =
      grown.held ∙ (ap (λ l. l ++ hs) (ap (map (held_at a.kept.items)) idle) ∙ held_none (view x) seats station o known) in
      let same : (more ≡ []) × (asks ≡ []) × (z ≡ x) = subst (λ l. IsHeldBy Holds station (said b) l x more asks z) none by in
      same.2
