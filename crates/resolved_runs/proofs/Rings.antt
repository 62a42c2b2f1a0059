-- A port holds at most sixteen datagrams, and what is given up is the oldest of sixteen.
use Rattle.std.proofs.Common.{◌≡◌, ◌≤◌, ◌<◌, ◌+◌, ◌-◌, ℕ, zero, suc, Bool, true, false, cond, if◌then◌else◌, not, ◌||◌, ◌&&◌, ◌==◌, nat_lt}
use Rattle.std.proofs.Common.{List, [], ◌∷◌, ◌++◌, Option, Some, None, length, filter, map, refl, sym, ap, ◌∙◌, subst, arith}
use Rattle.std.proofs.Common.{append-nil, append_assoc, eq-eqb, eqb-true, is_some}
use Rattle.std.specs.List.{list_any, AllByRecursion as Each}
use Rattle.std.proofs.lemmas.Bool.{and_from, and_parts, ltb-false, ltb-true, or_parts}
use Rattle.aarp.specs.declared.packet.Function.{Function}
use Rattle.aarp.specs.declared.packet.Function.TheVariants.{Probe, Request, Response}
use Rattle.aarp.specs.declared.packet.Packet.{Packet}
use Rattle.at_base.specs.Address.{same_address}
use Rattle.at_base.specs.Limits.{max_held}
use Rattle.at_base.specs.Multicast.{all_hw, group_hw}
use Rattle.at_base.specs.declared.address.Addr.{Addr}
use Rattle.at_base.specs.declared.address.Hw.{Hw}
use Rattle.ddp.specs.Bodies.{body, hops, target}
use Rattle.table_image.specs.Internet.{Internet}
use Rattle.table_image.specs.Seats.{Seat}
use Rattle.audit.specs.Routing.{Hand, Here, On, Nowhere, hand, home}
use Rattle.station.specs.Resolution.{packet_at}
use Rattle.station.specs.declared.heard.Kind.TheVariants.{Ddp}
use Rattle.station.specs.declared.output.DropCause.TheVariants.{HopLimit, NoRoute}
use Rattle.station.specs.declared.output.Next.{Next}
use Rattle.station.specs.declared.output.Next.TheVariants as next
use Rattle.cable_model.specs.Holdings.{has_number, holds, holds_of, is_open, released_frame, releases, still_held, was_released}
use Rattle.cable_model.specs.Outcomes.{Held, framed, held_by, held_next, leg as leg_on, to_other, to_target}
use Rattle.cable_model.specs.Outgoing.{asked, held_entries, let_go}
use Rattle.cable_model.specs.Pending.{Pair}
use Rattle.cable_model.specs.Transcript.{Entry, Holding, Sent, Put, Reached, Dropped, Lost, Hold, count, next_stamp, one}
use Rattle.cable_model.specs.declared.entry.How.TheVariants as how
use Rattle.cable_model.specs.declared.resolve.Found.{Found}
use Rattle.cable_model.specs.declared.resolve.Found.TheVariants.{At, Later, Nobody}
use Rattle.cable_model.proofs.Counting.{any-append, count-append, count_le}
use Rattle.cable_model.proofs.Stamps.{holds-append}
use Rattle.legal_runs.specs.Legs.{Leg, final, is_copy, leg_bytes, passed, sender}
use Rattle.legal_runs.specs.Stations.{has_address}
use Rattle.resolved_runs.specs.Fates.{fate_with_by}
use Rattle.resolved_runs.specs.Lossless.{is_loss}
use Rattle.resolved_runs.specs.Mapped.{places_after}
use Rattle.resolved_runs.specs.Resolved.{answer_entries, held_at, held_by_port, resolved_leg, resolved_said}
use Rattle.resolved_runs.specs.Resolved.{resolving, resolving_by, resolving_of, shed_of, waiting_entries}
use Rattle.resolved_runs.specs.ResolvedRuns as resolved
use Rattle.resolved_runs.specs.ResolvedRuns.{IsLegalResolved, ResolvedBlock, resolved_fate, taking}
use Rattle.resolved_runs.specs.Rings as ring
use Rattle.resolved_runs.specs.Rings.{AreFewHeld, AreHeldAsReached, AreShed, is_held_there}
use Rattle.resolved_runs.proofs.Elements.{In, any_in, in_kept, in_left, kept_in, not_true}

-- ---- How many are held

-- How many elements pass both filters.
length_both : {X : Type 0} (f g : X → Bool) (xs : List X) → length (filter f (filter g xs)) ≡ count (λ x. g x && f x) xs
length_both f g [] = refl
length_both f g (x ∷ xs) =
    let rest = length_both f g xs in
    elim (g x) as (λ b. length (filter f (cond b (x ∷ filter g xs) (filter g xs))) ≡ one (b && f x) + count (λ x. g x && f x) xs) [
      | true ↦
          elim (f x) as
          (λ b. length (cond b (x ∷ filter f (filter g xs)) (filter f (filter g xs))) ≡ one b + count (λ x. g x && f x) xs) [
            | true ↦ omega (arith, rest)
            | false ↦ omega (arith, rest)
          ]
      | false ↦ omega (arith, rest)
    ]

-- A test that fails once more counts one less.
count_less : {X : Type 0} (t u : X → Bool) (xs : List X) (k : ℕ) (x : X) → ((y : X) → t y ≡ true → u y ≡ true)
    → In xs x → t x ≡ false → u x ≡ true → count t xs + 1 ≤ count u xs
count_less t u [] k x f (j, e) out there = cc
count_less t u (y ∷ xs) k x f (zero, e) out there =
    let same : y ≡ x = cc in
    let less = count_le t u xs f in
    let a = ap one (ap t same ∙ out) in
    let b = ap one (ap u same ∙ there) in
    omega (arith, less, a, b)
count_less t u (y ∷ xs) k x f (suc j, e) out there =
    let rest = count_less t u xs k x f (j, e) out there in
    (elim (t y) as (λ b. t y ≡ b → one b + count t xs + 1 ≤ one (u y) + count u xs) [
      | true ↦ λ g. let h = ap one (f y g) in omega (arith, h, rest)
      | false ↦ λ g. omega (arith, rest)
    ]) refl

module _ (s c : ℕ) where
  -- The station holds the datagram on the cable after the entries.
  abbrev has : List Entry → Holding → Bool
  has t h = not (was_released t h) && (h.station == s && h.cable == c)

  abbrev number : List Entry → ℕ
  number t = count (has t) (holds t)

  number_is : (t : List Entry) → length (held_at t s c) ≡ number t
  number_is t = length_both (λ h. h.station == s && h.cable == c) (λ h. not (was_released t h)) (holds t)

  -- What is held after an entry was held before, if it isn't new.
  has_before : (t : List Entry) (e : Entry) (h : Holding) → has (t ++ e ∷ []) h ≡ true → has t h ≡ true
  has_before t e h p =
      let w = and_parts (not (was_released (t ++ e ∷ []) h)) (h.station == s && h.cable == c) p in
      let gone = sym (any-append (releases h.stamp) t (e ∷ [])) ∙ not_true (was_released (t ++ e ∷ []) h) w.0 in
      let before = or_parts (was_released t h) (list_any (releases h.stamp) (e ∷ [])) gone in
      and_from (not (was_released t h)) (h.station == s && h.cable == c) (ap not before.0) w.1

  -- An entry that holds nothing adds none.
  no_more : (t : List Entry) (e : Entry) → holds_of e ≡ [] → number (t ++ e ∷ []) ≤ number t
  no_more t e none =
      let same : holds (t ++ e ∷ []) ≡ holds t =
      holds-append t (e ∷ []) ∙ (ap (λ l. holds t ++ (l ++ [])) none ∙ append-nil (holds t)) in
      let le = count_le (has (t ++ e ∷ [])) (has t) (holds t) (has_before t e) in
      let is = ap (count (has (t ++ e ∷ []))) same in
      omega (arith, le, is)

  -- One more is held, if the datagram is this station's on this cable.
  one_more : (t : List Entry) (d : Holding) → number (t ++ Hold d ∷ []) ≤ number t + one (d.station == s && d.cable == c)
  one_more t d =
      let e : Entry = Hold d in
      let is = ap (count (has (t ++ e ∷ []))) (holds-append t (e ∷ [])) ∙ count-append (has (t ++ e ∷ [])) (holds t) (d ∷ []) in
      let le = count_le (has (t ++ e ∷ [])) (has t) (holds t) (has_before t e) in
      let last = at_most (not (was_released (t ++ e ∷ []) d)) (d.station == s && d.cable == c) in
      omega (arith, is, le, last)
    where
      at_most : (a b : Bool) → one (a && b) ≤ one b
      at_most true b = omega arith
      at_most false true = omega arith
      at_most false false = omega arith

  -- One less is held after one of them was lost.
  one_less : (t : List Entry) (g : Holding) → In (held_at t s c) g → number (t ++ Lost g.stamp ∷ []) + 1 ≤ number t
  one_less t g there =
      let e : Entry = Lost g.stamp in
      let a = kept_in (λ h. h.station == s && h.cable == c) (still_held t) g there in
      let b = kept_in (λ h. not (was_released t h)) (holds t) g a.0 in
      let same : holds (t ++ e ∷ []) ≡ holds t = holds-append t (e ∷ []) ∙ append-nil (holds t) in
      let is = ap (count (has (t ++ e ∷ []))) same in
      let ended : was_released (t ++ e ∷ []) g ≡ true = any-append (releases g.stamp) t (e ∷ []) ∙ last (was_released t g) (eq-eqb g.stamp g.stamp refl) in
      let out : has (t ++ e ∷ []) g ≡ false = ap (λ x. not x && (g.station == s && g.cable == c)) ended in
      let less = count_less (has (t ++ e ∷ [])) (has t) (holds t) 0 g (has_before t e) b.0 out
      (and_from (not (was_released t g)) (g.station == s && g.cable == c) b.1 a.1) in
      omega (arith, is, less)
    where
      last : (a : Bool) {b : Bool} → b ≡ true → (a || (b || false)) ≡ true
      last true h = refl
      last false h = ap (λ b. b || false) h

-- ---- What holds after each entry

-- The losses are of the oldest of sixteen, no port holds more, and what is held for its target has reached its cable.
pub record Rings (t : List Entry) : Type 0 where
  pub shed : AreShed t
  pub few : (s c : ℕ) → length (held_at t s c) ≤ max_held
  pub reached : AreHeldAsReached t

rings_none : Rings []
rings_none = record { shed = ring.None; few = λ s c. omega arith; reached = ring.Begins }

-- The entry neither holds nor loses a datagram.
abbrev IsOther : Entry → Type 0
IsOther e = (is_loss e ≡ false) × (is_held_there e ≡ false) × (holds_of e ≡ [])

other_more : (t : List Entry) (e : Entry) → Rings t → IsOther e → Rings (t ++ e ∷ [])
other_more t e r other = record {
  shed = ring.Other t e r.shed other.0;
  reached = ring.Continues t e r.reached other.1;
  few = λ s c.
      let a = number_is s c (t ++ e ∷ []) in
      let b = number_is s c t in
      let le = no_more s c t e other.2 in
      let top = r.few s c in
      omega (arith, a, b, le, top);
}

others_more : (t es : List Entry) → Rings t → Each IsOther es → Rings (t ++ es)
others_more t [] r each = subst Rings (sym (append-nil t)) r
others_more t (e ∷ es) r each =
    subst Rings (append_assoc t (e ∷ []) es) (others_more (t ++ e ∷ []) es (other_more t e r each.0) each.1)

-- ---- A datagram is held

-- The datagram.
abbrev held_as : List Entry → ℕ → Held → Holding
held_as t station w = record { stamp = next_stamp t; cable = w.cable; station = station; next = w.next; bytes = w.bytes }

module _ (t : List Entry) (station : ℕ) (w : Held) (r : Rings t) (reached : AreHeldAsReached (t ++ Hold (held_as t station w) ∷ [])) where
  abbrev new : Holding
  new = held_as t station w

  abbrev held : List Holding
  held = held_at t station w.cable

  abbrev with_new : List Entry
  with_new = t ++ Hold new ∷ []

  -- What is held then by any station on any cable, where as many as this may be held on this one.
  few_then : (u : List Entry) → ((s c : ℕ) → number s c u ≤ number s c t + one (new.station == s && new.cable == c))
      → number station w.cable u ≤ max_held → (s c : ℕ) → length (held_at u s c) ≤ max_held
  few_then u more here s c = by (new.station == s && new.cable == c) refl
    where
      by : (b : Bool) → (new.station == s && new.cable == c) ≡ b → length (held_at u s c) ≤ max_held
      by true e =
          let p = and_parts (new.station == s) (new.cable == c) e in
          let is = number_is s c u in
          let same : number station w.cable u ≡ number s c u =
          ap (λ x. number x w.cable u) (eqb-true station s p.0) ∙ ap (λ x. number s x u) (eqb-true w.cable c p.1) in
          omega (arith, is, same, here)
      by false e =
          let is = number_is s c u in
          let was = number_is s c t in
          let le = more s c in
          let none = ap one e in
          let top = r.few s c in
          omega (arith, is, was, le, none, top)

  -- There is room.
  with_room : length held < max_held → Rings with_new
  with_room room = record {
    shed = ring.Other t (Hold new) r.shed refl;
    reached = reached;
    few = few_then with_new (λ s c. one_more s c t new)
        (let le = one_more station w.cable t new in
        let one = below (new.station == station && new.cable == w.cable) in
        let is = number_is station w.cable t in
        omega (arith, le, one, is, room));
  }
    where
      below : (b : Bool) → one b ≤ 1
      below true = omega arith
      below false = omega arith

  -- The oldest is lost.
  without_room : (g : Holding) (gs : List Holding) → held ≡ g ∷ gs → length held ≡ max_held → Rings (t ++ Hold new ∷ Lost g.stamp ∷ [])
  without_room g gs is full = record {
    shed = ring.Full t new g.stamp r.shed (record { oldest = g; others = gs; in_order = is; all = full; numbered = refl });
    reached = subst AreHeldAsReached (append_assoc t (Hold new ∷ []) (Lost g.stamp ∷ []))
        (ring.Continues with_new (Lost g.stamp) reached refl);
    few = subst (λ u. (s c : ℕ) → length (held_at u s c) ≤ max_held) (append_assoc t (Hold new ∷ []) (Lost g.stamp ∷ []))
        (few_then (with_new ++ Lost g.stamp ∷ [])
        (λ s c. let le = no_more s c with_new (Lost g.stamp) refl in let one = one_more s c t new in omega (arith, le, one))
        (let le = one_less station w.cable with_new g still in
        let one = one_more station w.cable t new in
        let top = below (new.station == station && new.cable == w.cable) in
        let was = number_is station w.cable t in
        omega (arith, le, one, top, was, full)));
  }
    where
      below : (b : Bool) → one b ≤ 1
      below true = omega arith
      below false = omega arith

      there : In held g
      there = subst (λ l. In l g) (sym is) (zero, refl)

      nothing : (b : Bool) → (b || false) ≡ b
      nothing true = refl
      nothing false = refl

      -- The oldest is held still when one more is.
      still : In (held_at with_new station w.cable) g
      still =
          let a = kept_in (λ (h : Holding). h.station == station && h.cable == w.cable) (still_held t) g there in
          let b = kept_in (λ h. not (was_released t h)) (holds t) g a.0 in
          let kept : not (was_released with_new g) ≡ true =
          ap not (any-append (releases g.stamp) t (Hold new ∷ [])) ∙ (ap not (nothing (was_released t g)) ∙ b.1) in
          in_kept (λ (h : Holding). h.station == station && h.cable == w.cable) (still_held with_new) g
          (in_kept (λ h. not (was_released with_new h)) (holds with_new) g
          (subst (λ l. In l g) (sym (holds-append t (Hold new ∷ []))) (in_left (holds t) (new ∷ []) g b.0)) kept) a.1

  -- What is let go, and what is held then.
  let_go_more : (hs : List Holding) → held ≡ hs → Rings (t ++ Hold new ∷ let_go t (shed_of hs))
  let_go_more [] is = with_room (let none = ap length is in omega (arith, none))
  let_go_more (g ∷ gs) is = by (nat_lt (length gs) (max_held - 1)) refl
    where
      there : In held g
      there = subst (λ l. In l g) (sym is) (zero, refl)

      opened : is_open t g.stamp ≡ true
      opened =
          any_in (has_number g.stamp) (still_held t) g
          (kept_in (λ (h : Holding). h.station == station && h.cable == w.cable) (still_held t) g there).0 (eq-eqb g.stamp g.stamp refl)

      by : (b : Bool) → nat_lt (length gs) (max_held - 1) ≡ b
          → Rings (t ++ Hold new ∷ let_go t (if nat_lt (length gs) (max_held - 1) then None else Some g.stamp))
      by true e =
          let lt = ltb-true (length gs) (max_held - 1) e in
          let number = ap length is in
          rw e (with_room (omega (arith, lt, number)))
      by false e =
          let le = ltb-false (length gs) (max_held - 1) e in
          let number = ap length is in
          let top = r.few station w.cable in
          rw e (rw opened (without_room g gs is (omega (arith, le, number, top))))

  -- The request that may go out changes nothing of that.
  held_more : (i : Internet) → Rings (t ++ held_entries t station w (held_by_port i t station w))
  held_more i =
      let front : List Entry = let_go t (shed_of held) in
      subst Rings (append_assoc t (Hold new ∷ front) (asks (held_by_port i t station w).ask))
      (others_more (t ++ Hold new ∷ front) (asks (held_by_port i t station w).ask) (let_go_more held refl)
      (all_asked (held_by_port i t station w).ask))
    where
      asks : Option (List ℕ) → List Entry
      asks ask = asked (record { stamp = suc (next_stamp t); cable = w.cable; station = station }) ask

      all_asked : (ask : Option (List ℕ)) → Each IsOther (asks ask)
      all_asked None = tt
      all_asked (Some bytes) = ((refl, refl, refl), tt)

-- ---- Blocks

module _ (i : Internet) where
  -- The entries of a leg for this receiver.
  abbrev on : List Entry → Leg → Next → List Entry
  on t l n =
      leg_on (places_after i t l.station) (sender (next_stamp t) l) n (leg_bytes l)
      ++ waiting_entries i (t ++ leg_on (places_after i t l.station) (sender (next_stamp t) l) n (leg_bytes l)) l.station
      (held_next (places_after i t l.station) l.cable n (leg_bytes l))

  -- Entries that are followed by none.
  alone : (t es : List Entry) → Rings t → Each IsOther es → Rings (t ++ (es ++ []))
  alone t es r each = subst (λ x. Rings (t ++ x)) (sym (append-nil es)) (others_more t es r each)

  module _ (t : List Entry) (l : Leg) (r : Rings t) where
    to_all : Rings (t ++ on t l next.All)
    to_all = by (is_some (home i (target (leg_bytes l)).net))
      where
        by : (b : Bool) → Rings (t ++ (cond b
            (Reached l.cable l.station how.All (body (leg_bytes l)) ∷ framed (sender (next_stamp t) l) all_hw Ddp (leg_bytes l) ∷ [])
            (framed (sender (next_stamp t) l) all_hw Ddp (leg_bytes l) ∷ []) ++ []))
        by true =
            alone t (Reached l.cable l.station how.All (body (leg_bytes l)) ∷ framed (sender (next_stamp t) l) all_hw Ddp (leg_bytes l) ∷ []) r
            ((refl, refl, refl), ((refl, refl, refl), tt))
        by false = alone t (framed (sender (next_stamp t) l) all_hw Ddp (leg_bytes l) ∷ []) r ((refl, refl, refl), tt)

    -- The entries where the station is searched with this result.
    abbrev found_on : Addr → Found → List Entry
    found_on a f =
        cond (same_address (target (leg_bytes l)) a) (to_target (sender (next_stamp t) l) (leg_bytes l) f)
        (to_other (sender (next_stamp t) l) (leg_bytes l) f)

    -- The datagram that waits for a station.
    abbrev wait_for : Addr → Held
    wait_for a = record { cable = l.cable; next = a; bytes = leg_bytes l }

    to_station : (a : Addr) (f : Found)
        → Rings (t ++ (found_on a f ++ waiting_entries i (t ++ found_on a f) l.station (held_by f l.cable a (leg_bytes l))))
    to_station a (At hw) = by (same_address (target (leg_bytes l)) a)
      where
        by : (b : Bool) → Rings (t ++ (cond b (to_target (sender (next_stamp t) l) (leg_bytes l) (At hw))
            (to_other (sender (next_stamp t) l) (leg_bytes l) (At hw)) ++ []))
        by true =
            alone t (to_target (sender (next_stamp t) l) (leg_bytes l) (At hw)) r ((refl, refl, refl), ((refl, refl, refl), tt))
        by false = alone t (to_other (sender (next_stamp t) l) (leg_bytes l) (At hw)) r ((refl, refl, refl), tt)
    to_station a Nobody = by (same_address (target (leg_bytes l)) a)
      where
        by : (b : Bool) → Rings (t ++ (cond b (to_target (sender (next_stamp t) l) (leg_bytes l) Nobody)
            (to_other (sender (next_stamp t) l) (leg_bytes l) Nobody) ++ []))
        by true = alone t (to_target (sender (next_stamp t) l) (leg_bytes l) Nobody) r ((refl, refl, refl), tt)
        by false = alone t [] r tt
    to_station a Later = by (same_address (target (leg_bytes l)) a) refl
      where
        e : Entry
        e = Reached l.cable l.station how.Held (body (leg_bytes l))

        w : Held
        w = wait_for a

        by : (b : Bool) → same_address (target (leg_bytes l)) a ≡ b
            → Rings (t ++ (cond b (e ∷ []) [] ++ held_entries (t ++ cond b (e ∷ []) []) l.station w
            (held_by_port i (t ++ cond b (e ∷ []) []) l.station w)))
        by true is =
            let u : List Entry = t ++ e ∷ [] in
            let h : Holding = held_as u l.station w in
            let first : Rings u = other_more t e r (refl, refl, refl) in
            let there : AreHeldAsReached (u ++ Hold h ∷ []) =
            subst AreHeldAsReached (sym (append_assoc t (e ∷ []) (Hold h ∷ []))) (ring.Arrives t h r.reached) in
            subst Rings (append_assoc t (e ∷ []) (held_entries u l.station w (held_by_port i u l.station w)))
            (held_more u l.station w first there i)
        by false is =
            subst (λ v. Rings (t ++ held_entries v l.station w (held_by_port i v l.station w))) (sym (append-nil t))
            (held_more t l.station w r (ring.Continues t (Hold (held_as t l.station w)) r.reached is) i)

  leg_more : (t : List Entry) (l : Leg) → Rings t → Rings (t ++ resolved_leg i t l)
  leg_more t l r = by l.next
    where
      by : (n : Next) → Rings (t ++ on t l n)
      by (next.Station a) = to_station t l r a ((places_after i t l.station).finds l.cable a)
      by next.All = to_all t l r
      by (next.Group g) = alone t (framed (sender (next_stamp t) l) (group_hw g) Ddp (leg_bytes l) ∷ []) r ((refl, refl, refl), tt)

  said_more : (t : List Entry) (ls : List Leg) → Rings t → Rings (t ++ resolved_said i t ls)
  said_more t [] r = subst Rings (sym (append-nil t)) r
  said_more t (l ∷ ls) r =
      let e : Entry = Sent l.station l.body in
      let u : List Entry = t ++ e ∷ [] in
      let leg : List Entry = resolved_leg i u l in
      let first : Rings (u ++ leg) = leg_more u l (other_more t e r (refl, refl, refl)) in
      let rest = said_more (t ++ e ∷ leg) ls (subst Rings (append_assoc t (e ∷ []) leg) first) in
      subst Rings (append_assoc t (e ∷ leg) (resolved_said i (t ++ e ∷ leg) ls)) rest

  fate_more : (t : List Entry) (p : Pair) → Rings t → Rings (t ++ resolved_fate i t p)
  fate_more t p r = by (is_copy i p)
    where
      on_leg : (router c : ℕ) (to : Next)
          → Rings (t ++ cond (hops p.frame.bytes == 15) (Dropped router HopLimit (body p.frame.bytes) ∷ []) (resolved_leg i t (passed router p c to)))
      on_leg router c to = at (hops p.frame.bytes == 15)
        where
          at : (b : Bool) → Rings (t ++ cond b (Dropped router HopLimit (body p.frame.bytes) ∷ []) (resolved_leg i t (passed router p c to)))
          at true = other_more t (Dropped router HopLimit (body p.frame.bytes)) r (refl, refl, refl)
          at false = leg_more t (passed router p c to) r

      by_hand : (router : ℕ) (h : Hand) → Rings (t ++ fate_with_by i (resolved_leg i t) router p h)
      by_hand router Nowhere = other_more t (Dropped router NoRoute (body p.frame.bytes)) r (refl, refl, refl)
      by_hand router (Here c) = at ((target p.frame.bytes).node == 0 || has_address i router c (target p.frame.bytes))
        where
          at : (b : Bool) → Rings (t ++ cond b (Reached c router how.Own (body p.frame.bytes) ∷ [])
              (cond (hops p.frame.bytes == 15) (Dropped router HopLimit (body p.frame.bytes) ∷ [])
              (resolved_leg i t (passed router p c (final (target p.frame.bytes))))))
          at true = other_more t (Reached c router how.Own (body p.frame.bytes)) r (refl, refl, refl)
          at false = on_leg router c (final (target p.frame.bytes))
      by_hand router (On s c a) = on_leg router c (next.Station a)

      by : (b : Bool) → Rings (t ++ cond b (fate_with_by i (resolved_leg i t) p.seat.station p (hand i p.seat.station (target p.frame.bytes).net)) [])
      by true = by_hand p.seat.station (hand i p.seat.station (target p.frame.bytes).net)
      by false = subst Rings (sym (append-nil t)) r

  -- What follows the taking of an AARP frame are others.
  resolving_others : (t : List Entry) (p : Pair) → Each IsOther (resolving i t p)
  resolving_others t p = of (packet_at p.frame.bytes)
    where
      answers : (sent : Packet) (ss : List Seat) → Each IsOther (answer_entries t p.frame.cable sent ss)
      answers sent [] = tt
      answers sent (s ∷ ss) = ((refl, refl, refl), tt)

      all_put : (hw : Hw) (hs : List Holding) → Each IsOther (map (λ h. Put (released_frame h hw)) hs)
      all_put hw [] = tt
      all_put hw (h ∷ hs) = ((refl, refl, refl), all_put hw hs)

      by : (sent : Packet) (f : Function) → Each IsOther (resolving_by i t p.seat.station p.frame.cable sent f)
      by sent Request = answers sent _
      by sent Probe = answers sent _
      by sent Response = all_put sent.source_hw _

      of : (o : Option Packet) → Each IsOther (resolving_of i t p o)
      of None = tt
      of (Some sent) = by sent sent.function

  block_more : (t block : List Entry) → ResolvedBlock i t block → Rings t → Rings (t ++ block)
  block_more t block (resolved.Sends l made own) r = said_more t (l ∷ []) r
  block_more t block (resolved.Takes p answers there kind made its ans) r =
      let u : List Entry = t ++ taking p ∷ [] in
      let first : Rings u = other_more t (taking p) r (refl, refl, refl) in
      let fate : List Entry = resolved_fate i u p in
      let said : List Entry = resolved_said i (u ++ fate) answers in
      let all : Rings ((u ++ fate) ++ said) = said_more (u ++ fate) answers (fate_more u p first) in
      subst Rings (append_assoc u fate said ∙ append_assoc t (taking p ∷ []) (fate ++ said)) all
  block_more t block (resolved.Resolves p there kind) r =
      let u : List Entry = t ++ taking p ∷ [] in
      subst Rings (append_assoc t (taking p ∷ []) (resolving i u p))
      (others_more u (resolving i u p) (other_more t (taking p) r (refl, refl, refl)) (resolving_others u p))

  -- Every transcript that is legal with resolution.
  pub rings : (t : List Entry) → IsLegalResolved i t → Rings t
  rings t resolved.Begins = rings_none
  rings t (resolved.Continues front block legal b) = block_more front block b (rings front legal)

-- ---- Where no port holds seventeen at once

-- What was few in the whole was few in its front.
few_front : (t es : List Entry) → AreFewHeld (t ++ es) → AreFewHeld t
few_front t es few front back d is =
    few front (back ++ es) d (ap (λ l. l ++ es) is ∙ append_assoc front (Hold d ∷ back) es)

-- Nothing is lost.
pub none_shed : (t : List Entry) → AreShed t → AreFewHeld t → count is_loss t ≡ 0
none_shed t ring.None few = refl
none_shed t (ring.Other u e shed other) few =
    let sum = count-append is_loss u (e ∷ []) in
    let before = none_shed u shed (few_front u (e ∷ []) few) in
    let last = ap one other in
    omega (arith, sum, before, last)
none_shed t (ring.Full u d stamp shed oldest) few =
    let room = few u (Lost stamp ∷ []) d refl in
    let full = oldest.all in
    absurd (omega (arith, room, full))
