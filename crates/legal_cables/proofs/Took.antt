-- What seats keep when a frame is taken.
use Rattle.std.proofs.Common.{◌≡◌, ℕ, Bool, true, false, ◌&&◌, ◌==◌, if◌then◌else◌, List, [], ◌∷◌, ◌++◌, Option, Some, None, Contains}
use Rattle.std.proofs.Common.{refl, sym, ap, ◌∙◌, arith, filter, map}
use Rattle.std.specs.List.{list_any}
use Rattle.std.specs.Option.{option_or}
use Rattle.std.proofs.lemmas.Bool.{false_from_ne_true}
use Rattle.aarp.specs.Mapping.{Mappings}
use Rattle.at_base.specs.declared.address.Addr.{Addr}
use Rattle.at_base.specs.declared.address.Hw.{Hw}
use Rattle.table_image.specs.Internet.{Internet}
use Rattle.station.specs.Resolution.{packet_at, response_of}
use Rattle.cable_model.specs.Holdings.{still_held}
use Rattle.cable_model.specs.Pending.{Pair, pending}
use Rattle.cable_model.specs.Transcript.{Entry, Put, has_put}
use Rattle.cable_model.proofs.Counting.{each_all}
use Rattle.legal_runs.specs.Stations.{cable_seats}
use Rattle.live_cables.specs.Finding.{Knowing}
use Rattle.resolved_runs.specs.Mapped.{answers_for, frame_of, given, learnt_in, mapping_in, response_on}
use Rattle.resolved_runs.specs.Resolved.{held_at}
use Rattle.resolved_runs.specs.ResolvedRuns.{taking}
use Rattle.resolved_runs.proofs.Asked.{released_below}
use Rattle.resolved_runs.proofs.Elements.{In}
use Rattle.resolved_runs.proofs.HeldStamps.{held_once, put_there}
use Rattle.resolved_runs.proofs.Never.{same_back}
use Rattle.resolved_runs.proofs.Stamped.{frame_is}
use Rattle.resolved_runs.proofs.Standing.{pair_put, pending_in, took_put}
use Rattle.resolved_runs.proofs.Told.{IsTold}
use Rattle.legal_cables.specs.Keeping.{IsKept, Keeps}
use Rattle.legal_cables.proofs.Effects.{IsBooked, booked, learnt_took, or_none, still_same}
use Rattle.legal_cables.proofs.Kept.{as_held}
use Rattle.legal_cables.proofs.Others.{is_mine}

-- The stamps of a told transcript.
pub told_booked : (i : Internet) (t : List Entry) → IsTold i t → IsBooked t
told_booked i t told = record {
  took = λ n h. took_put i t n told h;
  free = λ n le. false_from_ne_true _ (λ h. let lt = released_below i t n told h in absurd (omega (arith, lt, le)));
  once = held_once i t told;
}

module _ (i : Internet) (t : List Entry) (told : IsTold i t) (p : Pair) (there : Contains (pending (cable_seats i) t) p) where
  -- The transcript with the take.
  abbrev pub taken : List Entry
  taken = t ++ taking p ∷ []

  pub pair_was_put : In t (Put p.frame)
  pair_was_put = (pair_put (cable_seats i) t p (pending_in i (cable_seats i) t p there).0).0

  was_put : list_any (has_put p.frame.stamp) t ≡ true
  was_put = put_there t p pair_was_put

  pub books : IsBooked taken
  books = booked t (told_booked i t told) (taking p) was_put

  its_frame : frame_of p.frame.stamp t ≡ Some p.frame
  its_frame = frame_is i t p.frame told pair_was_put

  -- What the take tells a station about an address on a cable.
  abbrev pub tells : ℕ → ℕ → Addr → Option Hw
  tells s c a =
      if p.seat.station == s then answers_for a (if p.frame.cable == c then response_of p.frame.kind (packet_at p.frame.bytes) else None)
      else None

  pub learnt_then : (s c : ℕ) (a : Addr) → learnt_in taken s c a taken ≡ option_or (learnt_in t s c a t) (tells s c a)
  learnt_then s c a =
      learnt_took s c a t p.frame.stamp p.seat.station (told_booked i t told) was_put
      ∙ ap (λ o. option_or (learnt_in t s c a t) (if p.seat.station == s then answers_for a (response_on c o) else None)) its_frame

  pub held_then : (s c : ℕ) → held_at taken s c ≡ held_at t s c
  held_then s c = ap (filter (is_mine s c)) (still_same t (taking p) refl (each_all _ (still_held t) (λ h. refl)))

  -- A station that is told nothing keeps what it kept.
  pub kept_took : (s c : ℕ) (m : Mappings) → ((a : Addr) → tells s c a ≡ None) → IsKept i t s c m → IsKept i taken s c m
  kept_took s c m silent kept = record {
    known = λ a not_own.
        kept.known a not_own
        ∙ ap (option_or (mapping_in a (given i s c)))
        (sym (learnt_then s c a ∙ (ap (option_or (learnt_in t s c a t)) (silent a) ∙ or_none (learnt_in t s c a t))));
    once = kept.once;
    held = kept.held ∙ ap (map as_held) (sym (held_then s c));
  }

  -- Without a response nobody is told anything.
  pub silent_of : response_of p.frame.kind (packet_at p.frame.bytes) ≡ None → (s c : ℕ) (a : Addr) → tells s c a ≡ None
  silent_of none s c a = by (p.seat.station == s) (p.frame.cable == c)
    where
      by : (x y : Bool)
          → (if x then answers_for a (if y then response_of p.frame.kind (packet_at p.frame.bytes) else None) else None) ≡ None
      by false y = refl
      by true false = refl
      by true true = ap (answers_for a) none

  -- Nor is another station, or one on another cable.
  pub silent_others : (s c : ℕ) → (s == p.seat.station && c == p.frame.cable) ≡ false → (a : Addr) → tells s c a ≡ None
  silent_others s c other a = by (p.seat.station == s) (p.frame.cable == c) (both ∙ other)
    where
      both : (p.seat.station == s && p.frame.cable == c) ≡ (s == p.seat.station && c == p.frame.cable)
      both = ap (λ x. x && p.frame.cable == c) (same_back p.seat.station s) ∙ ap (λ x. s == p.seat.station && x) (same_back p.frame.cable c)

      by : (x y : Bool) → (x && y) ≡ false
          → (if x then answers_for a (if y then response_of p.frame.kind (packet_at p.frame.bytes) else None) else None) ≡ None
      by false y e = refl
      by true false e = refl
      by true true e = cc

  pub keeps_took : (k : Knowing) → response_of p.frame.kind (packet_at p.frame.bytes) ≡ None → Keeps i k t → Keeps i k taken
  keeps_took k none keeps = record {
    seats_are = keeps.seats_are;
    own = keeps.own;
    ranges = keeps.ranges;
    each = λ n q at. let w = keeps.each n q at in
        (w.0, w.1, kept_took q.station q.cable w.0 (silent_of none q.station q.cable) w.2);
  }
