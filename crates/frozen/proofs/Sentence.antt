-- What a yes promises of a run, by the version of its image.
use Rattle.std.proofs.Common.{Bool, List, Some, arith, cond, false, refl, sym, true, ℕ, ◌+◌, ◌∙◌, ◌≡◌}
use Rattle.audit.specs.Routing.{home}
use Rattle.cable_model.specs.Logs.{transcript as said}
use Rattle.cable_model.specs.Transcript.{count}
use Rattle.ddp.specs.Bodies.{target}
use Rattle.frozen.proofs.AtRest.{at_rest_arrived, at_rest_heard, at_rest_looked_up, at_rest_taken, not_looked_up, nowhere_else}
use Rattle.frozen.proofs.Promised.{each_once, legal_resolved}
use Rattle.frozen.specs.Promises.{HaveOnlyAsked, IsAtRest, IsEachOnceOn, shed, shed_forwards, shed_requests}
use Rattle.frozen.specs.Runs.{IsFrozen, IsLegalOn, Running, RunsOver, transcript}
use Rattle.frozen.specs.Sentence.{HasBeenLookedUp, HasReached, IsLossless, WasHeardBy}
use Rattle.legal_runs.specs.Counts.{reached, sent, under_way}
use Rattle.legal_runs.specs.Lookups.{asked, lookups}
use Rattle.legal_runs.specs.Requests.{is_among, listing, zone_of}
use Rattle.resolved_runs.proofs.NotLost.{nothing_given_up}
use Rattle.resolved_runs.proofs.Rings.{none_shed, rings}
use Rattle.resolved_runs.specs.HeldCounts.{under_way_or_held}
use Rattle.resolved_runs.specs.Lossless.{is_loss}
use Rattle.resolved_runs.specs.Rings.{AreFewHeld}
use Rattle.run_cables.specs.Wired.{happened}
use Rattle.run_cables.specs.declared.wiring.Wiring.{Wiring}
use Rattle.run_cables.specs.declared.wiring.Wiring.TheVariants.{Asking, Known}
use Rattle.table_image.specs.Internet.{Internet}
use Rattle.table_image.specs.Seats.{Seat, seat_at}
use Rattle.table_image.specs.declared.version.Version.TheVariants.{V1, V2}

-- ---- By the two kinds of cables

-- Nothing was given up.
record NoneShed (i : Internet) (w : Wiring) : Type 0 where
  copies : (b : List ℕ) → shed i w b ≡ 0
  requests : (k : List ℕ) → shed_requests i w k ≡ 0
  forwards : (k : List ℕ) (c : ℕ) → shed_forwards i w k c ≡ 0

two_is_one : V2 ≡ V1 → ⊥
two_is_one e = cc

one_is_two : V1 ≡ V2 → ⊥
one_is_two e = cc

none_known : (i : Internet) (w : Wiring) → IsLegalOn i w → i.version ≡ V1 → NoneShed i w
none_known i (Known c) legal v = record { copies = λ b. refl; requests = λ k. refl; forwards = λ k c. refl }
none_known i (Asking w) legal v = absurd (two_is_one (sym legal.0 ∙ v))

none_lossless : (i : Internet) (w : Wiring) → count is_loss (happened w) ≡ 0 → NoneShed i w
none_lossless i (Known c) none = record { copies = λ b. refl; requests = λ k. refl; forwards = λ k c. refl }
none_lossless i (Asking w) none =
    let g = nothing_given_up i (said w.cabling) none in
    record { copies = g.copies; requests = g.requests; forwards = g.forwards }

once_known : (i : Internet) (w : Wiring) (b : List ℕ) (c : ℕ) → IsLegalOn i w → i.version ≡ V1 → IsEachOnceOn i w
    → home i (target b).net ≡ Some c → sent b (happened w) ≡ reached b c (happened w) + under_way i b (happened w)
once_known i (Known k) b c legal v once is = (once.listed b c is).counted
once_known i (Asking w) b c legal v once is = absurd (two_is_one (sym legal.0 ∙ v))

once_held : (i : Internet) (w : Wiring) (b : List ℕ) (c : ℕ) → IsLegalOn i w → i.version ≡ V2 → count is_loss (happened w) ≡ 0
    → IsEachOnceOn i w → home i (target b).net ≡ Some c
    → sent b (happened w) ≡ reached b c (happened w) + under_way_or_held i b (happened w)
once_held i (Known k) b c legal v none once is = absurd (one_is_two (sym legal.0 ∙ v))
once_held i (Asking w) b c legal v none once is =
    let sum = (once.listed b c is).counted in
    let nothing = (nothing_given_up i (said w.cabling) none).copies b in
    omega (arith, sum, nothing)

-- ---- Of a run

module _ (r : Running) (frozen : IsFrozen r) (none : NoneShed r.internet r.wiring) (rest : IsAtRest r) where
  has_reached : (b : List ℕ) (c : ℕ) → home r.internet (target b).net ≡ Some c → HasReached r b c
  has_reached b c is = record {
    there = let sum = at_rest_arrived r b c frozen rest is in let nothing = none.copies b in omega (arith, sum, nothing);
    nowhere_else = λ d other. nowhere_else r b c d frozen is other;
  }

  has_been_looked_up : (k : List ℕ) → HaveOnlyAsked r → HasBeenLookedUp r k
  has_been_looked_up k only c = by (is_among c (listing r.internet (zone_of k))) refl
    where
      by : (b : Bool) → is_among c (listing r.internet (zone_of k)) ≡ b
          → lookups r.internet k c (transcript r) ≡ cond b (asked r.internet k (transcript r)) 0
      by true is =
          let sum = at_rest_looked_up r k c frozen rest only is in
          let were_taken = at_rest_taken r k frozen rest only in
          let nothing = none.requests k in
          let none_forwarded = none.forwards k c in
          omega (arith, sum, were_taken, nothing, none_forwarded)
      by false is = not_looked_up r k c frozen only is

-- ---- Over an image of version 1

none_one : (r : Running) → RunsOver V1 r → NoneShed r.internet r.wiring
none_one r f = none_known r.internet r.wiring f.0.legal f.1

pub every_moment_one : (r : Running) (b : List ℕ) (c : ℕ) → RunsOver V1 r → home r.internet (target b).net ≡ Some c
    → sent b (transcript r) ≡ reached b c (transcript r) + under_way r.internet b (transcript r)
every_moment_one r b c f is = once_known r.internet r.wiring b c f.0.legal f.1 (each_once r f.0) is

pub reached_one : (r : Running) (b : List ℕ) (c : ℕ) → RunsOver V1 r → IsAtRest r → home r.internet (target b).net ≡ Some c
    → HasReached r b c
reached_one r b c f rest is = has_reached r f.0 (none_one r f) rest b c is

pub looked_up_one : (r : Running) (k : List ℕ) → RunsOver V1 r → IsAtRest r → HaveOnlyAsked r → HasBeenLookedUp r k
looked_up_one r k f rest only = has_been_looked_up r f.0 (none_one r f) rest k only

-- ---- Over an image of version 2

pub every_moment_two : (r : Running) (b : List ℕ) (c : ℕ) → RunsOver V2 r → IsLossless r → home r.internet (target b).net ≡ Some c
    → sent b (transcript r) ≡ reached b c (transcript r) + under_way_or_held r.internet b (transcript r)
every_moment_two r b c f none is = once_held r.internet r.wiring b c f.0.legal f.1 none (each_once r f.0) is

pub reached_two : (r : Running) (b : List ℕ) (c : ℕ) → RunsOver V2 r → IsLossless r → IsAtRest r
    → home r.internet (target b).net ≡ Some c → HasReached r b c
reached_two r b c f none rest is = has_reached r f.0 (none_lossless r.internet r.wiring none) rest b c is

pub heard_two : (r : Running) (b : List ℕ) (c : ℕ) (s : Seat) → RunsOver V2 r → IsLossless r → IsAtRest r
    → seat_at r.internet c (target b) ≡ Some s → WasHeardBy r s.station b
heard_two r b c s f none rest found =
    let sum = at_rest_heard r b c s f rest found in
    let nothing = (nothing_given_up r.internet (transcript r) none).bodies b in
    omega (arith, sum, nothing)

pub looked_up_two : (r : Running) (k : List ℕ) → RunsOver V2 r → IsLossless r → IsAtRest r → HaveOnlyAsked r → HasBeenLookedUp r k
looked_up_two r k f none rest only = has_been_looked_up r f.0 (none_lossless r.internet r.wiring none) rest k only

pub lossless_two : (r : Running) → RunsOver V2 r → AreFewHeld (transcript r) → IsLossless r
lossless_two r f few =
    let legal = legal_resolved r.internet r.wiring f.0.legal f.1 in
    none_shed (transcript r) (rings r.internet (transcript r) legal.1).shed few
