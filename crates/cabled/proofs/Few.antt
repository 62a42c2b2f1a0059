-- How many outputs and answers there are in one step.
use Rattle.std.proofs.Common.{◌≡◌, ℕ, ◌+◌, ◌≤◌, Bool, true, false, cond, List, [], ◌∷◌, ◌++◌, length, Option, Some, None, ap, arith, not, refl, suc, ◌∙◌}
use Rattle.std.specs.Prelude.{option_to_list, slice_get}
use Rattle.std.proofs.lemmas.List.{length-map}
use Rattle.aarp.specs.Choosing.{Choice}
use Rattle.at_base.specs.Range.{Span}
use Rattle.at_base.specs.Spelling.{bytes_of}
use Rattle.at_base.specs.declared.address.Addr.{Addr}
use Rattle.cabled.specs.Asked.{answered, as_data, asked_by_ended, asked_by_ending, packets_asked}
use Rattle.ddp.specs.Datagram.{Datagram}
use Rattle.router.specs.Holding.{Holding}
use Rattle.router.specs.Ways.{way_back}
use Rattle.router.specs.declared.course.Ending.{Ending}
use Rattle.rtmp.specs.Data.{routing_data}
use Rattle.rtmp.specs.Requests.{request_in}
use Rattle.rtmp.specs.Sending.{packet_numbered}
use Rattle.rtmp.specs.declared.request.Request.{Request}
use Rattle.rtmp.specs.declared.request.Request.TheVariants.{Router, Routes}
use Rattle.rtmp.specs.declared.row.Row.{Row}
use Rattle.station.specs.Lawful.{PutsOut, count, is_made, one}
use Rattle.station.specs.Making.{made}
use Rattle.station.specs.declared.output.Output.{Output}
use Rattle.station.specs.declared.way.Way.{Way}

three_few : {X : Type 0} (a b c : Option X) → length (option_to_list a ++ option_to_list b ++ option_to_list c) ≤ 3
three_few None None None = omega arith
three_few None None (Some z) = omega arith
three_few None (Some y) None = omega arith
three_few None (Some y) (Some z) = omega arith
three_few (Some x) None None = omega arith
three_few (Some x) None (Some z) = omega arith
three_few (Some x) (Some y) None = omega arith
three_few (Some x) (Some y) (Some z) = omega arith

packets_few : (k : ℕ) (range : Span) (me : Addr) (rows : List Row) (r : Request) → length (packets_asked k range me rows r) ≤ 3
packets_few k range me rows Router = omega arith
packets_few k range me rows (Routes horizon) =
    three_few (packet_numbered horizon k range me 0 rows) (packet_numbered horizon k range me 1 rows)
    (packet_numbered horizon k range me 2 rows)

answered_few : (k : ℕ) (rows : List Row) (c : Option Choice) (w : Option Way) (r : Option Request)
    → length (answered k rows c w r) ≤ 3
answered_few k rows (Some c) (Some w) (Some r) =
    let few = packets_few k c.range w.header.source rows r in
    omega (arith, few, length-map (packets_asked k c.range w.header.source rows r) (λ p. made (as_data w) (bytes_of routing_data p)))
answered_few k rows (Some c) (Some w) None = omega arith
answered_few k rows (Some c) None r = omega arith
answered_few k rows None w r = omega arith

ended_few : (h : Holding) (e : Ending) (d : Datagram) → length (asked_by_ended h e d) ≤ 3
ended_few h e d = by _
  where
    by : (b : Bool) → length (cond b (answered e.port h.routes (slice_get h.ports e.port) (way_back h e.port d) (request_in d.payload)) []) ≤ 3
    by true = answered_few e.port h.routes (slice_get h.ports e.port) (way_back h e.port d) (request_in d.payload)
    by false = omega arith

-- a datagram that ended at the router has at most three answers
pub asked_few : (h : Holding) (e : Option Ending) (d : Datagram) → length (asked_by_ending h e d) ≤ 3
asked_few h None d = omega arith
asked_few h (Some e) d = ended_few h e d

-- ---- Outputs

both_counted : (os : List Output) → length os ≡ count is_made os + count (λ o. not (is_made o)) os
both_counted [] = refl
both_counted (o ∷ os) = by (is_made o) (both_counted os)
  where
    by : (b : Bool) → length os ≡ count is_made os + count (λ o. not (is_made o)) os
        → suc (length os) ≡ (one b + count is_made os) + (one (not b) + count (λ o. not (is_made o)) os)
    by true others = omega (arith, others)
    by false others = omega (arith, others)

-- a call of a station adds at most 257 outputs
pub outputs_few : (n : ℕ) (old new : List Output) (Holds : List Output → Type 0) → old ≡ [] → PutsOut n old new Holds → length new ≤ 257
outputs_few n old new Holds none out =
    let made = out.lawful.made in
    let others = out.lawful.others in
    let counted = both_counted out.added in
    let same = ap (λ (l : List Output). length l) (out.grown ∙ ap (λ (l : List Output). l ++ out.added) none) in
    omega (arith, made, others, counted, same)
