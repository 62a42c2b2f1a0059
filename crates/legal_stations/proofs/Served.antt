-- The outputs that a router makes from a datagram that ended at it.
use Rattle.std.proofs.Common.{◌≡◌, ℕ, Bool, true, false, ◌&&◌, ◌==◌, cond, if◌then◌else◌, List, [], Option, Some, None, slice_get}
use Rattle.std.proofs.Common.{refl, sym, ap, ◌∙◌, subst, map, eqb-true}
use Rattle.std.specs.Prelude.{option_to_list}
use Rattle.std.specs.List.{AllByRecursion as Each}
use Rattle.std.proofs.lemmas.Bool.{and_parts}
use Rattle.at_base.specs.Spelling.{bytes_of}
use Rattle.atp.specs.Answers.{bytes_of_all}
use Rattle.atp.specs.declared.request.Request.{Request}
use Rattle.audit.specs.Routing.{home}
use Rattle.audit.specs.Rules.{Passes}
use Rattle.audit.proofs.WalkLists.{At}
use Rattle.cable_model.specs.Pending.{Pair}
use Rattle.ddp.specs.Bodies.{target}
use Rattle.ddp.specs.Datagram.{Datagram}
use Rattle.echo.specs.Echo.{echo_reply}
use Rattle.image_stations.specs.Holders.{HoldsRouter, range_of}
use Rattle.legal_runs.specs.Answers.{Others, asks_here, ends_at, seeks_here}
use Rattle.router.specs.Answers.{handled, made_for, requests_after, served}
use Rattle.station.specs.Ways.{is_to, replying}
use Rattle.router.specs.Holding.{Holding}
use Rattle.router.specs.Requests.{requests_made}
use Rattle.nbp.specs.Packets.{names_in}
use Rattle.router.specs.Ways.{way_back}
use Rattle.router.specs.Zones.{info, info_way, told_by, transacted, zones_told}
use Rattle.atp.specs.InPlace.{transaction_in}
use Rattle.zip_zones.specs.Formats.{zones_in, packet as zip_packet}
use Rattle.router.specs.declared.course.Ending.{Ending}
use Rattle.station.specs.Lawful.{IsGood}
use Rattle.station.specs.declared.output.Output.{Output}
use Rattle.station.specs.declared.way.Way.{Way}
use Rattle.table_image.specs.Bounds.{IsBounded}
use Rattle.table_image.specs.Internet.{Internet}
use Rattle.table_image.specs.declared.port.Port.{Port}
use Rattle.zip_zones.specs.Answers.{replies}
use Rattle.zip_zones.specs.declared.packet.Packet.{Packet}
use Rattle.zip_zones.specs.declared.packet.Packet.TheVariants as zip
use Rattle.legal_stations.proofs.Arrivals.{Arrives}
use Rattle.legal_stations.proofs.Asked.{Answered, quiet, requests_answer, unended}
use Rattle.legal_stations.proofs.Datagrams.{Inside}
use Rattle.legal_stations.proofs.Fates.{EndsOn, own_end}
use Rattle.legal_stations.proofs.Leaving.{legs_other}
use Rattle.legal_stations.proofs.Ports.{has_port}
use Rattle.legal_stations.proofs.RouterWays.{Replies, choice_is, info_way_goes, replies_are, way_back_goes}

module _ (i : Internet) (ok : Passes i) (bounded : IsBounded i) (p : Pair) (h : Holding) (holds : HoldsRouter i p.seat.station h)
    (a : Arrives i ok p) (x : Inside p.frame.bytes) (n : ℕ) where
  abbrev r : ℕ
  r = p.seat.station

  abbrev d : Datagram
  d = x.d

  -- A datagram that isn't of NBP's type and socket is no request.
  not_names : is_to 2 2 d ≡ false → (asks_here i p ≡ false) × (seeks_here i p ≡ false)
  not_names e = quiet i p None (x.asks ∙ ap (λ b. cond b (names_in d.payload) None) e) refl refl

  other_kind : (k s : ℕ) → is_to k s d ≡ true → (k == 2) ≡ false → (d.kind == 2) ≡ false
  other_kind k s e apart = ap (λ m. m == 2) (eqb-true d.kind k (and_parts (d.kind == k) (d.target_socket == s) e).0) ∙ apart

  not_two : (d.kind == 2) ≡ false → is_to 2 2 d ≡ false
  not_two e = ap (λ b. b && d.target_socket == 2) e

  -- Replies other than NBP's.
  replied : (d.kind == 2) ≡ false → (o : Option Way) → Replies i r d.kind o → (ps : List (List ℕ)) → Each (IsGood n) (replying o ps)
      → Answered i p (replying o ps)
  replied other o is ps good =
      let w = replies_are i r n d.kind other o is ps good in
      let q = not_names (not_two other) in
      record { leaves = w.0; answers = Others q.0 q.1 (legs_other i r (replying o ps) w.1) }

  nothing : (asks_here i p ≡ false) × (seeks_here i p ≡ false) → Answered i p []
  nothing q = record { leaves = tt; answers = Others q.0 q.1 tt }

  -- ---- About zones

  module _ (q : ℕ) (port : Port) (at : At holds.router.ports q port) (other : (d.kind == 2) ≡ false) where
    told_answer : (zone : List ℕ) → Each (IsGood n) (told_by h q d zone (slice_get h.ports q))
        → Answered i p (told_by h q d zone (slice_get h.ports q))
    told_answer zone =
        subst (λ o. Each (IsGood n) (told_by h q d zone o)
        → Answered i p (told_by h q d zone o)) (sym (choice_is i ok r h holds d x.spelled.0 q port at))
        (λ good. replied other (info_way h q (range_of (slice_get i.cables port.cable)) d)
        (info_way_goes i ok r h holds d x.spelled.0 q port at) (info h (range_of (slice_get i.cables port.cable)) zone) good)

    zones_answer : (o : Option Packet) → Each (IsGood n) (zones_told h q d o) → Answered i p (zones_told h q d o)
    zones_answer None good = nothing (not_names (not_two other))
    zones_answer (Some (zip.Query nets)) good =
        replied other (way_back h q d) (way_back_goes i ok r h holds d x.spelled.0 q port at) (map (bytes_of zip_packet)
        (replies h.zones nets)) good
    zones_answer (Some (zip.GetNetInfo unused zone)) good = told_answer zone good
    zones_answer (Some (zip.Reply count entries)) good = nothing (not_names (not_two other))
    zones_answer (Some (zip.NetInfoReply told)) good = nothing (not_names (not_two other))
    zones_answer (Some (zip.ExtendedReply total entries)) good = nothing (not_names (not_two other))

  -- ---- By type and socket

  module _ (e : Ending) (ends : e.is_own ≡ ends_at i p) (port : Port) (at : At holds.router.ports e.port port)
      (listed : e.is_own ≡ true → home i (target p.frame.bytes).net ≡ Some port.cable) where
    names_answer : is_to 2 2 d ≡ true → (own : Bool) → e.is_own ≡ own
        → Each (IsGood n) (cond own (requests_made h d (names_in d.payload)) [])
        → Answered i p (cond own (requests_made h d (names_in d.payload)) [])
    names_answer two true own good =
        let here = listed own in
        requests_answer i ok bounded p h holds n d x.each (sym ends ∙ own) port.cable here
        (sym (ap (λ t. home i t.net) x.target_is)
        ∙ here) (has_port i ok r holds.router holds.known e.port port at) (names_in d.payload) refl
        (x.asks ∙ ap (λ b. cond b (names_in d.payload) None) two) good
    names_answer two false own good = nothing (unended i p (sym ends ∙ own))

    by_six : is_to 2 2 d ≡ false → (b : Bool) → is_to 6 6 d ≡ b
        → Each (IsGood n) (if b then zones_told h e.port d (zones_in d.payload) else [])
        → Answered i p (if b then zones_told h e.port d (zones_in d.payload) else [])
    by_six two true six good = zones_answer e.port port at (other_kind 6 6 six refl) (zones_in d.payload) good
    by_six two false six good = nothing (not_names two)

    by_two : (b : Bool) → is_to 2 2 d ≡ b
        → Each (IsGood n) (if b then cond e.is_own (requests_made h d
        (names_in d.payload)) [] else if is_to 6 6 d then zones_told h e.port d
        (zones_in d.payload) else [])
        → Answered i p (if b then cond e.is_own (requests_made h d (names_in d.payload)) [] else if is_to 6 6 d then zones_told h e.port d
        (zones_in d.payload) else [])
    by_two true two good = names_answer two e.is_own refl good
    by_two false two good = by_six two (is_to 6 6 d) refl good

    abbrev back : Option Way
    back = way_back h e.port d

    back_goes : Replies i r d.kind back
    back_goes = way_back_goes i ok r h holds d x.spelled.0 e.port port at

    by_four : (b : Bool) → is_to 4 4 d ≡ b
        → Each (IsGood n) (if b then replying back (option_to_list (echo_reply d)) else if is_to 2 2 d then cond e.is_own
        (requests_made h d (names_in d.payload)) [] else if is_to 6 6 d then zones_told h e.port d (zones_in d.payload) else [])
        → Answered i p (if b then replying back (option_to_list (echo_reply d)) else if is_to 2 2 d then cond e.is_own
        (requests_made h d (names_in d.payload)) [] else if is_to 6 6 d then zones_told h e.port d (zones_in d.payload) else [])
    by_four true four good = replied (other_kind 4 4 four refl) back back_goes (option_to_list (echo_reply d)) good
    by_four false four good = by_two (is_to 2 2 d) refl good

    by_three : (b : Bool) → is_to 3 6 d ≡ b
        → Each (IsGood n) (if b then replying back (bytes_of_all (transacted h d (transaction_in d.payload)).0) else served h e d)
        → Answered i p (if b then replying back (bytes_of_all (transacted h d (transaction_in d.payload)).0) else served h e d)
    by_three true three good =
        replied (other_kind 3 6 three refl) back back_goes (bytes_of_all (transacted h d (transaction_in d.payload)).0) good
    by_three false three good = by_four (is_to 4 4 d) refl good

    made_answer : Each (IsGood n) (made_for h e d) → Answered i p (made_for h e d)
    made_answer good = by_three (is_to 3 6 d) refl good

  -- The outputs that are made from a datagram, by how it ended.
  pub ending_answer : (o : Option Ending) → own_end o ≡ ends_at i p → EndsOn i ok p h holds a x o → Each (IsGood n) (handled h o d).0
      → Answered i p (handled h o d).0
  ending_answer None ends on good = nothing (unended i p (sym ends))
  ending_answer (Some e) ends on good =
      let by : Bool → List Output × List Request = λ b. cond b (made_for h e d, requests_after h d) ([], h.requests) in
      subst (λ b. Answered i p (by b).0) (sym x.checks_is)
      (made_answer e ends on.0 on.1 on.2 (subst (λ b. Each (IsGood n) (by b).0) x.checks_is good))
