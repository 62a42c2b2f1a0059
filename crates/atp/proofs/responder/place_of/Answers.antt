use Rattle.std.proofs.Common.{◌≡◌, Option, Some, None, ℕ, List}
use Rattle.std.specs.List.{position}
use Rattle.std.specs.Option.{IfNone, IfSome}
use Rattle.atp.specs.declared.request.Request.{Request}
use Rattle.atp.specs.declared.ask.Peer.{Peer}
use Rattle.atp.specs.Places.{IsPlace}
use Rattle.atp.specs.Responding.{is_of, request_of}
use Rattle.atp.proofs.Lists.{at_place, not_at}
use Rattle.atp.proofs.responder.place_of.Goals as goal

none : (from : Peer) (id : ℕ) (requests : List Request) (r : Option ℕ) → r ≡ position (is_of from id) requests
    → IfNone r (request_of from id requests ≡ None)
none from id requests None e = not_at (is_of from id) requests (cc)
none from id requests (Some i) e = tt

some : (from : Peer) (id : ℕ) (requests : List Request) (r : Option ℕ) → r ≡ position (is_of from id) requests
    → IfSome r (λ place. (x : Request) × IsPlace (is_of from id) place requests x)
some from id requests None e = tt
some from id requests (Some i) e = at_place (is_of from id) requests i (cc)

pub returns : goal.returns
returns c = record {
  none = none c.args.from c.args.id c.args.requests.now c.position_of.result c.position_of.ensures;
  some = some c.args.from c.args.id c.args.requests.now c.position_of.result c.position_of.ensures;
}
