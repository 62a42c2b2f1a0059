-- A new request waits after it came, and removing it restores the requests before it.
use Rattle.std.proofs.Common.{◌≡◌, ℕ, ◌++◌, ◌↔◌, Bool, true, false, not, eqb, List, [], ◌∷◌, filter}
use Rattle.std.proofs.Common.{Option, Some, None, Result, Ok, Err, is_some, refl, sym, ap, ◌∙◌, arith}
use Rattle.std.specs.List.{find}
use Rattle.std.proofs.lemmas.List.Folds.{find-append}
use Rattle.at_base.proofs.Cases.{by_test}
use Rattle.at_base.specs.declared.error.Error.{Error}
use Rattle.at_base.specs.declared.error.Error.TheVariants.{Full}
use Rattle.atp.specs.declared.ask.AnswerPart.{AnswerPart}
use Rattle.atp.specs.declared.ask.Peer.{Peer}
use Rattle.atp.specs.declared.request.Request.{Request}
use Rattle.atp.specs.declared.request.Todo.{Todo}
use Rattle.atp.specs.declared.request.Todo.TheVariants.{Ask}
use Rattle.atp.specs.Answers.{answer_packets}
use Rattle.atp.specs.Packets.{AtpPacket, is_release, is_request}
use Rattle.atp.specs.Replies.{reply}
use Rattle.atp.specs.Responding.{answered, asked_by, asked_again, has_room, heard, is_of, new_request, request_of, waits, without}

abbrev Requests : Type 0
Requests = List Request

-- the facts about a request that is new
record IsNew (from : Peer) (p : AtpPacket) (rs held : Requests) : Type 0 where
  unknown : request_of from p.id rs ≡ None
  added : held ≡ rs ++ new_request from p ∷ []

is_new : (from : Peer) (p : AtpPacket) (rs held : Requests) → (Ask, held) ≡ heard from p rs → IsNew from p rs held
is_new from p rs held e = of_kind (is_request p.control) refl (is_release p.control) refl
  where
    again : (r : Request) (b : Bool) → is_some r.answer ≡ b → (Ask, held) ≡ asked_again from p.id rs r → ⊥
    again r true f h = (let x = ap (λ (x : Todo × Requests). x.0) (rw f at h) in absurd cc)
    again r false f h = (let x = ap (λ (x : Todo × Requests). x.0) (rw f at h) in absurd cc)

    of_found : (o : Option Request) → request_of from p.id rs ≡ o → is_request p.control ≡ true → IsNew from p rs held
    of_found None f a = record { unknown = f; added = ap (λ (x : Todo × Requests). x.1) (rw (a, f) at e) }
    of_found (Some r) f a = absurd (again r (is_some r.answer) refl (rw (a, f) at e))

    of_kind : (a : Bool) → is_request p.control ≡ a → (b : Bool) → is_release p.control ≡ b → IsNew from p rs held
    of_kind true f b g = of_found (request_of from p.id rs) refl f
    of_kind false f true g = (let x = ap (λ (x : Todo × Requests). x.0) (rw (f, g) at e) in absurd cc)
    of_kind false f false g = (let x = ap (λ (x : Todo × Requests). x.0) (rw (f, g) at e) in absurd cc)

itself : (n : ℕ) → eqb n n ≡ true
itself n = grind arith

of_itself : (from : Peer) (p : AtpPacket) → is_of from p.id (new_request from p) ≡ true
of_itself from p = rw (itself from.addr.net, itself from.addr.node, itself from.socket, itself p.id) refl

is_held : (from : Peer) (p : AtpPacket) (rs held : Requests) → IsNew from p rs held → request_of from p.id held ≡ Some (new_request from p)
is_held from p rs held h =
    let new = h.unknown in
    rw (h.added, find-append (is_of from p.id) rs (new_request from p ∷ []), new, of_itself from p) refl

pub now_waits : (from : Peer) (p : AtpPacket) (rs held : Requests) → (Ask, held) ≡ heard from p rs
    → waits (request_of from p.id held) ≡ true
now_waits from p rs held e = rw (is_held from p rs held (is_new from p rs held e)) refl

pub now_asked : (from : Peer) (p : AtpPacket) (rs held : Requests) → (Ask, held) ≡ heard from p rs
    → asked_by (request_of from p.id held) ≡ p.part
now_asked from p rs held e = rw (is_held from p rs held (is_new from p rs held e)) refl

-- removing a request that no one asked before leaves all other requests
unasked : (q : Request → Bool) (rs : Requests) (r : Request) → find q rs ≡ None → q r ≡ true → filter (λ r. not (q r)) (rs ++ r ∷ []) ≡ rs
unasked q [] r none last = rw last refl
unasked q (a ∷ rs) r none last =
    by_test (q a)
    (λ t. absurd (let e = (rw t at none) in cc))
    (λ t. let e = (rw t at none) in rw t (ap (λ (l : Requests). a ∷ l) (unasked q rs r e last)))

pub as_before : (from : Peer) (p : AtpPacket) (rs held : Requests) → (Ask, held) ≡ heard from p rs → without from p.id held ≡ rs
as_before from p rs held e =
    let h = is_new from p rs held e in
    rw h.added (unasked (is_of from p.id) rs (new_request from p) h.unknown (of_itself from p))

-- a new request that wasn't refused had room
pub room : (from : Peer) (p : AtpPacket) (rs : Requests) (r : Result Todo Error) (todo : Todo) → r ≡ Ok todo → (heard from p rs).0 ≡ Ask
    → (r ≡ Err Full) ↔ (((heard from p rs).0 ≡ Ask) × (has_room p rs ≡ false)) → has_room p rs ≡ true
room from p rs r todo is asks full = either (has_room p rs) refl
  where
    either : (b : Bool) → has_room p rs ≡ b → has_room p rs ≡ true
    either true e = e
    either false e = absurd (let bad : Ok todo ≡ Err Full = sym is ∙ full.1 (asks, e) in cc)

pub reply_new : (from : Peer) (p : AtpPacket) (user : List AnswerPart) (rs held : Requests) → (Ask, held) ≡ heard from p rs
    → has_room p rs ≡ true
    → reply from p user rs ≡ (answer_packets p.id p.part user, answered from p.id user held)
reply_new from p user rs held e room = rw (sym e, room) refl
