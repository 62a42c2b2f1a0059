-- A kept answer lasts until its release, or until its time is over.
use Rattle.std.proofs.Common.{◌≡◌, ℕ, ◌-◌, ◌==◌, ◌++◌, Bool, true, false, cond, not, eqb, nat_le, nat_lt}
use Rattle.std.proofs.Common.{List, [], ◌∷◌, filter, map, Option, Some, None, is_some, refl, sym, ap, subst, ◌∙◌, arith}
use Rattle.std.specs.List.{find}
use Rattle.std.specs.Option.{option_map}
use Rattle.std.proofs.lemmas.Bool.{and_parts, eqb-true}
use Rattle.std.proofs.lemmas.Bool.Decides.{nat_tests}
use Rattle.std.proofs.lemmas.List.Folds.{find-append}
use Rattle.at_base.proofs.Cases.{by_test}
use Rattle.at_base.specs.Address.{same_address}
use Rattle.atp.specs.declared.ask.AnswerPart.{AnswerPart}
use Rattle.atp.specs.declared.ask.Peer.{Peer}
use Rattle.atp.specs.declared.request.Request.{Request}
use Rattle.atp.specs.declared.request.Todo.TheVariants.{Again}
use Rattle.atp.specs.Keeping.{Event, Heard, Responded, Forgot, Passed, held_after, is_same, lasts, run}
use Rattle.atp.specs.Packets.{AtpPacket, is_release, is_request}
use Rattle.atp.specs.Places.{with_first}
use Rattle.atp.specs.Responding.{answered, asked_again, heard, is_of, is_over, kept, new_request, older, repeated, request_of}
use Rattle.atp.specs.Responding.{same_peer, ticked, waits, with_answer, without}

abbrev Requests : Type 0
Requests = List Request

-- ---- the first request that passes, in changed lists

found_kept : (q p : Request → Bool) (rs : Requests) (x : Request) → find q rs ≡ Some x → p x ≡ true → find q (filter p rs) ≡ Some x
found_kept q p [] x e h = absurd cc
found_kept q p (r ∷ rs) x e h =
    by_test (q r)
    (λ t.
    let f : Some r ≡ Some x = (rw t at e) in
    let same : r ≡ x = cc in
    let u : p r ≡ true = ap p same ∙ h in
    rw u (rw t f))
    (λ t.
    let f = (rw t at e) in
    by_test (p r)
    (λ u. rw u (rw t (found_kept q p rs x f h)))
    (λ u. rw u (found_kept q p rs x f h)))

find_mapped : (q : Request → Bool) (f : Request → Request) → ((r : Request) → q (f r) ≡ q r) → (rs : Requests)
    → find q (map f rs) ≡ option_map f (find q rs)
find_mapped q f h [] = refl
find_mapped q f h (r ∷ rs) =
    by_test (q r)
    (λ t. rw (h r, t) refl)
    (λ t. rw (h r, t) (find_mapped q f h rs))

find_first : (q : Request → Bool) (f : Request → Request) → ((r : Request) → q (f r) ≡ q r) → (rs : Requests)
    → find q (with_first q f rs) ≡ option_map f (find q rs)
find_first q f h [] = refl
find_first q f h (r ∷ rs) =
    by_test (q r)
    (λ t. rw t (rw (h r, t) refl))
    (λ t. rw t (rw t (find_first q f h rs)))

-- another request changes
find_other : (q p : Request → Bool) (f : Request → Request) → ((r : Request) → q (f r) ≡ q r) → ((r : Request) → q r ≡ true → p r ≡ false)
    → (rs : Requests) → find q (with_first p f rs) ≡ find q rs
find_other q p f same other [] = refl
find_other q p f same other (r ∷ rs) =
    by_test (q r)
    (λ t. let u = other r t in rw u (rw t refl))
    (λ t. by_test (p r)
    (λ u. rw u (rw (same r, t) refl))
    (λ u. rw u (rw t (find_other q p f same other rs))))

-- a request that is found passes
is_found : (q : Request → Bool) (rs : Requests) (x : Request) → find q rs ≡ Some x → q x ≡ true
is_found q [] x e = absurd cc
is_found q (r ∷ rs) x e =
    by_test (q r)
    (λ t. let f : Some r ≡ Some x = (rw t at e) in let same : r ≡ x = cc in ap q (sym same) ∙ t)
    (λ t. is_found q rs x (rw t at e))

-- ---- askers and IDs

one_peer : (a b : Peer) → same_peer a b ≡ true → a ≡ b
one_peer a b h =
    let p = and_parts (same_address a.addr b.addr) (a.socket == b.socket) h in
    let q = and_parts (a.addr.net == b.addr.net) (a.addr.node == b.addr.node) p.0 in
    let made : ℕ → ℕ → ℕ → Peer = λ x y z. record { addr = record { net = x; node = y }; socket = z } in
    ap (λ (x : ℕ). made x a.addr.node a.socket) (eqb-true _ _ q.0)
    ∙ ap (λ (y : ℕ). made b.addr.net y a.socket) (eqb-true _ _ q.1)
    ∙ ap (λ (z : ℕ). made b.addr.net b.addr.node z) (eqb-true _ _ p.1)

-- equal askers and IDs are tests for one request
one_request : (from asker : Peer) (id other : ℕ) → is_same from id asker other ≡ true → is_of asker other ≡ is_of from id
one_request from asker id other h =
    let p = and_parts (same_peer asker from) (other == id) h in
    ap (λ (a : Peer). is_of a other) (one_peer asker from p.0) ∙ ap (λ (i : ℕ). is_of from i) (eqb-true _ _ p.1)

itself : (n : ℕ) → eqb n n ≡ true
itself n = grind arith

same_itself : (from : Peer) (id : ℕ) → is_same from id from id ≡ true
same_itself from id = rw (itself from.addr.net, itself from.addr.node, itself from.socket, itself id) refl

-- a request isn't that of a different asker or ID
two_requests : (from asker : Peer) (id other : ℕ) → is_same from id asker other ≡ false → (r : Request) → is_of from id r ≡ true
    → is_of asker other r ≡ false
two_requests from asker id other differs r h = either (is_of asker other r) refl
  where
    either : (b : Bool) → is_of asker other r ≡ b → is_of asker other r ≡ false
    either false e = e
    either true e =
        let p = and_parts (same_peer r.from from) (r.id == id) h in
        let q = and_parts (same_peer r.from asker) (r.id == other) e in
        let peers : asker ≡ from = sym (one_peer r.from asker q.0) ∙ one_peer r.from from p.0 in
        let ids : other ≡ id = sym (eqb-true _ _ q.1) ∙ eqb-true _ _ p.1 in
        let same : is_same from id asker other ≡ true = ap (λ (a : Peer). is_same from id a other) peers
        ∙ ap (λ (i : ℕ). is_same from id from i) ids ∙ same_itself from id in
        absurd (let bad : true ≡ false = sym same ∙ differs in cc)

-- ---- a kept answer

-- the responder holds the request with this answer, its release time and the ticks left
record Held (from : Peer) (id : ℕ) (parts : List AnswerPart) (release left : ℕ) (rs : Requests) : Type 0 where
  request : Request
  found : request_of from id rs ≡ Some request
  answer : request.answer ≡ Some parts
  release_is : request.release ≡ release
  left_is : request.left ≡ left

-- the same request is found in changed requests
same_held : (from : Peer) (id : ℕ) (parts : List AnswerPart) (release left : ℕ) (rs new : Requests)
    → request_of from id new ≡ request_of from id rs
    → Held from id parts release left rs → Held from id parts release left new
same_held from id parts release left rs new e h =
    record { request = h.request; found = e ∙ h.found; answer = h.answer; release_is = h.release_is; left_is = h.left_is }

of_older : (from : Peer) (id : ℕ) (r : Request) → is_of from id (older r) ≡ is_of from id r
of_older from id r = either (is_some r.answer)
  where
    either : (b : Bool) → is_of from id (cond b (record r { left = r.left - 1 }) r) ≡ is_of from id r
    either true = refl
    either false = refl

not_over : (n : ℕ) → nat_lt 1 n ≡ true → nat_le n 1 ≡ false
not_over n h = grind (arith, nat_tests)

-- after a tick
held_passed : (from : Peer) (id : ℕ) (parts : List AnswerPart) (release left : ℕ) (rs : Requests) → nat_lt 1 left ≡ true
    → Held from id parts release left rs → Held from id parts release (left - 1) (ticked rs)
held_passed from id parts release left rs some h =
    record {
      request = record r { left = r.left - 1 };
      found = found;
      answer = answer;
      release_is = h.release_is;
      left_is = ap
          (λ (n : ℕ). n - 1) h.left_is;
    }
  where
    r : Request
    r = h.request

    answer : h.request.answer ≡ Some parts
    answer = h.answer

    stays : not (is_over h.request) ≡ true
    stays = let a = h.answer in let l = h.left_is in let n = not_over left some in rw (a, l, n) refl

    found : request_of from id (ticked rs) ≡ Some (record h.request { left = h.request.left - 1 })
    found =
        let a = h.answer in
        find_mapped (is_of from id) older (of_older from id) (filter (λ r. not (is_over r)) rs)
        ∙ ap (option_map older) (found_kept (is_of from id) (λ r. not (is_over r)) rs h.request h.found stays)
        ∙ rw a refl

-- after another request comes, is answered, or is removed
held_without : (from asker : Peer) (id other : ℕ) (parts : List AnswerPart) (release left : ℕ) (rs : Requests)
    → is_same from id asker other ≡ false
    → Held from id parts release left rs → Held from id parts release left (without asker other rs)
held_without from asker id other parts release left rs differs h =
    let stays : not (is_of asker other h.request)
    ≡ true = ap not (two_requests from asker id other differs h.request (is_found (is_of from id) rs h.request h.found)) in
    same_held from id parts release left rs (without asker other rs)
    (found_kept (is_of from id) (λ r. not (is_of asker other r)) rs h.request h.found stays ∙ sym h.found) h

held_with : (from asker : Peer) (id other : ℕ) (parts : List AnswerPart) (release left : ℕ) (f : Request → Request) (rs : Requests)
    → is_same from id asker other ≡ false
    → ((r : Request) → is_of from id (f r) ≡ is_of from id r) → Held from id parts release left rs
    → Held from id parts release left (with_first (is_of asker other) f rs)
held_with from asker id other parts release left f rs differs same h =
    same_held from id parts release left rs (with_first (is_of asker other) f rs)
    (find_other (is_of from id) (is_of asker other) f same (two_requests from asker id other differs) rs) h

held_heard_other : (from asker : Peer) (id : ℕ) (p : AtpPacket) (parts : List AnswerPart) (release left : ℕ) (rs : Requests)
    → is_same from id asker p.id ≡ false
    → Held from id parts release left rs → Held from id parts release left (heard asker p rs).1
held_heard_other from asker id p parts release left rs differs h = of_kind (is_request p.control) refl (is_release p.control) refl
  where
    again : (r : Request) (b : Bool) → is_some r.answer ≡ b → Held from id parts release left (asked_again asker p.id rs r).1
    again r true e = rw e (held_with from asker id p.id parts release left repeated rs differs (λ r. refl) h)
    again r false e = rw e h

    of_found : (o : Option Request) → request_of asker p.id rs ≡ o → is_request p.control ≡ true
        → Held from id parts release left (heard asker p rs).1
    of_found None e a = rw (a, e) (same_held from id parts release left rs (rs ++ new_request asker p ∷ [])
        (find-append (is_of from id) rs (new_request asker p ∷ []) ∙ (let f = h.found in rw f refl)) h)
    of_found (Some r) e a = rw (a, e) (again r (is_some r.answer) refl)

    of_kind : (a : Bool) → is_request p.control ≡ a → (b : Bool) → is_release p.control ≡ b
        → Held from id parts release left (heard asker p rs).1
    of_kind true e b f = of_found (request_of asker p.id rs) refl e
    of_kind false e true f = rw (e, f) (held_without from asker id p.id parts release left rs differs h)
    of_kind false e false f = rw (e, f) h

held_responded : (from asker : Peer) (id other : ℕ) (parts answer : List AnswerPart) (release left : ℕ) (rs : Requests)
    → Held from id parts release left rs
    → Held from id parts release left (cond (waits (request_of asker other rs)) (answered asker other answer rs) rs)
held_responded from asker id other parts answer release left rs h = of_same (is_same from id asker other) refl
  where
    once : (r : Request) (b : Bool) → r.once ≡ b → is_same from id asker other ≡ false
        → Held from id parts release left (cond r.once (with_first (is_of asker other) (with_answer answer) rs) (without asker other rs))
    once r true e differs = rw e (held_with from asker id other parts release left (with_answer answer) rs differs (λ r. refl) h)
    once r false e differs = rw e (held_without from asker id other parts release left rs differs h)

    of_waiting : (b : Bool) (o : Option Request) → request_of asker other rs ≡ o → is_same from id asker other ≡ false
        → Held from id parts release left (cond b (answered asker other answer rs) rs)
    of_waiting false o e differs = h
    of_waiting true None e differs = rw e h
    of_waiting true (Some r) e differs = rw e (once r r.once refl differs)

    of_same : (b : Bool) → is_same from id asker other ≡ b
        → Held from id parts release left (cond (waits (request_of asker other rs)) (answered asker other answer rs) rs)
    of_same false e = of_waiting (waits (request_of asker other rs)) (request_of asker other rs) refl e
    of_same true e =
        let found : request_of asker other rs
        ≡ Some h.request = ap (λ (q : Request → Bool). find q rs) (one_request from asker id other e) ∙ h.found in
        let a = h.answer in
        let none : waits (request_of asker other rs) ≡ false = rw (found, a) refl in
        rw none h

-- after the request itself comes again
held_again : (from asker : Peer) (id : ℕ) (p : AtpPacket) (parts : List AnswerPart) (release left : ℕ) (rs : Requests)
    → is_same from id asker p.id ≡ true
    → is_request p.control ≡ true → Held from id parts release left rs → Held from id parts release release (heard asker p rs).1
held_again from asker id p parts release left rs same asks h =
    let key = one_request from asker id p.id same in
    let found : request_of asker p.id rs ≡ Some h.request = ap (λ (q : Request → Bool). find q rs) key ∙ h.found in
    let a = h.answer in
    let there : request_of from id (with_first (is_of from id) repeated rs) ≡ Some (repeated h.request) =
    find_first (is_of from id) repeated (λ r. refl) rs ∙ ap (option_map repeated) h.found in
    let now : Held from id parts release release (with_first (is_of from id) repeated rs) =
    record { request = repeated h.request; found = there; answer = h.answer; release_is = h.release_is; left_is = h.release_is } in
    rw (asks, found, a) (subst (λ (q : Request → Bool). Held from id parts release release (with_first q repeated rs)) (sym key) now)

held_heard : (from asker : Peer) (id : ℕ) (p : AtpPacket) (parts : List AnswerPart) (release left : ℕ) (rs : Requests) (events : List Event)
    → lasts from id release left (Heard asker p ∷ events) ≡ true → Held from id parts release left rs
    → (now : ℕ) × Held from id parts release now (heard asker p rs).1 × (lasts from id release now events ≡ true)
held_heard from asker id p parts release left rs events l h = of_same (is_same from id asker p.id) refl (is_request p.control) refl
    (is_release p.control) refl
  where
    of_same : (a : Bool) → is_same from id asker p.id ≡ a → (b : Bool) → is_request p.control ≡ b → (c : Bool) → is_release p.control ≡ c
        → (now : ℕ) × Held from id parts release now (heard asker p rs).1 × (lasts from id release now events ≡ true)
    of_same false e b f c g = (left, held_heard_other from asker id p parts release left rs e h, (rw e at l))
    of_same true e true f c g = (release, held_again from asker id p parts release left rs e f h, (rw (e, f) at l))
    of_same true e false f true g = absurd (let bad = (rw (e, f, g) at l) in cc)
    of_same true e false f false g = (left, rw (f, g) h, (rw (e, f, g) at l))

-- ---- through all events

held_on : (from : Peer) (id : ℕ) (parts : List AnswerPart) (release left : ℕ) (rs : Requests) (events : List Event)
    → lasts from id release left events ≡ true → Held from id parts release left rs
    → (now : ℕ) × Held from id parts release now (run events rs)
held_on from id parts release left rs [] l h = (left, h)
held_on from id parts release left rs (Heard asker p ∷ events) l h =
    let r = held_heard from asker id p parts release left rs events l h in
    held_on from id parts release r.0 (heard asker p rs).1 events r.2 r.1
held_on from id parts release left rs (Responded asker other answer ∷ events) l h =
    held_on from id parts release left (held_after (Responded asker other answer) rs) events l
    (held_responded from asker id other parts answer release left rs h)
held_on from id parts release left rs (Forgot asker other ∷ events) l h =
    let a = and_parts (not (is_same from id asker other)) (lasts from id release left events) l in
    held_on from id parts release left (without asker other rs) events a.1
    (held_without from asker id other parts release left rs (not_true (is_same from id asker other) a.0) h)
  where
    not_true : (b : Bool) → not b ≡ true → b ≡ false
    not_true true e = absurd cc
    not_true false e = refl
held_on from id parts release left rs (Passed ∷ events) l h =
    let a = and_parts (nat_lt 1 left) (lasts from id release (left - 1) events) l in
    held_on from id parts release (left - 1) (ticked rs) events a.1 (held_passed from id parts release left rs a.0 h)

-- an answer that is kept from now on
held_now : (from : Peer) (id : ℕ) (parts : List AnswerPart) (rs : Requests) (r : Request) → request_of from id rs ≡ Some r → r.once ≡ true
    → Held from id parts r.release r.release (answered from id parts rs)
held_now from id parts rs r found once = rw (found, once) (record {
  request = with_answer parts r;
  found = find_first (is_of from id) (with_answer parts) (λ r. refl) rs ∙ ap (option_map (with_answer parts)) found;
  answer = refl;
  release_is = refl;
  left_is = refl;
})

pub still_kept : (from : Peer) (id : ℕ) (parts : List AnswerPart) (rs : Requests) (r : Request) (events : List Event)
    → request_of from id rs ≡ Some r → r.once ≡ true
    → lasts from id r.release r.release events ≡ true → kept (request_of from id (run events (answered from id parts rs))) ≡ Some parts
still_kept from id parts rs r events found once l =
    let h = (held_on from id parts r.release r.release (answered from id parts rs) events l (held_now from id parts rs r found once)).1 in
    let f = h.found in
    rw f h.answer

pub given_again : (from : Peer) (id : ℕ) (rs : Requests) (parts : List AnswerPart) (p : AtpPacket)
    → kept (request_of from id rs) ≡ Some parts
    → p.id ≡ id → is_request p.control ≡ true → (heard from p rs).0 ≡ Again
given_again from id rs parts p h same asks = of_found (request_of from p.id rs) refl
  where
    there : kept (request_of from p.id rs) ≡ Some parts
    there = ap (λ (i : ℕ). kept (request_of from i rs)) same ∙ h

    of_found : (o : Option Request) → request_of from p.id rs ≡ o → (heard from p rs).0 ≡ Again
    of_found None e = absurd (let bad = (rw e at there) in cc)
    of_found (Some r) e = let a : r.answer ≡ Some parts = (rw e at there) in rw (asks, e, a) refl
