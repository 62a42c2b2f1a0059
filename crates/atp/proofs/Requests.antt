-- Each call of a responder keeps the invariant of its requests.
use Rattle.std.proofs.Common.{Bool, cond, eqb, false, is_some, min, nat_le, not, suc, true, ℕ, ◌%◌, ◌&&◌, ◌*◌, ◌+◌, ◌-◌, ◌<◌, ◌^◌, ◌≡◌, ◌≤◌}
use Rattle.std.proofs.Common.{Err, List, None, Ok, Result, Some, [], ap, arith, filter, length, map, refl, ◌++◌, ◌↔◌, ◌∙◌, ◌∷◌}
use Rattle.std.specs.List.{list_all, list_any, find}
use Rattle.std.specs.Option.{IfSome}
use Rattle.std.specs.Result.{IfOk, OnErr}
use Rattle.std.proofs.lemmas.Bool.{and_parts, or_parts, ltb-true}
use Rattle.std.proofs.lemmas.Bool.Decides.{nat_tests}
use Rattle.std.proofs.Math.Nat.{pow-le-pow_right}
use Rattle.at_base.proofs.Cases.{by_test}
use Rattle.at_base.specs.declared.error.Error.{Error}
use Rattle.at_base.specs.declared.error.Error.TheVariants.{Full}
use Rattle.atp.specs.declared.ask.Peer.{Peer}
use Rattle.atp.specs.declared.ask.AnswerPart.{AnswerPart}
use Rattle.atp.specs.declared.request.Request.{Request}
use Rattle.atp.specs.declared.request.Todo.{Todo}
use Rattle.atp.specs.declared.request.Todo.TheVariants.{Ask}
use Rattle.atp.specs.Answers.{is_answer}
use Rattle.atp.specs.Packets.{AtpPacket, is_exactly_once, release_ticks}
use Rattle.atp.specs.Places.{with_first}
use Rattle.atp.specs.Responding.{IsRequests, are_apart, asked_again, has_room, is_of, is_over, is_sound, may_be_sent, new_request}
use Rattle.atp.specs.Responding.{of_kind, older, repeated, request_of, same_peer, ticked, with_answer, without}

abbrev Requests : Type 0
Requests = List Request

-- the request is of a kind
abbrev kind : Bool → Request → Bool
kind once r = cond once r.once (not r.once)

pub none : IsRequests []
none = record { once = omega arith; other = omega arith; apart = refl; sound = refl }

-- ---- fewer requests

fewer : (k p : Request → Bool) (rs : Requests) → length (filter k (filter p rs)) ≤ length (filter k rs)
fewer k p [] = omega arith
fewer k p (r ∷ rs) =
    let rest = fewer k p rs in
    by_test (p r)
    (λ t. by_test (k r)
    (λ u. rw (t, u) (omega (arith, rest)))
    (λ u. rw (t, u) rest))
    (λ t. by_test (k r)
    (λ u. rw (t, u) (omega (arith, rest)))
    (λ u. rw (t, u) rest))

any_fewer : (q p : Request → Bool) (rs : Requests) → list_any q rs ≡ false → list_any q (filter p rs) ≡ false
any_fewer q p [] h = refl
any_fewer q p (r ∷ rs) h =
    let o = or_parts (q r) (list_any q rs) h in
    let rest = any_fewer q p rs o.1 in
    by_test (p r)
    (λ t. rw (t, o.0, rest) refl)
    (λ t. rw t rest)

not_any : (b : Bool) → not b ≡ true → b ≡ false
not_any true h = absurd cc
not_any false h = refl

apart_fewer : (p : Request → Bool) (rs : Requests) → are_apart rs ≡ true → are_apart (filter p rs) ≡ true
apart_fewer p [] h = refl
apart_fewer p (r ∷ rs) h =
    let a = and_parts (not (list_any (is_of r.from r.id) rs)) (are_apart rs) h in
    let rest = apart_fewer p rs a.1 in
    let none = any_fewer (is_of r.from r.id) p rs (not_any _ a.0) in
    by_test (p r)
    (λ t. rw (t, none, rest) refl)
    (λ t. rw t rest)

all_fewer : (q p : Request → Bool) (rs : Requests) → list_all q rs ≡ true → list_all q (filter p rs) ≡ true
all_fewer q p [] h = refl
all_fewer q p (r ∷ rs) h =
    let a = and_parts (q r) (list_all q rs) h in
    let rest = all_fewer q p rs a.1 in
    by_test (p r)
    (λ t. rw (t, a.0, rest) refl)
    (λ t. rw t rest)

pub filtered : (p : Request → Bool) (rs : Requests) → IsRequests rs → IsRequests (filter p rs)
filtered p rs h =
    let once = h.once in
    let other = h.other in
    record {
      once = omega (arith, once, fewer (kind true) p rs);
      other = omega (arith, other, fewer (kind false) p rs);
      apart = apart_fewer p rs h.apart;
      sound = all_fewer is_sound p rs h.sound;
    }

-- ---- the same requests, later

-- a later state of a request: it has the same asker, ID and kind, and is sound
record Later (r s : Request) : Type 0 where
  from : s.from ≡ r.from
  id : s.id ≡ r.id
  once : s.once ≡ r.once
  sound : is_sound r ≡ true → is_sound s ≡ true

same : (r : Request) → Later r r
same r = record { from = refl; id = refl; once = refl; sound = λ h. h }

abbrev AllLater : Requests → Requests → Type 0
AllLater [] [] = Unit {0}
AllLater [] (s ∷ ss) = ⊥
AllLater (r ∷ rs) [] = ⊥
AllLater (r ∷ rs) (s ∷ ss) = Later r s × AllLater rs ss

all_same : (rs : Requests) → AllLater rs rs
all_same [] = tt
all_same (r ∷ rs) = (same r, all_same rs)

later_kind : (once : Bool) (rs ss : Requests) → AllLater rs ss → of_kind once ss ≡ of_kind once rs
later_kind once [] [] h = refl
later_kind once [] (s ∷ ss) h = absurd h
later_kind once (r ∷ rs) [] h = absurd h
later_kind once (r ∷ rs) (s ∷ ss) h =
    let rest = later_kind once rs ss h.1 in
    let k : kind once s ≡ kind once r = ap (λ (o : Bool). cond once o (not o)) h.0.once in
    by_test (kind once r)
    (λ u. rw (k, u) (ap suc rest))
    (λ u. rw (k, u) rest)

later_any : (from : Peer) (id : ℕ) (rs ss : Requests) → AllLater rs ss → list_any (is_of from id) ss ≡ list_any (is_of from id) rs
later_any from id [] [] h = refl
later_any from id [] (s ∷ ss) h = absurd h
later_any from id (r ∷ rs) [] h = absurd h
later_any from id (r ∷ rs) (s ∷ ss) h = rw (h.0.from, h.0.id, later_any from id rs ss h.1) refl

later_apart : (rs ss : Requests) → AllLater rs ss → are_apart ss ≡ are_apart rs
later_apart [] [] h = refl
later_apart [] (s ∷ ss) h = absurd h
later_apart (r ∷ rs) [] h = absurd h
later_apart (r ∷ rs) (s ∷ ss) h = rw (h.0.from, h.0.id, later_any r.from r.id rs ss h.1, later_apart rs ss h.1) refl

later_sound : (rs ss : Requests) → AllLater rs ss → list_all is_sound rs ≡ true → list_all is_sound ss ≡ true
later_sound [] [] h s = refl
later_sound [] (s ∷ ss) h t = absurd h
later_sound (r ∷ rs) [] h t = absurd h
later_sound (r ∷ rs) (s ∷ ss) h t =
    let a = and_parts (is_sound r) (list_all is_sound rs) t in
    let first : is_sound s ≡ true = h.0.sound a.0 in
    rw (first, later_sound rs ss h.1 a.1) refl

later : (rs ss : Requests) → AllLater rs ss → IsRequests rs → IsRequests ss
later rs ss all h =
    let once = h.once in
    let other = h.other in
    record {
      once = omega (arith, once, later_kind true rs ss all);
      other = omega (arith, other, later_kind false rs ss all);
      apart = later_apart rs ss all ∙ h.apart;
      sound = later_sound rs ss all h.sound;
    }

first_later : (p : Request → Bool) (f : Request → Request) → ((r : Request) → Later r (f r)) → (rs : Requests)
    → AllLater rs (with_first p f rs)
first_later p f each [] = tt
first_later p f each (r ∷ rs) =
    by_test (p r)
    (λ t. rw t (each r, all_same rs))
    (λ t. rw t (same r, first_later p f each rs))

map_later : (f : Request → Request) → ((r : Request) → Later r (f r)) → (rs : Requests) → AllLater rs (map f rs)
map_later f each [] = tt
map_later f each (r ∷ rs) = (each r, map_later f each rs)

-- ---- the effect of a call on a request

le_itself : (n : ℕ) → nat_le n n ≡ true
le_itself n = grind (arith, nat_tests)

le_less : (m n : ℕ) → nat_le m n ≡ true → nat_le (m - 1) n ≡ true
le_less m n h = grind (arith, nat_tests)

-- the three tests of a sound request
sound_parts : (r : Request) → is_sound r ≡ true
    → (nat_le r.release 2400 ≡ true) × (nat_le r.left r.release ≡ true) × (may_be_sent r.answer ≡ true)
sound_parts r h =
    let a = and_parts (nat_le r.release 2400 && nat_le r.left r.release) (may_be_sent r.answer) h in
    let b = and_parts (nat_le r.release 2400) (nat_le r.left r.release) a.0 in
    (b.0, b.1, a.1)

repeat_later : (r : Request) → Later r (repeated r)
repeat_later r = record { from = refl; id = refl; once = refl; sound = sound }
  where
    sound : is_sound r ≡ true → is_sound (repeated r) ≡ true
    sound h = let a = sound_parts r h in rw (a.0, le_itself r.release, a.2) refl

answer_later : (parts : List AnswerPart) → is_answer parts ≡ true → (r : Request) → Later r (with_answer parts r)
answer_later parts short r = record { from = refl; id = refl; once = refl; sound = sound }
  where
    sound : is_sound r ≡ true → is_sound (with_answer parts r) ≡ true
    sound h = let a = sound_parts r h in rw (a.0, le_itself r.release, short) refl

tick_later : (r : Request) → Later r (record r { left = r.left - 1 })
tick_later r = record { from = refl; id = refl; once = refl; sound = sound }
  where
    sound : is_sound r ≡ true → is_sound (record r { left = r.left - 1 }) ≡ true
    sound h = let a = sound_parts r h in rw (a.0, le_less r.left r.release a.1, a.2) refl

older_later : (r : Request) → Later r (older r)
older_later r = by_test (is_some r.answer)
    (λ t. rw t (tick_later r))
    (λ t. rw t (same r))

-- ---- one more request

kind_count : (k : Request → Bool) (rs : Requests) (r : Request) → length (filter k (rs ++ r ∷ [])) ≡ length (filter k rs) + cond (k r) 1 0
kind_count k [] r = by_test (k r)
    (λ t. rw t refl)
    (λ t. rw t refl)
kind_count k (a ∷ rs) r =
    let rest = kind_count k rs r in
    by_test (k a)
    (λ t. rw t (omega (arith, rest)))
    (λ t. rw t rest)

any_more : (q : Request → Bool) (rs : Requests) (r : Request) → list_any q rs ≡ false → q r ≡ false → list_any q (rs ++ r ∷ []) ≡ false
any_more q [] r h last = rw last refl
any_more q (a ∷ rs) r h last = let o = or_parts (q a) (list_any q rs) h in rw (o.0, any_more q rs r o.1 last) refl

all_more : (q : Request → Bool) (rs : Requests) (r : Request) → list_all q rs ≡ true → q r ≡ true → list_all q (rs ++ r ∷ []) ≡ true
all_more q [] r h last = rw last refl
all_more q (a ∷ rs) r h last = let o = and_parts (q a) (list_all q rs) h in rw (o.0, all_more q rs r o.1 last) refl

eqb_comm : (m n : ℕ) → eqb m n ≡ eqb n m
eqb_comm m n = grind arith

peer_comm : (a b : Peer) → same_peer a b ≡ same_peer b a
peer_comm a b = rw (eqb_comm a.addr.net b.addr.net, eqb_comm a.addr.node b.addr.node, eqb_comm a.socket b.socket) refl

of_comm : (a b : Request) → is_of a.from a.id b ≡ is_of b.from b.id a
of_comm a b = rw (peer_comm b.from a.from, eqb_comm b.id a.id) refl

-- if no request is found, none passes
not_found : (q : Request → Bool) (rs : Requests) → find q rs ≡ None → (list_any q rs ≡ false)
not_found q [] h = refl
not_found q (a ∷ rs) h =
    by_test (q a)
    (λ t. absurd (let e = (rw t at h) in cc))
    (λ t. let e = (rw t at h) in rw t (not_found q rs e))

apart_more : (rs : Requests) (r : Request) → are_apart rs ≡ true → list_any (is_of r.from r.id) rs ≡ false → are_apart (rs ++ r ∷ []) ≡ true
apart_more [] r h none = refl
apart_more (a ∷ rs) r h none =
    let p = and_parts (not (list_any (is_of a.from a.id) rs)) (are_apart rs) h in
    let o = or_parts (is_of r.from r.id a) (list_any (is_of r.from r.id) rs) none in
    let last : is_of a.from a.id r ≡ false = of_comm a r ∙ o.0 in
    rw (any_more (is_of a.from a.id) rs r (not_any _ p.0) last, apart_more rs r p.1 o.1) refl

-- the release times are at most 2,400 ticks
ticks_few : (n : ℕ) → n ≤ 4 → 150 * 2 ^ n ≤ 2400
ticks_few n le = let p : 2 ^ n ≤ 2 ^ 4 = pow-le-pow_right (omega arith) le in omega (arith, p)

new_sound : (from : Peer) (p : AtpPacket) → is_sound (new_request from p) ≡ true
new_sound from p =
    let few : release_ticks p.control ≤ 2400 = ticks_few (min 4 (p.control % 8)) (omega arith) in
    let a : nat_le (release_ticks p.control) 2400 ≡ true = le_true _ _ few in
    let b : nat_le 0 (release_ticks p.control) ≡ true = le_true _ _ (omega arith) in
    rw (a, b) refl
  where
    le_true : (m n : ℕ) → m ≤ n → nat_le m n ≡ true
    le_true m n le = grind (arith, nat_tests)

pub appended : (from : Peer) (p : AtpPacket) (rs : Requests) → request_of from p.id rs ≡ None → has_room p rs ≡ true → IsRequests rs
    → IsRequests (rs ++ new_request from p ∷ [])
appended from p rs new room h = record {
  once = of_one true;
  other = of_one false;
  apart = apart_more rs (new_request from p) h.apart (not_found (is_of from p.id) rs new);
  sound = all_more is_sound rs (new_request from p) h.sound (new_sound from p);
}
  where
    few : (once : Bool) → of_kind once rs ≤ 64
    few true = h.once
    few false = h.other

    one_kind : (a b : Bool) → of_kind b rs < 64 → of_kind a rs + cond (cond a b (not b)) 1 0 ≤ 64
    one_kind true true lt = omega (arith, lt)
    one_kind true false lt = omega (arith, few true)
    one_kind false true lt = omega (arith, few false)
    one_kind false false lt = omega (arith, lt)

    of_one : (once : Bool) → of_kind once (rs ++ new_request from p ∷ []) ≤ 64
    of_one once =
        let one = one_kind once (is_exactly_once p.control) (ltb-true _ _ room) in
        let count = kind_count (kind once) rs (new_request from p) in
        omega (arith, one, count)

-- ---- each call keeps the invariant

pub forgotten : (from : Peer) (id : ℕ) (rs : Requests) → IsRequests rs → IsRequests (without from id rs)
forgotten from id rs h = filtered (λ r. not (is_of from id r)) rs h

pub asked_anew : (from : Peer) (id : ℕ) (rs : Requests) (r : Request) → IsRequests rs → IsRequests (asked_again from id rs r).1
asked_anew from id rs r h = by_test (is_some r.answer)
    (λ t. rw t (later rs (with_first (is_of from id) repeated rs) (first_later (is_of from id) repeated repeat_later rs) h))
    (λ t. rw t h)

pub answered : (from : Peer) (id : ℕ) (parts : List AnswerPart) (rs : Requests) → is_answer parts ≡ true → IsRequests rs
    → IsRequests (with_first (is_of from id) (with_answer parts) rs)
answered from id parts rs short h =
    later rs (with_first (is_of from id) (with_answer parts) rs)
    (first_later (is_of from id) (with_answer parts) (answer_later parts short) rs) h

pub passed : (rs : Requests) → IsRequests rs → IsRequests (ticked rs)
passed rs h =
    let left = filter (λ r. not (is_over r)) rs in
    later left (map older left) (map_later older older_later left) (filtered (λ r. not (is_over r)) rs h)

-- a request that came again
pub heard_again : (from : Peer) (id : ℕ) (rs new : Requests) (todo : Todo) (r : Request) → request_of from id rs ≡ Some r
    → IfSome (request_of from id rs) (λ r. (todo, new) ≡ asked_again from id rs r) → IsRequests rs → IsRequests new
heard_again from id rs new todo r found is h =
    let e : (todo, new) ≡ asked_again from id rs r = (rw found at is) in
    let same : new ≡ (asked_again from id rs r).1 = ap (λ (x : Todo × Requests). x.1) e in
    rw same (asked_anew from id rs r h)

-- a new request
pub heard_new : (from : Peer) (p : AtpPacket) (rs new : Requests) (r : Result Todo Error) → request_of from p.id rs ≡ None
    → IfOk r (λ todo. (todo ≡ Ask) × (new ≡ rs ++ new_request from p ∷ [])) → (r ≡ Err Full) ↔ (has_room p rs ≡ false)
    → OnErr r (new ≡ rs) → IsRequests rs → IsRequests new
heard_new from p rs new (Ok todo) none ok full kept h = rw ok.1 (appended from p rs none room h)
  where
    not_full : (b : Bool) → (b ≡ false → ⊥) → b ≡ true
    not_full true never = refl
    not_full false never = absurd (never refl)

    room : has_room p rs ≡ true
    room = not_full (has_room p rs) (λ e. let bad : Ok todo ≡ Err Full = full.1 e in cc)
heard_new from p rs new (Err e) none ok full kept h = rw kept h
