-- The parts of a transaction that each step leaves as they are.
use Rattle.std.proofs.Common.{◌≡◌, ℕ, ◌<◌, ◌==◌, ◌+◌, ◌-◌, Bool, true, false, not, ◌&&◌, cond, ltb, None, Some, get_or, set, refl, ap, ◌∙◌}
use Rattle.atp.specs.declared.ask.Ask.{Ask}
use Rattle.atp.specs.declared.transaction.Transaction.{Transaction}
use Rattle.std.proofs.lemmas.Bool.{ltb-true}
use Rattle.at_base.specs.Address.{same_address}
use Rattle.atp.specs.declared.ask.Peer.{Peer}
use Rattle.atp.specs.Packets.{AtpPacket, is_response, is_end, wants_status}
use Rattle.atp.specs.Repeating.{stepped}
use Rattle.atp.specs.Requesting.{ticked, with_part, with_end, with_status, cut, part_of, is_due, is_waiting, is_heard, answers, sent}
use Rattle.atp.specs.declared.repeats.Step.{Step}
use Rattle.atp.specs.declared.repeats.Step.TheVariants as step

-- the ID and the request, which no step changes
abbrev key : Transaction → ℕ × Ask
key t = (t.id, t.ask)

keeps : (b : Bool) (t u v : Transaction) → key t ≡ key v → key u ≡ key v → key (cond b t u) ≡ key v
keeps true t u v a b = a
keeps false t u v a b = b

-- a tick, written as four tests
abbrev fourth : Transaction → Transaction
fourth t = cond (ltb 0 t.tries) (record t { due = true; wait = 0 }) (record t { failed = true; wait = 0 })

abbrev third : Transaction → Transaction
third t = cond (ltb 1 t.wait) (record t { wait = t.wait - 1 }) (fourth t)

abbrev second : Transaction → Transaction
second t = cond t.due t (third t)

ticked_key : (t : Transaction) → key (ticked t) ≡ key t
ticked_key t =
    let d = keeps (ltb 0 t.tries) (record t { due = true; wait = 0 }) (record t { failed = true; wait = 0 }) t refl refl in
    let c = keeps (ltb 1 t.wait) (record t { wait = t.wait - 1 }) (fourth t) t refl d in
    let b = keeps t.due t (third t) t refl c in
    keeps (not (is_waiting t)) t (second t) t refl b

pub ticked_ask : (t : Transaction) → (ticked t).ask ≡ t.ask
ticked_ask t = ap (λ (k : ℕ × Ask). k.1) (ticked_key t)

stepped_key : (s : Step) (t : Transaction) → key (stepped s t) ≡ key t
stepped_key step.Tick t = ticked_key t
stepped_key step.Renew t = keeps (is_due (ticked t)) (sent (ticked t)) (ticked t) t (ticked_key t) (ticked_key t)

pub stepped_id : (s : Step) (t : Transaction) → (stepped s t).id ≡ t.id
stepped_id s t = ap (λ (k : ℕ × Ask). k.0) (stepped_key s t)

pub stepped_ask : (s : Step) (t : Transaction) → (stepped s t).ask ≡ t.ask
stepped_ask s t = ap (λ (k : ℕ × Ask). k.1) (stepped_key s t)

-- the transaction after it accepted a packet
abbrev pub taken : AtpPacket → Transaction → Transaction
taken p t = with_status p (with_end p (with_part p t))

part_key : (p : AtpPacket) (t : Transaction) → key (with_part p t) ≡ key t
part_key p t = keeps (get_or t.missing p.part false)
    (record t { missing = set t.missing p.part false; came = set t.came p.part (Some (part_of p)) }) t t refl refl

end_key : (p : AtpPacket) (t : Transaction) → key (with_end p t) ≡ key t
end_key p t = keeps (is_end p.control)
    (record t { missing = cut false (p.part + 1) t.missing; came = cut None (p.part + 1) t.came }) t t refl refl

status_key : (p : AtpPacket) (t : Transaction) → key (with_status p t) ≡ key t
status_key p t = keeps (wants_status p.control && is_waiting t && ltb 0 t.tries) (record t { due = true }) t t refl refl

pub part_ask : (p : AtpPacket) (t : Transaction) → (with_part p t).ask ≡ t.ask
part_ask p t = ap (λ (k : ℕ × Ask). k.1) (part_key p t)

pub end_ask : (p : AtpPacket) (t : Transaction) → (with_end p t).ask ≡ t.ask
end_ask p t = ap (λ (k : ℕ × Ask). k.1) (end_key p t)

taken_key : (p : AtpPacket) (t : Transaction) → key (taken p t) ≡ key t
taken_key p t = status_key p (with_end p (with_part p t)) ∙ end_key p (with_part p t) ∙ part_key p t

pub taken_id : (p : AtpPacket) (t : Transaction) → (taken p t).id ≡ t.id
taken_id p t = ap (λ (k : ℕ × Ask). k.0) (taken_key p t)

pub taken_ask : (p : AtpPacket) (t : Transaction) → (taken p t).ask ≡ t.ask
taken_ask p t = ap (λ (k : ℕ × Ask). k.1) (taken_key p t)

-- a packet that is accepted has the number of a part that was asked for
pub heard_near : (from : Peer) (p : AtpPacket) (t : Transaction) → is_heard from p t ≡ true → p.part < t.ask.parts
heard_near from p t h =
    let a = both (is_waiting t) (answers from p t) h in
    let b = both (is_response p.control && (p.id == t.id) && same_address from.addr t.ask.to && (from.socket == t.ask.socket))
    (ltb p.part t.ask.parts) a.1 in
    ltb-true _ _ b.1
  where
    both : (a b : Bool) → a && b ≡ true → (a ≡ true) × (b ≡ true)
    both true b h = (refl, h)
    both false b h = absurd cc
