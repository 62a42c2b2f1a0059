-- Routing data that a router sends is read back.
use Rattle.std.proofs.Common.{◌≡◌, ℕ, List, Option, Some, None, Result, Ok, Err, refl, sym, ap, ◌∙◌}
use Rattle.std.specs.Prelude.{OnOk}
use Rattle.at_base.specs.Packets.{packets}
use Rattle.at_base.specs.Reading.{value_of}
use Rattle.at_base.specs.Spelling.{Spells}
use Rattle.at_base.proofs.Readers.{begins_read}
use Rattle.rtmp.specs.Data.{RoutingData, routing_data, routing_in}
use Rattle.rtmp.specs.Sending.{IsPacket}
use Rattle.rtmp.proofs.Shape.{data_lawful}
use Rattle.rtmp.proofs.Spelled.{read_back}

-- bytes that spell a packet are that packet
spelled_in : (p : RoutingData) (bytes : List ℕ) → Spells routing_data bytes p → routing_in bytes ≡ Some p
unfolding routing_in
spelled_in p bytes s = ap value_of (begins_read packets routing_data data_lawful bytes p (read_back p bytes s).0)

-- the bytes that are sent are the packet that is sent
pub sent_in : (o : Option RoutingData) (bytes : List ℕ) → IsPacket o (Some bytes) → o ≡ routing_in bytes
sent_in None bytes s = absurd cc
sent_in (Some p) bytes s = sym (spelled_in p bytes s)

-- where no bytes are sent there is no packet
pub none_sent : (o : Option RoutingData) → IsPacket o None → o ≡ None
none_sent None s = refl
none_sent (Some p) s = absurd s

-- where bytes are sent they can be read
pub some_sent : (o : Option RoutingData) (bytes : List ℕ) → IsPacket o (Some bytes) → routing_in bytes ≡ None → ⊥
some_sent None bytes s e = cc
some_sent (Some p) bytes s e = let f : Some p ≡ None = sym (spelled_in p bytes s) ∙ e in cc

-- what follows where a call succeeds
pub on_ok : {A E P Q : Type 0} → (result : Result A E) → OnOk result P → (P → Q) → OnOk result Q
on_ok (Ok value) p follows = follows p
on_ok (Err e) p follows = p
