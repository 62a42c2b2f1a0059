-- The packets that a responder sends in reply to a packet, where the user's answer is known already. (Inside AppleTalk,
-- the chapter on ATP; that a request is dropped where there is no room for it is this project's own)
use Rattle.std.specs.Prelude.{Bool, true, false, List, [], if◌then◌else◌}
use Rattle.atp.specs.declared.ask.AnswerPart.{AnswerPart}
use Rattle.atp.specs.declared.ask.Peer.{Peer}
use Rattle.atp.specs.declared.request.Request.{Request}
use Rattle.atp.specs.declared.request.Todo.{Todo}
use Rattle.atp.specs.declared.request.Todo.TheVariants.{Ask, Again, Wait, Nothing}
use Rattle.atp.specs.Answers.{answer_packets}
use Rattle.atp.specs.Packets.{AtpPacket, is_request}
use Rattle.atp.specs.Responding.{answered, has_room, heard, kept, parts_or_none, request_of}

-- the parts of the kept answer that a packet asks for: none unless the packet is a request whose answer is kept
abbrev pub kept_packets : Peer → AtpPacket → List Request → List AtpPacket
kept_packets from p requests =
    if is_request p.control then answer_packets p.id p.part (parts_or_none (kept (request_of from p.id requests))) else []

-- The packets that are sent and the requests held then, by the action for the packet: a new request is answered with
-- the user's parts, or dropped if the responder has no room for it; a repeated one is answered with the kept answer;
-- other packets get no reply.
abbrev pub done : Peer → AtpPacket → List AnswerPart → List Request → Todo × List Request → List AtpPacket × List Request
done from p user requests (Ask, held) =
    if has_room p requests then (answer_packets p.id p.part user, answered from p.id user held) else ([], requests)
done from p user requests (Again, held) = (kept_packets from p requests, held)
done from p user requests (Wait, held) = ([], held)
done from p user requests (Nothing, held) = ([], held)

-- The packet is answered: it is a new request for which the responder has room, or it repeats a request whose answer is
-- kept.
abbrev pub is_answered : Peer → AtpPacket → List Request → Bool
is_answered from p requests = by (heard from p requests).0
  where
    by : Todo → Bool
    by Ask = has_room p requests
    by Again = true
    by Wait = false
    by Nothing = false

-- the packets that a responder with these requests sends in reply to a packet, and the requests that it holds then
abbrev pub reply : Peer → AtpPacket → List AnswerPart → List Request → List AtpPacket × List Request
reply from p user requests = done from p user requests (heard from p requests)
