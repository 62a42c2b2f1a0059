-- The echo service. (Inside AppleTalk, the chapter on AEP)
use Rattle.std.specs.Prelude.{ℕ, ◌==◌, ◌&&◌, List, [], ◌∷◌, Option, Some, None, if◌then◌else◌}
use Rattle.ddp.specs.Datagram.{Datagram}

-- the data of the reply to data that begins with 1, the byte of a request: it begins with 2 instead, and the rest is
-- unchanged
abbrev pub answered : List ℕ → Option (List ℕ)
answered [] = None
answered (b ∷ rest) = if b == 1 then Some (2 ∷ rest) else None

-- the data of the reply to an echo request, which has type 4 and socket 4; other datagrams have none
abbrev pub echo_reply : Datagram → Option (List ℕ)
echo_reply d = if d.kind == 4 && d.target_socket == 4 then answered d.payload else None
