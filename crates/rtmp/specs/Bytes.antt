-- The bytes of the routing data that a router sends. (Inside AppleTalk, the chapter on RTMP)
use Rattle.std.specs.Prelude.{ℕ, ◌+◌, List, [], ◌∷◌, ◌++◌}
use Rattle.std.specs.Int.{w16, to_be_bytes}
use Rattle.at_base.specs.declared.address.Addr.{Addr}
use Rattle.rtmp.specs.declared.tuple.Tuple.{Tuple}

-- the bytes before the tuples: the router's network, the length of its node in bits, and its node
abbrev pub head_bytes : Addr → List ℕ
head_bytes me = to_be_bytes w16 me.net ++ 8 ∷ me.node ∷ []

-- the six bytes of an extended tuple
abbrev pub tuple_bytes : Tuple → List ℕ
tuple_bytes t = to_be_bytes w16 t.range.start ++ (128 + t.distance) ∷ to_be_bytes w16 t.range.end ++ 0x82 ∷ []

-- the bytes of tuples, one after the other
abbrev pub tuples_bytes : List Tuple → List ℕ
tuples_bytes [] = []
tuples_bytes (t ∷ ts) = tuple_bytes t ++ tuples_bytes ts
