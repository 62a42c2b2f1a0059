-- What is written of a frame is the frame.
use Rattle.std.proofs.Common.{◌≡◌, ◌+◌, ◌++◌, length}
use Rattle.std.specs.Int.{to_be_bytes, w16}
use Rattle.std.proofs.lemmas.List.{append_assoc, append-nil}
use Rattle.at_base.specs.Spelling.{bytes_of}
use Rattle.ethertalk.specs.Frames.{Framed, frame, llc, protocol_of}

pub frame_laid : (f : Framed)
    → (f.to.0 ++ f.from.0) ++ (to_be_bytes w16 (8 + length f.packet) ++ (llc ++ protocol_of f.kind)) ++ f.packet ≡ bytes_of frame f
unfolding frame
frame_laid f = simp (append_assoc, append-nil)
