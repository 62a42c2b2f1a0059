-- Datagrams, pairs and counts of the examples.
use Rattle.std.proofs.Common.{◌≡◌, ◌≢◌, ◌<◌, ◌≤◌, ℕ, IsTrue, List, Option, inl, length, nat_lt, refl, arith}
use Rattle.std.specs.List.{list_all}
use Rattle.at_base.specs.Spelling.{bytes_of}
use Rattle.at_base.specs.declared.address.Hw.{Hw}
use Rattle.ddp.specs.declared.header.Header.{Header}
use Rattle.ddp.specs.Datagram.{datagram, unsummed}
use Rattle.ddp.proofs.Written.{Fitting, unsummed_value}
use Rattle.audit.specs.Example.{hardware}
use Rattle.station.specs.declared.heard.Kind.TheVariants.{Ddp}
use Rattle.cable_model.specs.Pending.{Pair}
use Rattle.cable_model.specs.Transcript.{Frame}
use Rattle.legal_runs.specs.Answers.{IsBody}

-- A number above 0 isn't 0.
pub not_zero : (n : ℕ) → 1 ≤ n → n ≢ 0
not_zero n low = λ z. absurd (omega (arith, low, z))

-- Counts that differ.
pub zero_one : ◌≡◌ {A = ℕ} 0 1 → ⊥
zero_one e = cc

pub one_zero : ◌≡◌ {A = ℕ} 1 0 → ⊥
one_zero e = cc

pub one_two : ◌≡◌ {A = ℕ} 1 2 → ⊥
one_two e = cc

pub two_one : ◌≡◌ {A = ℕ} 2 1 → ⊥
two_one e = cc

-- More hops than a datagram has.
pub too_many : 15 ≤ 14 → ⊥
too_many e = absurd (omega (arith, e))

-- A header whose numbers are all below 256 fits its fields.
pub fitting : (h : Header) → h.target.net < 256 → h.target.node < 256 → h.source.net < 256 → h.source.node < 256
    → h.target_socket < 256 → h.source_socket < 256 → h.kind < 256 → Fitting h
fitting h a b c d e f g = record {
  target_net = omega (arith, a);
  source_net = omega (arith, c);
  target_node = b;
  source_node = d;
  target_socket = e;
  source_socket = f;
  kind = g;
}

-- Bytes that are those of a header and data are a body.
pub is_body : (h : Header) (payload bytes : List ℕ) → Fitting h → length payload ≤ 586 → bytes ≡ bytes_of datagram (unsummed h payload)
    → IsTrue (list_all (λ b. nat_lt b 256) bytes) → IsBody bytes
is_body h payload bytes fits few same each =
    record { value = unsummed h payload; spelled = (unsummed_value h payload fits few, same); each = each; fresh = refl; sum = inl refl }

-- A frame with a datagram.
abbrev pub frame : ℕ → ℕ → ℕ → Hw → List ℕ → Frame
frame stamp cable sender to bytes =
    record { stamp = stamp; cable = cable; sender = sender; to = to; kind = Ddp; bytes = bytes }

-- A frame and the station that hears it, at this port and at the hardware address that ends in this byte.
abbrev pub pair : Frame → ℕ → ℕ → ℕ → Option ℕ → Pair
pair f station port byte group =
    record { frame = f; seat = record { cable = f.cable; station = station; port = port; hw = hardware byte; group = group } }
