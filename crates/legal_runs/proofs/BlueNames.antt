-- The request for names over three cables is legal, block by block.
use Rattle.std.proofs.Common.{ℕ, inl, inr, false, [], ◌∷◌, Some, None, refl, sym, arith, take, drop, codes}
use Rattle.at_base.specs.declared.address.Addr.{Addr}
use Rattle.ddp.specs.declared.header.Header.{Header}
use Rattle.ddp.specs.Datagram.{datagram, unsummed}
use Rattle.ddp.proofs.Shape.{bytes_laid}
use Rattle.at_base.specs.Packets.{address, text}
use Rattle.nbp.specs.Packets.{packet, tuple}
use Rattle.audit.specs.Example.{addr, hardware, three_cables}
use Rattle.cable_model.specs.Transcript.{Took}
use Rattle.legal_runs.proofs.ByHand.{fitting, frame, is_body, not_zero, pair}
use Rattle.legal_runs.specs.Answers.{ByRouter, Expanded, IsBody, IsMade, LookedUp, Others, ToThese}
use Rattle.legal_runs.specs.Legal.{IsLegal, Begins, Continues, Sends, Takes}
use Rattle.legal_runs.specs.Legs.{Leg}
use Rattle.at_base.specs.Multicast.{group_hw, group_of}
use Rattle.legal_runs.specs.LookupExample.{blue, blue_forward, blue_lookup, blue_names, blue_request, lab_reply}
use Rattle.legal_runs.specs.Requests.{request, zone_of}
use Rattle.station.specs.declared.output.Next.TheVariants as next

-- ---- The datagrams

abbrev header_of : Addr → Addr → ℕ → Header
header_of target source from =
    record { summed = false; target = target; source = source; target_socket = 2; source_socket = from; kind = 2 }

request_is_body : IsBody blue_request
request_is_body =
    let h = header_of (addr 10 1) (addr 10 7) 253 in
    is_body h (blue 17) blue_request
    (fitting h (omega arith) (omega arith) (omega arith) (omega arith) (omega arith) (omega arith) (omega arith)) (omega arith)
    (sym (bytes_laid (unsummed h (blue 17)))) refl

second_is_body : IsBody (blue_lookup 20)
second_is_body =
    let h = header_of (addr 0 255) (addr 20 1) 2 in
    is_body h (blue 33) (blue_lookup 20)
    (fitting h (omega arith) (omega arith) (omega arith) (omega arith) (omega arith) (omega arith) (omega arith)) (omega arith)
    (sym (bytes_laid (unsummed h (blue 33)))) refl

third_is_body : IsBody (blue_lookup 30)
third_is_body =
    let h = header_of (addr 0 255) (addr 30 1) 2 in
    is_body h (blue 33) (blue_lookup 30)
    (fitting h (omega arith) (omega arith) (omega arith) (omega arith) (omega arith) (omega arith) (omega arith)) (omega arith)
    (sym (bytes_laid (unsummed h (blue 33)))) refl

forward_is_body : IsBody blue_forward
forward_is_body =
    let h = header_of (addr 30 0) (addr 20 1) 2 in
    is_body h (blue 65) blue_forward
    (fitting h (omega arith) (omega arith) (omega arith) (omega arith) (omega arith) (omega arith) (omega arith)) (omega arith)
    (sym (bytes_laid (unsummed h (blue 65)))) refl

reply_is_body : IsBody (lab_reply 0)
reply_is_body =
    let h : Header =
    record { summed = false; target = addr 10 7; source = addr 30 5; target_socket = 253; source_socket = 2; kind = 2 } in
    let payload = drop 13 (lab_reply 0) in
    is_body h payload (lab_reply 0) (fitting h (omega arith) (omega arith) (omega arith) (omega arith) (omega arith) (omega arith)
    (omega arith)) (omega arith) (sym (bytes_laid (unsummed h payload))) refl

-- ---- The legs

abbrev request_leg : Leg
request_leg = record { station = 2; cable = 0; next = next.Station (addr 10 1); body = blue_request; hops = 0 }

abbrev second_leg : Leg
second_leg = record { station = 0; cable = 1; next = next.Group (group_of (codes "blue")); body = blue_lookup 20; hops = 0 }

abbrev forward_leg : Leg
forward_leg = record { station = 0; cable = 1; next = next.Station (addr 20 2); body = blue_forward; hops = 0 }

abbrev third_leg : Leg
third_leg = record { station = 1; cable = 2; next = next.Group (group_of (codes "blue")); body = blue_lookup 30; hops = 0 }

abbrev reply_leg : Leg
reply_leg = record { station = 3; cable = 2; next = next.Station (addr 30 1); body = lab_reply 0; hops = 0 }

request_is_made : IsMade three_cables request_leg
request_is_made =
    record { seated = refl; whole = request_is_body; fresh = refl; goes = ByRouter (addr 10 1) 0 refl refl (not_zero 10 (omega arith)) }

second_is_made : IsMade three_cables second_leg
second_is_made =
    record { seated = refl; whole = second_is_body; fresh = refl; goes = ToThese (group_of (codes "blue")) (omega arith) refl refl refl }

forward_is_made : IsMade three_cables forward_leg
forward_is_made =
    record { seated = refl; whole = forward_is_body; fresh = refl; goes = ByRouter (addr 20 2) 1 refl refl (not_zero 30 (omega arith)) }

third_is_made : IsMade three_cables third_leg
third_is_made =
    record { seated = refl; whole = third_is_body; fresh = refl; goes = ToThese (group_of (codes "blue")) (omega arith) refl refl refl }

reply_is_made : IsMade three_cables reply_leg
reply_is_made =
    record { seated = refl; whole = reply_is_body; fresh = refl; goes = ByRouter (addr 30 1) 1 refl refl (not_zero 10 (omega arith)) }

-- ---- The blocks

asked : IsLegal three_cables (take 3 blue_names)
unfolding request datagram packet tuple address text
asked =
    Continues [] (take 3 blue_names) Begins
    (Sends request_leg request_is_made (record {
      by_node = refl;
      handed = inr (addr 10 1, 0, refl, refl);
    }))

pub expanded : IsLegal three_cables (take 8 blue_names)
unfolding request zone_of datagram packet tuple address text
expanded =
    Continues (take 3 blue_names) (take 5 (drop 3 blue_names)) asked
    (Takes (pair (frame 0 0 2 (hardware 1) blue_request) 0 0 1 None) (second_leg ∷ forward_leg ∷ []) (0, omega arith, refl)
    (second_is_made, (forward_is_made, tt)) (refl, (refl, tt))
    (Expanded refl (
      inl (record { here = refl; by = refl; kind = refl; key = refl; next = refl }),
      (
        inr (record {
          kind = refl;
          key = refl;
          to = refl;
          node = refl;
          router = 1;
          address = addr 20 2;
          handed = refl;
          next = refl;
        }),
        tt,
      ),
    )))

looked : IsLegal three_cables (take 12 blue_names)
unfolding request zone_of datagram packet tuple address text
looked =
    Continues (take 8 blue_names) (take 4 (drop 8 blue_names)) expanded
    (Takes (pair (frame 2 1 0 (hardware 3) blue_forward) 1 0 3 None) (third_leg ∷ []) (0, omega arith, refl) (third_is_made, tt)
    (refl, tt)
    (LookedUp 2 third_leg refl refl refl (record { here = refl; by = refl; kind = refl; key = refl; next = refl })))

answered : IsLegal three_cables (take 15 blue_names)
unfolding request zone_of datagram packet tuple address text
answered =
    Continues (take 12 blue_names) (take 3 (drop 12 blue_names)) looked
    (Takes (pair (frame 3 2 1 (group_hw 118) (blue_lookup 30)) 3 0 6 (Some 118)) (reply_leg ∷ []) (0, omega arith, refl)
    (reply_is_made, tt) (refl, tt) (Others refl refl (refl, tt)))

passed_back : IsLegal three_cables (take 17 blue_names)
unfolding request zone_of datagram packet tuple address text
passed_back =
    Continues (take 15 blue_names) (take 2 (drop 15 blue_names)) answered
    (Takes (pair (frame 4 2 3 (hardware 4) (lab_reply 0)) 1 1 4 None) [] (0, omega arith, refl) tt tt (Others refl refl tt))

come_back : IsLegal three_cables (take 20 blue_names)
unfolding request zone_of datagram packet tuple address text
come_back =
    Continues (take 17 blue_names) (take 3 (drop 17 blue_names)) passed_back
    (Takes (pair (frame 5 1 1 (hardware 2) (lab_reply 4)) 0 1 2 None) [] (0, omega arith, refl) tt tt (Others refl refl tt))

pub names_are_legal : IsLegal three_cables blue_names
unfolding request zone_of datagram packet tuple address text
names_are_legal =
    Continues (take 20 blue_names) (Took 6 2 ∷ []) come_back
    (Takes (pair (frame 6 0 0 (hardware 5) (lab_reply 8)) 2 0 5 (Some (group_of (codes "Red")))) [] (0, omega arith, refl) tt tt
    (Others refl refl tt))
