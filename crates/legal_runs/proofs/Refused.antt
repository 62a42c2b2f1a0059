-- Transcripts that aren't legal, not even with losses: each breaks one of the laws.
use Rattle.std.proofs.Common.{List, refl}
use Rattle.audit.specs.Example.{three_cables}
use Rattle.audit.proofs.ExampleWalks.{example_passes}
use Rattle.ddp.specs.Datagram.{datagram}
use Rattle.at_base.specs.Packets.{address, text}
use Rattle.cable_model.specs.Transcript.{Entry}
use Rattle.nbp.specs.Packets.{packet, tuple}
use Rattle.legal_runs.specs.Illegal.{asked_alone, dropped_too, gone, looked_elsewhere, looked_nowhere, many_hops, out_of_hops}
use Rattle.legal_runs.specs.Illegal.{passed_back, passed_from_all, put_from_afar, reached_alone, reached_elsewhere, reached_from_afar}
use Rattle.legal_runs.specs.Illegal.{dropped_on_its_way, dropped_twice, reached_unlisted, same_hops, taken_from_afar}
use Rattle.legal_runs.specs.Illegal.{taken_twice}
use Rattle.legal_runs.specs.Legal.{IsLegal}
use Rattle.legal_runs.specs.LossyRuns.{IsLegalWithLosses}
use Rattle.legal_runs.specs.LookupExample.{blue_request}
use Rattle.legal_runs.specs.Requests.{key_in, request, zone_of}
use Rattle.legal_runs.proofs.Excluded.{lossy_alone, lossy_asked_alone, lossy_dropped_on_its_way, lossy_dropped_too, lossy_dropped_twice}
use Rattle.legal_runs.proofs.Excluded.{lossy_elsewhere, lossy_from_all, lossy_gone, lossy_looked_elsewhere, lossy_looked_nowhere}
use Rattle.legal_runs.proofs.Excluded.{lossy_out_of_hops, lossy_taken_twice, lossy_unlisted, out_of_many_hops, uncarried_from_afar}
use Rattle.legal_runs.proofs.Excluded.{uncarried_hops, unhanded, unput_from_afar, untaken_from_afar}
use Rattle.legal_runs.proofs.LossyLaws.{carried_with_losses, conserved_with_losses, handed_with_losses, hops_with_losses}
use Rattle.legal_runs.proofs.LossyLaws.{legal_with_losses, looked_up_with_losses, taken_with_losses}

-- What isn't legal with losses isn't legal.
pub without : (t : List Entry) → (IsLegalWithLosses three_cables t → ⊥) → IsLegal three_cables t → ⊥
without t never legal = never (legal_with_losses three_cables t legal)

pub not_reached_alone : IsLegalWithLosses three_cables reached_alone → ⊥
not_reached_alone legal = lossy_alone (conserved_with_losses three_cables reached_alone example_passes legal)

pub not_reached_elsewhere : IsLegalWithLosses three_cables reached_elsewhere → ⊥
not_reached_elsewhere legal = lossy_elsewhere (conserved_with_losses three_cables reached_elsewhere example_passes legal)

pub not_dropped_too : IsLegalWithLosses three_cables dropped_too → ⊥
not_dropped_too legal = lossy_dropped_too (conserved_with_losses three_cables dropped_too example_passes legal)

pub not_gone : IsLegalWithLosses three_cables gone → ⊥
not_gone legal = lossy_gone (conserved_with_losses three_cables gone example_passes legal)

pub not_reached_unlisted : IsLegalWithLosses three_cables (reached_unlisted 0) → ⊥
not_reached_unlisted legal = lossy_unlisted 0 refl (conserved_with_losses three_cables (reached_unlisted 0) example_passes legal)

pub not_out_of_hops : IsLegalWithLosses three_cables out_of_hops → ⊥
not_out_of_hops legal = lossy_out_of_hops (conserved_with_losses three_cables out_of_hops example_passes legal)

pub not_dropped_twice : IsLegalWithLosses three_cables dropped_twice → ⊥
not_dropped_twice legal = lossy_dropped_twice (conserved_with_losses three_cables dropped_twice example_passes legal)

pub not_dropped_on_its_way : IsLegalWithLosses three_cables dropped_on_its_way → ⊥
not_dropped_on_its_way legal = lossy_dropped_on_its_way (conserved_with_losses three_cables dropped_on_its_way example_passes legal)

pub not_taken_twice : IsLegalWithLosses three_cables taken_twice → ⊥
not_taken_twice legal = lossy_taken_twice (conserved_with_losses three_cables taken_twice example_passes legal)

pub not_from_all : IsLegalWithLosses three_cables passed_from_all → ⊥
not_from_all legal = lossy_from_all (conserved_with_losses three_cables passed_from_all example_passes legal)

pub not_many_hops : IsLegalWithLosses three_cables many_hops → ⊥
not_many_hops legal = out_of_many_hops (hops_with_losses three_cables many_hops example_passes legal)

pub not_reached_from_afar : IsLegalWithLosses three_cables reached_from_afar → ⊥
not_reached_from_afar legal = uncarried_from_afar (carried_with_losses three_cables reached_from_afar example_passes legal)

pub not_put_from_afar : IsLegalWithLosses three_cables put_from_afar → ⊥
not_put_from_afar legal = unput_from_afar (carried_with_losses three_cables put_from_afar example_passes legal)

pub not_same_hops : IsLegalWithLosses three_cables same_hops → ⊥
not_same_hops legal = uncarried_hops (carried_with_losses three_cables same_hops example_passes legal)

pub not_taken_from_afar : IsLegalWithLosses three_cables taken_from_afar → ⊥
not_taken_from_afar legal = untaken_from_afar (taken_with_losses three_cables taken_from_afar example_passes legal)

pub not_passed_back : IsLegalWithLosses three_cables passed_back → ⊥
not_passed_back legal = unhanded (handed_with_losses three_cables passed_back example_passes legal)

pub not_asked_alone : IsLegalWithLosses three_cables asked_alone → ⊥
unfolding request zone_of datagram packet tuple address text
not_asked_alone legal =
    lossy_asked_alone (looked_up_with_losses three_cables asked_alone example_passes legal (key_in (request blue_request)) refl)

pub not_elsewhere : IsLegalWithLosses three_cables looked_elsewhere → ⊥
unfolding request zone_of datagram packet tuple address text
not_elsewhere legal =
    lossy_looked_elsewhere (looked_up_with_losses three_cables looked_elsewhere example_passes legal (key_in (request blue_request)) refl)

pub not_nowhere : IsLegalWithLosses three_cables looked_nowhere → ⊥
unfolding request zone_of datagram packet tuple address text
not_nowhere legal =
    lossy_looked_nowhere (looked_up_with_losses three_cables looked_nowhere example_passes legal (key_in (request blue_request)) refl)
