-- Transcripts that break the laws.
use Rattle.std.proofs.Common.{◌≡◌, ◌≤◌, ◌∙◌, ℕ, List, [], ◌∷◌, Option, length, None, Some, false, refl, sym, arith, true≢false}
use Rattle.audit.specs.Example.{addr, hardware, three_cables}
use Rattle.table_image.specs.Internet.{Internet}
use Rattle.audit.specs.Routing.{Here, On}
use Rattle.ddp.specs.Datagram.{datagram}
use Rattle.at_base.specs.Packets.{address, text}
use Rattle.nbp.specs.Packets.{packet, tuple}
use Rattle.legal_runs.specs.Carriage.{AreByHand, AreCarried, AreTakenThere, IsChain, none_yet}
use Rattle.legal_runs.specs.Counts.{HasHopsLeft, IsConserved, reached}
use Rattle.legal_runs.specs.Example.{echo_request}
use Rattle.legal_runs.specs.Illegal.{asked_alone, dropped_too, gone, looked_elsewhere, looked_nowhere, many_hops, out_of_hops}
use Rattle.legal_runs.specs.Illegal.{passed_back, passed_from_all, put_from_afar, reached_alone, reached_elsewhere, reached_from_afar}
use Rattle.legal_runs.specs.Illegal.{dropped_on_its_way, dropped_twice, reached_unlisted, same_hops, taken_from_afar}
use Rattle.legal_runs.specs.Illegal.{taken_twice, taken_unput, to_all, to_unlisted}
use Rattle.legal_runs.specs.Illegal.{forward_elsewhere}
use Rattle.legal_runs.specs.IllegalLosses.{forward_lost_elsewhere}
use Rattle.legal_runs.specs.LookupExample.{blue_request}
use Rattle.legal_runs.specs.Lookups.{IsLookedUp}
use Rattle.legal_runs.specs.LossCounts.{IsConservedWithLosses, IsLookedUpWithLosses}
use Rattle.legal_runs.specs.Requests.{key_in, request, zone_of}
use Rattle.legal_runs.proofs.ByHand.{frame, not_zero, one_two, one_zero, pair, too_many, zero_one}

-- ---- Conservation, without losses and with them

pub plain_alone : IsConserved three_cables reached_alone → ⊥
plain_alone law = zero_one (law.listed (echo_request 0) 2 refl).counted

pub plain_elsewhere : IsConserved three_cables reached_elsewhere → ⊥
plain_elsewhere law = one_zero ((law.listed (echo_request 0) 2 refl).elsewhere 1 one_two)

pub plain_dropped_too : IsConserved three_cables dropped_too → ⊥
plain_dropped_too law = one_zero (law.listed (echo_request 0) 2 refl).kept

pub plain_gone : IsConserved three_cables gone → ⊥
plain_gone law = one_zero (law.unlisted to_unlisted refl (not_zero 50 (omega arith))).counted

pub plain_unlisted : (c : ℕ) → reached to_unlisted c (reached_unlisted c) ≡ 1 → IsConserved three_cables (reached_unlisted c) → ⊥
plain_unlisted c once law = one_zero (sym once ∙ (law.unlisted to_unlisted refl (not_zero 50 (omega arith))).nowhere c)

pub plain_out_of_hops : IsConserved three_cables out_of_hops → ⊥
plain_out_of_hops law = one_zero law.no_hop_limit

pub plain_dropped_twice : IsConserved three_cables dropped_twice → ⊥
plain_dropped_twice law = one_two (law.unlisted to_unlisted refl (not_zero 50 (omega arith))).counted

pub plain_dropped_on_its_way : IsConserved three_cables dropped_on_its_way → ⊥
plain_dropped_on_its_way law = one_two (law.unlisted to_unlisted refl (not_zero 50 (omega arith))).counted

pub plain_taken_twice : IsConserved three_cables taken_twice → ⊥
plain_taken_twice law = one_two (law.listed (echo_request 0) 2 refl).counted

pub plain_from_all : IsConserved three_cables passed_from_all → ⊥
plain_from_all law = one_two (law.listed (to_all 0) 0 refl).counted

pub lossy_alone : IsConservedWithLosses three_cables reached_alone → ⊥
lossy_alone law = zero_one (law.listed (echo_request 0) 2 refl).counted

pub lossy_elsewhere : IsConservedWithLosses three_cables reached_elsewhere → ⊥
lossy_elsewhere law = one_zero ((law.listed (echo_request 0) 2 refl).elsewhere 1 one_two)

pub lossy_dropped_too : IsConservedWithLosses three_cables dropped_too → ⊥
lossy_dropped_too law = one_zero (law.listed (echo_request 0) 2 refl).kept

pub lossy_gone : IsConservedWithLosses three_cables gone → ⊥
lossy_gone law = one_zero (law.unlisted to_unlisted refl (not_zero 50 (omega arith))).counted

pub lossy_unlisted : (c : ℕ) → reached to_unlisted c (reached_unlisted c) ≡ 1 → IsConservedWithLosses three_cables (reached_unlisted c)
    → ⊥
lossy_unlisted c once law = one_zero (sym once ∙ (law.unlisted to_unlisted refl (not_zero 50 (omega arith))).nowhere c)

pub lossy_out_of_hops : IsConservedWithLosses three_cables out_of_hops → ⊥
lossy_out_of_hops law = one_zero law.no_hop_limit

pub lossy_dropped_twice : IsConservedWithLosses three_cables dropped_twice → ⊥
lossy_dropped_twice law = one_two (law.unlisted to_unlisted refl (not_zero 50 (omega arith))).counted

pub lossy_dropped_on_its_way : IsConservedWithLosses three_cables dropped_on_its_way → ⊥
lossy_dropped_on_its_way law = one_two (law.unlisted to_unlisted refl (not_zero 50 (omega arith))).counted

pub lossy_taken_twice : IsConservedWithLosses three_cables taken_twice → ⊥
lossy_taken_twice law = one_two (law.listed (echo_request 0) 2 refl).counted

pub lossy_from_all : IsConservedWithLosses three_cables passed_from_all → ⊥
lossy_from_all law = one_two (law.listed (to_all 0) 0 refl).counted

-- ---- Hops left, carriage

pub out_of_many_hops : HasHopsLeft three_cables many_hops → ⊥
out_of_many_hops law =
    too_many (law (pair (frame 0 0 2 (hardware 1) (echo_request 56)) 0 0 1 None) 2 (0, omega arith, refl) refl refl)

pub uncarried_from_afar : AreCarried three_cables none_yet reached_from_afar → ⊥
uncarried_from_afar law = on_here law.1.1.1.0.0
  where
    on_here : On 1 1 (addr 20 2) ≡ Here 2 → ⊥
    on_here e = cc

pub unput_from_afar : AreCarried three_cables none_yet put_from_afar → ⊥
unput_from_afar law = true≢false (sym law.1.0.0)

pub uncarried_hops : AreCarried three_cables none_yet same_hops → ⊥
uncarried_hops law = zero_one law.1.1.1.0.1

pub at_most_fifteen : (i : Internet) (n cable : ℕ) (chain : List ℕ) → IsChain i n cable chain → length chain ≤ 15
at_most_fifteen i n cable [] none = omega arith
at_most_fifteen i n cable (r ∷ rest) walk = walk.1

pub untaken_from_afar : AreTakenThere three_cables [] taken_from_afar → ⊥
untaken_from_afar law = true≢false (sym law.0)

pub untaken_unput : AreTakenThere three_cables [] taken_unput → ⊥
untaken_unput law = law.0

pub unhanded : AreByHand three_cables false passed_back → ⊥
unhanded law = other law.1.0
  where
    other : ◌≡◌ {A = Option ℕ} (Some 1) (Some 0) → ⊥
    other e = cc

-- ---- Lookups, without losses and with them

pub plain_asked_alone : IsLookedUp three_cables asked_alone (key_in (request blue_request)) → ⊥
unfolding request zone_of datagram packet tuple address text
plain_asked_alone law = one_zero law.asked_is

pub plain_looked_elsewhere : IsLookedUp three_cables looked_elsewhere (key_in (request blue_request)) → ⊥
unfolding request zone_of datagram packet tuple address text
plain_looked_elsewhere law = one_zero (law.others 0 refl)

pub plain_forward_elsewhere : IsLookedUp three_cables forward_elsewhere (key_in (request blue_request)) → ⊥
unfolding request zone_of datagram packet tuple address text
plain_forward_elsewhere law = one_zero (law.others 0 refl)

pub plain_looked_nowhere : IsLookedUp three_cables looked_nowhere (key_in (request blue_request)) → ⊥
unfolding request zone_of datagram packet tuple address text
plain_looked_nowhere law = zero_one (law.listed 1 refl)

pub lossy_asked_alone : IsLookedUpWithLosses three_cables asked_alone (key_in (request blue_request)) → ⊥
unfolding request zone_of datagram packet tuple address text
lossy_asked_alone law = one_zero law.asked_is

pub lossy_looked_elsewhere : IsLookedUpWithLosses three_cables looked_elsewhere (key_in (request blue_request)) → ⊥
unfolding request zone_of datagram packet tuple address text
lossy_looked_elsewhere law = one_zero (law.others 0 refl)

pub lossy_forward_elsewhere : IsLookedUpWithLosses three_cables forward_elsewhere (key_in (request blue_request)) → ⊥
unfolding request zone_of datagram packet tuple address text
lossy_forward_elsewhere law = one_zero (law.others 0 refl)

pub lossy_forward_lost_elsewhere : IsLookedUpWithLosses three_cables forward_lost_elsewhere (key_in (request blue_request)) → ⊥
unfolding request zone_of datagram packet tuple address text
lossy_forward_lost_elsewhere law = one_zero (law.others 0 refl)

pub lossy_looked_nowhere : IsLookedUpWithLosses three_cables looked_nowhere (key_in (request blue_request)) → ⊥
unfolding request zone_of datagram packet tuple address text
lossy_looked_nowhere law = zero_one (law.listed 1 refl)
