-- The plain transcript of a transcript that is legal with resolution is legal with losses.
use Rattle.std.proofs.Common.{◌≡◌, ◌+◌, List, [], ◌∷◌, ◌++◌}
use Rattle.std.proofs.Common.{Some, Contains, refl, sym, ap, ◌∙◌, subst, arith}
use Rattle.std.specs.List.{AllByRecursion as Each}
use Rattle.ddp.specs.Bodies.{target}
use Rattle.table_image.specs.Internet.{Internet}
use Rattle.audit.specs.Rules.{Passes}
use Rattle.station.specs.declared.heard.Kind.{Kind}
use Rattle.station.specs.declared.heard.Kind.TheVariants.{Aarp, Ddp}
use Rattle.cable_model.specs.Pending.{Pair, pending}
use Rattle.cable_model.specs.Transcript.{Entry, Put, next_stamp}
use Rattle.cable_model.specs.Transcript.{stamps}
use Rattle.cable_model.proofs.Counting.{contained_at, each-append, each_at}
use Rattle.cable_model.proofs.Stamps.{next_after}
use Rattle.legal_runs.specs.Answers.{Answers, IsMade, IsOwn}
use Rattle.legal_runs.specs.Legs.{Leg, fate}
use Rattle.legal_runs.specs.Losses.{WithLosses}
use Rattle.legal_runs.specs.LossyRuns.{Begins, Continues, IsLegalWithLosses, LossyBlock, Sends, Takes}
use Rattle.legal_runs.specs.Stations.{cable_seats}
use Rattle.legal_runs.proofs.Frames.{Framed}
use Rattle.legal_runs.proofs.Lossy.{lossy_pending, whole_is}
use Rattle.legal_runs.proofs.Runs.{known as known_pair, rising_run}
use Rattle.resolved_runs.specs.Fitting.{SeatsFit}
use Rattle.resolved_runs.specs.Plain.{plain, plain_after, plain_entry}
use Rattle.resolved_runs.specs.Resolved.{resolved_said, resolving}
use Rattle.resolved_runs.specs.ResolvedRuns as resolved
use Rattle.resolved_runs.specs.ResolvedRuns.{IsLegalResolved, ResolvedBlock, resolved_fate, resolved_handled, taking}
use Rattle.resolved_runs.specs.Plain.{plain_took}
use Rattle.resolved_runs.proofs.Elements.{In}
use Rattle.resolved_runs.proofs.Fits.{EntryFits, Fits, FrameFits}
use Rattle.resolved_runs.proofs.Plains.{plain_more, plain_one, took_aarp, took_datagram}
use Rattle.resolved_runs.proofs.Stamped.{frame_is}
use Rattle.resolved_runs.proofs.Standing.{pair_put, pending_in, pending_plain}
use Rattle.resolved_runs.proofs.Steps.{Done, done_then, done_told, one_done}
use Rattle.resolved_runs.proofs.Told.{IsTold}
use Rattle.resolved_runs.proofs.Told.{IsTook, Nothing}
use Rattle.resolved_runs.proofs.Truths.{packet_told}
use Rattle.resolved_runs.proofs.PlainStamps.{lossy_more, plain_next, said_less}
use Rattle.resolved_runs.proofs.ResolvedSaid.{all_ready, fate_done, made_ready, said_done}
use Rattle.resolved_runs.proofs.Resolving.{resolving_done}

module _ (i : Internet) (ok : Passes i) (fit : SeatsFit i) where
  -- What holds after each block.
  pub record Erases (t : List Entry) : Type 0 where
    pub told : IsTold i t
    pub fits : Each EntryFits t
    pub legal : IsLegalWithLosses i (plain i t)

  module _ (t : List Entry) (e : Erases t) where
    grows : (es ps : List Entry) → Done i t es ps → IsLegalWithLosses i (plain i t ++ plain_after i t es) → Erases (t ++ es)
    grows es ps d legal = record {
      told = done_told i t es ps e.told d;
      fits = each-append EntryFits t es e.fits d.fits;
      legal = subst (IsLegalWithLosses i) (sym (plain_more i t es)) legal;
    }

    sends : (l : Leg) → IsMade i l → IsOwn i l → Erases (t ++ resolved_said i t (l ∷ []))
    sends l made own =
        let w = said_done i ok fit t (l ∷ []) e.told (made_ready i ok fit l made, tt) in
        grows (resolved_said i t (l ∷ [])) w.0 w.2
        (Continues (plain i t) (plain_after i t (resolved_said i t (l ∷ []))) e.legal
        (Sends l w.0 (plain_after i t (resolved_said i t (l ∷ []))) made own
        (said_less i (next_stamp (plain i t)) (next_stamp t) (l ∷ []) w.0 (plain_next i t) w.1) w.2.plain_is))

    module _ (p : Pair) (there : Contains (pending (cable_seats i) t) p) where
      pub put : In t (Put p.frame)
      put = (pair_put (cable_seats i) t p (pending_in i (cable_seats i) t p there).0).0

      took_entry : (k : Kind) (ps : List Entry) → p.frame.kind ≡ k
          → plain_took p.frame.stamp p.seat.station (Some p.frame) ≡ ps → stamps ps ≡ 0 → Done i t (taking p ∷ []) ps
      took_entry k ps kind same none =
          one_done i t (taking p) ps (IsTook p there) tt
          (ap (plain_took p.frame.stamp p.seat.station) (frame_is i t p.frame e.told put) ∙ same) (omega (arith, none))

      pub frame_fits : p.frame.kind ≡ Ddp → Fits (target p.frame.bytes)
      frame_fits kind =
          let g : EntryFits (Put p.frame) = each_at EntryFits t put.0 (Put p.frame) put.1 e.fits in
          subst (λ k. FrameFits k p.frame.bytes) kind g

      pub frame_framed : p.frame.kind ≡ Ddp → Framed p.frame.bytes
      frame_framed kind =
          let w = whole_is i (plain i t) e.legal in
          let at = contained_at (pending (cable_seats i) w.entries) p
          (lossy_pending (cable_seats i) w.entries (plain i t) p w.lossy (pending_plain i t p e.told there kind)) in
          (known_pair i ok w.entries p at.0 (rising_run i ok w.entries w.rising) at.1).framed

      takes : (answers : List Leg) → p.frame.kind ≡ Ddp → Each (IsMade i) answers
          → Each (λ (l : Leg). l.station ≡ p.seat.station) answers → Answers i p answers
          → Erases (t ++ taking p ∷ resolved_handled i (t ++ taking p ∷ []) p answers)
      takes answers kind made its ans =
          let first : Done i t (taking p ∷ []) (taking p ∷ []) =
          took_entry Ddp (taking p ∷ []) kind (took_datagram p.frame.stamp p.seat.station p.frame kind) refl in
          let u : List Entry = t ++ taking p ∷ [] in
          let told_u : IsTold i u = done_told i t (taking p ∷ []) (taking p ∷ []) e.told first in
          let xs : List Entry = resolved_fate i u p in
          let ps : List Entry = fate i (next_stamp u) p in
          let d : Done i u xs ps = fate_done i ok fit u p told_u (frame_framed kind) (frame_fits kind) in
          let told_v : IsTold i (u ++ xs) = done_told i u xs ps told_u d in
          let w = said_done i ok fit (u ++ xs) answers told_v (all_ready i ok fit answers made) in
          let both : Done i u (resolved_handled i u p answers) (ps ++ w.0) =
          done_then i u xs ps (resolved_said i (u ++ xs) answers) w.0 d w.2 in
          let all : Done i t (taking p ∷ resolved_handled i u p answers) (taking p ∷ (ps ++ w.0)) =
          done_then i t (taking p ∷ []) (taking p ∷ []) (resolved_handled i u p answers) (ps ++ w.0) first both in
          let n = next_after t (taking p) in
          let low = plain_next i t in
          let far = d.next in
          let plain_took_is : plain_entry i t (taking p) ≡ taking p ∷ [] =
          ap (plain_took p.frame.stamp p.seat.station) (frame_is i t p.frame e.told put)
          ∙ took_datagram p.frame.stamp p.seat.station p.frame kind in
          let plain_u : plain i u ≡ plain i t ++ taking p ∷ [] = plain_one i t (taking p) ∙ ap (λ l. plain i t ++ l) plain_took_is in
          let block : LossyBlock i (plain i t) (taking p ∷ plain_after i u (resolved_handled i u p answers)) =
          Takes p answers (ps ++ w.0) (plain_after i u (resolved_handled i u p answers)) (pending_plain i t p e.told there kind) made its ans
          (record {
            stamp = next_stamp u;
            above = omega (arith, n, low);
            rest = w.0;
            said = said_less i (next_stamp u + stamps ps) (next_stamp (u ++ xs)) answers w.0 far w.1;
            whole = refl;
          })
          (subst (λ x. WithLosses i x (ps ++ w.0) (plain_after i u (resolved_handled i u p answers))) plain_u both.plain_is) in
          grows (taking p ∷ resolved_handled i u p answers) (taking p ∷ (ps ++ w.0)) all
          (subst (λ l. IsLegalWithLosses i (plain i t ++ (l ++ plain_after i u (resolved_handled i u p answers)))) (sym plain_took_is)
          (Continues (plain i t) (taking p ∷ plain_after i u (resolved_handled i u p answers)) e.legal block))

      resolves : p.frame.kind ≡ Aarp → Erases (t ++ taking p ∷ resolving i (t ++ taking p ∷ []) p)
      resolves kind =
          let first : Done i t (taking p ∷ []) [] =
          took_entry Aarp [] kind (took_aarp p.frame.stamp p.seat.station p.frame kind) refl in
          let u : List Entry = t ++ taking p ∷ [] in
          let told_u : IsTold i u = done_told i t (taking p ∷ []) [] e.told first in
          let fits_u : Each EntryFits u = each-append EntryFits t (taking p ∷ []) e.fits (tt, tt) in
          let d = resolving_done i ok fit u p told_u fits_u (packet_told i t p.frame e.told put kind) in
          let all : Done i t (taking p ∷ resolving i u p) [] = done_then i t (taking p ∷ []) [] (resolving i u p) [] first d in
          grows (taking p ∷ resolving i u p) [] all
          (lossy_more i (plain i t) [] (plain_after i t (taking p ∷ resolving i u p)) refl all.plain_is e.legal)

  event : (t block : List Entry) → ResolvedBlock i t block → Erases t → Erases (t ++ block)
  event t block (resolved.Sends l made own) e = sends t e l made own
  event t block (resolved.Takes p answers there kind made its ans) e = takes t e p there answers kind made its ans
  event t block (resolved.Resolves p there kind) e = resolves t e p there kind

  -- The law of erasure, with what is known of each entry.
  pub erases : (t : List Entry) → IsLegalResolved i t → Erases t
  erases t resolved.Begins = record { told = Nothing; fits = tt; legal = Begins }
  erases t (resolved.Continues front block legal b) = event front block b (erases front legal)
