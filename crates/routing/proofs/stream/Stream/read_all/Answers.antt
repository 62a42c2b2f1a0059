use Rattle.std.proofs.Common.{inr, refl}
use Rattle.routing.proofs.Running.{reads_more, reads_same, run_ended, run_ends}
use Rattle.routing.proofs.stream.Stream.read_all.Goals.{in-Ok+else-count-eq0+in-Ok-take+else-is_done, in-Err+else-ne}
use Rattle.routing.proofs.stream.Stream.read_all.Goals as goal

pub returns-in-Err-take-clause-ran : goal.returns-in-Err-take-clause-ran
returns-in-Err-take-clause-ran g c =
    let t = c.loop-turn.invariant.taken in
    run_ends g.C.Cabled.acts _ _ _ _ _ _ _ t.0 _ c.in-Err-take.error _ _ refl t.2 (c.in-Ok.ensures {u = tt}).bytes.0 (λ stops. stops _ _ t.0 t.1)
    (c.in-Err-take.ensures {u = tt}).refused

pub returns-then-is_done-clause-ran : goal.returns-then-is_done-clause-ran
returns-then-is_done-clause-ran g c =
    let t = c.loop-turn.invariant.taken in
    let s = (c.in-Ok-take.ensures {u = tt}).took _ _ t.0 t.1 in
    inr (inr (run_ended g.C.Cabled.acts _ _ _ _ _ _ _ _ _ _ _ s (reads_more _ _ _ t.0 _ t.2 (c.in-Ok.ensures {u = tt}).bytes.0) s.within))

pub loop-turn-preserved : goal.loop-turn-preserved
loop-turn-preserved g c =
    let t = c.loop-turn.invariant.taken in
    elim c.match-read.branch [
      | in-Ok+else-count-eq0+in-Ok-take+else-is_done w ↦ rw (w.self-is, w.feed-is) (record {
        taken = (_, (w.in-Ok-take.ensures {u = tt}).took _ _ t.0 t.1, reads_more _ _ _ t.0 _ t.2 (w.in-Ok.ensures {u = tt}).bytes.0);
      })
      | in-Err+else-ne w ↦ rw (w.self-is, w.feed-is) (record {
        taken = (t.0, t.1, reads_same _ _ _ t.0 t.2 (w.in-Err.ensures {u = tt}).bytes);
      })
    ]
