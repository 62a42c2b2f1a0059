use Rattle.std.proofs.Common.{◌++◌, ◌-◌, ◌∷◌, [], ap₂, length, sym, ◌∙◌}
use Rattle.text.proofs.Going.{on_ok}
use Rattle.playing.proofs.ticking.play_next.Goals as goal

-- The history has one tick more, and its count is the number of entries that were added.
pub returns-in-Ok-clause-lived : goal.returns-in-Ok-clause-lived
returns-in-Ok-clause-lived c =
    on_ok c.note_tick.result c.note_tick.ensures.noted (λ noted had.
    let next = c.in-Ok.ensures.lived had.0 in (
      next.0,
      noted ∙ ap₂ (λ ns n. ns ++ n ∷ []) had.1
          (ap₂ (λ after before. length after - length before) c.transcript.ensures.value c.transcript-before.ensures.value)
          ∙ sym next.1,
    ))
