use Rattle.std.proofs.Common.{◌≡◌, List, ℕ, ap, ◌∙◌}
use Rattle.std.proofs.lemmas.Result.{on_err_weaker, on_ok_weaker}
use Rattle.cable_model.specs.Logs.{entry_at}
use Rattle.cable_model.specs.Transcript.{Entry}
use Rattle.trace_lines.specs.Lines.{Printed, with_cable}
use Rattle.trace_lines.specs.Stations.{Addresses}
use Rattle.trace_lines.proofs.lines.Lines.append.Goals as goal

abbrev printed : Addresses → List ℕ → Printed
printed i cables = record { addresses = i; cables = cables }

-- The printer after an entry.
more : (p : Printed) (i : Addresses) (old new : List ℕ) (e : Entry) → printed i old ≡ p → new ≡ with_cable old e
    → printed i new ≡ printed p.addresses (with_cable p.cables e)
more p i old new e now grown =
    ap (printed i) grown ∙ ap (λ (q : Printed). printed q.addresses (with_cable q.cables e)) now

-- The printer after no cable was added.
same : (p : Printed) (i : Addresses) (old new : List ℕ) → printed i old ≡ p → new ≡ old → printed i new ≡ p
same p i old new now stayed = ap (printed i) stayed ∙ now

pub returns-clause-further : goal.returns-clause-further
returns-clause-further c =
    on_ok_weaker c.note_cable.result
    (λ noted kept.
    more c.args.self.now c.self.inside.stations c.self.inside.cables.items c.note_cable.new.cables.items
    (entry_at kept c.args.entry.now) c.self.view_is (noted kept))
    c.note_cable.ensures.ok

pub returns-clause-stays : goal.returns-clause-stays
returns-clause-stays c =
    on_err_weaker c.note_cable.result
    (λ stayed.
    same c.args.self.now c.self.inside.stations c.self.inside.cables.items c.note_cable.new.cables.items c.self.view_is stayed)
    c.note_cable.ensures.stays
