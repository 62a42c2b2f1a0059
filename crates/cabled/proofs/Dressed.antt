-- Outputs that are put one after the other.
use Rattle.std.proofs.Common.{◌≡◌, ◌∙◌, List, [], ◌∷◌, ◌++◌, ap, refl, sym}
use Rattle.std.proofs.lemmas.List.{append_assoc}
use Rattle.cabled.specs.Putting.{Put, all_dressed, dressed}
use Rattle.port.specs.Ports.{Ported}
use Rattle.station.specs.declared.output.Output.{Output}

-- what is put for some outputs and then for others
pub both_put : (a b : List Output) (ports : List Ported)
    → (all_dressed (a ++ b) ports).0 ≡ (all_dressed a ports).0 ++ (all_dressed b (all_dressed a ports).1).0
both_put [] b ports = refl
both_put (o ∷ a) b ports =
    ap (λ (l : List Put). (dressed o ports).0 ++ l) (both_put a b (dressed o ports).1)
    ∙ sym (append_assoc (dressed o ports).0 (all_dressed a (dressed o ports).1).0
    (all_dressed b (all_dressed a (dressed o ports).1).1).0)

-- the ports after some outputs and then others
pub both_after : (a b : List Output) (ports : List Ported)
    → (all_dressed (a ++ b) ports).1 ≡ (all_dressed b (all_dressed a ports).1).1
both_after [] b ports = refl
both_after (o ∷ a) b ports = both_after a b (dressed o ports).1
