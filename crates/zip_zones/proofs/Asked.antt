-- The rows whose zones the router asks for, one by one.
use Rattle.std.proofs.Common.{◌≡◌, ℕ, true, false, not, ◌&&◌, List, [], ◌∷◌, ◌++◌, map, filter, refl, ap, ◌∙◌, append_assoc, if◌then◌else◌}
use Rattle.rtmp.specs.declared.row.Row.{Row}
use Rattle.rtmp.specs.States.{is_usable}
use Rattle.zip_zones.specs.Zones.{Known, due, is_answered}
use Rattle.zip_zones.proofs.Answering.{append_none}

one_due : (row : Row) (rows : List Row) (zones : List Known) → due (row ∷ []) zones ++ due rows zones ≡ due (row ∷ rows) zones
one_due row rows zones =
    elim (is_usable row.state && not (is_answered zones row.range))
    as (λ b. map (λ r. r.range.start) (if b then row ∷ [] else []) ++ due rows zones
    ≡ map (λ r. r.range.start) (if b then row ∷ filter (λ r. is_usable r.state && not (is_answered zones r.range)) rows
    else filter (λ r. is_usable r.state && not (is_answered zones r.range)) rows)) [
      | true ↦ refl
      | false ↦ refl
    ]

-- one more row
pub due_next : (starts : List ℕ) (row : Row) (rows : List Row) (zones : List Known)
    → (starts ++ due (row ∷ []) zones) ++ due rows zones ≡ starts ++ due (row ∷ rows) zones
due_next starts row rows zones =
    let grouped : (starts ++ due (row ∷ []) zones) ++ due rows zones
    ≡ starts ++ (due (row ∷ []) zones ++ due rows zones) = simp append_assoc in
    grouped ∙ ap (λ (l : List ℕ). starts ++ l) (one_due row rows zones)

-- if the router asks for no zones, it doesn't ask for those of a row
pub none_due : (starts : List ℕ) (row : Row) (rows : List Row) (zones : List Known) → starts ++ due (row ∷ rows) zones ≡ []
    → due (row ∷ []) zones ≡ []
none_due starts row rows zones none =
    (append_none (due (row ∷ []) zones) (due rows zones)
    (one_due row rows zones ∙ (append_none starts (due (row ∷ rows) zones) none).1)).0
