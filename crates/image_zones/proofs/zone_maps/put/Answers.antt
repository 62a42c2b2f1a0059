use Rattle.std.proofs.Common.{◌≡◌, ◌⊎◌, inl, inr, ℕ, true, List, sym, ap, subst, ◌∙◌, Result, Ok, Err, IfErr, IsOkUnless, true≢false}
use Rattle.std.specs.Result.{OkIff}
use Rattle.at_base.specs.Range.{Span, IsRange}
use Rattle.at_base.specs.declared.error.Error.{Error}
use Rattle.at_base.specs.declared.error.Error.TheVariants.{BadRange, Full, Memory}
use Rattle.zip_zones.specs.Zones.{has_room, is_past}
use Rattle.image_zones.specs.ZoneMaps.{is_told, range_of}
use Rattle.image_zones.proofs.ZoneTables.{least_fits, least_for, room_for}
use Rattle.image_zones.proofs.zone_maps.put.Goals as goal

-- of three errors, two of which don't occur, the third is left
only_memory : {T : Type 0} (r : Result T Error) → IfErr r (λ e. (e ≡ BadRange) ⊎ (e ≡ Full) ⊎ (e ≡ Memory))
    → (r ≡ Err BadRange → ⊥) → (r ≡ Err Full → ⊥) → IsOkUnless r Memory
only_memory (Ok x) h range full = h
only_memory (Err e) (inl p) range full = absurd (range (ap (λ (x : Error). Err x) p))
only_memory (Err e) (inr (inl p)) range full = absurd (full (ap (λ (x : Error). Err x) p))
only_memory (Err e) (inr (inr p)) range full = p

pub least_of-requires : goal.least_of-requires
least_of-requires c =
    let told : is_told c.args.list.now ≡ true = sym c.is_told.ensures ∙ c.if-not-is_told.false in
    least_fits c.args.table.now c.args.list.now c.requires.map told

pub returns-clause-err : goal.returns-clause-err
returns-clause-err c =
    let l = c.args.list.now in
    let table = c.args.table.now in
    let told : is_told l ≡ true = sym c.is_told.ensures ∙ c.if-not-is_told.false in
    let room = room_for table l c.requires.map told c.requires.few in
    let made : OkIff {E = Error} (Ok c.unwrap-range.result) (IsRange l.start l.end) (range_of l) =
    subst (λ (r : Result Span Error). OkIff r (IsRange l.start l.end) (range_of l)) c.unwrap-range.ensures c.new.ensures.made in
    let past : is_past c.unwrap-range.result table ≡ true = ap (λ (s : Span). is_past s table) made.1 ∙ room.0 in
    let some : has_room c.least_of.result c.as_slice.result.now table ≡ true =
    ap (λ (n : ℕ). has_room n c.as_slice.result.now table) c.least_of.ensures
    ∙ (ap (λ (names : List (List ℕ)). has_room (least_for l) names table) c.as_slice.ensures ∙ room.1) in
    only_memory c.append.result c.append.ensures.refused (λ e. true≢false (sym past ∙ c.append.ensures.range.0 e)) (λ e. true≢false
    (sym some ∙ (c.append.ensures.full.0 e).1))
