use Rattle.std.proofs.Common.{◌≡◌, [], true, fold, slice_index_or, sym, ap, ◌∙◌, true≢false}
use Rattle.zip_zones.specs.Zones.{Known, is_complete, with_list}
use Rattle.zip_zones.proofs.Nothing.{none_complete}
use Rattle.zip_zones.proofs.table.ZoneTable.all.Goals as goal

pub returns-in_err-insert_all-clause-none : goal.returns-in_err-insert_all-clause-none
returns-in_err-insert_all-clause-none c none =
    let items = c.as_slice-known-items.result.now in
    let known = c.known-item.result in
    let i = c.loop-known.known-index in
    let no_zones : fold with_list [] items ≡ [] = ap (fold with_list []) (c.as_slice-known-items.ensures.value ∙ c.self.view_is) ∙ none in
    let complete : is_complete (slice_index_or items i known) ≡ true =
    ap is_complete (sym c.known-item.is) ∙ sym c.is_complete.ensures ∙ c.if-is_complete.true in
    let no_names = c.names.ensures ∙ ap (λ (k : Known). k.names) c.known-item.is
    ∙ none_complete [] items i known no_zones c.loop-known-test.true complete in
    absurd (true≢false (sym (c.in_err-insert_all.ensures.none no_names)))
