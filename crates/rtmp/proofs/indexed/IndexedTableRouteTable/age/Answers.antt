use Rattle.std.proofs.Common.{inl, not, arith}
use Rattle.std.proofs.lemmas.List.{length-map}
use Rattle.at_base.proofs.Lists.{few_filter}
use Rattle.rtmp.specs.declared.removal.Removal.TheVariants.{Over}
use Rattle.rtmp.specs.declared.update.Update.TheVariants.{Age}
use Rattle.rtmp.specs.Removals.{is_removed, kept}
use Rattle.rtmp.specs.Updates.{updated}
use Rattle.rtmp.proofs.Maps.{aged_map}
use Rattle.rtmp.proofs.indexed.IndexedTableRouteTable.age.Goals as goal

pub invariant_of-self : goal.invariant_of-self
invariant_of-self c = record {
  map = rw (c.update_all.ensures, c.remove_rows.ensures.kept) (aged_map c.self.inside.rows.items c.self.invariant.map);
  index = inl c.clear.ensures.items;
  room = rw (c.update_all.ensures, c.remove_rows.ensures.kept) (omega (
    arith,
    length-map (kept Over c.self.inside.rows.items) (updated Age),
    few_filter (λ r. not (is_removed Over r)) c.self.inside.rows.items,
    c.self.invariant.room,
    c.clear.ensures.capacity,
  ));
}
