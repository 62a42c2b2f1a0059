use Rattle.std.proofs.Common.{◌≡◌, true, inl, length, refl, ap, subst, sym, ◌∙◌, arith}
use Rattle.std.proofs.lemmas.List.{length-set}
use Rattle.at_base.proofs.Spans.{item_read, length_with}
use Rattle.at_base.specs.Spans.{IsAt, IsBefore}
use Rattle.rtmp.specs.declared.table.Change.TheVariants.{Added}
use Rattle.rtmp.specs.Routes.{Tabled, heard, heard_row, is_new}
use Rattle.rtmp.proofs.Heard.{There, new_map, there}
use Rattle.rtmp.proofs.Maps.{rows_apart}
use Rattle.rtmp.proofs.indexed.IndexedTableRouteTable.hear.Goals as goal

pub place_near-requires : goal.place_near-requires
place_near-requires c = rw c.as_slice.ensures.value (rows_apart c.self.inside.rows.items c.self.invariant.map)

-- the row that was found
found : (c : goal.After-replace_row)
    → There c.args.range c.args.distance c.args.source c.args.port c.self.inside.rows.items c.in-Ok.place c.index.result.now
found c =
    let rows = c.self.inside.rows.items in
    let at : IsAt (λ r. r.range) c.args.range rows c.in-Ok.place = rw (← c.as_slice.ensures.value) (c.in-Ok.ensures {u = tt}).found in
    there c.args.range c.args.distance c.args.source c.args.port rows c.in-Ok.place c.index.result.now at c.self.invariant.map
    (item_read (λ r. r.range) c.args.range rows c.in-Ok.place at c.index.result.now c.index.ensures)

pub invariant_of-self : goal.invariant_of-self
invariant_of-self c = record {
  map = rw (c.replace_row.ensures.rows, c.after_hearing-row.ensures) (found c).map;
  index = c.replace_row.ensures.indexed;
  room = rw c.replace_row.ensures.rows
      (omega (arith, length-set c.self.inside.rows.items c.in-Ok.place c.after_hearing-row.result.0, c.self.invariant.room, c.replace_row.ensures.room));
}

pub returns-in-Ok-clause-ok : goal.returns-in-Ok-clause-ok
returns-in-Ok-clause-ok c = rw (← c.self.view_is, c.replace_row.ensures.rows, c.after_hearing-row.ensures, (found c).is) refl

pub returns-in-Ok-clause-full : goal.returns-in-Ok-clause-full
returns-in-Ok-clause-full c = (
  λ e. cc,
  λ h. absurd ((found c).old (subst (λ (t : Tabled). (heard c.args.range c.args.distance c.args.source c.args.port t.rows).1 ≡ Added)
      (sym c.self.view_is) h.0)),
)

pub invariant_of-self-in-Err : goal.invariant_of-self-in-Err
invariant_of-self-in-Err c =
    let rows = c.self.inside.rows.items in
    let at : IsBefore (λ r. r.range) c.args.range rows c.in-Err.place =
    rw (← c.as_slice.ensures.value) (c.in-Err.ensures {u = tt}).missing in
    let row = heard_row c.args.range c.args.distance c.args.source c.args.port in
    let is : is_new c.args.range c.args.distance rows ≡ true =
    rw c.as_slice-in-Err.ensures.value at (sym c.is_new.ensures.value ∙ c.if-not-is_new.false) in
    record {
      map = rw (c.insert.ensures.items, c.unwrap.ensures, c.heard_row-row.ensures, c.make_room.ensures.rows, ← at.put row refl)
          (new_map c.args.range c.args.distance c.args.source c.args.port rows c.self.invariant.map c.recall_valid.ensures is (omega arith));
      index = inl c.make_room.ensures.numbers;
      room = rw (c.insert.ensures.items, c.unwrap.ensures, c.make_room.ensures.rows, ← at.put c.heard_row-row.result (ap (λ r. r.range) c.heard_row-row.ensures)) (omega (
        arith,
        length_with (λ r. r.range) c.heard_row-row.result rows,
        (c.in_ok-make_room-in-Err.ensures {u = tt}).place,
        ap length c.make_room.ensures.rows,
      ));
    }
