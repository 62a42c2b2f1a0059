use Rattle.std.proofs.Common.{◌≡◌, ◌∙◌, ap, arith, inr, refl, sym}
use Rattle.std.proofs.lemmas.List.{length-map}
use Rattle.rtmp.specs.Indexing.{numbers_of}
use Rattle.rtmp.specs.Routes.{poisoned, poisoned_row}
use Rattle.rtmp.proofs.Maps.{poisoned_map}
use Rattle.rtmp.proofs.Numbering.{numbers_map}
use Rattle.rtmp.proofs.Spoiled.{none_poisoned, poisoned_number}
use Rattle.rtmp.proofs.indexed.IndexedTableRouteTable.poison.Goals as goal

pub returns-then-is_none : goal.returns-then-is_none
returns-then-is_none c = none_poisoned c.args.next c.args.self.now.rows (sym c.is_none.ensures ∙ c.if-is_none.true)

pub poison_rows-requires-clause-map : goal.poison_rows-requires-clause-map
poison_rows-requires-clause-map c = c.self.invariant.map

pub poison_rows-requires-clause-numbered : goal.poison_rows-requires-clause-numbered
poison_rows-requires-clause-numbered c = rw (c.as_slice-2.ensures.value, c.renew.ensures.numbered, c.as_slice.ensures.value) refl

-- the rows afterwards
is : (c : goal.After-poison_rows) → c.poison_rows.new.rows.items ≡ poisoned c.args.next c.self.inside.rows.items
is c = c.poison_rows.ensures

pub invariant_of-self : goal.invariant_of-self
invariant_of-self c =
    let rows = c.self.inside.rows.items in
    record {
      map = rw (is c) (poisoned_map c.args.next rows c.self.invariant.map);
      index = inr (rw (is c) (c.renew.ensures.numbered ∙ ap numbers_of c.as_slice.ensures.value
          ∙ sym (numbers_map (poisoned_row c.args.next) (poisoned_number c.args.next) rows)));
      room = rw (is c) (omega (
        arith,
        length-map rows (poisoned_row c.args.next),
        c.self.invariant.room,
        c.renew.ensures.room,
      ));
    }

pub returns : goal.returns
returns c = rw (← c.self.view_is) (is c)
