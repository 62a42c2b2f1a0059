use Rattle.std.proofs.Common.{sym, ◌∙◌}
use Rattle.zip_zones.specs.Answers.{after_list}
use Rattle.learning.proofs.Named.{left_again, left_first, left_new}
use Rattle.learning.proofs.lists.learn_each.Goals as goal
use Rattle.learning.proofs.lists.learn_each.Goals.{then-not-has_network+in_ok-learn_list, else-not-has_network}

pub loop-index-init : goal.loop-index-init
loop-index-init g c = left_first (after_list (g.T.RouteTable.rows c.args.routes.now) c.args.entries.now) c.args.entries.now c.args.zones.now

pub loop-index-preserved : goal.loop-index-preserved
loop-index-preserved g c =
    let learn = after_list (g.T.RouteTable.rows c.args.routes.now) c.args.entries.now in
    let entries = c.args.entries.now in
    let entry = c.index-entries-index.result in
    elim c.if-not-has_network.branch [
      | then-not-has_network+in_ok-learn_list w ↦
          let came = sym c.has_network.ensures ∙ w.if-not-has_network.true in
          let learned = w.zones-is ∙ (w.in_ok-learn_list.ensures {u = tt}).ok in
          left_new learn entries c.loop-index.index entry c.loop-index.zones c.if-not-has_network.zones _
          c.loop-index-test.true c.index-entries-index.is came learned c.loop-index.invariant
      | else-not-has_network w ↦
          let came = sym c.has_network.ensures ∙ w.if-not-has_network.false in
          rw w.zones-is (left_again learn entries c.loop-index.index entry c.loop-index.zones _
          c.loop-index-test.true c.index-entries-index.is came c.loop-index.invariant)
    ]
