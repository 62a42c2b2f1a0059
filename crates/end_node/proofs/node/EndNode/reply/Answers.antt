use Rattle.std.proofs.Common.{rules, arith, ◌≡◌, ◌∙◌, [], ap, is_some, sym, true, true≢false}
use Rattle.nbp.specs.Registered.{answers}
use Rattle.station.proofs.Replies.{nothing_to_send}
use Rattle.end_node.specs.Lookups.{answer_header, reply_of}
use Rattle.end_node.specs.Ways.{reply_way}
use Rattle.end_node.proofs.node.EndNode.reply.Goals as goal

pub returns-in_err-tuples : goal.returns-in_err-tuples
returns-in_err-tuples c = record {
  put = search rules;
  few = omega arith;
  good = λ before. before;
  silent = λ none.
      let way = reply_way c.args.self.now (answer_header c.args.summed c.args.tuple.now) in
      let there : is_some way ≡ true = search rules in
      let empty : answers c.args.tuple.now.object c.args.tuple.now.kind c.args.self.now.names ≡ [] =
      nothing_to_send (reply_of c.args.own c.args.self.now.zone c.args.id) way
      (answers c.args.tuple.now.object c.args.tuple.now.kind c.args.self.now.names) there none in
      let same : c.self.inside.names ≡ c.args.self.now.names = search rules in
      absurd (true≢false (sym (c.in_err-tuples.ensures.none
      (ap (answers c.args.tuple.now.object c.args.tuple.now.kind) same ∙ empty))));
  refused = search rules;
}
