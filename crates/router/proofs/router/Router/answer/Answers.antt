use Rattle.std.proofs.Common.{rules, arith, ◌≡◌, ◌∙◌, [], ap, is_some, sym, true, true≢false}
use Rattle.at_base.specs.Spelling.{bytes_of}
use Rattle.station.proofs.Replies.{nothing_to_send}
use Rattle.router.specs.Ways.{way_back}
use Rattle.zip_zones.specs.Answers.{replies}
use Rattle.zip_zones.specs.Formats.{packet}
use Rattle.router.proofs.router.Router.answer.Goals as goal

pub returns-in_err-payloads : goal.returns-in_err-payloads
returns-in_err-payloads g c = record {
  put = search rules;
  few = omega arith;
  good = λ before. before;
  silent = λ none.
      let way = way_back c.args.self.now c.args.port c.args.view.now in
      let there : is_some way ≡ true = search rules in
      let empty : replies c.args.self.now.zones c.args.networks ≡ [] =
      nothing_to_send (bytes_of packet) way (replies c.args.self.now.zones c.args.networks) there none in
      let same : c.self.inside.zones ≡ c.args.self.now.zones = search rules in
      absurd (true≢false (sym (c.in_err-payloads.ensures.silent (ap (λ zones. replies zones c.args.networks) same ∙ empty))));
  refused = search rules;
}
