use Rattle.at_base.proofs.Spans.{before_fits}
use Rattle.at_base.proofs.spanned.place_in.Goals as goal

pub place_between-requires-clause-to : goal.place_between-requires-clause-to
place_between-requires-clause-to g c = before_fits g.T.Spanned.span c.args.start c.args.items.now
