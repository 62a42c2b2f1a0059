use Rattle.std.proofs.Common.{◌∙◌, sym}
use Rattle.rtmp.proofs.Scan.{found_there, none_there, place_from, put_before}
use Rattle.rtmp.proofs.plain.place_of.Goals as goal

pub returns-in-Some-clause-found : goal.returns-in-Some-clause-found
returns-in-Some-clause-found c = found_there c.args.range c.args.rows.now c.in-Some.index c.requires (sym c.index_of.ensures ∙ c.in-Some.is)

pub returns-in-None-clause-missing : goal.returns-in-None-clause-missing
returns-in-None-clause-missing c =
    rw (c.unwrap_or.ensures, c.index_from.ensures, place_from c.args.range.start c.args.rows.now)
    (put_before c.args.range c.args.rows.now c.requires (none_there c.args.range c.args.rows.now (sym c.index_of.ensures ∙ c.in-None.is)))
