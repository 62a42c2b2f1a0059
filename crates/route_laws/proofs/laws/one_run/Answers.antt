use Rattle.std.proofs.Common.{List, subst, sym}
use Rattle.capture_feed.specs.Stages.{start}
use Rattle.pcapng.specs.Sections.{Told}
use Rattle.pcapng.specs.declared.form.Forms.TheVariants.{Pcapng}
use Rattle.route_laws.proofs.One.{all_alike, leads_one}
use Rattle.routing.specs.Run.{HaveHeard}
use Rattle.route_laws.proofs.laws.one_run.Goals as goal

pub returns : goal.returns
returns g c = λ m a b bytes kept left last end u v x y s t p q none nothing.
    let blocks = leads_one (start Pcapng) last end bytes kept left s.blocks t.blocks s.leads t.leads p q in
    let moved = subst (λ (ts : List Told). HaveHeard g.C.Cabled.acts m ts t.due b) (sym blocks) t.heard in
    let alike = all_alike g.C.Cabled.acts m a b s.blocks s.due t.due s.heard moved none nothing in
    (alike.bytes, alike.state)
