use Rattle.std.proofs.Common.{◌∙◌, ap, refl}
use Rattle.pcapng.specs.Reads.{described, told}
use Rattle.pcapng.specs.Sections.{begins, describes, opens, passes, skips}
use Rattle.routing.proofs.Blocks.{wrote_quiet}
use Rattle.routing.specs.Called.{port_of, with_port}
use Rattle.routing.proofs.routing.Routing.hear.Goals as goal

pub returns-in-Interface-clause-heard : goal.returns-in-Interface-clause-heard
returns-in-Interface-clause-heard g c =
    let d = described c.in-Interface.described in
    wrote_quiet g.C.Cabled.acts _ _ _ _ (describes d) _ _ c.self-in-Interface.view_is (ap told c.in-Interface.is) tt refl
    (c.add.ensures ∙ ap (with_port c.self-in-Interface.inside.ports) (c.port_of-port.ensures ∙ ap (λ cs. port_of cs d) c.as_slice.ensures.value)) refl refl refl

pub returns-in-TooLong-clause-heard : goal.returns-in-TooLong-clause-heard
returns-in-TooLong-clause-heard g c = wrote_quiet g.C.Cabled.acts _ _ _ _ passes _ _ refl (ap told c.in-TooLong.is) tt refl refl refl refl refl

pub returns-in-Other-clause-heard : goal.returns-in-Other-clause-heard
returns-in-Other-clause-heard g c = wrote_quiet g.C.Cabled.acts _ _ _ _ skips _ _ refl (ap told c.in-Other.is) tt refl refl refl refl refl

pub returns-in-Section-clause-heard : goal.returns-in-Section-clause-heard
returns-in-Section-clause-heard g c =
    wrote_quiet g.C.Cabled.acts _ _ _ _ begins _ _ c.self.view_is (ap told c.in-Section.is) tt refl c.clear.ensures refl refl refl

pub returns-in-Classic-clause-heard : goal.returns-in-Classic-clause-heard
returns-in-Classic-clause-heard g c =
    wrote_quiet g.C.Cabled.acts _ _ _ _ (opens c.in-Classic.field-0) _ _ c.self-in-Classic.view_is (ap told c.in-Classic.is) tt refl c.clear-in-Classic.ensures refl refl refl
