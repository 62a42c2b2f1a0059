use Rattle.std.proofs.Common.{rules, ◌≡◌, ◌<◌, ◌≤◌, ◌^◌, true, false, [], ◌∷◌, subst, sym, refl, ◌∙◌}
use Rattle.cable_model.proofs.Steps.{adds_of, told}
use Rattle.cable_model.proofs.Takes.{held_open, spare_room}
use Rattle.cable_model.specs.Books.{Grows, said as said_in}
use Rattle.cable_model.specs.Holdings.{is_open, released_frame}
use Rattle.cable_model.specs.Logs.{Cabling, bytes_at, transcript as said}
use Rattle.cable_model.specs.Outcomes.{framed}
use Rattle.cable_model.specs.Transcript.{Put}
use Rattle.station.specs.declared.heard.Kind.TheVariants.{Ddp}
use Rattle.cable_model.proofs.cables.Cables.put_held.Goals as goal

pub returns-in_default-clause-not_pending : goal.returns-in_default-clause-not_pending
returns-in_default-clause-not_pending c =
    let v : is_open (said c.args.self.now) c.args.stamp ≡ false =
    rw (← c.self.view_is) (c.in_default.ensures.none c.self.inside.seats c.self.invariant.0.book) in
    search rules

pub put_held-requires-clause-room : goal.put_held-requires-clause-room
put_held-requires-clause-room c =
    let one : 1 ≤ c.self.inside.spare = subst (λ (v : Cabling). 1 ≤ v.spare) (sym c.self.view_is) c.requires in
    let low : c.self.inside.limit < 2 ^ 32 = search rules in
    spare_room c.self.inside.seats c.self.inside.limit c.self.inside.log c.self.inside.spare c.self.invariant.0
    c.self.invariant.2 one low

pub put_held-requires-clause-names : goal.put_held-requires-clause-names
put_held-requires-clause-names c = (c.in-Some.ensures.some c.self.inside.seats c.self.invariant.0.book).named

pub put_held-requires-clause-held : goal.put_held-requires-clause-held
put_held-requires-clause-held c =
    held_open c.self.inside.log c.args.stamp c.in-Some.held (c.in-Some.ensures.some c.self.inside.seats c.self.invariant.0.book)

pub returns-clause-ok : goal.returns-clause-ok
returns-clause-ok c =
    let old = c.self.inside.log in
    let new = c.put_held.new.log in
    let l = c.in-Some.held in
    let line = c.in-Some.ensures.some c.self.inside.seats c.self.invariant.0.book in
    let h = line.held in
    let frame : framed (record { stamp = l.stamp; cable = l.cable; station = l.station }) c.args.to Ddp (bytes_at old.kept.items l.bytes)
    ≡ Put (released_frame h c.args.to) =
    rw (line.same_stamp, line.cable, line.station, line.bytes) refl in
    let grows = subst (λ e. Grows old new (e ∷ []) []) frame c.put_held.ensures.grows in
    rw (← c.self.view_is) (
      h,
      line.there,
      line.of_stamp,
      adds_of c.self.inside.seats c.self.inside.limit c.self.inside.rooms old new _ _ _ (told old new _ [] grows),
    )

pub returns-clause-not_pending : goal.returns-clause-not_pending
returns-clause-not_pending c =
    let line = c.in-Some.ensures.some c.self.inside.seats c.self.invariant.0.book in
    let v : is_open (said c.args.self.now) c.args.stamp ≡ true =
    rw (← c.self.view_is) (subst (λ n. is_open (said_in c.self.inside.log) n ≡ true) (line.same_stamp ∙ line.of_stamp)
    (held_open c.self.inside.log c.args.stamp c.in-Some.held line)) in
    search rules
