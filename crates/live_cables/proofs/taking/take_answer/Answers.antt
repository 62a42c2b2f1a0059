use Rattle.std.proofs.Common.{◌≡◌, sym, subst}
use Rattle.aarp.specs.Mapping.{forgotten}
use Rattle.live_cables.specs.Finding.{places_of}
use Rattle.live_cables.specs.Holding.{AreFew, Holds, IsMet, with_known}
use Rattle.live_cables.proofs.Answered.{few_after, known_after, room_after, taken_in, undone}
use Rattle.live_cables.proofs.Calm.{takes_of, takes_then}
use Rattle.live_cables.proofs.taking.take_answer.Goals as goal

pub learn-requires : goal.learn-requires
learn-requires g c =
    known_after c.args.stamp c.args.station _ _ c.args.seat c.args.answer c.in-Ok.is_new c.args.cables.now c.take.new.self c.args.near.now
    c.meet.new.self c.take.new.resolver
    (record {
      once = c.transcript-len.ensures.once;
      one_seat = c.transcript-len.ensures.one_seat;
      heard = c.requires.answer;
      is_met = c.in-Ok.ensures.ok;
      others = c.meet.ensures.others;
      took = c.in-Ok-take.ensures.ok;
    })

pub release-requires : goal.release-requires
release-requires g c =
    room_after c.args.stamp c.args.station _ _ c.args.seat c.args.answer c.in-Ok.is_new c.args.cables.now c.take.new.self c.args.near.now
    c.meet.new.self c.take.new.resolver
    (record {
      once = c.transcript-len.ensures.once;
      one_seat = c.transcript-len.ensures.one_seat;
      heard = c.requires.answer;
      is_met = c.in-Ok.ensures.ok;
      others = c.meet.ensures.others;
      took = c.in-Ok-take.ensures.ok;
    }) c.requires.rooms

pub returns-in-Ok-take-clause-taken : goal.returns-in-Ok-take-clause-taken
returns-in-Ok-take-clause-taken g c =
    taken_in c.args.stamp c.args.station _ _ c.args.seat c.args.answer c.in-Ok.is_new c.args.cables.now c.take.new.self c.args.near.now
    c.meet.new.self c.take.new.resolver
    (record {
      once = c.transcript-len.ensures.once;
      one_seat = c.transcript-len.ensures.one_seat;
      heard = c.requires.answer;
      is_met = c.in-Ok.ensures.ok;
      others = c.meet.ensures.others;
      took = c.in-Ok-take.ensures.ok;
    }) c.release.new.cables c.learn.new.self c.release.new.self c.learn.ensures c.release.ensures.left c.requires.seat
    c.release.ensures.released

pub returns-in-Ok-take-clause-takes : goal.returns-in-Ok-take-clause-takes
returns-in-Ok-take-clause-takes g c =
    takes_then c.args.cables.now c.take.new.self c.release.new.cables c.args.stamp c.args.station _
    (takes_of places_of Holds _ c.args.cables.now c.take.new.self c.args.stamp c.args.station _ c.meet.new.self c.take.new.resolver
    c.in-Ok-take.ensures.ok) c.release.ensures.puts

pub returns-in-Ok-take-clause-few : goal.returns-in-Ok-take-clause-few
returns-in-Ok-take-clause-few g c =
    few_after c.args.stamp c.args.station _ _ c.args.seat c.args.answer c.in-Ok.is_new c.args.cables.now c.take.new.self c.args.near.now
    c.meet.new.self c.take.new.resolver
    (record {
      once = c.transcript-len.ensures.once;
      one_seat = c.transcript-len.ensures.one_seat;
      heard = c.requires.answer;
      is_met = c.in-Ok.ensures.ok;
      others = c.meet.ensures.others;
      took = c.in-Ok-take.ensures.ok;
    }) c.release.new.cables c.learn.new.self c.release.new.self c.learn.ensures c.release.ensures.left c.requires.few

pub returns-then-is_new-clause-near_stays : goal.returns-then-is_new-clause-near_stays
returns-then-is_new-clause-near_stays g c =
    let is_met = subst (λ b. IsMet c.args.seat c.args.answer c.args.near.now.maps b c.meet.new.self.maps) c.if-is_new.true
    c.in-Ok.ensures.ok in
    let forgot = subst (λ k. c.forget.new.self ≡ record k { maps = with_known k.maps c.args.seat (forgotten c.args.answer.source) })
    c.in-Err-take.ensures.resolver_stays c.forget.ensures in
    undone c.args.seat c.args.answer c.args.near.now c.meet.new.self c.forget.new.self is_met c.meet.ensures.others forgot

pub returns-then-is_new-clause-few : goal.returns-then-is_new-clause-few
returns-then-is_new-clause-few g c =
    subst (λ k. AreFew k.maps) (sym (returns-then-is_new-clause-near_stays g c)) c.requires.few
