use Rattle.std.proofs.Common.{refl, sym, subst, ap, ◌∙◌, ◌++◌, suc, take, drop, List, ℕ, add-one, arith}
use Rattle.std.proofs.lemmas.List.{take-append-drop}
use Rattle.at_base.specs.Text.{same_name}
use Rattle.audit.specs.Found.{is_found}
use Rattle.audit.proofs.Finding.{index_within}
use Rattle.audit.proofs.Firsts.{item_at}
use Rattle.audit.proofs.SameZones.{Matches, grown, whole, found_twice, not_among, one_more, at_end}
use Rattle.audit.proofs.zone_sets.have_all.Goals as goal

pub has-requires : goal.has-requires
has-requires c =
    let within = index_within (same_name c.name-item.result) c.args.zones.now c.in-Some.k (sym c.in-Some.ensures) in
    let few = c.requires.few in
    omega (arith, within, few)

pub returns-then-has : goal.returns-then-has
returns-then-has c =
    let names = c.args.names.now in
    let m = c.loop-name.name-index in
    let at = item_at names names m _ refl c.loop-name-test.true c.name-item.is in
    let is = ap (λ front. front ++ drop (suc m) names) (sym (grown names m _ at)) ∙ take-append-drop (suc m) names in
    found_twice c.args.zones.now (take m names) (drop (suc m) names) names (is_found c.loop-name.found) _ c.in-Some.k c.loop-name.invariant
    (sym c.in-Some.ensures) (sym c.has.ensures ∙ c.if-has.true) is

pub add-requires : goal.add-requires
add-requires c =
    let within = index_within (same_name c.name-item.result) c.args.zones.now c.in-Some.k (sym c.in-Some.ensures) in
    let few = c.requires.few in
    omega (arith, within, few)

pub returns-in-None : goal.returns-in-None
returns-in-None c =
    let names = c.args.names.now in
    let m = c.loop-name.name-index in
    let at = item_at names names m _ refl c.loop-name-test.true c.name-item.is in
    not_among c.args.zones.now names m _ at (sym c.in-None.ensures)

pub loop-name-preserved : goal.loop-name-preserved
loop-name-preserved c =
    let zones = c.args.zones.now in
    let names = c.args.names.now in
    let m = c.loop-name.name-index in
    let at = item_at names names m _ refl c.loop-name-test.true c.name-item.is in
    let more = one_more zones (take m names) (is_found c.loop-name.found) (is_found c.add.new.self) _ c.in-Some.k c.requires.once
    c.loop-name.invariant (sym c.in-Some.ensures) (sym c.has.ensures ∙ c.if-has.false) c.add.ensures.here c.add.ensures.others in
    let P : List (List ℕ) → Type 0 = λ front. Matches zones front (is_found c.add.new.self) in
    let Q : ℕ → Type 0 = λ n. P (take n names) in
    subst Q (sym (add-one m)) (subst P (sym (grown names m _ at)) more)

pub returns : goal.returns
returns c =
    let zones = c.args.zones.now in
    let names = c.args.names.now in
    let m = c.loop-name.name-index in
    let past = c.loop-name-test.false in
    let few = c.requires.few in
    let long = c.has_all.ensures.len in
    let P : List (List ℕ) → Type 0 = λ front. Matches zones front (is_found c.loop-name.found) in
    let all = subst P (whole names m (omega (arith, past))) c.loop-name.invariant in
    c.has_all.ensures.value ∙ at_end zones names c.loop-name.found.zones (omega (arith, few, long)) all
