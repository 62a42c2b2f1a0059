use Rattle.std.proofs.Common.{◌≡◌, ◌≢◌, ◌++◌, List, ℕ, zero, suc, ◌+◌, ◌-◌, Result, Ok, Err, OnOk, ap, arith, refl, ◌∙◌}
use Rattle.std.proofs.lemmas.List.{append_assoc}
use Rattle.playing.specs.Lines.{received_lines}
use Rattle.playing.specs.Plays.{all_received}
use Rattle.world.specs.Seen.{node_at, received_by}
use Rattle.world.specs.Worlds.{Worldly}
use Rattle.playing.proofs.printing.+put_nodes.Goals as goal

-- The lines of one node, followed by those of the others.
in_turn : {T E : Type 0} (r : Result T E) (w : Worldly) (number left : ℕ) (old one all : List ℕ) → left ≢ 0
    → one ≡ old ++ received_lines number (received_by (node_at w number))
    → OnOk r (all ≡ one ++ all_received w (number + 1) (left - 1)) → OnOk r (all ≡ old ++ all_received w number left)
in_turn (Err e) w number left old one all some first more = more
in_turn (Ok x) w number zero old one all some first more = absurd (some refl)
in_turn (Ok x) w number (suc n) old one all some first more =
    let next : suc n - 1 ≡ n = omega arith in
    more
    ∙ ap (λ (k : ℕ). one ++ all_received w (number + 1) k) next
    ∙ ap (λ (text : List ℕ). text ++ all_received w (number + 1) n) first
    ∙ append_assoc old (received_lines number (received_by (node_at w number))) (all_received w (number + 1) n)

pub returns-clause-lines : goal.returns-clause-lines
returns-clause-lines t c =
    in_turn c.put_nodes.result c.args.world.now c.args.number c.args.left c.args.text.now.items c.put_node.new.text.items
    c.put_nodes.new.text.items c.if-left-eq0.false c.in_ok-put_node.ensures.lines c.put_nodes.ensures.lines
