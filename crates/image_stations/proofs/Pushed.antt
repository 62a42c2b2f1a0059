-- A list of stations with one more.
use Rattle.std.proofs.Common.{◌≡◌, ◌⊎◌, ℕ, zero, suc, ◌+◌, inl, inr, None, List, [], ◌∷◌, ◌++◌, refl, subst, arith, length}
use Rattle.std.proofs.lemmas.List.{length-append}
use Rattle.std.proofs.lemmas.List.Elements.{All-push}
use Rattle.atp.specs.Requesting.{known}
use Rattle.audit.proofs.WalkLists.{At, at_append}
use Rattle.end_node.specs.Holding.{NodeHolding}
use Rattle.image_stations.specs.Building.{AreFirst}
use Rattle.image_stations.specs.Holders.{AreFresh, HoldsStation, IsFresh}
use Rattle.station.specs.declared.member.Member.{Member}
use Rattle.station.specs.declared.member.Member.TheVariants as member
use Rattle.router.specs.Holding.{Holding}
use Rattle.table_image.specs.Internet.{Internet}

pub none_first : (i : Internet) → AreFirst i 0 []
none_first i = record { number = refl; each = λ s m at. absurd cc }

-- The first stations with the next one.
pub with_next : (i : Internet) (n : ℕ) (stations : List (Member Holding NodeHolding)) (m : Member Holding NodeHolding)
    → AreFirst i n stations → HoldsStation i n m → AreFirst i (n + 1) (stations ++ m ∷ [])
with_next i n stations m first holds = record {
  number = let long = first.number in let more = length-append stations (m ∷ []) in omega (arith, long, more);
  each = λ s x at. by s x (at_append stations (m ∷ []) s x at);
}
  where
    last : (s k : ℕ) (x : Member Holding NodeHolding) → s ≡ length stations + k → At (m ∷ []) k x → HoldsStation i s x
    last s zero x e at =
        let long = first.number in
        let there : n ≡ s = omega (arith, long, e) in
        let same : m ≡ x = cc in
        subst (λ x. HoldsStation i s x) same (subst (λ s. HoldsStation i s m) there holds)
    last s (suc k) x e at = absurd cc

    by : (s : ℕ) (x : Member Holding NodeHolding) → At stations s x ⊎ ((k : ℕ) × (s ≡ length stations + k) × At (m ∷ []) k x)
        → HoldsStation i s x
    by s x (inl at) = first.each s x at
    by s x (inr w) = last s w.0 x w.1 w.2

-- A node that has received nothing, after stations that haven't either.
pub node_fresh : (stations : List (Member Holding NodeHolding)) (n : NodeHolding) → AreFresh stations → n.received ≡ []
    → n.asks.next ≡ 1 → ((id : ℕ) → known id n.asks.slots ≡ None) → AreFresh (stations ++ member.Node n ∷ [])
node_fresh stations n fresh heard next none = All-push IsFresh stations (member.Node n) fresh (heard, next, none)
