-- What follows where it is certain how a datagram leaves, and which pair was taken.
use Rattle.std.proofs.Common.{◌≡◌, ◌≢◌, ℕ, true, List, [], ◌∷◌, ◌++◌, Some, Contains, ap, refl, subst, ◌∙◌}
use Rattle.at_base.specs.declared.address.Addr.{Addr}
use Rattle.ddp.specs.Bodies.{target}
use Rattle.table_image.specs.Internet.{Internet}
use Rattle.audit.specs.Routing.{owner}
use Rattle.station.specs.declared.output.Next.{Next}
use Rattle.station.specs.declared.output.Next.TheVariants as next
use Rattle.cable_model.specs.Pending.{Pair, pending}
use Rattle.cable_model.specs.Transcript.{Entry, Sent, Took}
use Rattle.cable_model.proofs.Counting.{contained_at, each_at}
use Rattle.legal_runs.specs.Answers.{ByRouter, MayLeave, OnCable, Straight, ToThem, ToThese}
use Rattle.legal_runs.specs.Legs.{Leg}
use Rattle.legal_runs.specs.Stations.{cable_holds, cable_seats, is_on}
use Rattle.resolved_runs.specs.Resolved.{resolved_leg}
use Rattle.resolved_runs.proofs.Follows.{Follows, IsSaid, Runs, led_to}

abbrev pub leg_of : ℕ → ℕ → Next → List ℕ → ℕ → Leg
leg_of s c n b h = record { station = s; cable = c; next = n; body = b; hops = h }

same_leg : (l : Leg) (s c : ℕ) (n : Next) (b : List ℕ) → l.station ≡ s → l.cable ≡ c → l.next ≡ n → l.body ≡ b → l.hops ≡ 0
    → l ≡ leg_of s c n b 0
same_leg l s c n b es ec en eb eh =
    ap (λ x. leg_of x l.cable l.next l.body l.hops) es
    ∙ (ap (λ x. leg_of s x l.next l.body l.hops) ec
    ∙ (ap (λ x. leg_of s c x l.body l.hops) en ∙ (ap (λ x. leg_of s c n x l.hops) eb ∙ ap (λ x. leg_of s c n b x) eh)))

-- The station is on one cable, with one router there, at this address; and the datagram is for the router, or for a node of
-- another cable.
pub record HasWay (i : Internet) (s c : ℕ) (a : Addr) (b : List ℕ) : Type 0 where
  pub on : (k : ℕ) → is_on i s k ≡ true → k ≡ c
  pub one : (x : Addr) (r : ℕ) → owner i c x ≡ Some r → x ≡ a
  pub node : (target b).node ≢ 255
  pub net : (target b).net ≢ 0
  pub off : cable_holds i c (target b).net ≡ true → target b ≡ a

module _ (i : Internet) (s c : ℕ) (a : Addr) (b : List ℕ) (way : HasWay i s c a b) where
  next_is : (l : Leg) → l.cable ≡ c → l.body ≡ b → MayLeave i l → l.next ≡ next.Station a
  next_is l ec eb (Straight e h n m) =
      let f = subst (λ k. cable_holds i k (target b).net ≡ true) ec (subst (λ d. cable_holds i l.cable (target d).net ≡ true) eb h) in
      e ∙ ap next.Station (ap target eb ∙ way.off f)
  next_is l ec eb (ByRouter x r e own n) = e ∙ ap next.Station (way.one x r (subst (λ k. owner i k x ≡ Some r) ec own))
  next_is l ec eb (ToThem e h n) = absurd (way.node (subst (λ d. (target d).node ≡ 255) eb n))
  next_is l ec eb (OnCable e n m) = absurd (way.net (subst (λ d. (target d).net ≡ 0) eb n))
  next_is l ec eb (ToThese g lt e n m) = absurd (way.net (subst (λ d. (target d).net ≡ 0) eb n))

  leg_is : (l : Leg) → IsSaid i s b l → l ≡ leg_of s c (next.Station a) b 0
  leg_is l said =
      let ec = way.on l.cable (subst (λ x. is_on i x l.cable ≡ true) said.by said.made.seated) in
      same_leg l s c (next.Station a) b said.by ec (next_is l ec said.body said.made.goes) said.body said.made.fresh

  pub after_sent : (t es : List Entry) → Runs i t [] (Sent s b ∷ es)
      → Runs i (t ++ Sent s b ∷ []) (resolved_leg i (t ++ Sent s b ∷ []) (leg_of s c (next.Station a) b 0)) es
  unfolding Follows
  after_sent t es w =
      let f = w.follows in record {
        follows = subst (λ l. Follows i (t ++ Sent s b ∷ []) (resolved_leg i (t ++ Sent s b ∷ []) l) es) (leg_is f.0 f.1) f.2;
      }

-- The one pair that is pending was taken.
pub after_took : (i : Internet) (t es : List Entry) (p : Pair) (stamp station : ℕ) → pending (cable_seats i) t ≡ p ∷ []
    → Runs i t [] (Took stamp station ∷ es)
    → Runs i (t ++ Took stamp station ∷ []) (led_to i (t ++ Took stamp station ∷ []) p p.frame.kind) es
unfolding Follows
after_took i t es p stamp station one w =
    let f = w.follows in
    let at = contained_at (p ∷ []) f.0 (subst (λ ps. Contains ps f.0) one f.1.there) in
    let same = each_at (λ q. q ≡ p) (p ∷ []) at.0 f.0 at.1 (refl, tt) in record {
      follows = subst (λ q. Follows i (t ++ Took stamp station ∷ []) (led_to i (t ++ Took stamp station ∷ []) q q.frame.kind) es) same f.2;
    }
