-- The invariant of a run: each time that a body was sent, it ended once or is under way once.
use Rattle.std.proofs.Common.{◌≡◌, ◌≢◌, ℕ, ◌+◌, Bool, true, false, not, ◌&&◌, cond, List, [], ◌∷◌, ◌++◌, Contains}
use Rattle.std.proofs.Common.{refl, sym, ap, ◌∙◌, subst, arith, append_assoc}
use Rattle.std.specs.List.{AllByRecursion as Each}
use Rattle.at_base.specs.Text.{same_bytes}
use Rattle.ddp.specs.Bodies.{body, hops, target}
use Rattle.table_image.specs.Internet.{Internet}
use Rattle.audit.specs.Routing.{hand}
use Rattle.audit.specs.Rules.{Passes}
use Rattle.cable_model.specs.Pending.{Pair, pairs, pending, was_ended}
use Rattle.cable_model.specs.Transcript.{Entry, Sent, Took, count, next_stamp, one, stamps}
use Rattle.cable_model.proofs.Counting.{At, contained_at, count-append, each-append, each_at, filter_at}
use Rattle.cable_model.proofs.Pairs.{EndsBelow, EndsNone, pairs-append, pending_less}
use Rattle.cable_model.proofs.Stamps.{next_after}
use Rattle.legal_runs.specs.Answers.{IsMade}
use Rattle.legal_runs.specs.Counts.{carries, is_sent, sent, under_way}
use Rattle.legal_runs.specs.Legal.{IsLegal}
use Rattle.legal_runs.specs.Legs.{Leg, fate, fate_by, is_copy, leg}
use Rattle.legal_runs.specs.Losses.{Another, Handled, Nothing, Said}
use Rattle.legal_runs.specs.Stations.{cable_seats}
use Rattle.legal_runs.proofs.Does.{Does, HopsFine, IsRight, copies, is_ended}
use Rattle.legal_runs.proofs.Fates.{fate_does}
use Rattle.legal_runs.proofs.Frames.{Framed, whole}
use Rattle.legal_runs.proofs.Legs.{leg_does}
use Rattle.legal_runs.proofs.InOrder.{rising_below, rising_once, took_below}
use Rattle.legal_runs.proofs.Rises.{Rises, pending_rises}
use Rattle.legal_runs.proofs.Rising.{GoesOn, IsRising, RisingBlock, SendsOne, Starts, TakesOne, handled_ends_none, handled_rises}
use Rattle.legal_runs.proofs.Rising.{legal_rises, said_ends_none, said_rises}
pub use Rattle.legal_runs.proofs.Rising.{legal_numbered}
use Rattle.legal_runs.proofs.Seated.{one_seat}
use Rattle.audit.proofs.WalkFacts.{owner_is}
use Rattle.audit.proofs.WalkSteps.{near}

-- A property that holds of every number.
abbrev pub any : ℕ → Type 0
any n = Unit {0}

module _ (i : Internet) (ok : Passes i) where
  copies-append : (b : List ℕ) (es fs : List Entry) → copies i b (es ++ fs) ≡ copies i b es + copies i b fs
  unfolding copies
  copies-append b es fs =
      ap (count (carries i b)) (pairs-append (cable_seats i) es fs) ∙ count-append (carries i b) (pairs (cable_seats i) es)
      (pairs (cable_seats i) fs)

  each_pair : (P : Pair → Type 0) (es fs : List Entry) → Each P (pairs (cable_seats i) es) → Each P (pairs (cable_seats i) fs)
      → Each P (pairs (cable_seats i) (es ++ fs))
  each_pair P es fs h g =
      subst (Each P) (sym (pairs-append (cable_seats i) es fs)) (each-append P (pairs (cable_seats i) es) (pairs (cable_seats i) fs) h g)

  -- Entries after which each owed body was sent one time fewer than it ended or is under way, and the others equally
  -- often.
  pub record Keeps (owed : List ℕ → ℕ) (es : List Entry) : Type 0 where
    pub adds : (b : List ℕ) → (target b).net ≢ 0 → sent b es + owed b ≡ count (is_ended b) es + copies i b es
    pub right : Each (IsRight i) es
    pub hops_left : Each (HopsFine i) (pairs (cable_seats i) es)
    pub framed : Each (λ p. Framed p.frame.bytes) (pairs (cable_seats i) es)

  -- No body is owed.
  abbrev pub nothing : List ℕ → ℕ
  nothing b = 0

  keeps_none : Keeps nothing []
  unfolding copies
  keeps_none = record { adds = λ b some. refl; right = tt; hops_left = tt; framed = tt }

  -- The entries of one datagram, followed by others.
  keeps_more : (d : List ℕ) (hop : ℕ) (es fs : List Entry) → Does i any any d hop es → Keeps nothing fs
      → Keeps (λ b. one (same_bytes b d)) (es ++ fs)
  keeps_more d hop es fs does rest = record {
    adds = λ b some.
        let mine = does.adds b some in
        let theirs = rest.adds b some in
        let unsent = does.unsent b in
        let ended = count-append (is_ended b) es fs in
        let gone = count-append (is_sent b) es fs in
        let on = copies-append b es fs in
        omega (arith, mine, theirs, unsent, ended, gone, on);
    right = each-append (IsRight i) es fs does.right rest.right;
    hops_left = each_pair (HopsFine i) es fs does.hops_left rest.hops_left;
    framed = each_pair (λ p. Framed p.frame.bytes) es fs does.framed rest.framed;
  }

  -- A datagram that a station made.
  pub made_does : (N A : ℕ → Type 0) (stamp : ℕ) (l : Leg) → IsMade i l → ((s : ℕ) → N s) → ((c : ℕ) → A c)
      → Does i N A l.body l.hops (leg i stamp l)
  made_does N A stamp l made to at =
      let fresh = made.fresh in
      leg_does i ok N A stamp l (whole l.body made.whole) (omega (arith, fresh)) made.seated made.goes (λ a r c e own apart h.
      let w = owner_is i l.cable a r own in
      let far = near i ok r (target l.body).net c w.1 h in
      omega (arith, fresh, far)) (λ h. at l.cable) (λ a r e own apart. to r)

  keeps_said : (stamp : ℕ) (l : Leg) (fs : List Entry) → IsMade i l → Keeps nothing fs
      → Keeps nothing (Sent l.station l.body ∷ (leg i stamp l ++ fs))
  unfolding copies
  keeps_said stamp l fs made more =
      let rest = keeps_more l.body l.hops (leg i stamp l) fs (made_does any any stamp l made (λ s. tt) (λ c. tt)) more in
      record {
        adds = λ b some. let h = rest.adds b some in omega (arith, h);
        right = (tt, rest.right);
        hops_left = rest.hops_left;
        framed = rest.framed;
      }

  -- Each datagram that stations made was sent.
  pub said_keeps : (n : ℕ) (ls : List Leg) (es : List Entry) → Said i n ls es → Each (IsMade i) ls → Keeps nothing es
  said_keeps n ls es (Nothing m) made = keeps_none
  said_keeps n ls es (Another m stamp l more fs le said) made =
      keeps_said stamp l fs made.0 (said_keeps (stamp + stamps (leg i stamp l)) more fs said made.1)

  -- The body that is owed after a pair was taken, if the pair is a copy.
  abbrev pub owed_by : Pair → List ℕ → ℕ
  owed_by p b = one (carries i b p)

  handled_by : (stamp : ℕ) (p : Pair) (fs : List Entry) → Framed p.frame.bytes → HopsFine i p → Keeps nothing fs
      → Keeps (owed_by p) (fate i stamp p ++ fs)
  handled_by stamp p fs framed fine more = by (is_copy i p) refl
    where
      by : (b : Bool) → is_copy i p ≡ b → Keeps (owed_by p) (fate i stamp p ++ fs)
      by true e =
          let all = keeps_more (body p.frame.bytes) (hops p.frame.bytes + 1) (fate i stamp p) fs
          (fate_does i ok any any stamp p framed e fine (λ c h at. tt) (λ s d a on. tt)) more in
          record {
            adds = λ b some.
                let h = all.adds b some in
                let owed = ap (λ v. one (v && same_bytes b (body p.frame.bytes))) e in
                omega (arith, h, owed);
            right = all.right;
            hops_left = all.hops_left;
            framed = all.framed;
          }
      by false e =
          let none : fate i stamp p ≡ [] = ap (λ b. cond b (fate_by i stamp p.seat.station p
          (hand i p.seat.station (target p.frame.bytes).net)) []) e in
          subst (λ es. Keeps (owed_by p) (es ++ fs)) (sym none) (record {
            adds = λ b some.
                let h = more.adds b some in
                let owed = ap (λ v. one (v && same_bytes b (body p.frame.bytes))) e in
                omega (arith, h, owed);
            right = more.right;
            hops_left = more.hops_left;
            framed = more.framed;
          })

  pub handled_keeps : (n : ℕ) (p : Pair) (ls : List Leg) (es : List Entry) → Handled i n p ls es → Framed p.frame.bytes → HopsFine i p
      → Each (IsMade i) ls → Keeps (owed_by p) es
  handled_keeps n p ls es handled framed fine made =
      subst (Keeps (owed_by p)) (sym handled.whole) (handled_by handled.stamp p handled.rest framed fine
      (said_keeps (handled.stamp + stamps (fate i handled.stamp p)) ls handled.rest handled.said made))

  -- The invariant of a run.
  pub record Run (t : List Entry) : Type 0 where
    pub balance : (b : List ℕ) → (target b).net ≢ 0 → sent b t ≡ count (is_ended b) t + under_way i b t
    pub right : Each (IsRight i) t
    pub hops_left : Each (HopsFine i) (pairs (cable_seats i) t)
    pub framed : Each (λ p. Framed p.frame.bytes) (pairs (cable_seats i) t)

  -- Adds entries that end no pair, with new stamps.
  run_more : (t es : List Entry) (owed : List ℕ → ℕ) → Keeps owed es → Each EndsNone es → Rises (next_stamp t) es
      → Each (EndsBelow (next_stamp t)) t
      → ((b : List ℕ) → (target b).net ≢ 0 → sent b t ≡ count (is_ended b) t + under_way i b t + owed b)
      → Each (IsRight i) t → Each (HopsFine i) (pairs (cable_seats i) t) → Each (λ p. Framed p.frame.bytes) (pairs (cable_seats i) t)
      → Run (t ++ es)
  unfolding copies
  run_more t es owed keeps none new below balance right hops framed = record {
    balance = λ b some.
        let old = balance b some in
        let more = keeps.adds b some in
        let gone = count-append (is_sent b) t es in
        let ended = count-append (is_ended b) t es in
        let on : under_way i b (t ++ es) ≡ under_way i b t + copies i b es =
        pending_rises (cable_seats i) (one_seat i ok) (carries i b) t es (next_stamp t) below none new in
        omega (arith, old, more, gone, ended, on);
    right = each-append (IsRight i) t es right keeps.right;
    hops_left = each_pair (HopsFine i) t es hops keeps.hops_left;
    framed = each_pair (λ p. Framed p.frame.bytes) t es framed keeps.framed;
  }

  -- The invariant of the empty transcript.
  none_yet : Run []
  none_yet = record { balance = λ b some. refl; right = tt; hops_left = tt; framed = tt }

  -- What is known of a pair of a run.
  pub record Known (p : Pair) : Type 0 where
    pub framed : Framed p.frame.bytes
    pub fine : HopsFine i p

  -- The pairs of a run, by their places among the pending ones.
  pub known : (t : List Entry) (p : Pair) (k : ℕ) → Run t → At (pending (cable_seats i) t) k p → Known p
  known t p k r at =
      let w = filter_at (λ q. not (was_ended t q)) (pairs (cable_seats i) t) k p at in
      record {
        framed = each_at (λ q. Framed q.frame.bytes) (pairs (cable_seats i) t) w.0 p w.1 r.framed;
        fine = each_at (HopsFine i) (pairs (cable_seats i) t) w.0 p w.1 r.hops_left;
      }

  -- The invariant after a station took a frame.
  run_took : (t : List Entry) (p : Pair) (es : List Entry) → IsRising i t → Run t → Contains (pending (cable_seats i) t) p
      → Keeps (owed_by p) es → Each EndsNone es → Rises (next_stamp t) es → Run (t ++ Took p.frame.stamp p.seat.station ∷ es)
  run_took t p es rising r there keeps none new =
      let took = Took p.frame.stamp p.seat.station in
      let at = contained_at (pending (cable_seats i) t) p there in
      let less = λ (b : List ℕ). pending_less (cable_seats i) (one_seat i ok) (carries i b) t p at.0 (rising_once i t rising) at.1 in
      let all : Run ((t ++ took ∷ []) ++ es) =
      run_more (t ++ took ∷ []) es (owed_by p) keeps none (subst (λ n. Rises n es) (sym (next_after t took)) new)
      (took_below i t p rising there)
      (λ b some.
      let old = r.balance b some in
      let gone = count-append (is_sent b) t (took ∷ []) in
      let ended = count-append (is_ended b) t (took ∷ []) in
      let on = less b in
      omega (arith, old, gone, ended, on))
      (each-append (IsRight i) t (took ∷ []) r.right (tt, tt)) (each_pair (HopsFine i) t (took ∷ []) r.hops_left tt)
      (each_pair (λ q. Framed q.frame.bytes) t (took ∷ []) r.framed tt) in
      subst Run (append_assoc t (took ∷ []) es) all

  event : (t block : List Entry) → RisingBlock i t block → IsRising i t → Run t → Run (t ++ block)
  event t block (SendsOne l es made own said) rising r =
      run_more t es nothing (said_keeps (next_stamp t) (l ∷ []) es said (made, tt)) (said_ends_none i (next_stamp t) (l ∷ []) es said)
      (said_rises i (next_stamp t) (l ∷ []) es said) (rising_below i t rising)
      (λ b some. let h = r.balance b some in omega (arith, h)) r.right r.hops_left r.framed
  event t block (TakesOne p ls es there made its answers handled) rising r =
      let at = contained_at (pending (cable_seats i) t) p there in
      let q = known t p at.0 r at.1 in
      run_took t p es rising r there (handled_keeps (next_stamp t) p ls es handled q.framed q.fine made)
      (handled_ends_none i (next_stamp t) p ls es handled) (handled_rises i (next_stamp t) p ls es handled)

  pub rising_run : (t : List Entry) → IsRising i t → Run t
  rising_run t Starts = none_yet
  rising_run t (GoesOn front block rising b) = event front block b rising (rising_run front rising)

  pub run_is : (t : List Entry) → IsLegal i t → Run t
  run_is t legal = rising_run t (legal_rises i t legal)
