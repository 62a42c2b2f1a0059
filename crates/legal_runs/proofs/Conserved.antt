-- Conservation and hops left, from the invariant of a run.
use Rattle.std.proofs.Common.{◌≡◌, ◌≢◌, ℕ, ◌+◌, Bool, true, false, ◌&&◌, ◌==◌, List, Option, Some, None, refl, sym, ap, ◌∙◌, arith}
use Rattle.std.proofs.Common.{eq-eqb, eqb-true}
use Rattle.std.specs.List.{AllByRecursion as Each}
use Rattle.std.proofs.lemmas.Bool.{and_parts, false_from_ne_true}
use Rattle.at_base.specs.Text.{same_bytes}
use Rattle.at_base.proofs.Texts.{same_bytes_is}
use Rattle.ddp.specs.Bodies.{target}
use Rattle.table_image.specs.Internet.{Internet}
use Rattle.audit.specs.Routing.{home}
use Rattle.audit.specs.Rules.{Passes}
use Rattle.station.specs.declared.output.DropCause.TheVariants.{NoRoute, HopLimit}
use Rattle.cable_model.specs.Pending.{pending}
use Rattle.cable_model.specs.Transcript.{Entry, Sent, Put, Took, Reached, Dropped, Lost, Hold}
use Rattle.cable_model.proofs.Counting.{contained_at, count_agree, count_none, each_more}
use Rattle.legal_runs.specs.Counts.{HasHopsLeft, IsConserved, is_dropped, is_hop_limit, is_reached, under_way}
use Rattle.legal_runs.specs.Legal.{IsLegal}
use Rattle.legal_runs.specs.Stations.{cable_seats}
use Rattle.legal_runs.proofs.Does.{IsRight, is_ended}
use Rattle.legal_runs.proofs.Rising.{IsRising, legal_rises}
use Rattle.legal_runs.proofs.Runs.{Run, known, rising_run}
use Rattle.legal_runs.proofs.Seated.{listed_some}

module _ (i : Internet) where
  -- Equal bodies have the same home.
  home_of : (b d : List ℕ) → same_bytes b d ≡ true → home i (target b).net ≡ home i (target d).net
  home_of b d e = ap (λ x. home i (target x).net) (same_bytes_is b d e)

  -- Bodies with different homes differ.
  other_body : (b d : List ℕ) → home i (target b).net ≢ home i (target d).net → same_bytes b d ≡ false
  other_body b d apart = false_from_ne_true (same_bytes b d) (λ e. apart (home_of b d e))

  some_is : (c d : ℕ) → Some c ≡ Some d → c ≡ d
  some_is c d e = cc

  some_none : (c : ℕ) → Some c ≡ None → ⊥
  some_none c e = cc

  -- A datagram that reached a cable is not this body if the body's home is another.
  reached_is : (b : List ℕ) (o : Option ℕ) (c d : ℕ) (body : List ℕ) → home i (target b).net ≡ o → o ≢ Some d → home i
      (target body).net ≡ Some c
      → (c == d && same_bytes b body) ≡ false
  reached_is b o c d body h apart at =
      false_from_ne_true (c == d && same_bytes b body) (λ e.
      let w = and_parts (c == d) (same_bytes b body) e in
      apart (sym h ∙ (home_of b body w.1 ∙ (at ∙ ap Some (eqb-true _ _ w.0)))))

  -- ---- Entries that are right

  ended_at_home : (b : List ℕ) (c : ℕ) → home i (target b).net ≡ Some c → (e : Entry) → IsRight i e → is_ended b e ≡ is_reached b c e
  ended_at_home b c h (Sent s d) r = refl
  ended_at_home b c h (Put f) r = refl
  ended_at_home b c h (Took p s) r = refl
  ended_at_home b c h (Lost p) r = refl
  ended_at_home b c h (Hold held) r = refl
  ended_at_home b c h (Reached d s how body) r = by (same_bytes b body) refl
    where
      by : (v : Bool) → same_bytes b body ≡ v → v ≡ (d == c && v)
      by false e = sym (none (d == c))
        where
          none : (x : Bool) → (x && false) ≡ false
          none true = refl
          none false = refl
      by true e = sym (ap (λ x. x && true) (eq-eqb d c (some_is d c (sym r ∙ (sym (home_of b body e) ∙ h)))))
  ended_at_home b c h (Dropped s NoRoute body) r = other_body b body (λ e. some_none c (sym h ∙ (e ∙ r)))
  ended_at_home b c h (Dropped s HopLimit body) r = absurd r

  ended_nowhere : (b : List ℕ) → home i (target b).net ≡ None → (e : Entry) → IsRight i e → is_ended b e ≡ is_dropped b e
  ended_nowhere b h (Sent s d) r = refl
  ended_nowhere b h (Put f) r = refl
  ended_nowhere b h (Took p s) r = refl
  ended_nowhere b h (Lost p) r = refl
  ended_nowhere b h (Hold held) r = refl
  ended_nowhere b h (Reached d s how body) r = other_body b body (λ e. some_none d (sym r ∙ (sym e ∙ h)))
  ended_nowhere b h (Dropped s cause body) r = refl

  not_reached : (b : List ℕ) (o : Option ℕ) (d : ℕ) → home i (target b).net ≡ o → o ≢ Some d → (e : Entry) → IsRight i e
      → is_reached b d e ≡ false
  not_reached b o d h apart (Sent s x) r = refl
  not_reached b o d h apart (Put f) r = refl
  not_reached b o d h apart (Took p s) r = refl
  not_reached b o d h apart (Lost p) r = refl
  not_reached b o d h apart (Hold held) r = refl
  not_reached b o d h apart (Reached c s how body) r = reached_is b o c d body h apart r
  not_reached b o d h apart (Dropped s cause body) r = refl

  not_dropped : (b : List ℕ) (c : ℕ) → home i (target b).net ≡ Some c → (e : Entry) → IsRight i e → is_dropped b e ≡ false
  not_dropped b c h (Sent s x) r = refl
  not_dropped b c h (Put f) r = refl
  not_dropped b c h (Took p s) r = refl
  not_dropped b c h (Lost p) r = refl
  not_dropped b c h (Hold held) r = refl
  not_dropped b c h (Reached d s how body) r = refl
  not_dropped b c h (Dropped s NoRoute body) r = other_body b body (λ e. some_none c (sym h ∙ (e ∙ r)))
  not_dropped b c h (Dropped s HopLimit body) r = absurd r

  no_limit : (e : Entry) → IsRight i e → is_hop_limit e ≡ false
  no_limit (Sent s x) r = refl
  no_limit (Put f) r = refl
  no_limit (Took p s) r = refl
  no_limit (Lost p) r = refl
  no_limit (Hold held) r = refl
  no_limit (Reached c s how body) r = refl
  no_limit (Dropped s NoRoute body) r = refl
  no_limit (Dropped s HopLimit body) r = absurd r

  -- A property of every right entry holds of all entries of a run.
  all_of : (ok : Passes i) (t : List Entry) → Run i ok t → (P : Entry → Type 0) → ((e : Entry) → IsRight i e → P e) → Each P t
  all_of ok t r P f = each_more (IsRight i) P t f r.right

pub rising_conserved : (i : Internet) (t : List Entry) → Passes i → IsRising i t → IsConserved i t
rising_conserved i t ok rising =
    let r = rising_run i ok t rising in
    record {
      listed = λ b c h. record {
        counted =
            let some : (target b).net ≢ 0 = λ z. (let low = listed_some i ok (target b).net c h in absurd (omega (arith, low, z))) in
            r.balance b some ∙ ap (λ n. n + under_way i b t)
            (count_agree (is_ended b) (is_reached b c) t (all_of i ok t r (λ e. is_ended b e ≡ is_reached b c e) (ended_at_home i b c h)));
        elsewhere =
            λ d apart. count_none (is_reached b d) t
            (all_of i ok t r (λ e. is_reached b d e ≡ false) (not_reached i b (Some c) d h (λ e. apart (sym (some_is i c d e)))));
        kept = count_none (is_dropped b) t (all_of i ok t r (λ e. is_dropped b e ≡ false) (not_dropped i b c h));
      };
      unlisted = λ b h some. record {
        counted =
            r.balance b some ∙ ap (λ n. n + under_way i b t)
            (count_agree (is_ended b) (is_dropped b) t (all_of i ok t r (λ e. is_ended b e ≡ is_dropped b e) (ended_nowhere i b h)));
        nowhere =
            λ c. count_none (is_reached b c) t
            (all_of i ok t r (λ e. is_reached b c e ≡ false) (not_reached i b None c h (λ e. some_none i c (sym e))));
      };
      no_hop_limit = count_none is_hop_limit t (all_of i ok t r (λ e. is_hop_limit e ≡ false) (no_limit i));
    }

pub rising_hops : (i : Internet) (t : List Entry) → Passes i → IsRising i t → HasHopsLeft i t
rising_hops i t ok rising p c there copy h =
    let at = contained_at (pending (cable_seats i) t) p there in
    (known i ok t p at.0 (rising_run i ok t rising) at.1).fine c copy h

pub conserved : (i : Internet) (t : List Entry) → Passes i → IsLegal i t → IsConserved i t
conserved i t ok legal = rising_conserved i t ok (legal_rises i t legal)

pub hops_are_left : (i : Internet) (t : List Entry) → Passes i → IsLegal i t → HasHopsLeft i t
hops_are_left i t ok legal = rising_hops i t ok (legal_rises i t legal)
