-- Changes of one slot of the open transactions.
use Rattle.std.proofs.Common.{◌≡◌, ◌≢◌, ℕ, zero, suc, ◌+◌, ◌<◌, ◌≤◌, cond, List, [], ◌∷◌, Option, Some, None, is_some, IsSome, get_or}
use Rattle.std.proofs.Common.{set, count_by, refl, sym, ap, subst, ◌∙◌, inl, inr, arith}
use Rattle.std.specs.Option.{option_map}
use Rattle.std.proofs.lemmas.Bool.{cases_eq}
use Rattle.std.proofs.lemmas.List.Sums.{sum_by-cons}
use Rattle.slab.specs.Slab.{Slab, get, slab_len, with_value, Updates}
use Rattle.slab.proofs.SlabLemmas.{Updates-with_value}
use Rattle.atp.specs.declared.ask.Ask.{Ask}
use Rattle.atp.specs.declared.transaction.Transaction.{Transaction}
use Rattle.atp.specs.Requesting.{known, AreApart, AllSendable, IsSendable}
use Rattle.atp.specs.Slots.{IsTable, Put}
use Rattle.atp.proofs.Known.{known_at, known_is, known_none, not_known, apart_after, apart_removed, others_known}

abbrev tally : Option Transaction → ℕ
tally o = cond (is_some o) 1 0

-- replacing a transaction keeps the count
count_set : (slots : List (Option Transaction)) (key : ℕ) (t u : Transaction) → get_or slots key None ≡ Some t
    → count_by is_some (set slots key (Some u)) ≡ count_by is_some slots
count_set [] key t u e = refl
count_set (o ∷ slots) zero t u e =
    let a = sum_by-cons tally (Some u) slots in
    let b = sum_by-cons tally o slots in
    let c : tally o ≡ 1 = rw e refl in
    omega (arith, a, b, c)
count_set (o ∷ slots) (suc key) t u e =
    let a = sum_by-cons tally o (set slots key (Some u)) in
    let b = sum_by-cons tally o slots in
    omega (arith, a, b, count_set slots key t u e)

-- no other slot has the ID of this one
no_other : (old : Slab Transaction) (key : ℕ) (t : Transaction) → AreApart old.slots → get old key ≡ Some t → (k : ℕ) (v : Transaction)
    → k ≢ key → get old k ≡ Some v → v.id ≢ t.id
no_other old key t h e k v kn b same = kn (h k key v t b e same)

sendable_after : (old new : Slab Transaction) (key : ℕ) (u : Transaction) → AllSendable old.slots → Updates old new key (Some u)
    → IsSendable u.ask → AllSendable new.slots
sendable_after old new key u h up is k v e =
    elim (cases_eq k key) [
      | inl kk ↦
          let at : get new key ≡ Some v = subst (λ (i : ℕ). get new i ≡ Some v) kk e in
          let same : u ≡ v = (let r : Some u ≡ Some v = sym up.changed ∙ at in cc) in
          subst (λ (x : Transaction). IsSendable x.ask) same is
      | inr kn ↦ h k v (sym (up.others k kn) ∙ e)
    ]

sendable_removed : (old new : Slab Transaction) (key : ℕ) → AllSendable old.slots → Updates old new key None → AllSendable new.slots
sendable_removed old new key h up k v e =
    elim (cases_eq k key) [
      | inl kk ↦
          let at : get new key ≡ Some v = subst (λ (i : ℕ). get new i ≡ Some v) kk e in
          absurd (let r : Some v ≡ None = sym at ∙ up.changed in cc)
      | inr kn ↦ h k v (sym (up.others k kn) ∙ e)
    ]

-- a transaction is replaced
pub put : (old new : Slab Transaction) (key : ℕ) (t u : Transaction) → IsTable old → get old key ≡ Some t → u.id ≡ t.id → u.ask ≡ t.ask
    → new ≡ with_value old key u → Put old new t.id (Some u)
put old new key t u h e same asked is =
    let there : IsSome (get old key) = rw e refl in
    let up : Updates old new key (Some u) = subst (λ (s : Slab Transaction). Updates old s key (Some u)) (sym is)
    (Updates-with_value old key u there) in
    let ask : IsSendable u.ask = subst (λ (a : Ask). IsSendable a) (sym asked) (h.sendable key t e) in
    let apart : AreApart new.slots = apart_after old new key u h.apart up
    (λ k v kn b w. no_other old key t h.apart e k v kn b (w ∙ same)) in
    let len : slab_len new ≡ slab_len old = ap (λ (s : Slab Transaction). slab_len s) is ∙ count_set old.slots key t u e in
    let few = h.few in
    let room : 32 ≤ new.capacity = subst (λ (s : Slab Transaction). 32 ≤ s.capacity) (sym is) h.room in
    record {
      table = record {
        apart = apart;
        sendable = sendable_after old new key u h.sendable up ask;
        few = omega
            (arith, len, few);
        room = room;
      };
      here = subst (λ (n : ℕ). known n new.slots ≡ Some u) same (known_is new.slots key u apart up.changed);
      others = λ other differs. others_known old new key other (Some u) h.apart apart up
          (λ v b w. (let r : Some v ≡ Some t = sym b ∙ e in let vt : v ≡ t = cc in differs (sym w ∙ ap (λ (x : Transaction). x.id) vt)))
          (λ v b w. (let vu : v ≡ u = cc in differs (sym w ∙ ap (λ (x : Transaction). x.id) vu ∙ same)));
    }

-- a transaction is put into a vacant slot
pub added : (old new : Slab Transaction) (key : ℕ) (t : Transaction) → IsTable old → slab_len old < 32 → known t.id old.slots ≡ None
    → IsSendable t.ask → get old key ≡ None
    → Updates old new key (Some t) → slab_len new ≡ slab_len old + 1 → old.capacity ≤ new.capacity → Put old new t.id (Some t)
added old new key t h some fresh ask vacant up len cap =
    let apart : AreApart new.slots = apart_after old new key t h.apart up (λ k v kn b. not_known t.id old.slots k v h.apart fresh b) in
    let room = h.room in
    record {
      table = record {
        apart = apart;
        sendable = sendable_after old new key t h.sendable up ask;
        few = omega
            (arith, len, some);
        room = omega (arith, cap, room);
      };
      here = known_is new.slots key t apart up.changed;
      others = λ other differs. others_known old new key other (Some t) h.apart apart up
          (λ v b. absurd (let r : Some v ≡ None = sym b ∙ vacant in cc))
          (λ v b w. (let vt : v ≡ t = cc in differs (sym w ∙ ap (λ (x : Transaction). x.id) vt)));
    }

-- a transaction is removed
pub removed : (old new : Slab Transaction) (key : ℕ) (t : Transaction) → IsTable old → get old key ≡ Some t → Updates old new key None
    → slab_len new + 1 ≡ slab_len old → new.capacity ≡ old.capacity → Put old new t.id None
removed old new key t h e up len cap =
    let apart : AreApart new.slots = apart_removed old new key h.apart up in
    let room = h.room in
    let few = h.few in
    let gone : (k : ℕ) (v : Transaction) → get new k ≡ Some v
    → v.id ≢ t.id = λ (k : ℕ) (v : Transaction) (b : get new k ≡ Some v). (elim (cases_eq k key) as (λ c. v.id ≢ t.id) [
      | inl kk ↦
          let at : get new key ≡ Some v = subst (λ (i : ℕ). get new i ≡ Some v) kk b in
          absurd (let r : Some v ≡ None = sym at ∙ up.changed in cc)
      | inr kn ↦ no_other old key t h.apart e k v kn (sym (up.others k kn) ∙ b)
    ]) in
    record {
      table = record {
        apart = apart;
        sendable = sendable_removed old new key h.sendable up;
        few = omega (arith, len, few);
        room = omega
            (arith, cap, room);
      };
      here = known_none t.id new.slots gone;
      others = λ other differs. others_known old new key other None h.apart apart up
          (λ v b w. (let r : Some v ≡ Some t = sym b ∙ e in let vt : v ≡ t = cc in differs (sym w ∙ ap (λ (x : Transaction). x.id) vt)))
          (λ v b. absurd cc);
    }

-- ---- every slot changes

pub all_known : (f : Transaction → Transaction) → ((t : Transaction) → (f t).id ≡ t.id) → (old new : List (Option Transaction))
    → AreApart old → AreApart new
    → ((k : ℕ) → get_or new k None ≡ option_map f (get_or old k None)) → (id : ℕ) → known id new ≡ option_map f (known id old)
all_known f same old new ho hn each id =
    (elim (known id old) as (λ (o : Option Transaction). known id old ≡ o → known id new ≡ option_map f o) [
      | None ↦ λ e. known_none id new (λ k u a. of_old k u (get_or old k None) refl (sym a ∙ each k) (λ t b. not_known id old k t ho e b))
      | Some t ↦ λ e.
          let r = known_at id old t e in
          let at : get_or new r.0 None ≡ Some (f t) = each r.0 ∙ ap (option_map f) r.1 in
          subst (λ (n : ℕ). known n new ≡ Some (f t)) (same t ∙ r.2) (known_is new r.0 (f t) hn at)
    ]) refl
  where
    of_old : (k : ℕ) (u : Transaction) (o : Option Transaction) → get_or old k None ≡ o → Some u ≡ option_map f o
        → ((t : Transaction) → o ≡ Some t → t.id ≢ id) → u.id ≢ id
    of_old k u None e a h = absurd cc
    of_old k u (Some t) e a h = let ut : u ≡ f t = cc in λ w. h t refl (sym (same t) ∙ sym (ap (λ (x : Transaction). x.id) ut) ∙ w)

-- nothing changes
pub same_put : (s : Slab Transaction) (key : ℕ) (t : Transaction) → IsTable s → get s key ≡ Some t → Put s s t.id (Some t)
same_put s key t h e = record { table = h; here = known_is s.slots key t h.apart e; others = λ other differs. refl }
