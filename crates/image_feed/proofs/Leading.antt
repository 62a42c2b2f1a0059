-- Laws of reading in pieces.
use Rattle.std.proofs.Common.{◌≡◌, ◌∙◌, ℕ, zero, suc, ◌+◌, Bool, true, List, [], ◌∷◌, ◌++◌, length, Option, Some, None, Result, Ok, Err}
use Rattle.std.proofs.Common.{IfOk, IfErr, IfSome, IsSome, OnOk, is_some, false, refl, sym, ap, subst, inl, inr, ◌⊎◌, arith}
use Rattle.std.specs.Prelude.{◌≢◌}
use Rattle.std.proofs.lemmas.Bool.{eqb-true}
use Rattle.at_base.specs.Grammar.{Field, Grammar, Size, one}
use Rattle.at_base.specs.Reading.{◌>>=◌, field_at, list_at, read}
use Rattle.at_base.proofs.Prefixes.{Stays, field_more, field_stays, read_more, read_stays}
use Rattle.table_image.specs.Flaws.{Wrong, Here, Before, fault_of, faults}
use Rattle.table_image.specs.declared.flaw.Fault.{Fault}
use Rattle.image_feed.specs.declared.stop.Stop.{Stop}
use Rattle.image_feed.specs.declared.stop.Stop.TheVariants as stops
use Rattle.table_image.proofs.Loop.{regroup}
use Rattle.image_feed.specs.Growing.{Advances, Denies, IsCut, Leads, Steps, StopsAt, begun_on, count_on, counted_on, growth_on, items_on, later, like_of, none_left}

-- ---- one step after another

pub leads_then : {R : Type 0} (a b d : List ℕ → R) (bytes rest end : List ℕ) → Leads a bytes b rest → Leads b rest d end
    → Leads a bytes d end
leads_then a b d bytes rest end first second = λ more. first more ∙ second more

pub stops_then : {A : Type 0} (a b : List ℕ → Result A Fault) (bytes rest : List ℕ) (e : Stop) → Leads a bytes b rest
    → StopsAt b rest e → StopsAt a bytes e
stops_then a b bytes rest stops.Memory first second = tt
stops_then a b bytes rest (stops.Refused f) first second = (second.0, λ more. first more ∙ second.1 more)

pub advances_then : {A X : Type 0} (view : X → List ℕ) (a b d : List ℕ → Result A Fault) (bytes rest : List ℕ) (whole : Bool) (result : Result X Stop)
    → Leads a bytes b rest → Advances view b rest d whole result → Advances view a bytes d whole result
advances_then view a b d bytes rest whole (Ok x) first second = (leads_then a b d bytes rest (view x) first second.0, second.1)
advances_then view a b d bytes rest whole (Err e) first second = stops_then a b bytes rest e first second

-- ---- what comes after a part

module _ {A B : Type 0} (k : A → Result B Fault) where
  pub leads_bind : (a b : List ℕ → Result A Fault) (bytes rest : List ℕ) → Leads a bytes b rest
      → Leads (λ x. a x >>= k) bytes (λ x. b x >>= k) rest
  leads_bind a b bytes rest first = λ more. ap (λ (m : Result A Fault). m >>= k) (first more)

  pub stops_bind : (a : List ℕ → Result A Fault) (bytes : List ℕ) (e : Stop) → StopsAt a bytes e → StopsAt (λ x. a x >>= k) bytes e
  stops_bind a bytes stops.Memory h = tt
  stops_bind a bytes (stops.Refused f) h = (h.0, λ more. ap (λ (m : Result A Fault). m >>= k) (h.1 more))

  pub cut_bind : (a : List ℕ → Result A Fault) (bytes : List ℕ) → IsCut a bytes → IsCut (λ x. a x >>= k) bytes
  cut_bind a bytes h = ap (λ (m : Result A Fault). m >>= k) h

  pub advances_bind : {X : Type 0} (view : X → List ℕ) (a b : List ℕ → Result A Fault) (bytes : List ℕ) (whole : Bool) (result : Result X Stop)
      → Advances view a bytes b whole result → Advances view (λ x. a x >>= k) bytes (λ x. b x >>= k) whole result
  advances_bind view a b bytes whole (Ok x) h = (
    leads_bind a b bytes (view x) h.0,
    elim h.1 as (λ _. (whole ≡ true) ⊎ IsCut (λ x. b x >>= k) (view x)) [ inl all ↦ inl all | inr cut ↦ inr (cut_bind b (view x) cut) ],
  )
  advances_bind view a b bytes whole (Err e) h = stops_bind a bytes e h

-- ---- fields and parts

later_is : (n left : ℕ) (w : Wrong) → later n (fault_of left w) ≡ fault_of (left + n) w
later_is n left (Here cause) = refl
later_is n left (Before k cause) =
    let sum : (k + left) + n ≡ k + (left + n) = omega arith in
    ap (λ (m : ℕ). record { left = m; cause = cause }) sum

denies_of : {A : Type 0} (a : List ℕ → Result A Fault) (bytes : List ℕ) (f : Fault) → f ≢ faults.cut
    → ((more : List ℕ) → Stays faults (length more) f (a (bytes ++ more))) → Denies a bytes f
denies_of {A} a bytes f other stays = (other, λ more. by more (stays more))
  where
    by : (more : List ℕ) → Stays faults (length more) f (a (bytes ++ more)) → a (bytes ++ more) ≡ Err (later (length more) f)
    by more (inl cut) = absurd (other cut)
    by more (inr (left, w, is, h)) = h ∙ ap (λ (g : Fault). Err g) (sym (ap (later (length more)) is ∙ later_is (length more) left w))

pub leads_read : {A : Type 0} (g : Grammar Wrong true A) (bytes : List ℕ) (x : A) (rest : List ℕ) → read faults g bytes ≡ Ok (x, rest)
    → Leads (read faults g) bytes (λ b. Ok (x, b)) rest
leads_read g bytes x rest e = λ more. read_more faults g bytes more (x, rest) e

pub denies_read : {A : Type 0} (g : Grammar Wrong true A) (bytes : List ℕ) (f : Fault) → read faults g bytes ≡ Err f → f ≢ faults.cut
    → Denies (read faults g) bytes f
denies_read g bytes f e other = denies_of (read faults g) bytes f other (λ more. read_stays faults g bytes more f e)

pub leads_field : {V : Type 0} (fd : Field Wrong V) (bytes : List ℕ) (x : V) (rest : List ℕ) → field_at faults fd bytes ≡ Ok (x, rest)
    → Leads (field_at faults fd) bytes (λ b. Ok (x, b)) rest
leads_field fd bytes x rest e = λ more. field_more faults fd bytes more (x, rest) e

pub denies_field : {V : Type 0} (fd : Field Wrong V) (bytes : List ℕ) (f : Fault) → field_at faults fd bytes ≡ Err f → f ≢ faults.cut
    → Denies (field_at faults fd) bytes f
denies_field fd bytes f e other = denies_of (field_at faults fd) bytes f other (λ more. field_stays faults fd bytes more f e)

-- ---- the next of several parts

module _ {B : Type 0} (item : ℕ → Grammar Wrong true B) (next : B → ℕ) where
  pub items_next : (front : List B) (low n : ℕ) (bytes : List ℕ) (x : B) (rest : List ℕ) → read faults (item low) bytes ≡ Ok (x, rest)
      → items_on item next front low (suc n) bytes ≡ items_on item next (front ++ x ∷ []) (next x) n rest
  items_next front low n bytes x rest e =
      rw e (regroup front x (list_at (λ low. read faults (item low)) next (next x) n rest))

  pub items_step : (front : List B) (low n : ℕ) (bytes : List ℕ) (x : B) (rest : List ℕ) → read faults (item low) bytes ≡ Ok (x, rest)
      → Leads (items_on item next front low (suc n)) bytes (items_on item next (front ++ x ∷ []) (next x) n) rest
  items_step front low n bytes x rest e =
      λ more. items_next front low n (bytes ++ more) x (rest ++ more) (read_more faults (item low) bytes more (x, rest) e)

  pub items_stop : (front : List B) (low n : ℕ) (bytes : List ℕ) (f : Fault) → read faults (item low) bytes ≡ Err f → f ≢ faults.cut
      → Denies (items_on item next front low (suc n)) bytes f
  items_stop front low n bytes f e other =
      let d = denies_read (item low) bytes f e other in
      (other, λ more. rw (d.1 more) refl)

  pub items_cut : (front : List B) (low n : ℕ) (bytes : List ℕ) → read faults (item low) bytes ≡ Err faults.cut
      → IsCut (items_on item next front low (suc n)) bytes
  items_cut front low n bytes e = rw e refl

  -- no more parts
  pub items_none : (front : List B) (low : ℕ) (bytes : List ℕ) → items_on item next front low 0 bytes ≡ Ok (front, bytes)
  items_none front low bytes = ap (λ (l : List B). Ok (l, bytes)) (append_nil_is front)
    where
      append_nil_is : (l : List B) → l ++ [] ≡ l
      append_nil_is [] = refl
      append_nil_is (a ∷ l) = ap (λ (k : List B). a ∷ k) (append_nil_is l)

-- ---- bytes that end too early, or a fault

-- a reader waits for more bytes if these only end too early, or else refuses them
pub steps_stop : {A X : Type 0} (view : X → List ℕ) (a : List ℕ → Result A Fault) (bytes : List ℕ) (f : Fault) (result : Result (Option X) Stop)
    → IfOk result (λ o. (o ≡ None) × (f ≡ faults.cut)) → IfErr result (λ e. (e ≡ stops.Refused f) × (f ≢ faults.cut))
    → (f ≡ faults.cut → IsCut a bytes) → (f ≢ faults.cut → Denies a bytes f) → Steps view a bytes a result
steps_stop view a bytes f (Ok None) waits refused cut other = ((λ more. refl), cut waits.1)
steps_stop view a bytes f (Ok (Some x)) waits refused cut other = absurd (let no : Some x ≡ None = waits.0 in cc)
steps_stop view a bytes f (Err e) waits refused cut other = subst (StopsAt a bytes) (sym refused.0) (other refused.1)

pub advances_stop : {A X : Type 0} (view : X → List ℕ) (a : List ℕ → Result A Fault) (bytes : List ℕ) (f : Fault) (whole : Bool) (result : Result X Stop)
    → IfOk result (λ x. (view x ≡ bytes) × (f ≡ faults.cut)) → IfErr result (λ e. (e ≡ stops.Refused f) × (f ≢ faults.cut))
    → (f ≡ faults.cut → IsCut a bytes) → (f ≢ faults.cut → Denies a bytes f) → Advances view a bytes a whole result
advances_stop view a bytes f whole (Ok x) waits refused cut other =
    rw waits.0 ((λ more. refl), inr (cut waits.1))
advances_stop view a bytes f whole (Err e) waits refused cut other = subst (StopsAt a bytes) (sym refused.0) (other refused.1)

-- a result that is none says nothing of what is found
pub none_found : {X : Type 0} (P : X → Type 0) (f : Fault) (result : Result (Option X) Stop) → IfOk result (λ o. (o ≡ None) × (f ≡ faults.cut)) → IfOk result (λ o. IfSome o P)
none_found P f (Ok None) h = tt
none_found P f (Ok (Some x)) h = absurd (let no : Some x ≡ None = h.0 in cc)
none_found P f (Err e) h = tt

pub none_of : {A : Type 0} (o : Option A) → is_some o ≡ false → o ≡ None
none_of None h = refl
none_of (Some x) h = cc

pub some_of : {A : Type 0} (o : Option A) → is_some o ≡ true → (x : A) × (o ≡ Some x)
some_of None h = cc
some_of (Some x) h = (x, refl)

-- ---- counted lists

module _ {B : Type 0} (item : ℕ → Grammar Wrong true B) (next : B → ℕ) where
  -- once the count was read, its limit doesn't matter
  pub counted_any : (size other_size : Size) (limit other : ℕ) (left : Option ℕ) (front : List B) (low : ℕ) (bytes : List ℕ) → IsSome left
      → counted_on size limit item next left front low bytes ≡ counted_on other_size other item next left front low bytes
  counted_any size other_size limit other (Some n) front low bytes some = refl
  counted_any size other_size limit other None front low bytes some = cc

  -- the count was read, and then parts
  pub counted_then : {X : Type 0} (view : X → List ℕ) (size : Size) (limit : ℕ) (left read_left after_left : Option ℕ) (front after : List B) (low after_low : ℕ)
      (bytes rest : List ℕ) (result : Result X Stop)
      → Leads (count_on size limit left) bytes (count_on size limit read_left) rest → IsSome read_left
      → OnOk result (IsSome after_left)
      → Advances view (counted_on one 0 item next read_left front low) rest (counted_on one 0 item next after_left after after_low) (none_left after_left) result
      → Advances view (counted_on size limit item next left front low) bytes (counted_on size limit item next after_left after after_low) (none_left after_left) result
  counted_then view size limit left read_left after_left front after low after_low bytes rest (Ok x) first some stays second =
      let k : ℕ × List ℕ → Result (List B × List ℕ) Fault = λ x. items_on item next front low x.0 x.1 in (
        λ more. leads_bind k (count_on size limit left) (count_on size limit read_left) bytes rest first more
            ∙ (counted_any size one limit 0 read_left front low (rest ++ more) some
            ∙ (second.0 more ∙ counted_any one size 0 limit after_left after after_low (view x ++ more) stays)),
        elim second.1 as (λ _. (none_left after_left ≡ true) ⊎ IsCut (counted_on size limit item next after_left after after_low) (view x)) [
          | inl whole ↦ inl whole
          | inr cut ↦ inr (counted_any size one limit 0 after_left after after_low (view x) stays ∙ cut)
        ],
      )
  counted_then view size limit left read_left after_left front after low after_low bytes rest (Err e) first some stays second =
      let k : ℕ × List ℕ → Result (List B × List ℕ) Fault = λ x. items_on item next front low x.0 x.1 in
      stops_then (counted_on size limit item next left front low) (counted_on one 0 item next read_left front low) bytes rest e
      (λ more. leads_bind k (count_on size limit left) (count_on size limit read_left) bytes rest first more
      ∙ counted_any size one limit 0 read_left front low (rest ++ more) some) second

pub on_ok : {X E : Type 0} {P : Type 0} (result : Result X E) → P → OnOk result P
on_ok (Ok x) p = p
on_ok (Err e) p = tt

pub none_left_is : (left : Option ℕ) → none_left left ≡ true → left ≡ Some 0
none_left_is None h = cc
none_left_is (Some n) h = ap (λ (n : ℕ). Some n) (eqb-true n 0 h)

-- ---- the next of several parts, where it was begun

module _ {B : Type 0} (item : ℕ → Grammar Wrong true B) (next : B → ℕ) where
  -- nothing was read of the next part
  pub begun_fresh : (begun : List ℕ → Result (B × List ℕ) Fault) (front : List B) (low n : ℕ) (bytes : List ℕ)
      → begun bytes ≡ read faults (item low) bytes → begun_on item next begun front n bytes ≡ items_on item next front low n bytes
  begun_fresh begun front low zero bytes same = sym (items_none item next front low bytes)
  begun_fresh begun front low (suc n) bytes same = rw same (by (read faults (item low) bytes) refl)
    where
      by : (r : Result (B × List ℕ) Fault) → read faults (item low) bytes ≡ r
          → (r >>= λ x. items_on item next (front ++ x.0 ∷ []) (next x.0) n x.1) ≡ items_on item next front low (suc n) bytes
      by (Ok x) e = sym (items_next item next front low n bytes x.0 x.1 e)
      by (Err f) e = sym (rw e refl)

  -- all of the next part was read
  pub begun_whole : (begun : List ℕ → Result (B × List ℕ) Fault) (front : List B) (n : ℕ) (bytes : List ℕ) (x : B)
      → begun bytes ≡ Ok (x, bytes) → begun_on item next begun front (suc n) bytes ≡ items_on item next (front ++ x ∷ []) (next x) n bytes
  begun_whole begun front n bytes x e = rw e refl

  -- more of the next part was read
  pub begun_advances : {X : Type 0} (view : X → List ℕ) (a b : List ℕ → Result (B × List ℕ) Fault) (front : List B) (n : ℕ) (bytes : List ℕ)
      (whole : Bool) (result : Result X Stop) → Advances view a bytes b whole result
      → Advances view (begun_on item next a front (suc n)) bytes (begun_on item next b front (suc n)) whole result
  begun_advances view a b front n bytes whole result h =
      advances_bind (λ x. items_on item next (front ++ x.0 ∷ []) (next x.0) n x.1) view a b bytes whole result h

-- ---- one list after another

module _ {A B X : Type 0} (view : X → List ℕ) (a b : List ℕ → Result (A × List ℕ) Fault) (k : A → List ℕ → Result B Fault) where
  -- the first list isn't whole
  pub first_waits : (bytes : List ℕ) (x : X) (part whole : Bool) → Advances view a bytes b part (Ok x) → part ≡ false
      → Advances view (λ y. a y >>= λ p. k p.0 p.1) bytes (λ y. b y >>= λ p. k p.0 p.1) whole (Ok x)
  first_waits bytes x part whole h less = (
    leads_bind (λ p. k p.0 p.1) a b bytes (view x) h.0,
    elim h.1 as (λ _. (whole ≡ true) ⊎ IsCut (λ y. b y >>= λ p. k p.0 p.1) (view x)) [
      | inl all ↦ absurd (let no : true ≡ false = sym all ∙ less in cc)
      | inr cut ↦ inr (cut_bind (λ p. k p.0 p.1) b (view x) cut)
    ],
  )

  -- the first list is whole, and the second goes on
  pub second_goes : (l : A → List ℕ → Result B Fault) (bytes rest : List ℕ) (v : A) (whole : Bool) (result : Result X Stop)
      → Leads a bytes b rest → ((y : List ℕ) → b y ≡ Ok (v, y)) → Advances view (k v) rest (l v) whole result
      → Advances view (λ y. a y >>= λ p. k p.0 p.1) bytes (λ y. b y >>= λ p. l p.0 p.1) whole result
  second_goes l bytes rest v whole (Ok x) first is second = (
    λ more. leads_bind (λ p. k p.0 p.1) a b bytes rest first more
        ∙ (ap (λ (m : Result (A × List ℕ) Fault). m >>= λ p. k p.0 p.1) (is (rest ++ more)) ∙ (second.0 more
        ∙ sym (ap (λ (m : Result (A × List ℕ) Fault). m >>= λ p. l p.0 p.1) (is (view x ++ more))))),
    elim second.1 as (λ _. (whole ≡ true) ⊎ IsCut (λ y. b y >>= λ p. l p.0 p.1) (view x)) [
      | inl all ↦ inl all
      | inr cut ↦ inr (ap (λ (m : Result (A × List ℕ) Fault). m >>= λ p. l p.0 p.1) (is (view x)) ∙ cut)
    ],
  )
  second_goes l bytes rest v whole (Err e) first is second =
      stops_then (λ y. a y >>= λ p. k p.0 p.1) (k v) bytes rest e
      (λ more. leads_bind (λ p. k p.0 p.1) a b bytes rest first more
      ∙ ap (λ (m : Result (A × List ℕ) Fault). m >>= λ p. k p.0 p.1) (is (rest ++ more))) second

-- all of a counted list was read
pub counted_whole : {B : Type 0} (size : Size) (limit : ℕ) (item : ℕ → Grammar Wrong true B) (next : B → ℕ) (left : Option ℕ) (front : List B) (low : ℕ)
    → none_left left ≡ true → (bytes : List ℕ) → counted_on size limit item next left front low bytes ≡ Ok (front, bytes)
counted_whole size limit item next left front low whole bytes = rw (none_left_is left whole) (items_none item next front low bytes)

-- ---- lists of large parts

pub bind_same : {A B : Type 0} (m : Result A Fault) (f g : A → Result B Fault) → ((x : A) → f x ≡ g x) → (m >>= f) ≡ (m >>= g)
bind_same (Ok x) f g e = e x
bind_same (Err q) f g e = refl

begun_same : {B : Type 0} (item : ℕ → Grammar Wrong true B) (next : B → ℕ) (a b : List ℕ → Result (B × List ℕ) Fault) (front : List B) (n : ℕ)
    (bytes : List ℕ) → a bytes ≡ b bytes → begun_on item next a front n bytes ≡ begun_on item next b front n bytes
begun_same item next a b front zero bytes e = refl
begun_same item next a b front (suc n) bytes e = rw e refl

module _ {B S : Type 0} (limit : ℕ) (item : Grammar Wrong true B) (goes_on : Option B → S → List ℕ → Result (B × List ℕ) Fault) where
  -- all of a list was read
  pub growth_whole : (left : Option ℕ) (items : List B) (hint : Option B) (next : S) → none_left left ≡ true → (bytes : List ℕ)
      → growth_on limit item goes_on left items hint next bytes ≡ Ok (items, bytes)
  growth_whole left items hint next whole bytes = rw (none_left_is left whole) refl

  -- as long as nothing was read of the next part, it doesn't matter what that may be like
  pub growth_hint : (left : Option ℕ) (items : List B) (hint other : Option B) (next : S)
      → ((like : Option B) (bytes : List ℕ) → goes_on like next bytes ≡ read faults item bytes) → (bytes : List ℕ)
      → growth_on limit item goes_on left items hint next bytes ≡ growth_on limit item goes_on left items other next bytes
  growth_hint left items hint other next new bytes =
      bind_same (count_on one limit left bytes) _ _ (λ x.
      begun_same (λ low. item) (λ y. 0) (goes_on (like_of items hint) next) (goes_on (like_of items other) next) items x.0 x.1
      (new (like_of items hint) x.1 ∙ sym (new (like_of items other) x.1)))

  -- nothing was read of a list
  pub growth_new : (left : Option ℕ) (items : List B) (hint : Option B) (next : S) (bytes : List ℕ) → left ≡ None → items ≡ []
      → ((like : Option B) (bytes : List ℕ) → goes_on like next bytes ≡ read faults item bytes)
      → growth_on limit item goes_on left items hint next bytes ≡ counted_on one limit (λ low. item) (λ y. 0) None [] 0 bytes
  growth_new left items hint next bytes none nil new =
      ap (λ (l : Option ℕ). growth_on limit item goes_on l items hint next bytes) none
      ∙ (ap (λ (l : List B). growth_on limit item goes_on None l hint next bytes) nil
      ∙ bind_same (count_on one limit None bytes) _ _ (λ x.
      begun_fresh (λ low. item) (λ y. 0) (goes_on hint next) [] 0 x.0 x.1 (new hint x.1)))
