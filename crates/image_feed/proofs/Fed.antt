-- Feeds: what they have read.
use Rattle.std.proofs.Common.{Some, ◌≡◌, ◌∙◌, ℕ, zero, suc, ◌∷◌, ◌&&◌, subst, ◌+◌, ◌-◌, ◌≤◌, ◌<◌, ◌^◌, Bool, true, false, cond, eqb, List, [], ◌++◌, length, Option, None, Result, Ok, Err}
use Rattle.std.proofs.Common.{refl, sym, ap, inl, inr, ◌⊎◌, append_assoc, arith}
use Rattle.std.specs.Prelude.{is_some}
use Rattle.std.proofs.lemmas.Bool.{and_parts, eqb-true}
use Rattle.std.proofs.lemmas.List.{append-nil, length-append}
use Rattle.at_base.specs.declared.error.Cause.TheVariants.{Cut, Trailing}
use Rattle.at_base.specs.declared.error.Error.{Error}
use Rattle.at_base.specs.Spelling.{Spells}
use Rattle.at_base.specs.Reading.{◌>>=◌, read}
use Rattle.at_base.proofs.Fields.{IsBytes, bind_ok, err_is, pass_ok}
use Rattle.table_image.specs.Flaws.{Here, fault_of, faults, flaw_after}
use Rattle.table_image.specs.Internet.{Internet, internet}
use Rattle.table_image.specs.Reading.{image_at, IsFirstFlaw, Refuses, RefusesFirst, refusal}
use Rattle.table_image.specs.Sizes.{image_size}
use Rattle.table_image.specs.Spelling.{image_spelling}
use Rattle.table_image.specs.declared.flaw.Fault.{Fault}
use Rattle.table_image.specs.declared.flaw.Flaw.{Flaw}
use Rattle.image_feed.specs.declared.stop.Stop.{Stop}
use Rattle.image_feed.specs.declared.stop.Stop.TheVariants as stops
use Rattle.table_image.proofs.Extents.{image_reaches}
use Rattle.table_image.proofs.Whole.{all_takes, no_fault, no_flaw, one_flaw, one_reading, place_fits, read_no_flaw, refuses_first, reported_early, same_flaw}
use Rattle.image_feed.specs.declared.tables.ImageHead.{ImageHead}
use Rattle.image_feed.specs.declared.tables.Tables.{Tables}
use Rattle.image_feed.specs.Feeds.{Fed, GoesOn, HasRead, IsRefused, Stands, Waits, cut_at, IsFlawed}
use Rattle.image_feed.specs.Growing.{Denies, Leads, StopsAt, later, none_left}
use Rattle.image_feed.specs.Tables.{cables_part, end_part, internet_of, is_whole, nodes_part, routers_part, tables_on}
use Rattle.image_feed.proofs.Leading.{growth_whole, some_of}
use Rattle.at_base.specs.Limits.{max_cables, max_nodes, max_routers}
use Rattle.at_base.specs.declared.error.Error.TheVariants.{Memory}
use Rattle.table_image.specs.Spelling.{cable_spelling, node_spelling, router_spelling}
use Rattle.table_image.specs.declared.cable.Cable.{Cable}
use Rattle.table_image.specs.declared.node.Node.{Node}
use Rattle.table_image.specs.declared.router.Router.{Router}
use Rattle.image_feed.specs.Parts.{cable_on, node_on, router_on}

-- bytes from which an image is read aren't longer than the longest image
read_within : (bytes : List ℕ) (x : Internet) → IsBytes bytes → image_at bytes ≡ Ok x → length bytes ≤ image_size
unfolding image_at
read_within bytes x fits e =
    let a =
    bind_ok (read faults image_spelling bytes) (λ y. cond (eqb (length y.1) 0) (Ok y.0) (Err (fault_of (length y.1) (Here Trailing)))) x e in
    let p = pass_ok (eqb (length a.0.1) 0) (fault_of (length a.0.1) (Here Trailing)) a.0.0 x a.2 in
    let taken = (image_reaches.within_it.ok_within bytes a.0 fits a.1).0 in
    let nothing : length a.0.1 ≡ 0 = eqb-true _ _ p.0 in
    omega (arith, taken, nothing)

-- the head was read
headed_on : (t : Tables) (bytes : List ℕ) (head : ImageHead) → t.head ≡ Some head → tables_on t bytes ≡ cables_part head.version t bytes
headed_on t bytes head e = rw e refl

headed_as : (t : Tables) (head : ImageHead) → t.head ≡ Some head
    → internet head.version t.cables.items.items t.routers.items.items t.nodes.items.items ≡ internet_of t
headed_as t head e = rw e refl

-- all tables were read
pub whole_on : (t : Tables) (bytes : List ℕ) → is_whole t ≡ true → tables_on t bytes ≡ end_part (internet_of t) bytes
whole_on t bytes whole =
    let r = and_parts (is_some t.head && none_left t.cables.left && none_left t.routers.left) (none_left t.nodes.left) whole in
    let q = and_parts (is_some t.head && none_left t.cables.left) (none_left t.routers.left) r.0 in
    let p = and_parts (is_some t.head) (none_left t.cables.left) q.0 in
    let cables = t.cables.items.items in
    let n = length cables in
    let h = some_of t.head p.0 in
    let v = h.0.version in
    let first : tables_on t bytes ≡ cables_part v t bytes = headed_on t bytes h.0 h.1 in
    let named : internet v cables t.routers.items.items t.nodes.items.items ≡ internet_of t = headed_as t h.0 h.1 in
    first
    ∙ (ap (λ (m : Result (List Cable × List ℕ) Fault). m >>= λ c. routers_part v t c.0 c.1)
    (growth_whole max_cables (cable_spelling v) (λ like c. cable_on v like c) t.cables.left cables t.cables.hint t.cables.next p.1 bytes)
    ∙ (ap (λ (m : Result (List Router × List ℕ) Fault). m >>= λ r. nodes_part v t cables r.0 r.1)
    (growth_whole max_routers (router_spelling v n) (λ like r. router_on v n like r) t.routers.left t.routers.items.items t.routers.hint
    t.routers.next q.1 bytes)
    ∙ (ap (λ (m : Result (List Node × List ℕ) Fault). m >>= λ x. end_part (internet v cables t.routers.items.items x.0) x.1)
    (growth_whole max_nodes (node_spelling v n) (λ like x. node_on v n x) t.nodes.left t.nodes.items.items t.nodes.hint t.nodes.next r.1 bytes)
    ∙ ap (λ (i : Internet). end_part i bytes) named)))

-- what a feed that goes on has read of the bytes alone
pub all_on : (feed : Fed) (all : List ℕ) → GoesOn feed all → image_at all ≡ tables_on feed.tables feed.kept
all_on feed all g =
    ap image_at (sym (append-nil all)) ∙ (g.leads [] ∙ ap (tables_on feed.tables) (append-nil feed.kept))

-- either they spell the internet that was read, or they end within a field
pub all_stands : (feed : Fed) (all : List ℕ) → GoesOn feed all
    → ((is_whole feed.tables ≡ true) × (image_at all ≡ Ok (internet_of feed.tables))) ⊎ (image_at all ≡ Err faults.cut)
all_stands feed all g = by g.waits
  where
    by : Waits feed.tables feed.kept → ((is_whole feed.tables ≡ true) × (image_at all ≡ Ok (internet_of feed.tables))) ⊎ (image_at all ≡ Err faults.cut)
    by (inl w) = inl (w.0, all_on feed all g ∙ (whole_on feed.tables feed.kept w.0 ∙ rw w.1 refl))
    by (inr cut) = inr (all_on feed all g ∙ cut)

pub all_bounded : (feed : Fed) (all : List ℕ) → IsBytes all → GoesOn feed all → length all ≤ image_size
all_bounded feed all fits g = by (all_stands feed all g)
  where
    by : ((is_whole feed.tables ≡ true) × (image_at all ≡ Ok (internet_of feed.tables))) ⊎ (image_at all ≡ Err faults.cut) → length all ≤ image_size
    by (inl w) = read_within all (internet_of feed.tables) fits w.1
    by (inr cut) = let early = reported_early all faults.cut fits cut in omega (arith, early)

-- the first flaw of bytes of which no piece was refused is that they end within a field
pub all_cut : (feed : Fed) (all : List ℕ) (f : Flaw) → GoesOn feed all → IsFirstFlaw all f → f ≡ cut_at (length all)
all_cut feed all f g first = by (all_stands feed all g)
  where
    by : ((is_whole feed.tables ≡ true) × (image_at all ≡ Ok (internet_of feed.tables))) ⊎ (image_at all ≡ Err faults.cut) → f ≡ cut_at (length all)
    by (inl w) = absurd (read_no_flaw all (internet_of feed.tables) f w.1 first)
    by (inr cut) =
        let end : length all - 0 ≡ length all = omega arith in
        sym (one_flaw all faults.cut f cut first) ∙ ap (λ (n : ℕ). record { place = n; cause = Cut }) end

-- a feed that wasn't refused goes on, and one that goes on wasn't refused
pub open_on : (feed : Fed) (all : List ℕ) → feed.refused ≡ None → Stands feed.refused feed all → GoesOn feed all
open_on feed all none h = subst (λ (r : Option Error). Stands r feed all) none h

pub on_open : (feed : Fed) (all : List ℕ) → feed.refused ≡ None → GoesOn feed all → Stands feed.refused feed all
on_open feed all none g = subst (λ (r : Option Error). Stands r feed all) (sym none) g

-- ---- one more piece

pub bytes_append : (a b : List ℕ) → IsBytes a → IsBytes b → IsBytes (a ++ b)
bytes_append [] b p q i = q i
bytes_append (x ∷ a) b p q zero = p zero
bytes_append (x ∷ a) b p q (suc i) = bytes_append a b (λ j. p (suc j)) q i

-- reading went on
pub goes_on : (feed new : Fed) (all piece : List ℕ) → GoesOn feed all → new.fed ≡ length (all ++ piece)
    → Leads (tables_on feed.tables) (feed.kept ++ piece) (tables_on new.tables) new.kept → Waits new.tables new.kept → GoesOn new (all ++ piece)
goes_on feed new all piece g fed leads waits = record {
  fed = fed;
  leads = λ more. ap image_at (append_assoc all piece more) ∙ (g.leads (piece ++ more)
      ∙ (ap (tables_on feed.tables) (sym (append_assoc feed.kept piece more)) ∙ leads more));
  waits = waits;
}

-- a piece was refused
pub piece_refused : (feed : Fed) (all piece : List ℕ) (f : Fault) → GoesOn feed all → Denies (tables_on feed.tables) (feed.kept ++ piece) f
    → (more : List ℕ) → image_at ((all ++ piece) ++ more) ≡ Err (later (length more) f)
piece_refused feed all piece f g denies more =
    ap image_at (append_assoc all piece more) ∙ (g.leads (piece ++ more)
    ∙ (ap (tables_on feed.tables) (sym (append_assoc feed.kept piece more)) ∙ denies.1 more))

pub refusal_stays : (feed : Fed) (all piece : List ℕ) (f : Fault) → IsBytes (all ++ piece) → GoesOn feed all
    → Denies (tables_on feed.tables) (feed.kept ++ piece) f → (more : List ℕ) → IsBytes more
    → IsFirstFlaw ((all ++ piece) ++ more) (flaw_after (length (all ++ piece)) f)
refusal_stays feed all piece f fits g denies more more_fits =
    let now = all ++ piece in
    let e = piece_refused feed all piece f g denies more in
    let len = length-append now more in
    let place : length (now ++ more) - (f.left + length more) ≡ length now - f.left = omega (arith, len) in
    subst (λ (flaw : Flaw). IsFirstFlaw (now ++ more) flaw) (ap (λ (n : ℕ). record { place = n; cause = f.cause }) place)
    (refuses_first (now ++ more) (later (length more) f) (bytes_append now more fits more_fits) e)

-- an error that refuses the fault of a piece refuses all bytes that go on from there
flawed_more : (all more : List ℕ) (f : Fault) (e : Error) → image_at (all ++ more) ≡ Err (later (length more) f)
    → e ≡ refusal (flaw_after (length all) f) → IsFlawed e (all ++ more)
flawed_more all more f e read is =
    let len = length-append all more in
    let place : length (all ++ more) - (f.left + length more) ≡ length all - f.left = omega (arith, len) in
    let same : flaw_after (length (all ++ more)) (later (length more) f) ≡ flaw_after (length all) f =
    ap (λ (n : ℕ). record { place = n; cause = f.cause }) place in
    record {
      first = λ g h. is ∙ ap refusal (sym same ∙ one_flaw (all ++ more) (later (length more) f) g read h);
      none = λ i s. no_fault (all ++ more) i (later (length more) f) s read;
    }

-- the refusal of a piece
pub refused_piece : (feed : Fed) (all piece : List ℕ) (f : Fault) (e : Error) → IsBytes (all ++ piece) → GoesOn feed all
    → Denies (tables_on feed.tables) (feed.kept ++ piece) f
    → (length (all ++ piece) < f.left + 2 ^ 32 → e ≡ refusal (flaw_after (length (all ++ piece)) f)) → IsRefused e (all ++ piece)
refused_piece feed all piece f e fits g denies told =
    let now = all ++ piece in
    let alone : image_at now ≡ Err (later 0 f) = ap image_at (sym (append-nil now)) ∙ piece_refused feed all piece f g denies [] in
    let left : (later 0 f).left ≡ f.left = omega arith in
    let early = place_fits now (later 0 f) fits alone in
    let is = told (omega (arith, early, left)) in
    inr (record {
      found = λ more more_fits. (flaw_after (length now) f, refusal_stays feed all piece f fits g denies more more_fits, is);
      flawed = λ more. flawed_more now more f e (piece_refused feed all piece f g denies more) is;
    })

-- the refusal of a reader that stopped in a piece
pub refused_stop : (feed : Fed) (all piece : List ℕ) (stop : Stop) (e : Error) → IsBytes (all ++ piece) → GoesOn feed all
    → StopsAt (tables_on feed.tables) (feed.kept ++ piece) stop → (stop ≡ stops.Memory → e ≡ Memory)
    → ((f : Fault) → stop ≡ stops.Refused f → length (all ++ piece) < f.left + 2 ^ 32 → e ≡ refusal (flaw_after (length (all ++ piece)) f))
    → IsRefused e (all ++ piece)
refused_stop feed all piece stops.Memory e fits g stopped memory told = inl (memory refl)
refused_stop feed all piece (stops.Refused f) e fits g stopped memory told = refused_piece feed all piece f e fits g stopped (told f refl)

-- a refusal stays, whatever follows
pub refused_more : (e : Error) (all piece : List ℕ) → IsBytes piece → IsRefused e all → IsRefused e (all ++ piece)
refused_more e all piece fits (inl memory) = inl memory
refused_more e all piece fits (inr r) =
    inr (record {
      found = λ more more_fits. subst (λ (b : List ℕ). RefusesFirst b e) (sym (append_assoc all piece more))
          (r.found (piece ++ more) (bytes_append piece more fits more_fits));
      flawed = λ more. subst (λ (b : List ℕ). IsFlawed e b) (sym (append_assoc all piece more)) (r.flawed (piece ++ more));
    })

-- a refusal is of the bytes themselves
pub refused_first : (e : Error) (all : List ℕ) → IsRefused e all → (e ≡ Memory) ⊎ RefusesFirst all e
refused_first e all (inl memory) = inl memory
refused_first e all (inr r) =
    inr (subst (λ (b : List ℕ). RefusesFirst b e) (append-nil all) (r.found [] (λ i. omega arith)))

-- a feed that was refused stays so
pub refused_again : (feed : Fed) (all piece : List ℕ) (e : Error) → feed.refused ≡ Some e → IsBytes piece → HasRead feed all
    → HasRead feed (all ++ piece)
refused_again feed all piece e is fits h = record {
  bytes = bytes_append all piece h.bytes fits;
  stands = subst (λ (r : Option Error). Stands r feed (all ++ piece)) (sym is)
      (refused_more e all piece fits (subst (λ (r : Option Error). Stands r feed all) is h.stands));
}

-- ---- the end

no_end : (i : Internet) (kept : List ℕ) → end_part i kept ≡ Err faults.cut → ⊥
no_end i kept e = by (eqb (length kept) 0) e
  where
    by : (b : Bool) → cond b (Ok i) (Err (fault_of (length kept) (Here Trailing))) ≡ Err faults.cut → ⊥
    by true e = cc
    by false e =
        let fault = err_is {A = Internet} (fault_of (length kept) (Here Trailing)) faults.cut e in
        let causes : Trailing ≡ Cut = ap (λ (f : Fault). f.cause) fault in
        cc

-- where all tables were read, the bytes spell them
pub end_whole : (feed : Fed) (all : List ℕ) → GoesOn feed all → is_whole feed.tables ≡ true → image_at all ≡ Ok (internet_of feed.tables)
end_whole feed all g whole = by g.waits
  where
    by : Waits feed.tables feed.kept → image_at all ≡ Ok (internet_of feed.tables)
    by (inl w) = all_on feed all g ∙ (whole_on feed.tables feed.kept whole ∙ rw w.1 refl)
    by (inr cut) = absurd (no_end (internet_of feed.tables) feed.kept (sym (whole_on feed.tables feed.kept whole) ∙ cut))

-- where they weren't, the bytes end within a field
pub end_cut : (feed : Fed) (all : List ℕ) → GoesOn feed all → is_whole feed.tables ≡ false → image_at all ≡ Err faults.cut
end_cut feed all g less = by (all_stands feed all g)
  where
    by : ((is_whole feed.tables ≡ true) × (image_at all ≡ Ok (internet_of feed.tables))) ⊎ (image_at all ≡ Err faults.cut) → image_at all ≡ Err faults.cut
    by (inl w) = absurd (let no : true ≡ false = sym w.0 ∙ less in cc)
    by (inr cut) = cut

-- the flaw of bytes that end within a field
pub cut_first : (all : List ℕ) → IsBytes all → image_at all ≡ Err faults.cut → IsFirstFlaw all (cut_at (length all))
cut_first all fits cut =
    let end : length all - 0 ≡ length all = omega arith in
    subst (λ (f : Flaw). IsFirstFlaw all f) (ap (λ (n : ℕ). record { place = n; cause = Cut }) end) (refuses_first all faults.cut fits cut)

-- ---- what a feed that wasn't refused ends with

module _ (feed : Fed) (all : List ℕ) (none : feed.refused ≡ None) (h : HasRead feed all) where
  on : GoesOn feed all
  on = open_on feed all none h.stands

  pub whole_spells : is_whole feed.tables ≡ true → Spells image_spelling all (internet_of feed.tables)
  whole_spells whole = all_takes all (internet_of feed.tables) h.bytes (end_whole feed all on whole)

  pub whole_only : (i : Internet) → is_whole feed.tables ≡ true → Spells image_spelling all i → internet_of feed.tables ≡ i
  whole_only i whole s = one_reading all (internet_of feed.tables) i (end_whole feed all on whole) s

  pub whole_flawless : (f : Flaw) → is_whole feed.tables ≡ true → IsFirstFlaw all f → ⊥
  whole_flawless f whole first = read_no_flaw all (internet_of feed.tables) f (end_whole feed all on whole) first

  pub short_none : (i : Internet) → is_whole feed.tables ≡ false → Spells image_spelling all i → ⊥
  short_none i less s = no_fault all i faults.cut s (end_cut feed all on less)

  pub short_refused : (e : Error) → is_whole feed.tables ≡ false → (feed.fed < 2 ^ 32 → e ≡ refusal (cut_at feed.fed)) → RefusesFirst all e
  short_refused e less told =
      let cut = end_cut feed all on less in
      let fed : feed.fed ≡ length all = on.fed in
      let fits = place_fits all faults.cut h.bytes cut in
      (cut_at (length all), cut_first all h.bytes cut, told (omega (arith, fits, fed)) ∙ ap (λ (n : ℕ). refusal (cut_at n)) fed)

  pub short_first : (e : Error) (f : Flaw) → is_whole feed.tables ≡ false → (feed.fed < 2 ^ 32 → e ≡ refusal (cut_at feed.fed)) → IsFirstFlaw all f
      → e ≡ refusal f
  short_first e f less told first =
      let found = short_refused e less told in
      found.2 ∙ ap refusal (same_flaw all found.0 f found.1 first)

-- bytes with a flaw are refused for it
pub refuses_flaw : (bytes : List ℕ) (e : Error) (f : Flaw) → Refuses bytes e → IsFirstFlaw bytes f → e ≡ refusal f
refuses_flaw bytes e f (inl h) first = absurd (no_flaw bytes h.1 f h.2 first)
refuses_flaw bytes e f (inr (g, h, is)) first = is ∙ ap refusal (same_flaw bytes g f h first)
