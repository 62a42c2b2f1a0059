-- A packet doesn't change a port's address.
use Rattle.std.proofs.Common.{◌≡◌, Bool, true, false, List, [], ◌∷◌, None, refl, ap, subst, sym, ◌∙◌}
use Rattle.aarp.specs.Choosing.{Choice, heard, is_conflict, moved, settled}
use Rattle.aarp.specs.declared.packet.Packet.{Packet}
use Rattle.at_base.specs.declared.address.Addr.{Addr}

moved_is : (c : Choice) (left : List Addr) → left ≡ c.left → (moved c).is_settled ≡ c.is_settled
moved_is c [] e = subst (λ l. (moved (record c { left = l })).is_settled ≡ c.is_settled) e refl
moved_is c (a ∷ left) e = subst (λ l. (moved (record c { left = l })).is_settled ≡ c.is_settled) e refl

-- A choice has the same address after it received a packet: a settled one stays, and any other has none.
pub address_stays : (w : Packet) (c : Choice) → settled (heard w c) ≡ settled c
address_stays w c = either c.is_settled refl
  where
    none : (d : Choice) → d.is_settled ≡ false → settled d ≡ None
    none d f = rw f refl

    either : (s : Bool) → c.is_settled ≡ s → settled (heard w c) ≡ settled c
    either true e = rw e refl
    either false e = by (is_conflict c.minds.one_goes_on c.tentative c.hw w) refl
      where
        by : (b : Bool) → is_conflict c.minds.one_goes_on c.tentative c.hw w ≡ b → settled (heard w c) ≡ settled c
        by true f =
            let is : heard w c ≡ moved c = rw (e, f) refl in
            ap settled is ∙ none (moved c) (moved_is c c.left refl ∙ e) ∙ sym (none c e)
        by false f =
            let is : heard w c ≡ c = rw (e, f) refl in
            ap settled is
