-- The formats are lawful: each projection gives its part.
use Rattle.std.proofs.Common.{◌≡◌, ℕ, ◌^◌, ◌<◌, ◌==◌, Bool, true, false, eqb, List, length, Option}
use Rattle.std.proofs.Common.{None, refl, sym, ap, subst, ◌∙◌, arith}
use Rattle.std.proofs.lemmas.Bool.{eqb-true}
use Rattle.at_base.proofs.Fields.{is_right}
use Rattle.at_base.proofs.Texts.{same_bytes_is}
use Rattle.at_base.specs.Lawful.{IsLawful}
use Rattle.at_base.specs.Spelling.{IsValue}
use Rattle.at_base.specs.Text.{same_bytes}
use Rattle.pcapng.specs.Blocks.{interface, interface_total, options, packet_block, packet_total, section, unknown, wrong_captured}
use Rattle.pcapng.specs.Blocks.{wrong_name}
use Rattle.pcapng.specs.Fields.{Wrong, filling, four, only, only_bytes, other, size}

-- what passes the test of one value is that value
only_is : (value n : ℕ) → only value n ≡ None → value ≡ n
only_is value n e = sym (eqb-true _ _ (is_right (eqb n value) other e))

only_bytes_is : (value bytes : List ℕ) → only_bytes value bytes ≡ None → value ≡ bytes
only_bytes_is value bytes e = sym (same_bytes_is bytes value (is_right (same_bytes bytes value) other e))

four_lawful : (wrong : ℕ → Option Wrong) → IsLawful (four wrong)
unfolding four
four_lawful wrong = λ high p. (λ low q. omega (arith, q.0), λ low q. (omega (arith, q.0), tt))

-- a number of four bytes passes its test, and fits
four_passes : (wrong : ℕ → Option Wrong) (n : ℕ) → IsValue (four wrong) n → wrong n ≡ None
unfolding four
four_passes wrong n p = subst (λ (m : ℕ). wrong m ≡ None) p.1.1 p.1.0.1

four_few : (wrong : ℕ → Option Wrong) (n : ℕ) → IsValue (four wrong) n → n < 2 ^ 32
unfolding four
four_few wrong n p = omega (arith, p.0.0)

four_only : (value n : ℕ) → IsValue (four (only value)) n → value ≡ n
four_only value n p = only_is value n (four_passes (only value) n p)

pub section_lawful : IsLawful section
unfolding section
section_lawful = (
  four_lawful _,
  λ kind p1. (
    λ total p2 order p3 major p4 minor p5 len p6 again p7. four_only 0x0A0D0D0A kind p1,
    (
      four_lawful _,
      λ total p2. (
        λ order p3 major p4 minor p5 len p6 again p7. four_only 28 total p2,
        (
          four_lawful _,
          λ order p3. (
            λ major p4 minor p5 len p6 again p7. four_only 0x1A2B3C4D order p3,
            λ major p4. (
              λ minor p5 len p6 again p7. only_is 1 major p4.1,
              λ minor p5. (
                λ len p6 again p7. only_is 0 minor p5.1,
                λ len p6. (
                  λ again p7. only_bytes_is unknown len p6.1,
                  (four_lawful _, λ again p7. (four_only 28 again p7, tt)),
                ),
              ),
            ),
          ),
        ),
      ),
    ),
  ),
)

-- the length of a block is that of its name
name_total : (total len : ℕ) (name : List ℕ) → wrong_name total len ≡ None → length name ≡ len → interface_total name ≡ total
name_total total len name passes is = rw is (eqb-true _ _ (is_right _ size passes))

pub interface_lawful : IsLawful interface
unfolding interface
interface_lawful = (
  four_lawful _,
  λ kind p1. (
    λ total p2 link p3 reserved p4 snap p5 code p6 len p7 name p8 zeros p9 end p10 again p11. four_only 1 kind p1,
    (
      four_lawful _,
      λ total p2. (
        λ link p3 reserved p4 snap p5 code p6 len p7 name p8 zeros p9 end p10 again p11. name_total total len name p7.1 p8.0,
        λ link p3. (
          λ reserved p4 snap p5 code p6 len p7 name p8 zeros p9 end p10 again p11. only_is 1 link p3.1,
          λ reserved p4. (
            λ snap p5 code p6 len p7 name p8 zeros p9 end p10 again p11. only_is 0 reserved p4.1,
            (
              four_lawful _,
              λ snap p5. (
                λ code p6 len p7 name p8 zeros p9 end p10 again p11. four_only 0 snap p5,
                λ code p6. (
                  λ len p7 name p8 zeros p9 end p10 again p11. only_is 2 code p6.1,
                  λ len p7. (
                    λ name p8 zeros p9 end p10 again p11. p8.0,
                    λ name p8. (
                      λ zeros p9 end p10 again p11. refl,
                      λ zeros p9. (
                        λ end p10 again p11. ap filling p8.0 ∙ only_bytes_is (filling len) zeros p9.1,
                        (
                          four_lawful _,
                          λ end p10. (
                            λ again p11. four_only 0 end p10,
                            (
                              four_lawful _,
                              λ again p11. (name_total total len name p7.1 p8.0 ∙ four_only total again p11, tt),
                            ),
                          ),
                        ),
                      ),
                    ),
                  ),
                ),
              ),
            ),
          ),
        ),
      ),
    ),
  ),
)

options_lawful : (some : Bool) → IsLawful (options some)
unfolding options
options_lawful false = tt
options_lawful true = λ code p1. (
  λ len p2 comment p3 end p4. only_is 1 code p1.1,
  λ len p2. (
    λ comment p3 end p4. only_is 4 len p2.1,
    λ comment p3. (
      λ end p4. only_bytes_is _ comment p3.1,
      (four_lawful _, λ end p4. (four_only 0 end p4, tt)),
    ),
  ),
)

-- whether there are options is read as it is known
options_are : (some lost : Bool) → IsValue (options some) lost → some ≡ lost
unfolding options
options_are false lost p = p
options_are true lost p = p.1.1.1.1

-- the length of a block is that of its packet and of its options
total_is : (total len : ℕ) (lost : Bool) → wrong_captured total len ≡ None → (packet_total len true == total) ≡ lost
    → packet_total len lost ≡ total
total_is total len true passes seen = eqb-true _ _ seen
total_is total len false passes seen = eqb-true _ _ (is_right _ size (rw seen at passes))

-- the same, from the fields
block_total : (total captured : ℕ) (packet : List ℕ) (lost : Bool) → IsValue (four (wrong_captured total)) captured
    → length packet ≡ captured → IsValue (options (packet_total captured true == total)) lost → packet_total (length packet) lost ≡ total
block_total total captured packet lost p len options =
    rw len (total_is total captured lost (four_passes (wrong_captured total) captured p) (options_are _ lost options))

pub packet_lawful : IsLawful packet_block
unfolding packet_block
packet_lawful = (
  four_lawful _,
  λ kind p1. (
    λ total p2 seat p3 high p4 low p5 captured p6 original p7 packet p8 zeros p9 lost p10 again p11. four_only 6 kind p1,
    (
      four_lawful _,
      λ total p2. (
        λ seat p3 high p4 low p5 captured p6 original p7 packet p8 zeros p9 lost p10 again p11.
            block_total total captured packet lost p6 p8.0 p10,
        (
          four_lawful _,
          λ seat p3. (
            λ high p4 low p5 captured p6 original p7 packet p8 zeros p9 lost p10 again p11. refl,
            (
              four_lawful _,
              λ high p4. (
                λ low p5 captured p6 original p7 packet p8 zeros p9 lost p10 again p11. omega (arith, four_few _ low p5),
                (
                  four_lawful _,
                  λ low p5. (
                    λ captured p6 original p7 packet p8 zeros p9 lost p10 again p11. omega (arith, four_few _ low p5),
                    (
                      four_lawful _,
                      λ captured p6. (
                        λ original p7 packet p8 zeros p9 lost p10 again p11. p8.0,
                        (
                          four_lawful _,
                          λ original p7. (
                            λ packet p8 zeros p9 lost p10 again p11. p8.0 ∙ four_only captured original p7,
                            λ packet p8. (
                              λ zeros p9 lost p10 again p11. refl,
                              λ zeros p9. (
                                λ lost p10 again p11. ap filling p8.0 ∙ only_bytes_is (filling captured) zeros p9.1,
                                (
                                  options_lawful _,
                                  λ lost p10. (
                                    λ again p11. refl,
                                    (
                                      four_lawful _,
                                      λ again p11. (block_total total captured packet lost p6 p8.0 p10 ∙ four_only total again p11, tt),
                                    ),
                                  ),
                                ),
                              ),
                            ),
                          ),
                        ),
                      ),
                    ),
                  ),
                ),
              ),
            ),
          ),
        ),
      ),
    ),
  ),
)
