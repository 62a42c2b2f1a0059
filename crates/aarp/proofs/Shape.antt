-- The format of an AARP packet: each projection gives its part.
use Rattle.std.proofs.Common.{ℕ, refl, arith}
use Rattle.std.proofs.lemmas.List.{length-append}
use Rattle.at_base.specs.declared.error.Field.TheVariants.{HardwareType, ProtocolType, Lengths}
use Rattle.at_base.specs.Lawful.{IsLawful}
use Rattle.at_base.specs.Packets.{address}
use Rattle.at_base.proofs.Packets.{only_is, address_lawful}
use Rattle.aarp.specs.Packets.{packet}
use Rattle.aarp.proofs.Numbers.{number_again}

pub packet_lawful : IsLawful packet
unfolding packet address
packet_lawful = (
  λ y h. omega (arith, length-append {A = ℕ}, h.1.1.1.1.0.0, h.1.1.1.1.1.1.1.0.0),
  λ h p1. (
    λ k p2 l p3 f p4 sh p5 s1 p6 s p7 th p8 t1 p9 t q. only_is 1 HardwareType h p1.1,
    λ k p2. (
      λ l p3 f p4 sh p5 s1 p6 s p7 th p8 t1 p9 t q. only_is 0x809B ProtocolType k p2.1,
      λ l p3. (
        λ f p4 sh p5 s1 p6 s p7 th p8 t1 p9 t q. only_is 0x0604 Lengths l p3.1,
        λ f p4. (
          λ sh p5 s1 p6 s p7 th p8 t1 p9 t q. number_again f p4.1,
          λ sh p5. (
            λ s1 p6 s p7 th p8 t1 p9 t q. refl,
            λ s1 p6. (
              λ s p7 th p8 t1 p9 t q. refl,
              (
                address_lawful,
                λ s p7. (
                  λ th p8 t1 p9 t q. refl,
                  λ th p8. (
                    λ t1 p9 t q. refl,
                    λ t1 p9. (
                      λ t q. refl,
                      (address_lawful, λ t q. (refl, tt)),
                    ),
                  ),
                ),
              ),
            ),
          ),
        ),
      ),
    ),
  ),
)
