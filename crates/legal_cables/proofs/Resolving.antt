-- A station over live cables that keep what its transcript says is a resolver of it.
use Rattle.std.proofs.Common.{◌≡◌, ℕ, List, [], ◌∷◌, ◌++◌}
use Rattle.audit.specs.Rules.{Passes}
use Rattle.table_image.specs.Internet.{Internet}
use Rattle.cable_model.specs.Transcript.{Entry}
use Rattle.legal_stations.specs.Resolver.{IsCalm, IsResolver}
use Rattle.live_cables.specs.Finding.{Knowing, places_of}
use Rattle.live_cables.specs.Holding.{Holds}
use Rattle.legal_cables.specs.Keeping.{Keeps}
use Rattle.legal_cables.proofs.Effects.{IsBooked, booked}
use Rattle.legal_cables.proofs.Finds.{finds_known, lists_known}
use Rattle.legal_cables.proofs.Holds.{by_is, knows_then, station_then}
use Rattle.legal_cables.proofs.Kept.{calm_follows, kept_calm}
use Rattle.legal_cables.proofs.Placed.{the_seat}

-- The station's knowledge is what its transcript says.
pub record Knows (i : Internet) (s : ℕ) (k : Knowing) (t : List Entry) : Type 0 where
  pub station : k.station ≡ s
  pub keeps : Keeps i k t
  pub booked : IsBooked t

keeps_calm : (i : Internet) (k : Knowing) (t : List Entry) (e : Entry) → IsBooked t → IsCalm t e → Keeps i k t → Keeps i k (t ++ e ∷ [])
keeps_calm i k t e b calm keeps = record {
  seats_are = keeps.seats_are;
  own = keeps.own;
  ranges = keeps.ranges;
  each = λ n q at. let w = keeps.each n q at in (w.0, w.1, kept_calm i q.station q.cable t e w.0 b calm w.2);
}

pub resolver : (i : Internet) → Passes i → (s : ℕ) → IsResolver places_of Holds i s (Knows i s)
resolver i ok s = record {
  finds = λ x t k cable a on. finds_known i ok s cable (the_seat i ok s cable on) a x t k.station k.keeps;
  lists = λ x t k net. lists_known i ok x t k.keeps net;
  stays = λ x t e k calm. record {
    station = k.station;
    keeps = keeps_calm i x t e k.booked calm k.keeps;
    booked = booked t k.booked e (calm_follows t e calm);
  };
  holds = λ x y t w by k on h.
      let then = knows_then i ok s x y t w by k.station k.keeps k.booked on h in (
        by_is i ok s x y t w by k.station k.keeps k.booked on h,
        record {
          station = station_then i ok s x y t w by k.station k.keeps k.booked on h;
          keeps = then.0;
          booked = then.1;
        },
      );
}
