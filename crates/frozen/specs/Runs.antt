-- Runs over the frozen tables of an internet.
use Rattle.std.specs.Prelude.{◌≡◌, ℕ, ◌+◌, ◌++◌, cond, List, Option, Some, None, length, nat_lt, slice_get, slice_set}
use Rattle.std.specs.List.{list_any}
use Rattle.at_base.specs.declared.error.Error.{Error}
use Rattle.at_base.specs.declared.error.Error.TheVariants.{Full, NotPending}
use Rattle.audit.specs.Rules.{Passes}
use Rattle.cable_model.specs.Logs.{Cabling, transcript as said}
use Rattle.cable_model.specs.Outcomes.{Places, is_named}
use Rattle.cable_model.specs.Pending.{Pair}
use Rattle.cable_model.specs.Transcript.{Entry}
use Rattle.end_node.specs.Answers.{Hears as NodeHears}
use Rattle.end_node.specs.Holding.{NodeHolding}
use Rattle.image_stations.specs.Holders.{HoldStations}
use Rattle.station.specs.Members.{EitherHears, either}
use Rattle.station.specs.declared.member.Member.{Member}
use Rattle.legal_cables.specs.Keeping.{AreKept}
use Rattle.legal_runs.specs.Legal.{Block, IsLegal}
use Rattle.legal_runs.specs.Legs.{places_of}
use Rattle.legal_runs.specs.Stations.{cable_seats}
use Rattle.resolved_runs.specs.Fitting.{SeatsFit}
use Rattle.resolved_runs.specs.ResolvedRuns.{IsLegalResolved, ResolvedBlock}
use Rattle.router.specs.Answers.{Hears as RouterHears}
use Rattle.router.specs.Holding.{Holding}
use Rattle.run_cables.specs.Wired.{AreFresh, IsTakenOn, cabling_of, happened, pending_for, take_room}
use Rattle.run_cables.specs.declared.wiring.Wiring.{Wiring}
use Rattle.run_cables.specs.declared.wiring.Wiring.TheVariants.{Asking, Known}
use Rattle.table_image.specs.Bounds.{IsBounded}
use Rattle.table_image.specs.Internet.{Internet}
use Rattle.table_image.specs.declared.version.Version.{Version}
use Rattle.table_image.specs.declared.version.Version.TheVariants.{V1, V2}

-- The state of a run: the internet whose tables are frozen, the contents of each station, and the cables with their
-- transcript.
pub record Running : Type 0 where
  pub internet : Internet
  pub stations : List (Member Holding NodeHolding)
  pub wiring : Wiring

-- The cables of a run and what is stored of them.
abbrev pub cabling : Running → Cabling
cabling r = cabling_of r.wiring

-- The transcript of a run.
abbrev pub transcript : Running → List Entry
transcript r = happened r.wiring

-- The pairs that are pending in a run.
abbrev pub pending_in : Running → List Pair
pending_in r = pending_for r.wiring

-- A run over an internet in which nothing has happened, with room for so many entries.
abbrev pub HasBegun : Internet → ℕ → Running → Type 0
HasBegun i limit r = (r.internet ≡ i) × AreFresh i limit r.wiring

-- The transcript is legal: over an image of version 1 as where every hardware address is known, and over one of version 2 with
-- resolution; then the cables keep what it says.
abbrev pub IsLegalOn : Internet → Wiring → Type 0
IsLegalOn i (Known c) = (i.version ≡ V1) × IsLegal i (said c)
IsLegalOn i (Asking w) = (i.version ≡ V2) × SeatsFit i × IsLegalResolved i (said w.cabling) × AreKept i w

-- The invariant of a run: the internet passes the audit, the stations hold the image's contents, their seats are on the
-- cables, and the transcript is legal.
pub record IsFrozen (r : Running) : Type 0 where
  pub passes : Passes r.internet
  pub bounded : IsBounded r.internet
  pub holders : HoldStations r.internet r.stations
  pub seats : (cabling r).seats ≡ cable_seats r.internet
  pub legal : IsLegalOn r.internet r.wiring

-- These entries are a legal block after what happened: over an image of version 1 as where every hardware address is known, and
-- over one of version 2 with resolution.
abbrev pub IsBlockOn : Internet → Wiring → List Entry → Type 0
IsBlockOn i (Known c) block = Block i (said c) block
IsBlockOn i (Asking w) block = ResolvedBlock i (said w.cabling) block

-- What was added to the transcript of a run is one legal block.
pub record AddsBlock (old new : Running) : Type 0 where
  pub block : List Entry
  pub legal : IsBlockOn old.internet old.wiring block
  pub added : transcript new ≡ transcript old ++ block

-- A run over the frozen tables of an image of this version.
abbrev pub RunsOver : Version → Running → Type 0
RunsOver v r = IsFrozen r × (r.internet.version ≡ v)

-- How many ports a station has.
abbrev pub ports_of : Member Holding NodeHolding → ℕ
ports_of m = either (λ (h : Holding). length h.ports) (λ (h : NodeHolding). 1) m

-- Station s took a pending frame, sent the outputs of its definition and holds the contents that follow; no other
-- station changed.
pub record TakenFrom (places : Places) (stations : List (Member Holding NodeHolding)) (old : Wiring) (stamp s : ℕ)
    (others : List (Member Holding NodeHolding)) (new : Wiring) : Type 0 where
  pub member : Member Holding NodeHolding
  pub known : slice_get stations s ≡ Some member
  pub after : Member Holding NodeHolding
  pub changed : others ≡ slice_set stations s after
  pub taken : IsTakenOn places stamp s (ports_of member) (λ h added. EitherHears RouterHears NodeHears member h added after) old new

-- In a run, station s took a pending frame, and the internet stayed the same.
pub record TakenBy (old : Running) (stamp s : ℕ) (new : Running) : Type 0 where
  pub internet : new.internet ≡ old.internet
  pub taken : TakenFrom (places_of old.internet) old.stations old.wiring stamp s new.stations new.wiring

-- Why a station can't take a frame: NotPending if the frame isn't pending for it, otherwise Full if there is room for
-- fewer entries than a take may need: 771 over an image of version 1, and 1,285 over one of version 2.
abbrev pub take_refusal : Running → ℕ → ℕ → Option Error
take_refusal r stamp s =
    cond (list_any (is_named stamp s) (pending_in r))
    (cond (nat_lt (cabling r).limit (length (cabling r).lines + take_room r.wiring)) (Some Full) None) (Some NotPending)
