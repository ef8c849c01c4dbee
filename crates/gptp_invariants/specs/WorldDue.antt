-- When what is pending in a world is due: not before now, and no later than so long from now.
use Rattle.std.specs.Prelude.{◌≡◌, ◌≤◌, ◌+◌, ℕ, suc, true, Some, slice_get}
use Rattle.gptp_vector.specs.declared.port.PortId.{PortId}
use Rattle.gptp_receipt.specs.declared.held.Held.{Held}
use Rattle.gptp_receipt.specs.declared.held.Reception.{Reception}
use Rattle.gptp_receipt.specs.Held.{received}
use Rattle.gptp_system.specs.declared.port.Port.{Port}
use Rattle.gptp_setup.specs.Intervals.{interval_of}
use Rattle.gptp_setup.specs.SettlingParams.{SettlingParams, span_by}
use Rattle.gptp_system.specs.State.{is_mine, own}
use Rattle.gptp_model.specs.declared.station.Station.{Station}
use Rattle.gptp_model.specs.World.{WorldState}

-- a time isn't before this one, and is within so long of it
pub record IsSoonAfter (since span time : ℕ) : Type 0 where
  pub least : since ≤ time
  pub most : time ≤ since + span

-- What is known of a port that holds this: as Master it announces within its announce interval, what it received came
-- within the announce receipt timeout by the interval that it named, and it asks within one pdelay interval and answers
-- within one turnaround.
pub record IsPortKnown (p : SettlingParams) (now : ℕ) (h : Held) (q : Port) : Type 0 where
  pub announces : is_mine h ≡ true → IsSoonAfter now (interval_of q.log_interval) q.announce
  pub came : (r : Reception) → received h ≡ Some r
      → IsSoonAfter r.at (span_by p.params.timeout p.largest r.interval) now
  pub asks : (t : ℕ) → q.pdelay ≡ Some t → IsSoonAfter now (interval_of p.params.pdelay) t
  pub answers : (t : ℕ) → q.respond ≡ Some t → IsSoonAfter now p.params.turnaround t

-- this is so of each port of each live system; the port at place i has the number i + 1
abbrev pub OfEachPort : (PortId → Held → Port → Type 0) → WorldState → Type 0
OfEachPort So w = (place : ℕ) (station : Station) → slice_get w.stations place ≡ Some station → station.live ≡ true
    → (i : ℕ) (h : Held) (q : Port) → slice_get station.system.held i ≡ Some h
    → slice_get station.system.ports i ≡ Some q → So (own station.system (suc i)) h q
