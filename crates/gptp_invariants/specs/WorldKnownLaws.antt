-- Laws on what is known of a world.
use Rattle.std.specs.Prelude.{◌≡◌, ◌⊎◌, ◌<◌, ◌≤◌, ◌+◌, ℕ, suc, ℤ, true, List, Option, Some, slice_get}
use Rattle.gptp_links.specs.declared.bounds.Bounds.{Bounds}
use Rattle.gptp_links.specs.Fate.{Draw}
use Rattle.gptp_receipt.specs.declared.held.Held.{Held}
use Rattle.gptp_receipt.specs.declared.held.Held.TheVariants.{Disabled}
use Rattle.gptp_system.specs.Follows.{SystemIsRoot, SystemFollowsPort}
use Rattle.gptp_setup.specs.Intervals.{AreParams, interval_of}
use Rattle.gptp_setup.specs.SettlingParams.{SettlingParams, largest_interval, span_by}
use Rattle.gptp_scenario.specs.declared.change.Act.{Act}
use Rattle.gptp_scenario.specs.declared.change.Timed.{Timed}
use Rattle.gptp_model.specs.declared.done.Done.{Done}
use Rattle.gptp_model.specs.Acts.{Acts, at}
use Rattle.gptp_model.specs.Course.{Begun, WasDone}
use Rattle.gptp_scenario.specs.Network.{IsNetwork, NetworkState, pace_of}
use Rattle.gptp_scenario.specs.Prompt.{DelayFitsInterval}
use Rattle.gptp_model.specs.Prompt.{DelaysFitIntervals}
use Rattle.gptp_model.specs.Sends.{IsUnlinkedPort}
use Rattle.gptp_model.specs.Sound.{IsSound}
use Rattle.gptp_model.specs.World.{Channel, WorldState}
use Rattle.gptp_invariants.specs.ChoiceAtRest.{IsPortAtRest, OfEachSystem}
use Rattle.gptp_invariants.specs.WorldDue.{IsPortKnown, IsSoonAfter, OfEachPort}
use Rattle.gptp_invariants.specs.WorldKnown.{IsKnown, IsLogAmong, OfEachFrame}

-- ---- it begins, and is kept

-- the world of a network is known as it begins
abbrev pub BeginsKnown : {F : Type 0} → (Bounds → ℕ → F → Option ℕ → F → Type 0) → Type 0
BeginsKnown {F} answers = (n : NetworkState) (fate fate_after : F) (w : WorldState)
    → IsNetwork n → Begun answers n fate fate_after w
    → IsKnown (pace_of n) w

-- time that passes keeps what is known
abbrev pub LaterKnown : Type 0
LaterKnown = (p : SettlingParams) (w : WorldState) (t : ℕ)
    → w.time ≤ t → IsKnown p w
    → IsKnown p (at t w)

-- every act that sets no link to a delay above an announce interval, nor above the largest, keeps what is known of a
-- sound world
abbrev pub ActsKnown : Type 0
ActsKnown = (p : SettlingParams) (act : Act) (w : WorldState) (draws : List Draw) (done : Done) (w' : WorldState)
    → IsSound w → DelayFitsInterval (largest_interval p) act → DelaysFitIntervals w act → Acts act w draws done w'
    → IsKnown p w
    → IsKnown p w'

-- what is known of a sound world is kept from act to act, where no act sets a link to a delay above an announce
-- interval, nor above the largest
abbrev pub DoneKnown : {F : Type 0} → (Bounds → ℕ → F → Option ℕ → F → Type 0) → Type 0
DoneKnown {F} answers = (p : SettlingParams) (timed : Timed) (fate fate_after : F) (w w' : WorldState) (done : Done)
    → IsSound w → DelayFitsInterval (largest_interval p) timed.act → DelaysFitIntervals w timed.act
    → WasDone answers timed fate fate_after w w' done → IsKnown p w
    → IsKnown p w'

-- ---- what follows

-- then what is pending of each port of a live system is due in time, and what it received is young
abbrev pub PortsKnown : Type 0
PortsKnown = (p : SettlingParams) (w : WorldState)
    → IsSound w → IsKnown p w
    → OfEachPort (λ itself h q. IsPortKnown p w.time h q) w

-- one at which no link that is up begins is Disabled
abbrev pub UnlinkedDisabled : Type 0
UnlinkedDisabled = (p : SettlingParams) (w : WorldState)
    → IsSound w → IsKnown p w
    → OfEachPort (λ itself h q. IsUnlinkedPort w.net itself → h ≡ Disabled) w

-- what names the announce interval of a port stays longer than that interval and any delay
abbrev pub ReceiptsOutlast : Type 0
ReceiptsOutlast = (p : SettlingParams) (w : WorldState)
    → AreParams p.params → IsKnown p w
    → (log : ℤ) → IsLogAmong w.stations log
    → (link : ℕ) (channel : Channel) → slice_get w.net.channels link ≡ Some channel
    → interval_of log + channel.bounds.max < span_by p.params.timeout p.largest log

-- the ports of every sound world hold what their systems chose
abbrev pub PortsAtRest : Type 0
PortsAtRest = (w : WorldState)
    → IsSound w
    → OfEachSystem (λ s. (i : ℕ) (h : Held) → slice_get s.held i ≡ Some h → IsPortAtRest s (suc i) h) w

-- each live system of every sound world is its own root, or follows a port
abbrev pub SystemsFollow : Type 0
SystemsFollow = (w : WorldState)
    → IsSound w
    → OfEachSystem (λ s. SystemIsRoot s ⊎ SystemFollowsPort s) w

-- ---- frames

-- a frame is in flight only on a link that is up
abbrev pub FramesOnLinks : Type 0
FramesOnLinks = (w : WorldState)
    → IsSound w
    → OfEachFrame (λ channel f. channel.up ≡ true) w

-- no frame in flight is late
abbrev pub FramesNotLate : Type 0
FramesNotLate = (w : WorldState)
    → IsSound w
    → OfEachFrame (λ channel f. w.time ≤ f.due) w

-- once the largest announce interval has passed since the last change, each frame in flight arrives now or later,
-- within the greatest delay of its link
abbrev pub FramesFresh : Type 0
FramesFresh = (p : SettlingParams) (w : WorldState)
    → IsSound w → IsKnown p w → w.last_change + largest_interval p ≤ w.time
    → OfEachFrame (λ channel f. IsSoonAfter w.time channel.bounds.max f.due) w
