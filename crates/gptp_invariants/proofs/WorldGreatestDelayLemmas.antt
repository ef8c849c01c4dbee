-- The greatest delay of the links of a snapshot.
use Rattle.std.proofs.Common.{◌≡◌, ◌≤◌, ◌<◌, ◌+◌, ℕ, zero, suc, ℤ, Bool, true, false, List, [], ◌∷◌, Some, slice_get, refl, ap, ◌∙◌, arith}
use Rattle.std.specs.Prelude.{if◌then◌else◌, max}
use Rattle.std.proofs.lemmas.Option.{none-some, same_Some}
use Rattle.gptp_graph.specs.Snapshot.{System}
use Rattle.gptp_setup.specs.Intervals.{AreParams, interval_of}
use Rattle.gptp_setup.specs.SettlingParams.{SettlingParams, largest_interval, span_by}
use Rattle.gptp_model.specs.World.{Channel, WorldState}
use Rattle.gptp_invariants.specs.WorldKnown.{IsKnown, IsLogAmong}
use Rattle.gptp_invariants.specs.ChoiceCalm.{greatest_channel_delay}
use Rattle.gptp_invariants.specs.WorldStanding.{channel_is_used, live_stations}
use Rattle.gptp_invariants.proofs.WorldSetLemmas.{log_outlasts}

-- it is no more than what no link exceeds
delay_within : (systems : List System) (channels : List Channel) (bound : ℕ)
    → ((link : ℕ) (channel : Channel) → slice_get channels link ≡ Some channel → channel.bounds.max ≤ bound)
    → greatest_channel_delay systems channels ≤ bound
delay_within systems [] bound each = omega arith
delay_within systems (first ∷ channels) bound each =
    by (channel_is_used systems first) (delay_within systems channels bound (λ link. each (suc link)))
  where
    by : (used : Bool) → greatest_channel_delay systems channels ≤ bound
        → (if used then max first.bounds.max (greatest_channel_delay systems channels) else greatest_channel_delay
        systems channels)
        ≤ bound
    by true later = let one = each zero first refl in omega arith
    by false later = later

-- and no less than the delay of any used link
pub delay_of_used : (systems : List System) (channels : List Channel) (link : ℕ) (channel : Channel)
    → slice_get channels link ≡ Some channel → channel_is_used systems channel ≡ true
    → channel.bounds.max ≤ greatest_channel_delay systems channels
delay_of_used systems [] link channel here used = absurd (none-some channel here)
delay_of_used systems (first ∷ channels) zero channel here used =
    let same = same_Some first channel here in
    let is : channel_is_used systems first ≡ true = ap (channel_is_used systems) same ∙ used in
    let most = ap (λ (c : Channel). c.bounds.max) same in
    rw is (omega arith)
delay_of_used systems (first ∷ channels) (suc link) channel here used =
    by (channel_is_used systems first) (delay_of_used systems channels link channel here used)
  where
    by : (is : Bool) → channel.bounds.max ≤ greatest_channel_delay systems channels
        → channel.bounds.max
        ≤ (if is then max first.bounds.max (greatest_channel_delay systems channels) else greatest_channel_delay
        systems channels)
    by true later = omega arith
    by false later = later

-- so it is at most the largest announce interval
pub delay_short : (p : SettlingParams) (w : WorldState) → IsKnown p w
    → greatest_channel_delay (live_stations w.stations) w.net.channels ≤ largest_interval p
delay_short p w known =
    delay_within (live_stations w.stations) w.net.channels (largest_interval p)
    (λ link channel here. (known.near link channel here).most)

-- and what names the interval of a port stays longer than that interval and that delay
pub receipts_stay : (p : SettlingParams) (w : WorldState) → AreParams p.params → IsKnown p w → (log : ℤ)
    → IsLogAmong w.stations log
    → interval_of log + greatest_channel_delay (live_stations w.stations) w.net.channels
    < span_by p.params.timeout p.largest log
receipts_stay p w params known log among =
    let short = delay_within (live_stations w.stations) w.net.channels (interval_of log)
    (λ link channel here. (known.prompt log among link channel here).most) in
    let long = log_outlasts p w params known.set log among in
    omega arith
