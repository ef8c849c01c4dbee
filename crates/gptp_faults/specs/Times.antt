-- When faults come (profile).
use Rattle.std.specs.Prelude.{◌≡◌, ◌≤◌, ℕ, ◌+◌, ◌-◌, ◌*◌, ◌/◌, max, IfSome, unwrap_or}
use Rattle.gptp_network.specs.Document.{DocumentState}
use Rattle.gptp_network.specs.Span.{IsSpan}
use Rattle.gptp_scenario.specs.Calm.{last_change}
use Rattle.gptp_scenario.specs.Network.{largest_of}
use Rattle.gptp_setup.specs.declared.limits.TheConstants.{LAST_MOMENT}
use Rattle.gptp_setup.specs.Intervals.{interval_of, IsMoment}
use Rattle.gptp_faults.specs.Stays.{watch_of}
use Rattle.gptp_faults.specs.declared.options.FaultsOptions.{FaultsOptions}
use Rattle.gptp_faults.specs.declared.times.Times.{Times}

-- the numbers of what is asked are in their ranges
pub record AreOptions (o : FaultsOptions) : Type 0 where
  pub some_seed : 1 ≤ o.seeds
  pub seeds : o.seeds ≤ 1000
  pub some_moment : 1 ≤ o.moments
  pub moments : o.moments ≤ 1000
  pub at : IfSome o.at (λ at. IsMoment at)
  pub hold : IfSome o.hold (λ hold. hold ≤ LAST_MOMENT)
  pub some_detect : IfSome o.detect (λ delay. 1 ≤ delay)
  pub detect : IfSome o.detect (λ delay. delay ≤ LAST_MOMENT)
  pub some_part : 1 ≤ o.part
  pub part : o.part ≤ o.parts
  pub parts : o.parts ≤ 10000

-- The moments lie from `from` on within `spread`, an announce interval (the largest of any port) and a Sync interval:
-- so they meet the Announce and the Sync at different phases. By default the first is as long after the last event as
-- the network takes at most to settle then, and no earlier than it is watched.
pub record AreTimes (d : DocumentState) (options : FaultsOptions) (t : Times) : Type 0 where
  pub span : ℕ
  pub span_is : IsSpan d (last_change d.events) span
  pub from_is : t.from ≡ unwrap_or options.at (last_change d.events + max span (watch_of d (last_change d.events)))
  pub spread_is : t.spread ≡ interval_of (largest_of d.network) + interval_of d.network.params.sync
  pub moments_are : t.moments ≡ options.moments
  pub seeds_are : t.seeds ≡ options.seeds

-- the first moment and the spread, in ns, and the numbers of moments and seeds are bounded
pub record TimesAreBounded (t : Times) : Type 0 where
  pub from : IsMoment t.from
  pub spread : t.spread ≤ 32000000000
  pub some_moment : 1 ≤ t.moments
  pub moments : t.moments ≤ 1000
  pub some_seed : 1 ≤ t.seeds
  pub seeds : t.seeds ≤ 1000

-- a moment by its number, from 0
abbrev pub moment : Times → ℕ → ℕ
moment t number = t.from + number * t.spread / t.moments

-- the last of them, which is the latest
abbrev pub last_moment : Times → ℕ
last_moment t = moment t (t.moments - 1)
