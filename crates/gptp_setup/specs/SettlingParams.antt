-- How long what a port received stays there, and what that is at most in a network (IEEE 802.1AS-2020, 10.7.3).
use Rattle.std.specs.Prelude.{ℕ, ◌*◌, ℤ, pos, neg_ℤ, Bool, nat_lt}
use Rattle.std.specs.Int.{int_max, int_min}
use Rattle.gptp_setup.specs.declared.setup.Params.{Params}
use Rattle.gptp_setup.specs.Intervals.{interval_of}

-- What the ports of a network announce at: what is the same for all its systems, and the largest announce interval of
-- any port, as a logarithm to base 2.
pub record SettlingParams : Type 0 where
  pub params : Params
  pub largest : ℤ

-- that largest announce interval, in ns
abbrev pub largest_interval : SettlingParams → ℕ
largest_interval p = interval_of p.largest

-- what counts of an interval that is heard: never below a sixteenth of a second, and never above the largest (profile)
abbrev pub kept_log : ℤ → ℤ → ℤ
kept_log largest log = int_max (neg_ℤ (pos 4)) (int_min largest log)

-- How long what a port received stays there, in ns: announceReceiptTimeout times the interval that its Announce named
-- (10.7.3.2).
abbrev pub span_by : ℕ → ℤ → ℤ → ℕ
span_by timeout largest log = timeout * interval_of (kept_log largest log)

-- the longest of these spans in a network, in ns
abbrev pub longest_span : SettlingParams → ℕ
longest_span p = p.params.timeout * largest_interval p

-- the network has a syncReceiptTimeout (10.7.3.1; profile: 0 stands for none)
abbrev pub has_sync_timeout : Params → Bool
has_sync_timeout p = nat_lt 0 p.sync_timeout

-- how long the Slave port keeps what it received while no time comes, in ns: that many sync intervals
-- (syncReceiptTimeoutTimeInterval)
abbrev pub lapse_span : Params → ℕ
lapse_span p = p.sync_timeout * interval_of p.sync
