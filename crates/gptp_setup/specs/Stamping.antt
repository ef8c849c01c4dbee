-- How exactly the systems of a network stamp time, and over how long they measure a neighbour's rate (profile).
use Rattle.std.specs.Prelude.{ℕ, ◌*◌}
use Rattle.gptp_scaled.specs.TimeStamp.{stamp_blur}
use Rattle.gptp_setup.specs.declared.setup.Params.{Params}
use Rattle.gptp_setup.specs.Intervals.{interval_of}

-- by how many ns two time stamps of a clock differ at most from what passed on it
abbrev pub blur_of : Params → ℕ
blur_of p = stamp_blur p.granularity p.noise

-- how many units of 2^-16 ns less than what is shown a time stamp is, midway between its limits
abbrev pub behind_of : Params → ℕ
behind_of p = 32768 * p.granularity

-- over how many ns a rate is measured: the window's exchanges, a request after each interval
abbrev pub rate_interval : Params → ℕ
rate_interval p = p.window * interval_of p.pdelay
