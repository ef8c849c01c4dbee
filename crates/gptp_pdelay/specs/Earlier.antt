-- The exchanges before the last one that a rate may be measured since.
use Rattle.std.specs.Prelude.{ℕ, List, ◌∷◌, Option, Some, None}
use Rattle.gptp_pdelay.specs.declared.exchange.Measurement.{Measurement}
use Rattle.gptp_pdelay.specs.declared.exchange.Times.{Times}
use Rattle.gptp_pdelay.specs.Exchange.{times_of}

-- how many are kept at most, and those that are, the newest first
pub record EarlierTimes : Type 0 where
  pub most : ℕ
  pub times : List Times

-- the last exchange, if there is one, and those before it
abbrev pub past_of : Option Measurement → List Times → List Times
past_of None earlier = earlier
past_of (Some last) earlier = times_of last ∷ earlier
