-- The fields of an `Earlier`, and what contracts see in them.
use Rattle.std.specs.Prelude.{Box, List, [], Option}
use Rattle.std.specs.Option.{option_map_or}
use Rattle.std.specs.declared.alloc.Global.{Global}
use Rattle.gptp_pdelay.specs.declared.earlier.Earlier.TheInside.{Inside}
use Rattle.gptp_pdelay.specs.declared.earlier.Room.{Room}
use Rattle.gptp_pdelay.specs.declared.exchange.Times.{Times}
use Rattle.gptp_pdelay.specs.Earlier.{EarlierTimes}

-- what stands in the room for them
abbrev pub times_in : Option (Box Room Global) → List Times
times_in room = option_map_or (λ (b : Box Room Global). b.value.times.items) room []

-- how many are kept, and which
abbrev pub earlier_times : Inside → EarlierTimes
earlier_times e = record { most = e.most; times = times_in e.room }
