-- What is asked of the faults of a document.
use Rattle.std.specs.Prelude.{◌||◌, Bool}
use Rattle.gptp_timeline.specs.Limits.{asks_times}
use Rattle.gptp_faults.specs.declared.options.FaultsOptions.{FaultsOptions}

-- it is asked what systems read: to tell it, or by a limit
abbrev pub tracks : FaultsOptions → Bool
tracks options = options.times || asks_times options.limits
