-- Acts by which a system can get a reading: contracts of private functions alone cite this.
use Rattle.std.specs.Prelude.{◌||◌, Bool, is_some}
use Rattle.gptp_model.specs.declared.done.Done.{Done}
use Rattle.gptp_scenario.specs.declared.change.Act.{Act}
use Rattle.gptp_timeline.specs.Leaving.{can_take_over}
use Rattle.gptp_timeline.specs.Receipts.{received_by}

-- a system received time by an act, or can take over by it
abbrev pub can_give_reading : Act → Done → Bool
can_give_reading act done = is_some (received_by done) || can_take_over act
