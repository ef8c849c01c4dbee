-- A system that gets a reading read by what is kept of it before, and by which acts none does.
use Rattle.std.proofs.Common.{◌≡◌, ◌||◌, ℕ, Bool, is_some, true, false, not, List, Option, Some, None, option_map, option_and_then, if◌then◌else◌, refl, subst}
use Rattle.std.specs.Option.{option_map_or}
use Rattle.std.proofs.lemmas.Option.{none-some, same_Some}
use Rattle.gptp_model.specs.World.{WorldState}
use Rattle.gptp_model.specs.declared.done.Done.{Done}
use Rattle.gptp_scenario.specs.declared.change.Act.{Act}
use Rattle.gptp_scenario.specs.declared.change.Act.TheVariants.{Change as Changing, Deliver, Expire}
use Rattle.gptp_setup.specs.declared.timer.Timer.TheVariants as timers
use Rattle.gptp_timeline.specs.Leaving.{can_take_over}
use Rattle.gptp_timeline.specs.NewReading.{can_give_reading}
use Rattle.gptp_timeline.specs.Readings.{by_receipt, by_takeover, gets, is_leading, new_reading, own_reading, reading_among, reads_own, received_reading}
use Rattle.gptp_timeline.specs.Receipts.{received_by}
use Rattle.gptp_timeline.specs.Shown.{live_system}
use Rattle.gptp_timeline.specs.declared.readings.KeptReading.{KeptReading}
use Rattle.gptp_timeline.specs.declared.readings.NewReading.{NewReading}
use Rattle.gptp_timeline.specs.declared.readings.SystemReading.{SystemReading}
use Rattle.gptp_timeline.proofs.LeavingLemmas.{none_takes_over}

abbrev FollowsOn : List SystemReading → NewReading → Type 0
FollowsOn rs u = u.before ≡ reading_among rs u.clock

by_receipt_follows : (w : WorldState) (rs : List SystemReading) (told : Option ℕ) (u : NewReading)
    → by_receipt w rs told ≡ Some u → FollowsOn rs u
by_receipt_follows w rs None u is = absurd (none-some u is)
by_receipt_follows w rs (Some name) u is = by (option_and_then (received_reading w) (live_system name w)) is
  where
    by : (kept : Option KeptReading) → option_map (gets name true (reading_among rs name)) kept ≡ Some u
        → FollowsOn rs u
    by None is = absurd (none-some u is)
    by (Some kept) is =
        subst (FollowsOn rs) (same_Some (gets name true (reading_among rs name) kept) u is) refl

by_takeover_follows : (w : WorldState) (rs : List SystemReading) (name : ℕ) (u : NewReading)
    → by_takeover w rs name ≡ Some u → FollowsOn rs u
by_takeover_follows w rs name u is =
    by (reads_own (reading_among rs name) || not (option_map_or is_leading (live_system name w) false)) is
  where
    by : (none : Bool)
        → (if none then None else Some (gets name false (reading_among rs name) (own_reading w name))) ≡ Some u
        → FollowsOn rs u
    by true is = absurd (none-some u is)
    by false is =
        subst (FollowsOn rs) (same_Some (gets name false (reading_among rs name) (own_reading w name)) u is) refl

pub follows_on : (act : Act) (done : Done) (w : WorldState) (rs : List SystemReading) (u : NewReading)
    → new_reading act done w rs ≡ Some u → u.before ≡ reading_among rs u.clock
follows_on (Deliver link direction) done w rs u is = by_receipt_follows w rs (received_by done) u is
follows_on (Expire name timers.Sync) done w rs u is = by_takeover_follows w rs name u is
follows_on (Expire name timer) done w rs u is = absurd (none-some u is)
follows_on (Changing change) done w rs u is = absurd (none-some u is)

-- where no system can get a reading, none does
pub none_given : (act : Act) (done : Done) (w : WorldState) (rs : List SystemReading)
    → can_give_reading act done ≡ false → new_reading act done w rs ≡ None
none_given (Deliver link direction) done w rs none = by (received_by done) none
  where
    by : (received : Option ℕ) → is_some received || false ≡ false → by_receipt w rs received ≡ None
    by None none = refl
    by (Some name) none = absurd cc
none_given (Expire name timer) done w rs none =
    none_takes_over name timer w rs (by (is_some (received_by done)) (can_take_over (Expire name timer)) none)
  where
    by : (received takes_over : Bool) → received || takes_over ≡ false → takes_over ≡ false
    by true takes_over none = absurd cc
    by false takes_over none = none
none_given (Changing change) done w rs none = refl
