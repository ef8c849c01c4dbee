-- Where a new reading comes from.
use Rattle.std.proofs.Common.{◌≡◌, ◌==◌, ◌||◌, ◌⊎◌, ℕ, Bool, true, false, not, List, [], ◌∷◌, Option, Some, None, option_map, option_and_then, if◌then◌else◌, refl, ap, subst, inl, inr}
use Rattle.std.specs.Option.{option_map_or}
use Rattle.std.proofs.lemmas.Option.{none-some, same_Some}
use Rattle.gptp_model.specs.World.{WorldState}
use Rattle.gptp_model.specs.declared.done.Done.{Done}
use Rattle.gptp_model.specs.declared.station.Station.{Station}
use Rattle.gptp_roles.specs.Selection.{clock_of}
use Rattle.gptp_scenario.specs.declared.change.Act.{Act}
use Rattle.gptp_scenario.specs.declared.change.Act.TheVariants.{Change as Changing, Deliver, Expire}
use Rattle.gptp_setup.specs.declared.timer.Timer.TheVariants as timers
use Rattle.gptp_system.specs.State.{clock, local_time, SystemState}
use Rattle.gptp_system.specs.declared.reading.Reading.{Reading}
use Rattle.gptp_system.specs.Syncing.{held_reading}
use Rattle.gptp_timeline.specs.Readings.{base_among, by_receipt, by_takeover, clock_among, gets, is_leading, new_reading, own_reading, reading_among, reads_own, received_from, received_reading, source_named}
use Rattle.gptp_timeline.specs.Receipts.{received_by}
use Rattle.gptp_timeline.specs.Shown.{live_among, live_system}
use Rattle.gptp_timeline.specs.declared.readings.NewReading.{NewReading}
use Rattle.gptp_timeline.specs.declared.readings.SystemReading.{SystemReading}

-- a live system used a Follow_Up, which left it what it reads by
pub record IsReceived (done : Done) (w : WorldState) (u : NewReading) : Type 0 where
  pub received : u.received ≡ true
  pub told : received_by done ≡ Some u.clock
  pub own : SystemState
  pub lives : live_system u.clock w ≡ Some own
  pub reading : Reading
  pub held : held_reading own ≡ Some reading
  pub source : u.after.source ≡ source_named (clock_of own.root) w
  pub left : u.after.received ≡ Some reading

-- a live system without a Slave port took over
pub record IsTakenOver (w : WorldState) (u : NewReading) : Type 0 where
  pub own : SystemState
  pub lives : live_system u.clock w ≡ Some own
  pub sends : is_leading own ≡ true

receipt_origin : (done : Done) (w : WorldState) (rs : List SystemReading) (name : ℕ) (u : NewReading)
    → received_by done ≡ Some name → by_receipt w rs (Some name) ≡ Some u → IsReceived done w u
receipt_origin done w rs name u told is = by (live_system name w) refl is
  where
    by_held : (s : SystemState) → live_system name w ≡ Some s → (held : Option Reading) → held_reading s ≡ held
        → option_map (gets name true (reading_among rs name))
        (option_map (received_from (source_named (clock_of s.root) w)) held)
        ≡ Some u → IsReceived done w u
    by_held s lives None none is = absurd (none-some u is)
    by_held s lives (Some r) held is =
        subst (IsReceived done w)
        (same_Some
        (gets name true (reading_among rs name) (received_from (source_named (clock_of s.root) w) r)) u is)
        (record {
          received = refl;
          told = told;
          own = s;
          lives = lives;
          reading = r;
          held = held;
          source = refl;
          left = refl;
        })

    by : (live : Option SystemState) → live_system name w ≡ live
        → option_map (gets name true (reading_among rs name)) (option_and_then (received_reading w) live) ≡ Some u
        → IsReceived done w u
    by None lives is = absurd (none-some u is)
    by (Some s) lives is = by_held s lives (held_reading s) refl is

or_false : (a b : Bool) → a || b ≡ false → b ≡ false
or_false true b is = absurd cc
or_false false b is = is

not_false : (a : Bool) → not a ≡ false → a ≡ true
not_false true is = refl
not_false false is = absurd cc

takeover_origin : (w : WorldState) (rs : List SystemReading) (name : ℕ) (u : NewReading)
    → by_takeover w rs name ≡ Some u → IsTakenOver w u
takeover_origin w rs name u is =
    by (reads_own (reading_among rs name) || not (option_map_or is_leading (live_system name w) false)) refl is
  where
    by_live : (live : Option SystemState) → live_system name w ≡ live → option_map_or is_leading live false ≡ true
        → IsTakenOver w (gets name false (reading_among rs name) (own_reading w name))
    by_live None none sends = absurd cc
    by_live (Some s) lives sends = record { own = s; lives = lives; sends = sends }

    by : (none : Bool)
        → reads_own (reading_among rs name) || not (option_map_or is_leading (live_system name w) false) ≡ none
        → (if none then None else Some (gets name false (reading_among rs name) (own_reading w name))) ≡ Some u
        → IsTakenOver w u
    by true test is = absurd (none-some u is)
    by false test is =
        subst (IsTakenOver w) (same_Some (gets name false (reading_among rs name) (own_reading w name)) u is)
        (by_live (live_system name w) refl (not_false (option_map_or is_leading (live_system name w) false)
        (or_false (reads_own (reading_among rs name))
        (not (option_map_or is_leading (live_system name w) false)) test)))

pub origin : (act : Act) (done : Done) (w : WorldState) (rs : List SystemReading) (u : NewReading)
    → new_reading act done w rs ≡ Some u → IsReceived done w u ⊎ IsTakenOver w u
origin (Deliver link direction) done w rs u is = by (received_by done) refl is
  where
    by : (told : Option ℕ) → received_by done ≡ told → by_receipt w rs told ≡ Some u
        → IsReceived done w u ⊎ IsTakenOver w u
    by None none is = absurd (none-some u is)
    by (Some name) told is = inl (receipt_origin done w rs name u told is)
origin (Expire name timers.Sync) done w rs u is = inr (takeover_origin w rs name u is)
origin (Expire name timer) done w rs u is = absurd (none-some u is)
origin (Changing change) done w rs u is = absurd (none-some u is)

-- a live system shows its time
pub live_time : (name time : ℕ) (stations : List Station) (s : SystemState) → live_among name stations ≡ Some s
    → clock_among name time stations ≡ Some (local_time s time)
live_time name time [] s is = absurd (none-some s is)
live_time name time (x ∷ xs) s is = by (clock x.system == name) refl x.live refl (live_time name time xs s) is
  where
    by : (own : Bool) → clock x.system == name ≡ own → (live : Bool) → x.live ≡ live
        → (live_among name xs ≡ Some s → clock_among name time xs ≡ Some (local_time s time))
        → live_among name (x ∷ xs) ≡ Some s → clock_among name time (x ∷ xs) ≡ Some (local_time s time)
    by true own true live rest is =
        let same : x.system ≡ s = same_Some x.system s (rw (own, live) at is) in
        rw own (ap (λ (y : SystemState). Some (local_time y time)) same)
    by true own false live rest is = absurd (none-some s (rw (own, live) at is))
    by false own live is_live rest is = rw own (rest (rw own at is))

-- and has its base
pub live_base : (name : ℕ) (stations : List Station) (s : SystemState) → live_among name stations ≡ Some s
    → base_among name stations ≡ s.base
live_base name [] s is = absurd (none-some s is)
live_base name (x ∷ xs) s is = by (clock x.system == name) refl x.live refl (live_base name xs s) is
  where
    by : (own : Bool) → clock x.system == name ≡ own → (live : Bool) → x.live ≡ live
        → (live_among name xs ≡ Some s → base_among name xs ≡ s.base) → live_among name (x ∷ xs) ≡ Some s
        → base_among name (x ∷ xs) ≡ s.base
    by true own true live rest is =
        let same : x.system ≡ s = same_Some x.system s (rw (own, live) at is) in
        rw own (ap (λ (y : SystemState). y.base) same)
    by true own false live rest is = absurd (none-some s (rw (own, live) at is))
    by false own live is_live rest is = rw own (rest (rw own at is))
