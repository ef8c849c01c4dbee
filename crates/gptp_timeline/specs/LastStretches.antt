-- The last stretches of a run (profile).
use Rattle.std.specs.Prelude.{◌≡◌, ℕ, Bool, if◌then◌else◌, length, List, [], ◌∷◌, map, Option, Some, None, false}
use Rattle.std.specs.Option.{option_map}
use Rattle.gptp_model.specs.Course.{Begun}
use Rattle.gptp_model.specs.Views.{rising_clocks}
use Rattle.gptp_model.specs.World.{WorldState}
use Rattle.gptp_links.specs.declared.bounds.Bounds.{Bounds}
use Rattle.gptp_network.specs.Document.{DocumentState}
use Rattle.gptp_network.specs.Snapshot.{events_by}
use Rattle.gptp_world.specs.Transitions.{ActTrace}
use Rattle.gptp_timeline.specs.Aside.{aside_begun, aside_over, AsideState, looked_acts, nobody_aside, readings_begun}
use Rattle.gptp_timeline.specs.Ends.{EndState}
use Rattle.gptp_timeline.specs.Keepers.{keepers_among, keepers_in}
use Rattle.gptp_timeline.specs.Limits.{exceeded_after}
use Rattle.gptp_timeline.specs.Looks.{measured_times}
use Rattle.gptp_timeline.specs.Readings.{readings_after}
use Rattle.gptp_timeline.specs.Shown.{shown}
use Rattle.gptp_timeline.specs.Stretch.{roots_of, shown_of_all, waits}
use Rattle.gptp_timeline.specs.Timeline.{AllPass, Carried, ended_of, none_carried, StretchTrace, stretch_of}
use Rattle.gptp_timeline.specs.Watch.{WatchState}
use Rattle.gptp_timeline.specs.declared.ends.LastStretches.{LastStretches}
use Rattle.gptp_timeline.specs.declared.ends.StretchesSoFar.{StretchesSoFar}
use Rattle.gptp_timeline.specs.declared.limits.Limits.{Limits}
use Rattle.gptp_timeline.specs.declared.stretch.Stretch.{Stretch}
use Rattle.gptp_timeline.specs.declared.timeline.Plan.{Plan}

-- ---- stretches of which some systems are set aside

-- what stretches carry over to the next, and who is set aside
pub record CarriedAside : Type 0 where
  pub carried : Carried
  pub aside : AsideState

-- a stretch begins: who begins to be set aside has no time from now on
abbrev pub carry_begun : ℕ → CarriedAside → CarriedAside
carry_begun at c = record {
  carried = record c.carried { readings = option_map (readings_begun (aside_begun at c.aside)) c.carried.readings };
  aside = aside_begun at c.aside;
}

-- it ends after these acts: what those that are set aside did isn't looked at
abbrev pub carry_ended : List ActTrace → CarriedAside → CarriedAside
carry_ended ts c = record {
  carried = record {
    since = waits ts c.carried.since;
    readings = option_map (readings_after (looked_acts c.aside ts)) c.carried.readings;
  };
  aside = aside_over ts c.aside;
}

-- what became of a stretch that began so
abbrev pub stretch_aside : List ℕ → CarriedAside → StretchTrace → Stretch
stretch_aside names c p = record (stretch_of names c.carried p) {
  times = option_map (λ rs. measured_times rs (length p.events) (looked_acts c.aside p.acts) p.to p.after)
      c.carried.readings;
}

-- how it ended
abbrev pub end_begun : List ℕ → CarriedAside → StretchTrace → EndState
end_begun names c p = record {
  stretch = stretch_aside names c p;
  roots = roots_of (map (λ name. shown name p.after) names);
  keepers = keepers_in names p.after;
}

-- how a stretch ended that passed, where this was carried over from the one before
abbrev pub end_in : List ℕ → CarriedAside → StretchTrace → EndState
end_in names c p = end_begun names (carry_begun p.from c) p

abbrev pub carry_over : StretchTrace → CarriedAside → CarriedAside
carry_over p c = carry_ended p.acts (carry_begun p.from c)

-- as the systems with these names start, of which some are set aside
abbrev pub first_aside : Bool → AsideState → List ℕ → CarriedAside
first_aside asked aside names = record { carried = none_carried asked names; aside = aside }

-- nobody is, where it isn't asked what systems read
abbrev pub aside_if : Bool → AsideState → AsideState
aside_if asked aside = if asked then aside else nobody_aside

-- ---- the last three

abbrev pub none_last : LastStretches
none_last = record { earlier = None; before = None; last = None }

abbrev pub with_end : LastStretches → EndState → LastStretches
with_end ends e = record { earlier = ends.before; before = ends.last; last = Some e }

-- the last three of these and of several more, which passed one after another
abbrev pub last_behind : List ℕ → CarriedAside → List StretchTrace → LastStretches → LastStretches
last_behind names c [] ends = ends
last_behind names c (p ∷ ps) ends =
    last_behind names (carry_over p c) ps (with_end ends (end_in names c p))

-- The world of a document begins, all stretches of its run pass, and so ended the last three of them, as far as there
-- are so many. It is asked what systems read, or isn't, and of that some are set aside. How exact systems are isn't
-- asked.
pub record EndsOf {F : Type 0} (answers : Bounds → ℕ → F → Option ℕ → F → Type 0) (asked : Bool) (aside : AsideState)
    (d : DocumentState) (until : ℕ) (fate : F) (last : LastStretches) : Type 0 where
  pub started : F
  pub start : WorldState
  pub begun : Begun answers d.network fate started start
  pub passages : List StretchTrace
  pub fate_after : F
  pub after : WorldState
  pub pass : AllPass answers false d until 0 (events_by until d.events) started fate_after start after passages
  pub are : last ≡ last_behind (rising_clocks start) (first_aside asked (aside_if asked aside) (rising_clocks start))
      passages none_last

-- ---- by what an observer keeps, and what is kept of each stretch

abbrev pub end_of : Plan → WorldState → WatchState → EndState
end_of plan w o = record {
  stretch = ended_of plan w o;
  roots = roots_of (shown_of_all o.systems);
  keepers = keepers_among o.systems;
}

-- nothing is kept yet
abbrev pub none_kept : StretchesSoFar
none_kept = record { exceeded = None; last = none_last }

-- what is kept with one stretch more
abbrev pub kept_after : Limits → EndState → StretchesSoFar → StretchesSoFar
kept_after limits e kept =
    record { exceeded = exceeded_after limits e.stretch kept.exceeded; last = with_end kept.last e }

-- what is kept with several stretches more, which passed one after another
abbrev pub all_kept : Limits → List ℕ → CarriedAside → List StretchTrace → StretchesSoFar → StretchesSoFar
all_kept limits names c [] kept = kept
all_kept limits names c (p ∷ ps) kept =
    all_kept limits names (carry_over p c) ps (kept_after limits (end_in names c p) kept)
