-- Acts that are no events, one after another, and the clocks of systems meanwhile.
use Rattle.std.proofs.Common.{◌≡◌, ◌==◌, ◌≤◌, ℕ, suc, ◌+ℤ◌, false, List, [], ◌∷◌, ◌++◌, Option, Some, option_map, slice_get, if◌then◌else◌, refl, sym, ap, ◌∙◌, arith}
use Rattle.gptp_invariants.specs.ChoiceCalm.{setups_of}
use Rattle.gptp_invariants.proofs.ChoiceCalmKeptLemmas.{acts_keep}
use Rattle.gptp_links.specs.declared.bounds.Bounds.{Bounds}
use Rattle.gptp_model.specs.Acts.{at}
use Rattle.gptp_model.specs.World.{WorldState}
use Rattle.gptp_model.specs.declared.item.Item.{Item}
use Rattle.gptp_model.specs.declared.item.Item.TheVariants.{Arrival, Expiry}
use Rattle.gptp_model.specs.declared.station.Station.{Station}
use Rattle.gptp_model.specs.Views.{IsActOf}
use Rattle.gptp_network.specs.Document.{DocumentState}
use Rattle.gptp_pdelay.specs.Clock.{local_clock}
use Rattle.gptp_roles.specs.Selection.{clock_of}
use Rattle.gptp_scenario.specs.declared.change.Act.{Act}
use Rattle.gptp_scenario.specs.declared.change.Timed.{Timed}
use Rattle.gptp_setup.specs.declared.setup.Setup.{Setup}
use Rattle.gptp_system.specs.State.{clock, local_time}
use Rattle.gptp_theorem.specs.PlayedLaws.{IsPlayable}
use Rattle.gptp_timeline.specs.Readings.{clock_among, clock_time, source_time}
use Rattle.gptp_timeline.specs.Stretch.{at_of, is_change}
use Rattle.gptp_timeline.specs.declared.readings.TimeSource.{TimeSource}
use Rattle.gptp_timeline.proofs.SettlingLemmas.{act_time, Keeps, keeps_act, no_change}
use Rattle.gptp_timeline_laws.specs.Moments.{last_time, next_time, world_after}
use Rattle.gptp_world.specs.Transitions.{ActTrace, Passes}

-- ---- the clocks of two worlds

-- each clock shows the same in both, at every time
abbrev pub SameClocks : WorldState → WorldState → Type 0
SameClocks w v = (name time : ℕ) → clock_time name time v ≡ clock_time name time w

-- so each source has the same time
pub same_sources : (w v : WorldState) → SameClocks w v → (source : TimeSource) (time : ℕ)
    → source_time source time v ≡ source_time source time w
same_sources w v same source time = ap (option_map (λ shown. shown +ℤ source.base)) (same source.clock time)

-- a station has its clock, which shows the time of its setup
record IsClocked (station : Station) : Type 0 where
  named : clock station.system ≡ clock_of station.setup.identity
  shows : (time : ℕ) → local_time station.system time ≡ local_clock station.setup.phase station.setup.drift time

abbrev AreClocked : List Station → Type 0
AreClocked stations = (place : ℕ) (station : Station) → slice_get stations place ≡ Some station → IsClocked station

same_among : (xs ys : List Station) → AreClocked xs → AreClocked ys → setups_of ys ≡ setups_of xs
    → (name time : ℕ) → clock_among name time ys ≡ clock_among name time xs
same_among [] [] first second same name time = refl
same_among [] (y ∷ ys) first second same name time = absurd cc
same_among (x ∷ xs) [] first second same name time = absurd cc
same_among (x ∷ xs) (y ∷ ys) first second same name time =
    let is : y.setup ≡ x.setup = cc in
    let are : setups_of ys ≡ setups_of xs = cc in
    let rest = same_among xs ys (λ place. first (suc place)) (λ place. second (suc place)) are name time in
    let a = first 0 x refl in let b = second 0 y refl in
    let named : clock y.system ≡ clock x.system =
    b.named ∙ ap (λ (s : Setup). clock_of s.identity) is ∙ sym a.named in
    let shows : local_time y.system time ≡ local_time x.system time =
    b.shows time ∙ ap (λ (s : Setup). local_clock s.phase s.drift time) is ∙ sym (a.shows time) in
    λ i. if named i == name then Some (shows i) else rest i

-- ---- acts

-- An act is no event, it isn't before a time, and the clocks after it are those of a world.
pub record IsStep (w : WorldState) (since : ℕ) (t : ActTrace) : Type 0 where
  pub later : since ≤ at_of t
  pub quiet : is_change t.told.timed.act ≡ false
  pub same : SameClocks w t.after

-- so are these, one after another, none of them after another time
abbrev pub Steps : WorldState → ℕ → ℕ → List ActTrace → Type 0
Steps w until since [] = since ≤ until
Steps w until since (t ∷ ts) = IsStep w since t × Steps w until (at_of t) ts

-- the first of them is no earlier
pub next_late : (w : WorldState) (until since : ℕ) (ts : List ActTrace) → Steps w until since ts
    → since ≤ next_time until ts
next_late w until since [] steps = steps
next_late w until since (t ∷ ts) steps = steps.0.later

-- and those after some of them are so too
pub steps_after : (w : WorldState) (until since : ℕ) (us vs : List ActTrace) → Steps w until since (us ++ vs)
    → Steps w until (last_time since us) vs
steps_after w until since [] vs steps = steps
steps_after w until since (t ∷ us) vs steps = steps_after w until (at_of t) us vs steps.1

pub world_same : (w v : WorldState) (until since : ℕ) (us vs : List ActTrace) → SameClocks w v
    → Steps w until since (us ++ vs) → SameClocks w (world_after us v)
world_same w v until since [] vs same steps = same
world_same w v until since (t ∷ us) vs same steps = world_same w t.after until (at_of t) us vs steps.0.same steps.1

-- ---- acts that pass

pub quiet_next : (item : Item) (act : Act) (w : WorldState) → IsActOf item w act → is_change act ≡ false
quiet_next (Arrival link direction) act w is = ap is_change is
quiet_next (Expiry place timer) act w (station, here, is) = ap is_change is

module _ {F : Type 0} (answers : Bounds → ℕ → F → Option ℕ → F → Type 0) (d : DocumentState)
    (playable : IsPlayable d) (names : List ℕ) where
  clocked : (events : List Timed) (w : WorldState) → Keeps answers d playable names events w → AreClocked w.stations
  clocked events w keeps place station here =
      let set_up = (keeps.claimed.measured.stations place station here).set_up in record {
        named = sym (keeps.named.setups place station here).named;
        shows = λ time. (let phase = set_up.phase in let drift = set_up.drift in
            λ i. local_clock (phase i) (drift i) time);
      }

  -- where the network stays the clocks do
  pub clocks_stay : (events : List Timed) (v w : WorldState) → Keeps answers d playable names events v
      → Keeps answers d playable names events w → setups_of w.stations ≡ setups_of v.stations → SameClocks v w
  clocks_stay events v w before after same name time =
      same_among v.stations w.stations (clocked events v before) (clocked events w after) same name time

  pub passes_step : (events : List Timed) (until since : ℕ) (ts : List ActTrace) (fate fate_after : F)
      (base w w' : WorldState) → SameClocks base w → since ≤ w.time → w.time ≤ until
      → Passes answers until ts fate fate_after w w' → Keeps answers d playable names events w
      → Steps base until since ts × SameClocks base w'
  passes_step events until since [] fate fate_after base w w' same late early (one, is) keeps =
      (omega arith, λ name time. ap (λ v. clock_time name time v) is ∙ same name time)
  passes_step events until since (t ∷ ts) fate fate_after base w w' same late early (drawn, before, happens, rest)
      keeps =
      let timed = t.told.timed in
      let timely = happens.was_done.ready.timely in
      let now = timely.now in
      let moment = act_time answers d playable names until t fate drawn w keeps.claimed.world.sound happens in
      let network = acts_keep timed.act (at timed.at w) happens.was_done.draws t.told.done t.after
      (no_change happens.next.item timed.act w happens.next.act) happens.was_done.acts in
      let on = keeps_act answers d playable names events until t fate drawn w happens keeps in
      let stay = clocks_stay events w t.after keeps on network.setups in
      let next : SameClocks base t.after = λ name time. stay name time ∙ same name time in
      let first = happens.early in
      let more = passes_step events until (at_of t) ts drawn fate_after base t.after w' next (omega (arith, moment))
      (omega (arith, moment, first)) rest on in (
        (
          record {
            later = omega (arith, late, now);
            quiet = quiet_next happens.next.item timed.act w happens.next.act;
            same = next;
          },
          more.0,
        ),
        more.1,
      )
