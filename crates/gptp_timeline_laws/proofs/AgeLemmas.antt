-- In a stretch that has a bound time keeps coming, where the network has a syncReceiptTimeout.
use Rattle.std.proofs.Common.{◌≡◌, ◌⊎◌, ◌==◌, ◌<◌, ◌≤◌, ◌+◌, ℕ, true, false, List, [], ◌∷◌, ◌++◌, Option, sym, ap, subst, ◌∙◌, inl, inr, arith}
use Rattle.std.specs.List.{AllByRecursion}
use Rattle.std.specs.Option.{option_map_or}
use Rattle.std.proofs.lemmas.Bool.Decides.{nat_tests}
use Rattle.gptp_graph.specs.PathBound.{path_bound}
use Rattle.gptp_graph.specs.Snapshot.{Snapshot}
use Rattle.gptp_graph.proofs.PathBoundLemmas.{IsDistance-within}
use Rattle.gptp_invariants.specs.ChoiceCalm.{sync_paths_of}
use Rattle.gptp_invariants.specs.WorldStanding.{snapshot_of}
use Rattle.gptp_invariants.proofs.WorldGreatestDelayLemmas.{delay_short}
use Rattle.gptp_links.specs.declared.bounds.Bounds.{Bounds}
use Rattle.gptp_lists.specs.Members.{In}
use Rattle.gptp_lists.proofs.SystemSpecLemmas.{In-parts}
use Rattle.gptp_model.specs.Acts.{at}
use Rattle.gptp_model.specs.Views.{rising_clocks}
use Rattle.gptp_model.specs.World.{WorldState}
use Rattle.gptp_network.specs.Document.{DocumentState}
use Rattle.gptp_network.specs.Snapshot.{events_by, StandsAfter}
use Rattle.gptp_network.proofs.InUseLemmas.{paths_are}
use Rattle.gptp_scenario.specs.Calm.{IsCalm}
use Rattle.gptp_scenario.specs.Network.{pace_of}
use Rattle.gptp_scenario.specs.SettlingTime.{settling_span_with}
use Rattle.gptp_scenario.specs.SyncWait.{sync_paths, sync_wait}
use Rattle.gptp_scenario.specs.declared.change.Timed.{Timed}
use Rattle.gptp_scenario.specs.declared.sync_wait.SyncPaths.{SyncPaths}
use Rattle.gptp_setup.specs.SettlingParams.{SettlingParams}
use Rattle.gptp_setup.proofs.IntervalLemmas.{interval_positive}
use Rattle.gptp_system.specs.State.{can_lead}
use Rattle.gptp_theorem.specs.PlayedLaws.{IsPlayable}
use Rattle.gptp_theorem.specs.Reached.{StandsAsPlanned}
use Rattle.gptp_reading.specs.Age.{HeardWithin}
use Rattle.gptp_reading.proofs.HeardLemmas.{AreTimed, heard_lately, prompt_paths, wait_ends}
use Rattle.gptp_timeline.specs.Stretch.{at_of}
use Rattle.gptp_timeline.proofs.RestLemmas.{shows_live}
use Rattle.gptp_timeline_laws.specs.Age.{GetsTime, ReceivedWithin, TimelinesHearInTime}
use Rattle.gptp_timeline_laws.specs.Moments.{world_after}
use Rattle.gptp_timeline_laws.proofs.PartLemmas.{EarlyBy}
use Rattle.gptp_timeline_laws.proofs.RootLemmas.{received_it}
use Rattle.gptp_timeline_laws.proofs.StandsLemmas.{bounded, has_passed, IsOver, lives_then, near_then, quiet, root_then, same_paths, slave_then, span_over_then, stands_so, world_calm}
use Rattle.gptp_world.specs.Transitions.{ActTrace}

-- ---- who was heard

module _ {F : Type 0} (answers : Bounds → ℕ → F → Option ℕ → F → Type 0) (d : DocumentState)
    (playable : IsPlayable d) (names : List ℕ) (events : List Timed) (acts : List ActTrace) (v : WorldState)
    (stands : StandsAsPlanned d.network events v) (timed : AreTimed (pace_of d.network) acts v)
    (calm : IsCalm d.network events) (g : Snapshot) (planned : StandsAfter d.network events g) (name : ℕ)
    (gets : GetsTime g name) (above : 0 < d.network.params.sync_timeout) where
  abbrev pace : SettlingParams
  pace = pace_of d.network

  abbrev wait : SyncPaths → ℕ
  wait paths = sync_wait d.network.params paths

  same : sync_paths d.network events ≡ sync_paths_of v
  same = same_paths answers d playable names events acts v stands timed calm

  heard_then : IsOver answers d playable names events acts v stands timed calm
      → HeardWithin acts name (wait (sync_paths d.network events)) v.time
  heard_then over =
      let (s, lives) = lives_then answers d playable names events acts v stands timed calm g planned name gets.near in
      let (port, slave) = slave_then answers d playable names events acts v stands timed calm g planned name gets.near
      over gets.best gets.is_best gets.other s lives in
      let root = root_then answers d playable names events acts v stands timed calm g planned name gets.near over
      gets.best gets.is_best s lives in
      subst (λ paths. HeardWithin acts name (wait paths) v.time) (sym same)
      (heard_lately pace acts v timed (world_calm answers d playable names events acts v stands timed calm) name port s
      above (has_passed answers d playable names events acts v stands timed calm over)
      (near_then answers d playable names events acts v stands timed calm g planned name gets.near)
      (shows_live name v s lives) slave (subst (λ r. can_lead r ≡ true) (sym root) gets.leads))

  -- the wait is shorter than the span
  wait_less : wait (sync_paths d.network events)
      < settling_span_with pace (sync_paths d.network events) (sync_paths d.network events).systems
  wait_less =
      let near = near_then answers d playable names events acts v stands timed calm g planned name gets.near in
      let within = IsDistance-within (snapshot_of v) (path_bound (snapshot_of v)) name near.0
      (bounded answers d playable names events acts v stands timed calm) near.1 in
      let lapses = (quiet answers d playable names events acts v stands timed calm).lapses in
      let ends = wait_ends pace (sync_paths_of v) (path_bound (snapshot_of v)) 0
      (interval_positive pace.largest timed.claimed.pace.largest) (delay_short pace v timed.claimed.world.known)
      (prompt_paths pace (sync_paths_of v) above lapses) (omega (arith, within)) in
      subst (λ paths. wait paths < settling_span_with pace paths paths.systems) (sym same)
      (less (wait (sync_paths_of v)) (settling_span_with pace (sync_paths_of v) (path_bound (snapshot_of v))) _ ends)
    where
      less : (x y z : ℕ) → z + x < y → x < y
      less x y z sum = omega arith

-- ---- a stretch

-- an act that is heard so late was done in the stretch
received_in : (name span time from : ℕ) (before done : List ActTrace) → AllByRecursion (EarlyBy from) before
    → from + span < time → HeardWithin (before ++ done) name span time → ReceivedWithin name span time done
received_in name span time from before done early late heard =
    by (In-parts heard.act before done heard.member)
  where
    lately : time ≤ at_of heard.act + span
    lately = heard.lately

    each_early : (t : ActTrace) (ts : List ActTrace) → AllByRecursion (EarlyBy from) ts → In t ts → at_of t ≤ from
    each_early t [] each member = absurd member
    each_early t (x ∷ xs) each (inl same) = subst (λ (y : ActTrace). at_of y ≤ from) (sym same) each.0
    each_early t (x ∷ xs) each (inr later) = each_early t xs each.1 later

    by : In heard.act before ⊎ In heard.act done → ReceivedWithin name span time done
    by (inl old) = let soon = each_early heard.act before early old in absurd (omega (arith, soon, lately, late))
    by (inr new) =
        let itself : name == name ≡ true = grind (arith, nat_tests) in record {
          act = heard.act;
          member = new;
          receives = ap (λ o. option_map_or (λ c. c == name) o false)
              (received_it name heard.act.told.done heard.uses) ∙ itself;
          lately = lately;
        }

-- sums of times
within_time : (from bound span wait time : ℕ) → wait < span → span ≡ bound → from + bound ≤ time → from + wait < time
within_time from bound span wait time less same late = omega arith

pub timelines_hear_in_time : {F : Type 0} (answers : Bounds → ℕ → F → Option ℕ → F → Type 0)
    → TimelinesHearInTime answers
timelines_hear_in_time answers d until options fate lines exceeded t playable ends p w c g time bound name moment begins
    bounds above late planned gets =
    let names = rising_clocks t.start in
    let events = events_by p.from d.events in
    let paths = sync_paths d.network events in
    let k = stands_so answers d until options fate lines exceeded t playable ends p w c time moment begins in
    let v = at time (world_after moment.done w) in
    let acts = k.before ++ moment.done in
    let span = bounds.1 in
    let same : settling_span_with (pace_of d.network) paths paths.systems ≡ bound =
    ap (settling_span_with (pace_of d.network) paths)
    (paths_are d.network playable.network events span.snapshot span.stands)
    ∙ sym span.is in
    received_in name (sync_wait d.network.params paths) time p.from k.before moment.done k.early
    (within_time p.from bound (settling_span_with (pace_of d.network) paths paths.systems)
    (sync_wait d.network.params paths) time
    (wait_less answers d playable names events acts v k.stands k.timed bounds.0 g planned name gets above) same late)
    (heard_then answers d playable names events acts v k.stands k.timed bounds.0 g planned name gets above
    (span_over_then d p.from bound time playable bounds late))
