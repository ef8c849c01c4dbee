-- What is held in a world, and what is in flight, names the interval of the port that told it, but for what is older
-- than the last change. That is gone by an announce interval and a receipt timeout after it.
use Rattle.std.proofs.Common.{◌≡◌, ◌≤◌, ◌+◌, ℕ, suc, List, Some, slice_get, refl, sym, ap, subst, ◌∙◌, inl, inr, arith}
use Rattle.gptp_links.specs.Fate.{Draw}
use Rattle.gptp_setup.specs.Intervals.{IsLog}
use Rattle.gptp_scenario.specs.declared.change.Act.{Act}
use Rattle.gptp_setup.specs.SettlingParams.{SettlingParams, largest_interval, longest_span}
use Rattle.gptp_setup.proofs.SettlingParamsLemmas.{span_longest}
use Rattle.gptp_graph.specs.Snapshot.{port_of}
use Rattle.gptp_model.specs.Acts.{Acts, at as at_time}
use Rattle.gptp_model.specs.Pending.{NothingBefore}
use Rattle.gptp_model.specs.World.{WorldState}
use Rattle.gptp_model.specs.declared.done.Done.{Done}
use Rattle.gptp_bmca_machine.specs.Acts.{MachineSteps}
use Rattle.gptp_bmca_machine.specs.Facts.{StationFacts}
use Rattle.gptp_bmca_machine.specs.Network.{Network, network_setting}
use Rattle.gptp_bmca_machine.specs.Station.{Port, Station}
use Rattle.gptp_invariants.specs.ChoiceCalm.{network_of}
use Rattle.gptp_invariants.specs.ChoiceSeenLaws.{IsNoChange}
use Rattle.gptp_invariants.specs.ChoiceSettlesAsMachine.{IsWorld}
use Rattle.gptp_invariants.specs.ChoiceView.{says_announce, span_at, view}
use Rattle.gptp_invariants.proofs.ChoiceCalmFactLemmas.{facts}
use Rattle.gptp_invariants.proofs.ChoiceCalmKeptLemmas.{KeepsNetwork, acts_keep, same_network}
use Rattle.gptp_invariants.proofs.ChoicePlaceLemmas.{port_from, station_from}
use Rattle.gptp_invariants.proofs.ChoiceSeenActLemmas.{acts_seen}
use Rattle.gptp_invariants.proofs.WorldLogLemmas.{log_is}
use Rattle.gptp_invariants.proofs.WorldNewsCourseLemmas.{later_keeps}
use Rattle.gptp_invariants.proofs.WorldSetLemmas.{log_there}
use Rattle.gptp_settling_time.proofs.AgingClaimedLemmas.{named_in, stay_of}
use Rattle.gptp_settling_time.proofs.AgingLemmas.{EachAges}
use Rattle.gptp_settling_time.proofs.DueLemmas.{due_by_interval}
use Rattle.gptp_settling_time.proofs.NamesIntervalLemmas.{AnnounceAsSet, NamedOrOld, named_kept}

-- the network of a world, where its paths don't matter
abbrev pub set_network : SettlingParams → WorldState → Network
set_network p w = network_of p 0 0 w

-- what was held or in flight at the last change has aged by then
abbrev pub old_by : SettlingParams → WorldState → ℕ
old_by p w = suc (w.last_change + largest_interval p + longest_span p)

abbrev pub IsNamedWorld : SettlingParams → WorldState → Type 0
IsNamedWorld p w =
    EachAges says_announce (set_network p w).graph (stay_of p) (NamedOrOld (set_network p w) (old_by p w))
    (view w)

module _ (p : SettlingParams) (w : WorldState) (is : IsWorld p w) where
  pub set_facts : StationFacts (network_setting (set_network p w)) (view w)
  set_facts = facts p 0 0 w is.sound is.encodable is.known

  pub announce_set : AnnounceAsSet (set_network p w) (view w)
  announce_set i s place q at live there =
      let x = station_from w.stations i s at in
      let system = x.station.system in
      let y = port_from (span_at system) system.held system.ports place q
      (subst (λ (z : Station). slice_get z.ports place ≡ Some q) x.is there) in
      let set = is.known.set i x.station x.here in
      ap (λ (z : Port). z.log) y.is
      ∙ sym (log_is w is.sound.wired.clocks i x.station x.here (suc place)
      ∙ log_there p x.station set place y.port y.port_there)
      ∙ ap (λ (z : Station). (set_network p w).log_of (port_of z.clock (suc place))) (sym x.is)

  -- it begins with each change
  pub named_begins : IsLog p.largest → w.last_change ≡ w.time → IsNamedWorld p w
  named_begins largest now = record {
    held = λ i s place r at live holds.
        let x = ((set_facts.stations i s at live).held place r holds) in
        let came = x.came in
        let short = x.short in
        inr (omega (arith, came, short, now));
    flight = λ j l f a at among said known.
        let due = due_by_interval p w is j l f a at among said in
        let most = span_longest p a.log largest in
        inr (omega (arith, due, most, now));
  }

-- and goes on
named_step : (p : SettlingParams) (w w' : WorldState) → IsWorld p w → IsWorld p w' → KeepsNetwork w w'
    → MachineSteps says_announce (view w) (view w') → IsNamedWorld p w → IsNamedWorld p w'
named_step p w w' is is' keeps step named =
    let same = same_network w w' keeps p 0 0 in
    let n = set_network p w in
    subst (λ t. EachAges says_announce (set_network p w').graph (stay_of p) (NamedOrOld (set_network p w')
    (suc (t + largest_interval p + longest_span p))) (view w')) (sym keeps.change)
    (subst (λ (x : Network). EachAges says_announce x.graph (stay_of p) (NamedOrOld x (old_by p w)) (view w'))
    (sym same)
    (named_kept says_announce n (stay_of p) (old_by p w) (view w) (view w') (set_facts p w is)
    (subst (λ (x : Network). StationFacts (network_setting x) (view w')) same (set_facts p w' is'))
    (subst (λ (x : Network). AnnounceAsSet x (view w')) same (announce_set p w' is')) (named_in p w' is') step named))

pub named_later : (p : SettlingParams) (time : ℕ) (w : WorldState) → IsWorld p w → IsWorld p (at_time time w)
    → w.time ≤ time → NothingBefore time w.net.pending → IsNamedWorld p w → IsNamedWorld p (at_time time w)
named_later p time w is is' later first =
    named_step p w (at_time time w) is is' (later_keeps time w)
    (inl (record { time = time; later = later; is = refl }))

pub named_acts : (p : SettlingParams) (act : Act) (w : WorldState) (draws : List Draw) (done : Done) (w' : WorldState)
    → IsNoChange act → Acts act w draws done w' → IsWorld p w → IsWorld p w' → IsNamedWorld p w → IsNamedWorld p w'
named_acts p act w draws done w' none acts is is' =
    named_step p w w' is is' (acts_keep act w draws done w' none acts)
    (inr (acts_seen act w draws done w' none is.sound is.encodable acts))
