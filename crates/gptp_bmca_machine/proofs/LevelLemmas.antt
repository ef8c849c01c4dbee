-- Settling by distance: systems at one distance settle by what those one step nearer tell, and every step keeps that.
use Rattle.std.proofs.Common.{◌≡◌, ◌≤◌, ◌<◌, ◌+◌, ℕ, zero, suc, true, Some, length, slice_get, refl, sym, subst, ◌∙◌, inl, inr, arith}
use native.Mathlib.Decide.{dec_lt}
use Rattle.gptp_lists.specs.Members.{In}
use Rattle.gptp_lists.proofs.PlaceLemmas.{member_there}
use Rattle.gptp_graph.specs.Snapshot.{System, PortIdentity, Snapshot, IsWellFormed, port_of, Joins, Adjacent, clocks}
use Rattle.gptp_graph.specs.Best.{IsBest}
use Rattle.gptp_graph.specs.Distance.{IsDistance}
use Rattle.gptp_graph.proofs.LinkLemmas.{Joins-sym, Joins-clock}
use Rattle.gptp_graph.proofs.SystemLemmas.{same_clock}
use Rattle.gptp_graph.proofs.BestLemmas.{IsBest-neighbour}
use Rattle.gptp_graph.proofs.DistanceLemmas.{IsDistance-clock, nearer_neighbour}
use Rattle.gptp_bmca_machine.specs.Frame.{Announce, Spelling, Lane}
use Rattle.gptp_bmca_machine.specs.Clean.{Good, Whole}
use Rattle.gptp_bmca_machine.specs.SoundLaws.{IsWholeFrom, AllIsWhole}
use Rattle.gptp_bmca_machine.specs.Station.{Reception, Port, Station, MachineState, HoldsAt}
use Rattle.gptp_bmca_machine.specs.Acts.{MachineSteps}
use Rattle.gptp_bmca_machine.specs.Facts.{station_system}
use Rattle.gptp_bmca_machine.specs.CleanInvariant.{TracesAreClean}
use Rattle.gptp_bmca_machine.specs.Sound.{RunIsSound}
use Rattle.gptp_bmca_machine.specs.LinkStage.{IsFinal}
use Rattle.gptp_bmca_machine.specs.Link.{Stand, LinkSettles}
use Rattle.gptp_bmca_machine.specs.Network.{Network, IsSettlingNetwork, network_setting, machine_clean_from, since, wiring}
use Rattle.gptp_bmca_machine.specs.Calm.{Calm}
use Rattle.gptp_bmca_machine.specs.EarlyPorts.{EarlyPortsHear, ClaimsWhenReady}
use Rattle.gptp_bmca_machine.specs.Lapsing.{NothingNearLapses}
use Rattle.gptp_bmca_machine.specs.Levels.{LeadsFarther, LevelSettles, Invariant}
use Rattle.gptp_bmca_machine.proofs.NearestLemmas.{came_fits}
use Rattle.gptp_bmca_machine.proofs.LinkLemmas.{link_kept, link_settled}
use Rattle.gptp_bmca_machine.proofs.CleanLemmas.{held_whole}
use Rattle.gptp_bmca_machine.proofs.RestLemmas.{Chooses, zero_settles, suc_settles}
use Rattle.gptp_bmca_machine.proofs.EndsLemmas.{AllChoose, clear_at, station_of, is_station, ends, capable_at, hears_on, stays_on, lapses_later}

-- a port's number is one more than its place
pub place_of : (m : ℕ) → 1 ≤ m → (p : ℕ) × (m ≡ suc p)
place_of zero h = absurd (omega arith)
place_of (suc p) h = (p, refl)

-- so are those of both ends of a link
pub places_of : (g : Snapshot) (v m u k : ℕ) → IsWellFormed g → Joins g (port_of v m) (port_of u k)
    → (p : ℕ) × (q : ℕ) × (m ≡ suc p) × (k ≡ suc q)
places_of g v m u k wf joins =
    let (x, in_x, first) = wf.ends (port_of v m) (port_of u k) joins in
    let (y, in_y, second) = wf.ends (port_of u k) (port_of v m) (Joins-sym g (port_of v m) (port_of u k) joins) in
    let (p, is_p) = place_of m first.first in
    let (q, is_q) = place_of k second.first in
    (p, q, is_p, is_q)

module _ (says : Spelling) (n : Network) (net : IsSettlingNetwork n) (w : MachineState) (calm : Calm n w)
    (sound : RunIsSound n w) where
  -- a linked port of a live system stands at its place
  pub port_there : (v p : ℕ) (to : PortIdentity) (s : Station) → slice_get w.stations (n.place v) ≡ Some s
      → Joins n.graph (port_of v (suc p)) to → (q : Port) × (slice_get s.ports p ≡ Some q)
  port_there v p to s at joins = member_there s.ports p within
    where
      known : In v (clocks n.graph)
      known = Joins-clock n.graph (port_of v (suc p)) to net.graph joins

      within : p < length s.ports
      within =
          let (live, clock) = is_station n net w calm sound v s known at in
          let (x, in_x, is_port) = net.graph.ends (port_of v (suc p)) to joins in
          let same : x ≡ station_system s =
          same_clock n.graph x (station_system s) net.graph in_x (calm.facts.stations (n.place v) s at live).known
          (is_port.clock ∙ sym clock) in
          subst (λ (y : System). suc p ≤ y.ports) same is_port.last

  -- by when those that its links lead to have settled, they hold what a settled system tells
  pub told : (d : ℕ) (best : System) (v p u q : ℕ) → d < 255 → LeadsFarther n.graph d best v p u q
      → (since n d ≤ w.time → AllChoose n w d)
      → LinkSettles says (wiring n d best v p u q) w → since n (suc d) ≤ w.time
      → (s : Station) → slice_get w.stations (n.place u) ≡ Some s
      → (r : Reception) × HoldsAt s q r × IsFinal (wiring n d best v p u q) r.said
  told d best v p u q near leads settled link late s at =
      by_port (station_of n net w calm sound v from_known)
    where
      from_known : In v (clocks n.graph)
      from_known = Joins-clock n.graph (port_of v (suc p)) (port_of u (suc q)) net.graph leads.joins

      ready : n.ready (port_of v (suc p)) ≤ w.time
      ready =
          let by : n.ready (port_of v (suc p)) + n.most ≤ since n (suc d) =
          (net.timed d (port_of v (suc p)) (port_of u (suc q)) leads.joins).ready in
          omega arith

      by_port : ((v' : Station) × (slice_get w.stations (n.place v) ≡ Some v') × (v'.live ≡ true) × (v'.clock ≡ v))
          → (r : Reception) × HoldsAt s q r × IsFinal (wiring n d best v p u q) r.said
      by_port (v', v_at, live, clock) =
          let (pv, pv_at) = port_there v p (port_of u (suc q)) v' v_at leads.joins in
          let (pu, pu_at) = port_there u q (port_of v (suc p)) s at
          (Joins-sym n.graph (port_of v (suc p)) (port_of u (suc q)) leads.joins) in
          let has = calm.lanes (port_of v (suc p)) (port_of u (suc q)) leads.joins in
          let stand : Stand (wiring n d best v p u q) w pv pu has.lane =
          record {
            v = v';
            u = s;
            teller = v_at;
            teller_port = pv_at;
            hearer = at;
            hearer_port = pu_at;
            lane = has.there;
          } in
          let chooses = settled (omega arith) v best v' v_at leads.is_best leads.here in
          let (r, holds, final) = link_settled says (wiring n d best v p u q) w pv pu has.lane
          (ends n net w calm sound d best v p u q near leads settled) link stand (
            (chooses.root, chooses.steps),
            capable_at n net w calm sound d best v p u q near leads settled v p
                (port_of u (suc q)) v' pv from_known leads.joins v_at pv_at ready,
          ) late in
          (r, (pu, pu_at, holds), final)

  -- a system chooses the best by its distance, where the links from all nearer systems are at their stages
  pub chooses : (d : ℕ) → ((e : ℕ) → e < d → LevelSettles says n e w) → d < 255 → since n d ≤ w.time
      → AllChoose n w d
  chooses zero levels near late v best s at is_best here =
      go (is_station n net w calm sound v s (IsDistance-clock n.graph v 0 net.graph here) at)
    where
      go : (s.live ≡ true) × (s.clock ≡ v) → Chooses s best 0
      go (live, clock) =
          zero_settles n.graph net.graph s (clear_at n net w calm sound (n.place v) s at live (omega arith)) best
          (subst (λ c. IsBest n.graph c best) (sym clock) is_best)
          (calm.facts.stations (n.place v) s at live).known (subst (λ c. IsDistance n.graph c 0) (sym clock) here)
  chooses (suc e) levels near late v best s at is_best here =
      by_neighbour (nearer_neighbour n.graph v e net.graph here)
      (chooses e (λ f below. levels f (omega arith)) (omega arith) (omega arith))
    where
      by_neighbour : ((x : ℕ) × Adjacent n.graph v x × IsDistance n.graph x e) → AllChoose n w e
          → Chooses s best (suc e)
      by_neighbour (x, (m, k, joins), there) ih = go (places_of n.graph v m x k net.graph joins)
          (is_station n net w calm sound v s (IsDistance-clock n.graph v (suc e) net.graph here) at)
        where
          best_x : IsBest n.graph x best
          best_x = IsBest-neighbour n.graph v x best net.graph (m, k, joins) is_best

          go : ((p : ℕ) × (q : ℕ) × (m ≡ suc p) × (k ≡ suc q)) → (s.live ≡ true) × (s.clock ≡ v)
              → Chooses s best (suc e)
          go (p, q, is_p, is_q) (live, clock) =
              let over : Joins n.graph (port_of v (suc p)) (port_of x (suc q)) =
              subst (λ j. Joins n.graph (port_of v (suc p)) (port_of x j)) is_q
              (subst (λ j. Joins n.graph (port_of v j) (port_of x k)) is_p joins) in
              let leads : LeadsFarther n.graph e best x q v p =
              record {
                is_best = best_x;
                here = there;
                joins = Joins-sym n.graph (port_of v (suc p)) (port_of x (suc q)) over;
                far = suc e;
                there = here;
                farther = inl (omega arith);
              } in
              let (r, holds, final) =
              told e best x q v p (omega arith) leads (λ before. ih)
              (levels e (omega arith) best x q v p (omega arith) leads) late s at in
              suc_settles n.graph net.graph s (clear_at n net w calm sound (n.place v) s at live (omega arith)) best
              (subst (λ c. IsBest n.graph c best) (sym clock) is_best) e p r
              (subst (λ c. IsDistance n.graph c (suc e)) (sym clock) here) holds final.root final.steps

-- time doesn't go back
pub steps_on : (says : Spelling) (w w' : MachineState) → MachineSteps says w w' → w.time ≤ w'.time
steps_on says w w' (inl wait) = subst (λ (x : MachineState). w.time ≤ x.time) (sym wait.is) wait.later
steps_on says w w' (inr (inl act)) =
    let one = act.call.time in let two = act.pops.time in omega (arith, one, two)
steps_on says w w' (inr (inr (inl act))) = let same = act.pops.time in omega (arith, same)
steps_on says w w' (inr (inr (inr act))) = let same = act.call.time in omega (arith, same)

-- where claims are made only once ports are capable nothing need be known of them
pub no_early_ports : (says : Spelling) (n : Network) (w w' : MachineState) → ClaimsWhenReady n
    → EarlyPortsHear says n w w'
no_early_ports says n w w' ready = record {
  hears = λ d p u i joins late early.
      let by : n.ready (port_of u (suc i)) ≤ n.claimed d p = ready d p (port_of u (suc i)) joins in
      absurd (omega arith);
  stays = λ d p u i joins late early.
      let by : n.ready (port_of u (suc i)) ≤ n.claimed d p = ready d p (port_of u (suc i)) joins in
      absurd (omega arith);
}

module _ (says : Spelling) (n : Network) (net : IsSettlingNetwork n) where
  module _ (w w' : MachineState) (calm : Calm n w) (calm' : Calm n w') (nothing : NothingNearLapses n w)
      (waking : EarlyPortsHear says n w w')
      (step : MachineSteps says w w') (time : w.time ≤ w'.time) (sound' : RunIsSound n w')
      (invariant : Invariant says n w) where
    -- one level is kept, where those below it are
    level_kept : (d : ℕ) → ((e : ℕ) → e < d → LevelSettles says n e w') → LevelSettles says n d w'
    level_kept d below best v p u q near leads =
        link_kept says (wiring n d best v p u q) w w'
        (ends n net w calm invariant.sound d best v p u q near leads
        (λ late. chooses says n net w calm invariant.sound d (λ e less. invariant.levels e) near late))
        (ends n net w' calm' sound' d best v p u q near leads
        (λ late. chooses says n net w' calm' sound' d below near late))
        (lapses_later n net w calm invariant.sound d best v p u q near leads
        (λ late. chooses says n net w calm invariant.sound d (λ e less. invariant.levels e) near late) nothing)
        (hears_on n net w calm invariant.sound d best v p u q near leads
        (λ late. chooses says n net w calm invariant.sound d (λ e less. invariant.levels e) near late) says w' waking)
        (stays_on n net w calm invariant.sound d best v p u q near leads
        (λ late. chooses says n net w calm invariant.sound d (λ e less. invariant.levels e) near late) says w'
        (λ s' pu' at' port' ready. capable_at n net w' calm' sound' d best v p u q near leads
        (λ late. chooses says n net w' calm' sound' d below near late) u q (port_of v (suc p)) s' pu'
        (Joins-clock n.graph (port_of u (suc q)) (port_of v (suc p)) net.graph
        (Joins-sym n.graph (port_of v (suc p)) (port_of u (suc q)) leads.joins))
        (Joins-sym n.graph (port_of v (suc p)) (port_of u (suc q)) leads.joins) at' port' (omega arith)) waking)
        step (invariant.levels d best v p u q near leads)

    -- so all are
    levels_below : (d e : ℕ) → e < d → LevelSettles says n e w'
    levels_below zero e h = absurd (omega arith)
    levels_below (suc d) e h = elim (dec_lt e d) [
      | yes less ↦ levels_below d e less
      | no not_less ↦ level_kept e (λ f below. levels_below d f (omega arith))
    ]

  -- every step from a calm state to a calm state keeps the invariant, where what is held stays sound
  pub invariant_kept : (w w' : MachineState) → Calm n w → Calm n w' → NothingNearLapses n w → EarlyPortsHear says n w w'
      → MachineSteps says w w'
      → RunIsSound n w' → Invariant says n w → Invariant says n w'
  invariant_kept w w' calm calm' nothing waking step sound' invariant = record {
    sound = sound';
    levels = λ d. levels_below w w' calm calm' nothing waking step (steps_on says w w' step) sound' invariant (suc d) d
        (omega arith);
  }

  -- what is held is sound where it has become wholly clean
  pub clean_sound : (w : MachineState) → Calm n w → TracesAreClean says (network_setting n) w
      → machine_clean_from n ≤ n.sound → RunIsSound n w
  clean_sound w calm traces clean late i s place r at live holds =
      let came =
      held_whole says (network_setting n) n.reach w net.paths calm.facts traces
      (omega arith) i s place r at live holds in
      came_fits n.graph s.clock (suc place) r net.graph
      (record { from = came.from; joins = came.joins; source = came.source; sound = inr came.whole })

-- what is clean by more members than a path has systems is wholly so
pub good_whole : (n : Network) → IsSettlingNetwork n → (from : PortIdentity) (a : Announce)
    → Good n.graph (suc n.reach) from a → Whole n.graph from.clock a
good_whole n net from a good = elim good.clean [
  | inl c ↦
      let few : length c.others < n.reach = net.paths from.clock c.end c.others c.way in
      let long : suc n.reach ≤ suc (length c.others) = c.long in
      absurd (omega arith)
  | inr is ↦ is
]

-- a delay after what is held has become wholly clean all is
pub all_whole : (says : Spelling) (n : Network) (w : MachineState) → IsSettlingNetwork n → Calm n w
    → TracesAreClean says (network_setting n) w
    → machine_clean_from n + n.most ≤ w.time → AllIsWhole says n.graph (Joins n.graph) w
all_whole says n w net calm traces late = record {
  lanes = λ j l f a at flies said joins.
      let left : w.time ≤ f.due = calm.left j l f at flies in
      whole l a ((traces.lanes j l at).clean f a n.reach flies said joins (omega arith));
  stations = held_whole says (network_setting n) n.reach w net.paths calm.facts traces (omega arith);
}
  where
    whole : (l : Lane) (a : Announce) → Good n.graph (suc n.reach) l.from a → IsWholeFrom n.graph l.from a
    whole l a good = record { source = good.source; whole = good_whole n net l.from a good }

-- before what is held must be sound the invariant claims nothing
pub invariant_begins : (says : Spelling) (n : Network) → IsSettlingNetwork n → (w : MachineState) → w.time < n.sound
    → Invariant says n w
invariant_begins says n net w early = record {
  sound = λ late. absurd (omega arith);
  levels = λ d best v p u q near leads late.
      let sound : n.sound ≤ n.claimed d (port_of v (suc p)) =
      (net.timed d (port_of v (suc p)) (port_of u (suc q)) leads.joins).sound in
      absurd (omega arith);
}
