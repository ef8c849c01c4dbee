-- What an act does to Syncs on their way: by when the next Follow_Up comes is kept.
use Rattle.std.proofs.Common.{◌≡◌, ◌⊎◌, ◌<◌, ◌≤◌, ◌+◌, ℕ, zero, suc, true, Option, Some, None, slice_get, refl, sym, ap, subst, ◌∙◌, inl, inr, arith}
use Rattle.gptp_lists.specs.Members.{In}
use Rattle.gptp_graph.specs.Snapshot.{System, PortIdentity, Snapshot, IsWellFormed, port_of, Joins, clocks}
use Rattle.gptp_graph.specs.Best.{IsBest}
use Rattle.gptp_graph.specs.Distance.{IsDistance}
use Rattle.gptp_graph.specs.Parent.{ParentLink, IsParent}
use Rattle.gptp_graph.specs.SettledChoice.{IsBestIdentity}
use Rattle.gptp_graph.proofs.LinkLemmas.{Joins-sym}
use Rattle.gptp_graph.proofs.BestLemmas.{IsBest-unique, IsBest-neighbour}
use Rattle.gptp_graph.proofs.DistanceLemmas.{IsDistance-clock}
use Rattle.gptp_graph.proofs.ParentLemmas.{IsParent-unique, no_parent_at_zero}
use Rattle.gptp_bmca_machine.specs.Frame.{Spelling, SaysSync}
use Rattle.gptp_bmca_machine.specs.Station.{Reception, Mine, Station, MachineState, HoldsAt}
use Rattle.gptp_bmca_machine.specs.Acts.{StationActs, MachineSteps}
use Rattle.gptp_bmca_machine.specs.Sound.{RunIsSound}
use Rattle.gptp_bmca_machine.specs.Network.{Network, IsSettlingNetwork, since}
use Rattle.gptp_bmca_machine.specs.Calm.{Calm}
use Rattle.gptp_bmca_machine.specs.Levels.{LeadsFarther, Invariant}
use Rattle.gptp_bmca_machine.specs.Settled.{IsSlaveOf}
use Rattle.gptp_bmca_machine.specs.Lapsing.{FollowsFarther}
use Rattle.gptp_bmca_machine.specs.Matching.{Matches}
use Rattle.gptp_bmca_machine.specs.SyncActs.{FollowsOn, FollowUpIsHeard, SyncActs, SyncSteps}
use Rattle.gptp_bmca_machine.specs.Syncs.{MayLead, HaveSyncTimers, TellsBy, HearsBy, IsExpected, SyncsAreExpected}
use Rattle.gptp_bmca_machine.proofs.EndsLemmas.{station_of, is_station, capable_at, tells_settled}
use Rattle.gptp_bmca_machine.proofs.LevelLemmas.{places_of, port_there, chooses}
use Rattle.gptp_bmca_machine.proofs.SettledLemmas.{follows_best, systems_bounded}
use Rattle.gptp_bmca_machine.proofs.SyncStepLemmas.{TellsTime, StationsStep, acts_steps}
use Rattle.gptp_bmca_machine.proofs.SyncLemmas.{parent_there, known_station, flight_left, flight_soon, expected_now, expected_later}

-- below is below
le_lt : {a b c : ℕ} → a ≤ b → b < c → a < c
le_lt h k = omega arith

-- the slave port is the own port of the parent
slave_is : (g : Snapshot) (v : ℕ) (slave : Option ℕ) (l : ParentLink) → IsSlaveOf g v slave → IsParent g v l
    → slave ≡ Some l.own_port
slave_is g v None l is parent = absurd (is l parent)
slave_is g v (Some m) l (k, is_parent, own) parent =
    let same : k ≡ l = IsParent-unique g v k l is_parent parent in
    ap (λ (x : ℕ). Some x) (sym own ∙ ap (λ (x : ParentLink). x.own_port) same)

-- the best has none
no_slave : (g : Snapshot) (v : ℕ) (slave : Option ℕ) → IsWellFormed g → IsDistance g v 0 → IsSlaveOf g v slave
    → slave ≡ None
no_slave g v None wf here is = refl
no_slave g v (Some m) wf here (l, parent, own) = absurd (no_parent_at_zero g v l wf here parent)

-- a system has one slave port or none, once it has settled
same_slave : (g : Snapshot) (v : ℕ) (a b : Option ℕ) → IsSlaveOf g v a → IsSlaveOf g v b → a ≡ b
same_slave g v a None is none = by a is
  where
    by : (a : Option ℕ) → IsSlaveOf g v a → a ≡ None
    by None is = refl
    by (Some m) (l, parent, own) = absurd (none l parent)
same_slave g v a (Some m) is (l, parent, own) =
    slave_is g v a l is parent ∙ ap (λ (x : ℕ). Some x) own

-- and one root
same_root : (g : Snapshot) (v a b : ℕ) → IsWellFormed g → IsBestIdentity g v a → IsBestIdentity g v b → a ≡ b
same_root g v a b wf (best, is_best, root) (other, is_other, other_root) =
    root ∙ ap (λ (x : System). x.identity) (IsBest-unique g v best other wf is_best is_other) ∙ sym other_root

module _ (says : Spelling) (says_sync : SaysSync) (n : Network) (net : IsSettlingNetwork n) (w w' : MachineState)
    (calm : Calm n w)
    (calm' : Calm n w') (facts : HaveSyncTimers n w) (facts' : HaveSyncTimers n w') (time : w'.time ≡ w.time)
    (steps : StationsStep says_sync n w w') (invariant : Invariant says n w) (invariant' : Invariant says n w')
    (bare : n.bare ≤ since n 0) where
  sound : RunIsSound n w
  sound = invariant.sound

  sound' : RunIsSound n w'
  sound' = invariant'.sound

  -- what a port received came from the other end of its link
  held_source : (i : ℕ) (s : Station) (place : ℕ) (from : PortIdentity) (r : Reception)
      → slice_get w.stations i ≡ Some s → s.live ≡ true → n.sound ≤ w.time
      → Joins n.graph from (port_of s.clock (suc place)) → HoldsAt s place r → r.said.source ≡ from
  held_source i s place from r at live late joins holds =
      let came =
      (sound late i s place r at live holds).over
      (from, Joins-sym n.graph from (port_of s.clock (suc place)) joins) in
      came.source
      ∙ net.graph.one_link (port_of s.clock (suc place)) came.from from
      (Joins-sym n.graph came.from (port_of s.clock (suc place)) came.joins)
      (Joins-sym n.graph from (port_of s.clock (suc place)) joins)

  -- a settled system that tells time sends on each link to one a step farther
  on_lane : (d v : ℕ) (out to : ℕ) (s' : Station) → d < 255 → since n d ≤ w'.time → IsDistance n.graph v d
      → (u : ℕ) → Joins n.graph (port_of v out) (port_of u to) → IsDistance n.graph u (suc d)
      → slice_get w'.stations (n.place v) ≡ Some s' → TellsTime says_sync n.graph w' s'
      → (due : ℕ) × Matches says_sync w'.stations w'.lanes (n.lane (port_of v out)) due × (due ≤ w.time + n.most)
  on_lane d v out to s' near late here u joins there at tells =
      by_places (places_of n.graph v out u to net.graph joins)
      (is_station n net w' calm' sound' v s' (IsDistance-clock n.graph v d net.graph here) at)
    where
      by_places : ((p : ℕ) × (q : ℕ) × (out ≡ suc p) × (to ≡ suc q)) → (s'.live ≡ true) × (s'.clock ≡ v)
          → (due : ℕ) × Matches says_sync w'.stations w'.lanes (n.lane (port_of v out)) due × (due ≤ w.time + n.most)
      by_places (p, q, is_p, is_q) (live, clock) =
          let over : Joins n.graph (port_of v (suc p)) (port_of u (suc q)) =
          subst (λ m. Joins n.graph (port_of v (suc p)) (port_of u m)) is_q
          (subst (λ m. Joins n.graph (port_of v m) (port_of u to)) is_p joins) in
          let leads : LeadsFarther n.graph d here.best v p u q =
          record {
            is_best = here.is_best;
            here = here;
            joins = over;
            far = suc d;
            there = there;
            farther = inl (omega arith);
          } in
          let chosen =
          chooses says n net w' calm' sound' d (λ e less. invariant'.levels e) near late v here.best s' at here.is_best
          here in
          let (pv, pv_at) = port_there says n net w' calm' sound' v p (port_of u (suc q)) s' at over in
          let ready : n.ready (port_of v (suc p)) ≤ since n 0 =
          net.ready (port_of v (suc p)) (port_of u (suc q), over) in
          let on =
          capable_at n net w' calm' sound' d here.best v p u q near leads
          (λ by. chooses says n net w' calm' sound' d (λ e less. invariant'.levels e) near by) v p (port_of u (suc q))
          s'
          pv (IsDistance-clock n.graph v d net.graph here) over at pv_at (omega arith) in
          let mine : pv.held ≡ Mine here.best.identity d =
          (tells_settled n net w' calm' sound' d here.best v p u q near leads
          (λ by. chooses says n net w' calm' sound' d (λ e less. invariant'.levels e) near by) (omega arith) s' pv at
          pv_at ((chosen.root, chosen.steps), on)).mine in
          let has = calm'.lanes (port_of v (suc p)) (port_of u (suc q)) over in
          let (due, on) = tells p (n.lane (port_of v (suc p))) pv has.lane here.best.identity d pv_at mine has.there
          (has.from ∙ (λ i. port_of (sym clock i) (suc p)))
          (subst (λ x. Joins n.graph x has.lane.to) (sym has.from)
          (subst (Joins n.graph (port_of v (suc p))) (sym has.to) over)) has.loss has.is_up in
          let soon : due ≤ w'.time + n.most =
          flight_soon says_sync n net w' calm' sound' facts' (port_of v (suc p)) (port_of u (suc q)) due over
          (omega arith) on in (
            due,
            subst (λ m. Matches says_sync w'.stations w'.lanes (n.lane (port_of v m)) due) (sym is_p) on,
            subst (λ t. due ≤ t + n.most) time soon,
          )

  -- a settled system follows the best over its parent, before the act and after it
  module _ (d v : ℕ) (near : d < 255) (late : since n d ≤ w.time) (here : IsDistance n.graph v d) (s s' : Station)
      (at : slice_get w.stations (n.place v) ≡ Some s) (at' : slice_get w'.stations (n.place v) ≡ Some s') where
    known : In v (clocks n.graph)
    known = IsDistance-clock n.graph v d net.graph here

    lives : s.live ≡ true
    lives = (is_station n net w calm sound v s known at).0

    best_before : IsBestIdentity n.graph v s.root × IsSlaveOf n.graph v s.slave
    best_before =
        let (live, clock) = is_station n net w calm sound v s known at in
        let follows = follows_best says n net w calm invariant (n.place v) s at live d
        (subst (λ c. IsDistance n.graph c d) (sym clock) here) near late
        (omega (arith, bare)) in (
          subst (λ c. IsBestIdentity n.graph c s.root) clock follows.root,
          subst (λ c. IsSlaveOf n.graph c s.slave) clock follows.slave,
        )

    best_after : IsBestIdentity n.graph v s'.root × IsSlaveOf n.graph v s'.slave
    best_after =
        let (live, clock) = is_station n net w' calm' sound' v s' known at' in
        let follows = follows_best says n net w' calm' invariant' (n.place v) s' at' live d
        (subst (λ c. IsDistance n.graph c d) (sym clock) here) near (subst (λ t. since n d ≤ t) (sym time) late)
        (let same : w'.time ≡ w.time = time in omega (arith, bare)) in (
          subst (λ c. IsBestIdentity n.graph c s'.root) clock follows.root,
          subst (λ c. IsSlaveOf n.graph c s'.slave) clock follows.slave,
        )

    follows_on : FollowsOn s s'
    follows_on = record {
      root = same_root n.graph v s'.root s.root net.graph best_after.0 best_before.0;
      slave = same_slave n.graph v s'.slave s.slave best_after.1 best_before.1;
    }

    -- its root may be grandmaster where the best may
    leads_on : (best : System) → IsBest n.graph v best → MayLead best.identity → MayLead s.root
    leads_on best is_best leads =
        let (other, is_other, root) = best_before.0 in
        subst MayLead (ap (λ (x : System). x.identity) (IsBest-unique n.graph v best other net.graph is_best is_other)
        ∙ sym root) leads

  -- what is in flight to the slave port of a system stays there or is heard
  heard_on : (v : ℕ) (s s' : Station) (from : PortIdentity) (port due : ℕ) → In v (clocks n.graph)
      → n.sound ≤ w.time → slice_get w.stations (n.place v) ≡ Some s
      → slice_get w'.stations (n.place v) ≡ Some s' → Joins n.graph from (port_of v port) → s.slave ≡ Some port
      → FollowsOn s s' → Matches says_sync w.stations w.lanes (n.lane from) due
      → Matches says_sync w'.stations w'.lanes (n.lane from) due ⊎ FollowUpIsHeard n w.time s'
  heard_on v s s' from port due known late at at' joins slave on flies =
      by_places (places_of n.graph from.clock from.port v port net.graph joins)
      (is_station n net w calm sound v s known at)
    where
      by_places : ((p : ℕ) × (q : ℕ) × (from.port ≡ suc p) × (port ≡ suc q)) → (s.live ≡ true) × (s.clock ≡ v)
          → Matches says_sync w'.stations w'.lanes (n.lane from) due ⊎ FollowUpIsHeard n w.time s'
      by_places (p, q, is_p, is_q) (live, clock) =
          let has = calm.lanes from (port_of v port) joins in
          let to : has.lane.to ≡ port_of s.clock (suc q) = has.to ∙ (λ i. port_of (sym clock i) (is_q i)) in
          let over : Joins n.graph from (port_of s.clock (suc q)) =
          subst (λ (x : PortIdentity). Joins n.graph from x) (λ i. port_of (sym clock i) (is_q i)) joins in
          (steps (n.place v) s s' at at' live).flight q (n.lane from) due has.lane has.there to
          (subst (λ x. Joins n.graph x has.lane.to) (sym has.from) (subst (Joins n.graph from) (sym has.to) joins))
          (λ r holds. held_source (n.place v) s q from r at live late over holds ∙ sym has.from)
          (slave ∙ (λ i. Some (is_q i))) on flies

  -- by when a settled system tells time stays, or it has told it: to one a step farther it is on its way
  tells_on : (d v by out u to : ℕ) (best : System) → d < 255 → since n d ≤ w.time → IsDistance n.graph v d
      → Joins n.graph (port_of v out) (port_of u to) → IsDistance n.graph u (suc d) → IsBest n.graph v best
      → MayLead best.identity → TellsBy says_sync n w.stations w.lanes d v by
      → TellsBy says_sync n w'.stations w'.lanes d v by
      ⊎ ((due : ℕ) × Matches says_sync w'.stations w'.lanes (n.lane (port_of v out)) due × (due ≤ by + n.most))
  tells_on zero v by out u to best near late here joins there is_best leads (s, at, h) =
      by_station (station_of n net w' calm' sound' v (IsDistance-clock n.graph v 0 net.graph here))
    where
      by_station : ((s' : Station) × (slice_get w'.stations (n.place v) ≡ Some s') × (s'.live ≡ true) × (s'.clock ≡ v))
          → TellsBy says_sync n w'.stations w'.lanes 0 v by
          ⊎ ((due : ℕ) × Matches says_sync w'.stations w'.lanes (n.lane (port_of v out)) due × (due ≤ by + n.most))
      by_station (s', at', live', clock') =
          let on = follows_on 0 v near late here s s' at at' in
          let none : s.slave ≡ None =
          no_slave n.graph v s.slave net.graph here (best_before 0 v near late here s s' at at').1 in
          let first = leads_on 0 v near late here s s' at at' best is_best leads in
          elim ((steps (n.place v) s s' at at' (lives 0 v near late here s s' at at')).sync none first on) [
            | inl stays ↦ inl (s', at', subst (λ t. t ≤ by) (sym stays) h)
            | inr told ↦
                let (due, flies, soon) =
                on_lane 0 v out to s' near (subst (λ t. since n 0 ≤ t) (sym time) late) here u joins there at' told in
                let left : w.time ≤ s.sync = (known_station says_sync n net w calm sound facts v s 0 here at).sync.0 in
                inr (due, flies, omega arith)
          ]
  tells_on (suc d) v by out u to best near late here joins there is_best leads (inl (s, at, (due, runs, h))) =
      by_station (station_of n net w' calm' sound' v (IsDistance-clock n.graph v (suc d) net.graph here))
    where
      by_station : ((s' : Station) × (slice_get w'.stations (n.place v) ≡ Some s') × (s'.live ≡ true) × (s'.clock ≡ v))
          → TellsBy says_sync n w'.stations w'.lanes (suc d) v by
          ⊎ ((next : ℕ) × Matches says_sync w'.stations w'.lanes (n.lane (port_of v out)) next × (next ≤ by + n.most))
      by_station (s', at', live', clock') =
          let on = follows_on (suc d) v near late here s s' at at' in
          elim ((steps (n.place v) s s' at at' (lives (suc d) v near late here s s' at at')).relay due runs on) [
            | inl stays ↦ inl (inl (s', at', (due, stays, h)))
            | inr told ↦
                let (next, flies, soon) =
                on_lane (suc d) v out to s' near (subst (λ t. since n (suc d) ≤ t) (sym time) late) here u joins there
                at' told in
                let left : w.time ≤ due =
                ((known_station says_sync n net w calm sound facts v s (suc d) here at).relay due runs).0 in
                inr (next, flies, omega arith)
          ]
  tells_on (suc d) v by out u to best near late here joins there is_best leads
      (inr (l, parent, (come, inl (due, flies, h), relayed))) =
      by_station (station_of n net w calm sound v known_v) (station_of n net w' calm' sound' v known_v)
    where
      known_v : In v (clocks n.graph)
      known_v = IsDistance-clock n.graph v (suc d) net.graph here

      by_station : ((s : Station) × (slice_get w.stations (n.place v) ≡ Some s) × (s.live ≡ true) × (s.clock ≡ v))
          → ((s' : Station) × (slice_get w'.stations (n.place v) ≡ Some s') × (s'.live ≡ true) × (s'.clock ≡ v))
          → TellsBy says_sync n w'.stations w'.lanes (suc d) v by
          ⊎ ((next : ℕ) × Matches says_sync w'.stations w'.lanes (n.lane (port_of v out)) next × (next ≤ by + n.most))
      by_station (s, at, live, clock) (s', at', live', clock') =
          let on = follows_on (suc d) v near late here s s' at at' in
          let slave : s.slave ≡ Some l.own_port =
          slave_is n.graph v s.slave l (best_before (suc d) v near late here s s' at at').1 parent in
          let back = Joins-sym n.graph (port_of v l.own_port) (port_of l.clock l.port) parent.nearer.joins in
          elim (heard_on v s s' (port_of l.clock l.port) l.own_port due known_v (omega arith) at at' back slave on
          flies) [
            | inl stays ↦ inl (inr (l, parent, (come, inl (due, stays, h), relayed)))
            | inr heard ↦
                let (next, runs) = heard.relay in
                let soon : next ≤ w'.time + n.syncs.residence =
                ((known_station says_sync n net w' calm' sound' facts' v s' (suc d) here at').relay next runs).1 in
                let left : w.time ≤ due =
                flight_left says_sync n net w calm sound facts (n.lane (port_of l.clock l.port)) due flies in
                inl (inl (s', at', (next, runs, omega arith)))
          ]
  tells_on (suc d) v by out u to best near late here joins there is_best leads
      (inr (l, parent, (come, inr (sent, tells, h), relayed))) =
      let back = Joins-sym n.graph (port_of v l.own_port) (port_of l.clock l.port) parent.nearer.joins in
      let best_there =
      IsBest-neighbour n.graph v l.clock best net.graph (l.own_port, l.port, parent.nearer.joins) is_best
      in
      elim (tells_on d l.clock sent l.port v l.own_port best (omega arith) (omega arith)
      (parent_there n.graph v d l net.graph here parent) back here best_there leads tells) [
        | inl still ↦ inl (inr (l, parent, (come, inr (sent, still, h), relayed)))
        | inr (due, flies, soon) ↦ inl (inr (l, parent, (come, inl (due, flies, omega arith), relayed)))
      ]

  -- an act keeps by when the next Follow_Up is expected
  pub expected_on : SyncsAreExpected says_sync n w → SyncsAreExpected says_sync n w'
  expected_on expected i s' d due at' live' near follows late lapse =
      by_station (station_of n net w calm sound s'.clock known_u)
    where
      known_u : In s'.clock (clocks n.graph)
      known_u = IsDistance-clock n.graph s'.clock (suc d) net.graph follows.here

      place_is : i ≡ n.place s'.clock
      place_is = calm'.placed i s' at'

      -- its lapse timer has started again
      fresh : due ≡ w.time + n.syncs.span → IsExpected says_sync n w'.stations w'.lanes d follows.follows.from due
      fresh is =
          expected_now says_sync n net w' calm' sound' facts' d due follows.follows.from follows.follows.there
          (omega arith)

      by_station : ((s : Station) × (slice_get w.stations (n.place s'.clock) ≡ Some s) × (s.live ≡ true)
          × (s.clock ≡ s'.clock))
          → IsExpected says_sync n w'.stations w'.lanes d follows.follows.from due
      by_station (s, at, live, clock) =
          elim ((steps (n.place s'.clock) s s' at stands live).lapse due lapse) [
            | inl (was, on) ↦ stays was on
            | inr now ↦ fresh now
          ]
        where
          stands : slice_get w'.stations (n.place s'.clock) ≡ Some s'
          stands = subst (λ j. slice_get w'.stations j ≡ Some s') place_is at'

          stays : s.lapse ≡ Some due → FollowsOn s s'
              → IsExpected says_sync n w'.stations w'.lanes d follows.follows.from due
          stays was on = go old.hears
            where
              slave : s.slave ≡ Some follows.follows.port
              slave = sym on.slave ∙ follows.follows.slave

              before : FollowsFarther n.graph s d
              before = record {
                here = subst (λ c. IsDistance n.graph c (suc d)) (sym clock) follows.here;
                follows = record {
                  port = follows.follows.port;
                  slave = slave;
                  from = follows.follows.from;
                  joins = subst (λ c. Joins n.graph follows.follows.from (port_of c follows.follows.port)) (sym clock)
                      follows.follows.joins;
                  there = follows.follows.there;
                };
              }

              late_before : since n d ≤ w.time
              late_before = subst (λ t. since n d ≤ t) time late

              old : IsExpected says_sync n w.stations w.lanes d follows.follows.from due
              old = expected (n.place s'.clock) s d due at live near before late_before was

              -- where it follows what may be grandmaster, its best may be
              leads : MayLead follows.follows.there.best.identity
              leads =
                  let may : MayLead s'.root = (facts' i s' at' live').lapse due lapse in
                  let back = Joins-sym n.graph follows.follows.from (port_of s'.clock follows.follows.port)
                  follows.follows.joins in
                  let best_here =
                  IsBest-neighbour n.graph follows.follows.from.clock s'.clock follows.follows.there.best net.graph
                  (follows.follows.from.port, follows.follows.port, follows.follows.joins)
                  follows.follows.there.is_best in
                  let least : follows.follows.there.best.identity ≤ s'.root =
                  (systems_bounded says n w' i s' follows.follows.there.best net calm' invariant' at' live' best_here
                  (omega arith)).0 in
                  le_lt least may

              go : HearsBy says_sync n w.stations w.lanes d follows.follows.from old.by
                  → IsExpected says_sync n w'.stations w'.lanes d follows.follows.from due
              go (inl (x, flies, h)) =
                  elim (heard_on s'.clock s s' follows.follows.from follows.follows.port x known_u (omega arith) at
                  stands follows.follows.joins
                  slave on flies) [
                    | inl still ↦ record { by = old.by; hears = inl (x, still, h); soon = old.soon }
                    | inr heard ↦ fresh (heard.lapse due lapse)
                  ]
              go (inr (sent, tells, h)) =
                  elim (tells_on d follows.follows.from.clock sent follows.follows.from.port s'.clock
                  follows.follows.port follows.follows.there.best
                  near late_before follows.follows.there follows.follows.joins follows.here
                  follows.follows.there.is_best leads tells) [
                    | inl still ↦ record { by = old.by; hears = inr (sent, still, h); soon = old.soon }
                    | inr (x, flies, soon) ↦ record {
                      by = old.by;
                      hears = inl (x, flies, omega arith);
                      soon = old.soon;
                    }
                  ]

module _ (says : Spelling) where
  -- an act takes no time
  act_time : (w w' : MachineState) → StationActs says w w' → w'.time ≡ w.time
  act_time w w' (inl act) = act.call.time ∙ act.pops.time
  act_time w w' (inr (inl act)) = act.pops.time
  act_time w w' (inr (inr act)) = act.call.time

  module _ (says_sync : SaysSync) (n : Network) where
    -- an act of which it is known what it does to Syncs is one
    act_of : (w w' : MachineState) → SyncActs says says_sync n w w' → StationActs says w w'
    act_of w w' (inl (act, facts)) = inl act
    act_of w w' (inr (inl (act, facts))) = inr (inl act)
    act_of w w' (inr (inr (act, facts))) = inr (inr act)

    -- so is a step
    pub step_of : (w w' : MachineState) → SyncSteps says says_sync n w w' → MachineSteps says w w'
    step_of w w' (inl wait) = inl wait
    step_of w w' (inr act) = inr (act_of w w' act)

    module _ (net : IsSettlingNetwork n) (bare : n.bare ≤ since n 0) where
      -- every step keeps by when the next Follow_Up is expected
      pub expected_kept : (w w' : MachineState) → Calm n w → Calm n w' → HaveSyncTimers n w → HaveSyncTimers n w'
          → SyncSteps says says_sync n w w' → Invariant says n w → Invariant says n w'
          → SyncsAreExpected says_sync n w → SyncsAreExpected says_sync n w'
      expected_kept w w' calm calm' facts facts' (inl wait) invariant invariant' expected =
          subst (SyncsAreExpected says_sync n) (sym wait.is)
          (expected_later says_sync n net w calm invariant.sound facts wait.time expected)
      expected_kept w w' calm calm' facts facts' (inr act) invariant invariant' expected =
          expected_on says says_sync n net w w' calm calm' facts facts' (act_time w w' (act_of w w' act))
          (acts_steps says says_sync n net w w' calm calm' invariant'.sound act) invariant
          invariant' bare expected
