-- Syncs come down from the best in time: by when the next Follow_Up comes, every act keeps.
use Rattle.std.proofs.Common.{◌≡◌, ◌⊎◌, ◌<◌, ◌≤◌, ◌+◌, ◌*◌, ℕ, zero, suc, pred, true, Some, None, slice_get, refl, sym, ap, subst, ◌∙◌, inl, inr, arith}
use native.Mathlib.Decide.{dec_le}
use native.Mathlib.Nat.{mul-le-mul_right}
use Rattle.gptp_graph.specs.Snapshot.{PortIdentity, Snapshot, IsWellFormed, port_of, Joins}
use Rattle.gptp_graph.specs.Distance.{IsDistance}
use Rattle.gptp_graph.specs.Parent.{ParentLink, IsParent}
use Rattle.gptp_graph.proofs.LinkLemmas.{Joins-sym, Joins-clock}
use Rattle.gptp_graph.proofs.ExistenceLemmas.{distance_exists}
use Rattle.gptp_graph.proofs.DistanceLemmas.{IsDistance-clock, IsDistance-neighbour}
use Rattle.gptp_graph.proofs.PathBoundLemmas.{IsDistance-within}
use Rattle.gptp_graph.proofs.ParentLemmas.{LeadsNearer-distance, parent_exists}
use Rattle.gptp_bmca_machine.specs.Frame.{SaysSync, AnnounceFrame, Lane}
use Rattle.gptp_bmca_machine.specs.Station.{Station, MachineState}
use Rattle.gptp_bmca_machine.specs.Sound.{RunIsSound}
use Rattle.gptp_bmca_machine.specs.Network.{Network, IsSettlingNetwork, since}
use Rattle.gptp_bmca_machine.specs.Calm.{Calm}
use Rattle.gptp_bmca_machine.specs.Lapsing.{FollowsFarther, NothingNearLapses}
use Rattle.gptp_bmca_machine.specs.Matching.{Matches}
use Rattle.gptp_bmca_machine.specs.Syncs.{HasSyncTimers, HaveSyncTimers, wait, IsPrompt, TellsBy, HearsBy, IsExpected, SyncsAreExpected}
use Rattle.gptp_bmca_machine.proofs.PlaceLemmas.{same_there}
use Rattle.gptp_bmca_machine.proofs.RestLemmas.{slave_nearer}
use Rattle.gptp_bmca_machine.proofs.EndsLemmas.{AllChoose, clear_at, station_of, is_station}
use Rattle.gptp_bmca_machine.proofs.MatchingLemmas.{match_in}

-- a parent is at the distance one less
pub parent_there : (g : Snapshot) (v d : ℕ) (l : ParentLink) → IsWellFormed g → IsDistance g v (suc d) → IsParent g v l
    → IsDistance g l.clock d
parent_there g v d l wf here parent =
    let more : suc d ≡ suc parent.nearer.distance = LeadsNearer-distance g v (suc d) l wf here parent.nearer in
    let same : parent.nearer.distance ≡ d = omega arith in
    subst (IsDistance g l.clock) same parent.nearer.there

-- nothing lapses where no lapse timer runs
pub none_lapses : (n : Network) (w : MachineState)
    → ((i : ℕ) (s : Station) → slice_get w.stations i ≡ Some s → s.live ≡ true → s.lapse ≡ None)
    → NothingNearLapses n w
none_lapses n w none i s d due at live near follows late lapse =
    absurd (let runs : None ≡ Some due = sym (none i s at live) ∙ lapse in cc)

module _ (says_sync : SaysSync) (n : Network) (net : IsSettlingNetwork n) (w : MachineState) (calm : Calm n w)
    (sound : RunIsSound n w) (facts : HaveSyncTimers n w) where
  -- the system at the place of v lives
  pub known_station : (v : ℕ) (s : Station) (d : ℕ) → IsDistance n.graph v d → slice_get w.stations (n.place v) ≡ Some s
      → HasSyncTimers n w.time s
  known_station v s d here at =
      let (live, clock) = is_station n net w calm sound v s (IsDistance-clock n.graph v d net.graph here) at in
      facts (n.place v) s at live

  -- from now on each system of the way tells time in time
  tells_soon : (d v : ℕ) → IsDistance n.graph v d
      → TellsBy says_sync n w.stations w.lanes d v
      (w.time + n.syncs.interval + d * (n.syncs.residence + n.most))
  tells_soon zero v here =
      let (s, at, live, clock) =
      station_of n net w calm sound v (IsDistance-clock n.graph v 0 net.graph here) in
      let soon : s.sync ≤ w.time + n.syncs.interval = (facts (n.place v) s at live).sync.1 in
      (s, at, omega arith)
  tells_soon (suc d) v here =
      let (l, parent) = parent_exists n.graph v d net.graph here in
      let by : ℕ = w.time + n.syncs.interval + d * (n.syncs.residence + n.most) in
      let told = tells_soon d l.clock (parent_there n.graph v d l net.graph here parent) in
      inr (l, parent, (by + n.most, inr (by, told, omega arith), omega arith))

  -- so the next Follow_Up comes within the wait
  hears_soon : (d : ℕ) (from : PortIdentity) → IsDistance n.graph from.clock d
      → HearsBy says_sync n w.stations w.lanes d from (w.time + wait n d)
  hears_soon d from there =
      inr (
        w.time + n.syncs.interval + d * (n.syncs.residence + n.most),
        tells_soon d from.clock there,
        omega arith,
      )

  -- what is in flight isn't overdue
  pub flight_left : (j due : ℕ) → Matches says_sync w.stations w.lanes j due → w.time ≤ due
  flight_left j due at =
      let (f, flies, same) = match_in says_sync at.lane.from at.hearer.kept at.lane.frames due at.matches in
      let left : w.time ≤ f.due = calm.left j at.lane f at.there flies in
      omega arith

  -- and comes within the delay
  pub flight_soon : (from to : PortIdentity) (due : ℕ) → Joins n.graph from to → n.start ≤ w.time
      → Matches says_sync w.stations w.lanes (n.lane from) due → due ≤ w.time + n.most
  flight_soon from to due joins started at =
      let (f, flies, same) = match_in says_sync at.lane.from at.hearer.kept at.lane.frames due at.matches in
      let has = calm.lanes from to joins in
      let one : has.lane ≡ at.lane = same_there w.lanes (n.lane from) has.lane at.lane has.there at.there in
      let over : Joins n.graph at.lane.from at.lane.to =
      subst (λ (x : Lane). Joins n.graph x.from x.to) one
      (subst (λ x. Joins n.graph x has.lane.to) (sym has.from)
      (subst (Joins n.graph from) (sym has.to) joins)) in
      within f (calm.facts.fresh (n.lane from) at.lane f at.there flies over) same
    where
      within : (f : AnnounceFrame) → (f.due ≤ w.time + n.most) ⊎ (f.due < n.start) → f.due ≡ due → due ≤ w.time + n.most
      within f (inl soon) same = omega arith
      within f (inr early) same = omega arith

  -- when a system tells time by some time, that hasn't passed
  tells_later : (d v by : ℕ) → IsDistance n.graph v d → TellsBy says_sync n w.stations w.lanes d v by → w.time ≤ by
  tells_later zero v by here (s, at, h) =
      let left : w.time ≤ s.sync = (known_station v s 0 here at).sync.0 in
      omega arith
  tells_later (suc d) v by here (inl (s, at, (due, runs, h))) =
      let left : w.time ≤ due = ((known_station v s (suc d) here at).relay due runs).0 in
      omega arith
  tells_later (suc d) v by here (inr (l, parent, (come, inl (due, at, h), relayed))) =
      let left : w.time ≤ due = flight_left (n.lane (port_of l.clock l.port)) due at in
      omega arith
  tells_later (suc d) v by here (inr (l, parent, (come, inr (sent, tells, h), relayed))) =
      let left : w.time ≤ sent = tells_later d l.clock sent (parent_there n.graph v d l net.graph here parent) tells in
      omega arith

  -- nor when one comes
  hears_later : (d : ℕ) (from : PortIdentity) (by : ℕ) → IsDistance n.graph from.clock d
      → HearsBy says_sync n w.stations w.lanes d from by → w.time ≤ by
  hears_later d from by there (inl (due, at, h)) =
      let left : w.time ≤ due = flight_left (n.lane from) due at in
      omega arith
  hears_later d from by there (inr (sent, tells, h)) =
      let left : w.time ≤ sent = tells_later d from.clock sent there tells in
      omega arith

  -- so nothing lapses, where the wait is short
  pub nothing_lapses : ((e : ℕ) → e < 255 → since n e ≤ w.time → AllChoose n w e) → IsPrompt n
      → SyncsAreExpected says_sync n w → NothingNearLapses n w
  nothing_lapses settled prompt expected i s d due at live near follows late lapse =
      by_distance (distance_exists n.graph s.clock net.graph
      (Joins-clock n.graph (port_of s.clock follows.port) follows.from net.graph back))
    where
      back : Joins n.graph (port_of s.clock follows.port) follows.from
      back = Joins-sym n.graph follows.from (port_of s.clock follows.port) follows.joins

      begun : since n d ≤ w.time
      begun = let waits : since n d + n.sync_wait ≤ n.claimed d follows.from =
          prompt.waits d follows.from in omega arith

      lasts : FollowsFarther n.graph s d → w.time < due
      lasts nearer =
          let e = expected i s d due at live near nearer begun lapse in
          let left : w.time ≤ e.by =
          hears_later d nearer.follows.from e.by nearer.follows.there e.hears in
          let short : wait n d ≤ n.sync_wait =
          prompt.covers d (IsDistance-within n.graph n.reach s.clock (suc d) net.paths nearer.here) in
          let span : n.sync_wait < n.syncs.span = prompt.short in
          let waits : since n d + n.sync_wait ≤ n.claimed d follows.from = prompt.waits d follows.from in
          elim e.soon [ inl soon ↦ omega arith | inr early ↦ absurd (omega arith) ]

      -- it is a step farther: once it has settled, its slave port doesn't lead to a system that is as far
      by_distance : ((far : ℕ) × IsDistance n.graph s.clock far) → w.time < due
      by_distance (far, here) = elim (dec_le far d) [
        | yes within ↦
            let grows : far * n.step ≤ d * n.step = mul-le-mul_right n.step within in
            let chosen = settled far (omega arith) (omega arith) s.clock here.best s
            (subst (λ j. slice_get w.stations j ≡ Some s) (calm.placed i s at) at) here.is_best here in
            let less : d < far =
            slave_nearer n.graph net.graph s (clear_at n net w calm sound i s at live (omega arith)) here.best
            here.is_best far d (place follows.port) follows.from chosen
            (subst (λ m. Joins n.graph (port_of s.clock m) follows.from) (is_place back) back) follows.there
            (follows.slave ∙ ap (λ (m : ℕ). Some m) (is_place back)) in
            absurd (omega arith)
        | no farther ↦
            let most : far ≤ suc d =
            IsDistance-neighbour n.graph follows.from.clock s.clock d far net.graph
            (follows.from.port, follows.port, follows.joins) follows.there here in
            let same : far ≡ suc d = omega arith in
            lasts (record { here = subst (IsDistance n.graph s.clock) same here; follows = follows })
      ]
        where
          place : ℕ → ℕ
          place m = pred m

          is_place : Joins n.graph (port_of s.clock follows.port) follows.from → follows.port ≡ suc (place follows.port)
          is_place joins =
              let (x, in_x, first) = net.graph.ends (port_of s.clock follows.port) follows.from joins in
              go follows.port first.first
            where
              go : (m : ℕ) → 1 ≤ m → m ≡ suc (pred m)
              go zero h = absurd (omega arith)
              go (suc m) h = refl

  -- one is expected within the wait from now
  pub expected_now : (d due : ℕ) (from : PortIdentity) → IsDistance n.graph from.clock d → w.time + n.syncs.span ≤ due
      → IsExpected says_sync n w.stations w.lanes d from due
  expected_now d due from there h = record {
    by = w.time + wait n d;
    hears = hears_soon d from there;
    soon = inl (omega arith);
  }

  -- as time passes it stays expected, and once a system settles, within the wait from before
  pub expected_later : (t : ℕ) → SyncsAreExpected says_sync n w → SyncsAreExpected says_sync n (record w { time = t })
  expected_later t expected i s d due at live near follows late lapse = elim (dec_le (since n d) w.time) [
    | yes settled ↦ expected i s d due at live near follows settled lapse
    | no before ↦ record {
      by = w.time + wait n d;
      hears = hears_soon d follows.follows.from follows.follows.there;
      soon = inr (omega arith);
    }
  ]

-- before what is held must be sound nothing is claimed
pub expected_begins : (says_sync : SaysSync) (n : Network) (w : MachineState) → w.time < n.sound
    → SyncsAreExpected says_sync n w
expected_begins says_sync n w early i s d due at live near follows late lapse = absurd (omega arith)
