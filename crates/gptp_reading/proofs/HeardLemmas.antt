-- In a settled world a Lapse timer that was started since was started by a Follow_Up, and so one came lately.
use Rattle.std.proofs.Common.{◌≡◌, ◌⊎◌, ◌<◌, ◌≤◌, ◌+◌, ◌*◌, ℕ, suc, true, List, [], ◌∷◌, ◌++◌, Option, Some, None, slice_get, refl, sym, ap, subst, ◌∙◌, inl, inr, arith}
use Rattle.std.specs.List.{range_with_len}
use Rattle.std.specs.Prelude.{IsSome, length}
use Rattle.std.proofs.Math.Nat.{mul-le-mul_right}
use Rattle.std.proofs.lemmas.Bool.{cases_lt}
use Rattle.std.proofs.lemmas.Option.{none-some}
use Rattle.gptp_graph.specs.Best.{IsBest}
use Rattle.gptp_graph.specs.Distance.{IsDistance, IsNear}
use Rattle.gptp_graph.specs.Parent.{ParentLink}
use Rattle.gptp_graph.specs.PathBound.{BoundsPaths, path_bound}
use Rattle.gptp_graph.specs.Snapshot.{IsWellFormed, Snapshot, System}
use Rattle.gptp_graph.proofs.BestLemmas.{IsBest-unique}
use Rattle.gptp_graph.proofs.ParentLemmas.{IsParent-unique}
use Rattle.gptp_graph.proofs.PathBoundLemmas.{IsDistance-within}
use Rattle.gptp_lists.specs.Members.{In}
use Rattle.gptp_lists.proofs.MappedLemmas.{same_there}
use Rattle.gptp_lists.proofs.SystemSpecLemmas.{In-left, In-right}
use Rattle.gptp_lists.proofs.PlaceLemmas.{get-set_all, get-set_same}
use Rattle.gptp_vector.specs.declared.port.PortId.{PortId}
use Rattle.gptp_messages.specs.declared.follow_up.FollowUp.{FollowUp}
use Rattle.gptp_messages.specs.declared.message.Message.TheVariants as messages
use Rattle.gptp_messages.specs.Grammar.{Reads}
use Rattle.gptp_links.specs.declared.bounds.Bounds.{Bounds}
use Rattle.gptp_links.specs.declared.link.Direction.{Direction}
use Rattle.gptp_links.specs.Fate.{Draw}
use Rattle.gptp_setup.specs.declared.setup.Params.{Params}
use Rattle.gptp_setup.specs.SettlingParams.{SettlingParams, lapse_span, largest_interval}
use Rattle.gptp_setup.proofs.IntervalLemmas.{interval_positive}
use Rattle.gptp_scenario.specs.declared.change.Act.{Act}
use Rattle.gptp_scenario.specs.declared.change.Act.TheVariants.{Deliver, Expire, Change as Changing}
use Rattle.gptp_scenario.specs.declared.change.Timed.{Timed}
use Rattle.gptp_scenario.specs.Network.{IsNetwork, NetworkState, pace_of}
use Rattle.gptp_scenario.specs.Calm.{SyncsComeInTime}
use Rattle.gptp_scenario.specs.SettlingTime.{settling_span_with}
use Rattle.gptp_scenario.specs.SyncWait.{step_more, sync_wait}
use Rattle.gptp_scenario.specs.declared.sync_wait.SyncPaths.{SyncPaths}
use Rattle.gptp_system.specs.declared.answer.Answer.{Answer}
use Rattle.gptp_system.specs.declared.answer.Answer.TheVariants as answers
use Rattle.gptp_system.specs.Input.{Input, Frame as FrameHeard, Expires as TimerExpires}
use Rattle.gptp_system.specs.State.{SystemState, can_lead, clock}
use Rattle.gptp_system.proofs.LapseLemmas.{lapse_begins}
use Rattle.gptp_model.proofs.SteadyLemmas.{same_clock}
use Rattle.gptp_model.specs.Act.{Calls, Hears, in_state}
use Rattle.gptp_model.specs.Acts.{Acts, TellsHearing, at}
use Rattle.gptp_model.specs.Agrees.{stopped}
use Rattle.gptp_model.specs.Course.{Begun}
use Rattle.gptp_model.specs.declared.done.Done.{Done}
use Rattle.gptp_model.specs.declared.done.Done.TheVariants.{Quiet, Heard}
use Rattle.gptp_model.specs.declared.station.Station.{Station}
use Rattle.gptp_model.specs.Initial.{initial}
use Rattle.gptp_model.specs.Pending.{NothingBefore}
use Rattle.gptp_model.specs.Views.{ShowsLive}
use Rattle.gptp_model.specs.World.{WorldState, receiver}
use Rattle.gptp_world.proofs.InitialLemmas.{initial_sound}
use Rattle.gptp_report.specs.Transitions.{ActTrace, transition}
use Rattle.gptp_bmca_machine.specs.Settled.{IsSlaveOf}
use Rattle.gptp_invariants.specs.ChoiceCalm.{IsQuietWorld, step_with, sync_paths_of}
use Rattle.gptp_invariants.specs.WorldCalmFor.{IsCalmFor}
use Rattle.gptp_invariants.specs.WorldSettlingInvariant.{KeepsAll}
use Rattle.gptp_invariants.specs.ChoiceSeenLaws.{IsNoChange}
use Rattle.gptp_invariants.specs.WorldStanding.{snapshot_of}
use Rattle.gptp_invariants.specs.WorldShown.{IsSettledFor, distance_span}
use Rattle.gptp_invariants.proofs.ChoiceCalmKeptLemmas.{KeepsNetwork, acts_keep, earlier_quiet, same_paths, same_snapshot, stays_quiet}
use Rattle.gptp_invariants.proofs.WorldSettlingInvariantLemmas.{distance_follows}
use Rattle.gptp_invariants.proofs.WorldClaimLemmas.{claim_begins, claim_kept, claim_later}
use Rattle.gptp_invariants.proofs.ChoiceSettlesAsMachineLemmas.{paths_bound, kept_back}
use Rattle.gptp_invariants.proofs.SyncWaitLemmas.{step_long, wait_is}
use Rattle.gptp_invariants.proofs.WorldGreatestDelayLemmas.{delay_short}
use Rattle.gptp_invariants.proofs.WorldOutlineLemmas.{acts_time, change_is_last, starts_are_last}
use Rattle.gptp_invariants.proofs.WorldStandsLemmas.{stands_well}
use Rattle.gptp_theorem.specs.Headline.{HasPassed, WorldIsCalm, UsesFollowUp}
use Rattle.gptp_theorem.proofs.HeadlineLemmas.{quiet_as}
use Rattle.gptp_reading.specs.Age.{HeardWithin, RunsHearInTime}
use Rattle.gptp_reading.proofs.AgeLemmas.{lapse_lately}
use Rattle.gptp_reading.proofs.EachLemmas.{EachLapses, acts_lapse, lapses_start, none_lapses}
use Rattle.gptp_reading.proofs.LapseLemmas.{LapseStep, UsesOne, lapse_steps}
use Rattle.gptp_reading.proofs.RunLemmas.{IsKeptAct, runs_keep}

-- ---- two settled states

-- a system follows the best of its component over its parent
abbrev pub Follows : Snapshot → SystemState → Type 0
Follows g s = IsSettledFor g (clock s) s.root s.steps s.slave

-- such a system has one root and one Slave port
same_slaves : (g : Snapshot) (v : ℕ) (a b : Option ℕ) → IsSlaveOf g v a → IsSlaveOf g v b → b ≡ a
same_slaves g v None None is also = refl
same_slaves g v None (Some n) none (l, follows, own) = absurd (none l follows)
same_slaves g v (Some m) None (l, follows, own) none = absurd (none l follows)
same_slaves g v (Some m) (Some n) (l, follows, own) (k, also, other) =
    ap (λ (x : ℕ). Some x)
    (sym other ∙ ap (λ (x : ParentLink). x.own_port) (IsParent-unique g v k l also follows) ∙ own)

same_roots : (g : Snapshot) (s s' : SystemState) → IsWellFormed g → clock s' ≡ clock s → Follows g s → Follows g s'
    → s'.root ≡ s.root
same_roots g s s' wf clocks choice choice' =
    let (a, is_a, is) = choice.best in
    let (b, is_b, is') = choice'.best in
    let same = IsBest-unique g (clock s) b a wf (subst (λ n. IsBest g n b) clocks is_b) is_a in
    is' ∙ ap (λ (x : System). x.identity) same ∙ sym is

-- ---- who was heard

-- by one of these acts a system used a Follow_Up, and its Lapse timer is due a span later
pub record HeardAt (acts : List ActTrace) (number due span : ℕ) : Type 0 where
  pub act : ActTrace
  pub member : In act acts
  pub uses : UsesFollowUp number act.told.done
  pub moment : due ≡ act.told.timed.at + span

-- the world is quiet, no path of it has more than m systems, and by this time those at distance d follow their best
pub record AreSettledBy (p : SettlingParams) (m d settled : ℕ) (w : WorldState) : Type 0 where
  pub near : d < 255
  pub quiet : IsQuietWorld p.params w
  pub bounded : BoundsPaths (snapshot_of w) m
  pub passed : w.last_change + distance_span m d p (sync_paths_of w) 0 ≤ settled

-- A Lapse timer was started by the time from which its system follows its best, or by a Follow_Up.
abbrev pub IsStarted : List ActTrace → ℕ → ℕ → ℕ → ℕ → Type 0
IsStarted acts settled span number due = (due ≤ settled + span) ⊎ HeardAt acts number due span

abbrev pub IsTimedBy : Snapshot → List ActTrace → ℕ → ℕ → ℕ → Station → Type 0
IsTimedBy g acts d settled span station = station.live ≡ true → IsDistance g (clock station.system) d → (due : ℕ)
    → station.system.lapse ≡ Some due → IsStarted acts settled span (clock station.system) due

pub record AreTimed (p : SettlingParams) (acts : List ActTrace) (w : WorldState) : Type 0 where
  pub claimed : KeepsAll p w
  pub each : EachLapses w
  pub timed : (m d settled : ℕ) → AreSettledBy p m d settled w → settled ≤ w.time → (place : ℕ) (station : Station)
      → slice_get w.stations place ≡ Some station
      → IsTimedBy (snapshot_of w) acts d settled (lapse_span p.params) station

-- ---- as time passes

settled_earlier : (p : SettlingParams) (m d settled : ℕ) (w : WorldState) (time : ℕ)
    → AreSettledBy p m d settled (at time w) → AreSettledBy p m d settled w
settled_earlier p m d settled w time calm = record {
  near = calm.near;
  quiet = earlier_quiet p.params (path_bound (snapshot_of w)) w time calm.quiet;
  bounded = calm.bounded;
  passed = calm.passed;
}

pub timed_later : (p : SettlingParams) (acts : List ActTrace) (w : WorldState) (time : ℕ) → w.time ≤ time
    → NothingBefore time w.net.pending → AreTimed p acts w → AreTimed p acts (at time w)
timed_later p acts w time later first are = record {
  claimed = claim_later p w time later first are.claimed;
  each = are.each;
  timed = λ m d settled calm late place station here.
      by m d settled calm place station here (cases_lt w.time settled);
}
  where
    by : (m d settled : ℕ) → AreSettledBy p m d settled (at time w) → (place : ℕ) (station : Station)
        → slice_get w.stations place ≡ Some station → (w.time < settled) ⊎ (settled ≤ w.time)
        → IsTimedBy (snapshot_of w) acts d settled (lapse_span p.params) station
    by m d settled calm place station here (inl early) = λ live far due lapse.
        let soon = (are.claimed.world.known.in_time place station here live).lapse due lapse in
        let within : due ≤ w.time + lapse_span p.params =
        subst (λ (q : Params). due ≤ w.time + lapse_span q) (are.claimed.world.known.set place station here).params
        soon in
        inl (omega (arith, within, early))
    by m d settled calm place station here (inr already) =
        are.timed m d settled (settled_earlier p m d settled w time calm) already place station here

-- ---- one act

-- what a call makes of the timer
module _ (g : Snapshot) (wf : IsWellFormed g) (acts : List ActTrace) (settled span now : ℕ) (input : Input)
    (answer : Answer) (s s' : SystemState) (clocks : clock s' ≡ clock s) (spans : lapse_span s.params ≡ span)
    (choice : Follows g s) (choice' : Follows g s')
    (old : (due : ℕ) → s.lapse ≡ Some due → IsStarted acts settled span (clock s) due)
    (uses : (due : ℕ) → UsesOne input answer now s s' → due ≡ now + span → HeardAt acts (clock s) due span) where
  called : LapseStep input answer now s s' → (due : ℕ) → s'.lapse ≡ Some due
      → IsStarted acts settled span (clock s) due
  called (inl r) due lapse = old due (sym r.lapse ∙ lapse)
  called (inr (inl o)) due lapse =
      absurd (o.other (same_roots g s s' wf clocks choice choice')
      (same_slaves g (clock s) s.slave s'.slave choice.parent
      (subst (λ n. IsSlaveOf g n s'.slave) clocks choice'.parent)))
  called (inr (inr (inl u))) due lapse =
      inr (uses due u
      ((lapse_begins s s'.root s'.slave now due (sym u.begins ∙ lapse)).moment ∙ ap (λ x. now + x) spans))
  called (inr (inr (inr e))) due lapse = absurd (none-some due (sym e.lapse ∙ lapse))

-- it is told of what is used
uses_it : (number : ℕ) (reached : PortId) (answer : Answer) (octets : List ℕ) (m : FollowUp) (done : Done)
    → TellsHearing reached (Some answer) octets done → reached.clock ≡ number → answer ≡ answers.Used
    → Reads octets (messages.FollowUp m) → UsesFollowUp number done
uses_it number reached answer octets m Quiet told named used reads = absurd told
uses_it number reached answer octets m (Heard name port said frame) told named used reads = (
  told.0 ∙ named,
  told.2 ∙ ap (λ (a : Answer). Some a) used,
  (m, subst (λ o. Reads o (messages.FollowUp m)) (sym told.3) reads),
)

-- one frame is another
same_octets : (n p : ℕ) (x y : List ℕ) → FrameHeard n x ≡ FrameHeard p y → x ≡ y
same_octets n p x y e = cc

-- so it is of what the system that a frame reaches uses
pub delivery_uses : (link : ℕ) (direction : Direction) (w : WorldState) (draws : List Draw) (done : Done)
    (w' : WorldState) (d : Acts (Deliver link direction) w draws done w') (answer : Answer)
    → TellsHearing (receiver direction d.channel) (Some answer) d.octets done
    → (c : Calls d.delivers.place (FrameHeard (receiver direction d.delivers.channel).port d.octets)
    (record w { net = d.delivers.net }) draws answer w') → (port : ℕ) (octets : List ℕ) (m : FollowUp)
    → FrameHeard (receiver direction d.delivers.channel).port d.octets ≡ FrameHeard port octets
    → Reads octets (messages.FollowUp m) → answer ≡ answers.Used → UsesFollowUp (clock c.station.system) done
delivery_uses link direction w draws done w' d answer told c port octets m heard reads used =
    uses_it (clock c.station.system) (receiver direction d.channel) answer d.octets m done told named used
    (subst (λ o. Reads o (messages.FollowUp m))
    (sym (same_octets (receiver direction d.delivers.channel).port port d.octets octets heard)) reads)
  where
    named : (receiver direction d.channel).clock ≡ clock c.station.system
    named =
        let channels = same_there w.net.channels link d.channel d.delivers.channel d.here d.delivers.takes.here in
        let stations = same_there w.stations d.delivers.place d.delivers.station c.station d.delivers.there c.here in
        ap (λ x. (receiver direction x).clock) channels ∙ sym d.delivers.is_end
        ∙ ap (λ (x : Station). clock x.system) stations

-- a system follows its best over its parent
follows_there : (p : SettlingParams) (m d settled : ℕ) (w : WorldState) → KeepsAll p w → AreSettledBy p m d settled w
    → settled ≤ w.time → (place : ℕ) (station : Station) → slice_get w.stations place ≡ Some station
    → station.live ≡ true → IsDistance (snapshot_of w) (clock station.system) d
    → Follows (snapshot_of w) station.system
follows_there p m d settled w claimed calm late place station here live far =
    let is : IsCalmFor (distance_span m d) w = record {
      pace = p;
      set = λ i x there. (claimed.world.known.set i x there).starts;
      quiet = calm.quiet;
      late = let passed = calm.passed in omega (arith, passed, late);
    } in
    let follows = distance_follows m d w (record { pace = p; is = claimed }) calm.bounded place station here live far
    calm.near is in
    record { best = follows.root; distance = follows.steps; parent = follows.slave }

-- none has done so at the last change of a world
at_once : (p : SettlingParams) (w : WorldState) → KeepsAll p w → w.last_change ≡ w.time → (m d settled : ℕ)
    → AreSettledBy p m d settled w → settled ≤ w.time → ⊥
at_once p w claimed now m d settled calm late =
    let passed = calm.passed in
    let some = interval_positive p.largest claimed.pace.largest in
    absurd (omega (arith, passed, late, now, some))

settled_before : (p : SettlingParams) (m d settled : ℕ) (w w' : WorldState) → KeepsNetwork w w'
    → AreSettledBy p m d settled w' → AreSettledBy p m d settled w
settled_before p m d settled w w' k calm = record {
  near = calm.near;
  quiet = stays_quiet w' w (kept_back w w' k) p.params calm.quiet;
  bounded = subst (λ g. BoundsPaths g m) (same_snapshot w w' k) calm.bounded;
  passed = let passed = calm.passed in let same = k.change in
      let more : d * step_more p (sync_paths_of w') ≡ d * step_more p (sync_paths_of w) =
      ap (λ paths. d * step_more p paths) (same_paths w w' k) in
      omega (arith, passed, same, more);
}

module _ {F : Type 0} (answers' : Bounds → ℕ → F → Option ℕ → F → Type 0) (p : SettlingParams) (acts : List ActTrace)
    (timed : Timed) (done : Done) (w w' : WorldState) (k : IsKeptAct answers' timed done w w')
    (are : AreTimed p acts w) where
  abbrev then : WorldState
  then = at timed.at w

  abbrev pub one : ActTrace
  one = transition timed done w w'

  abbrev pub more : List ActTrace
  more = acts ++ one ∷ []

  abbrev span : ℕ
  span = lapse_span p.params

  before : AreTimed p acts then
  before = timed_later p acts w timed.at k.was.ready.timely.now k.was.ready.timely.first are

  claimed' : KeepsAll p w'
  claimed' = claim_kept answers' p timed k.fate k.fate_after w w' done k.fit k.prompt k.octet k.was are.claimed

  -- what was so is so with one act more
  grows : (g : Snapshot) (d settled : ℕ) (station : Station) → IsTimedBy g acts d settled span station
      → IsTimedBy g more d settled span station
  grows g d settled station is live far due lapse = by (is live far due lapse)
    where
      by : IsStarted acts settled span (clock station.system) due
          → IsStarted more settled span (clock station.system) due
      by (inl early) = inl early
      by (inr heard) =
          inr (record {
            act = heard.act;
            member = In-left heard.act acts (one ∷ []) heard.member;
            uses = heard.uses;
            moment = heard.moment;
          })

  module _ (m d settled : ℕ) (keeps : KeepsNetwork then w') (calm : AreSettledBy p m d settled w')
      (late : settled ≤ w'.time) (moment : w'.time ≡ timed.at) where
    abbrev g : Snapshot
    g = snapshot_of then

    calm_then : AreSettledBy p m d settled then
    calm_then = settled_before p m d settled then w' keeps calm

    late_then : settled ≤ timed.at
    late_then = omega (arith, late, moment)

    wf : IsWellFormed g
    wf =
        let is = before.claimed.world in
        stands_well then is.sound is.between is.encodable

    same : snapshot_of w' ≡ g
    same = same_snapshot then w' keeps

    old : (place : ℕ) (station : Station) → slice_get then.stations place ≡ Some station
        → IsTimedBy g more d settled span station
    old place station here =
        grows g d settled station (before.timed m d settled calm_then late_then place station here)

    -- the system that is called
    calls_timed : (place : ℕ) (input : Input) (v : WorldState) (answer : Answer)
        → v.stations ≡ then.stations → (c : Calls place input v k.was.draws answer w')
        → ((due : ℕ) → UsesOne input answer v.time c.station.system c.after → due ≡ v.time + span
        → HeardAt more (clock c.station.system) due span)
        → (other : ℕ) (station : Station) → slice_get w'.stations other ≡ Some station
        → IsTimedBy g more d settled span station
    calls_timed place input v answer stations c uses other station there =
        get-set_all (IsTimedBy g more d settled span) v.stations place c.station (in_state c.after c.station) c.here
        after (λ i x here. old i x (subst (λ (ss : List Station). slice_get ss i ≡ Some x) stations here)) other station
        (subst (λ (x : WorldState). slice_get x.stations other ≡ Some station) c.is there)
      where
        here_then : slice_get then.stations place ≡ Some c.station
        here_then = subst (λ (ss : List Station). slice_get ss place ≡ Some c.station) stations c.here

        clocks : clock c.after ≡ clock c.station.system
        clocks = same_clock input v.time c.station.system c.after c.sends answer c.steps

        here_after : slice_get w'.stations place ≡ Some (in_state c.after c.station)
        here_after =
            ap (λ (x : WorldState). slice_get x.stations place) c.is
            ∙ get-set_same v.stations place c.station (in_state c.after c.station) c.here

        after : IsTimedBy g more d settled span (in_state c.after c.station)
        after live far due lapse =
            let far_then : IsDistance g (clock c.station.system) d = subst (λ n. IsDistance g n d) clocks far in
            let follows : Follows g c.station.system =
            follows_there p m d settled then before.claimed calm_then late_then place c.station here_then live
            far_then in
            let follows' : Follows g c.after =
            subst (λ x. Follows x c.after) same
            (follows_there p m d settled w' claimed' calm late place (in_state c.after c.station) here_after live
            (subst (λ x. IsDistance x (clock c.after) d) (sym same) far)) in
            let spans = ap lapse_span (before.claimed.world.known.set place c.station here_then).params in
            subst (λ n. IsStarted more settled span n due) (sym clocks)
            (called g wf more settled span v.time input answer c.station.system c.after clocks spans follows follows'
            (λ before_due runs. old place c.station here_then live far_then before_due runs) uses
            (lapse_steps input v.time c.station.system c.after c.sends answer c.steps) due lapse)

    acts_timed : Acts timed.act then k.was.draws done w' → IsNoChange timed.act → (place : ℕ) (station : Station)
        → slice_get w'.stations place ≡ Some station → IsTimedBy g more d settled span station
    acts_timed = by timed.act
      where
        by : (act : Act) → Acts act then k.was.draws done w' → IsNoChange act → (place : ℕ) (station : Station)
            → slice_get w'.stations place ≡ Some station → IsTimedBy g more d settled span station
        by (Deliver link direction) it none place station there = hears it.answer it.told it.delivers.hears
          where
            hears : (o : Option Answer) → TellsHearing (receiver direction it.channel) o it.octets done
                → Hears it.delivers.place (receiver direction it.delivers.channel).port it.octets
                (record then { net = it.delivers.net }) k.was.draws o w'
                → IsTimedBy g more d settled span station
            hears None told (failed, nothing, is) =
                old place station (subst (λ (x : WorldState). slice_get x.stations place ≡ Some station) is there)
            hears (Some answer) told c =
                calls_timed it.delivers.place (FrameHeard (receiver direction it.delivers.channel).port it.octets)
                (record then { net = it.delivers.net }) answer refl c
                (λ due u moment. record {
                  act = one;
                  member = In-right one acts (one ∷ []) (inl refl);
                  uses = delivery_uses link direction then k.was.draws done w' it answer told c u.port u.octets
                      u.message u.heard u.reads u.used;
                  moment = moment;
                }) place station there
        by (Expire number timer) (told, e) none place station there =
            calls_timed e.place (TimerExpires timer) (stopped e.place timer then) e.so.answer refl e.so.calls
            (λ due u moment. let is = u.heard in absurd cc) place station there
        by (Changing change) it none place station there = absurd none

  timed_after : (m d settled : ℕ) → AreSettledBy p m d settled w' → settled ≤ w'.time → (place : ℕ)
      (station : Station) → slice_get w'.stations place ≡ Some station
      → IsTimedBy (snapshot_of w') more d settled span station
  timed_after m d settled calm late place station there = by timed.act refl
    where
      on : IsNoChange timed.act → IsTimedBy (snapshot_of w') more d settled span station
      on none =
          let keeps = acts_keep timed.act then k.was.draws done w' none k.was.acts in
          let moment = acts_time timed.act then k.was.draws done w' k.was.acts in
          subst (λ x. IsTimedBy x more d settled span station) (sym (same_snapshot then w' keeps))
          (acts_timed m d settled keeps calm late moment k.was.acts none place station there)

      by : (act : Act) → timed.act ≡ act → IsTimedBy (snapshot_of w') more d settled span station
      by (Deliver link direction) is = on (subst IsNoChange (sym is) tt)
      by (Expire number timer) is = on (subst IsNoChange (sym is) tt)
      by (Changing change) is =
          absurd (at_once p w' claimed' (change_is_last change then k.was.draws done w'
          (subst (λ act. Acts act then k.was.draws done w') is k.was.acts)) m d settled calm late)

  pub timed_act : AreTimed p more w'
  timed_act = record {
    claimed = claimed';
    each = acts_lapse timed.act then k.was.draws done w' claimed'.world.sound k.was.acts before.each;
    timed = timed_after;
  }

-- ---- a run

-- a time that is there
due_of : (o : Option ℕ) → IsSome o → (due : ℕ) × (o ≡ Some due)
due_of None some = absurd cc
due_of (Some due) some = (due, refl)

-- as a network begins it is at its last change
pub timed_begins : {F : Type 0} (answers' : Bounds → ℕ → F → Option ℕ → F → Type 0) (n : NetworkState)
    (fate fate_after : F) (w : WorldState) → IsNetwork n → Begun answers' n fate fate_after w
    → AreTimed (pace_of n) [] w
timed_begins answers' n fate fate_after w network k =
    let claimed = claim_begins answers' n fate fate_after w network (initial_sound n network) k in
    record {
      claimed = claimed;
      each = lapses_start (range_with_len 0 (length n.systems)) (initial n) k.draws w k.starts (none_lapses n);
      timed = λ m d settled calm late place station here.
          absurd (at_once (pace_of n) w claimed
          (starts_are_last (range_with_len 0 (length n.systems)) (initial n) k.draws w refl k.starts) m d settled calm
          late);
    }

-- where something can lapse, Syncs come sooner than it does
pub prompt_paths : (p : SettlingParams) (paths : SyncPaths) → 0 < p.params.sync_timeout → SyncsComeInTime p.params paths
    → sync_wait p.params paths < lapse_span p.params
prompt_paths p paths above (inl off) = absurd (omega (arith, off, above))
prompt_paths p paths above (inr short) = short

-- A system at a distance that paths have follows its best, and the wait for a Sync is over too, before all has settled.
pub wait_ends : (p : SettlingParams) (paths : SyncPaths) (m d : ℕ) → 1 ≤ largest_interval p
    → paths.delay ≤ largest_interval p → sync_wait p.params paths < lapse_span p.params → d < m
    → distance_span m d p paths 0 + sync_wait p.params paths < settling_span_with p paths m
wait_ends p paths m d some near short within =
    let waits = wait_is p.params paths short in
    let long = step_long p paths near in
    let steps : suc d * step_with p paths ≤ m * step_with p paths =
    mul-le-mul_right (step_with p paths) (omega (arith, within)) in
    omega (arith, waits, long, some, steps)

module _ (p : SettlingParams) (acts : List ActTrace) (w : WorldState) (are : AreTimed p acts w)
    (calm : WorldIsCalm p w) (number port : ℕ) (s : SystemState) (above : 0 < p.params.sync_timeout)
    (passed : HasPassed p (path_bound (snapshot_of w)) w) (near : IsNear (snapshot_of w) number)
    (shows : ShowsLive number w s) (slave : s.slave ≡ Some port) (can : can_lead s.root ≡ true) where
  abbrev m : ℕ
  m = path_bound (snapshot_of w)

  abbrev paths : SyncPaths
  paths = sync_paths_of w

  abbrev x : SystemState
  x = shows.station.system

  quiet : IsQuietWorld p.params w
  quiet = quiet_as p w calm

  bounded : BoundsPaths (snapshot_of w) m
  bounded = paths_bound p w are.claimed.world

  near_so : IsNear (snapshot_of w) (clock x)
  near_so = subst (IsNear (snapshot_of w)) (sym shows.is.named) near

  abbrev d : ℕ
  d = near_so.0

  -- when the system follows its best
  abbrev settled : ℕ
  settled = w.last_change + distance_span m d p paths 0

  settled_by : AreSettledBy p m d settled w
  settled_by = record {
    near = near_so.2;
    quiet = quiet;
    bounded = bounded;
    passed = let same : settled ≤ settled = omega arith in same;
  }

  -- and the wait for a Sync is over
  waited : settled + sync_wait p.params paths < w.time
  waited =
      let ends = wait_ends p paths m d (interval_positive p.largest are.claimed.pace.largest)
      (delay_short p w are.claimed.world.known) (prompt_paths p paths above quiet.lapses)
      (IsDistance-within (snapshot_of w) m (clock x) d bounded near_so.1) in
      let over = passed in
      omega (arith, ends, over)

  already : settled ≤ w.time
  already = let over = waited in omega (arith, over)

  slave_so : x.slave ≡ Some port
  slave_so = ap (λ (y : SystemState). y.slave) (sym shows.state) ∙ slave

  runs : IsSome x.lapse
  runs =
      are.each shows.place shows.station shows.is.here shows.live port slave_so
      (subst (λ (y : SystemState). can_lead y.root ≡ true) shows.state can)
      (subst (λ (q : Params). 0 < q.sync_timeout)
      (sym (are.claimed.world.known.set shows.place shows.station shows.is.here).params) above)

  pub heard_lately : HeardWithin acts number (sync_wait p.params (sync_paths_of w)) w.time
  heard_lately = from_due (due_of x.lapse runs)
    where
      by : (due : ℕ) → w.time + lapse_span p.params ≤ due + sync_wait p.params paths
          → IsStarted acts settled (lapse_span p.params) (clock x) due
          → HeardWithin acts number (sync_wait p.params paths) w.time
      by due lately (inl early) = let over = waited in absurd (omega (arith, lately, early, over))
      by due lately (inr heard) = record {
        act = heard.act;
        member = heard.member;
        uses = subst (λ n. UsesFollowUp n heard.act.told.done) shows.is.named heard.uses;
        lately = let moment = heard.moment in omega (arith, lately, moment);
      }

      from_due : (due : ℕ) × (x.lapse ≡ Some due) → HeardWithin acts number (sync_wait p.params paths) w.time
      from_due (due, lapse) =
          by due
          (lapse_lately p w are.claimed quiet passed shows.place port due shows.station shows.is.here shows.live
          near_so slave_so lapse)
          (are.timed m d settled settled_by already shows.place shows.station shows.is.here shows.live near_so.1 due
          lapse)

pub runs_hear_in_time : {F : Type 0} (answers' : Bounds → ℕ → F → Option ℕ → F → Type 0) → RunsHearInTime answers'
runs_hear_in_time answers' d until fate start w ts p number port s playable moment k calm above passed near shows slave
    can =
    let n = d.network in
    let (all, are) = runs_keep answers' (AreTimed (pace_of n))
    (λ acts timed done v v' act so. timed_act answers' (pace_of n) acts timed done v v' act so)
    (λ acts v time later first so. timed_later (pace_of n) acts v time later first so) d until fate start w ts playable
    moment k (timed_begins answers' n fate k.started start playable.network k.begun) in
    let known = (are.claimed.world.known.set shows.place shows.station shows.is.here).starts in
    let starts = calm.of shows.place shows.station shows.is.here in
    let params = sym known.params ∙ starts.params in
    let largest = sym known.largest ∙ starts.largest in
    let pace : pace_of n ≡ p = λ i. record { params = params i; largest = largest i } in
    heard_lately p ts w (subst (λ (q : SettlingParams). AreTimed q ts w) pace are) calm number port s above passed near
    shows slave can
