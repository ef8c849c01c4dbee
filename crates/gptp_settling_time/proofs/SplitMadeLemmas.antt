-- A system fails that others hear, in a world of a document whose choice had stood, and so moves trees: they fall back.
-- Behind that links go down of which an end has failed.
use Rattle.std.proofs.Common.{◌≡◌, ◌<◌, ◌≤◌, ◌+◌, ◌∷◌, ◌++◌, ℕ, suc, List, [], sym, ap, subst, inl, inr, arith}
use native.Mathlib.Decide.{dec_le}
use Rattle.gptp_lists.specs.Members.{In}
use Rattle.gptp_graph.specs.PathBound.{path_bound}
use Rattle.gptp_graph.specs.Snapshot.{IsLinked, PortIdentity, Snapshot, System, clocks, port_of}
use Rattle.gptp_links.specs.Fate.{Draw}
use Rattle.gptp_setup.specs.SettlingParams.{SettlingParams}
use Rattle.gptp_scenario.specs.Network.{NetworkState, pace_of}
use Rattle.gptp_scenario.specs.SettlingTime.{silence_span}
use Rattle.gptp_scenario.specs.SyncWait.{sync_paths}
use Rattle.gptp_scenario.specs.declared.change.Act.TheVariants.{Change as Changing}
use Rattle.gptp_scenario.specs.declared.change.Change.TheVariants.{Fail, LinkDown}
use Rattle.gptp_scenario.specs.declared.change.Timed.{Timed}
use Rattle.gptp_scenario.specs.declared.sync_wait.SyncPaths.{SyncPaths}
use Rattle.gptp_vector.specs.declared.port.PortId.{PortId}
use Rattle.gptp_model.specs.Acts.{Acts}
use Rattle.gptp_model.specs.World.{WorldState, port_id}
use Rattle.gptp_model.specs.declared.done.Done.{Done}
use Rattle.gptp_network.specs.Document.{DocumentState}
use Rattle.gptp_network.proofs.ExistenceLemmas.{stands_after}
use Rattle.gptp_bmca_machine.specs.FailureTrees.{Turning}
use Rattle.gptp_invariants.specs.ChoiceCalm.{HaveQuietLinks, delay_in, sync_paths_of}
use Rattle.gptp_invariants.specs.ChoiceSettlesAsMachine.{IsWorld}
use Rattle.gptp_invariants.specs.ChoiceView.{says_announce, view}
use Rattle.gptp_invariants.specs.WorldStanding.{snapshot_of}
use Rattle.gptp_invariants.proofs.WorldStandsLemmas.{stands_well}
use Rattle.gptp_theorem.specs.AlikeLaws.{AreAlike}
use Rattle.gptp_theorem.specs.PlayedLaws.{IsPlayable}
use Rattle.gptp_theorem.proofs.AlikeLemmas.{best as alike_best, clock_among, distance as alike_distance, turned}
use Rattle.gptp_theorem.proofs.CalmLemmas.{quiet_stands}
use Rattle.gptp_theorem.proofs.SyncPathLemmas.{paths_stand}
use Rattle.gptp_settling_time.specs.EventKinds.{LowersUnusedCalm}
use Rattle.gptp_settling_time.specs.Leads.{IsGoneBy, SplitsNow}
use Rattle.gptp_settling_time.specs.Losses.{LowersUnused}
use Rattle.gptp_settling_time.specs.TreeLosses.{FailsTrees, IsTreeTurned, IsUnmovedOrInTree}
use Rattle.gptp_settling_time.proofs.AgesByLemmas.{by_map}
use Rattle.gptp_settling_time.proofs.AgesByWorldLemmas.{WorldAgesBy}
use Rattle.gptp_settling_time.proofs.AgingClaimedLemmas.{stay_of}
use Rattle.gptp_settling_time.proofs.FailedAgesLemmas.{failed_ages_by}
use Rattle.gptp_settling_time.proofs.GainLemmas.{lives_so, unused_so, up_so}
use Rattle.gptp_settling_time.proofs.HoldSpanLemmas.{ages_over}
use Rattle.gptp_settling_time.proofs.KeptToLemmas.{KeepsTo}
use Rattle.gptp_settling_time.proofs.LeftToLemmas.{up_in_use}
use Rattle.gptp_settling_time.proofs.LossMadeLemmas.{HasRestedSo}
use Rattle.gptp_settling_time.proofs.NamedLemmas.{IsNamedFrom}
use Rattle.gptp_settling_time.proofs.SettledSeenLemmas.{IsSettledSeen}
use Rattle.gptp_settling_time.proofs.SilentDownLemmas.{over_down}
use Rattle.gptp_settling_time.proofs.SilentLinksLemmas.{AgesOver, over_linked, over_within}
use Rattle.gptp_settling_time.proofs.SinceSetLemmas.{AreLimitedBy}
use Rattle.gptp_settling_time.proofs.SplitAlwaysLemmas.{IsSplitAlways}
use Rattle.gptp_settling_time.proofs.SplitDownLemmas.{alone_down, down_splits}
use Rattle.gptp_settling_time.proofs.SplitFailLemmas.{anew_begins}
use Rattle.gptp_settling_time.proofs.SplitRestLemmas.{SplitNamesAlone, split_anew_begins}
use Rattle.gptp_settling_time.proofs.ArrivalsLemmas.{SetLimits}
use Rattle.gptp_settling_time.proofs.SplitToLemmas.{GoesOver, IsSplitTo, WereUsed, over_gone, split_by}
use Rattle.gptp_settling_time.proofs.UpPortsLemmas.{IsUpAt, by_up}
use Rattle.gptp_settling_time.proofs.WereSilentLemmas.{WereSilent, were_down, were_failed}
use Rattle.gptp_settling_time.proofs.WorldMovesLemmas.{adjacent_alike, alike_so, cut_off_alike, joins_alike, near_so, unmoved_alike, twice_alike}
use Rattle.gptp_settling_time.proofs.OnwardLemmas.{IsOnwardFrom}
use Rattle.gptp_bmca_machine.proofs.TwoTopsBeginLemmas.{FlightLeads}
use Rattle.gptp_settling_time.proofs.TreeMadeLemmas.{few_then, late_then, names_now}

-- and so is one that turns
turned_alike : (g h g' h' : Snapshot) → AreAlike g h → AreAlike g' h' → (best : System) (t : Turning)
    → IsTreeTurned h h' best t → IsTreeTurned g g' best t
turned_alike g h g' h' before now best t is = record {
  in_top = is.in_top;
  lives = λ v in_v. clock_among h' g' (turned g' h' now) v (is.lives v in_v);
  was_best = λ v in_v. alike_best h g back v best (is.was_best v in_v);
  is_best = λ v in_v. alike_best h' g' then v best (is.is_best v in_v);
  was = λ v in_v. alike_distance h g back v (t.base + t.depth v) (is.was v in_v);
  farther = λ v far in_v there. is.farther v far in_v (alike_distance g' h' now v far there);
  first = is.first;
  lost = λ v u in_v joined. elim (is.lost v u in_v (adjacent_alike g h before v u joined)) [
    | inl left ↦ inl (adjacent_alike h' g' then v u left)
    | inr at_top ↦ inr at_top
  ];
  steps = λ v u in_v in_u joined. is.steps v u in_v in_u (adjacent_alike g' h' now v u joined);
  single = λ v p q a b in_v in_a in_b one two.
      is.single v p q a b in_v in_a in_b (joins_alike g' h' now (port_of v p) a one)
      (joins_alike g' h' now (port_of v q) b two);
  leaves = λ v u in_v joined. is.leaves v u in_v (adjacent_alike g' h' now v u joined);
  in_last = is.in_last;
  outside = is.outside;
  unmoved = unmoved_alike g h g' h' before now t.out is.unmoved;
  joined = adjacent_alike h' g' then t.last t.out is.joined;
  one_way = λ p q k m one two.
      is.one_way p q k m (joins_alike g' h' now (port_of t.last p) (port_of t.out k) one)
      (joins_alike g' h' now (port_of t.last q) (port_of t.out m) two);
}
  where
    back : AreAlike h g
    back = turned g h before

    then : AreAlike h' g'
    then = turned g' h' now

in_tree_alike : (g h g' h' : Snapshot) → AreAlike g h → AreAlike g' h' → (best : System) (v : ℕ)
    → IsUnmovedOrInTree h h' best v → IsUnmovedOrInTree g g' best v
in_tree_alike g h g' h' before now best v (inl unmoved) = inl (unmoved_alike g h g' h' before now v unmoved)
in_tree_alike g h g' h' before now best v (inr (inl (t, cut, in_v))) =
    inr (inl (t, cut_off_alike g h g' h' before now best t cut, alike_best h' g' (turned g' h' now) v t.next in_v))
in_tree_alike g h g' h' before now best v (inr (inr (inl (t, is, in_v)))) =
    inr (inr (inl (t, turned_alike g h g' h' before now best t is, in_v)))
in_tree_alike g h g' h' before now best v (inr (inr (inr (t, cut, in_v)))) =
    inr (inr (inr (
      t,
      twice_alike g h g' h' before now best t cut,
      alike_best h' g' (turned g' h' now) v t.next in_v,
    )))

-- what is gone by then has aged, or ports without a link aren't capable from then on
goes_over : (n : NetworkState) (before : Snapshot) (ago events : List Timed) (failed gone silent : ℕ)
    → IsGoneBy n ago events failed gone → silent ≡ suc (failed + silence_span (pace_of n)) → (port : PortIdentity)
    (until : ℕ) → AgesOver n before ago events failed port until → IsLinked before port
    → GoesOver n before ago events failed gone silent port until
goes_over n before ago events failed gone silent (span, within, is) unanswered port until over linked = (
  over,
  linked,
  (λ heard. elim (dec_le span (silence_span (pace_of n))) [
    | yes short ↦
        let less = over_within n before ago events failed span within port until heard over in
        inl (omega (arith, less, is, short))
    | no long ↦ inr (omega (arith, is, long, unanswered))
  ]),
)

-- by then some time has passed
gone_later : (n : NetworkState) (ago events : List Timed) (failed gone : ℕ) → IsGoneBy n ago events failed gone
    → failed < gone
gone_later n ago events failed gone (span, within, is) = omega (arith, is)

module _ (d : DocumentState) (playable : IsPlayable d) (made : List Timed) (event : Timed) (then : WorldState)
    (draws : List Draw) (done : Done) (w' : WorldState) (acts : Acts event.act then draws done w')
    (at_time : then.time ≡ event.at) (time : w'.time ≡ event.at) (last : w'.last_change ≡ w'.time)
    (keeps : KeepsTo d made then) (after : KeepsTo d (made ++ event ∷ []) w') where
  abbrev p : SettlingParams
  p = pace_of d.network

  abbrev n : NetworkState
  n = d.network

  abbrev more : List Timed
  more = made ++ event ∷ []

  world_then : IsWorld p then
  world_then = keeps.claim.world

  module _ (start : ℕ) (rest : HasRestedSo p start event.at then) (stood gone silent : ℕ)
      (splits : SplitsNow n made event stood gone silent) (named : IsNamedFrom splits.arrived then)
      (onward : IsOnwardFrom splits.arrived then) where
    abbrev x : FailsTrees n made event
    x = splits.fails

    quiet : HaveQuietLinks p.params then
    quiet = (quiet_stands n made then playable.network keeps.stands world_then.sound splits.calm).links

    seen_then : IsSettledSeen p then
    seen_then = rest.settled quiet splits.off

    -- the trees are so in the worlds
    cuts_so : (best : System) × ((v : ℕ) → In v (clocks (snapshot_of w'))
        → IsUnmovedOrInTree (snapshot_of then) (snapshot_of w') best v)
    cuts_so =
        let (g, stands) = stands_after n made playable.network in
        let (g', stands') = stands_after n more playable.network in
        let (best, each) = x.moves g g' stands stands' in
        let before = alike_so d playable made then keeps g stands in
        let now = alike_so d playable more w' after g' stands' in (
          best,
          (λ v known.
              in_tree_alike (snapshot_of then) g (snapshot_of w') g' before now best v
              (each v (clock_among (snapshot_of w') g' now v known))),
        )

    -- ---- times

    paths_then : sync_paths n made ≡ sync_paths_of then
    paths_then = paths_stand n made then playable.network keeps.stands world_then.sound

    paths_after : sync_paths n more ≡ sync_paths_of w'
    paths_after = paths_stand n more w' playable.network after.stands after.claim.world.sound

    few_before : path_bound (snapshot_of then) ≤ 255
    few_before = subst (λ (y : SyncPaths). y.systems ≤ 255) paths_then x.few

    shorter_then : delay_in w' ≤ delay_in then
    shorter_then =
        subst (λ (y : SyncPaths). y.delay ≤ delay_in then) paths_after
        (subst (λ (y : SyncPaths). (sync_paths n more).delay ≤ y.delay) paths_then x.delay)

    -- what is in flight leads onward
    onward_now : FlightLeads says_announce (snapshot_of then) (view then)
    onward_now j l f a d e at among said joins =
        let left = seen_then.calm.left j l f at among in
        let since = splits.quiet in
        onward j l f a at among said joins (omega (arith, left, at_time, since)) d e

    -- ---- the act

    came : Acts (Changing (Fail x.clock)) then draws done w'
    came = subst (λ act. Acts act then draws done w') x.act acts

    pub split_to : IsSplitTo d made more gone silent w'
    split_to =
        let over = rest.over in
        let past : start ≤ then.time = omega (arith, over, at_time) in
        let since = splits.quiet in
        let names = names_now p then seen_then splits.arrived named (omega (arith, since, at_time)) in
        let few = few_then d playable made more w' after x.paths x.few in
        let late = late_then d playable made more w' after stood splits.arrived splits.arrives
        (omega (arith, since, time)) x.delay in
        let lived = lives_so n made then keeps.stands world_then.sound x.clock x.live came.1.place came.1.station
        (record { here = came.1.is.here; named = came.1.is.named }) in
        let by_link = failed_ages_by p x.clock then draws done w' world_then after.claim.world came lived seen_then
        rest.sound start keeps.claim.pace keeps.claim.measured past rest.ready quiet rest.silent keeps.named in
        let before = snapshot_of then in
        let by : WorldAgesBy p (AgesOver n before made more then.time) w' =
        ages_over n made event x.clock x.act then w' playable.network world_then keeps.stands after.stands
        after.claim.world.sound keeps.claim.pace.largest by_link in
        let is_gone = subst (λ t. IsGoneBy n made more t gone) (sym at_time) splits.is_gone in
        let unanswered = splits.unanswered in
        let silent_is : silent ≡ suc (then.time + silence_span p) = omega (arith, unanswered, at_time) in
        let some = gone_later n made more then.time gone is_gone in
        let (best, each) = cuts_so in
        record {
          keeps = after;
          before = before;
          stood = λ g stands. alike_so d playable made then keeps g stands;
          failed = then.time;
          since = anew_begins p x.clock then draws done w' world_then after.claim.world came lived seen_then rest.sound
              start keeps.claim.pace keeps.claim.measured past rest.ready quiet rest.silent
              (near_so d playable made then keeps x.few) (omega (arith, over, at_time)) names onward_now silent best
              each
              few_before few shorter_then (GoesOver n before made more then.time gone silent) (SetLimits n made)
              (WereUsed n made then.time)
              (λ limit (most, within, is). subst (λ t. AreLimitedBy t then) (sym is) (keeps.limited most within))
              (λ old (used, past). (
                up_in_use d made then keeps used,
                let delay = ap (λ (y : SyncPaths). y.delay) paths_then in omega (arith, past, delay),
              )) gone
              after.claim.measured
              (omega (arith, silent_is))
              (λ links. by_map says_announce (snapshot_of w') (stay_of p) (AgesOver n before made more then.time)
              (GoesOver n before made more then.time gone silent) (view w')
              (λ port until unlinked over_it.
              goes_over n before made more then.time gone silent is_gone silent_is port until over_it
              (over_linked n made event x.clock x.act then w' playable.network keeps.stands world_then.sound
              (stands_well then world_then.sound world_then.between world_then.encodable) after.stands
              after.claim.world.sound then.time port until over_it)) (by links)) (λ port until is. is.1)
              (over_gone n before made more then.time gone silent) some late last;
          were = were_failed n made x.clock then draws done w' world_then after.claim.world came lived keeps.stands
              quiet start past rest.silent;
          unanswered = silent_is;
        }

  -- ---- a link goes down of which an end has failed

  module _ (ago : List Timed) (gone silent : ℕ) (falls : LowersUnusedCalm n made event)
      (so : IsSplitTo d ago made gone silent then) where
    abbrev y : LowersUnused n made event
    y = falls.lowers

    abbrev end : PortId
    end = port_id y.clock y.port

    lowered : Acts (Changing (LinkDown y.clock y.port)) then draws done w'
    lowered = subst (λ act. Acts act then draws done w') y.act acts

    quiet_then : HaveQuietLinks p.params then
    quiet_then = (quiet_stands n made then playable.network keeps.stands world_then.sound falls.calm).links

    abbrev Over : List Timed → ℕ → PortIdentity → ℕ → Type 0
    Over events by = GoesOver n so.before ago events so.failed by silent

    down : IsSplitAlways p so.before (Over made gone) (SetLimits n ago)
        (WereUsed n ago so.failed) so.failed gone silent w'
    down =
        down_splits p so.before (Over made gone) (SetLimits n ago) (WereUsed n ago so.failed) so.failed gone silent
        y.clock y.port then
        draws done w' after.claim.world after.claim.measured lowered so.since.split quiet_then
        (up_so n made then keeps.stands end y.up lowered.1.place lowered.1.channel lowered.1.is)
        (unused_so n made then keeps.stands world_then.sound end y.failed) falls.off

    -- what has no steps still names its sender alone
    names_down : SplitNamesAlone p silent w'
    names_down =
        alone_down p so.before (Over made gone) (SetLimits n ago) (WereUsed n ago so.failed)
        so.failed gone silent y.clock y.port then
        draws done w' after.claim.world after.claim.measured lowered so.since.split quiet_then
        (up_so n made then keeps.stands end y.up lowered.1.place lowered.1.channel lowered.1.is)
        (unused_so n made then keeps.stands world_then.sound end y.failed) so.since.alone

    more_were : WereSilent n ago w'
    more_were =
        were_down n ago then draws done w' world_then after.claim.world y.clock y.port lowered
        (up_so n made then keeps.stands end y.up lowered.1.place lowered.1.channel lowered.1.is) so.were

    -- what came over links that are silent still ages
    over_more : WorldAgesBy p (Over more gone) w'
    over_more links =
        by_map says_announce (snapshot_of w') (stay_of p) (λ port until. Over made gone port until × IsUpAt w' port)
        (Over more gone) (view w')
        (λ port until unlinked (is_over, is_up). (
          over_down n ago made event y w' after.stands after.claim.world.sound after.claim.world.encodable so.before
              so.failed port until is_over.0 is_up,
          is_over.1,
          is_over.2,
        ))
        (by_up p w' after.claim.world (Over made gone) down.by links)

    pub split_on : IsSplitTo d ago more gone silent w'
    split_on = record {
      keeps = after;
      before = so.before;
      stood = so.stood;
      failed = so.failed;
      since = split_anew_begins p so.before (Over more gone) (SetLimits n ago)
          (WereUsed n ago so.failed) so.failed gone silent w'
          (split_by p so.before (Over made gone) (SetLimits n ago) (WereUsed n ago so.failed)
          so.failed gone silent w' down
          (Over more gone) gone over_more
          (λ port until is. is.1) (over_gone n so.before ago more so.failed gone silent) (inl (omega arith))) names_down
          last;
      were = more_were;
      unanswered = so.unanswered;
    }

  -- it is gone sooner where faster links alone are silent still
  pub split_sooner : (ago : List Timed) (gone silent : ℕ) → IsSplitTo d ago more gone silent w' → (sooner : ℕ)
      → silent ≡ suc (event.at + silence_span p) → IsGoneBy n ago more event.at sooner
      → IsSplitTo d ago more sooner silent w'
  split_sooner ago gone silent so sooner same is_gone =
      let unanswered = so.unanswered in
      let failed : event.at ≡ so.failed = omega (arith, same, unanswered) in
      let gone_then = subst (λ t. IsGoneBy n ago more t sooner) failed is_gone in
      let some = gone_later n ago more so.failed sooner gone_then in
      record {
        keeps = after;
        before = so.before;
        stood = so.stood;
        failed = so.failed;
        since = split_anew_begins p so.before (GoesOver n so.before ago more so.failed sooner silent) (SetLimits n ago)
            (WereUsed n ago so.failed) so.failed sooner
            silent w'
            (split_by p so.before (GoesOver n so.before ago more so.failed gone silent)
            (SetLimits n ago) (WereUsed n ago so.failed) so.failed gone silent w'
            so.since.split (GoesOver n so.before ago more so.failed sooner silent) sooner
            (λ links. by_map says_announce (snapshot_of w') (stay_of p)
            (GoesOver n so.before ago more so.failed gone silent)
            (GoesOver n so.before ago more so.failed sooner silent) (view w')
            (λ port until unlinked is_over.
            goes_over n so.before ago more so.failed sooner silent gone_then unanswered port until is_over.0 is_over.1)
            (so.since.split.by links)) (λ port until is. is.1)
            (over_gone n so.before ago more so.failed sooner silent) (inr (some, omega (arith, time, failed))))
            so.since.alone last;
        were = so.were;
        unanswered = so.unanswered;
      }
