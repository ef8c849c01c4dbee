-- A loss in a world of a document that has settled: it is left, or a system turns.
use Rattle.std.proofs.Common.{List, Some, [], ap, arith, inl, inr, pred, refl, slice_get, subst, suc, sym, true, ℕ, ◌*◌, ◌++◌, ◌+◌, ◌<◌, ◌∙◌, ◌∷◌, ◌≡◌, ◌≤◌, ◌⊎◌}
use Rattle.gptp_lists.proofs.MappedLemmas.{alike}
use Rattle.gptp_graph.specs.PathBound.{path_bound}
use Rattle.gptp_links.specs.declared.link.Direction.{Direction}
use Rattle.gptp_links.specs.declared.link.Direction.TheVariants.{FromA, FromB}
use Rattle.gptp_links.specs.Fate.{Draw}
use Rattle.gptp_setup.specs.SettlingParams.{SettlingParams}
use Rattle.gptp_scenario.specs.Calm.{IsCalm, NothingLapses, IsUsed}
use Rattle.gptp_scenario.specs.Network.{NetworkState, pace_of, IsEnd}
use Rattle.gptp_scenario.specs.SettlingTime.{aging_span, silence_span}
use Rattle.gptp_scenario.specs.SyncWait.{sync_paths}
use Rattle.gptp_scenario.specs.declared.change.Act.TheVariants.{Change as Changing}
use Rattle.gptp_scenario.specs.declared.change.Change.TheVariants.{LinkDown, Fail}
use Rattle.gptp_scenario.specs.declared.change.Timed.{Timed}
use Rattle.gptp_scenario.specs.declared.sync_wait.SyncPaths.{SyncPaths}
use Rattle.gptp_scenario.specs.Change.{link_after}
use Rattle.gptp_scenario.specs.declared.network.LinkSpec.{LinkSpec}
use Rattle.gptp_system.specs.State.{clock}
use Rattle.gptp_model.specs.Acts.{Acts}
use Rattle.gptp_model.specs.declared.done.Done.{Done}
use Rattle.gptp_model.specs.World.{WorldState, port_id, Channel, sender}
use Rattle.gptp_model.specs.declared.station.Station.{Station}
use Rattle.gptp_network.specs.Document.{DocumentState}
use Rattle.gptp_invariants.specs.ChoiceCalm.{HaveQuietLinks, delay_in, sync_paths_of}
use Rattle.gptp_invariants.specs.ChoiceSettlesAsMachine.{IsWorld}
use Rattle.gptp_invariants.specs.WorldNews.{AreReadyBy, AreSilentBy}
use Rattle.gptp_invariants.specs.WorldSound.{IsSoundWorld}
use Rattle.gptp_invariants.specs.WorldStanding.{snapshot_of}
use Rattle.gptp_invariants.proofs.WorldStandsLemmas.{stands_well}
use Rattle.gptp_theorem.specs.PlayedLaws.{IsPlayable}
use Rattle.gptp_theorem.specs.Reached.{channel_wire}
use Rattle.gptp_theorem.proofs.CalmLemmas.{quiet_stands}
use Rattle.gptp_theorem.proofs.SyncPathLemmas.{paths_stand}
use Rattle.gptp_settling_time.specs.EventKinds.{ClearsBy, ClearsFarEnd, ClearsTraces, CutsCalm, FailsCalm, FailsNow, FlightIsGone, LeavesStanding, LowersCalm, TurnsCalm, nearer_echo_span, FlightIsGoneFrom}
use Rattle.gptp_settling_time.specs.Leads.{TurnsNow}
use Rattle.gptp_settling_time.proofs.GainLemmas.{lives_so, up_so}
use Rattle.gptp_settling_time.proofs.FailedAloneLemmas.{all_but, failed_left, less as failed_reduced, none_joined, ready_on as failed_ready}
use Rattle.gptp_settling_time.proofs.AgedLemmas.{aged_begins}
use Rattle.gptp_settling_time.proofs.AgesByWorldLemmas.{WorldAgesBy, aging_by}
use Rattle.gptp_settling_time.proofs.AgingToLemmas.{IsAgingTo}
use Rattle.gptp_settling_time.proofs.FailedAgesLemmas.{failed_ages_by}
use Rattle.gptp_settling_time.proofs.FailedHeardLemmas.{failed_aging}
use Rattle.gptp_settling_time.proofs.GoesToLemmas.{echo_to, goes_to, due_to}
use Rattle.gptp_settling_time.proofs.HoldSpanLemmas.{ages_over}
use Rattle.gptp_settling_time.proofs.KeptToLemmas.{KeepsTo}
use Rattle.gptp_settling_time.proofs.LeftToLemmas.{IsLeftTo, less_way, up_in_use}
use Rattle.gptp_settling_time.proofs.LostEndLemmas.{sound_reduced}
use Rattle.gptp_settling_time.proofs.LostPowerLemmas.{told_anew}
use Rattle.gptp_settling_time.proofs.LoweredLemmas.{act_left, ends, less as lowered_reduced, ready_on as lowered_ready, stay}
use Rattle.gptp_settling_time.proofs.SettledSeenLemmas.{HasSettledSeen, IsSettledSeen}
use Rattle.gptp_settling_time.proofs.SilentLinksLemmas.{AgesOver, over_within}
use Rattle.gptp_settling_time.proofs.TurnedAlwaysLemmas.{IsTurnedAlways, anew_begins}
use Rattle.gptp_settling_time.proofs.TurnedToLemmas.{IsTurnedTo}
use Rattle.gptp_settling_time.proofs.TurnsBeginLemmas.{act_turned}
use Rattle.gptp_settling_time.proofs.WorldMovesLemmas.{cut_off_so, far_end_so, near_so, stays_joined, turns_so}
use Rattle.gptp_bmca_machine.specs.SoundLaws.{AllAreNear}
use Rattle.gptp_invariants.specs.ChoiceView.{says_announce, view}
use Rattle.gptp_settling_time.specs.Losses.{AgesWithin, FailsFarEnd, IsCutOff, IsFarEnd, LowersLink}
use Rattle.gptp_settling_time.proofs.BecomesSoundLemmas.{goes_due, nearer_echo}
use Rattle.gptp_settling_time.proofs.ClearedLemmas.{IsCleared}
use Rattle.gptp_settling_time.proofs.ClearedToLemmas.{IsClearedTo}
use Rattle.gptp_settling_time.proofs.ClearsLemmas.{all_but_cut, clears, cut_joins_none, ready_asked, rights, was_best}
use Rattle.gptp_settling_time.proofs.DueLemmas.{AreDueBy, due_by_delay, due_by_interval, due_reduced}
use Rattle.gptp_settling_time.proofs.LeftClaimedLemmas.{HaveAskedBy, IsLeftAlways, left_network, left_seen}
use Rattle.gptp_settling_time.proofs.NamesItselfLemmas.{itself_begins}
use Rattle.gptp_settling_time.proofs.ReducedLemmas.{IsReduced}
use Rattle.gptp_settling_time.proofs.WereSilentLemmas.{WereSilent, were_down, were_failed, were_silent}

-- what is known of a world that has settled and whose ports are capable from a time on, as an event comes at this time
pub record HasRestedSo (p : SettlingParams) (start time : ℕ) (w : WorldState) : Type 0 where
  pub sound : IsSoundWorld w
  pub ready : AreReadyBy p start w
  pub silent : AreSilentBy p start w
  pub settled : HasSettledSeen p w
  pub over : start + pred (path_bound (snapshot_of w)) * delay_in w ≤ time

module _ (d : DocumentState) (playable : IsPlayable d) (made : List Timed) (event : Timed) (then : WorldState)
    (draws : List Draw) (done : Done) (w' : WorldState) (acts : Acts event.act then draws done w')
    (at_time : then.time ≡ event.at) (time : w'.time ≡ event.at) (last : w'.last_change ≡ w'.time)
    (keeps : KeepsTo d made then) (after : KeepsTo d (made ++ event ∷ []) w') where
  abbrev p : SettlingParams
  p = pace_of d.network

  abbrev n : NetworkState
  n = d.network

  abbrev more : List Timed
  more = made ++ event ∷ []

  module _ (start : ℕ) (rest : HasRestedSo p start event.at then) where
    world_then : IsWorld p then
    world_then = keeps.claim.world

    seen_then : IsCalm n made → NothingLapses n.params → IsSettledSeen p then
    seen_then calm off =
        rest.settled (quiet_stands n made then playable.network keeps.stands world_then.sound calm).links off

    paths_then : sync_paths n made ≡ sync_paths_of then
    paths_then = paths_stand n made then playable.network keeps.stands world_then.sound

    paths_after : sync_paths n more ≡ sync_paths_of w'
    paths_after = paths_stand n more w' playable.network after.stands after.claim.world.sound

    -- the way that is left is no longer
    way_over : (sync_paths n more).delay ≤ (sync_paths n made).delay
        → (sync_paths n more).systems ≤ (sync_paths n made).systems
        → pred (path_bound (snapshot_of w')) * delay_in w' ≤ w'.time
    way_over least fewer =
        let less : pred (path_bound (snapshot_of w')) * delay_in w'
        ≤ pred (path_bound (snapshot_of then)) * delay_in then =
        subst (λ (x : SyncPaths). pred x.systems * x.delay
        ≤ pred (path_bound (snapshot_of then)) * delay_in then) paths_after
        (subst (λ (x : SyncPaths). pred (sync_paths n more).systems * (sync_paths n more).delay
        ≤ pred x.systems * x.delay) paths_then
        (less_way (sync_paths n made).systems (sync_paths n more).systems (sync_paths n made).delay
        (sync_paths n more).delay fewer least)) in
        let over = rest.over in
        omega (arith, over, less, time)

    -- a link goes down, and no system is moved but such as are cut off
    module _ (lowers : LowersCalm n made event) where
      abbrev x : LowersLink n made event
      x = lowers.lowers

      came : Acts (Changing (LinkDown x.clock x.port)) then draws done w'
      came = subst (λ act. Acts act then draws done w') x.act acts

      was_up : came.1.channel.up ≡ true
      was_up =
          up_so n made then keeps.stands (port_id x.clock x.port)
          (λ place v there end. (x.used place v there end).up) came.1.place came.1.channel came.1.is

      lowered_seen : IsSettledSeen p then
      lowered_seen = seen_then lowers.calm lowers.off

      lowered_near : AllAreNear (snapshot_of then)
      lowered_near = near_so d playable made then keeps x.few

      lowered_quiet : HaveQuietLinks p.params then
      lowered_quiet = (quiet_stands n made then playable.network keeps.stands world_then.sound lowers.calm).links

      past : start ≤ then.time
      past = let over = rest.over in omega (arith, over, at_time)

      lowered_since : IsLeftAlways p (snapshot_of then) start w'
      lowered_since =
          act_left p start x.clock x.port then draws done w' keeps.claim.pace world_then after.claim.world
          keeps.claim.measured after.claim.measured came was_up lowered_seen lowered_near lowered_quiet past rest.ready
          rest.silent (stays_joined d playable made event then w' keeps after x.moves) (way_over x.delay x.paths)
          rest.sound

      lowered_asked : HaveAskedBy start w'
      lowered_asked =
          let over = rest.over in
          ready_asked p start w' after.claim.world (omega (arith, over, time))
          (lowered_ready p start x.clock x.port then draws done w' keeps.claim.pace world_then after.claim.world
          keeps.claim.measured after.claim.measured came was_up rest.ready)

      lowered_were : WereSilent n made w'
      lowered_were =
          were_down n made then draws done w' world_then after.claim.world x.clock x.port came was_up
          (were_silent n made start then past rest.silent)

      lowered_to : IsLeftTo d made more start w'
      lowered_to =
          record { keeps = after; before = snapshot_of then; since = lowered_since; were = lowered_were }

      -- ports are disabled, and the link is gone, and nothing else
      lowered_less : IsReduced (view then) (view w')
      lowered_less =
          lowered_reduced p then world_then came.1.place came.1.channel came.1.is.here draws w' after.claim.world
          (ends p start x.clock x.port then draws done w' keeps.claim.pace world_then after.claim.world
          keeps.claim.measured after.claim.measured came was_up) lowered_seen lowered_near
          (stay p start x.clock x.port then draws done w' keeps.claim.pace world_then after.claim.world
          keeps.claim.measured after.claim.measured came was_up lowered_seen lowered_near lowered_quiet past rest.ready
          rest.silent (stays_joined d playable made event then w' keeps after x.moves))

      -- it cuts off a far end
      module _ (lost gone old : ℕ) (far : IsFarEnd (snapshot_of then) lost) (cut : IsCutOff (snapshot_of w') lost)
          (lost_end : (came.1.channel.a.clock ≡ lost) ⊎ (came.1.channel.b.clock ≡ lost))
          (goes : FlightIsGoneFrom n more event.at gone) (is : old ≡ event.at + gone) where
        cut_since : IsCleared p (snapshot_of then) start start 0 old w'
        cut_since =
            clears p start start old then w' after.claim.world lowered_seen lowered_near rest.sound lowered_less
            lowered_since lowered_asked lost far
            (all_but_cut p then world_then came.1.place came.1.channel came.1.is.here draws w' after.claim.world
            (ends p start x.clock x.port then draws done w' keeps.claim.pace world_then after.claim.world
            keeps.claim.measured after.claim.measured came was_up) lowered_seen lowered_near lost lost_end)
            (cut_joins_none (snapshot_of w') lost cut)
            (λ quiet off. elim goes [
              | inl flight ↦ subst (λ t. AreDueBy t w') (omega (arith, is, time))
                  (goes_due p gone w' after.claim.world
                  (left_seen p (snapshot_of then) start w' lowered_since quiet off)
                  (goes_to d playable more w' after gone flight))
              | inr (within, arrived) ↦ subst (λ t. AreDueBy t w') (sym is)
                  (due_to d playable more w' after gone (event.at + gone) within arrived (omega (arith, time)))
            ])

    abbrev lowers_by : CutsCalm n made event → LowersCalm n made event
    lowers_by cuts = record { lowers = cuts.cuts.lowers; calm = cuts.calm; off = cuts.off }

    cut_to : (gone old : ℕ) → CutsCalm n made event → FlightIsGoneFrom n more event.at gone → old ≡ event.at + gone
        → IsClearedTo d made more start start 0 old w'
    cut_to gone old calm goes by =
        let lowers = lowers_by calm in
        let y = calm.cuts in
        let channel = (came lowers).1.channel in
        let (v, there, same) = alike (link_after made) channel_wire n.links then.net.channels (sym keeps.stands.links)
        (came lowers).1.place channel (came lowers).1.is.here in
        let is_end = subst (IsEnd (port_id y.lowers.clock y.lowers.port)) (sym same) (came lowers).1.is.joined in
        let lost_end = subst (λ (u : LinkSpec). (u.a.clock ≡ y.lost) ⊎ (u.b.clock ≡ y.lost)) same
        (y.lost_end (came lowers).1.place v there is_end) in
        record {
          keeps = after;
          before = snapshot_of then;
          is = cut_since lowers y.lost gone old (far_end_so d playable made then keeps y.lost y.far)
              (cut_off_so d playable more w' after y.lost y.cut) lost_end goes by;
          were = lowered_were lowers;
        }

    -- a system fails that is the far end of its links
    module _ (fails : FailsCalm n made event) (next : ℕ) (long : event.at + silence_span p < next) where
      abbrev y : FailsFarEnd n made event
      y = fails.fails

      came_fail : Acts (Changing (Fail y.clock)) then draws done w'
      came_fail = subst (λ act. Acts act then draws done w') y.act acts

      failed_quiet : HaveQuietLinks p.params then
      failed_quiet = (quiet_stands n made then playable.network keeps.stands world_then.sound fails.calm).links

      lived : came_fail.1.station.live ≡ true
      lived =
          lives_so n made then keeps.stands world_then.sound y.clock y.live came_fail.1.place came_fail.1.station
          (record { here = came_fail.1.is.here; named = came_fail.1.is.named })

      failed_since : IsLeftAlways p (snapshot_of then) next w'
      failed_since =
          let over = rest.over in
          failed_left p y.clock then draws done w' world_then after.claim.world came_fail lived
          (seen_then fails.calm fails.off) (near_so d playable made then keeps y.few)
          (far_end_so d playable made then keeps y.clock y.far)
          (stays_joined d playable made event then w' keeps after y.moves) rest.sound start next keeps.claim.pace
          keeps.claim.measured after.claim.measured (omega (arith, over, at_time)) (way_over y.delay y.paths)
          rest.ready failed_quiet rest.silent (omega (arith, at_time, long))

      failed_asked : HaveAskedBy start w'
      failed_asked =
          let over = rest.over in
          ready_asked p start w' after.claim.world (omega (arith, over, time))
          (failed_ready p y.clock then draws done w' world_then after.claim.world came_fail lived start next
          keeps.claim.pace keeps.claim.measured after.claim.measured (omega (arith, over, at_time)) rest.ready
          failed_quiet rest.silent (omega (arith, at_time, long)))

      failed_were : WereSilent n made w'
      failed_were =
          let over = rest.over in
          were_failed n made y.clock then draws done w' world_then after.claim.world came_fail lived keeps.stands
          failed_quiet start (omega (arith, over, at_time)) rest.silent

      failed_to : IsLeftTo d made more next w'
      failed_to = record { keeps = after; before = snapshot_of then; since = failed_since; were = failed_were }

      failed_cleared : (old : ℕ) → AreDueBy old then → IsClearedTo d made more start next 0 old w'
      failed_cleared old due = record {
        keeps = after;
        before = snapshot_of then;
        is = clears p start next old then w' after.claim.world (seen_then fails.calm fails.off)
            (near_so d playable made then keeps y.few) rest.sound
            (failed_reduced p y.clock then draws done w' world_then after.claim.world came_fail lived) failed_since
            failed_asked y.clock (far_end_so d playable made then keeps y.clock y.far)
            (all_but p y.clock then draws done w' world_then after.claim.world came_fail lived)
            (none_joined p y.clock then draws done w' world_then after.claim.world came_fail lived)
            (λ quiet off.
            due_reduced old then w'
            (failed_reduced p y.clock then draws done w' world_then after.claim.world came_fail lived) due);
        were = failed_were;
      }

    -- so each number may stand for what it is
    cleared_so : (at_silent at_right since silent right old : ℕ) → since ≡ start → silent ≡ at_silent
        → right ≡ at_right → IsClearedTo d made more start at_silent at_right old w'
        → IsClearedTo d made more since silent right old w'
    cleared_so at_silent at_right since silent right old begun same zero so =
        subst (λ t. IsClearedTo d made more t silent right old w') (sym begun)
        (subst (λ t. IsClearedTo d made more start t right old w') (sym same)
        (subst (λ t. IsClearedTo d made more start at_silent t old w') (sym zero) so))

    -- what is in flight is gone by then
    gone_by : (gone : ℕ) → IsCalm n made → NothingLapses n.params → FlightIsGoneFrom n made event.at gone
        → AreDueBy (event.at + gone) then
    gone_by gone calm off (inr (within, arrived)) =
        due_to d playable made then keeps gone (event.at + gone) within arrived (omega (arith, at_time))
    gone_by gone calm off (inl (inl (used, is))) =
        let delay = ap (λ (u : SyncPaths). u.delay) paths_then in
        subst (λ t. AreDueBy t then) (omega (arith, is, delay, at_time))
        (due_by_delay p then world_then (seen_then calm off) (up_in_use d made then keeps used))
    gone_by gone calm off (inl (inr is)) =
        subst (λ t. AreDueBy t then) (omega (arith, is, at_time)) (due_by_interval p then world_then)

    -- links begin to tell right traces
    rights_to : (right gone old : ℕ) → LowersCalm n made event → right ≡ event.at + 1 + nearer_echo_span n more
        → FlightIsGone n more gone → old ≡ event.at + nearer_echo_span n more + gone
        → IsClearedTo d made more start start right old w'
    rights_to right gone old lowers right_is flight old_is =
        let echo : nearer_echo_span n more ≡ nearer_echo p w' = echo_to d playable more w' after in
        subst (λ t. IsClearedTo d made more start start t old w') (sym (right_is ∙ omega (arith, echo, time)))
        (subst (λ t. IsClearedTo d made more start start (suc (w'.time + nearer_echo p w')) t w')
        (sym (old_is ∙ omega (arith, echo, time)))
        (record {
          keeps = after;
          before = snapshot_of then;
          is = rights p (snapshot_of then) start start gone w' (lowered_since lowers) (lowered_asked lowers)
              (goes_to d playable more w' after gone flight) (snapshot_of then)
              (was_best (snapshot_of then) (snapshot_of w') (lowered_since lowers).well
              (stands_well w' after.claim.world.sound after.claim.world.between after.claim.world.encodable)
              (lowered_since lowers).left)
              (λ quiet off. itself_begins says_announce (left_network p start w') (snapshot_of then) (view w')
              (sound_reduced says_announce (snapshot_of then) (view then) (view w') (lowered_less lowers) rest.sound));
          were = lowered_were lowers;
        }))

    -- far ends go, or another link goes down
    ends_to : (since silent right old : ℕ) → since ≡ start
        → ClearsFarEnd n made event start silent right old ⊎ ClearsTraces n made event start silent right old
        → IsClearedTo d made more since silent right old w'
    ends_to since silent right old begun (inl (zero, inl (cuts, same, (gone, flight, is)))) =
        cleared_so start 0 since silent right old begun same zero
        (cut_to gone old cuts flight is)
    ends_to since silent right old begun (inl (zero, inr (fails, same, (gone, flight, is)))) =
        cleared_so silent 0 since silent right old begun refl zero
        (failed_cleared fails silent (omega (arith, same)) old
        (subst (λ t. AreDueBy t then) (sym is) (gone_by gone fails.calm fails.off flight)))
    ends_to since silent right old begun (inr (lowers, same, right_is, (gone, flight, old_is))) =
        cleared_so start right since silent right old begun same refl (rights_to right gone old lowers right_is flight
        old_is)

    -- a system fails that others hear
    pub aging_so : (aged silent : ℕ) → FailsNow n made event aged silent → IsAgingTo d made more aged silent w'
    aging_so aged silent now =
        let x = now.fails in
        let over = rest.over in
        let gone = now.gone in
        let late : ℕ = suc (event.at + aging_span p (sync_paths n made)) in
        let delay : (sync_paths n made).delay ≡ delay_in then = ap (λ (y : SyncPaths). y.delay) paths_then in
        let came : Acts (Changing (Fail x.clock)) then draws done w' =
        subst (λ act. Acts act then draws done w') x.act acts in
        let unanswered = now.unanswered in
        let lived = lives_so n made then keeps.stands world_then.sound x.clock x.live came.1.place came.1.station
        (record { here = came.1.is.here; named = came.1.is.named }) in
        let quiet = (quiet_stands n made then playable.network keeps.stands world_then.sound now.calm).links in
        let past : start ≤ then.time = omega (arith, over, at_time) in
        let since_late = failed_aging p x.clock then draws done w' world_then after.claim.world came lived
        (seen_then now.calm now.off) (near_so d playable made then keeps x.few)
        (stays_joined d playable made event then w' keeps after x.moves) rest.sound start late silent
        keeps.claim.pace keeps.claim.measured after.claim.measured past (omega (arith, over, at_time))
        (way_over x.delay x.paths) rest.ready quiet rest.silent
        (omega (arith, at_time, unanswered)) (omega (arith, delay, at_time)) in
        let by_link = failed_ages_by p x.clock then draws done w' world_then after.claim.world came lived
        (seen_then now.calm now.off) rest.sound start keeps.claim.pace keeps.claim.measured past rest.ready quiet
        rest.silent keeps.named in
        let by : WorldAgesBy p (AgesOver n (snapshot_of then) made more then.time) w' =
        ages_over n made event x.clock x.act then w' playable.network world_then keeps.stands after.stands
        after.claim.world.sound keeps.claim.pace.largest by_link in
        let within = subst (λ t. AgesWithin n made more t now.span) (sym at_time) now.within in
        let since = aging_by p (snapshot_of then) late silent (AgesOver n (snapshot_of then) made more then.time) aged
        w' since_late by
        (λ port until heard is_over.
        let less = over_within n (snapshot_of then) made more then.time now.span within port until heard is_over in
        omega (arith, less, gone, at_time)) in
        record {
          keeps = after;
          before = snapshot_of then;
          since = since;
          sound = aged_begins p (snapshot_of then) aged silent w' since last;
          failed = then.time;
          unanswered = omega (arith, unanswered, at_time);
          by = by;
          were = were_failed n made x.clock then draws done w' world_then after.claim.world came lived keeps.stands
              quiet start past rest.silent;
        }

    pub cleared_to : (since silent right old : ℕ) → ClearsBy n made event start since silent right old
        → IsClearedTo d made more since silent right old w'
    cleared_to since silent right old (inl (begun, which)) = ends_to since silent right old begun which
    cleared_to since silent right old (inr (aged, now, anew)) =
        told_anew d playable made more event.at aged silent since right old w' after time last
        (aging_so aged silent now) anew

    -- a link goes down that so moves one system
    turned_to : TurnsCalm n made event → IsTurnedTo d more start event.at w'
    turned_to calm =
        let x = calm.turns in
        let over = rest.over in
        let came : Acts (Changing (LinkDown x.clock x.port)) then draws done w' =
        subst (λ act. Acts act then draws done w') x.act acts in
        let end = port_id x.clock x.port in
        let channel = came.1.channel in
        let (v, there, same) = alike link_wired channel_wire n.links then.net.channels
        (sym keeps.stands.links) came.1.place channel came.1.is.here in
        let is_end = subst (IsEnd end) (sym same) came.1.is.joined in
        let used = subst (IsUsed n.systems made) same (x.used came.1.place v there is_end) in
        let moved = subst (λ (u : LinkSpec). (u.a.clock ≡ x.moved) ⊎ (u.b.clock ≡ x.moved)) same
        (x.moved_end came.1.place v there is_end) in
        let (was, far, best, turns) = turns_so d playable made event then w' keeps after x.moved x.turns in
        let few = x.few in
        let fewer = x.paths in
        let up = up_so n made then keeps.stands end (λ place u u_there u_end. (x.used place u u_there u_end).up)
        came.1.place channel came.1.is in
        record {
          keeps = after;
          before = snapshot_of then;
          since = subst (λ t. IsTurnedAlways p (snapshot_of then) start t w') at_time
              (anew_begins p (snapshot_of then) start then.time w'
              (act_turned p start x.clock x.port then draws done w' keeps.claim.pace world_then
              after.claim.world keeps.claim.measured after.claim.measured came up
              (quiet_stands n made then playable.network keeps.stands world_then.sound calm.calm).links
              (omega (arith, over, at_time)) rest.ready rest.silent (seen_then calm.calm calm.off)
              (near_so d playable made then keeps x.few)
              (live_ends channel used) x.moved was far best turns
              (near_so d playable more w' after (omega (arith, few, fewer)))
              (end_of channel x.moved moved) (way_over x.delay x.paths) rest.sound)
              (time ∙ sym at_time) (last ∙ time ∙ sym at_time));
        }
      where
        link_wired : LinkSpec → LinkSpec
        link_wired = link_after made

        live_ends : (channel : Channel) → IsUsed n.systems made (channel_wire channel) → (direction : Direction)
            (at_place : ℕ) (station : Station) → slice_get then.stations at_place ≡ Some station
            → clock station.system ≡ (sender direction channel).clock → station.live ≡ true
        live_ends channel used FromA at_place station stands named =
            lives_so n made then keeps.stands world_then.sound channel.a.clock used.a at_place station
            (record { here = stands; named = named })
        live_ends channel used FromB at_place station stands named =
            lives_so n made then keeps.stands world_then.sound channel.b.clock used.b at_place station
            (record { here = stands; named = named })

        end_of : (channel : Channel) (x : ℕ)
            → ((channel_wire channel).a.clock ≡ x) ⊎ ((channel_wire channel).b.clock ≡ x)
            → (direction : Direction) × ((sender direction channel).clock ≡ x)
        end_of channel x (inl a) = (FromA, a)
        end_of channel x (inr b) = (FromB, b)

    pub turned_so : (silent now : ℕ) → TurnsNow n made event start silent now → IsTurnedTo d more silent now w'
    turned_so silent now (turns, by, here) =
        subst (λ t. IsTurnedTo d more silent t w') (sym here)
        (subst (λ t. IsTurnedTo d more t event.at w') (sym by) (turned_to turns))

    pub left_to : (next : ℕ) → LeavesStanding n made event start next → IsLeftTo d made more next w'
    left_to next (inl (lowers, same)) = subst (λ time. IsLeftTo d made more time w') (sym same) (lowered_to lowers)
    left_to next (inr (fails, same)) = failed_to fails next (omega (arith, same))
