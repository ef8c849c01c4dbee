-- The events of a time take something away from a world of a document.
use Rattle.std.proofs.Common.{List, [], ap, arith, inl, inr, refl, subst, sym, Bool, true, false, ℕ, ◌++◌, ◌∙◌, ◌∷◌, ◌≡◌, ◌≤◌}
use Rattle.gptp_lists.proofs.MappedLemmas.{alike, same_there}
use Rattle.gptp_links.specs.Fate.{Draw}
use Rattle.gptp_setup.specs.SettlingParams.{SettlingParams}
use Rattle.gptp_scenario.specs.Calm.{IsUsed}
use Rattle.gptp_scenario.specs.Change.{link_after}
use Rattle.gptp_scenario.specs.Network.{NetworkState, pace_of}
use Rattle.gptp_scenario.specs.SyncWait.{sync_paths}
use Rattle.gptp_scenario.specs.declared.change.Act.{Act}
use Rattle.gptp_scenario.specs.declared.change.Act.TheVariants.{Deliver, Expire, Change as Changing}
use Rattle.gptp_scenario.specs.declared.change.Change.{Change}
use Rattle.gptp_scenario.specs.declared.change.Change.TheVariants.{LinkDown, LinkUp, LinkSet, Fail, Recover, Priority1, Inject}
use Rattle.gptp_scenario.specs.declared.change.Timed.{Timed}
use Rattle.gptp_scenario.specs.declared.sync_wait.SyncPaths.{SyncPaths}
use Rattle.gptp_model.specs.Acts.{Acts}
use Rattle.gptp_model.specs.Changing.{ComesUpIf, GoesDownIf}
use Rattle.gptp_model.specs.declared.done.Done.{Done}
use Rattle.gptp_model.specs.World.{WorldState, port_id}
use Rattle.gptp_network.specs.Document.{DocumentState}
use Rattle.gptp_invariants.specs.ChoiceCalm.{delay_in}
use Rattle.gptp_invariants.specs.ChoiceSettlesAsMachine.{IsWorld}
use Rattle.gptp_invariants.specs.WorldEncodableLaws.{SetsAnOctet}
use Rattle.gptp_invariants.specs.WorldNews.{AreReadyBy}
use Rattle.gptp_theorem.specs.PlayedLaws.{IsMade, IsPlayable}
use Rattle.gptp_theorem.specs.Reached.{channel_wire}
use Rattle.gptp_theorem.proofs.CalmLemmas.{quiet_stands}
use Rattle.gptp_theorem.proofs.SyncPathLemmas.{paths_stand}
use Rattle.gptp_settling_time.specs.Gains.{ChangesNothing, EndHasFailed}
use Rattle.gptp_settling_time.specs.EventKinds.{MakesNothing, TurnsInVain}
use Rattle.gptp_settling_time.specs.Leads.{AreUsedSince, LosesMore, LosesNow}
use Rattle.gptp_settling_time.specs.Losses.{AreSilentAfter, LosesAny}
use Rattle.gptp_settling_time.proofs.GainLemmas.{idle_so, lives_so, unused_so, up_so, used_so}
use Rattle.gptp_settling_time.proofs.KeptToLemmas.{KeepsTo}
use Rattle.gptp_settling_time.proofs.IdleLemmas.{idle_still}
use Rattle.gptp_settling_time.proofs.LosesLinkLemmas.{lowers_takes}
use Rattle.gptp_settling_time.proofs.LosesNothingLemmas.{still_takes}
use Rattle.gptp_settling_time.proofs.LosesPriorityLemmas.{priority_takes}
use Rattle.gptp_settling_time.proofs.LosesSystemLemmas.{fails_takes}
use Rattle.gptp_settling_time.proofs.LosesVainLemmas.{raises_takes}
use Rattle.gptp_settling_time.proofs.LosingLemmas.{IsLosing, TakesAway, losing_lost, lost_losing, sound_losing, takes_losing}
use Rattle.gptp_settling_time.proofs.LossMadeLemmas.{HasRestedSo}
use Rattle.gptp_settling_time.proofs.LostClaimedLemmas.{IsLostAlways, asked_are_ready}
use Rattle.gptp_settling_time.proofs.LostToLemmas.{IsLostTo}
use Rattle.gptp_settling_time.proofs.StandsStillLemmas.{StandsStill, changed_still}
use Rattle.gptp_settling_time.proofs.WereSilentLemmas.{WereSilent, used_then, were_lose, were_silent}

-- no act leaves ports capable for less than till its own time
silent_since : (p : SettlingParams) (time silent : ℕ) (act : Act) → AreSilentAfter p time silent act → time ≤ silent
silent_since p time silent (Changing (Fail number)) long = omega (arith, long)
silent_since p time silent (Changing (LinkDown number port)) later = later
silent_since p time silent (Changing (LinkUp number port)) later = later
silent_since p time silent (Changing (LinkSet number port min max loss)) later = later
silent_since p time silent (Changing (Recover number)) later = later
silent_since p time silent (Changing (Priority1 number value)) later = later
silent_since p time silent (Changing (Inject number port octets)) later = later
silent_since p time silent (Deliver link direction) later = later
silent_since p time silent (Expire number timer) later = later

module _ (d : DocumentState) (playable : IsPlayable d) (made : List Timed) (event : Timed) (then : WorldState)
    (draws : List Draw) (done : Done) (w' : WorldState) (is : IsMade event)
    (acts : Acts event.act then draws done w')
    (octet : SetsAnOctet event.act) (at_time : then.time ≡ event.at) (time : w'.time ≡ event.at)
    (last : w'.last_change ≡ w'.time) (keeps : KeepsTo d made then) (after : KeepsTo d (made ++ event ∷ []) w') where
  abbrev p : SettlingParams
  p = pace_of d.network

  abbrev n : NetworkState
  n = d.network

  world_then : IsWorld p then
  world_then = keeps.claim.world

  -- the event is this change
  came_so : (change : Change) → is.change ≡ change → Acts (Changing change) then draws done w'
  came_so change same = subst (λ act. Acts act then draws done w') (is.act ∙ ap Changing same) acts

  -- it changes nothing
  pub made_still : ChangesNothing n made event.act → StandsStill then w'
  made_still nothing =
      idle_still then world_then.sound draws w' is.change
      (idle_so n made then keeps.stands world_then.sound is.change (subst (ChangesNothing n made) is.act nothing))
      (came_so is.change refl).1

  module _ (start since most silent : ℕ) (losing : IsLosing p start since most silent then) where
    ready : AreReadyBy p start then
    ready = asked_are_ready p start then losing.asked

    -- a link goes down
    lowered : (number port : ℕ) → (k : Acts (Changing (LinkDown number port)) then draws done w')
        → (up : Bool) → k.1.channel.up ≡ up → TakesAway p start silent then w'
    lowered number port k true up =
        lowers_takes p number port then draws done w' world_then after.claim.world k up start silent keeps.claim.pace
        keeps.claim.measured after.claim.measured ready losing.standing.silent
    lowered number port k false down =
        still_takes p then w'
        (changed_still then w'
        (subst (λ up. GoesDownIf up k.1.place k.1.channel (record then { last_change = then.time }) draws w') down
        k.1.so).1) start silent world_then after.claim.world after.claim.measured ready losing.standing.silent

    -- it takes something away
    pub takes : LosesAny n made event.act → AreSilentAfter p event.at silent event.act
        → TakesAway p start silent then w'
    takes loses unanswered =
        by is.change refl (subst (LosesAny n made) is.act loses)
        (subst (AreSilentAfter p event.at silent) is.act unanswered)
      where
        by : (change : Change) → is.change ≡ change → LosesAny n made (Changing change)
            → AreSilentAfter p event.at silent (Changing change) → TakesAway p start silent then w'
        by (LinkDown number port) same used later =
            let came = came_so (LinkDown number port) same in
            lowered number port came true
            (up_so n made then keeps.stands (port_id number port) (λ place v there end. (used place v there end).up)
            came.1.place came.1.channel came.1.is)
        by (Fail number) same lives long =
            let came = came_so (Fail number) same in
            let now = losing.now in
            let past = losing.past in
            fails_takes p number then draws done w' world_then after.claim.world came
            (lives_so n made then keeps.stands world_then.sound number lives came.1.place came.1.station
            (record { here = came.1.is.here; named = came.1.is.named })) start silent (omega (arith, now, past)) ready
            losing.quiet losing.standing.silent (omega (arith, at_time, long)) keeps.claim.measured after.claim.measured
        by (Priority1 number value) same lives later =
            priority_takes p number value then draws done w' world_then after.claim.world
            (lives_so n made then keeps.stands world_then.sound number lives)
            (subst SetsAnOctet (is.act ∙ ap Changing same) octet) (came_so (Priority1 number value) same) start silent
            keeps.claim.measured after.claim.measured ready losing.standing.silent
        by (LinkUp number port) same none later = absurd none
        by (LinkSet number port min max loss) same none later = absurd none
        by (Recover number) same none later = absurd none
        by (Inject number port octets) same none later = absurd none

    -- a link comes up
    raised : (number port : ℕ) → EndHasFailed n made (port_id number port)
        → (k : Acts (Changing (LinkUp number port)) then draws done w') → (up : Bool) → k.1.channel.up ≡ up
        → TakesAway p start silent then w'
    raised number port failed k true up =
        still_takes p then w'
        (changed_still then w'
        (subst (λ up. ComesUpIf up k.1.place k.1.channel (record then { last_change = then.time }) draws w') up
        k.1.so).1) start silent world_then after.claim.world after.claim.measured ready losing.standing.silent
    raised number port failed k false down =
        raises_takes p then world_then k.1.place k.1.channel k.1.is.here down
        (unused_so n made then keeps.stands world_then.sound (port_id number port) failed k.1.place k.1.channel
        (record { here = k.1.is.here; joined = k.1.is.joined })) draws w' after.claim.world
        (subst (λ up. ComesUpIf up k.1.place k.1.channel (record then { last_change = then.time }) draws w') down
        k.1.so) start silent after.claim.measured after.claim.silent ready losing.standing.silent

    -- it makes nothing of what stands
    pub spares : MakesNothing n made event since → TakesAway p start silent then w'
    spares (inl nothing) =
        still_takes p then w' (made_still nothing) start silent world_then after.claim.world after.claim.measured ready
        losing.standing.silent
    spares (inr (off, turns)) = by is.change refl (subst (TurnsInVain n made event since) is.act turns)
      where
        by : (change : Change) → is.change ≡ change → TurnsInVain n made event since (Changing change)
            → TakesAway p start silent then w'
        by (LinkDown number port) same (failed, late) =
            let came = came_so (LinkDown number port) same in lowered number port came came.1.channel.up refl
        by (LinkUp number port) same failed =
            let came = came_so (LinkUp number port) same in raised number port failed came came.1.channel.up refl
        by (LinkSet number port min max loss) same none = absurd none
        by (Fail number) same none = absurd none
        by (Recover number) same none = absurd none
        by (Priority1 number value) same none = absurd none
        by (Inject number port octets) same none = absurd none

    lost_then : (ago : List Timed) → AreUsedSince n ago made → WereSilent n ago then → TakesAway p start silent then w'
        → IsLostTo d ago (made ++ event ∷ []) since most silent w'
    lost_then ago used were away = record {
      keeps = after;
      is = losing_lost p start since most silent w' (takes_losing p start since most silent then w' losing away)
          (last ∙ time ∙ sym at_time ∙ losing.now);
      were = were_lose n ago made used then w' (let now = away.time in omega (arith, now)) away.goes
          (used_then n made then world_then keeps.stands) were;
      less = less;
    }
      where
        -- a link in use after the event was so before
        less : AreUsedSince n ago (made ++ event ∷ [])
        less place v there used_now =
            let (channel, here, same) = alike channel_wire (link_after (made ++ event ∷ [])) w'.net.channels n.links
            after.stands.links place v there in
            let old = away.used place channel here
            (used_so n (made ++ event ∷ []) w' after.stands after.claim.world.sound channel
            (subst (IsUsed n.systems (made ++ event ∷ [])) (sym same) used_now)) in
            let x = used_then n made then world_then keeps.stands place
            (record { channel = old.old; here = old.here; used = old.used }) in
            let one : x.spec ≡ v = same_there n.links place x.spec v x.there there in
            used place v there (subst (λ u. IsUsed n.systems made (link_after made u)) one x.used)

  -- in a network that has settled
  pub losing_first : (start since most silent : ℕ) → HasRestedSo p start event.at then
      → LosesNow n made event since most silent → IsLosing p start since most silent then
  losing_first start since most silent rest now =
      let over = rest.over in
      let here = now.now in
      let later = silent_since p event.at silent event.act now.unanswered in
      let less = now.delay in
      let delay : (sync_paths n made).delay ≡ delay_in then =
      ap (λ (x : SyncPaths). x.delay) (paths_stand n made then playable.network keeps.stands world_then.sound) in
      sound_losing p start since most silent then keeps.claim.pace world_then keeps.claim.measured rest.sound rest.ready
      rest.silent (quiet_stands n made then playable.network keeps.stands world_then.sound now.calm).links now.off
      (omega (arith, at_time, here)) (omega (arith, over, here)) (omega (arith, later, here))
      (omega (arith, less, delay))

  -- the first does
  pub loses_first : (ago : List Timed) (start since most silent : ℕ) → HasRestedSo p start event.at then
      → AreUsedSince n ago made → LosesNow n made event since most silent
      → IsLostTo d ago (made ++ event ∷ []) since most silent w'
  loses_first ago start since most silent rest used now =
      let over = rest.over in
      let losing : IsLosing p start since most silent then = losing_first start since most silent rest now in
      lost_then start since most silent losing ago used
      (were_silent n ago start then (omega (arith, over, at_time)) rest.silent)
      (takes start since most silent losing now.loses now.unanswered)

  -- and more at that time
  pub loses_more : (ago : List Timed) (since most silent : ℕ) → IsLostAlways p since most silent then
      → AreUsedSince n ago made → WereSilent n ago then → LosesMore n made event since silent
      → IsLostTo d ago (made ++ event ∷ []) since most silent w'
  loses_more ago since most silent lost used were more =
      let losing : IsLosing p since since most silent then =
      lost_losing p since since most silent then lost lost.asked (omega arith) (at_time ∙ more.now) in
      lost_then since since most silent losing ago used were (elim more.more [
        | inl (loses, unanswered) ↦ takes since since most silent losing loses unanswered
        | inr nothing ↦ spares since since most silent losing nothing
      ])
