-- Ports beside failed systems since a loss: they weren't capable as it came, or their links were in use then.
use Rattle.std.proofs.Common.{◌≡◌, ◌⊎◌, ◌≤◌, ℕ, true, false, List, Option, Some, slice_get, refl, sym, ap, subst, ◌∙◌, inl, inr, arith}
use Rattle.gptp_lists.proofs.MappedLemmas.{alike, same_there}
use Rattle.gptp_lists.proofs.PlaceLemmas.{same_place}
use Rattle.gptp_links.specs.Fate.{Draw}
use Rattle.gptp_links.specs.declared.bounds.Bounds.{Bounds}
use Rattle.gptp_links.specs.declared.link.Direction.{Direction}
use Rattle.gptp_links.specs.declared.link.Direction.TheVariants.{FromA, FromB}
use Rattle.gptp_setup.specs.SettlingParams.{SettlingParams}
use Rattle.gptp_scenario.specs.Calm.{IsUsed}
use Rattle.gptp_scenario.specs.Change.{link_after}
use Rattle.gptp_scenario.specs.Network.{IsEnd, NetworkState, pace_of}
use Rattle.gptp_scenario.specs.declared.change.Act.{Act}
use Rattle.gptp_scenario.specs.declared.change.Act.TheVariants.{Change as Changing}
use Rattle.gptp_scenario.specs.declared.change.Change.TheVariants.{Fail, LinkDown}
use Rattle.gptp_scenario.specs.declared.change.Timed.{Timed}
use Rattle.gptp_scenario.specs.declared.network.LinkSpec.{LinkSpec}
use Rattle.gptp_model.specs.Acts.{Acts, at as at_time}
use Rattle.gptp_model.specs.Changing.{GoesDownIf}
use Rattle.gptp_model.specs.Course.{WasDone}
use Rattle.gptp_model.specs.Views.{IsNextAct}
use Rattle.gptp_model.specs.World.{WorldState, receiver, sender}
use Rattle.gptp_model.specs.declared.done.Done.{Done}
use Rattle.gptp_world.specs.Transitions.{ActTrace}
use Rattle.gptp_network.specs.Document.{DocumentState}
use Rattle.gptp_invariants.specs.ChoiceCalm.{HaveQuietLinks}
use Rattle.gptp_invariants.specs.ChoiceSeenLaws.{IsNoChange}
use Rattle.gptp_invariants.specs.ChoiceSettlesAsMachine.{IsWorld}
use Rattle.gptp_invariants.specs.DelayLinkView.{LinkPlace}
use Rattle.gptp_invariants.specs.DelayMeasured.{LinkIsMeasured}
use Rattle.gptp_invariants.specs.FailedUnanswered.{StandsUnanswered}
use Rattle.gptp_invariants.specs.WorldNews.{AreSilentBy, IsSilentBy}
use Rattle.gptp_invariants.proofs.WorldClaimLemmas.{claim_later}
use Rattle.gptp_invariants.proofs.WorldNewsLemmas.{silent_from_now}
use Rattle.gptp_invariants.proofs.WorldOutlineLemmas.{acts_time}
use Rattle.gptp_theorem.proofs.CalmKeptLemmas.{no_change}
use Rattle.gptp_theorem.specs.Reached.{StandsAsPlanned, channel_wire}
use Rattle.gptp_settling_time.specs.Leads.{AreUsedSince}
use Rattle.gptp_settling_time.specs.Losses.{NoneSilent}
use Rattle.gptp_settling_time.proofs.FailedAloneLemmas.{here_before, link_used, silent_still, stood_beside}
use Rattle.gptp_settling_time.proofs.GainLemmas.{live_named, lives_so, used_as}
use Rattle.gptp_settling_time.proofs.KeptToLemmas.{KeepsTo}
use Rattle.gptp_settling_time.proofs.StaySilentLemmas.{AllStaySilent, GoesSilent, WasUsedIn, silent_acts, silent_time}
use Rattle.gptp_settling_time.proofs.TakenDownLemmas.{stay_down}

-- the link at this place was in use after these events
pub record WasUsedAt (n : NetworkState) (ago : List Timed) (link : ℕ) : Type 0 where
  pub spec : LinkSpec
  pub there : slice_get n.links link ≡ Some spec
  pub used : IsUsed n.systems ago (link_after ago spec)

-- A port that is unanswered in the world wasn't capable from a time on that is over, or its link was in use after the
-- events before a loss.
pub record WereSilent (n : NetworkState) (ago : List Timed) (w : WorldState) : Type 0 where
  pub start : ℕ
  pub over : start ≤ w.time
  pub each : (at : LinkPlace) → StandsUnanswered at w → IsSilentBy (pace_of n) start at w ⊎ WasUsedAt n ago at.link

module _ (n : NetworkState) (ago : List Timed) where
  abbrev p : SettlingParams
  p = pace_of n

  -- in a world in which none is capable from a time on
  pub were_silent : (start : ℕ) (w : WorldState) → start ≤ w.time → AreSilentBy p start w → WereSilent n ago w
  were_silent start w over silent = record { start = start; over = over; each = λ at s. inl (silent at s) }

  pub were_stay : (w w' : WorldState) → w.time ≤ w'.time → AllStaySilent p w w' → WereSilent n ago w
      → WereSilent n ago w'
  were_stay w w' later stays is = record {
    start = is.start;
    over = let over = is.over in omega (arith, over, later);
    each = λ at s.
        let x = stays at s in
        elim (is.each at x.stood) [ inl silent ↦ inl (x.silent is.start silent) | inr used ↦ inr used ];
  }

  pub were_later : (w : WorldState) (time : ℕ) → w.time ≤ time → WereSilent n ago w
      → WereSilent n ago (at_time time w)
  were_later w time later = were_stay w (at_time time w) later (silent_time p time w)

  pub were_acts : (act : Act) (w : WorldState) (draws : List Draw) (done : Done) (w' : WorldState) → IsNoChange act
      → Acts act w draws done w' → IsWorld p w → LinkIsMeasured w → WereSilent n ago w → WereSilent n ago w'
  were_acts act w draws done w' none k is measured =
      let time = acts_time act w draws done w' k in
      were_stay w w' (omega (arith, time)) (silent_acts p act w draws done w' none k is measured)

-- the world goes on by itself
pub were_act : (d : DocumentState) (ago events : List Timed) {F : Type 0}
    (answers : Bounds → ℕ → F → Option ℕ → F → Type 0) (t : ActTrace) (fate drawn : F) (w : WorldState)
    → IsNextAct w t.told.timed → WasDone answers t.told.timed fate drawn w t.after t.told.done
    → KeepsTo d events w → WereSilent d.network ago w → WereSilent d.network ago t.after
were_act d ago events answers t fate drawn w next was keeps were =
    let timed = t.told.timed in
    let now = was.ready.timely.now in
    let then = claim_later (pace_of d.network) w timed.at now was.ready.timely.first keeps.claim in
    were_acts d.network ago timed.act (at_time timed.at w) was.draws t.told.done t.after
    (no_change next.item timed.act w next.act) was.acts then.world then.measured
    (were_later d.network ago w timed.at now were)

-- where no lost link is silent, no port that is unanswered is capable from whatever time on
module _ (d : DocumentState) (ago events : List Timed) (w : WorldState) (keeps : KeepsTo d events w)
    (were : WereSilent d.network ago w) (none : NoneSilent d.network ago events) where
  abbrev q : SettlingParams
  q = pace_of d.network

  abbrev n : NetworkState
  n = d.network

  module _ (at : LinkPlace) (s : StandsUnanswered at w) (was : WasUsedAt n ago at.link) where
    -- the link is up, between a system that has failed and one that lives
    never : ⊥
    never =
        let (v, there, same) = alike (link_after events) channel_wire n.links w.net.channels (sym keeps.stands.links)
        at.link s.channel s.here in
        let one : was.spec ≡ v = same_there n.links at.link was.spec v was.there there in
        let sound = keeps.claim.world.sound in
        none at.link v (receiver at.direction s.channel) (sender at.direction s.channel) there (
          subst (λ u. IsUsed n.systems ago (link_after ago u)) one was.used,
          ap (λ (x : LinkSpec). x.up) same ∙ s.up,
          subst (IsEnd (receiver at.direction s.channel)) (sym same) (ends at.direction).0,
          λ lives.
              let on = lives_so n events w keeps.stands sound (receiver at.direction s.channel).clock lives at.answering
              s.answering.station (record { here = s.answering.here; named = s.answering.named }) in
              let both : true ≡ false = sym on ∙ s.answering.failed in
              absurd cc,
        ) (subst (IsEnd (sender at.direction s.channel)) (sym same) (ends at.direction).1)
        (live_named n events w keeps.stands sound (sender at.direction s.channel).clock at.asking s.asking.station
        (record { here = s.asking.here; named = s.asking.named }) s.asking.live)
      where
        ends : (way : Direction) → IsEnd (receiver way s.channel) (channel_wire s.channel)
            × IsEnd (sender way s.channel) (channel_wire s.channel)
        ends FromA = (inr refl, inl refl)
        ends FromB = (inl refl, inr refl)

  pub none_silent_from : (start : ℕ) → AreSilentBy q start w
  none_silent_from start =
      silent_from_now q start were.start w keeps.claim.world
      (λ at s. elim (were.each at s) [ inl silent ↦ silent | inr was ↦ absurd (never at s was) ]) were.over

-- ---- events

module _ (n : NetworkState) (ago : List Timed) (w : WorldState) (draws : List Draw) (done : Done) (w' : WorldState)
    (is : IsWorld (pace_of n) w) (is' : IsWorld (pace_of n) w') where
  -- a link goes down
  pub were_down : (owner port : ℕ) → (acts : Acts (Changing (LinkDown owner port)) w draws done w')
      → acts.1.channel.up ≡ true → WereSilent n ago w → WereSilent n ago w'
  were_down owner port acts up =
      let k = acts.1 in
      let time = acts_time (Changing (LinkDown owner port)) w draws done w' acts in
      were_stay n ago w w' (omega (arith, time))
      (stay_down (pace_of n) w is k.place k.channel k.is.here draws w' is'
      (subst (λ up. GoesDownIf up k.place k.channel (record w { last_change = w.time }) draws w') up k.so))

-- something is taken away
module _ (n : NetworkState) (ago made : List Timed) (less : AreUsedSince n ago made) (w w' : WorldState)
    (later : w.time ≤ w'.time) (goes : (at : LinkPlace) → StandsUnanswered at w' → GoesSilent (pace_of n) at w w')
    (used : (link : ℕ) → WasUsedIn w link → WasUsedAt n made link) where
  pub were_lose : WereSilent n ago w → WereSilent n ago w'
  were_lose were = record {
    start = were.start;
    over = let over = were.over in omega (arith, over, later);
    each = λ at s. elim (goes at s) [
      | inl any ↦ inl (any were.start)
      | inr (inl stays) ↦
          elim (were.each at stays.stood) [
            | inl silent ↦ inl (stays.silent were.start silent)
            | inr was ↦ inr was
          ]
      | inr (inr was) ↦
          let x = used at.link was in
          inr (record { spec = x.spec; there = x.there; used = less at.link x.spec x.there x.used })
    ];
  }

-- what is in use in the world is so in the network
pub used_then : (n : NetworkState) (made : List Timed) (w : WorldState) → IsWorld (pace_of n) w
    → StandsAsPlanned n made w → (link : ℕ) → WasUsedIn w link → WasUsedAt n made link
used_then n made w is stands link was =
    let (v, there, same) = alike (link_after made) channel_wire n.links w.net.channels (sym stands.links) link
    was.channel was.here in
    record {
      spec = v;
      there = there;
      used = subst (IsUsed n.systems made) (sym same) (used_as n made w stands is.sound was.channel was.used);
    }

-- a system fails, and that is the loss
module _ (n : NetworkState) (made : List Timed) (number : ℕ) (w : WorldState) (draws : List Draw) (done : Done)
    (w' : WorldState) (is : IsWorld (pace_of n) w) (is' : IsWorld (pace_of n) w')
    (acts : Acts (Changing (Fail number)) w draws done w') (lives : acts.1.station.live ≡ true)
    (stands : StandsAsPlanned n made w) (quiet : HaveQuietLinks (pace_of n).params w) where
  pub were_failed : (start : ℕ) → start ≤ w.time → AreSilentBy (pace_of n) start w → WereSilent n made w'
  were_failed start over silent =
      let time = acts_time (Changing (Fail number)) w draws done w' acts in
      record {
        start = start;
        over = omega (arith, over, time);
        each = λ at s. elim (same_place at.answering acts.1.place) [
          | inl own ↦
              inr (used_then n made w is stands at.link (record {
                channel = s.channel;
                here = here_before (pace_of n) number w draws done w' is is' acts lives at s;
                used = link_used (pace_of n) number w draws done w' is is' acts lives at s own quiet;
              }))
          | inr other ↦
              inl (silent_still (pace_of n) number w draws done w' is is' acts lives at s other start start
              (omega arith)
              (silent at (stood_beside (pace_of n) number w draws done w' is is' acts lives at s other)))
        ];
      }
