-- A change that changes nothing leaves what is claimed of a world since news.
use Rattle.std.proofs.Common.{◌≡◌, ◌≤◌, ◌+◌, ◌*◌, ◌^◌, ◌%◌, ℕ, true, List, [], map, Option, sym, ap, subst, ◌∙◌, inl, inr, arith}
use Rattle.gptp_lists.proofs.MappedLemmas.{same_there}
use Rattle.gptp_lists.proofs.PlaceLemmas.{get-set_same, map-set_same}
use Rattle.gptp_links.specs.declared.bounds.Bounds.{Bounds}
use Rattle.gptp_links.specs.Fate.{Draw}
use Rattle.gptp_setup.specs.SettlingParams.{SettlingParams}
use Rattle.gptp_scenario.specs.Allowed.{IsFitAct}
use Rattle.gptp_scenario.specs.declared.change.Act.TheVariants.{Change as Changing}
use Rattle.gptp_scenario.specs.declared.change.Change.{Change}
use Rattle.gptp_scenario.specs.declared.change.Change.TheVariants.{LinkDown, LinkUp, LinkSet, Fail, Recover, Priority1, Inject}
use Rattle.gptp_system.specs.declared.answer.Answer.{Answer}
use Rattle.gptp_system.specs.declared.sending.Sending.{Sending}
use Rattle.gptp_system.specs.Announcing.{ChangesPriority}
use Rattle.gptp_system.specs.Facts.{AreHeld, IsAtRest}
use Rattle.gptp_system.specs.Input.{Priority}
use Rattle.gptp_system.specs.Selection.{Selects}
use Rattle.gptp_system.specs.State.{SystemState}
use Rattle.gptp_system.proofs.RestLemmas.{selects_again}
use Rattle.gptp_model.specs.Act.{Calls, all_timers, in_state}
use Rattle.gptp_model.specs.Acts.{Changes, at as at_time}
use Rattle.gptp_model.specs.Changing.{CallsIfLive, ComesUpIf, FailsIf, GoesDownIf, InjectsIf, IsStation, RecoversIf, with_setup, with_station}
use Rattle.gptp_model.specs.Course.{WasDone}
use Rattle.gptp_model.specs.declared.done.Done.{Done}
use Rattle.gptp_model.specs.declared.station.Station.{Station}
use Rattle.gptp_model.specs.Prompt.{DelaysFitIntervals}
use Rattle.gptp_model.specs.Sends.{SendsAll}
use Rattle.gptp_model.specs.Sound.{IsSound}
use Rattle.gptp_model.specs.World.{Net, WorldState, port_id}
use Rattle.gptp_invariants.specs.WorldSettlingInvariant.{KeepsAll}
use Rattle.gptp_invariants.specs.WorldEncodableLaws.{SetsAnOctet}
use Rattle.gptp_invariants.proofs.WorldClaimLemmas.{claim_kept}
use Rattle.gptp_invariants.proofs.WorldNewsCourseLemmas.{news_advance}
use Rattle.gptp_invariants.proofs.WorldNewsLemmas.{news_go_on}
use Rattle.gptp_theorem.proofs.SettlingInvariantLemmas.{advanced_claimed}
use Rattle.gptp_theorem.proofs.HeadlineLemmas.{is_settled, quiet_as}
use Rattle.gptp_settling_time.specs.Idle.{IdlesStayNews, IdlesStaySettled, IsIdle, KeepsPriority}
use Rattle.gptp_settling_time.proofs.StandsStillLemmas.{StandsStill, changed_still, news_stands, plain, set_still}
use Rattle.gptp_settling_time.proofs.TimedNewsLemmas.{CanSettle, has_settled}

-- ---- a system gets the priority1 that it has

-- it selects as before, and stays as it is
selects_still : (now value : ℕ) (s s' : SystemState) (sends : List Sending) → AreHeld s → IsAtRest s
    → value * 2 ^ 104 + s.identity % 2 ^ 104 ≡ s.identity → ChangesPriority value now s s' sends
    → (s' ≡ s) × (sends ≡ [])
selects_still now value s s' sends held rest same k =
    selects_again now s s' sends held rest
    (subst (λ (t : SystemState). Selects now t s' sends) (λ i. record s { identity = same i }) k)

module _ (w : WorldState) (sound : IsSound w) (number value place : ℕ) (station : Station)
    (is : IsStation number place w station) (idle : KeepsPriority number value w) (draws : List Draw)
    (w' : WorldState) where
  abbrev new : Station
  new = with_setup value station

  abbrev set : WorldState
  set = with_station place new (record w { last_change = w.time })

  -- the system starts with another, and nothing else changes
  starts_so : StandsStill w set
  starts_so = set_still value place station w is.here

  module _ (answer : Answer) (c : Calls place (Priority value) set draws answer w') where
    one : c.station ≡ new
    one = same_there set.stations place c.station new c.here (get-set_same w.stations place station new is.here)

    system : c.station.system ≡ station.system
    system = ap (λ (x : Station). x.system) one

    same : value * 2 ^ 104 + station.system.identity % 2 ^ 104 ≡ station.system.identity
    same = elim (idle place station is) [
      | inl failed ↦
          let live : station.live ≡ true = ap (λ (x : Station). x.live) (sym one) ∙ c.live in
          absurd (let both = sym failed ∙ live in cc)
      | inr kept ↦ kept
    ]

    stays : (c.after ≡ c.station.system) × (c.sends ≡ [])
    stays =
        let steady = (sound.on_time.stations place station is.here).steady in
        selects_still set.time value c.station.system c.after c.sends
        (subst AreHeld (sym system) steady.held) (subst IsAtRest (sym system) steady.rest)
        (subst (λ (x : SystemState). value * 2 ^ 104 + x.identity % 2 ^ 104 ≡ x.identity) (sym system) same) c.steps

    none_sent : c.net ≡ all_timers place (in_state c.after c.station) set.net
    none_sent =
        (subst (λ sends. SendsAll set.time c.after sends draws (all_timers place (in_state c.after c.station) set.net)
        c.net) stays.1 c.sent).1

    called_still : StandsStill w w'
    called_still = record {
      time = ap (λ (x : WorldState). x.time) c.is;
      stations = ap (λ (x : WorldState). map plain x.stations) c.is
          ∙ map-set_same plain set.stations place c.station (in_state c.after c.station) c.here
          (ap (λ s. plain (in_state s c.station)) stays.0)
          ∙ starts_so.stations;
      channels = ap (λ (x : WorldState). x.net.channels) c.is ∙ ap (λ (x : Net). x.channels) none_sent;
    }

  prioritized_still : CallsIfLive place (Priority value) set draws w' → StandsStill w w'
  prioritized_still (inl (answer, c)) = called_still answer c
  prioritized_still (inr (failed, none, same)) = subst (StandsStill w) (sym same) starts_so

-- ---- nothing is done

module _ (w : WorldState) (sound : IsSound w) (draws : List Draw) (w' : WorldState) where
  abbrev now : WorldState
  now = record w { last_change = w.time }

  -- but for a priority1 nothing but the time of the last change is another
  pub idle_same : (change : Change) → ((number value : ℕ) → change ≡ Priority1 number value → ⊥) → IsIdle change w
      → Changes change now draws w' → w' ≡ now
  idle_same (LinkDown number port) other idle k =
      (subst (λ up. GoesDownIf up k.place k.channel now draws w') (idle k.place k.channel k.is) k.so).1
  idle_same (LinkUp number port) other idle k =
      (subst (λ up. ComesUpIf up k.place k.channel now draws w') (idle k.place k.channel k.is) k.so).1
  idle_same (LinkSet number port min max loss) other idle k = absurd idle
  idle_same (Fail number) other idle k =
      let live = idle k.place k.station (record { here = k.is.here; named = k.is.named }) in
      (subst (λ live. FailsIf live k.place k.station now draws w') live k.so).1
  idle_same (Recover number) other idle k =
      let live = idle k.place k.station (record { here = k.is.here; named = k.is.named }) in
      (subst (λ live. RecoversIf live k.place now draws w') live k.so).1
  idle_same (Priority1 number value) other idle k = absurd (other number value (λ i. Priority1 number value))
  idle_same (Inject number port octets) other idle k =
      (subst (λ up. InjectsIf up (port_id number port) octets now draws w') (idle k.place k.channel k.is) k.so).1

  -- so nothing that is claimed of changes
  pub idle_still : (change : Change) → IsIdle change w → Changes change now draws w' → StandsStill w w'
  idle_still (LinkDown number port) idle k =
      changed_still w w' (idle_same (LinkDown number port) (λ m value same. cc) idle k)
  idle_still (LinkUp number port) idle k =
      changed_still w w' (idle_same (LinkUp number port) (λ m value same. cc) idle k)
  idle_still (LinkSet number port min max loss) idle k = absurd idle
  idle_still (Fail number) idle k = changed_still w w' (idle_same (Fail number) (λ m value same. cc) idle k)
  idle_still (Recover number) idle k = changed_still w w' (idle_same (Recover number) (λ m value same. cc) idle k)
  idle_still (Priority1 number value) idle k =
      prioritized_still w sound number value k.place k.station (record { here = k.is.here; named = k.is.named }) idle
      draws w' k.so
  idle_still (Inject number port octets) idle k =
      changed_still w w' (idle_same (Inject number port octets) (λ m value same. cc) idle k)

-- it sets no bounds
idle_fit : (change : Change) (w : WorldState) → IsIdle change w → IsFitAct (Changing change)
idle_fit (LinkDown number port) w idle = tt
idle_fit (LinkUp number port) w idle = tt
idle_fit (LinkSet number port min max loss) w idle = absurd idle
idle_fit (Fail number) w idle = tt
idle_fit (Recover number) w idle = tt
idle_fit (Priority1 number value) w idle = tt
idle_fit (Inject number port octets) w idle = tt

idle_prompt : (change : Change) (v w : WorldState) → IsIdle change v → DelaysFitIntervals w (Changing change)
idle_prompt (LinkDown number port) v w idle = λ place station log here among. tt
idle_prompt (LinkUp number port) v w idle = λ place station log here among. tt
idle_prompt (LinkSet number port min max loss) v w idle = absurd idle
idle_prompt (Fail number) v w idle = λ place station log here among. tt
idle_prompt (Recover number) v w idle = λ place station log here among. tt
idle_prompt (Priority1 number value) v w idle = λ place station log here among. tt
idle_prompt (Inject number port octets) v w idle = λ place station log here among. tt

-- ---- the laws

module _ {F : Type 0} (answers : Bounds → ℕ → F → Option ℕ → F → Type 0) where
  idle_claimed : (p : SettlingParams) (time : ℕ) (change : Change) (fate fate_after : F) (w w' : WorldState)
      (done : Done)
      → KeepsAll p w → IsIdle change (at_time time w) → SetsAnOctet (Changing change)
      → WasDone answers (record { at = time; act = Changing change }) fate fate_after w w' done → KeepsAll p w'
  idle_claimed p time change fate fate_after w w' done claim idle octet k =
      claim_kept answers p (record { at = time; act = Changing change }) fate fate_after w w' done
      (idle_fit change (at_time time w) idle) (idle_prompt change (at_time time w) w idle) octet k claim

  pub idles_stay_news : IdlesStayNews answers
  idles_stay_news p start time change fate fate_after w w' done claim news idle octet k =
      let then = at_time time w in
      let timely = k.ready.timely in
      let claimed = idle_claimed p time change fate fate_after w w' done claim idle octet k in
      let news_then = news_go_on p start time w timely.now timely.first news in
      news_stands p start then w' (idle_still then news_then.world.sound k.draws w' change idle k.acts.1) claimed.world
      claimed.measured news_then

  pub idles_stay_settled : IdlesStaySettled answers
  idles_stay_settled p start time until m change told fate drawn fate_after w between w' done claim news idle octet k
      course calm bounded late =
      let claimed = idle_claimed p time change fate drawn w between done claim idle octet k in
      let after = news_advance answers p start until told drawn fate_after between w' course
      (idles_stay_news p start time change fate drawn w between done claim news idle octet k) in
      let can : CanSettle p m start w'.time w' =
      record { quiet = (quiet_as p w' calm).links; bounded = bounded; settles = late } in
      let now : w'.time ≤ w'.time = omega arith in
      let both = has_settled p m start w'.time w' (inl after) can now in
      is_settled w' (record {
        pace = p;
        is = advanced_claimed answers p until told drawn fate_after between w' course claimed;
      }) both.0 both.1
