-- Every timer that a step starts is due after now, and so is a timer that ran out, where it runs at all.
use Rattle.std.proofs.Common.{◌≡◌, ◌≢◌, ◌⊎◌, ◌≤◌, ◌<◌, ℕ, zero, suc, ◌+◌, ℤ, Bool, true, false, List, Option, Some, None, slice_get, refl, sym, ap, subst, ◌∙◌, inl, inr, arith}
use Rattle.std.specs.Prelude.{if◌then◌else◌, ◌==◌}
use Rattle.std.specs.Option.{option_map, option_map_or, option_and_then}
use Rattle.std.proofs.lemmas.Bool.Decides.{nat_tests}
use Rattle.std.proofs.lemmas.Option.{none-some, same_Some}
use Rattle.gptp_messages.specs.declared.message.Message.{Message}
use Rattle.gptp_messages.specs.declared.message.Message.TheVariants as messages
use Rattle.gptp_receipt.specs.declared.held.Held.{Held}
use Rattle.gptp_receipt.specs.declared.held.Held.TheVariants as helds
use Rattle.gptp_receipt.specs.declared.held.Reception.{Reception}
use Rattle.gptp_receipt.specs.Held.{received}
use Rattle.gptp_pdelay.specs.Peer.{PeerState, after_interval, reset_peer}
use Rattle.gptp_system.specs.declared.answer.Answer.{Answer}
use Rattle.gptp_system.specs.declared.port.Port.{Port}
use Rattle.gptp_system.specs.declared.sending.Sending.{Sending}
use Rattle.gptp_setup.specs.declared.timer.Timer.{Timer}
use Rattle.gptp_setup.specs.declared.timer.Timer.TheVariants as timers
use Rattle.gptp_setup.specs.Intervals.{AreParams, IsLog, interval_of}
use Rattle.gptp_setup.specs.SettlingParams.{has_sync_timeout, span_by}
use Rattle.gptp_setup.proofs.IntervalLemmas.{interval_positive}
use Rattle.gptp_setup.proofs.SettlingParamsLemmas.{lapse_positive, span_within}
use Rattle.gptp_system.specs.State.{SystemState, age_due, announce_due, clock, due, held_at, is_mine, number}
use Rattle.gptp_system.specs.Input.{Input, IsTimely, Steps, PortUp, PortDown, Frame, Expires, Priority}
use Rattle.gptp_system.specs.Facts.{AreShown, IsAtRest, Keeps}
use Rattle.gptp_system.specs.Selection.{announced_again, follows_on}
use Rattle.gptp_system.specs.Announcing.{announced_at}
use Rattle.gptp_system.specs.Lapse.{lapsed}
use Rattle.gptp_system.specs.Syncing.{RelaysBy, RelaysIf, SyncsIf, is_leading}
use Rattle.gptp_system.specs.Touch.{IsSeenAs, PortHoldsInTouch, Touch, Grow}
use Rattle.gptp_system.specs.Reacts.{PlaceReacts, PortEnds, PortAnnounces}
use Rattle.gptp_system.specs.Measures.{IsPartAfter, Part, only_at, part_answered, part_asked, part_down, part_heard, measure_at, MeasuresAtEachPlace}
use Rattle.gptp_system.specs.Times.{RunsOn, LapseRunsOn, WaitsAnew}
use Rattle.gptp_setup.specs.declared.setup.Params.{Params}
use Rattle.gptp_correction.specs.declared.sync_in.SyncInfo.{SyncInfo}
use Rattle.gptp_system.proofs.ChangedLemmas.{Changed, change-get}
use Rattle.gptp_system.proofs.LapseLemmas.{lapse_chosen}
use Rattle.gptp_system.proofs.AnswerLemmas.{steps_react}
use Rattle.gptp_system.proofs.ReactLemmas.{Answers}
use Rattle.gptp_system.proofs.StepLemmas.{steps_sound}
use Rattle.gptp_system.proofs.InTimeLemmas.{IsMid, kept_other, mid_is, mid_mine, mid_received}
use Rattle.gptp_system.proofs.MeasureLemmas.{steps_measure}
use Rattle.gptp_system.proofs.TimeLemmas.{steps_run_on}

-- a Lapse timer that begins anew is due after now
anew_later : (s : SystemState) (now t : ℕ) → AreParams s.params → WaitsAnew s now t → now < t
anew_later s now t params anew =
    let positive = lapse_positive s.params params anew.on in
    let moment = anew.moment in
    omega arith

-- a timer runs as it did, or is due after now
abbrev Runs : ℕ → Option ℕ → Option ℕ → Type 0
Runs now before after = (t : ℕ) → after ≡ Some t → (before ≡ Some t) ⊎ (now < t)

same_runs : (now : ℕ) (o : Option ℕ) → Runs now o o
same_runs now o t is = inl is

begins : (now span : ℕ) (before : Option ℕ) → 1 ≤ span → Runs now before (Some (now + span))
begins now span before positive t is = inr (let same = same_Some (now + span) t is in omega arith)

stops : (now : ℕ) (before : Option ℕ) → Runs now before None
stops now before t is = absurd (none-some t is)

record PartRuns (now : ℕ) (x x' : Part) : Type 0 where
  pub pdelay : Runs now x.pdelay x'.pdelay
  pub respond : Runs now x.respond x'.respond

part_stays : (now : ℕ) (x : Part) → PartRuns now x x
part_stays now x = record { pdelay = same_runs now x.pdelay; respond = same_runs now x.respond }

module _ (s : SystemState) (params : AreParams s.params) (now : ℕ) where
  asked_runs : (step : PeerState → PeerState) (x : Part) → PartRuns now x (part_asked s now step x)
  asked_runs step x = record {
    pdelay = begins now (interval_of s.params.pdelay) x.pdelay (interval_positive s.params.pdelay params.pdelay);
    respond = same_runs now x.respond;
  }

  heard_runs : (m : Message) (x : Part) → PartRuns now x (part_heard s now m x)
  heard_runs (messages.PdelayReq head) x = record {
    pdelay = same_runs now x.pdelay;
    respond = begins now s.params.turnaround x.respond params.turnaround-least;
  }
  heard_runs (messages.PdelayResp m) x = record { pdelay = same_runs now x.pdelay; respond = same_runs now x.respond }
  heard_runs (messages.PdelayRespFollowUp m) x =
      record { pdelay = same_runs now x.pdelay; respond = same_runs now x.respond }
  heard_runs (messages.Sync head) x = part_stays now x
  heard_runs (messages.FollowUp m) x = part_stays now x
  heard_runs (messages.Announce a) x = part_stays now x

  only_runs : (p n : ℕ) (f : Part → Part) (x x' : Part) → PartRuns now x (f x) → x' ≡ only_at p f n x
      → PartRuns now x x'
  only_runs p n f x x' runs is = subst (PartRuns now x) (sym is) (go (n == p))
    where
      go : (b : Bool) → PartRuns now x (if b then f x else x)
      go true = runs
      go false = part_stays now x

  still_runs : (x x' : Part) → x' ≡ x → PartRuns now x x'
  still_runs x x' is = subst (PartRuns now x) (sym is) (part_stays now x)

  part_runs : (input : Input) (n : ℕ) (x x' : Part) → IsPartAfter s now input n x x' → PartRuns now x x'
  part_runs (PortUp p) n x x' is = only_runs p n (part_asked s now reset_peer) x x' (asked_runs reset_peer x) is
  part_runs (PortDown p) n x x' is =
      only_runs p n part_down x x' (record { pdelay = stops now x.pdelay; respond = stops now x.respond }) is
  part_runs (Frame p octets) n x x' (inl (m, reads, is)) = only_runs p n (part_heard s now m) x x' (heard_runs m x) is
  part_runs (Frame p octets) n x x' (inr (none, is)) = still_runs x x' is
  part_runs (Expires (timers.Pdelay p)) n x x' is =
      only_runs p n (part_asked s now after_interval) x x' (asked_runs after_interval x) is
  part_runs (Expires (timers.Respond p)) n x x' is =
      only_runs p n part_answered x x' (record { pdelay = same_runs now x.pdelay; respond = stops now x.respond }) is
  part_runs (Expires (timers.Announce p)) n x x' is = still_runs x x' is
  part_runs (Expires (timers.Age p)) n x x' is = still_runs x x' is
  part_runs (Expires timers.Sync) n x x' is = still_runs x x' is
  part_runs (Expires timers.Relay) n x x' is = still_runs x x' is
  part_runs (Expires timers.Lapse) n x x' is = still_runs x x' is
  part_runs (Priority value) n x x' is = still_runs x x' is

held_stands : (hs : List Held) (i : ℕ) (h : Held) → option_map_or (λ x. x) (slice_get hs i) helds.Disabled ≡ h
    → h ≢ helds.Disabled
    → slice_get hs i ≡ Some h
held_stands hs i h is on = go (slice_get hs i) is
  where
    go : (o : Option Held) → option_map_or (λ x. x) o helds.Disabled ≡ h → o ≡ Some h
    go None e = absurd (on (sym e))
    go (Some g) e = ap (λ x. Some x) e

-- a port that announces is Mine
pub mine_due : (q : Port) (h : Held) (u : ℕ) → announce_due q h ≡ Some u → (is_mine h ≡ true) × (q.announce ≡ u)
mine_due q helds.Disabled u e = absurd (none-some u e)
mine_due q helds.Aged u e = absurd (none-some u e)
mine_due q (helds.Received r) u e = absurd (none-some u e)
mine_due q (helds.Mine root steps) u e = (refl, same_Some q.announce u e)

-- the Announce timer and the Age timer of one port, by what it holds
port_runs : (s s' : SystemState) (touch : Touch) (now : ℕ) (sends : List Sending) (i : ℕ) (h' : Held) (q' : Port)
    → Keeps s s' → AreParams s.params → IsLog s.largest
    → ((q : Port) → slice_get s.ports i ≡ Some q → IsLog q.log_interval)
    → PlaceReacts s touch now s' sends i h' q'
    → (t : ℕ)
    → (announce_due q' h' ≡ Some t → (due (timers.Announce (suc i)) s ≡ Some t) ⊎ (now < t))
    × (age_due s'.params s'.largest h' ≡ Some t → (due (timers.Age (suc i)) s ≡ Some t) ⊎ (now < t))
port_runs s s' touch now sends i h' q' kept params largest logs r t = (announces, ages)
  where
    middle : IsMid now r.held r.reacts.mid
    middle = mid_is (clock s) (suc i) touch now r.held r.reacts.mid r.reacts.before

    positive : 1 ≤ interval_of r.port.log_interval
    positive = interval_positive r.port.log_interval (logs r.port r.port_there)

    was_due : (g : Port → Held → Option ℕ) → g r.port r.held ≡ Some t
        → option_and_then (λ q. g q (option_map_or (λ x. x) (slice_get s.held i) helds.Disabled))
        (slice_get s.ports i) ≡ Some t
    was_due g e = rw (r.held_there, r.port_there) e

    due_mine : (q : Port) (h : Held) (u : ℕ) → is_mine h ≡ true → q.announce ≡ u → announce_due q h ≡ Some u
    due_mine q helds.Disabled u e is = absurd cc
    due_mine q helds.Aged u e is = absurd cc
    due_mine q (helds.Received r) u e is = absurd cc
    due_mine q (helds.Mine root steps) u e is = ap (λ x. Some x) is

    announces : announce_due q' h' ≡ Some t → (due (timers.Announce (suc i)) s ≡ Some t) ⊎ (now < t)
    announces e = by r.reacts.after
      where
        by : PortEnds (clock s) (suc i) now s'.root s'.steps r.reacts.mid h' r.port q' sends
            → (due (timers.Announce (suc i)) s ≡ Some t) ⊎ (now < t)
        by (inl (same, still)) =
            absurd (let both = sym (ap is_mine same ∙ kept_other r.reacts.mid still) ∙ (mine_due q' h' t e).0 in cc)
        by (inr m) = timed m.timing
          where
            timed : ((r.reacts.mid ≡ helds.Mine s'.root s'.steps) × (q'.announce ≡ r.port.announce)) ⊎ PortAnnounces
                (suc i) now r.port q' sends
                → (due (timers.Announce (suc i)) s ≡ Some t) ⊎ (now < t)
            timed (inl (mine, same)) =
                let before : is_mine r.held ≡ true =
                ap is_mine (sym (mid_mine now r.held r.reacts.mid middle (ap is_mine mine))) ∙ ap is_mine mine in
                inl (was_due announce_due (due_mine r.port r.held t before (sym same ∙ (mine_due q' h' t e).1)))
            timed (inr told) =
                let new : t ≡ now + interval_of r.port.log_interval = sym (mine_due q' h' t e).1 ∙ told.timer in
                let p = positive in
                inr (omega arith)

    ages : age_due s'.params s'.largest h' ≡ Some t → (due (timers.Age (suc i)) s ≡ Some t) ⊎ (now < t)
    ages e = by (received h') refl e
      where
        span : Reception → ℕ
        span reception = span_by s.params.timeout s.largest reception.interval

        same_span : (reception : Reception) → span_by s'.params.timeout s'.largest reception.interval ≡ span reception
        same_span reception = rw (kept.params, kept.largest) refl

        old_due : (reception : Reception) → received r.held ≡ Some reception → reception.at + span reception ≡ t
            → age_due s.params s.largest r.held ≡ Some t
        old_due reception got is = rw got (ap (λ x. Some x) is)

        later : (reception : Reception) → reception.at + span reception ≡ t → reception.at ≡ now → now < t
        later reception is new =
            let long =
            (span_within s.params.timeout s.largest reception.interval params.timeout-least params.timeout largest).0 in
            omega arith

        by : (o : Option Reception) → received h' ≡ o
            → option_map (λ (x : Reception). x.at + span_by s'.params.timeout s'.largest x.interval) o ≡ Some t
            → (due (timers.Age (suc i)) s ≡ Some t) ⊎ (now < t)
        by None got is = absurd (none-some t is)
        by (Some reception) got is = ends r.reacts.after
          where
            sum : reception.at + span reception ≡ t
            sum = ap (λ x. reception.at + x) (sym (same_span reception))
                ∙ same_Some (reception.at + span_by s'.params.timeout s'.largest reception.interval) t is

            earlier_or_now : (received r.held ≡ Some reception) ⊎ (reception.at ≡ now)
                → (due (timers.Age (suc i)) s ≡ Some t) ⊎ (now < t)
            earlier_or_now (inl earlier) =
                inl (was_due (λ q h. age_due s.params s.largest h) (old_due reception earlier sum))
            earlier_or_now (inr new) = inr (later reception sum new)

            ends : PortEnds (clock s) (suc i) now s'.root s'.steps r.reacts.mid h' r.port q' sends
                → (due (timers.Age (suc i)) s ≡ Some t) ⊎ (now < t)
            ends (inl (same, still)) =
                earlier_or_now (mid_received now r.held r.reacts.mid reception middle (sym (ap received same) ∙ got))
            ends (inr m) = absurd (none-some reception (sym (ap received m.mine) ∙ got))

-- what stands in both lists at the number of a port
pub at_number : {X : Type 0} (f : Port → Option X) (qs : List Port) (p : ℕ) (x : X)
    → option_and_then f (number qs p) ≡ Some x
    → (i : ℕ) × (q : Port) × (p ≡ suc i) × (slice_get qs i ≡ Some q) × (f q ≡ Some x)
at_number f qs zero x is = absurd (none-some x is)
at_number {X} f qs (suc i) x is = go (slice_get qs i) refl is
  where
    go : (o : Option Port) → slice_get qs i ≡ o → option_and_then f o ≡ Some x
        → (j : ℕ) × (q : Port) × (suc i ≡ suc j) × (slice_get qs j ≡ Some q) × (f q ≡ Some x)
    go None there e = absurd (none-some x e)
    go (Some q) there e = (i, q, refl, there, e)

-- a port that announces or ages holds something
announce_on : (q : Port) (h : Held) (t : ℕ) → announce_due q h ≡ Some t → h ≢ helds.Disabled
announce_on q h t is e = none-some t (ap (announce_due q) (sym e) ∙ is)

age_on : (params : Params) (largest : ℤ) (h : Held) (t : ℕ) → age_due params largest h ≡ Some t → h ≢ helds.Disabled
age_on params largest h t is e = none-some t (ap (age_due params largest) (sym e) ∙ is)

pub started_later : (input : Input) (now : ℕ) (s s' : SystemState) (sends : List Sending) (answer : Answer)
    → AreParams s.params → IsLog s.largest
    → ((i : ℕ) (q : Port) → slice_get s.ports i ≡ Some q → IsLog q.log_interval) → IsTimely s now input
    → AreShown s → IsAtRest s → Steps input now s s' sends answer
    → (timer : Timer) (t : ℕ) → due timer s' ≡ Some t → (due timer s ≡ Some t) ⊎ (now < t)
started_later input now s s' sends answer params largest logs calm shown rest step = go
  where
    reacts : Answers (IsSeenAs s input) s now s' sends
    reacts = steps_react input now s s' sends answer calm shown rest step

    runs : RunsOn s now s'
    runs = steps_run_on input now s s' sends answer step

    kept : Keeps s s'
    kept = (steps_sound input now s s' sends answer step).kept

    measured : MeasuresAtEachPlace s now input s'
    measured = steps_measure input now s s' sends answer step

    at_place : (i : ℕ) (h' : Held) (q' : Port) → slice_get s'.held i ≡ Some h' → slice_get s'.ports i ≡ Some q'
        → (t : ℕ)
        → (announce_due q' h' ≡ Some t → (due (timers.Announce (suc i)) s ≡ Some t) ⊎ (now < t))
        × (age_due s'.params s'.largest h' ≡ Some t → (due (timers.Age (suc i)) s ≡ Some t) ⊎ (now < t))
    at_place i h' q' stands there t =
        port_runs s s' reacts.touch now sends i h' q' kept params largest (logs i)
        (reacts.reacts.ports i h' q' stands there) t

    sync : (t : ℕ) → Some s'.sync ≡ Some t → (s'.sync ≡ s.sync) ⊎ (s'.sync ≡ now + interval_of s.params.sync)
        → (due timers.Sync s ≡ Some t) ⊎ (now < t)
    sync t is (inl same) = inl (ap (λ x. Some x) (sym same) ∙ is)
    sync t is (inr new) =
        let positive = interval_positive s.params.sync params.sync in
        let same : s'.sync ≡ t = same_Some s'.sync t is in
        inr (omega arith)

    relay : (t : ℕ) → (s.relay ≡ Some t) ⊎ (t ≡ now + s.params.residence) → (due timers.Relay s ≡ Some t) ⊎ (now < t)
    relay t (inl before) = inl before
    relay t (inr new) = let positive = params.residence-least in inr (omega arith)

    lapse : (t : ℕ) → LapseRunsOn s s' t ⊎ WaitsAnew s now t → (due timers.Lapse s ≡ Some t) ⊎ (now < t)
    lapse t (inl on) = inl on.before
    lapse t (inr anew) = inr (anew_later s now t params anew)

    go : (timer : Timer) (t : ℕ) → due timer s' ≡ Some t → (due timer s ≡ Some t) ⊎ (now < t)
    go timers.Sync t is = sync t is runs.sync
    go timers.Relay t is = relay t (runs.relay t is)
    go timers.Lapse t is = lapse t (runs.lapse t is)
    go (timers.Announce p) t is =
        let (i, q', number_is, there, e) = at_number (λ q. announce_due q (held_at s' p)) s'.ports p t is in
        let stands =
        held_stands s'.held i (held_at s' p) (ap (held_at s') (sym number_is))
        (announce_on q' (held_at s' p) t e) in
        subst (λ n. (due (timers.Announce n) s ≡ Some t) ⊎ (now < t)) (sym number_is)
        ((at_place i (held_at s' p) q' stands there t).0 e)
    go (timers.Age p) t is =
        let ages : Port → Option ℕ = λ q. age_due s'.params s'.largest (held_at s' p) in
        let (i, q', number_is, there, e) = at_number ages s'.ports p t is in
        let stands =
        held_stands s'.held i (held_at s' p) (ap (held_at s') (sym number_is))
        (age_on s'.params s'.largest (held_at s' p) t e) in
        subst (λ n. (due (timers.Age n) s ≡ Some t) ⊎ (now < t)) (sym number_is)
        ((at_place i (held_at s' p) q' stands there t).1 e)
    go (timers.Pdelay p) t is =
        let (i, q', number_is, there, e) = at_number (λ (q : Port). q.pdelay) s'.ports p t is in
        let (q, was, after) = measured i q' there in
        subst (λ n. (due (timers.Pdelay n) s ≡ Some t) ⊎ (now < t)) (sym number_is)
        (rw was ((part_runs s params now input (suc i) (measure_at q) (measure_at q') after).pdelay t e))
    go (timers.Respond p) t is =
        let (i, q', number_is, there, e) = at_number (λ (q : Port). q.respond) s'.ports p t is in
        let (q, was, after) = measured i q' there in
        subst (λ n. (due (timers.Respond n) s ≡ Some t) ⊎ (now < t)) (sym number_is)
        (rw was ((part_runs s params now input (suc i) (measure_at q) (measure_at q') after).respond t e))

-- ---- a timer that ran out

-- a port that announced does so one interval later
announced_later : (p now : ℕ) (s : SystemState) (i : ℕ) (q' : Port) (t : ℕ)
    → ((i : ℕ) (q : Port) → slice_get s.ports i ≡ Some q → IsLog q.log_interval)
    → p ≡ suc i → slice_get (announced_at p now s).ports i ≡ Some q' → q'.announce ≡ t → now < t
announced_later p now s i q' t logs here there is = go (change-get (announced_again now) p s.ports i q' there)
  where
    go : Changed (announced_again now) (p ≡ suc i) s.ports i q' → now < t
    go (q, was, inl (same, new)) =
        let positive = interval_positive q.log_interval (logs i q was) in
        let sum : now + interval_of q.log_interval ≡ t = sym (ap (λ (x : Port). x.announce) new) ∙ is in
        omega arith
    go (q, was, inr (elsewhere, old)) = absurd (elsewhere here)

-- what grew too old is received no more
aged_off : (s s' : SystemState) (touch : Touch) (p now : ℕ) (sends : List Sending) (i : ℕ) (h' : Held) (q' : Port)
    → touch ≡ Grow p → p ≡ suc i → PlaceReacts s touch now s' sends i h' q' → received h' ≡ None
aged_off s s' touch p now sends i h' q' grows here r = ends r.reacts.after
  where
    aged : PortHoldsInTouch (clock s) (suc i) (Grow p) now r.held r.reacts.mid → received r.reacts.mid ≡ None
    aged (inl (same, is)) = ap received is
    aged (inr (elsewhere, is)) = absurd (elsewhere (sym here))

    ends : PortEnds (clock s) (suc i) now s'.root s'.steps r.reacts.mid h' r.port q' sends → received h' ≡ None
    ends (inl (same, still)) =
        ap received same
        ∙ aged (subst (λ x. PortHoldsInTouch (clock s) (suc i) x now r.held r.reacts.mid) grows r.reacts.before)
    ends (inr m) = ap received m.mine

-- what becomes of the part of a port
only_here : (p n : ℕ) (f : Part → Part) (x x' : Part) → p ≡ n → x' ≡ only_at p f n x → x' ≡ f x
only_here p n f x x' here is = let same : (n == p) ≡ true = grind (arith, nat_tests) in is ∙ rw same refl

-- the timers of the system
sync_restarts : (b : Bool) (now : ℕ) (s s' : SystemState) (sends : List Sending) → SyncsIf b now s s' sends
    → s'.sync ≡ now + interval_of s.params.sync
sync_restarts true now s s' sends k = ap (λ (x : SystemState). x.sync) k.state
sync_restarts false now s s' sends k = ap (λ (x : SystemState). x.sync) k.state

relay_stops_by : (b : Bool) (info : SyncInfo) (now : ℕ) (s s' : SystemState) (sends : List Sending)
    → RelaysBy b info now s s' sends → s'.relay ≡ None
relay_stops_by true info now s s' sends k = ap (λ (x : SystemState). x.relay) k.state
relay_stops_by false info now s s' sends (inl k) = ap (λ (x : SystemState). x.relay) k.state
relay_stops_by false info now s s' sends (inr k) = ap (λ (x : SystemState). x.relay) k.becomes.state

relay_stops : (known : Option SyncInfo) (now : ℕ) (s s' : SystemState) (sends : List Sending)
    → RelaysIf known now s s' sends → s'.relay ≡ None
relay_stops None now s s' sends k = ap (λ (x : SystemState). x.relay) k.state
relay_stops (Some info) now s s' sends k = relay_stops_by (has_sync_timeout s.params) info now s s' sends k

pub ran_out_later : (timer : Timer) (now : ℕ) (s s' : SystemState) (sends : List Sending) (answer : Answer)
    → AreParams s.params
    → ((i : ℕ) (q : Port) → slice_get s.ports i ≡ Some q → IsLog q.log_interval)
    → IsTimely s now (Expires timer) → AreShown s → IsAtRest s → Steps (Expires timer) now s s' sends answer
    → (t : ℕ) → due timer s' ≡ Some t → now < t
ran_out_later (timers.Announce p) now s s' sends answer params logs timely shown rest k t is =
    let (i, q', here, there, e) = at_number (λ q. announce_due q (held_at s' p)) s'.ports p t is in
    announced_later p now s i q' t logs here (subst (λ (x : SystemState). slice_get x.ports i ≡ Some q') k.state there)
    (mine_due q' (held_at s' p) t e).1
ran_out_later (timers.Age p) now s s' sends answer params logs timely shown rest k t is =
    let ages : Port → Option ℕ = λ q. age_due s'.params s'.largest (held_at s' p) in
    let (i, q', here, there, e) = at_number ages s'.ports p t is in
    let stands =
    held_stands s'.held i (held_at s' p) (ap (held_at s') (sym here))
    (age_on s'.params s'.largest (held_at s' p) t e) in
    let reacts : Answers (IsSeenAs s (Expires (timers.Age p))) s now s' sends =
    steps_react (Expires (timers.Age p)) now s s' sends answer timely shown rest k in
    let none : received (held_at s' p) ≡ None =
    aged_off s s' reacts.touch p now sends i (held_at s' p) q' reacts.seen here
    (reacts.reacts.ports i (held_at s' p) q' stands there) in
    let end : Reception → ℕ = λ r. r.at + span_by s'.params.timeout s'.largest r.interval in
    absurd (none-some t (sym (ap (option_map end) none) ∙ e))
ran_out_later (timers.Pdelay p) now s s' sends answer params logs timely shown rest k t is =
    let (i, q', here, there, e) = at_number (λ (q : Port). q.pdelay) s'.ports p t is in
    let (q, was, after) = steps_measure (Expires (timers.Pdelay p)) now s s' sends answer k i q' there in
    let new : measure_at q' ≡ part_asked s now after_interval (measure_at q) =
    only_here p (suc i) (part_asked s now after_interval) (measure_at q) (measure_at q') here after in
    let positive = interval_positive s.params.pdelay params.pdelay in
    let sum : now + interval_of s.params.pdelay ≡ t =
    same_Some (now + interval_of s.params.pdelay) t (sym (ap (λ (x : Part). x.pdelay) new) ∙ e) in
    omega arith
ran_out_later (timers.Respond p) now s s' sends answer params logs timely shown rest k t is =
    let (i, q', here, there, e) = at_number (λ (q : Port). q.respond) s'.ports p t is in
    let (q, was, after) = steps_measure (Expires (timers.Respond p)) now s s' sends answer k i q' there in
    let new : measure_at q' ≡ part_answered (measure_at q) =
    only_here p (suc i) part_answered (measure_at q) (measure_at q') here after in
    absurd (none-some t (sym (ap (λ (x : Part). x.respond) new) ∙ e))
ran_out_later timers.Sync now s s' sends answer params logs timely shown rest k t is =
    let positive = interval_positive s.params.sync params.sync in
    let sum : now + interval_of s.params.sync ≡ t =
    sym (sync_restarts (is_leading s) now s s' sends k) ∙ same_Some s'.sync t is in
    omega arith
ran_out_later timers.Relay now s s' sends answer params logs timely shown rest k t is =
    absurd (none-some t (sym (relay_stops s.known now s s' sends k) ∙ is))
ran_out_later timers.Lapse now s s' sends answer params logs timely shown rest k t is =
    by (lapse_chosen k.vector now (lapsed s) t (sym (ap (λ (x : SystemState). x.lapse) k.state) ∙ is))
  where
    by : ((follows_on k.vector (lapsed s) ≡ true) × (None ≡ Some t)) ⊎ WaitsAnew (lapsed s) now t → now < t
    by (inl (same, before)) = absurd (none-some t before)
    by (inr anew) = anew_later (lapsed s) now t params anew
