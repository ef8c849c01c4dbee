-- Every step leaves the timers of a system in time.
use Rattle.std.proofs.Common.{◌≡◌, ◌⊎◌, ◌≤◌, ℕ, suc, ◌+◌, Bool, true, false, List, Some, None, slice_get, refl, sym, ap, subst, ◌∙◌, inl, inr, arith}
use Rattle.std.specs.Prelude.{if◌then◌else◌, ◌==◌}
use Rattle.std.proofs.lemmas.Option.{none-some, same_Some}
use Rattle.gptp_messages.specs.declared.message.Message.{Message}
use Rattle.gptp_messages.specs.declared.message.Message.TheVariants as messages
use Rattle.gptp_vector.specs.declared.port.PortId.{PortId}
use Rattle.gptp_receipt.specs.declared.held.Held.{Held}
use Rattle.gptp_receipt.specs.declared.held.Held.TheVariants as helds
use Rattle.gptp_receipt.specs.declared.held.Heard.{Heard}
use Rattle.gptp_receipt.specs.declared.held.Heard.TheVariants as heards
use Rattle.gptp_receipt.specs.declared.held.Reception.{Reception}
use Rattle.gptp_receipt.specs.Held.{comparison, held_after, received, reception}
use Rattle.gptp_pdelay.specs.Peer.{PeerState, after_interval, reset_peer}
use Rattle.gptp_system.specs.declared.answer.Answer.{Answer}
use Rattle.gptp_system.specs.declared.port.Port.{Port}
use Rattle.gptp_system.specs.declared.sending.Sending.{Sending}
use Rattle.gptp_setup.specs.declared.timer.Timer.TheVariants as timers
use Rattle.gptp_setup.specs.Intervals.{interval_of}
use Rattle.gptp_setup.specs.SettlingParams.{lapse_span}
use Rattle.gptp_system.specs.State.{SystemState, clock, is_mine}
use Rattle.gptp_system.specs.Input.{Input, IsTimely, Steps, PortUp, PortDown, Frame, Expires, Priority}
use Rattle.gptp_system.specs.Facts.{AreShown, IsAtRest, Keeps}
use Rattle.gptp_system.specs.Touch.{Touch, Hear, Tick, Grow, Enable, Disable, Other, IsSeenAs, PortHoldsInTouch}
use Rattle.gptp_system.specs.Reacts.{HoldsOrIsDisabled, PlaceReacts, PortEnds, PortAnnounces}
use Rattle.gptp_system.specs.Measures.{IsPartAfter, Part, only_at, part_answered, part_asked, part_down, part_heard, measure_at}
use Rattle.gptp_system.specs.Times.{IsInTime, IsPortInTime, RunsOn, LapseRunsOn, WaitsAnew}
use Rattle.gptp_system.proofs.AnswerLemmas.{steps_react}
use Rattle.gptp_system.proofs.ReactLemmas.{Answers}
use Rattle.gptp_system.proofs.MeasureLemmas.{steps_measure}
use Rattle.gptp_system.proofs.StepLemmas.{steps_sound}
use Rattle.gptp_system.proofs.TimeLemmas.{steps_run_on}

-- ---- what a touch can leave a port with

-- what it held, nothing that was received or is Mine, or what it received now
abbrev pub IsMid : ℕ → Held → Held → Type 0
IsMid now h mid =
    (mid ≡ h) ⊎ (((received mid ≡ None) × (is_mine mid ≡ false))
    ⊎ ((r : Reception) × (mid ≡ helds.Received r) × (r.at ≡ now)))

neither : (now : ℕ) (h mid g : Held) → received g ≡ None → is_mine g ≡ false → mid ≡ g → IsMid now h mid
neither now h mid g none other is = inr (inl (ap received is ∙ none, ap is_mine is ∙ other))

heard_is : (heard : Heard) (now : ℕ) (h mid : Held) (r : Reception) → r.at ≡ now → mid ≡ held_after heard h r
    → IsMid now h mid
heard_is heards.Superior now h mid r at is = inr (inr (r, is, at))
heard_is heards.Repeated now h mid r at is = inr (inr (r, is, at))
heard_is heards.Inferior now h mid r at is = inl is

pub mid_is : (c n : ℕ) (touch : Touch) (now : ℕ) (h mid : Held) → PortHoldsInTouch c n touch now h mid → IsMid now h mid
mid_is c n (Hear p a) now h mid (inl (here, on, inl (qualified, is))) =
    let own : PortId = record { clock = c; port = n } in
    heard_is (comparison h own a) now h mid (reception a own now) refl is
mid_is c n (Hear p a) now h mid (inl (here, on, inr (unqualified, is))) = inl is
mid_is c n (Hear p a) now h mid (inr (elsewhere, is)) = inl is
mid_is c n (Tick p) now h mid is = inl is
mid_is c n (Grow p) now h mid (inl (here, is)) = neither now h mid helds.Aged refl refl is
mid_is c n (Grow p) now h mid (inr (elsewhere, is)) = inl is
mid_is c n (Enable p) now h mid (inl (here, off, is)) = neither now h mid helds.Aged refl refl is
mid_is c n (Enable p) now h mid (inr (elsewhere, is)) = inl is
mid_is c n (Disable p) now h mid (inl (here, is)) = neither now h mid helds.Disabled refl refl is
mid_is c n (Disable p) now h mid (inr (elsewhere, is)) = inl is
mid_is c n Other now h mid is = inl is

heard_other : (r : Reception) → is_mine (helds.Received r) ≡ false
heard_other r = refl

-- a port that is Mine after the touch was so before
pub mid_mine : (now : ℕ) (h mid : Held) → IsMid now h mid → is_mine mid ≡ true → mid ≡ h
mid_mine now h mid (inl same) mine = same
mid_mine now h mid (inr (inl (none, other))) mine = absurd (let both = sym other ∙ mine in cc)
mid_mine now h mid (inr (inr (r, is, at))) mine = absurd (let both = sym (ap is_mine is ∙ heard_other r) ∙ mine in cc)

-- what a port has received after the touch it had received, or received now
pub mid_received : (now : ℕ) (h mid : Held) (r : Reception) → IsMid now h mid → received mid ≡ Some r
    → (received h ≡ Some r) ⊎ (r.at ≡ now)
mid_received now h mid r (inl same) got = inl (sym (ap received same) ∙ got)
mid_received now h mid r (inr (inl (none, other))) got = absurd (none-some r (sym none ∙ got))
mid_received now h mid r (inr (inr (x, is, at))) got =
    inr (sym (ap (λ (y : Reception). y.at) (same_Some x r (sym (ap received is) ∙ got))) ∙ at)

pub kept_other : (h : Held) → HoldsOrIsDisabled h → is_mine h ≡ false
kept_other helds.Disabled k = refl
kept_other helds.Aged k = refl
kept_other (helds.Received r) k = refl
kept_other (helds.Mine root steps) (inl off) = absurd cc
kept_other (helds.Mine root steps) (inr (r, got)) = absurd (none-some r got)

-- ---- the measuring

pub record PartInTime (s : SystemState) (now : ℕ) (x : Part) : Type 0 where
  pub pdelay : (t : ℕ) → x.pdelay ≡ Some t → t ≤ now + interval_of s.params.pdelay
  pub respond : (t : ℕ) → x.respond ≡ Some t → t ≤ now + s.params.turnaround

exactly : (u t : ℕ) → Some u ≡ Some t → t ≤ u
exactly u t is = let same = same_Some u t is in omega arith

asked_in_time : (s : SystemState) (now : ℕ) (step : PeerState → PeerState) (x : Part) → PartInTime s now x
    → PartInTime s now (part_asked s now step x)
asked_in_time s now step x k =
    record { pdelay = λ t is. exactly (now + interval_of s.params.pdelay) t is; respond = k.respond }

down_in_time : (s : SystemState) (now : ℕ) (x : Part) → PartInTime s now (part_down x)
down_in_time s now x = record { pdelay = λ t is. absurd (none-some t is); respond = λ t is. absurd (none-some t is) }

answered_in_time : (s : SystemState) (now : ℕ) (x : Part) → PartInTime s now x → PartInTime s now (part_answered x)
answered_in_time s now x k = record { pdelay = k.pdelay; respond = λ t is. absurd (none-some t is) }

heard_in_time : (s : SystemState) (now : ℕ) (m : Message) (x : Part) → PartInTime s now x
    → PartInTime s now (part_heard s now m x)
heard_in_time s now (messages.PdelayReq head) x k =
    record { pdelay = k.pdelay; respond = λ t is. exactly (now + s.params.turnaround) t is }
heard_in_time s now (messages.PdelayResp m) x k = record { pdelay = k.pdelay; respond = k.respond }
heard_in_time s now (messages.PdelayRespFollowUp m) x k = record { pdelay = k.pdelay; respond = k.respond }
heard_in_time s now (messages.Sync head) x k = k
heard_in_time s now (messages.FollowUp m) x k = k
heard_in_time s now (messages.Announce a) x k = k

only_in_time : (s : SystemState) (now p n : ℕ) (f : Part → Part) (x x' : Part) → PartInTime s now x
    → PartInTime s now (f x)
    → x' ≡ only_at p f n x → PartInTime s now x'
only_in_time s now p n f x x' before after is = subst (PartInTime s now) (sym is) (go (n == p))
  where
    go : (b : Bool) → PartInTime s now (if b then f x else x)
    go true = after
    go false = before

same_in_time : (s : SystemState) (now : ℕ) (x x' : Part) → PartInTime s now x → x' ≡ x → PartInTime s now x'
same_in_time s now x x' k is = subst (PartInTime s now) (sym is) k

part_in_time : (s : SystemState) (now : ℕ) (input : Input) (n : ℕ) (x x' : Part) → PartInTime s now x
    → IsPartAfter s now input n x x'
    → PartInTime s now x'
part_in_time s now (PortUp p) n x x' k is =
    only_in_time s now p n (part_asked s now reset_peer) x x' k (asked_in_time s now reset_peer x k) is
part_in_time s now (PortDown p) n x x' k is = only_in_time s now p n part_down x x' k (down_in_time s now x) is
part_in_time s now (Frame p octets) n x x' k (inl (m, reads, is)) =
    only_in_time s now p n (part_heard s now m) x x' k (heard_in_time s now m x k) is
part_in_time s now (Frame p octets) n x x' k (inr (none, is)) = same_in_time s now x x' k is
part_in_time s now (Expires (timers.Pdelay p)) n x x' k is =
    only_in_time s now p n (part_asked s now after_interval) x x' k (asked_in_time s now after_interval x k) is
part_in_time s now (Expires (timers.Respond p)) n x x' k is =
    only_in_time s now p n part_answered x x' k (answered_in_time s now x k) is
part_in_time s now (Expires (timers.Announce p)) n x x' k is = same_in_time s now x x' k is
part_in_time s now (Expires (timers.Age p)) n x x' k is = same_in_time s now x x' k is
part_in_time s now (Expires timers.Sync) n x x' k is = same_in_time s now x x' k is
part_in_time s now (Expires timers.Relay) n x x' k is = same_in_time s now x x' k is
part_in_time s now (Expires timers.Lapse) n x x' k is = same_in_time s now x x' k is
part_in_time s now (Priority value) n x x' k is = same_in_time s now x x' k is

-- ---- all steps

pub stays_in_time : (input : Input) (now : ℕ) (s s' : SystemState) (sends : List Sending) (answer : Answer)
    → IsTimely s now input
    → AreShown s → IsAtRest s → IsInTime s now → Steps input now s s' sends answer → IsInTime s' now
stays_in_time input now s s' sends answer calm shown rest k step = record {
  each =
      λ i h' q' stands there. place i h' q' (reacts.reacts.ports i h' q' stands there)
      (steps_measure input now s s' sends answer step i q' there);
  sync = go runs.sync;
  relay = λ t is. relay t (runs.relay t is);
  lapse = λ t is. lapse t (runs.lapse t is);
}
  where
    reacts : Answers (IsSeenAs s input) s now s' sends
    reacts = steps_react input now s s' sends answer calm shown rest step

    runs : RunsOn s now s'
    runs = steps_run_on input now s s' sends answer step

    kept : Keeps s s'
    kept = (steps_sound input now s s' sends answer step).kept

    go : (s'.sync ≡ s.sync) ⊎ (s'.sync ≡ now + interval_of s.params.sync) → s'.sync ≤ now + interval_of s'.params.sync
    go (inl same) = rw (same, kept.params) k.sync
    go (inr new) =
        rw (new, kept.params) (exactly (now + interval_of s.params.sync) (now + interval_of s.params.sync) refl)

    relay : (t : ℕ) → (s.relay ≡ Some t) ⊎ (t ≡ now + s.params.residence) → t ≤ now + s'.params.residence
    relay t (inl before) = rw kept.params (k.relay t before)
    relay t (inr new) = rw (kept.params, new) (exactly (now + s.params.residence) (now + s.params.residence) refl)

    lapse : (t : ℕ) → LapseRunsOn s s' t ⊎ WaitsAnew s now t → t ≤ now + lapse_span s'.params
    lapse t (inl on) = rw kept.params (k.lapse t on.before)
    lapse t (inr anew) =
        rw (kept.params, anew.moment) (exactly (now + lapse_span s.params) (now + lapse_span s.params) refl)

    place : (i : ℕ) (h' : Held) (q' : Port) → PlaceReacts s reacts.touch now s' sends i h' q'
        → ((q : Port) × (slice_get s.ports i ≡ Some q) × IsPartAfter s now input (suc i) (measure_at q) (measure_at q'))
        → IsPortInTime s'.params now h' q'
    place i h' q' r (q, was, measured) = record {
      announce = λ mine. announce mine r.reacts.after;
      came = λ reception got. came reception got r.reacts.after;
      pdelay = rw kept.params part.pdelay;
      respond = rw kept.params part.respond;
    }
      where
        before : IsPortInTime s.params now r.held r.port
        before = k.each i r.held r.port r.held_there r.port_there

        old : IsPortInTime s.params now r.held q
        old = k.each i r.held q r.held_there was

        part : PartInTime s now (measure_at q')
        part =
            part_in_time s now input (suc i) (measure_at q) (measure_at q') (record {
              pdelay =
                  old.pdelay;
              respond = old.respond;
            }) measured

        middle : IsMid now r.held r.reacts.mid
        middle = mid_is (clock s) (suc i) reacts.touch now r.held r.reacts.mid r.reacts.before

        announce : is_mine h' ≡ true → PortEnds (clock s) (suc i) now s'.root s'.steps r.reacts.mid h' r.port q' sends
            → q'.announce ≤ now + interval_of q'.log_interval
        announce mine (inl (same, still)) =
            absurd (let both = sym (ap is_mine same ∙ kept_other r.reacts.mid still) ∙ mine in cc)
        announce mine (inr m) = timed m.timing
          where
            timed : ((r.reacts.mid ≡ helds.Mine s'.root s'.steps) × (q'.announce ≡ r.port.announce))
                ⊎ PortAnnounces (suc i) now r.port q' sends → q'.announce ≤ now + interval_of q'.log_interval
            timed (inl (was_mine, same)) =
                let held_mine : is_mine r.held ≡ true =
                ap is_mine (sym (mid_mine now r.held r.reacts.mid middle (ap is_mine was_mine)))
                ∙ ap is_mine was_mine in
                rw (same, r.reacts.log) (before.announce held_mine)
            timed (inr told) =
                rw (told.timer, r.reacts.log)
                (exactly (now + interval_of r.port.log_interval) (now + interval_of r.port.log_interval) refl)

        came : (reception : Reception) → received h' ≡ Some reception
            → PortEnds (clock s) (suc i) now s'.root s'.steps r.reacts.mid h' r.port q' sends → reception.at ≤ now
        came reception got (inl (same, still)) =
            by (mid_received now r.held r.reacts.mid reception middle (sym (ap received same) ∙ got))
          where
            by : (received r.held ≡ Some reception) ⊎ (reception.at ≡ now) → reception.at ≤ now
            by (inl earlier) = before.came reception earlier
            by (inr new) = omega arith
        came reception got (inr m) = absurd (none-some reception (sym (ap received m.mine) ∙ got))

-- and time that passes doesn't change that
pub later_in_time : (s : SystemState) (now t : ℕ) → now ≤ t → IsInTime s now → IsInTime s t
later_in_time s now t later k = record {
  each = λ i h q stands there.
      let e = k.each i h q stands there in
      record {
        announce = λ mine. let a = e.announce mine in omega arith;
        came = λ r got. let a = e.came r got in omega arith;
        pdelay = λ u is. let a = e.pdelay u is in omega arith;
        respond = λ u is. let a = e.respond u is in omega arith;
      };
  sync = let a = k.sync in omega arith;
  relay = λ u is. let a = k.relay u is in omega arith;
  lapse = λ u is. let a = k.lapse u is in omega arith;
}
