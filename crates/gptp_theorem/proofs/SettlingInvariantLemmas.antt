-- The world that a document leads to keeps what every world keeps.
use Rattle.std.proofs.Common.{◌≡◌, ◌+◌, ℕ, zero, suc, Bool, true, false, cond, List, [], ◌∷◌, Option, Some, nat_le, slice_get, refl, sym, subst, arith}
use Rattle.std.specs.List.{AllByRecursion}
use Rattle.std.proofs.lemmas.Option.{none-some, same_Some}
use Rattle.gptp_links.specs.declared.bounds.Bounds.{Bounds}
use Rattle.gptp_setup.specs.Intervals.{interval_of, IsMoment}
use Rattle.gptp_setup.specs.SettlingParams.{SettlingParams}
use Rattle.gptp_scenario.specs.declared.change.Timed.{Timed}
use Rattle.gptp_scenario.specs.Allowed.{IsFitAct}
use Rattle.gptp_model.specs.Advancing.{Advanced, Advances, Told}
use Rattle.gptp_scenario.specs.Network.{IsNetwork, pace_of, smallest_of}
use Rattle.gptp_scenario.proofs.LogLemmas.{smallest_log}
use Rattle.gptp_scenario.specs.Prompt.{DelayFitsInterval}
use Rattle.gptp_model.specs.Prompt.{NoneFaster}
use Rattle.gptp_model.specs.World.{WorldState}
use Rattle.gptp_model.proofs.AdvanceLemmas.{next_fits, nothing_sooner}
use Rattle.gptp_model.proofs.PromptLemmas.{begun_none_faster, next_prompt, prompt_within, stays_none_faster}
use Rattle.gptp_model.proofs.StayLemmas.{advanced_stays, done_stays}
use Rattle.gptp_world.proofs.SettlingInvariantLemmas.{next_octet, stopped_in_time}
use Rattle.gptp_world.proofs.InitialLemmas.{initial_sound}
use Rattle.gptp_network.specs.Document.{DocumentState}
use Rattle.gptp_network.specs.Events.{AreEvents, IsEvent}
use Rattle.gptp_network.specs.Snapshot.{events_by}
use Rattle.gptp_network.proofs.EventLemmas.{events_allowed, events_prompt}
use Rattle.gptp_report.specs.Run.{Goes, PlaysRun}
use Rattle.gptp_invariants.specs.WorldSettlingInvariant.{SettlingInvariant, KeepsAll}
use Rattle.gptp_invariants.specs.WorldEncodableLaws.{SetsAnOctet}
use Rattle.gptp_invariants.proofs.WorldClaimLemmas.{claim_begins, claim_kept, claim_later}
use Rattle.gptp_theorem.specs.PlayedLaws.{IsMade, IsPlayable}

-- ---- the events of a document

-- what is so of each of a list is so of the one at a place
pub each_there : {X : Type 0} (P : X → Type 0) (xs : List X) → AllByRecursion P xs → (place : ℕ) (x : X)
    → slice_get xs place ≡ Some x → P x
each_there P [] each place x there = absurd (none-some x there)
each_there P (y ∷ xs) each zero x there = subst P (same_Some y x there) each.0
each_there P (y ∷ xs) each (suc place) x there = each_there P xs each.1 place x there

-- what is so of each event is so of those up to a time
up_to : (P : Timed → Type 0) (until : ℕ) (events : List Timed)
    → ((place : ℕ) (timed : Timed) → slice_get events place ≡ Some timed → P timed)
    → AllByRecursion P (events_by until events)
up_to P until [] each = tt
up_to P until (event ∷ events) each =
    by (nat_le event.at until) (each zero event refl) (up_to P until events (λ place. each (suc place)))
  where
    by : (early : Bool) → P event → AllByRecursion P (events_by until events)
        → AllByRecursion P (cond early (event ∷ events_by until events) (events_by until events))
    by true one rest = (one, rest)
    by false one rest = rest

-- an event that can be made: it sets no link to a delay above this one, and no priority1 that is no octet
pub record IsFitEvent (most : ℕ) (timed : Timed) : Type 0 where
  pub moment : IsMoment timed.at
  pub fit : IsFitAct timed.act
  pub prompt : DelayFitsInterval most timed.act
  pub octet : SetsAnOctet timed.act

pub events_made : (d : DocumentState) (until : ℕ) → IsNetwork d.network → AreEvents d.network d.events
    → AllByRecursion IsMade (events_by until d.events)
events_made d until network are = up_to IsMade until d.events each
  where
    each : (place : ℕ) (timed : Timed) → slice_get d.events place ≡ Some timed → IsMade timed
    each place timed there =
        let event = each_there (IsEvent d.network) d.events are.each place timed there in
        let allowed =
        events_allowed d.network d.events (smallest_log d.network network) are place timed there in
        record { change = event.change; act = event.act; fit = allowed.fit }

-- the smallest announce interval of a document
abbrev pub least_of : DocumentState → ℕ
least_of d = interval_of (smallest_of d.network)

pub events_fit : (d : DocumentState) (until : ℕ) → IsPlayable d
    → AllByRecursion (IsFitEvent (least_of d)) (events_by until d.events)
events_fit d until is = up_to (IsFitEvent (least_of d)) until d.events each
  where
    each : (place : ℕ) (timed : Timed) → slice_get d.events place ≡ Some timed → IsFitEvent (least_of d) timed
    each place timed there =
        let allowed = events_allowed d.network d.events (smallest_log d.network is.network) is.events place timed there
        in
        record {
          moment = allowed.moment;
          fit = allowed.fit;
          prompt = events_prompt d.network d.events is.events place timed there;
          octet = is.octets place timed there;
        }

-- ---- what a world does by itself

module _ {F : Type 0} (answers : Bounds → ℕ → F → Option ℕ → F → Type 0) (p : SettlingParams) where
  advances_claimed : (until : ℕ) (told : List Told) (fate fate_after : F) (w w' : WorldState)
      → Advances answers until told fate fate_after w w' → KeepsAll p w → KeepsAll p w'
  advances_claimed until [] fate fate_after w w' k is = subst (KeepsAll p) (sym k.1) is
  advances_claimed until (one ∷ told) fate fate_after w w' (drawn, between, k, rest) is =
      let timed = one.timed in
      let next = k.next in
      advances_claimed until told drawn fate_after between w' rest
      (claim_kept answers p timed fate drawn w between one.done (next_fits w timed next) (next_prompt w timed next)
      (next_octet next.item timed.act w next.act) k.was_done is)

  pub advanced_claimed : (until : ℕ) (told : List Told) (fate fate_after : F) (w w' : WorldState)
      → Advanced answers until told fate fate_after w w' → KeepsAll p w → KeepsAll p w'
  advanced_claimed until told fate fate_after w w' k is =
      let on = advances_claimed until told fate fate_after w k.between k.advances is in
      let early = stopped_in_time answers until fate fate_after w k.between is.world.sound k.ahead
      (record { told = told; advances = k.advances }) in
      let first = nothing_sooner until (until + 1) k.between.net.pending (omega arith) k.nothing_left in
      subst (KeepsAll p) (sym k.is) (claim_later p k.between until early first on)

  goes_claimed : (least : ℕ) (events : List Timed) (until : ℕ) (told : List Told) (fate fate_after : F)
      (w w' : WorldState) → AllByRecursion (IsFitEvent least) events
      → Goes answers until events told fate fate_after w w' → NoneFaster least w → KeepsAll p w → KeepsAll p w'
  goes_claimed least [] until told fate fate_after w w' fit k none is =
      advanced_claimed until told fate fate_after w w' k is
  goes_claimed least (event ∷ events) until told fate fate_after w w' fit (first, rest, drawn, between, k, goes, so)
      none is =
      let on = advanced_claimed event.at first fate k.drawn w k.between k.advanced is in
      let none_on =
      stays_none_faster least w k.between
      (advanced_stays answers event.at first fate k.drawn w k.between is.world.sound.wired.setups k.advanced) none in
      let none_then =
      stays_none_faster least k.between between
      (done_stays answers event k.drawn drawn k.between between k.done on.world.sound.wired.setups k.changed) none_on
      in
      let event_fit = fit.0 in
      goes_claimed least events until rest drawn fate_after between w' fit.1 goes none_then
      (claim_kept answers p event k.drawn drawn k.between between k.done event_fit.fit
      (prompt_within least event.act k.between none_on event_fit.prompt) event_fit.octet k.changed on)

pub played_claimed : {F : Type 0} (answers : Bounds → ℕ → F → Option ℕ → F → Type 0) (d : DocumentState) (until : ℕ)
    (fate : F) (told : List Told) (w : WorldState) → IsPlayable d → PlaysRun answers d until fate told w
    → SettlingInvariant w
played_claimed answers d until fate told w is k =
    let sound = initial_sound d.network is.network in
    let begins = claim_begins answers d.network fate k.started k.start is.network sound k.begun in
    let none = begun_none_faster answers d.network fate k.started k.start sound.wired.setups k.begun in
    record {
      pace = pace_of d.network;
      is = goes_claimed answers (pace_of d.network) (least_of d) (events_by until d.events) until told k.started
          k.drawn k.start w (events_fit d until is) k.goes none begins;
    }
