-- Worlds of documents: what is in flight names the best once the choice had stood for an announce interval.
use Rattle.std.proofs.Common.{◌≡◌, ◌<◌, ◌≤◌, ℕ, List, Option, refl, sym, subst, inl, inr, arith}
use Rattle.gptp_links.specs.declared.bounds.Bounds.{Bounds}
use Rattle.gptp_scenario.specs.Calm.{IsCalm, last_change}
use Rattle.gptp_scenario.specs.Network.{NetworkState, pace_of}
use Rattle.gptp_scenario.specs.SyncWait.{sync_paths}
use Rattle.gptp_scenario.specs.declared.change.Timed.{Timed}
use Rattle.gptp_setup.specs.SettlingParams.{SettlingParams}
use Rattle.gptp_model.specs.Acts.{at}
use Rattle.gptp_model.specs.Course.{WasDone}
use Rattle.gptp_model.specs.Pending.{NothingBefore}
use Rattle.gptp_model.specs.Views.{IsNextAct}
use Rattle.gptp_model.specs.World.{WorldState}
use Rattle.gptp_world.specs.Transitions.{ActTrace}
use Rattle.gptp_network.specs.Document.{DocumentState}
use Rattle.gptp_bmca_machine.specs.Acts.{MachineSteps}
use Rattle.gptp_bmca_machine.specs.SoundLaws.{AllAreNear}
use Rattle.gptp_invariants.specs.ChoiceSeenLaws.{IsNoChange}
use Rattle.gptp_invariants.specs.ChoiceSettled.{ChoiceStands}
use Rattle.gptp_invariants.specs.ChoiceView.{says_announce, view}
use Rattle.gptp_invariants.specs.WorldStanding.{snapshot_of}
use Rattle.gptp_invariants.specs.ChoiceSettlesAsMachine.{IsWorld}
use Rattle.gptp_invariants.proofs.ChoiceCalmKeptLemmas.{KeepsNetwork, acts_keep}
use Rattle.gptp_invariants.proofs.ChoiceSeenActLemmas.{acts_seen}
use Rattle.gptp_invariants.proofs.WorldNewsCourseLemmas.{later_keeps}
use Rattle.gptp_theorem.specs.PlayedLaws.{IsPlayable}
use Rattle.gptp_theorem.proofs.CalmKeptLemmas.{no_change}
use Rattle.gptp_settling_time.specs.Arrivals.{HasArrivedBy}
use Rattle.gptp_settling_time.specs.Pasts.{Aging, AnyPast, Cleared, Fallen, Gained, Heard, Left, Fewer, Lost, Past, Split, Starting, Turned, TurnedTree}
use Rattle.gptp_settling_time.specs.Rests.{IsTakenAs, RestsFrom}
use Rattle.gptp_settling_time.specs.InTurn.{ChoosesAfter}
use Rattle.gptp_settling_time.proofs.AfterLemmas.{IsAfter, after_act, after_chooses, after_keeps, after_later}
use Rattle.gptp_settling_time.proofs.KeptToLemmas.{KeepsTo}
use Rattle.gptp_settling_time.proofs.NamedLemmas.{ComesSince, IsNamedFrom, comes_since, named_before, named_step}
use Rattle.gptp_settling_time.proofs.OnwardLemmas.{IsOnwardFrom, onward_before, onward_step}
use Rattle.gptp_settling_time.proofs.WorldMovesLemmas.{near_so}

-- What is in flight names the best, and leads onward, once what was sent before the choice stands has arrived, if that
-- is later than the last event.
abbrev pub NamesAfter : DocumentState → List Timed → Past → WorldState → Type 0
NamesAfter d events past w = (stood late : ℕ) → IsCalm d.network events → (sync_paths d.network events).systems ≤ 255
    → ChoosesAfter d.network events past stood → last_change events < stood → HasArrivedBy d.network events stood late
    → IsNamedFrom late w × IsOnwardFrom late w

-- a world that came from such a past, of which that is so
pub record IsNamedAfter (d : DocumentState) (events : List Timed) (past : Past) (w : WorldState) : Type 0 where
  pub so : IsAfter d events past w
  pub named : NamesAfter d events past w

-- every step keeps both
told_step : (time late : ℕ) (w w' : WorldState) (p : SettlingParams) → IsWorld p w' → KeepsNetwork w w'
    → AllAreNear (snapshot_of w') → ComesSince time late w' → (time ≤ w'.time → ChoiceStands w')
    → MachineSteps says_announce (view w) (view w') → IsNamedFrom late w × IsOnwardFrom late w
    → IsNamedFrom late w' × IsOnwardFrom late w'
told_step time late w w' p is' keeps near since stands step (named, onward) = (
  named_step time late w w' p is' keeps near since stands step named,
  onward_step time late w w' p is' keeps near since stands step onward,
)

module _ (d : DocumentState) (playable : IsPlayable d) (events : List Timed) (past : Past) where
  abbrev p : SettlingParams
  p = pace_of d.network

  -- at the last event it is so
  pub named_fresh : (w : WorldState) → IsAfter d events past w → w.last_change ≡ w.time → IsNamedAfter d events past w
  named_fresh w so now = record {
    so = so;
    named = λ stood late calm few chooses later arrives.
        let keeps = after_keeps d events past w so in
        let last = keeps.stands.last in
        let early : w.time < stood = omega (arith, later, last, now) in
        let since = comes_since d playable events w keeps stood late arrives in
        (named_before stood late w since early, onward_before stood late w since early);
  }

  pub named_later : (w : WorldState) (time : ℕ) → w.time ≤ time → NothingBefore time w.net.pending
      → IsNamedAfter d events past w → IsNamedAfter d events past (at time w)
  named_later w time on first is = record {
    so = so';
    named = λ stood late calm few chooses later arrives.
        told_step stood late w (at time w) p keeps'.claim.world (later_keeps time w)
        (near_so d playable events (at time w) keeps' few)
        (comes_since d playable events (at time w) keeps' stood late arrives)
        (λ after. after_chooses d playable events calm stood (at time w) after past so' chooses)
        (inl (record { time = time; later = on; is = refl })) (is.named stood late calm few chooses later arrives);
  }
    where
      so' : IsAfter d events past (at time w)
      so' = after_later d events past w time on first is.so

      keeps' : KeepsTo d events (at time w)
      keeps' = after_keeps d events past (at time w) so'

  pub named_act : {F : Type 0} (answers : Bounds → ℕ → F → Option ℕ → F → Type 0) (t : ActTrace) (fate drawn : F)
      (w : WorldState) → IsNextAct w t.told.timed → WasDone answers t.told.timed fate drawn w t.after t.told.done
      → IsNamedAfter d events past w → IsNamedAfter d events past t.after
  named_act answers t fate drawn w next was is = record {
    so = so';
    named = λ stood late calm few chooses later arrives.
        told_step stood late (at timed.at w) t.after p keeps'.claim.world keeps
        (near_so d playable events t.after keeps' few)
        (comes_since d playable events t.after keeps' stood late arrives)
        (λ after. after_chooses d playable events calm stood t.after after past so' chooses)
        (inr (acts_seen timed.act (at timed.at w) was.draws t.told.done t.after none world_then.sound
        world_then.encodable was.acts)) (then.named stood late calm few chooses later arrives);
  }
    where
      timed : Timed
      timed = t.told.timed

      none : IsNoChange timed.act
      none = no_change next.item timed.act w next.act

      then : IsNamedAfter d events past (at timed.at w)
      then = named_later w timed.at was.ready.timely.now was.ready.timely.first is

      world_then : IsWorld p (at timed.at w)
      world_then = (after_keeps d events past (at timed.at w) then.so).claim.world

      keeps : KeepsNetwork (at timed.at w) t.after
      keeps = acts_keep timed.act (at timed.at w) was.draws t.told.done t.after none was.acts

      so' : IsAfter d events past t.after
      so' = after_act d events answers past t fate drawn w next was is.so

      keeps' : KeepsTo d events t.after
      keeps' = after_keeps d events past t.after so'

-- a choice that stands as what the past is taken as stands by the past itself
chooses_as : (n : NetworkState) (events : List Timed) (past : Past) (time start stood : ℕ)
    → RestsFrom n events past time start → ChoosesAfter n events (Heard start) stood
    → ChoosesAfter n events past stood
chooses_as n events AnyPast time start stood none (off, over) = absurd none
chooses_as n events Starting time start stood none (off, over) = absurd none
chooses_as n events (Gained since) time start stood none (off, over) = absurd none
chooses_as n events (Heard since) time start stood none (off, over) = absurd none
chooses_as n events (Left ago silent) time start stood none (off, over) = absurd none
chooses_as n events (Turned silent now) time start stood rest (off, over) =
    let later = rest.later in (off, omega (arith, later, over))
chooses_as n events (Fallen silent now) time start stood rest (off, over) =
    let later = rest.later in (off, omega (arith, later, over))
chooses_as n events (TurnedTree silent now) time start stood (rest, later) (off, over) =
    (off, omega (arith, later, over))
chooses_as n events (Cleared ago since silent right old) time start stood rest (off, over) = off
chooses_as n events (Aging ago aged silent) time start stood rest (off, over) =
    let later = rest.later in (
      off,
      elim rest.gone [
        | inl gone ↦ inl (omega (arith, gone, later, over))
        | inr quiet ↦ inr (inl (omega (arith, quiet, later, over)))
      ],
    )
chooses_as n events (Split ago gone silent) time start stood rest (off, over) =
    let later = rest.later in (off, omega (arith, later, over))
chooses_as n events (Lost ago since most silent) time start stood rest (off, over) =
    let later = rest.later in (off, omega (arith, later, over))
chooses_as n events (Fewer ago since most silent) time start stood none (off, over) = absurd none

-- it is so however the past is taken
pub named_as : (d : DocumentState) (events : List Timed) (w : WorldState) (time : ℕ) (past seen : Past)
    → IsTakenAs d.network events past time seen → NamesAfter d events past w → NamesAfter d events seen w
named_as d events w time past seen (inl same) named = subst (λ x. NamesAfter d events x w) (sym same) named
named_as d events w time past seen (inr (start, same, rests)) named =
    subst (λ x. NamesAfter d events x w) (sym same)
    (λ stood late calm few chooses.
    named stood late calm few (chooses_as d.network events past time start stood rests chooses))
