-- Worlds of documents since a far end was lost.
use Rattle.std.proofs.Common.{◌≤◌, ◌⊎◌, ℕ, Option, List, inl, inr}
use Rattle.gptp_graph.specs.Snapshot.{Snapshot}
use Rattle.gptp_links.specs.declared.bounds.Bounds.{Bounds}
use Rattle.gptp_scenario.specs.Network.{pace_of}
use Rattle.gptp_scenario.specs.declared.change.Timed.{Timed}
use Rattle.gptp_model.specs.Acts.{at}
use Rattle.gptp_model.specs.Course.{WasDone}
use Rattle.gptp_model.specs.Pending.{NothingBefore}
use Rattle.gptp_model.specs.Views.{IsNextAct}
use Rattle.gptp_model.specs.World.{WorldState}
use Rattle.gptp_world.specs.Transitions.{ActTrace}
use Rattle.gptp_world.proofs.SettlingInvariantLemmas.{next_octet}
use Rattle.gptp_network.specs.Document.{DocumentState}
use Rattle.gptp_invariants.specs.WorldNews.{AreSilentBy}
use Rattle.gptp_invariants.proofs.WorldNewsLemmas.{silent_from_now}
use Rattle.gptp_theorem.specs.PlayedLaws.{IsPlayable}
use Rattle.gptp_theorem.proofs.CalmLemmas.{quiet_stands}
use Rattle.gptp_theorem.proofs.CalmKeptLemmas.{no_change}
use Rattle.gptp_settling_time.specs.Rests.{HasCleared}
use Rattle.gptp_settling_time.specs.Losses.{NoneSilent}
use Rattle.gptp_settling_time.proofs.ClaimedToLemmas.{IsClaimedTo}
use Rattle.gptp_settling_time.proofs.ClearedLemmas.{IsCleared, cleared_acts, cleared_claimed, cleared_later}
use Rattle.gptp_settling_time.proofs.KeptToLemmas.{KeepsTo, keeps_act, keeps_later}
use Rattle.gptp_settling_time.proofs.LeftToLemmas.{IsLeftTo}
use Rattle.gptp_settling_time.proofs.WereSilentLemmas.{WereSilent, none_silent_from, were_act, were_later}

-- A world of a document after these events, by which a far end was lost: ports at links are capable since a time, those
-- without one aren't from a time on, and what was in flight is gone by a time.
pub record IsClearedTo (d : DocumentState) (ago events : List Timed) (since silent right old : ℕ) (w : WorldState)
    : Type 0 where
  pub keeps : KeepsTo d events w
  pub before : Snapshot
  pub is : IsCleared (pace_of d.network) before since silent right old w
  pub were : WereSilent d.network ago w

module _ (d : DocumentState) (ago events : List Timed) (since silent right old : ℕ) where
  -- it is left
  pub cleared_left : (w : WorldState) → IsClearedTo d ago events since silent right old w
      → IsLeftTo d ago events silent w
  cleared_left w so = record { keeps = so.keeps; before = so.before; since = so.is.left; were = so.were }

  pub cleared_to_later : (w : WorldState) (time : ℕ) → w.time ≤ time → NothingBefore time w.net.pending
      → IsClearedTo d ago events since silent right old w → IsClearedTo d ago events since silent right old (at time w)
  cleared_to_later w time later first so = record {
    keeps = keeps_later d events w time later first so.keeps;
    before = so.before;
    is = cleared_later (pace_of d.network) so.before since silent right old time w later first so.is;
    were = were_later d.network ago w time later so.were;
  }

  pub cleared_to_act : {F : Type 0} (answers : Bounds → ℕ → F → Option ℕ → F → Type 0) (t : ActTrace) (fate drawn : F)
      (w : WorldState) → IsNextAct w t.told.timed → WasDone answers t.told.timed fate drawn w t.after t.told.done
      → IsClearedTo d ago events since silent right old w → IsClearedTo d ago events since silent right old t.after
  cleared_to_act answers t fate drawn w next was so =
      let timed = t.told.timed in
      let p = pace_of d.network in
      let then = cleared_later p so.before since silent right old timed.at w was.ready.timely.now
      was.ready.timely.first so.is in
      record {
        keeps = keeps_act d events answers t fate drawn w next was so.keeps;
        before = so.before;
        is = cleared_acts p so.before since silent right old timed.act (at timed.at w) was.draws t.told.done t.after
            (no_change next.item timed.act w next.act) (next_octet next.item timed.act w next.act) was.acts then;
        were = were_act d ago events answers t fate drawn w next was so.keeps so.were;
      }

  -- once it has come to rest claims are made of all links always
  pub cleared_to_claimed : (w : WorldState) (start : ℕ) → IsClearedTo d ago events since silent right old w
      → IsPlayable d → HasCleared d.network ago events since silent old start w.time → IsClaimedTo d events start w
  cleared_to_claimed w start so playable rest =
      record {
        keeps = so.keeps;
        since = cleared_claimed (pace_of d.network) so.before since silent right old w so.is
            (quiet_stands d.network events w playable.network so.keeps.stands so.keeps.claim.world.sound
            rest.calm).links
            rest.off rest.gone start rest.later (silent_by rest.unlinked);
      }
    where
      silent_by : (silent ≤ w.time) ⊎ NoneSilent d.network ago events → AreSilentBy (pace_of d.network) start w
      silent_by (inl past) =
          silent_from_now (pace_of d.network) start silent w so.is.left.standing.world so.is.left.standing.silent past
      silent_by (inr none) = none_silent_from d ago events w so.keeps so.were none start
