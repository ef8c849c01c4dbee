-- Worlds of documents since something was taken away at a time.
use Rattle.std.proofs.Common.{◌⊎◌, ◌≤◌, ◌+◌, ℕ, suc, Option, List, subst, inl, inr, arith}
use Rattle.gptp_links.specs.declared.bounds.Bounds.{Bounds}
use Rattle.gptp_setup.specs.SettlingParams.{SettlingParams}
use Rattle.gptp_scenario.specs.Network.{pace_of}
use Rattle.gptp_scenario.specs.SettlingTime.{loss_span}
use Rattle.gptp_scenario.specs.SyncWait.{sync_paths}
use Rattle.gptp_scenario.specs.declared.change.Timed.{Timed}
use Rattle.gptp_scenario.specs.declared.sync_wait.SyncPaths.{SyncPaths}
use Rattle.gptp_model.specs.Acts.{at}
use Rattle.gptp_model.specs.Course.{WasDone}
use Rattle.gptp_model.specs.Pending.{NothingBefore}
use Rattle.gptp_model.specs.Views.{IsNextAct}
use Rattle.gptp_model.specs.World.{WorldState}
use Rattle.gptp_world.specs.Transitions.{ActTrace}
use Rattle.gptp_world.proofs.SettlingInvariantLemmas.{next_octet}
use Rattle.gptp_network.specs.Document.{DocumentState}
use Rattle.gptp_invariants.specs.ChoiceCalm.{sync_paths_of}
use Rattle.gptp_invariants.specs.ChoiceSettled.{ChoiceStands, Settled}
use Rattle.gptp_invariants.specs.WorldBounded.{IsBoundedWorld}
use Rattle.gptp_invariants.specs.WorldNews.{AreSilentBy}
use Rattle.gptp_invariants.proofs.WorldNewsLemmas.{silent_from_now}
use Rattle.gptp_theorem.specs.PlayedLaws.{IsPlayable}
use Rattle.gptp_theorem.proofs.SyncPathLemmas.{paths_stand}
use Rattle.gptp_theorem.proofs.CalmKeptLemmas.{no_change}
use Rattle.gptp_settling_time.specs.Leads.{AreUsedSince}
use Rattle.gptp_settling_time.specs.Rests.{HasToldAll}
use Rattle.gptp_settling_time.specs.Losses.{NoneSilent}
use Rattle.gptp_settling_time.proofs.ClaimedToLemmas.{IsClaimedTo}
use Rattle.gptp_settling_time.proofs.KeptToLemmas.{KeepsTo, keeps_act, keeps_later}
use Rattle.gptp_settling_time.proofs.WereSilentLemmas.{WereSilent, none_silent_from, were_act, were_later}
use Rattle.gptp_settling_time.proofs.LostClaimedLemmas.{IsLostAlways, lost_acts, lost_chooses, lost_claimed, lost_later, lost_now, lost_settles}

-- A world of a document after these events, the last of which came at that time and took something away.
pub record IsLostTo (d : DocumentState) (ago events : List Timed) (since most silent : ℕ) (w : WorldState)
    : Type 0 where
  pub keeps : KeepsTo d events w
  pub is : IsLostAlways (pace_of d.network) since most silent w
  pub were : WereSilent d.network ago w
  pub less : AreUsedSince d.network ago events

module _ (d : DocumentState) (ago events : List Timed) (since most silent : ℕ) where
  abbrev p : SettlingParams
  p = pace_of d.network

  pub lost_to_later : (w : WorldState) (time : ℕ) → w.time ≤ time → NothingBefore time w.net.pending
      → IsLostTo d ago events since most silent w → IsLostTo d ago events since most silent (at time w)
  lost_to_later w time later first so = record {
    keeps = keeps_later d events w time later first so.keeps;
    is = lost_later p since most silent time w later first so.is;
    were = were_later d.network ago w time later so.were;
    less = so.less;
  }

  pub lost_to_act : {F : Type 0} (answers : Bounds → ℕ → F → Option ℕ → F → Type 0) (t : ActTrace) (fate drawn : F)
      (w : WorldState) → IsNextAct w t.told.timed → WasDone answers t.told.timed fate drawn w t.after t.told.done
      → IsLostTo d ago events since most silent w → IsLostTo d ago events since most silent t.after
  lost_to_act answers t fate drawn w next was so =
      let timed = t.told.timed in
      let then = lost_later p since most silent timed.at w was.ready.timely.now was.ready.timely.first so.is in
      record {
        keeps = keeps_act d events answers t fate drawn w next was so.keeps;
        is = lost_acts p since most silent timed.act (at timed.at w) was.draws t.told.done t.after
            (no_change next.item timed.act w next.act) (next_octet next.item timed.act w next.act) was.acts then;
        were = were_act d ago events answers t fate drawn w next was so.keeps so.were;
        less = so.less;
      }

  module _ (w : WorldState) (so : IsLostTo d ago events since most silent w) (playable : IsPlayable d)
      (passed : suc (since + loss_span p (sync_paths d.network events) most) ≤ w.time) where
    late : suc (since + loss_span p (sync_paths_of w) most) ≤ w.time
    late =
        subst (λ (x : SyncPaths). suc (since + loss_span p x most) ≤ w.time)
        (paths_stand d.network events w playable.network so.keeps.stands so.keeps.claim.world.sound) passed

    -- its choice stands
    pub lost_to_chooses : ChoiceStands w
    lost_to_chooses = lost_chooses p since most silent w so.is late

    -- it has settled
    pub lost_to_settled : (silent ≤ w.time) ⊎ NoneSilent d.network ago events → Settled w × IsBoundedWorld w
    lost_to_settled (inl quiet) = lost_settles p since most silent w so.is late quiet
    lost_to_settled (inr none) =
        lost_settles p since most w.time w
        (lost_now p since most silent w so.is (none_silent_from d ago events w so.keeps so.were none w.time)) late
        (omega arith)

  -- once it has come to rest claims are made of all links always
  pub lost_to_claimed : (w : WorldState) (start : ℕ) → IsLostTo d ago events since most silent w → IsPlayable d
      → HasToldAll d.network ago events since most silent start w.time → IsClaimedTo d events start w
  lost_to_claimed w start so playable rest =
      let later = rest.later in
      let over = rest.over in
      record {
        keeps = so.keeps;
        since = lost_claimed p since most silent w so.is (late w so playable (omega (arith, later, over))) start
            (omega (arith, later)) (silent_by rest.unlinked);
      }
    where
      silent_by : (silent ≤ w.time) ⊎ NoneSilent d.network ago events → AreSilentBy p start w
      silent_by (inl past) =
          silent_from_now p start silent w so.is.standing.world so.is.standing.silent past
      silent_by (inr none) = none_silent_from d ago events w so.keeps so.were none start
