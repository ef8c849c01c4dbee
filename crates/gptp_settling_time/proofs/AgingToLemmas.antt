-- Worlds of documents since a system failed that others hear: what they hold of it ages.
use Rattle.std.proofs.Common.{◌≡◌, ◌⊎◌, ◌≤◌, ◌+◌, ℕ, suc, Option, List, inl, inr, arith}
use Rattle.gptp_graph.specs.Snapshot.{Snapshot}
use Rattle.gptp_links.specs.declared.bounds.Bounds.{Bounds}
use Rattle.gptp_scenario.specs.Calm.{IsCalm, NothingLapses}
use Rattle.gptp_scenario.specs.Network.{pace_of}
use Rattle.gptp_scenario.specs.SettlingTime.{silence_span}
use Rattle.gptp_scenario.specs.declared.change.Timed.{Timed}
use Rattle.gptp_model.specs.Acts.{at}
use Rattle.gptp_model.specs.Course.{WasDone}
use Rattle.gptp_model.specs.Pending.{NothingBefore}
use Rattle.gptp_model.specs.Views.{IsNextAct}
use Rattle.gptp_model.specs.World.{WorldState}
use Rattle.gptp_world.specs.Transitions.{ActTrace}
use Rattle.gptp_world.proofs.SettlingInvariantLemmas.{next_octet}
use Rattle.gptp_network.specs.Document.{DocumentState}
use Rattle.gptp_invariants.specs.ChoiceCalm.{HaveQuietLinks}
use Rattle.gptp_invariants.specs.ChoiceSettled.{ChoiceStands, Settled}
use Rattle.gptp_invariants.specs.WorldBounded.{IsBoundedWorld}
use Rattle.gptp_theorem.specs.PlayedLaws.{IsPlayable}
use Rattle.gptp_theorem.proofs.CalmLemmas.{quiet_stands}
use Rattle.gptp_theorem.proofs.CalmKeptLemmas.{no_change}
use Rattle.gptp_settling_time.specs.Losses.{NoneSilent}
use Rattle.gptp_settling_time.proofs.AgingClaimedLemmas.{IsAgingAlways, aging_acts, aging_chooses, aging_later, aging_now, aging_settles}
use Rattle.gptp_settling_time.specs.Rests.{HasAged}
use Rattle.gptp_settling_time.proofs.AgesByWorldLemmas.{WorldAgesBy, by_acts, by_later}
use Rattle.gptp_settling_time.proofs.AgedLemmas.{AgedIsSound, aged_claimed, aged_sound_acts, aged_sound_later}
use Rattle.gptp_settling_time.proofs.ClaimedToLemmas.{IsClaimedTo}
use Rattle.gptp_settling_time.proofs.GoesToLemmas.{echo_to, goes_to}
use Rattle.gptp_settling_time.proofs.KeptToLemmas.{KeepsTo, keeps_act, keeps_later}
use Rattle.gptp_settling_time.proofs.WereSilentLemmas.{WereSilent, none_silent_from, were_act, were_later}
use Rattle.gptp_settling_time.proofs.SilentLinksLemmas.{AgesOver}
use Rattle.gptp_invariants.proofs.WorldNewsLemmas.{silent_from_now}

-- A world of a document after these events, the last of which was such a failure: what is held at ports without a link
-- ages before a time, and from another on they aren't capable.
pub record IsAgingTo (d : DocumentState) (ago events : List Timed) (aged silent : ℕ) (w : WorldState) : Type 0 where
  pub keeps : KeepsTo d events w
  pub before : Snapshot
  pub since : IsAgingAlways (pace_of d.network) before aged silent w
  pub sound : AgedIsSound (pace_of d.network) aged silent w
  pub failed : ℕ
  pub unanswered : silent ≡ suc (failed + silence_span (pace_of d.network))
  pub by : WorldAgesBy (pace_of d.network) (AgesOver d.network before ago events failed) w
  pub were : WereSilent d.network ago w

module _ (d : DocumentState) (ago events : List Timed) (aged silent : ℕ) where
  pub aging_to_later : (w : WorldState) (time : ℕ) → w.time ≤ time → NothingBefore time w.net.pending
      → IsAgingTo d ago events aged silent w → IsAgingTo d ago events aged silent (at time w)
  aging_to_later w time later first so = record {
    keeps = keeps_later d events w time later first so.keeps;
    before = so.before;
    since = aging_later (pace_of d.network) so.before aged silent time w later first so.since;
    sound = aged_sound_later (pace_of d.network) so.before aged silent time w later first so.since so.sound;
    failed = so.failed;
    unanswered = so.unanswered;
    by = by_later (pace_of d.network) so.before aged silent (AgesOver d.network so.before ago events so.failed) time w
        later first so.since so.by;
    were = were_later d.network ago w time later so.were;
  }

  pub aging_to_act : {F : Type 0} (answers : Bounds → ℕ → F → Option ℕ → F → Type 0) (t : ActTrace) (fate drawn : F)
      (w : WorldState) → IsNextAct w t.told.timed → WasDone answers t.told.timed fate drawn w t.after t.told.done
      → IsAgingTo d ago events aged silent w → IsAgingTo d ago events aged silent t.after
  aging_to_act answers t fate drawn w next was so =
      let timed = t.told.timed in
      let p = pace_of d.network in
      let now = was.ready.timely.now in
      let first = was.ready.timely.first in
      let then = aging_later p so.before aged silent timed.at w now first so.since in
      record {
        keeps = keeps_act d events answers t fate drawn w next was so.keeps;
        before = so.before;
        since = aging_acts p so.before aged silent timed.act (at timed.at w) was.draws t.told.done t.after
            (no_change next.item timed.act w next.act) (next_octet next.item timed.act w next.act) was.acts then;
        sound = aged_sound_acts p so.before aged silent timed.act (at timed.at w) was.draws t.told.done t.after
            (no_change next.item timed.act w next.act) (next_octet next.item timed.act w next.act) was.acts then
            (aged_sound_later p so.before aged silent timed.at w now first so.since so.sound);
        failed = so.failed;
        unanswered = so.unanswered;
        by = by_acts p so.before aged silent (AgesOver d.network so.before ago events so.failed) timed.act
            (at timed.at w)
            was.draws t.told.done t.after (no_change next.item timed.act w next.act)
            (next_octet next.item timed.act w next.act) was.acts then
            (by_later p so.before aged silent (AgesOver d.network so.before ago events so.failed) timed.at w now first
            so.since so.by);
        were = were_act d ago events answers t fate drawn w next was so.keeps so.were;
      }

  module _ (w : WorldState) (so : IsAgingTo d ago events aged silent w) (playable : IsPlayable d)
      (calm : IsCalm d.network events) (off : NothingLapses d.network.params) where
    quiet : HaveQuietLinks (pace_of d.network).params w
    quiet = (quiet_stands d.network events w playable.network so.keeps.stands so.keeps.claim.world.sound calm).links

    -- where no lost link is silent ports without a link aren't capable now
    unanswered : NoneSilent d.network ago events → IsAgingAlways (pace_of d.network) so.before aged w.time w
    unanswered none =
        aging_now (pace_of d.network) so.before aged silent w so.since
        (none_silent_from d ago events w so.keeps so.were none w.time)

    -- its choice stands
    pub aging_to_chooses : (aged ≤ w.time) ⊎ ((silent ≤ w.time) ⊎ NoneSilent d.network ago events) → ChoiceStands w
    aging_to_chooses (inl gone) =
        aging_chooses (pace_of d.network) so.before aged silent w so.since quiet off (inl gone)
    aging_to_chooses (inr (inl late)) =
        aging_chooses (pace_of d.network) so.before aged silent w so.since quiet off (inr late)
    aging_to_chooses (inr (inr none)) =
        aging_chooses (pace_of d.network) so.before aged w.time w (unanswered none) quiet off (inr (omega arith))

    -- it has settled
    pub aging_to_settled : (silent ≤ w.time) ⊎ NoneSilent d.network ago events → Settled w × IsBoundedWorld w
    aging_to_settled (inl late) =
        aging_settles (pace_of d.network) so.before aged silent w so.since quiet off (inr late) late
    aging_to_settled (inr none) =
        let now : w.time ≤ w.time = omega arith in
        aging_settles (pace_of d.network) so.before aged w.time w (unanswered none) quiet off (inr now) now

  -- once it has come to rest claims are made of all links always
  pub aging_to_claimed : (w : WorldState) (start : ℕ) → IsAgingTo d ago events aged silent w → IsPlayable d
      → HasAged d.network events aged silent start w.time → IsClaimedTo d events start w
  aging_to_claimed w start so playable rest =
      let p = pace_of d.network in
      let last = so.keeps.stands.last in
      let since = rest.since in
      let later = rest.later in
      let told = rest.told in
      let echo = echo_to d playable events w so.keeps in
      record {
        keeps = so.keeps;
        since = aged_claimed p so.before aged silent rest.by rest.flight w so.since so.sound rest.gone
            (omega (arith, last, since)) (omega (arith, told)) (goes_to d playable events w so.keeps rest.flight
            rest.is_gone) (omega (arith, told, echo)) (quiet w so playable rest.calm rest.off) rest.off start
            (omega (arith, last, since, later))
            (silent_from_now p start silent w so.since.standing.world so.since.standing.silent rest.unlinked);
      }
