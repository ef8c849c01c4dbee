-- What others hold of a failed system has aged: from each moment on by which it has since the last change, links tell
-- right traces by distance, and all that is held becomes sound.
use Rattle.std.proofs.Common.{◌≡◌, ◌⊎◌, ◌<◌, ◌≤◌, ◌+◌, ◌*◌, ℕ, suc, pred, List, refl, sym, ap, subst, ◌∙◌, inl, inr, arith}
use native.Mathlib.Decide.{dec_le}
use Rattle.gptp_graph.specs.PathBound.{path_bound}
use Rattle.gptp_graph.specs.Snapshot.{Snapshot}
use Rattle.gptp_links.specs.Fate.{Draw}
use Rattle.gptp_scenario.specs.Calm.{NothingLapses}
use Rattle.gptp_scenario.specs.declared.change.Act.{Act}
use Rattle.gptp_setup.specs.SettlingParams.{SettlingParams, largest_interval}
use Rattle.gptp_model.specs.Acts.{Acts, at as at_time}
use Rattle.gptp_model.specs.Pending.{NothingBefore}
use Rattle.gptp_model.specs.World.{WorldState}
use Rattle.gptp_model.specs.declared.done.Done.{Done}
use Rattle.gptp_model.proofs.AdvanceLemmas.{nothing_sooner}
use Rattle.gptp_bmca_machine.specs.Acts.{MachineSteps}
use Rattle.gptp_invariants.specs.ChoiceCalm.{HaveQuietLinks}
use Rattle.gptp_invariants.specs.ChoiceSeenLaws.{IsNoChange}
use Rattle.gptp_invariants.specs.ChoiceView.{says_announce, view}
use Rattle.gptp_invariants.specs.WorldEncodableLaws.{SetsAnOctet}
use Rattle.gptp_invariants.specs.WorldNews.{AreSilentBy}
use Rattle.gptp_invariants.specs.WorldStanding.{snapshot_of}
use Rattle.gptp_invariants.proofs.ChoiceCalmKeptLemmas.{KeepsNetwork, acts_keep, delay_kept, same_snapshot}
use Rattle.gptp_invariants.proofs.ChoiceSeenActLemmas.{acts_seen}
use Rattle.gptp_invariants.proofs.ChoiceSettlesAsMachineLemmas.{kept_back}
use Rattle.gptp_invariants.proofs.WorldNewsCourseLemmas.{later_keeps}
use Rattle.gptp_invariants.proofs.WorldOutlineLemmas.{acts_time}
use Rattle.gptp_invariants.proofs.WorldStandsLemmas.{stands_well}
use Rattle.gptp_settling_time.proofs.AgingClaimedLemmas.{IsAgingAlways, aging_acts, aging_later, aging_left}
use Rattle.gptp_settling_time.proofs.AlwaysClaimedLemmas.{IsClaimedAlways}
use Rattle.gptp_settling_time.proofs.BecomesSoundLemmas.{BecomesSound, GoesBy, IsLeftNow, becomes_claimed, becomes_on, becoming, nearer_echo}
use Rattle.gptp_settling_time.proofs.ClearsLemmas.{was_best}
use Rattle.gptp_settling_time.proofs.DueLemmas.{use_kept}

-- by this time it has aged, or ports without a link aren't capable
abbrev pub HasAgedBy : ℕ → ℕ → ℕ → Type 0
HasAgedBy aged silent by = (aged ≤ by) ⊎ (silent ≤ by)

aged_on : (aged silent by later : ℕ) → by ≤ later → HasAgedBy aged silent by → HasAgedBy aged silent later
aged_on aged silent by later less (inl gone) = inl (omega (arith, gone, less))
aged_on aged silent by later less (inr off) = inr (omega (arith, off, less))

-- so the world is left at that moment
aged_now : (p : SettlingParams) (g : Snapshot) (aged silent : ℕ) (w : WorldState) → IsAgingAlways p g aged silent w
    → HasAgedBy aged silent w.time → IsLeftNow p g silent w
aged_now p g aged silent w is has = record {
  standing = is.standing;
  asked = is.asked;
  well = is.well;
  left = is.left;
  near = is.near;
  late = is.way;
  seen = λ quiet off. aging_left p g aged silent w is quiet off has;
}

-- from this moment on all that is held becomes sound
abbrev pub SoundFrom : SettlingParams → ℕ → ℕ → WorldState → Type 0
SoundFrom p silent by w = (gone right old : ℕ) → GoesBy p gone w → right ≡ suc (by + nearer_echo p w)
    → old ≡ by + nearer_echo p w + gone → HaveQuietLinks p.params w → NothingLapses p.params
    → BecomesSound p silent right old w

-- so it does from each by which it has aged
abbrev pub AgedIsSound : SettlingParams → ℕ → ℕ → WorldState → Type 0
AgedIsSound p aged silent w = (by : ℕ) → HasAgedBy aged silent by → w.last_change ≤ by → by ≤ w.time
    → SoundFrom p silent by w

-- ---- it begins

begins_now : (p : SettlingParams) (g : Snapshot) (aged silent : ℕ) (w : WorldState) → IsAgingAlways p g aged silent w
    → HasAgedBy aged silent w.time → SoundFrom p silent w.time w
begins_now p g aged silent w is has gone right old goes right_is old_is quiet off =
    subst (λ t. BecomesSound p silent t old w) (sym right_is)
    (subst (λ t. BecomesSound p silent (suc (w.time + nearer_echo p w)) t w) (sym old_is)
    (becoming p g silent gone w (aged_now p g aged silent w is has) goes g
    (was_best g (snapshot_of w) is.well
    (stands_well w is.standing.world.sound is.standing.world.between is.standing.world.encodable) is.left) quiet off
    (let itself = (is.seen quiet off).itself in record { lanes = itself.lanes; stations = itself.stations })))

-- just after a change no moment has passed since
pub aged_begins : (p : SettlingParams) (g : Snapshot) (aged silent : ℕ) (w : WorldState)
    → IsAgingAlways p g aged silent w → w.last_change ≡ w.time → AgedIsSound p aged silent w
aged_begins p g aged silent w is changed by has since past =
    let now : w.time ≡ by = omega (arith, changed, since, past) in
    subst (λ t. SoundFrom p silent t w) now
    (begins_now p g aged silent w is (subst (λ t. HasAgedBy aged silent t) (sym now) has))

-- ---- it goes on

module _ (p : SettlingParams) (g : Snapshot) (aged silent : ℕ) (w w' : WorldState)
    (is : IsAgingAlways p g aged silent w) (is' : IsAgingAlways p g aged silent w') (keeps : KeepsNetwork w w')
    (step : MachineSteps says_announce (view w) (view w')) (on : w.time ≤ w'.time) where
  same_echo : nearer_echo p w' ≡ nearer_echo p w
  same_echo =
      λ i. pred (pred (path_bound (same_snapshot w w' keeps i))) * (largest_interval p + delay_kept w w' keeps i)

  goes_before : (gone : ℕ) → GoesBy p gone w' → GoesBy p gone w
  goes_before gone (inl (used, is_delay)) =
      inl (use_kept w' w (kept_back w w' keeps) used, is_delay ∙ delay_kept w w' keeps)
  goes_before gone (inr interval) = inr interval

  sound_on : (by : ℕ) → HasAgedBy aged silent by → by ≤ w.time → SoundFrom p silent by w → SoundFrom p silent by w'
  sound_on by has past from gone right old goes right_is old_is =
      becomes_on p g silent right old w w' (aged_now p g aged silent w is (aged_on aged silent by w.time past has))
      (aged_now p g aged silent w' is' (aged_on aged silent by w'.time (omega (arith, past, on)) has))
      (from gone right old (goes_before gone goes) (right_is ∙ ap (λ e. suc (by + e)) same_echo)
      (old_is ∙ ap (λ e. by + e + gone) same_echo))
      keeps step

-- as time passes moments come by which it has aged
pub aged_sound_later : (p : SettlingParams) (g : Snapshot) (aged silent time : ℕ) (w : WorldState) → w.time ≤ time
    → NothingBefore time w.net.pending → IsAgingAlways p g aged silent w → AgedIsSound p aged silent w
    → AgedIsSound p aged silent (at_time time w)
aged_sound_later p g aged silent time w later first is sound by has since past =
    elim (dec_le by w.time) [
      | yes soon ↦
          sound_on p g aged silent w (at_time time w) is (aging_later p g aged silent time w later first is)
          (later_keeps time w) (inl (record { time = time; later = later; is = refl })) later by has soon
          (sound by has since soon)
      | no not ↦
          let reach : w.time ≤ by = omega (arith, not) in
          let first_by = nothing_sooner by time w.net.pending past first in
          let then = aging_later p g aged silent by w reach first_by is in
          sound_on p g aged silent (at_time by w) (at_time time w) then
          (aging_later p g aged silent time w later first is) (later_keeps time (at_time by w))
          (inl (record { time = time; later = past; is = refl })) past by has (omega arith)
          (begins_now p g aged silent (at_time by w) then has)
    ]

pub aged_sound_acts : (p : SettlingParams) (g : Snapshot) (aged silent : ℕ) (act : Act) (w : WorldState)
    (draws : List Draw) (done : Done) (w' : WorldState) → IsNoChange act → SetsAnOctet act → Acts act w draws done w'
    → IsAgingAlways p g aged silent w → AgedIsSound p aged silent w → AgedIsSound p aged silent w'
aged_sound_acts p g aged silent act w draws done w' none octet acts is sound by has since past =
    let world = is.standing.world in
    let keeps = acts_keep act w draws done w' none acts in
    let time = acts_time act w draws done w' acts in
    let change = keeps.change in
    sound_on p g aged silent w w' is (aging_acts p g aged silent act w draws done w' none octet acts is) keeps
    (inr (acts_seen act w draws done w' none world.sound world.encodable acts)) (omega (arith, time)) by has
    (omega (arith, past, time)) (sound by has (omega (arith, since, change)) (omega (arith, past, time)))

-- ---- once all is sound, and what is old is gone

-- claims are made of all links always, from each time on since the last change
pub aged_claimed : (p : SettlingParams) (g : Snapshot) (aged silent by gone : ℕ) (w : WorldState)
    → IsAgingAlways p g aged silent w → AgedIsSound p aged silent w → HasAgedBy aged silent by → w.last_change ≤ by
    → by ≤ w.time → GoesBy p gone w → by + nearer_echo p w + gone < w.time → HaveQuietLinks p.params w
    → NothingLapses p.params → (start : ℕ) → w.last_change ≤ start → AreSilentBy p start w
    → IsClaimedAlways p start w
aged_claimed p g aged silent by gone w is sound has since past goes late quiet off =
    becomes_claimed p g w.last_change silent (suc (by + nearer_echo p w)) (by + nearer_echo p w + gone) w
    (aged_now p g aged silent w is (aged_on aged silent by w.time past has)) is.asked
    (sound by has since past gone (suc (by + nearer_echo p w)) (by + nearer_echo p w + gone) goes refl refl) quiet off
    late
