-- How soon after a start, or after a gain.
use Rattle.std.proofs.Common.{ℕ, List, [], ◌∷◌, Option, subst, sym, arith}
use Rattle.gptp_links.specs.declared.bounds.Bounds.{Bounds}
use Rattle.gptp_graph.specs.PathBound.{path_bound}
use Rattle.gptp_setup.specs.SettlingParams.{SettlingParams}
use Rattle.gptp_scenario.specs.Network.{pace_of}
use Rattle.gptp_scenario.specs.declared.change.Act.TheVariants.{Change as Changing}
use Rattle.gptp_scenario.specs.declared.change.Change.TheVariants.{LinkUp}
use Rattle.gptp_model.specs.Acts.{at as at_time}
use Rattle.gptp_model.specs.Advancing.{Advances, Told}
use Rattle.gptp_model.specs.World.{WorldState}
use Rattle.gptp_model.proofs.AdvanceLemmas.{next_fits}
use Rattle.gptp_model.proofs.PromptLemmas.{next_prompt}
use Rattle.gptp_world.proofs.SettlingInvariantLemmas.{next_octet}
use Rattle.gptp_world.proofs.InitialLemmas.{initial_sound}
use Rattle.gptp_invariants.specs.WorldBounded.{IsBoundedWorld}
use Rattle.gptp_invariants.specs.ChoiceCalm.{HaveQuietLinks}
use Rattle.gptp_invariants.specs.WorldSettlingInvariant.{KeepsAll}
use Rattle.gptp_invariants.specs.ChoiceSettled.{Settled}
use Rattle.gptp_invariants.specs.WorldSound.{IsSoundWorld}
use Rattle.gptp_invariants.specs.WorldStanding.{snapshot_of}
use Rattle.gptp_invariants.proofs.WorldClaimLemmas.{claim_begins, claim_kept, claim_later}
use Rattle.gptp_invariants.proofs.ChoiceSettlesAsMachineLemmas.{paths_bound}
use Rattle.gptp_invariants.proofs.WorldNewsCourseLemmas.{begun_settles, gain_settles, link_up_settles}
use Rattle.gptp_invariants.proofs.ChoiceRestSoundLemmas.{rest_sound}
use Rattle.gptp_invariants.proofs.WorldSoundLemmas.{sound_acts, sound_begins, sound_gains, sound_later}
use Rattle.gptp_theorem.specs.Headline.{WorldIsCalm, IsSettled}
use Rattle.gptp_theorem.specs.Soon.{GainsAreSound, GainsSettle, LinksUpSettle, RestsAreSound, SoundGoesOn, StartsAreSound, StartsSettle}
use Rattle.gptp_theorem.proofs.SettlingInvariantLemmas.{advanced_claimed}
use Rattle.gptp_theorem.proofs.HeadlineLemmas.{is_settled, quiet_as}
use Rattle.gptp_theorem.proofs.CalmKeptLemmas.{no_change}

quiet_links : (p : SettlingParams) (w : WorldState) → WorldIsCalm p w → HaveQuietLinks p.params w
quiet_links p w calm = (quiet_as p w calm).links

-- what has settled, and states what is bounded, is settled as on the page
settled : (p : SettlingParams) (w : WorldState) → KeepsAll p w → Settled w × IsBoundedWorld w → IsSettled w
settled p w is both = is_settled w (record { pace = p; is = is }) both.0 both.1

module _ {F : Type 0} (answers : Bounds → ℕ → F → Option ℕ → F → Type 0) where
  pub starts_settle : StartsSettle answers
  starts_settle n fate begun fate_after until m told w w' network start course calm bounded late =
      let p = pace_of n in
      let sound = initial_sound n network in
      let is = claim_begins answers n fate begun w network sound start in
      settled p w' (advanced_claimed answers p until told begun fate_after w w' course is)
      (begun_settles answers n fate begun fate_after until m told w w' network sound start course
      (quiet_links p w' calm) bounded late)

  pub links_up_settle : LinksUpSettle answers
  links_up_settle p number port time fate drawn fate_after until m told done w between w' claim sound rest k other
      course calm bounded late =
      let is = claim_kept answers p (record { at = time; act = Changing (LinkUp number port) }) fate drawn w between
      done tt (λ place station log here among. tt) tt k claim in
      settled p w' (advanced_claimed answers p until told drawn fate_after between w' course is)
      (link_up_settles answers p number port time fate drawn fate_after until m told done w between w' claim sound rest
      k is other course (quiet_links p w' calm) bounded late)

  pub gains_settle : GainsSettle answers
  gains_settle p change time start fate drawn fate_after until m told done w between w' claim sound gain fit prompt
      octet
      k course calm bounded from late =
      let is = claim_kept answers p (record { at = time; act = Changing change }) fate drawn w between done fit prompt
      octet k claim in
      settled p w' (advanced_claimed answers p until told drawn fate_after between w' course is)
      (gain_settles answers p change time start fate drawn fate_after until m told done w between w' claim sound gain
      octet k is course (quiet_links p w' calm) bounded from late)

-- ---- what is held is sound

module _ {F : Type 0} (answers : Bounds → ℕ → F → Option ℕ → F → Type 0) where
  pub starts_are_sound : StartsAreSound answers
  starts_are_sound n fate begun w network start =
      sound_begins answers n fate begun w network (initial_sound n network) start

  sound_advances : (p : SettlingParams) (until : ℕ) (told : List Told) (fate fate_after : F) (w w' : WorldState)
      → Advances answers until told fate fate_after w w' → KeepsAll p w → IsSoundWorld w → IsSoundWorld w'
  sound_advances p until [] fate fate_after w w' k claim sound = subst IsSoundWorld (sym k.1) sound
  sound_advances p until (one ∷ told) fate fate_after w w' (drawn, between, k, rest) claim sound =
      let timed = one.timed in
      let next = k.next in
      let was = k.was_done in
      let timely = was.ready.timely in
      let then = claim_later p w timed.at timely.now timely.first claim in
      sound_advances p until told drawn fate_after between w' rest
      (claim_kept answers p timed fate drawn w between one.done (next_fits w timed next) (next_prompt w timed next)
      (next_octet next.item timed.act w next.act) was claim)
      (sound_acts p timed.act (at_time timed.at w) was.draws one.done between
      (no_change next.item timed.act w next.act) was.acts then.world (sound_later w timed.at sound))

  pub sound_goes_on : SoundGoesOn answers
  sound_goes_on p until told fate fate_after w w' claim sound k =
      subst IsSoundWorld (sym k.is)
      (sound_later k.between until (sound_advances p until told fate fate_after w k.between k.advances claim sound))

  pub gains_are_sound : GainsAreSound answers
  gains_are_sound p change time fate fate_after w w' done claim sound gain fit prompt octet k =
      let timely = k.ready.timely in
      let then = claim_later p w time timely.now timely.first claim in
      let after = claim_kept answers p (record { at = time; act = Changing change }) fate fate_after w w' done fit
      prompt
      octet k claim in
      sound_gains p change (at_time time w) k.draws done w' gain octet k.acts then.world after.world
      (sound_later w time sound)

pub rests_are_sound : RestsAreSound
rests_are_sound p w claim live calm late =
    rest_sound p (path_bound (snapshot_of w)) w claim live (paths_bound p w claim.world) (quiet_as p w calm)
    (omega (arith, late))
