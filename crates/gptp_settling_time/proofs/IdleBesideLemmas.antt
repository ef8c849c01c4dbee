-- An event changes nothing, at the time of the event before, whatever priority1 a failed system gets by it: what is
-- claimed of a world that is left stays, and of one that is cleared.
use Rattle.std.proofs.Common.{◌≡◌, ◌≤◌, ◌+◌, ◌*◌, ◌∙◌, ℕ, pred, List, [], ◌∷◌, ◌++◌, slice_get, sym, ap, subst, inl, inr, arith}
use Rattle.gptp_graph.specs.PathBound.{path_bound}
use Rattle.gptp_graph.specs.Snapshot.{Snapshot}
use Rattle.gptp_links.specs.Fate.{Draw}
use Rattle.gptp_setup.specs.SettlingParams.{SettlingParams, largest_interval}
use Rattle.gptp_scenario.specs.Network.{NetworkState, pace_of}
use Rattle.gptp_scenario.specs.declared.change.Timed.{Timed}
use Rattle.gptp_model.specs.Acts.{Acts}
use Rattle.gptp_model.specs.World.{WorldState}
use Rattle.gptp_model.specs.declared.done.Done.{Done}
use Rattle.gptp_bmca_machine.specs.Network.{Network}
use Rattle.gptp_bmca_machine.specs.SoundLaws.{AllAreNear}
use Rattle.gptp_network.specs.Document.{DocumentState}
use Rattle.gptp_invariants.specs.ChoiceCalm.{HaveQuietLinks, delay_in}
use Rattle.gptp_invariants.specs.ChoiceSettlesAsMachine.{IsWorld}
use Rattle.gptp_invariants.specs.ChoiceView.{says_announce, view}
use Rattle.gptp_invariants.specs.DelayMeasured.{LinkIsMeasured}
use Rattle.gptp_invariants.specs.WorldStanding.{channel_is_used, snapshot_of}
use Rattle.gptp_theorem.specs.PlayedLaws.{IsPlayable}
use Rattle.gptp_theorem.proofs.EventLemmas.{last_behind}
use Rattle.gptp_settling_time.specs.Gains.{ChangesNothing, IdleNow}
use Rattle.gptp_settling_time.proofs.AlwaysClaimedLemmas.{IsStanding, start_network}
use Rattle.gptp_settling_time.proofs.BecomesSoundLemmas.{BecomesSound, GoesBy, IsBecomingRight}
use Rattle.gptp_settling_time.proofs.ClearedLemmas.{IsCleared}
use Rattle.gptp_settling_time.proofs.ClearedToLemmas.{IsClearedTo}
use Rattle.gptp_settling_time.proofs.DueLemmas.{UpIsInUse}
use Rattle.gptp_settling_time.proofs.FitsLemmas.{IsLeftUnmoved}
use Rattle.gptp_settling_time.proofs.GainLemmas.{idle_so}
use Rattle.gptp_settling_time.proofs.IdleLemmas.{idle_still}
use Rattle.gptp_settling_time.proofs.KeptToLemmas.{KeepsTo}
use Rattle.gptp_settling_time.proofs.LeftClaimedLemmas.{HaveAskedBy, IsLeftAlways, left_network}
use Rattle.gptp_settling_time.proofs.LeftToLemmas.{IsLeftTo}
use Rattle.gptp_settling_time.proofs.RepeatedLemmas.{IsChange, is_change}
use Rattle.gptp_settling_time.proofs.SameLinkLemmas.{first_same}
use Rattle.gptp_settling_time.proofs.SoundButOldLemmas.{IsSoundButOld}
use Rattle.gptp_settling_time.proofs.StandsLikeLemmas.{StandsLike, start_like_network}
use Rattle.gptp_settling_time.proofs.StandsStillLemmas.{StandsStill, links_still, silent_then, snapshot_still, stands_like, stay_still, stood_still, systems_still, view_still}
use Rattle.gptp_settling_time.proofs.TellsRightLemmas.{LevelTellsRight}
use Rattle.gptp_settling_time.proofs.UnlinkedLemmas.{IsLeftSeen, LostAreFarther}
use Rattle.gptp_settling_time.proofs.WereSilentLemmas.{WereSilent, were_stay}

module _ (p : SettlingParams) (w w' : WorldState) (still : StandsStill w w') (change : w'.last_change ≡ w.last_change)
    (is' : IsWorld p w') (measured' : LinkIsMeasured w') where
  abbrev like : StandsLike w w'
  like = stands_like w w' still

  same_snap : snapshot_of w' ≡ snapshot_of w
  same_snap = snapshot_still w w' still

  standing_idle : (silent : ℕ) → IsStanding p silent w → IsStanding p silent w'
  standing_idle silent is = record {
    pace = is.pace;
    world = is';
    measured = measured';
    silent = silent_then p silent w w' still is' measured' is.silent;
  }

  asked_idle : (since : ℕ) → IsWorld p w → HaveAskedBy since w → HaveAskedBy since w'
  asked_idle since is asked at s =
      let (first, by, before, x) = asked at (stood_still w w' still p is is' at s) in
      let late = x.late in
      let time = still.time in (
        first,
        by,
        before,
        record {
          is = first_same first by at w w' x.is (links_still w w' still at x.is.0.link);
          late = omega (arith, late, time);
        },
      )

  network_idle : (silent : ℕ) → left_network p silent w' ≡ left_network p silent w
  network_idle silent =
      ap (λ (n : Network). record n { bare = 0; off = silent })
      (start_like_network w w' like p (path_bound (snapshot_of w')) 0)
      ∙ (λ i. record (start_network p (path_bound (same_snap i)) 0 w) {
        gone = change i + 2 * largest_interval p;
        bare = 0;
        off = silent;
      })

  way_idle : pred (path_bound (snapshot_of w)) * delay_in w ≤ w.time
      → pred (path_bound (snapshot_of w')) * delay_in w' ≤ w'.time
  way_idle way =
      subst (λ t. pred (path_bound (snapshot_of w')) * delay_in w' ≤ t) (sym still.time)
      (subst (λ delay. pred (path_bound (snapshot_of w')) * delay ≤ w.time) (sym like.delay)
      (subst (λ h. pred (path_bound h) * delay_in w ≤ w.time) (sym same_snap) way))

  quiet_back : HaveQuietLinks p.params w' → HaveQuietLinks p.params w
  quiet_back = like.quiet p.params

  pub left_idle : (g : Snapshot) (silent : ℕ) → IsLeftAlways p g silent w → IsLeftAlways p g silent w'
  left_idle g silent is = record {
    standing = standing_idle silent is.standing;
    asked = subst (λ t. HaveAskedBy t w') (sym change) (asked_idle w.last_change is.standing.world is.asked);
    well = is.well;
    left = subst (IsLeftUnmoved g) (sym same_snap) is.left;
    near = subst AllAreNear (sym same_snap) is.near;
    farther = subst (LostAreFarther g) (sym same_snap) is.farther;
    late = way_idle is.late;
    seen = λ quiet off.
        subst (IsLeftSeen says_announce g (left_network p silent w')) (sym (view_still w w' still))
        (subst (λ n. IsLeftSeen says_announce g n (view w)) (sym (network_idle silent))
        (is.seen (quiet_back quiet) off));
  }

  used_idle : UpIsInUse w → UpIsInUse w'
  used_idle used link channel here up =
      ap (λ systems. channel_is_used systems channel) (systems_still w w' still)
      ∙ used link channel (ap (λ cs. slice_get cs link) (sym still.channels) ∙ here) up

  goes_idle : (gone : ℕ) → GoesBy p gone w → GoesBy p gone w'
  goes_idle gone (inl (used, delay)) = inl (used_idle used, delay ∙ sym like.delay)
  goes_idle gone (inr interval) = inr interval

  becomes_idle : (silent right old : ℕ) → BecomesSound p silent right old w → BecomesSound p silent right old w'
  becomes_idle silent right old (inl sound) =
      inl (subst (IsSoundButOld says_announce (snapshot_of w') old) (sym (view_still w w' still))
      (subst (λ h. IsSoundButOld says_announce h old (view w)) (sym same_snap) sound))
  becomes_idle silent right old (inr (gone, becomes)) =
      let n = left_network p silent w in
      let early = becomes.early in
      let time = still.time in
      inr (
        gone,
        subst (λ x. IsBecomingRight p x right gone old w') (sym (network_idle silent)) (record {
          base = becomes.base;
          goes = goes_idle gone becomes.goes;
          levels = λ d. subst (λ m. LevelTellsRight says_announce n becomes.base m d) (sym (view_still w w' still))
              (becomes.levels d);
          is = becomes.is;
          early = omega (arith, early, time);
          by = becomes.by;
        }),
      )

  pub cleared_idle : (g : Snapshot) (since silent right old : ℕ) → IsCleared p g since silent right old w
      → IsCleared p g since silent right old w'
  cleared_idle g since silent right old is = record {
    left = left_idle g silent is.left;
    asked = asked_idle since is.left.standing.world is.asked;
    sound = λ quiet off. becomes_idle silent right old (is.sound (quiet_back quiet) off);
  }

-- ---- a document

module _ (d : DocumentState) (playable : IsPlayable d) (made : List Timed) (event : Timed) (then : WorldState)
    (draws : List Draw) (done : Done) (w' : WorldState) (acts : Acts event.act then draws done w')
    (keeps : KeepsTo d made then) (after : KeepsTo d (made ++ event ∷ []) w') (now : IdleNow d.network made event) where
  abbrev n_of : NetworkState
  n_of = d.network

  abbrev pace : SettlingParams
  pace = pace_of d.network

  is : IsChange n_of made event
  is = is_change n_of made event now.0

  stays : StandsStill then w'
  stays =
      idle_still then keeps.claim.world.sound draws w' is.change
      (idle_so n_of made then keeps.stands keeps.claim.world.sound is.change
      (subst (ChangesNothing n_of made) is.act now.0))
      (subst (λ act. Acts act then draws done w') is.act acts).1

  -- the last change was at this time already
  moment : w'.last_change ≡ then.last_change
  moment = after.stands.last ∙ last_behind made event ∙ now.1 ∙ sym keeps.stands.last

  were_idle : (ago : List Timed) → WereSilent n_of ago then → WereSilent n_of ago w'
  were_idle ago =
      let time = stays.time in
      were_stay n_of ago then w' (omega (arith, time))
      (stay_still pace 0 then w' stays after.claim.world after.claim.measured)

  pub left_beside : (ago : List Timed) (silent : ℕ) → IsLeftTo d ago made silent then
      → IsLeftTo d ago (made ++ event ∷ []) silent w'
  left_beside ago silent so = record {
    keeps = after;
    before = so.before;
    since = left_idle pace then w' stays moment after.claim.world after.claim.measured so.before silent so.since;
    were = were_idle ago so.were;
  }

  pub cleared_beside : (ago : List Timed) (since silent right old : ℕ)
      → IsClearedTo d ago made since silent right old then
      → IsClearedTo d ago (made ++ event ∷ []) since silent right old w'
  cleared_beside ago since silent right old so = record {
    keeps = after;
    before = so.before;
    is = cleared_idle pace then w' stays moment after.claim.world after.claim.measured so.before since silent right old
        so.is;
    were = were_idle ago so.were;
  }
