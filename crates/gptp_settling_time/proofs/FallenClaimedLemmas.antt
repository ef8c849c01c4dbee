-- A world since a link went down that cut a tree off. Once the tree has settled and what was in flight is gone all is
-- sound, so that claims are made of it as of one since news.
use Rattle.std.proofs.Common.{◌<◌, ◌≤◌, ◌+◌, ◌*◌, ℕ, zero, suc, pred, sym, subst, inl, arith}
use Rattle.gptp_lists.specs.Members.{In}
use Rattle.gptp_graph.specs.PathBound.{path_bound}
use Rattle.gptp_graph.specs.Snapshot.{Snapshot, clocks}
use Rattle.gptp_graph.proofs.ExistenceLemmas.{distance_exists}
use Rattle.gptp_graph.proofs.PathBoundLemmas.{IsDistance-within}
use Rattle.gptp_scenario.specs.Calm.{NothingLapses}
use Rattle.gptp_setup.specs.SettlingParams.{SettlingParams}
use Rattle.gptp_model.specs.World.{WorldState}
use Rattle.gptp_bmca_machine.specs.LossLaws.{EverythingFits}
use Rattle.gptp_bmca_machine.specs.Network.{Network}
use Rattle.gptp_bmca_machine.specs.RestLaws.{SameWiring}
use Rattle.gptp_bmca_machine.specs.SoundEverywhere.{IsSoundEverywhere}
use Rattle.gptp_bmca_machine.specs.SoundLaws.{AllAreNear}
use Rattle.gptp_invariants.specs.ChoiceCalm.{HaveQuietLinks, delay_in}
use Rattle.gptp_invariants.specs.ChoiceSettlesAsMachine.{IsWorld}
use Rattle.gptp_invariants.specs.ChoiceView.{says_announce, view}
use Rattle.gptp_invariants.specs.WorldSound.{IsSoundWorld}
use Rattle.gptp_invariants.specs.WorldStanding.{snapshot_of}
use Rattle.gptp_invariants.proofs.WorldNewsLemmas.{silent_from_now}
use Rattle.gptp_settling_time.proofs.AlwaysClaimedLemmas.{IsClaimedAlways}
use Rattle.gptp_settling_time.proofs.BecomesSoundLemmas.{becomes_claimed}
use Rattle.gptp_settling_time.proofs.ClearedLemmas.{left_is_now}
use Rattle.gptp_settling_time.proofs.DueLemmas.{IsGoneBy}
use Rattle.gptp_settling_time.proofs.FallAlwaysLemmas.{IsFallenAlways, fallen_by, fallen_seen, falls_within}
use Rattle.gptp_settling_time.proofs.LeftClaimedLemmas.{IsLeftAlways, left_itself, left_network}
use Rattle.gptp_settling_time.proofs.GoesOnLemmas.{nothing_held}
use Rattle.gptp_settling_time.proofs.SettledSeenLemmas.{IsSettledSeen, sound_fits, stage_settled}
use Rattle.gptp_settling_time.proofs.TreeSoundLemmas.{outside_gone}
use Rattle.gptp_settling_time.proofs.UnlinkedLemmas.{IsLeftSeen}

-- two ways, or what was in flight, take no less than a way and a delay
way_fits : (reach most flight start time : ℕ) → most ≤ flight → start + flight < time
    → start + 1 + 2 * (pred reach * most) ≤ time → start + pred reach * most + most < time
way_fits zero most flight start time short gone late = omega (arith, short, gone)
way_fits (suc zero) most flight start time short gone late = omega (arith, short, gone)
way_fits (suc (suc reach)) most flight start time short gone late = omega (arith, late)

module _ (p : SettlingParams) (g : Snapshot) (Limits : ℕ → Type 0) (silent start flight : ℕ) (w : WorldState)
    (is : IsFallenAlways p g Limits silent start w) (quiet : HaveQuietLinks p.params w) (off : NothingLapses p.params)
    (late : start + 1 + 2 * (pred (path_bound (snapshot_of w)) * delay_in w) ≤ w.time)
    (short : delay_in w ≤ flight) (gone_by : IsGoneBy p Limits start (pred w.time) w) (gone : start + flight < w.time)
  where
    world : IsWorld p w
    world = is.standing.world

    abbrev n : Network
    n = left_network p silent w

    seen : IsSettledSeen p w
    seen = fallen_seen p g Limits silent start w is quiet off late

    -- ---- all is sound

    -- the tree has fallen back, and what it told before is gone
    fits : fallen_by is.n start + is.n.most < w.time
    fits =
        subst (λ z. fallen_by z start + z.most < w.time) is.same
        (way_fits (path_bound (snapshot_of w)) (delay_in w) flight start w.time short gone late)

    sound : IsSoundWorld w
    sound =
        subst (λ z. IsSoundEverywhere says_announce z.graph (view w)) (sym is.same)
        (outside_gone says_announce g is.n is.top is.best is.next is.base is.depth is.tree start (pred w.time) (view w)
        (is.seen quiet off).0 (is.sound (pred w.time) gone_by (less w.time fits) quiet off) (now w.time fits)
        (λ v in_v. let by = falls_within is.n start (is.depth v) (is.tree.deep v in_v) in
        let over = fits in
        omega (arith, by, over)))
      where
        less : (time : ℕ) {span : ℕ} → span < time → span ≤ pred time
        less zero over = absurd (omega (arith, over))
        less (suc time) over = omega (arith, over)

        now : (time : ℕ) {span : ℕ} → span < time → pred time < time
        now zero over = absurd (omega (arith, over))
        now (suc time) over = omega arith

    -- ---- it is left as after a loss that moved no system

    near : AllAreNear (snapshot_of w)
    near =
        subst (λ (z : Network). AllAreNear z.graph) (sym is.same)
        (λ v known.
        let (d, there) = distance_exists is.n.graph v is.tree.well known in
        let within = IsDistance-within is.n.graph is.n.reach v d is.tree.paths there in
        let few = is.tree.few in
        (d, there, omega (arith, within, few)))

    wired : SameWiring seen.n n
    wired = record {
      place = seen.same.place;
      lane = seen.same.lane;
      log = seen.same.log;
      interval = seen.same.interval;
    }

    left_so : IsLeftSeen says_announce (snapshot_of w) n (view w)
    left_so = record {
      unlinked = nothing_held p silent w is.standing is.asked quiet is.past;
      fits = fit;
      invariant = record {
        sound = λ now. fit.stations;
        levels = λ d best v pp u q near leads. stage_settled p w seen n seen.graph wired d best v pp u q near leads;
      };
    }
      where
        fit : EverythingFits says_announce (snapshot_of w) n (view w)
        fit = let f = sound_fits p w seen sound in record {
          lanes = λ j l a b at among said known.
              f.lanes j l a b at among said (subst (λ h. In l.to.clock (clocks h)) (sym seen.graph) known);
          stations = f.stations;
        }

    left : IsLeftAlways p (snapshot_of w) silent w
    left = left_itself p silent w is.standing is.asked near (omega (arith, late)) left_so'
      where
        left_so' : HaveQuietLinks p.params w → NothingLapses p.params
            → IsLeftSeen says_announce (snapshot_of w) n (view w)
        left_so' links none = left_so

    -- claims are made of all links always, from each time on by which ports at links are capable
    pub fallen_claimed : (begin : ℕ) → start ≤ begin → IsClaimedAlways p begin w
    fallen_claimed begin later =
        becomes_claimed p (snapshot_of w) w.last_change silent 0 0 w (left_is_now p (snapshot_of w) silent w left)
        is.asked
        (λ links none. inl (record {
          lanes = λ j l f a at among said. inl (sound.lanes j l at f a among said);
          stations = sound.stations;
        })) quiet off (omega (arith, gone)) begin (let last = is.last in omega (arith, later, last))
        (silent_from_now p begin silent w world is.standing.silent is.past)
