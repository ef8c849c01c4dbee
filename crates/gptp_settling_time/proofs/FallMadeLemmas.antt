-- A link goes down that cuts a tree off, in a world of a document whose choice had stood: the tree falls back. So it
-- does where its best gets worse.
use Rattle.std.proofs.Common.{List, [], arith, inl, inr, subst, ℕ, ◌++◌, ◌+◌, ◌∷◌, ◌≡◌, ◌≤◌, ◌⊎◌}
use Rattle.gptp_graph.specs.Best.{IsBest}
use Rattle.gptp_graph.specs.Snapshot.{Snapshot, System, port_of}
use Rattle.gptp_links.specs.Fate.{Draw}
use Rattle.gptp_setup.specs.SettlingParams.{SettlingParams}
use Rattle.gptp_scenario.specs.Calm.{IsUsed}
use Rattle.gptp_scenario.specs.Network.{NetworkState, pace_of}
use Rattle.gptp_scenario.specs.SyncWait.{sync_paths}
use Rattle.gptp_scenario.specs.declared.change.Act.TheVariants.{Change as Changing}
use Rattle.gptp_scenario.specs.declared.change.Change.TheVariants.{LinkDown}
use Rattle.gptp_scenario.specs.declared.change.Timed.{Timed}
use Rattle.gptp_scenario.specs.declared.network.LinkSpec.{LinkSpec}
use Rattle.gptp_model.specs.Acts.{Acts}
use Rattle.gptp_model.specs.World.{WorldState, port_id}
use Rattle.gptp_model.specs.declared.done.Done.{Done}
use Rattle.gptp_network.specs.Document.{DocumentState}
use Rattle.gptp_network.proofs.ExistenceLemmas.{stands_after}
use Rattle.gptp_invariants.specs.WorldStanding.{snapshot_of}
use Rattle.gptp_theorem.specs.AlikeLaws.{AreAlike}
use Rattle.gptp_theorem.specs.PlayedLaws.{IsPlayable}
use Rattle.gptp_theorem.proofs.AlikeLemmas.{best as alike_best, clock_among, distance as alike_distance, turned}
use Rattle.gptp_settling_time.specs.Arrivals.{HasArrivedBy}
use Rattle.gptp_settling_time.specs.EventKinds.{FallsCalm}
use Rattle.gptp_settling_time.specs.TreeLosses.{FallsTree, IsCutTree, LowersTree}
use Rattle.gptp_settling_time.proofs.ArrivalsLemmas.{SetLimits}
use Rattle.gptp_settling_time.proofs.FallActLemmas.{act_fallen}
use Rattle.gptp_settling_time.proofs.FallAlwaysLemmas.{IsFallenAlways}
use Rattle.gptp_settling_time.proofs.FallenToLemmas.{IsFallenTo, limits_to}
use Rattle.gptp_settling_time.proofs.GainLemmas.{up_so}
use Rattle.gptp_settling_time.proofs.KeptToLemmas.{KeepsTo}
use Rattle.gptp_settling_time.proofs.LossMadeLemmas.{HasRestedSo}
use Rattle.gptp_settling_time.proofs.NamedLemmas.{IsNamedFrom}
use Rattle.gptp_settling_time.proofs.WorldMovesLemmas.{adjacent_alike, alike_so, joins_alike, near_so, unmoved_alike}
use Rattle.gptp_settling_time.proofs.TreeMadeLemmas.{at_link, few_then, late_then, live_ends, names_now, seen_then}
use Rattle.gptp_settling_time.proofs.WorsenedMadeLemmas.{worsened_to}

-- a tree is cut off between two snapshots that is so between others of the same systems and links
cut_alike : (g h g' h' : Snapshot) → AreAlike g h → AreAlike g' h' → (top other : ℕ) (best next : System) (base : ℕ)
    (depth : ℕ → ℕ) → IsCutTree h h' top other best next base depth → IsCutTree g g' top other best next base depth
cut_alike g h g' h' before now top other best next base depth t = record {
  in_top = to_g top t.in_top;
  outside = λ in_other. t.outside (to_h other in_other);
  others = λ v known out.
      unmoved_alike g h g' h' before now v
      (t.others v (clock_among g' h' now v known) (λ in_v. out (to_g v in_v)));
  worse = t.worse;
  was_best = λ v in_v. alike_best h g back v best (t.was_best v (to_h v in_v));
  was = λ v in_v. alike_distance h g back v (base + depth v) (t.was v (to_h v in_v));
  first = t.first;
  lost = λ v u in_v joined. elim (t.lost v u (to_h v in_v) (adjacent_alike g h before v u joined)) [
    | inl left ↦ inl (adjacent_alike h' g' back' v u left)
    | inr is_top ↦ inr is_top
  ];
  steps = λ v u in_v joined. t.steps v u (to_h v in_v) (adjacent_alike g' h' now v u joined);
  single = λ v p q s u one two.
      t.single v p q s u (joins_alike g' h' now (port_of v p) s one) (joins_alike g' h' now (port_of v q) u two);
}
  where
    back : AreAlike h g
    back = turned g h before

    back' : AreAlike h' g'
    back' = turned g' h' now

    to_g : (v : ℕ) → IsBest h' v next → IsBest g' v next
    to_g v is = alike_best h' g' back' v next is

    to_h : (v : ℕ) → IsBest g' v next → IsBest h' v next
    to_h v is = alike_best g' h' now v next is

-- no path had more than 255 systems
pub falls_few : (n : NetworkState) (before : List Timed) (event : Timed) → FallsTree n before event
    → (sync_paths n before).systems ≤ 255
falls_few n before event (inl lowers) = lowers.few
falls_few n before event (inr worsens) = worsens.few

module _ (d : DocumentState) (playable : IsPlayable d) (made : List Timed) (event : Timed) (then : WorldState)
    (draws : List Draw) (done : Done) (w' : WorldState) (acts : Acts event.act then draws done w')
    (at_time : then.time ≡ event.at) (time : w'.time ≡ event.at) (keeps : KeepsTo d made then)
    (after : KeepsTo d (made ++ event ∷ []) w') (start : ℕ) (rest : HasRestedSo (pace_of d.network) start event.at then)
    (stood arrived : ℕ) (named : IsNamedFrom arrived then)
    (arrives : HasArrivedBy d.network made stood arrived)
    (quiet : arrived ≤ event.at) (falls : FallsCalm d.network made event) where
  abbrev p : SettlingParams
  p = pace_of d.network

  abbrev n : NetworkState
  n = d.network

  abbrev more : List Timed
  more = made ++ event ∷ []

  module _ (x : LowersTree n made event) where
    -- the tree is so in the worlds
    cuts_so : (best : System) × (next : System) × (base : ℕ) × (depth : ℕ → ℕ)
        × IsCutTree (snapshot_of then) (snapshot_of w') x.top x.other best next base depth
    cuts_so =
        let (g, stands) = stands_after n made playable.network in
        let (g', stands') = stands_after n more playable.network in
        let (best, next, base, depth, is) = x.cuts g g' stands stands' in (
          best,
          next,
          base,
          depth,
          cut_alike (snapshot_of then) g (snapshot_of w') g' (alike_so d playable made then keeps g stands)
              (alike_so d playable more w' after g' stands') x.top x.other best next base depth is,
        )

    -- the act
    came : Acts (Changing (LinkDown x.clock x.port)) then draws done w'
    came = subst (λ act. Acts act then draws done w') x.act acts

    fallen_down : IsFallenTo d more start event.at w'
    fallen_down =
        let over = rest.over in
        let (best, next, base, depth, is) = cuts_so in
        let seen = seen_then d playable made then keeps start event.at rest falls.calm falls.off in
        let names = names_now p then seen arrived named (omega (arith, quiet, at_time)) in
        let late = late_then d playable made more w' after stood arrived arrives (omega (arith, quiet, time)) x.delay in
        record {
          keeps = after;
          before = snapshot_of then;
          ago = more;
          set = λ limit is. is;
          since = subst (λ t. IsFallenAlways p (snapshot_of then) (SetLimits n more) start t w') at_time
              (act_fallen p start x.clock x.port then draws done w' keeps.claim.pace keeps.claim.world after.claim.world
              keeps.claim.measured after.claim.measured came
              (up_so n made then keeps.stands (port_id x.clock x.port)
              (λ place u u_there u_end. (x.used place u u_there u_end).up) came.1.place came.1.channel came.1.is)
              (omega (arith, over, at_time)) rest.ready rest.silent seen (near_so d playable made then keeps x.few)
              (live_ends d made then keeps came.1.channel
              (at_link d made then keeps draws done w' x.clock x.port came (IsUsed n.systems made) x.used))
              x.top x.other best next base depth is (few_then d playable made more w' after x.paths x.few)
              (at_link d made then keeps draws done w' x.clock x.port came (λ (u : LinkSpec).
              ((u.a.clock ≡ x.top) × (u.b.clock ≡ x.other))
              ⊎ ((u.b.clock ≡ x.top) × (u.a.clock ≡ x.other))) x.ends) late rest.sound names (SetLimits n more)
              (limits_to d more w' after));
        }

  pub fallen_to : IsFallenTo d more start event.at w'
  fallen_to = elim falls.falls [
    | inl lowers ↦ fallen_down lowers
    | inr worsens ↦ worsened_to d playable made event then draws done w' acts at_time time keeps after start rest stood
        arrived named arrives quiet falls.calm falls.off worsens
  ]
