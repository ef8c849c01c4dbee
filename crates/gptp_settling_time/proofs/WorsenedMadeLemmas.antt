-- The best of a tree gets a worse identity in a world of a document whose choice had stood: the tree falls back.
use Rattle.std.proofs.Common.{List, [], arith, subst, ℕ, ◌++◌, ◌∷◌, ◌≡◌, ◌≤◌}
use Rattle.gptp_graph.specs.Best.{IsBest}
use Rattle.gptp_graph.specs.Snapshot.{Snapshot, System, port_of}
use Rattle.gptp_links.specs.Fate.{Draw}
use Rattle.gptp_setup.specs.SettlingParams.{SettlingParams}
use Rattle.gptp_scenario.specs.Calm.{IsCalm, NothingLapses}
use Rattle.gptp_scenario.specs.Network.{NetworkState, pace_of}
use Rattle.gptp_scenario.specs.declared.change.Timed.{Timed}
use Rattle.gptp_model.specs.Acts.{Acts}
use Rattle.gptp_model.specs.World.{WorldState}
use Rattle.gptp_model.specs.declared.done.Done.{Done}
use Rattle.gptp_network.specs.Document.{DocumentState}
use Rattle.gptp_network.proofs.ExistenceLemmas.{stands_after}
use Rattle.gptp_invariants.specs.WorldStanding.{snapshot_of}
use Rattle.gptp_theorem.specs.AlikeLaws.{AreAlike}
use Rattle.gptp_theorem.specs.PlayedLaws.{IsPlayable}
use Rattle.gptp_theorem.proofs.AlikeLemmas.{best as alike_best, distance as alike_distance, clock_among, turned}
use Rattle.gptp_settling_time.specs.Arrivals.{HasArrivedBy}
use Rattle.gptp_settling_time.specs.TreeLosses.{IsWorsenedTree, WorsensTree}
use Rattle.gptp_settling_time.proofs.ArrivalsLemmas.{SetLimits}
use Rattle.gptp_settling_time.proofs.FallAlwaysLemmas.{IsFallenAlways}
use Rattle.gptp_settling_time.proofs.FallenToLemmas.{IsFallenTo, limits_to}
use Rattle.gptp_settling_time.proofs.GainLemmas.{lives_so}
use Rattle.gptp_settling_time.proofs.KeptToLemmas.{KeepsTo}
use Rattle.gptp_settling_time.proofs.LossMadeLemmas.{HasRestedSo}
use Rattle.gptp_settling_time.proofs.NamedLemmas.{IsNamedFrom}
use Rattle.gptp_settling_time.proofs.TreeMadeLemmas.{few_then, late_then, names_now, seen_then}
use Rattle.gptp_settling_time.proofs.WorldMovesLemmas.{adjacent_alike, alike_so, joins_alike, near_so, unmoved_alike}
use Rattle.gptp_settling_time.proofs.WorsenedActLemmas.{act_worsened}

-- the best of a tree so gets worse between two snapshots that it does between others of the same systems and links
worsened_alike : (g h g' h' : Snapshot) → AreAlike g h → AreAlike g' h' → (top : ℕ) (best next : System)
    (depth : ℕ → ℕ) → IsWorsenedTree h h' top best next depth → IsWorsenedTree g g' top best next depth
worsened_alike g h g' h' before now top best next depth t = record {
  in_top = to_g top t.in_top;
  others = λ v known out.
      unmoved_alike g h g' h' before now v
      (t.others v (clock_among g' h' now v known) (λ in_v. out (to_g v in_v)));
  worse = t.worse;
  was_best = λ v in_v. alike_best h g back v best (t.was_best v (to_h v in_v));
  was = λ v in_v. alike_distance h g back v (depth v) (t.was v (to_h v in_v));
  first = t.first;
  steps = λ v u in_v joined. t.steps v u (to_h v in_v) (adjacent_alike g' h' now v u joined);
  single = λ v p q s u one two.
      t.single v p q s u (joins_alike g' h' now (port_of v p) s one) (joins_alike g' h' now (port_of v q) u two);
}
  where
    back : AreAlike h g
    back = turned g h before

    to_g : (v : ℕ) → IsBest h' v next → IsBest g' v next
    to_g v is = alike_best h' g' (turned g' h' now) v next is

    to_h : (v : ℕ) → IsBest g' v next → IsBest h' v next
    to_h v is = alike_best g' h' now v next is

module _ (d : DocumentState) (playable : IsPlayable d) (made : List Timed) (event : Timed) (then : WorldState)
    (draws : List Draw) (done : Done) (w' : WorldState) (acts : Acts event.act then draws done w')
    (at_time : then.time ≡ event.at) (time : w'.time ≡ event.at) (keeps : KeepsTo d made then)
    (after : KeepsTo d (made ++ event ∷ []) w') (start : ℕ) (rest : HasRestedSo (pace_of d.network) start event.at then)
    (stood arrived : ℕ) (named : IsNamedFrom arrived then)
    (arrives : HasArrivedBy d.network made stood arrived)
    (quiet : arrived ≤ event.at) (calm : IsCalm d.network made) (off : NothingLapses d.network.params)
    (x : WorsensTree d.network made event) where
  abbrev p : SettlingParams
  p = pace_of d.network

  abbrev n : NetworkState
  n = d.network

  abbrev more : List Timed
  more = made ++ event ∷ []

  -- the tree is so in the worlds
  tree_so : (best : System) × (next : System) × (depth : ℕ → ℕ)
      × IsWorsenedTree (snapshot_of then) (snapshot_of w') x.clock best next depth
  tree_so =
      let (g, stands) = stands_after n made playable.network in
      let (g', stands') = stands_after n more playable.network in
      let (best, next, depth, is) = x.worsens g g' stands stands' in (
        best,
        next,
        depth,
        worsened_alike (snapshot_of then) g (snapshot_of w') g' (alike_so d playable made then keeps g stands)
            (alike_so d playable more w' after g' stands') x.clock best next depth is,
      )

  pub worsened_to : IsFallenTo d more start event.at w'
  worsened_to =
      let over = rest.over in
      let (best, next, depth, is) = tree_so in
      let seen = seen_then d playable made then keeps start event.at rest calm off in
      let names = names_now p then seen arrived named (omega (arith, quiet, at_time)) in
      let late = late_then d playable made more w' after stood arrived arrives (omega (arith, quiet, time)) x.delay in
      record {
        keeps = after;
        before = snapshot_of then;
        ago = more;
        set = λ limit is. is;
        since = subst (λ t. IsFallenAlways p (snapshot_of then) (SetLimits n more) start t w') at_time
            (act_worsened p start x.clock x.value then draws done w' keeps.claim.pace keeps.claim.world
            after.claim.world keeps.claim.measured after.claim.measured
            (subst (λ act. Acts act then draws done w') x.act acts)
            (λ place station k.
            lives_so n made then keeps.stands keeps.claim.world.sound x.clock x.live place station k) x.octet
            (omega (arith, over, at_time)) rest.ready rest.silent seen (near_so d playable made then keeps x.few) best
            next depth is (few_then d playable made more w' after x.paths x.few) late rest.sound names
            (SetLimits n more) (limits_to d more w' after));
      }
