-- A link goes down by which a tree turns to its one way out, in a world of a document whose choice had stood.
use Rattle.std.proofs.Common.{List, [], arith, inl, inr, subst, sym, ℕ, ◌++◌, ◌∙◌, ◌+◌, ◌∷◌, ◌≡◌, ◌≤◌, ◌⊎◌}
use Rattle.gptp_graph.specs.Snapshot.{Snapshot, System, port_of}
use Rattle.gptp_links.specs.Fate.{Draw}
use Rattle.gptp_setup.specs.SettlingParams.{SettlingParams}
use Rattle.gptp_scenario.specs.Calm.{IsUsed}
use Rattle.gptp_scenario.specs.Network.{NetworkState, pace_of}
use Rattle.gptp_scenario.specs.declared.change.Act.TheVariants.{Change as Changing}
use Rattle.gptp_scenario.specs.declared.change.Change.TheVariants.{LinkDown}
use Rattle.gptp_scenario.specs.declared.change.Timed.{Timed}
use Rattle.gptp_scenario.specs.declared.network.LinkSpec.{LinkSpec}
use Rattle.gptp_model.specs.Acts.{Acts}
use Rattle.gptp_model.specs.World.{WorldState, port_id}
use Rattle.gptp_model.specs.declared.done.Done.{Done}
use Rattle.gptp_network.specs.Document.{DocumentState}
use Rattle.gptp_network.proofs.ExistenceLemmas.{stands_after}
use Rattle.gptp_invariants.specs.WorldStanding.{snapshot_of}
use Rattle.gptp_theorem.specs.AlikeLaws.{AreAlike}
use Rattle.gptp_theorem.specs.PlayedLaws.{IsPlayable}
use Rattle.gptp_theorem.proofs.AlikeLemmas.{best as alike_best, clock_among, distance as alike_distance, turned}
use Rattle.gptp_settling_time.specs.Arrivals.{HasArrivedBy}
use Rattle.gptp_settling_time.specs.EventKinds.{TurnsTreeCalm}
use Rattle.gptp_settling_time.specs.TreeLosses.{IsTurnedTree, TurnsTreeLink}
use Rattle.gptp_settling_time.proofs.TurnedTreeActLemmas.{act_turns_tree}
use Rattle.gptp_settling_time.proofs.TurnedTreeRestLemmas.{IsTurnedTreeAnew, tree_anew_begins}
use Rattle.gptp_settling_time.proofs.TurnedTreeToLemmas.{IsTurnedTreeTo}
use Rattle.gptp_settling_time.proofs.GainLemmas.{up_so}
use Rattle.gptp_settling_time.proofs.KeptToLemmas.{KeepsTo}
use Rattle.gptp_settling_time.proofs.LossMadeLemmas.{HasRestedSo}
use Rattle.gptp_settling_time.proofs.NamedLemmas.{IsNamedFrom}
use Rattle.gptp_settling_time.proofs.WorldMovesLemmas.{adjacent_alike, alike_so, joins_alike, near_so, unmoved_alike}
use Rattle.gptp_settling_time.proofs.TreeMadeLemmas.{at_link, few_then, late_then, live_ends, names_now, seen_then}

-- a tree turns between two snapshots that does so between others of the same systems and links
turned_alike : (g h g' h' : Snapshot) → AreAlike g h → AreAlike g' h' → (tree : List ℕ) (top other last out : ℕ)
    (best : System) (base : ℕ) (depth : ℕ → ℕ) → IsTurnedTree h h' tree top other last out best base depth
    → IsTurnedTree g g' tree top other last out best base depth
turned_alike g h g' h' before now tree top other last out best base depth t = record {
  in_top = t.in_top;
  lives = λ v in_v. clock_among h' g' back' v (t.lives v in_v);
  others = λ v known out_of.
      unmoved_alike g h g' h' before now v (t.others v (clock_among g' h' now v known) out_of);
  was_best = λ v in_v. alike_best h g back v best (t.was_best v in_v);
  is_best = λ v in_v. alike_best h' g' back' v best (t.is_best v in_v);
  was = λ v in_v. alike_distance h g back v (base + depth v) (t.was v in_v);
  farther = λ v far in_v there. t.farther v far in_v (alike_distance g' h' now v far there);
  first = t.first;
  nearer = λ far there. t.nearer far (alike_distance g h before other far there);
  lost = λ v u in_v joined. elim (t.lost v u in_v (adjacent_alike g h before v u joined)) [
    | inl left ↦ inl (adjacent_alike h' g' back' v u left)
    | inr is_top ↦ inr is_top
  ];
  kept = λ v u out_v out_u joined.
      adjacent_alike h' g' back' v u (t.kept v u out_v out_u (adjacent_alike g h before v u joined));
  steps = λ v u in_v in_u joined. t.steps v u in_v in_u (adjacent_alike g' h' now v u joined);
  single = λ v p q s u in_v in_s in_u one two.
      t.single v p q s u in_v in_s in_u (joins_alike g' h' now (port_of v p) s one)
      (joins_alike g' h' now (port_of v q) u two);
  leaves = λ v u in_v joined. t.leaves v u in_v (adjacent_alike g' h' now v u joined);
  in_last = t.in_last;
  outside = t.outside;
  joined = adjacent_alike h' g' back' last out t.joined;
  one_way = λ p q k m one two.
      t.one_way p q k m (joins_alike g' h' now (port_of last p) (port_of out k) one)
      (joins_alike g' h' now (port_of last q) (port_of out m) two);
}
  where
    back : AreAlike h g
    back = turned g h before

    back' : AreAlike h' g'
    back' = turned g' h' now

module _ (d : DocumentState) (playable : IsPlayable d) (made : List Timed) (event : Timed) (then : WorldState)
    (draws : List Draw) (done : Done) (w' : WorldState) (acts : Acts event.act then draws done w')
    (at_time : then.time ≡ event.at) (time : w'.time ≡ event.at) (keeps : KeepsTo d made then)
    (after : KeepsTo d (made ++ event ∷ []) w') (start : ℕ) (rest : HasRestedSo (pace_of d.network) start event.at then)
    (stood arrived : ℕ) (named : IsNamedFrom arrived then)
    (arrives : HasArrivedBy d.network made stood arrived)
    (quiet : arrived ≤ event.at) (moves : TurnsTreeCalm d.network made event) where
  abbrev p : SettlingParams
  p = pace_of d.network

  abbrev n : NetworkState
  n = d.network

  abbrev more : List Timed
  more = made ++ event ∷ []

  abbrev x : TurnsTreeLink n made event
  x = moves.turns

  -- the tree is so in the worlds
  turns_so : (tree : List ℕ) × (last : ℕ) × (out : ℕ) × (best : System) × (base : ℕ) × (depth : ℕ → ℕ)
      × IsTurnedTree (snapshot_of then) (snapshot_of w') tree x.top x.other last out best base depth
  turns_so =
      let (g, stands) = stands_after n made playable.network in
      let (g', stands') = stands_after n more playable.network in
      let (tree, last, out, best, base, depth, is) = x.turns g g' stands stands' in (
        tree,
        last,
        out,
        best,
        base,
        depth,
        turned_alike (snapshot_of then) g (snapshot_of w') g' (alike_so d playable made then keeps g stands)
            (alike_so d playable more w' after g' stands') tree x.top x.other last out best base depth is,
      )

  -- the act
  came : Acts (Changing (LinkDown x.clock x.port)) then draws done w'
  came = subst (λ act. Acts act then draws done w') x.act acts

  pub turned_tree_to : w'.last_change ≡ w'.time → IsTurnedTreeTo d more start event.at w'
  turned_tree_to changed =
      let over = rest.over in
      let (tree, last, out, best, base, depth, is) = turns_so in
      let seen = seen_then d playable made then keeps start event.at rest moves.calm moves.off in
      let names = names_now p then seen arrived named (omega (arith, quiet, at_time)) in
      let late = late_then d playable made more w' after stood arrived arrives (omega (arith, quiet, time)) x.delay in
      record {
        keeps = after;
        before = snapshot_of then;
        since = subst (λ t. IsTurnedTreeAnew p (snapshot_of then) start t w') at_time
            (tree_anew_begins p (snapshot_of then) start then.time w'
            (act_turns_tree p start x.clock x.port then draws done w' keeps.claim.pace keeps.claim.world
            after.claim.world keeps.claim.measured after.claim.measured came
            (up_so n made then keeps.stands (port_id x.clock x.port)
            (λ place u u_there u_end. (x.used place u u_there u_end).up) came.1.place came.1.channel came.1.is)
            (omega (arith, over, at_time)) rest.ready rest.silent seen (near_so d playable made then keeps x.few)
            (live_ends d made then keeps came.1.channel
            (at_link d made then keeps draws done w' x.clock x.port came (IsUsed n.systems made) x.used))
            tree x.top x.other last out best base depth is (few_then d playable made more w' after x.paths x.few)
            (at_link d made then keeps draws done w' x.clock x.port came (λ (u : LinkSpec).
            ((u.a.clock ≡ x.top) × (u.b.clock ≡ x.other))
            ⊎ ((u.b.clock ≡ x.top) × (u.a.clock ≡ x.other))) x.ends) late rest.sound names)
            (time ∙ sym at_time) (changed ∙ time ∙ sym at_time));
      }
