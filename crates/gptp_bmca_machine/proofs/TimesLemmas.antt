-- The times of a network that settles in one of these ways fit.
use Rattle.std.proofs.Common.{◌≡◌, ◌⊎◌, ◌≤◌, ◌+◌, ◌*◌, ℕ, inl, inr, arith}
use Rattle.gptp_graph.specs.Snapshot.{PortIdentity, Joins, IsWellFormed}
use Rattle.gptp_graph.specs.PathBound.{BoundsPaths}
use Rattle.gptp_bmca_machine.specs.Network.{Network, IsTimed, IsSettlingNetwork}
use Rattle.gptp_bmca_machine.specs.Times.{SettlesAtOnce, SettlesInTurn, SettlesFromAnyPast, SettlesFromRest}

module _ (n : Network) where
  paced : SettlesFromAnyPast n → (d : ℕ) (p q : PortIdentity) → Joins n.graph p q → IsTimed n d p q
  paced k d p q joins = by k.times
    where
      begun : n.start ≤ n.sound
      begun = k.begun

      here : n.ready p ≤ n.sound
      here = k.ready p (q, joins)

      largest : n.interval_of p ≤ n.interval
      largest = k.largest p (q, joins)

      by : SettlesAtOnce n ⊎ SettlesInTurn n → IsTimed n d p q
      by (inl x) =
          let claimed : n.claimed d p ≡ n.sound = x.claimed d p in
          let until : n.until d p ≡ n.sound + n.interval = x.until d p in
          let slack : n.interval ≤ n.slack = x.slack in
          let step : n.most ≤ n.step = x.step in
          record {
            begun = omega (arith, begun);
            sound = omega arith;
            entry = inr (omega (arith, largest));
            claimed = omega arith;
            until = omega arith;
            ready = omega (arith, here);
            delay = step;
          }
      by (inr x) =
          let claimed : n.claimed d p ≡ n.sound + n.sync_wait + d * n.step = x.claimed d p in
          let until : n.until d p ≡ n.sound + n.sync_wait + d * n.step + n.interval = x.until d p in
          let step : n.sync_wait + n.interval + n.most ≤ n.step = x.step in
          record {
            begun = omega (arith, begun);
            sound = omega arith;
            entry = inr (omega (arith, largest));
            claimed = omega arith;
            until = omega arith;
            ready = omega (arith, here);
            delay = omega arith;
          }

  rested : SettlesFromRest n → (d : ℕ) (p q : PortIdentity) → Joins n.graph p q → IsTimed n d p q
  rested k d p q joins = elim (k.link d p (q, joins)) [
    | inl (claimed, until) ↦ record {
      begun = omega arith;
      sound = omega arith;
      entry = inl claimed;
      claimed = omega arith;
      until = omega arith;
      ready = omega (arith, ready);
      delay = step;
    }
    | inr (claimed, until) ↦ record {
      begun = omega arith;
      sound = omega arith;
      entry = inr claimed;
      claimed = omega arith;
      until = omega arith;
      ready = omega (arith, ready);
      delay = step;
    }
  ]
    where
      begun : n.start ≡ 0
      begun = k.begun

      sound : n.sound ≡ 0
      sound = k.sound

      step : n.most ≤ n.step
      step = k.step

      ready : n.ready p ≤ n.slack
      ready = k.ready p (q, joins)

  pub times_fit : IsWellFormed n.graph → BoundsPaths n.graph n.reach → n.bare ≤ n.off
      → SettlesFromAnyPast n ⊎ SettlesFromRest n → IsSettlingNetwork n
  times_fit graph paths bare (inl k) = record {
    graph = graph;
    bare = bare;
    paths = paths;
    timed = paced k;
    begun = let begun : n.start ≤ n.sound = k.begun in omega arith;
    ready = λ p linked. let ready : n.ready p ≤ n.sound = k.ready p linked in omega arith;
  }
  times_fit graph paths bare (inr k) = record {
    graph = graph;
    bare = bare;
    paths = paths;
    timed = rested k;
    begun = let begun : n.start ≡ 0 = k.begun in omega arith;
    ready = λ p linked. let ready : n.ready p ≤ n.slack = k.ready p linked in omega arith;
  }
