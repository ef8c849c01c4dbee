-- A wholly clean Announce names no better root than the best, and for the best no fewer steps than the distance.
use Rattle.std.proofs.Common.{◌≡◌, ◌≢◌, ◌<◌, ◌≤◌, ℕ, suc, List, [], ◌∷◌, length, refl, sym, ap, subst, ◌∙◌, inl, inr, arith}
use Rattle.std.proofs.lemmas.List.{length-reverse}
use Rattle.gptp_lists.specs.Members.{In}
use Rattle.gptp_graph.specs.Snapshot.{System, Snapshot, IsWellFormed, port_of, Adjacent}
use Rattle.gptp_graph.specs.Path.{Route, IsPath}
use Rattle.gptp_graph.specs.PathBound.{BoundsPaths}
use Rattle.gptp_graph.specs.Best.{IsBest}
use Rattle.gptp_graph.specs.Distance.{IsDistanceFrom, IsDistance}
use Rattle.gptp_graph.proofs.SystemLemmas.{same_identity}
use Rattle.gptp_graph.proofs.LinkLemmas.{Joins-sym, Adjacent-sym, Adjacent-clock}
use Rattle.gptp_graph.proofs.BestLemmas.{IsBest-neighbour}
use Rattle.gptp_graph.proofs.PathLemmas.{Route-reverse, path_of}
use Rattle.gptp_graph.proofs.DistanceLemmas.{least_route, distance_from, IsDistance-clock, IsDistance-neighbour}
use Rattle.gptp_bmca_machine.specs.Frame.{Announce}
use Rattle.gptp_bmca_machine.specs.Clean.{Whole, CameSound, CameFits}
use Rattle.gptp_bmca_machine.specs.Station.{Reception}
use Rattle.gptp_graph.proofs.ExistenceLemmas.{distance_exists}
use Rattle.gptp_lists.proofs.ReverseLemmas.{In-reverse}
use Rattle.gptp_bmca_machine.proofs.TraceLemmas.{way_on}

-- the part of a route from one of its systems on
pub route_from : (g : Snapshot) (u end x : ℕ) (us : List ℕ) → Route g u end us → In x (u ∷ us)
    → (ts : List ℕ) × Route g x end ts × (length ts ≤ length us)
route_from g u end x us r (inl e) = (us, subst (λ y. Route g y end us) (sym e) r, omega arith)
route_from g u end x [] r (inr h) = absurd h
route_from g u end x (y ∷ ys) r (inr h) =
    let p = route_from g y end x ys r.1 h in
    let short : length p.0 ≤ length ys = p.2 in
    (p.0, p.1, omega arith)

module _ (g : Snapshot) (wf : IsWellFormed g) (u : ℕ) (a : Announce) (whole : Whole g u a) (best : System)
    (is_best : IsBest g u best) where
  -- its root isn't better than the best
  pub root_not_better : best.identity ≤ a.root
  root_not_better =
      subst (λ n. best.identity ≤ n) (sym whole.root)
      (is_best.least whole.first whole.known (whole.others, whole.way))

  -- where it names the best, every system of its trace is at most as far as the steps say
  pub steps_not_fewer : (x far : ℕ) → In x (u ∷ whole.others) → IsBest g x best → IsDistance g x far
      → a.root ≡ best.identity → far ≤ a.steps
  steps_not_fewer x far at is_best' there root = go (route_from g u whole.first.clock x whole.others whole.way.route at)
    where
      first : whole.first ≡ best
      first = same_identity g whole.first best wf whole.known is_best.live (sym whole.root ∙ root)

      go : ((ts : List ℕ) × Route g x whole.first.clock ts × (length ts ≤ length whole.others)) → far ≤ a.steps
      go (ts, route, short) =
          let (back, on, as_long) = Route-reverse g x whole.first.clock ts route in
          let least : far ≤ length back =
          least_route g best.clock x far back (distance_from g x far best wf is_best' there)
          (subst (λ (s : System). Route g s.clock x back) first on) in
          let steps : length whole.others ≡ a.steps = whole.steps in
          let same : length back ≡ length ts = as_long in
          omega arith

  -- and every other than its sender at fewer
  pub steps_more : (x far : ℕ) → In x whole.others → IsBest g x best → IsDistance g x far → a.root ≡ best.identity
      → far < a.steps
  steps_more x far at is_best' there root = by whole.others whole.way.route whole.steps at
    where
      first : whole.first ≡ best
      first = same_identity g whole.first best wf whole.known is_best.live (sym whole.root ∙ root)

      by : (us : List ℕ) → Route g u whole.first.clock us → length us ≡ a.steps → In x us → far < a.steps
      by [] route same none = absurd none
      by (y ∷ ys) route same among =
          let (ts, on, short) = route_from g y whole.first.clock x ys route.1 among in
          let (back, turned, as_long) = Route-reverse g x whole.first.clock ts on in
          let least : far ≤ length back =
          least_route g best.clock x far back (distance_from g x far best wf is_best' there)
          (subst (λ (s : System). Route g s.clock x back) first turned) in
          omega (arith, least, as_long, short, same)

  -- what stands in its trace stands there in reverse
  pub on_way : (x : ℕ) → In x a.path → In x (u ∷ whole.others)
  on_way x h = subst (In x) whole.is (In-reverse x a.path h)

  -- its trace has one member more than it has steps
  pub path_length : length a.path ≡ suc a.steps
  path_length = sym (length-reverse a.path) ∙ ap (λ (xs : List ℕ). length xs) whole.is ∙ ap suc whole.steps

-- Two neighbours that are equally far make a path longer than their distance: the one, then a shortest path from the
-- other to the best.
pub equal_within : (g : Snapshot) (m v u d : ℕ) → IsWellFormed g → BoundsPaths g m → Adjacent g v u → v ≢ u
    → IsDistance g v d → IsDistance g u d → suc d < m
equal_within g m v u d wf bounded joined apart here there = go back short
  where
    b : System
    b = here.best

    best_u : IsBest g u b
    best_u = IsBest-neighbour g v u b wf joined here.is_best

    from_u : IsDistanceFrom g b.clock u d
    from_u = distance_from g u d b wf best_u there

    back : (ts : List ℕ) × Route g u b.clock ts × (length ts ≡ length from_u.path.0)
    back = Route-reverse g b.clock u from_u.path.0 from_u.path.1.route

    short : (ts : List ℕ) × IsPath g u b.clock ts × (length ts ≤ length back.0)
    short = path_of g u b.clock back.0 (Adjacent-clock g v u wf joined) back.1

    go : ((ts : List ℕ) × Route g u b.clock ts × (length ts ≡ length from_u.path.0))
        → ((ts : List ℕ) × IsPath g u b.clock ts × (length ts ≤ length back.0)) → suc d < m
    go (ts, route, same) (xs, path, few) =
        let long = no_shorter u from_u xs path.route in
        let less : suc (length xs) < m =
        bounded v b.clock (u ∷ xs)
        (way_on g v u b.clock xs path (IsDistance-clock g v d wf here) joined (out xs path.route below)) in
        omega arith
      where
        below : length xs ≤ d
        below =
            let one : length from_u.path.0 ≡ d = from_u.path.2 in
            let two : length back.0 ≡ length from_u.path.0 = back.2 in
            omega arith

        -- a route to the best isn't shorter than the distance
        no_shorter : (x : ℕ) → IsDistanceFrom g b.clock x d → (zs : List ℕ) → Route g x b.clock zs → d ≤ length zs
        no_shorter x from zs r =
            let (ys, turned, as_long) = Route-reverse g x b.clock zs r in
            let least : d ≤ length ys = least_route g b.clock x d ys from turned in
            omega arith

        out : (zs : List ℕ) → Route g u b.clock zs → length zs ≤ d → In v (u ∷ zs) → ⊥
        out zs r within (inl e) = apart e
        out [] r within (inr h) = h
        out (y ∷ ys) r within (inr h) =
            let (ts', route', shorter) = route_from g y b.clock v ys r.1 h in
            let least : d ≤ length ts' = no_shorter v (distance_from g v d b wf here.is_best here) ts' route' in
            absurd (omega arith)

-- what came over a link and is sound fits
pub came_fits : (g : Snapshot) (c n : ℕ) (r : Reception) → IsWellFormed g → CameSound g c n r → CameFits g c n r
came_fits g c n r wf came = record {
  over = λ linked. record { from = came.from; joins = came.joins; source = came.source; sender = sender };
  fits = record {
    root = λ best is_best. elim came.sound [
      | inl worse ↦ let above : best.identity < r.said.root = worse best (there best is_best) in omega arith
      | inr whole ↦ root_not_better g wf came.from.clock r.said whole best (there best is_best)
    ];
    here = λ best far is_best root here. by best far is_best root here
        (distance_exists g came.from.clock wf (Adjacent-clock g c came.from.clock wf joined));
    members = λ best x far is_best root among is_best' far_is. elim came.sound [
      | inl worse ↦ absurd (let above : best.identity < r.said.root = worse best (there best is_best) in omega arith)
      | inr whole ↦ steps_not_fewer g wf came.from.clock r.said whole best (there best is_best) x far
          (on_way g wf came.from.clock r.said whole best (there best is_best) x among) is_best' far_is root
    ];
    long = λ best is_best root. elim came.sound [
      | inl worse ↦ absurd (let above : best.identity < r.said.root = worse best (there best is_best) in omega arith)
      | inr whole ↦ path_length g wf came.from.clock r.said whole best (there best is_best)
    ];
  };
}
  where
    joined : Adjacent g c came.from.clock
    joined = (n, came.from.port, Joins-sym g came.from (port_of c n) came.joins)

    there : (best : System) → IsBest g c best → IsBest g came.from.clock best
    there best is_best = IsBest-neighbour g c came.from.clock best wf joined is_best

    sender : (best : System) (far : ℕ) → IsBest g c best → r.said.root ≡ best.identity
        → IsDistance g came.from.clock far → far ≤ r.said.steps
    sender best far is_best root far_is = elim came.sound [
      | inl worse ↦ absurd (let above : best.identity < r.said.root = worse best (there best is_best) in omega arith)
      | inr whole ↦ steps_not_fewer g wf came.from.clock r.said whole best (there best is_best) came.from.clock far
          (inl refl) (there best is_best) far_is root
    ]

    by : (best : System) (far : ℕ) → IsBest g c best → r.said.root ≡ best.identity → IsDistance g c far
        → ((e : ℕ) × IsDistance g came.from.clock e) → far ≤ suc r.said.steps
    by best far is_best root here (e, e_is) =
        let least : e ≤ r.said.steps = sender best e is_best root e_is in
        let near : far ≤ suc e =
        IsDistance-neighbour g came.from.clock c e far wf (Adjacent-sym g c came.from.clock joined) e_is here in
        omega arith
