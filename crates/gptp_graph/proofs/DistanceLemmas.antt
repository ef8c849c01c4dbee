-- Distances: each is one number, below the number of systems, and falls by one step at a time toward the best.
use Rattle.std.proofs.Common.{◌≡◌, ◌≤◌, ◌<◌, ◌++◌, ℕ, suc, List, [], ◌∷◌, length, refl, subst, ◌∙◌, arith, length-append}
use Rattle.gptp_lists.specs.Members.{In}
use Rattle.gptp_graph.specs.Snapshot.{System, Snapshot, IsWellFormed, clocks, Adjacent}
use Rattle.gptp_graph.specs.Path.{Route}
use Rattle.gptp_graph.specs.Best.{IsBest}
use Rattle.gptp_graph.specs.Distance.{IsDistanceFrom, IsDistance}
use Rattle.gptp_graph.proofs.LinkLemmas.{Adjacent-sym}
use Rattle.gptp_graph.proofs.SystemLemmas.{In-clocks}
use Rattle.gptp_graph.proofs.PathLemmas.{Route-append, Route-reverse, path_of, path_bounded, IsPath-self, Reaches-clock}
use Rattle.gptp_graph.proofs.BestLemmas.{IsBest-unique, IsBest-neighbour}

-- no route is shorter than the distance
pub least_route : (g : Snapshot) (b v d : ℕ) (us : List ℕ) → IsDistanceFrom g b v d → Route g b v us
    → d ≤ length us
least_route g b v d us h r =
    let p = path_of g b v us h.path.1.begins r in
    let least : d ≤ length p.0 = h.least p.0 p.1 in
    let shorter : length p.0 ≤ length us = p.2 in
    omega arith

-- there is one least length
pub IsDistanceFrom-unique : (g : Snapshot) (b v d e : ℕ) → IsDistanceFrom g b v d → IsDistanceFrom g b v e
    → d ≡ e
IsDistanceFrom-unique g b v d e h k =
    let below : d ≤ length k.path.0 = h.least k.path.0 k.path.1 in
    let above : e ≤ length h.path.0 = k.least h.path.0 h.path.1 in
    let dp : length h.path.0 ≡ d = h.path.2 in
    let ep : length k.path.0 ≡ e = k.path.2 in
    omega arith

-- a distance is the least length from whatever system is the best
pub distance_from : (g : Snapshot) (v d : ℕ) (b : System) → IsWellFormed g → IsBest g v b → IsDistance g v d
    → IsDistanceFrom g b.clock v d
distance_from g v d b wf h k =
    subst (λ (s : System). IsDistanceFrom g s.clock v d) (IsBest-unique g v k.best b wf k.is_best h) k.from_best

-- a system has one distance at most
pub IsDistance-unique : (g : Snapshot) (v d e : ℕ) → IsWellFormed g → IsDistance g v d → IsDistance g v e
    → d ≡ e
IsDistance-unique g v d e wf h k =
    IsDistanceFrom-unique g k.best.clock v d e (distance_from g v d k.best wf k.is_best h) k.from_best

-- a distance is below the number of systems
pub IsDistance-bounded : (g : Snapshot) (v d : ℕ) → IsWellFormed g → IsDistance g v d → d < length g.systems
IsDistance-bounded g v d wf h =
    let path = h.from_best.path in
    subst (λ n. n < length g.systems) path.2 (path_bounded g h.best.clock v path.0 wf path.1)

-- what has a distance is a system
pub IsDistance-clock : (g : Snapshot) (v d : ℕ) → IsWellFormed g → IsDistance g v d → In v (clocks g)
IsDistance-clock g v d wf h = Reaches-clock g h.best.clock v wf (h.from_best.path.0, h.from_best.path.1)

-- a neighbour is at most one step farther
pub IsDistance-neighbour : (g : Snapshot) (v w d e : ℕ) → IsWellFormed g → Adjacent g v w → IsDistance g v d
    → IsDistance g w e → e ≤ suc d
IsDistance-neighbour g v w d e wf a h k =
    let b = k.best in
    let from = distance_from g v d b wf (IsBest-neighbour g w v b wf (Adjacent-sym g v w a) k.is_best) h in
    let path = from.path in
    let on : Route g b.clock w (path.0 ++ w ∷ []) =
    Route-append g b.clock v w path.0 (w ∷ []) path.1.route (a, refl) in
    let least : e ≤ length (path.0 ++ w ∷ []) = least_route g b.clock w e (path.0 ++ w ∷ []) k.from_best on in
    let long : length path.0 ≡ d = path.2 in
    omega (arith, length-append path.0 (w ∷ []))

-- the last step of a route: the system before its end
pub step_before : (g : Snapshot) (b v n : ℕ) (us : List ℕ) → Route g b v us → length us ≡ suc n
    → (w : ℕ) × Adjacent g v w × ((ts : List ℕ) × Route g b w ts × (length ts ≡ n))
step_before g b v n us r long = go back.0 back.1 (back.2 ∙ long)
  where
    back : (ts : List ℕ) × Route g v b ts × (length ts ≡ length us)
    back = Route-reverse g b v us r

    go : (ts : List ℕ) → Route g v b ts → length ts ≡ suc n
        → (w : ℕ) × Adjacent g v w × ((xs : List ℕ) × Route g b w xs × (length xs ≡ n))
    go [] r e = absurd cc
    go (w ∷ ts) r e =
        let on = Route-reverse g w b ts r.1 in
        let same : length ts ≡ n = omega arith in
        (w, r.0, (on.0, on.1, on.2 ∙ same))

-- the neighbour before the end of a least path is one step nearer
pub IsDistanceFrom-before : (g : Snapshot) (b v w n : ℕ) (ts : List ℕ) → IsDistanceFrom g b v (suc n)
    → Adjacent g v w → Route g b w ts → length ts ≡ n
    → IsDistanceFrom g b w n
IsDistanceFrom-before g b v w n ts h a r long =
    let p = path_of g b w ts h.path.1.begins r in
    let shorter : length p.0 ≤ length ts = p.2 in
    let least = one_less g b v w n h a in
    let exact : length p.0 ≡ n = let l : n ≤ length p.0 = least p.0 p.1.route in omega arith in
    record { path = (p.0, p.1, exact); least = λ us q. least us q.route }
  where
    one_less : (g : Snapshot) (b v w n : ℕ) → IsDistanceFrom g b v (suc n) → Adjacent g v w → (us : List ℕ)
        → Route g b w us → n ≤ length us
    one_less g b v w n h a us r =
        let on : Route g b v (us ++ v ∷ []) = Route-append g b w v us (v ∷ []) r (Adjacent-sym g v w a, refl) in
        let least : suc n ≤ length (us ++ v ∷ []) = least_route g b v (suc n) (us ++ v ∷ []) h on in
        omega (arith, length-append us (v ∷ []))

-- a system that isn't best has a neighbour one step nearer
pub nearer_neighbour : (g : Snapshot) (v n : ℕ) → IsWellFormed g → IsDistance g v (suc n)
    → (w : ℕ) × Adjacent g v w × IsDistance g w n
nearer_neighbour g v n wf h =
    let b = h.best in
    let path = h.from_best.path in
    let s = step_before g b.clock v n path.0 path.1.route path.2 in
    let from = IsDistanceFrom-before g b.clock v s.0 n s.2.0 h.from_best s.1 s.2.1 s.2.2 in
    (s.0, s.1, record { best = b; is_best = IsBest-neighbour g v s.0 b wf s.1 h.is_best; from_best = from })

-- the best is at distance zero
pub IsDistance-best : (g : Snapshot) (b : System) → IsBest g b.clock b → IsDistance g b.clock 0
IsDistance-best g b h =
    let here = IsPath-self g b.clock (In-clocks g b h.live) in
    record { best = b; is_best = h; from_best = record { path = ([], here, refl); least = λ us p. omega arith } }

-- at distance zero stands the best
pub best_at_zero : (g : Snapshot) (v : ℕ) (b : System) → IsWellFormed g → IsBest g v b → IsDistance g v 0
    → b.clock ≡ v
best_at_zero g v b wf h k =
    let from = distance_from g v 0 b wf h k in
    go from.path.0 from.path.1.route from.path.2
  where
    go : (us : List ℕ) → Route g b.clock v us → length us ≡ 0 → b.clock ≡ v
    go [] r e = r
    go (u ∷ us) r e = absurd cc
