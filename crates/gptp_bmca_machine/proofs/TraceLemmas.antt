-- Traces that are clean by some members or wholly: a system that follows one and adds itself makes it longer by one.
use Rattle.std.proofs.Common.{◌≡◌, ◌≤◌, ◌<◌, ◌++◌, ℕ, zero, suc, take, drop, List, [], ◌∷◌, length, refl, reverse, sym, ap, subst, ◌∙◌, arith}
use Rattle.std.proofs.lemmas.List.{reverse-reverse, take-append-le, length-take-le, take-append-drop}
use Rattle.gptp_lists.specs.Members.{In, Different}
use Rattle.gptp_graph.specs.Snapshot.{System, Snapshot, clocks, Adjacent}
use Rattle.gptp_graph.specs.Path.{Route, IsPath}
use Rattle.gptp_graph.specs.PathBound.{BoundsPaths}
use Rattle.gptp_graph.proofs.SystemLemmas.{In-clocks}
use Rattle.gptp_graph.proofs.PathLemmas.{IsPath-self}
use Rattle.gptp_lists.proofs.SystemSpecLemmas.{In-left, In-take}
use Rattle.gptp_bmca_machine.specs.Frame.{Announce}
use Rattle.gptp_bmca_machine.specs.Clean.{Clean, Whole}
use Rattle.gptp_bmca_machine.specs.CleanLaws.{EndsInPath}
use Rattle.gptp_lists.proofs.ReverseLemmas.{In-reverse, reverse-end}

-- what isn't in a trace isn't among its last members
not_behind : (v : ℕ) (trace xs older : List ℕ) → reverse trace ≡ xs ++ older → (In v trace → ⊥) → In v xs → ⊥
not_behind v trace xs older e out h =
    out (subst (In v) (reverse-reverse trace)
    (In-reverse v (reverse trace) (subst (In v) (sym e) (In-left v xs older h))))

-- a path of which a system is no member goes on to that system, where it is joined to the path's begin
pub way_on : (g : Snapshot) (v u end : ℕ) (us : List ℕ) → IsPath g u end us → In v (clocks g) → Adjacent g v u
    → (In v (u ∷ us) → ⊥) → IsPath g v end (u ∷ us)
way_on g v u end us way here joined out = record {
  begins = here;
  route = (joined, way.route);
  different = (out, way.different);
}

-- the last member alone
pub clean_first : (g : Snapshot) (u : ℕ) (trace older : List ℕ) → In u (clocks g) → reverse trace ≡ u ∷ older
    → Clean g 1 u trace
clean_first g u trace older here e = record {
  others = [];
  older = older;
  end = u;
  is = e;
  way = IsPath-self g u here;
  long = omega arith;
}

-- one member more
pub clean_on : (g : Snapshot) (m v u : ℕ) (trace : List ℕ) → Clean g m u trace → In v (clocks g) → Adjacent g v u
    → (In v trace → ⊥) → Clean g (suc m) v (trace ++ v ∷ [])
clean_on g m v u trace h here joined out = record {
  others = u ∷ h.others;
  older = h.older;
  end = h.end;
  is = reverse-end v trace (u ∷ (h.others ++ h.older)) h.is;
  way = way_on g v u h.end h.others h.way here joined (not_behind v trace (u ∷ h.others) h.older h.is out);
  long = let l : m ≤ suc (length h.others) = h.long in omega arith;
}

-- the trace of a system that is its own root is wholly clean
pub whole_own : (g : Snapshot) (s : System) (a : Announce) → In s g.systems → a.root ≡ s.identity → a.steps ≡ 0
    → a.path ≡ s.clock ∷ [] → Whole g s.clock a
whole_own g s a live root steps path = record {
  others = [];
  first = s;
  is = ap (λ (xs : List ℕ). reverse xs) path;
  way = IsPath-self g s.clock (In-clocks g s live);
  known = live;
  root = root;
  steps = sym steps;
}

-- so is that of a system that follows a wholly clean one
pub whole_on : (g : Snapshot) (v u : ℕ) (a b : Announce) → Whole g u a → In v (clocks g) → Adjacent g v u
    → (In v a.path → ⊥) → b.root ≡ a.root → b.steps ≡ suc a.steps → b.path ≡ a.path ++ v ∷ []
    → Whole g v b
whole_on g v u a b h here joined out root steps path = record {
  others = u ∷ h.others;
  first = h.first;
  is = ap (λ (xs : List ℕ). reverse xs) path ∙ reverse-end v a.path (u ∷ h.others) h.is;
  way = way_on g v u h.first.clock h.others h.way here joined (λ k. not_on k);
  known = h.known;
  root = root ∙ h.root;
  steps = ap suc h.steps ∙ sym steps;
}
  where
    not_on : In v (u ∷ h.others) → ⊥
    not_on k =
        out (subst (In v) (reverse-reverse a.path) (In-reverse v (reverse a.path) (subst (In v) (sym h.is) k)))

-- as many clean members as a path may have, and one more system joined to them, would be too many
pub not_all_clean : (g : Snapshot) (m v u : ℕ) (trace : List ℕ) → BoundsPaths g m → Clean g m u trace
    → In v (clocks g) → Adjacent g v u → (In v trace → ⊥) → ⊥
not_all_clean g m v u trace bounded h here joined out =
    let way = way_on g v u h.end h.others h.way here joined (not_behind v trace (u ∷ h.others) h.older h.is out) in
    let fits : length (u ∷ h.others) < m = bounded v h.end (u ∷ h.others) way in
    let long : m ≤ suc (length h.others) = h.long in
    absurd (omega arith)

-- the front of a route ends somewhere
route_front : (g : Snapshot) (v w : ℕ) (us : List ℕ) (m : ℕ) → Route g v w us
    → (end : ℕ) × Route g v end (take m us)
route_front g v w us zero r = (v, refl)
route_front g v w [] (suc m) r = (w, r)
route_front g v w (u ∷ us) (suc m) (first, rest) =
    let (end, on) = route_front g u w us m rest in
    (end, (first, on))

-- what differs in a list differs in its front
different_front : (xs : List ℕ) (m : ℕ) → Different xs → Different (take m xs)
different_front xs zero d = tt
different_front [] (suc m) d = d
different_front (x ∷ xs) (suc m) (out, rest) = (λ h. out (In-take x m xs h), different_front xs m rest)

-- the last members of a trace that is clean by so many are a path, and what ends in such a path is clean by as many
pub ends_in_path : (g : Snapshot) (m u : ℕ) (trace : List ℕ) → Clean g (suc m) u trace → EndsInPath g m u trace
ends_in_path g m u trace h =
    let long : suc m ≤ suc (length h.others) = h.long in
    let within : m ≤ length h.others = omega arith in
    let (end, route) = route_front g u h.end h.others m h.way.route in (
      take m h.others,
      end,
      ap (λ (xs : List ℕ). take (suc m) xs) h.is
          ∙ ap (λ (xs : List ℕ). u ∷ xs) (take-append-le m h.others h.older within),
      length-take-le m h.others within,
      record {
        begins = h.way.begins;
        route = route;
        different = different_front (u ∷ h.others) (suc m) h.way.different;
      },
    )

pub clean_of_path : (g : Snapshot) (m u : ℕ) (trace : List ℕ) → EndsInPath g m u trace → Clean g (suc m) u trace
clean_of_path g m u trace (others, end, is, long, way) = record {
  others = others;
  older = drop (suc m) (reverse trace);
  end = end;
  is = sym (take-append-drop (suc m) (reverse trace))
      ∙ ap (λ (xs : List ℕ). xs ++ drop (suc m) (reverse trace)) is;
  way = way;
  long = omega arith;
}
