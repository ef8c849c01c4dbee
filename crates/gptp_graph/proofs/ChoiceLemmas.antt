-- Every snapshot has one settled choice, up to the order of its lines.
use Rattle.std.proofs.Common.{◌≡◌, ◌+◌, ◌<◌, ◌≤◌, ℕ, zero, suc, Bool, true, false, List, [], ◌∷◌, map, Option, Some, None, refl, sym, ap, ap₂, subst, ◌∙◌, inl, inr, arith}
use Rattle.std.specs.List.{range_with_len}
use native.Mathlib.Decide.{dec_lt}
use Rattle.gptp_lists.specs.Members.{In}
use Rattle.gptp_graph.specs.Order.{IsRising}
use Rattle.gptp_graph.specs.Snapshot.{System, Snapshot, IsWellFormed, clocks, port_of}
use Rattle.gptp_graph.specs.Best.{IsBest}
use Rattle.gptp_graph.specs.Distance.{IsDistance}
use Rattle.gptp_graph.specs.Parent.{ParentLink}
use Rattle.gptp_graph.specs.SettledRole.{IsSettledRole}
use Rattle.gptp_graph.specs.Labelling.{PortLine, SystemLine, line_clocks, port_numbers, IsBare, IsLineOf, HasItsSystems}
use Rattle.gptp_graph.specs.SettledChoice.{IsParentIfAny, IsSettledLine, IsSettledChoice}
use Rattle.gptp_graph.proofs.RisingLemmas.{Different-rising, IsArranged, arranged, same_rising}
use Rattle.gptp_graph.proofs.SystemLemmas.{In-clocks, same_clock}
use Rattle.gptp_graph.proofs.BestLemmas.{IsBest-unique}
use Rattle.gptp_graph.proofs.DistanceLemmas.{IsDistance-unique}
use Rattle.gptp_graph.proofs.ExistenceLemmas.{best_exists, distance_exists}
use Rattle.gptp_graph.proofs.ParentLemmas.{parent_exists, IsParent-unique, no_parent_at_zero}
use Rattle.gptp_graph.proofs.RoleLemmas.{RoleBy-unique, settled_role_exists}

-- the parent, or none
parent_if_any : (g : Snapshot) (v d : ℕ) → IsWellFormed g → IsDistance g v d
    → (o : Option ParentLink) × IsParentIfAny g v o
parent_if_any g v zero wf here = (None, λ l is. no_parent_at_zero g v l wf here is)
parent_if_any g v (suc d) wf here = let p = parent_exists g v d wf here in (Some p.0, p.1)

-- the ports from number k on, n of them, with their roles
record HasPorts (g : Snapshot) (v k n : ℕ) : Type 0 where
  ports : List PortLine
  numbers : map (λ (port : PortLine). port.number) ports ≡ range_with_len k n
  roles : (port : PortLine) → In port ports → IsSettledRole g (port_of v port.number) port.role

-- every system has such ports
ports_exist : (g : Snapshot) (v k n : ℕ) → IsWellFormed g → In v (clocks g) → HasPorts g v k n
ports_exist g v k zero wf here = record { ports = []; numbers = refl; roles = λ port h. absurd h }
ports_exist g v k (suc n) wf here =
    let (role, is) = settled_role_exists g (port_of v k) wf here in
    let rest = ports_exist g v (k + 1) n wf here in
    let first : PortLine = record { number = k; role = role } in
    record {
      ports = first ∷ rest.ports;
      numbers = ap (λ (ns : List ℕ). k ∷ ns) rest.numbers;
      roles = λ port h. elim h [
        | inl e ↦ subst (λ (p : PortLine). IsSettledRole g (port_of v p.number) p.role) (sym e) is
        | inr i ↦ rest.roles port i
      ];
    }

-- the line states the settled choice of the system s
record IsSettledLineOf (g : Snapshot) (s : System) (line : SystemLine) : Type 0 where
  clock : line.clock ≡ s.clock
  ports : line.far ≡ false → port_numbers line ≡ range_with_len 1 s.ports
  bare : line.far ≡ true → IsBare line
  settled : IsSettledLine g line

-- a system at a distance below 255 has such a line
near_line : (g : Snapshot) (s best : System) (d : ℕ) → IsWellFormed g → In s g.systems → IsBest g s.clock best
    → IsDistance g s.clock d → d < 255 → (line : SystemLine) × IsSettledLineOf g s line
near_line g s best d wf live is_best is_distance below =
    let (parent, is_parent) = parent_if_any g s.clock d wf is_distance in
    let p = ports_exist g s.clock 1 s.ports wf (In-clocks g s live) in (
      record { clock = s.clock; root = best.identity; steps = d; far = false; parent = parent; ports = p.ports },
      record {
        clock = refl;
        ports = λ near. p.numbers;
        bare = λ e. absurd cc;
        settled = record {
          root = (best, is_best, refl);
          steps = is_distance;
          near = λ near. below;
          far = λ e. absurd cc;
          parent = λ near. is_parent;
          roles = p.roles;
        };
      },
    )

-- and one at a distance of 255 or more
far_line : (g : Snapshot) (s best : System) (d : ℕ) → IsBest g s.clock best → IsDistance g s.clock d
    → (d < 255 → ⊥) → (line : SystemLine) × IsSettledLineOf g s line
far_line g s best d is_best is_distance above = (
  record { clock = s.clock; root = best.identity; steps = d; far = true; parent = None; ports = [] },
  record {
    clock = refl;
    ports = λ e. absurd cc;
    bare = λ far. record { parent = refl; ports = refl };
    settled = record {
      root = (best, is_best, refl);
      steps = is_distance;
      near = λ e. absurd cc;
      far = λ far. omega arith;
      parent = λ e. absurd cc;
      roles = λ port at. absurd at;
    };
  },
)

-- so every system has one
line_exists : (g : Snapshot) (s : System) → IsWellFormed g → In s g.systems
    → (line : SystemLine) × IsSettledLineOf g s line
line_exists g s wf live =
    let here = In-clocks g s live in
    let (best, is_best) = best_exists g s.clock wf here in
    let (d, is_distance) = distance_exists g s.clock wf here in
    elim (dec_lt d 255) [
      | yes below ↦ near_line g s best d wf live is_best is_distance below
      | no above ↦ far_line g s best d is_best is_distance above
    ]

-- a line for each system of a list
record HasLines (g : Snapshot) (systems : List System) : Type 0 where
  lines : List SystemLine
  clocks : line_clocks lines ≡ map (λ (s : System). s.clock) systems
  all : (s : System) → In s systems → (line : SystemLine) × In line lines × IsSettledLineOf g s line
  no_other : (line : SystemLine) → In line lines → (s : System) × In s systems × IsSettledLineOf g s line

-- every list of live systems has such lines
lines_exist : (g : Snapshot) (systems : List System) → IsWellFormed g
    → ((s : System) → In s systems → In s g.systems) → HasLines g systems
lines_exist g [] wf live = record { lines = []; clocks = refl; all = λ s h. absurd h; no_other = λ line h. absurd h }
lines_exist g (s ∷ systems) wf live =
    add (line_exists g s wf (live s (inl refl))) (lines_exist g systems wf (λ t h. live t (inr h)))
  where
    add : ((line : SystemLine) × IsSettledLineOf g s line) → HasLines g systems → HasLines g (s ∷ systems)
    add (line, is) rest = record {
      lines = line ∷ rest.lines;
      clocks = ap₂ (λ (c : ℕ) (cs : List ℕ). c ∷ cs) is.clock rest.clocks;
      all = λ t h. elim h [
        | inl e ↦ (line, inl refl, subst (λ u. IsSettledLineOf g u line) (sym e) is)
        | inr i ↦ (let (other, at, of) = rest.all t i in (other, inr at, of))
      ];
      no_other = λ other h. elim h [
        | inl e ↦ (s, inl refl, subst (IsSettledLineOf g s) (sym e) is)
        | inr i ↦ (let (t, at, of) = rest.no_other other i in (t, inr at, of))
      ];
    }

-- every snapshot has a settled choice with its lines by rising clock
pub choice_exists : (g : Snapshot) → IsWellFormed g
    → (lines : List SystemLine) × IsSettledChoice g lines × IsRising (line_clocks lines)
choice_exists g wf = from_systems (arranged (λ (s : System). s.clock) g.systems wf.different)
  where
    from_systems : ((systems : List System) × IsArranged (λ (s : System). s.clock) g.systems systems)
        → (lines : List SystemLine) × IsSettledChoice g lines × IsRising (line_clocks lines)
    from_systems (systems, is) =
        (made.lines, record { systems = its_systems; settled = λ line h. (made.no_other line h).2.settled }, rising)
      where
        made : HasLines g systems
        made = lines_exist g systems wf is.no_other

        rising : IsRising (line_clocks made.lines)
        rising = subst IsRising (sym made.clocks) is.rising

        its_systems : HasItsSystems g made.lines
        its_systems = record {
          different = Different-rising (line_clocks made.lines) rising;
          all =
              λ s live. (let (line, at, of) = made.all s (is.kept s live) in
              (line, record { live = live; stated = at; clock = of.clock }));
          no_other =
              λ line h. (let (s, at, of) = made.no_other line h in
              (s, record { live = is.no_other s at; stated = h; clock = of.clock }));
          ports = λ s line of near.
              let (t, at, is_of) = made.no_other line of.stated in
              let same : t ≡ s = same_clock g t s wf (is.no_other t at) of.live (sym is_of.clock ∙ of.clock) in
              subst (λ (u : System). port_numbers line ≡ range_with_len 1 u.ports) same (is_of.ports near);
          bare = λ line h. (made.no_other line h).2.bare;
        }

-- the parent, or none, is one
IsParentIfAny-unique : (g : Snapshot) (v : ℕ) (o p : Option ParentLink) → IsParentIfAny g v o
    → IsParentIfAny g v p → o ≡ p
IsParentIfAny-unique g v (Some l) (Some k) h j = ap (λ (x : ParentLink). Some x) (IsParent-unique g v l k h j)
IsParentIfAny-unique g v (Some l) None h j = absurd (j l h)
IsParentIfAny-unique g v None (Some k) h j = absurd (h k j)
IsParentIfAny-unique g v None None h j = refl

-- ports with the same numbers and settled roles are the same
same_ports : (g : Snapshot) (v : ℕ) (ps qs : List PortLine)
    → map (λ (port : PortLine). port.number) ps ≡ map (λ (port : PortLine). port.number) qs
    → ((port : PortLine) → In port ps → IsSettledRole g (port_of v port.number) port.role)
    → ((port : PortLine) → In port qs → IsSettledRole g (port_of v port.number) port.role) → ps ≡ qs
same_ports g v [] [] e h k = refl
same_ports g v [] (q ∷ qs) e h k = absurd cc
same_ports g v (p ∷ ps) [] e h k = absurd cc
same_ports g v (p ∷ ps) (q ∷ qs) e h k =
    ap₂ (λ (x : PortLine) (xs : List PortLine). x ∷ xs) heads
    (same_ports g v ps qs tails (λ port i. h port (inr i)) (λ port i. k port (inr i)))
  where
    number : p.number ≡ q.number
    number = cc

    tails : map (λ (port : PortLine). port.number) ps ≡ map (λ (port : PortLine). port.number) qs
    tails = cc

    role : p.role ≡ q.role
    role =
        RoleBy-unique _ _ _ p.role q.role (h p (inl refl))
        (subst (λ n. IsSettledRole g (port_of v n) q.role) (sym number) (k q (inl refl)))

    heads : p ≡ q
    heads i = record { number = number i; role = role i }

-- below 255 a line isn't far, and from there on it is
same_far : (a b : Bool) (n : ℕ) → (a ≡ false → n < 255) → (a ≡ true → 255 ≤ n) → (b ≡ false → n < 255)
    → (b ≡ true → 255 ≤ n) → a ≡ b
same_far true true n a_near a_far b_near b_far = refl
same_far false false n a_near a_far b_near b_far = refl
same_far true false n a_near a_far b_near b_far =
    absurd (let above = a_far refl in let below = b_near refl in omega arith)
same_far false true n a_near a_far b_near b_far =
    absurd (let below = a_near refl in let above = b_far refl in omega arith)

-- two settled lines of one system are one
same_settled_line : (g : Snapshot) (s : System) (one two : SystemLine) → IsWellFormed g → IsSettledLineOf g s one
    → IsSettledLineOf g s two → one ≡ two
same_settled_line g s one two wf one_of two_of =
    λ i. record { clock = clock i; root = root i; steps = steps i; far = far i; parent = parent i; ports = ports i }
  where
    h : IsSettledLine g one
    h = one_of.settled

    k : IsSettledLine g two
    k = two_of.settled

    clock : one.clock ≡ two.clock
    clock = one_of.clock ∙ sym two_of.clock

    root : one.root ≡ two.root
    root =
        let (a, is_a, ra) = h.root in
        let (b, is_b, rb) = k.root in
        ra ∙ ap (λ (s : System). s.identity)
        (IsBest-unique g two.clock a b wf (subst (λ v. IsBest g v a) clock is_a) is_b) ∙ sym rb

    steps : one.steps ≡ two.steps
    steps =
        IsDistance-unique g two.clock one.steps two.steps wf
        (subst (λ v. IsDistance g v one.steps) clock h.steps) k.steps

    far : one.far ≡ two.far
    far =
        same_far one.far two.far two.steps (λ e. subst (λ n. n < 255) steps (h.near e))
        (λ e. subst (λ n. 255 ≤ n) steps (h.far e)) k.near k.far

    parent : one.parent ≡ two.parent
    parent = by_far one.far refl
      where
        by_far : (is : Bool) → one.far ≡ is → one.parent ≡ two.parent
        by_far true e = (one_of.bare e).parent ∙ sym (two_of.bare (sym far ∙ e)).parent
        by_far false e =
            IsParentIfAny-unique g two.clock one.parent two.parent
            (subst (λ v. IsParentIfAny g v one.parent) clock (h.parent e)) (k.parent (sym far ∙ e))

    ports : one.ports ≡ two.ports
    ports = by_far one.far refl
      where
        by_far : (is : Bool) → one.far ≡ is → one.ports ≡ two.ports
        by_far true e = (one_of.bare e).ports ∙ sym (two_of.bare (sym far ∙ e)).ports
        by_far false e =
            same_ports g two.clock one.ports two.ports (one_of.ports e ∙ sym (two_of.ports (sym far ∙ e)))
            (λ port i. subst (λ v. IsSettledRole g (port_of v port.number) port.role) clock
            (h.roles port i)) k.roles

-- each line of a settled choice is settled
settled_line_of : (g : Snapshot) (lines : List SystemLine) → IsSettledChoice g lines → (s : System)
    (line : SystemLine) → IsLineOf g lines s line → IsSettledLineOf g s line
settled_line_of g lines h s line of = record {
  clock = of.clock;
  ports = h.systems.ports s line of;
  bare = h.systems.bare line of.stated;
  settled = h.settled line of.stated;
}

-- two settled choices have the same lines
pub same_lines : (g : Snapshot) (xs ys : List SystemLine) → IsWellFormed g → IsSettledChoice g xs
    → IsSettledChoice g ys → (line : SystemLine) → In line xs → In line ys
same_lines g xs ys wf h k line at =
    let (s, of) = h.systems.no_other line at in
    let (other, of_other) = k.systems.all s of.live in
    let same = same_settled_line g s line other wf (settled_line_of g xs h s line of)
    (settled_line_of g ys k s other of_other) in
    subst (λ l. In l ys) (sym same) of_other.stated

-- two settled choices by rising clock are one
pub same_choice : (g : Snapshot) (xs ys : List SystemLine) → IsWellFormed g → IsSettledChoice g xs
    → IsSettledChoice g ys → IsRising (line_clocks xs) → IsRising (line_clocks ys) → xs ≡ ys
same_choice g xs ys wf h k a b =
    same_rising (λ (l : SystemLine). l.clock) xs ys a b (same_lines g xs ys wf h k) (same_lines g ys xs wf k h)
