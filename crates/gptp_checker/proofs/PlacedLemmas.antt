-- Each first fault of a certificate has a place.
use Rattle.std.proofs.Common.{◌≡◌, ◌⊎◌, ◌+◌, ℕ, false, List, [], ◌∷◌, ◌++◌, Option, Some, None, refl, sym, subst, ◌∙◌, inl, inr, arith}
use Rattle.std.specs.List.{range_with_len}
use native.Mathlib.Decide.{ℕ_discrete, dec_le}
use Rattle.gptp_lists.specs.Members.{In}
use Rattle.gptp_lists.proofs.SystemSpecLemmas.{In-left, In-map, In-right}
use Rattle.gptp_graph.specs.Labelling.{PortLine, SystemLine, line_clocks, port_numbers}
use Rattle.gptp_graph.specs.LocalTests.{HasStatedRole, PassesLink, PassesSystems}
use Rattle.gptp_graph.specs.Order.{IsLower, IsRising}
use Rattle.gptp_graph.specs.Parent.{ParentLink}
use Rattle.gptp_graph.specs.Snapshot.{IsLinked, IsWellFormed, Link as GraphLink, PortIdentity, Snapshot, System as LiveSystem, clocks, port_of}
use Rattle.gptp_graph.proofs.DecisionLemmas.{any_dec, dec_both, dec_either, dec_iff, in_dec, least_number}
use Rattle.gptp_graph.proofs.LinkDecisions.{IsLinked-dec, Joins-dec}
use Rattle.gptp_graph.proofs.OrderLemmas.{IsLeastIn, least_member}
use Rattle.gptp_network.specs.Snapshot.{port_identity}
use Rattle.gptp_vector.specs.declared.port.PortId.{PortId}
use Rattle.gptp_certificate_text.specs.Certificate.{IsCertificate}
use Rattle.gptp_checker.specs.declared.fault.Fault.{Fault}
use Rattle.gptp_checker.specs.declared.fault.Fault.TheVariants as faults
use Rattle.gptp_checker.specs.declared.line_test.LineTest.{LineTest}
use Rattle.gptp_checker.specs.declared.line_test.LineTest.TheVariants as tests
use Rattle.gptp_checker.specs.declared.location.Location.{Location}
use Rattle.gptp_checker.specs.declared.location.Location.TheVariants.{System, Link, Port}
use Rattle.gptp_checker.specs.Faults.{IsFirstFault, test_of}
use Rattle.gptp_checker.specs.LineTests.{AgreeAcross, AgreeOver, AreNoLower, IsNoLower, PassesEachLine, PassesLine}
use Rattle.gptp_checker.specs.Located.{DiffersAt, Disagrees, HasAllPorts, IsAtLine, IsBefore, IsFirstEnd, IsFirstLine, IsFirstPort, IsKnownLine, IsLocation, IsMissing, IsStrange, own_end, parent_end}
use Rattle.gptp_checker.proofs.DecisionLemmas.{bool_dec, denied_dec, each_dec, implied_dec, line_dec, list_dec, no_lower_dec, port_role_dec}
use Rattle.gptp_checker.proofs.FaultLemmas.{by_lines, found_by, systems_before}
use Rattle.gptp_checker.proofs.LocatedLemmas.{systems_right}

-- what can be decided and isn't false holds
stable : {A : Type 0} → Dec A → ((A → ⊥) → ⊥) → A
stable (yes here) other = here
stable (no out) other = absurd (other out)

abbrev line_key : SystemLine → List ℕ
line_key line = line.clock ∷ []

abbrev port_key : PortLine → List ℕ
port_key port = port.number ∷ []

-- of a line's ports the first that fails
first_port : (P : PortLine → Type 0) (line : SystemLine) → ((port : PortLine) → Dec (P port))
    → (((port : PortLine) → In port line.ports → P port) → ⊥) → (port : PortLine) × IsFirstPort P line port
first_port P line dec fails =
    by (least_member port_key (λ (port : PortLine). P port → ⊥) line.ports (λ port stated. denied_dec (dec port)))
  where
    by : ((port : PortLine) → In port line.ports → (P port → ⊥) → ⊥)
        ⊎ ((port : PortLine) × IsLeastIn port_key (λ (other : PortLine). P other → ⊥) line.ports port)
        → (port : PortLine) × IsFirstPort P line port
    by (inl none) = absurd (fails (λ port stated. stable (dec port) (none port stated)))
    by (inr (port, is)) = (
      port,
      record {
        stated = is.member;
        fails = is.holds;
        first = λ other stated below. stable (dec other) (λ bad. is.least other stated bad (inl below));
      },
    )

module _ (version : ℕ) (g : Snapshot) (lines : List SystemLine) (wf : IsWellFormed g) where
  -- ---- lines

  first_line : (test : LineTest) → (PassesEachLine test g lines → ⊥)
      → (line : SystemLine) × IsFirstLine test g lines line
  first_line test fails =
      by (least_member line_key (λ (line : SystemLine). PassesLine test g lines line → ⊥) lines
      (λ line stated. denied_dec (line_dec g lines wf test line)))
    where
      by : ((line : SystemLine) → In line lines → (PassesLine test g lines line → ⊥) → ⊥)
          ⊎ ((line : SystemLine)
          × IsLeastIn line_key (λ (other : SystemLine). PassesLine test g lines other → ⊥) lines line)
          → (line : SystemLine) × IsFirstLine test g lines line
      by (inl none) = absurd (fails (λ line stated. stable (line_dec g lines wf test line) (none line stated)))
      by (inr (line, is)) = (
        line,
        record {
          stated = is.member;
          fails = is.holds;
          first = λ other stated below. stable (line_dec g lines wf test other)
              (λ bad. is.least other stated bad (inl below));
        },
      )

  at_line : (test : LineTest) → (PassesEachLine test g lines → ⊥) → (place : Location) × IsAtLine test g lines place
  at_line test fails = let (line, first) = first_line test fails in (System line.clock, (line, first, refl))

  at_parent : (line : SystemLine) → IsFirstLine tests.Parent g lines line → (parent : Option ParentLink)
      → line.parent ≡ parent → (place : Location) × IsLocation faults.Parent g lines place
  at_parent line first None is = (System line.clock, (line, first, inr (is, refl)))
  at_parent line first (Some l) is = (Link (own_end line l) (parent_end l), (line, first, inl (l, is, refl)))

  -- the link at a port whose way goes before that of the parent
  at_way : (line : SystemLine) → IsFirstLine tests.Tie g lines line → (l : ParentLink) → line.parent ≡ Some l
      → (port : PortLine) → IsFirstPort (λ (other : PortLine). IsNoLower g lines line l other.number) line port
      → Dec (IsLinked g (port_of line.clock port.number)) → (place : Location) × IsLocation faults.Tie g lines place
  at_way line first l is port lower (no out) =
      absurd (lower.fails (λ other d joins states less before. out (other, joins)))
  at_way line first l is port lower (yes (q, joins)) =
      let own : PortId = record { clock = line.clock; port = port.number } in
      let there : PortId = record { clock = q.clock; port = q.port } in
      (Link own there, (line, own, there, first, (l, is, refl, (port, refl, lower), joins), refl))

  at_tie : (line : SystemLine) → IsFirstLine tests.Tie g lines line → (parent : Option ParentLink)
      → line.parent ≡ parent → (place : Location) × IsLocation faults.Tie g lines place
  at_tie line first None is =
      absurd (first.fails (λ l some. absurd (let clash = sym is ∙ some in cc)))
  at_tie line first (Some l) is =
      let (port, lower) = first_port (λ (other : PortLine). IsNoLower g lines line l other.number) line
      (λ other. no_lower_dec g lines wf line l other.number)
      (λ all. first.fails (λ k some.
      let same : l ≡ k = (let both = sym is ∙ some in cc) in
      subst (AreNoLower g lines line) same all)) in
      at_way line first l is port lower (IsLinked-dec g (port_of line.clock port.number))

  at_role : (line : SystemLine) → IsFirstLine tests.Role g lines line
      → (place : Location) × IsLocation faults.Role g lines place
  at_role line first =
      let (port, is) = first_port (λ (other : PortLine). HasStatedRole g lines line other.number other.role) line
      (port_role_dec g lines wf line) first.fails in
      let own : PortId = record { clock = line.clock; port = port.number } in
      (Port own, (line, own, first, refl, (port, refl, is), refl))

  -- ---- links

  abbrev port_id : PortIdentity → PortId
  port_id p = record { clock = p.clock; port = p.port }

  -- the links as seen from either end
  seen : List GraphLink → List (PortId × PortId)
  seen [] = []
  seen (l ∷ ls) = (port_id l.a, port_id l.b) ∷ (port_id l.b, port_id l.a) ∷ seen ls

  In-seen : (r s : PortId) (ls : List GraphLink)
      → In (record { a = port_identity r; b = port_identity s }) ls
      ⊎ In (record { a = port_identity s; b = port_identity r }) ls
      → In (r, s) (seen ls)
  unfolding seen
  In-seen r s [] (inl none) = absurd none
  In-seen r s [] (inr none) = absurd none
  In-seen r s (l ∷ ls) (inl (inl same)) = inl (λ i. (port_id (same i).a, port_id (same i).b))
  In-seen r s (l ∷ ls) (inl (inr later)) = inr (inr (In-seen r s ls (inl later)))
  In-seen r s (l ∷ ls) (inr (inl same)) = inr (inl (λ i. (port_id (same i).b, port_id (same i).a)))
  In-seen r s (l ∷ ls) (inr (inr later)) = inr (inr (In-seen r s ls (inr later)))

  agree_dec : (one other : SystemLine) → Dec (AgreeAcross one other)
  agree_dec one other =
      dec_iff (λ h. record { roots = h.0; here = h.1.0; there = h.1.1 }) (λ h. (h.roots, (h.here, h.there)))
      (dec_both (ℕ_discrete one.root other.root)
      (dec_both (dec_le one.steps (other.steps + 1)) (dec_le other.steps (one.steps + 1))))

  agree_over_dec : (v w : ℕ) → Dec (AgreeOver lines v w)
  agree_over_dec v w =
      dec_iff (λ all one other at there. all one at.stated at.has other there.stated there.has)
      (λ all one stated has other there is.
      all one other (record { stated = stated; has = has }) (record { stated = there; has = is }))
      (each_dec (λ (one : SystemLine). one.clock ≡ v → (other : SystemLine) → In other lines → other.clock ≡ w
      → AgreeAcross one other) lines
      (λ one. implied_dec (ℕ_discrete one.clock v)
      (each_dec (λ (other : SystemLine). other.clock ≡ w → AgreeAcross one other) lines
      (λ other. implied_dec (ℕ_discrete other.clock w) (agree_dec one other)))))

  disagrees_dec : (p q : PortId) → Dec (Disagrees g lines p q)
  disagrees_dec p q =
      dec_both (Joins-dec g (port_identity p) (port_identity q)) (denied_dec (agree_over_dec p.clock q.clock))

  abbrev end_key : PortId × PortId → List ℕ
  end_key ends = ends.0.clock ∷ ends.0.port ∷ []

  abbrev EndsDisagree : PortId × PortId → Type 0
  EndsDisagree ends = Disagrees g lines ends.0 ends.1

  lower_end : (r p : PortId) → IsBefore r p → IsLower (r.clock ∷ r.port ∷ []) (p.clock ∷ p.port ∷ [])
  lower_end r p (inl less) = inl less
  lower_end r p (inr (same, less)) = inr (same, inl less)

  at_end : (PassesLink g lines → ⊥)
      → ((ends : PortId × PortId) → In ends (seen g.links) → EndsDisagree ends → ⊥)
      ⊎ ((ends : PortId × PortId) × IsLeastIn end_key EndsDisagree (seen g.links) ends)
      → (place : Location) × IsLocation faults.Link g lines place
  at_end fails (inl none) = absurd (fails passes)
    where
      passes : PassesLink g lines
      passes one other is also (m, n, joins) =
          let here : PortId = record { clock = one.clock; port = m } in
          let there : PortId = record { clock = other.clock; port = n } in
          let agree = stable (agree_over_dec one.clock other.clock)
          (λ bad. none (here, there) (In-seen here there g.links joins) (joins, bad)) in
          let across = agree one other (record { stated = is; has = refl }) (record { stated = also; has = refl }) in
          (across.roots, across.here, across.there)
  at_end fails (inr ((p, q), is)) =
      let first : IsFirstEnd g lines p q = record {
        disagrees = is.holds;
        first = λ r s bad before.
            is.least (r, s) (In-seen r s g.links bad.0) bad (lower_end r p before);
      } in
      (Link p q, (p, q, first, refl))

  -- ---- systems

  ports_dec : (count : ℕ) (line : SystemLine) → Dec (HasAllPorts count line)
  ports_dec count line =
      implied_dec (bool_dec line.far false) (list_dec ℕ_discrete (port_numbers line) (range_with_len 1 count))

  known_dec : (line : SystemLine) → Dec (IsKnownLine g line)
  known_dec line =
      dec_iff (λ (s, live, (has, ports)). (s, record { live = live; has = has }, ports))
      (λ (s, at, ports). (s, at.live, (at.has, ports)))
      (any_dec (λ (s : LiveSystem). (s.clock ≡ line.clock) × HasAllPorts s.ports line) g.systems
      (λ s live. dec_both (ℕ_discrete s.clock line.clock) (ports_dec s.ports line)))

  strange_dec : (v : ℕ) → Dec (IsStrange g lines v)
  strange_dec v =
      dec_iff (λ (line, stated, (has, bad)). (line, record { stated = stated; has = has }, bad))
      (λ (line, at, bad). (line, at.stated, (at.has, bad)))
      (any_dec (λ (line : SystemLine). (line.clock ≡ v) × (IsKnownLine g line → ⊥)) lines
      (λ line stated. dec_both (ℕ_discrete line.clock v) (denied_dec (known_dec line))))

  missing_dec : (v : ℕ) → Dec (IsMissing g lines v)
  missing_dec v = dec_both (in_dec v (clocks g)) (denied_dec (in_dec v (line_clocks lines)))

  differs_dec : (v : ℕ) → Dec (DiffersAt g lines v)
  differs_dec v = dec_either (strange_dec v) (missing_dec v)

  abbrev all_clocks : List ℕ
  all_clocks = clocks g ++ line_clocks lines

  at_least : (v : ℕ) → DiffersAt g lines v → (place : Location) × IsLocation faults.Systems g lines place
  at_least v differs =
      let (least, is, none) = least_number (DiffersAt g lines) differs_dec v differs in
      (System least, (least, (is, λ m below bad. absurd (let above = none m bad in omega (arith, below, above))), refl))

  at_system : IsRising (clocks g) → IsCertificate version lines → (PassesSystems g lines → ⊥)
      → Dec ((v : ℕ) × In v all_clocks × DiffersAt g lines v)
      → (place : Location) × IsLocation faults.Systems g lines place
  at_system rising of fails (yes (v, member, differs)) = at_least v differs
  at_system rising of fails (no none) =
      absurd (fails (systems_right g lines rising of.order.clocks of.bare
      (λ line stated. stable (known_dec line) (λ bad.
      none (
        line.clock,
        In-right line.clock (clocks g) (line_clocks lines)
            (In-map (λ (l : SystemLine). l.clock) line lines stated),
        inl (line, record { stated = stated; has = refl }, bad),
      )))
      (λ v live. stable (in_dec v (line_clocks lines)) (λ absent.
      none (v, In-left v (clocks g) (line_clocks lines) live, inr (live, absent))))))

  -- ---- each fault

  module _ (rising : IsRising (clocks g)) (of : IsCertificate version lines) where
    not_each : (fault : Fault) (test : LineTest) → fault ≡ found_by test → (fault ≡ faults.Systems → ⊥)
        → (test ≡ tests.TooFar → version ≡ 1) → IsFirstFault version g lines fault
        → PassesEachLine test g lines → ⊥
    not_each fault test found other only first each =
        let right = systems_before version g lines fault first other in
        first.fails (subst (λ (f : Fault). test_of f version g lines) (sym found)
        ((by_lines version g lines test wf right only).0 each))

    too_far : Dec (version ≡ 1) → IsFirstFault version g lines faults.TooFar
        → (place : Location) × IsLocation faults.TooFar g lines place
    too_far (no other) first = absurd (first.fails (λ is. absurd (other is)))
    too_far (yes is) first =
        at_line tests.TooFar (not_each faults.TooFar tests.TooFar refl (λ same. absurd cc) (λ same. is) first)

    pub place_exists : (fault : Fault) → IsFirstFault version g lines fault
        → (place : Location) × IsLocation fault g lines place
    place_exists faults.Systems first =
        at_system rising of first.fails
        (any_dec (DiffersAt g lines) all_clocks (λ v member. differs_dec v))
    place_exists faults.Root first =
        at_line tests.Root (not_each faults.Root tests.Root refl (λ same. absurd cc) (λ same. absurd cc) first)
    place_exists faults.Steps first =
        at_line tests.Steps (not_each faults.Steps tests.Steps refl (λ same. absurd cc) (λ same. absurd cc) first)
    place_exists faults.Parent first =
        let (line, is) = first_line tests.Parent
        (not_each faults.Parent tests.Parent refl (λ same. absurd cc) (λ same. absurd cc) first) in
        at_parent line is line.parent refl
    place_exists faults.Link first =
        at_end first.fails
        (least_member end_key EndsDisagree (seen g.links) (λ ends member. disagrees_dec ends.0 ends.1))
    place_exists faults.Identity first =
        at_line tests.Identity
        (not_each faults.Identity tests.Identity refl (λ same. absurd cc) (λ same. absurd cc) first)
    place_exists faults.Tie first =
        let (line, is) = first_line tests.Tie
        (not_each faults.Tie tests.Tie refl (λ same. absurd cc) (λ same. absurd cc) first) in
        at_tie line is line.parent refl
    place_exists faults.Role first =
        let (line, is) = first_line tests.Role
        (not_each faults.Role tests.Role refl (λ same. absurd cc) (λ same. absurd cc) first) in
        at_role line is
    place_exists faults.TooFar first = too_far (ℕ_discrete version 1) first
