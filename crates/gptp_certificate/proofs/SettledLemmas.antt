-- What is stated of the live systems of a settled world is the settled choice of its snapshot.
use Rattle.std.proofs.Common.{◌≡◌, ◌<◌, ◌≤◌, ◌+◌, ◌-◌, ℕ, zero, suc, true, false, List, ◌∷◌, map, length, Option, Some, None, slice_get, refl, sym, ap, subst, ◌∙◌, inl, inr, arith}
use Rattle.std.proofs.lemmas.Option.{same_Some}
use Rattle.std.specs.List.{range_with_len}
use Rattle.std.specs.Option.{option_map}
use native.Mathlib.Decide.{dec_lt}
use Rattle.gptp_graph.specs.Best.{IsBest}
use Rattle.gptp_graph.specs.Distance.{IsDistance}
use Rattle.gptp_graph.specs.Labelling.{HasItsSystems, IsBare, PortLine, SystemLine, line_clocks, port_numbers}
use Rattle.gptp_graph.specs.Labelling as labels
use Rattle.gptp_graph.specs.Order.{IsRising}
use Rattle.gptp_lists.specs.Members.{In}
use Rattle.gptp_graph.specs.SettledChoice.{IsParentIfAny, IsSettledChoice, IsSettledLine}
use Rattle.gptp_graph.specs.SettledRole.{IsSettledRole}
use Rattle.gptp_graph.specs.Snapshot.{IsWellFormed, Snapshot, System, clocks, port_of}
use Rattle.gptp_graph.proofs.DistanceLemmas.{IsDistance-unique}
use Rattle.gptp_graph.proofs.ExistenceLemmas.{best_exists, distance_exists}
use Rattle.gptp_graph.proofs.MarkingLemmas.{far_is, far_steps, is_far, lowest_root}
use Rattle.gptp_lists.proofs.SystemSpecLemmas.{In-slice_get, from_map, slice_get-In}
use Rattle.gptp_graph.proofs.RisingLemmas.{Different-rising}
use Rattle.gptp_vector.specs.declared.port.PortId.{PortId}
use Rattle.gptp_roles.specs.declared.role.Role.{Role}
use Rattle.gptp_roles.specs.declared.role.Role.TheVariants.{Disabled, Master, Slave, Passive}
use Rattle.gptp_system.specs.Start.{role_at}
use Rattle.gptp_system.specs.State.{SystemState, clock, parent}
use Rattle.gptp_system.specs.Steps.{HasPortNumber}
use Rattle.gptp_model.specs.Sound.{HaveOwnClocks}
use Rattle.gptp_model.specs.World.{WorldState}
use Rattle.gptp_model.specs.declared.station.Station.{Station}
use Rattle.gptp_invariants.specs.WorldBounded.{IsBoundedWorld, statement_of, statements_of}
use Rattle.gptp_invariants.specs.WorldStanding.{snapshot_of, standing_system}
use Rattle.gptp_invariants.proofs.WorldBoundedLemmas.{claimed_bounded, statement_there, stated_lives}
use Rattle.gptp_invariants.proofs.WorldStandsLemmas.{stands_well}
use Rattle.gptp_invariants.proofs.WorldSystemLemmas.{clock_in, live_from, live_there}
use Rattle.gptp_invariants.specs.ChoiceSettled.{IsSettledSystem, Settled, followed_link}
use Rattle.gptp_invariants.specs.ChoiceSettled as graphs
use Rattle.gptp_invariants.specs.WorldSettlingInvariant.{SettlingInvariant}
use Rattle.gptp_invariants.proofs.WorldSettlingInvariantLemmas.{claimed_settled}
use Rattle.gptp_certificate_text.specs.Certificate.{IsCertificate, parent_of, role_of}
use Rattle.gptp_certificate.specs.Settled.{IsRightInTime}
use Rattle.gptp_certificate.specs.Stated.{IsFarLine, IsStatedLine, IsNearLine, States, stated_line, stated_port}
use Rattle.gptp_certificate.proofs.StatedLemmas.{numbers_rise}

-- ---- the line of one system

-- the ports of a line are numbered from 1 on
numbers_are : (s : SystemState) (first count : ℕ)
    → map (λ (port : PortLine). port.number) (map (stated_port s) (range_with_len first count))
    ≡ range_with_len first count
numbers_are s first zero = refl
numbers_are s first (suc count) = ap (λ ns. first ∷ ns) (numbers_are s (first + 1) count)

in_range : (first count n : ℕ) → In n (range_with_len first count) → (first ≤ n) × (n < first + count)
in_range first zero n member = absurd member
in_range first (suc count) n (inl same) = (omega (arith, same), omega (arith, same))
in_range first (suc count) n (inr later) =
    let (least, most) = in_range (first + 1) count n later in (omega (arith, least), omega (arith, most))

same_parent : (followed : Option (ℕ × PortId)) → option_map followed_link followed ≡ option_map parent_of followed
same_parent None = refl
same_parent (Some (own_port, there)) = refl

same_role : (role : Role) → graphs.graph_role role ≡ role_of role
same_role Disabled = refl
same_role Master = refl
same_role Slave = refl
same_role Passive = refl

-- what a settled system says is a settled line, where its steps are below 255
settled_line : (g : Snapshot) (s : SystemState) → IsSettledSystem g s → s.steps < 255
    → IsSettledLine g (stated_line s)
settled_line g s is below = record {
  root = is.root;
  steps = is.steps;
  near = λ near. below;
  far = λ e. absurd cc;
  parent = λ near. subst (IsParentIfAny g (clock s)) (same_parent (parent s)) is.parent;
  roles = roles;
}
  where
    roles : (port : PortLine) → In port (stated_line s).ports
        → IsSettledRole g (port_of (clock s) port.number) port.role
    roles port member =
        let (n, among, same) = from_map (stated_port s) port (range_with_len 1 (length s.ports)) member in
        let (least, most) = in_range 1 (length s.ports) n among in
        let is_port : HasPortNumber s n = record { least = least; most = omega (arith, most) } in
        let role = subst (λ r. IsSettledRole g (port_of (clock s) n) r) (same_role (role_at s n))
        (is.roles n is_port) in
        subst (λ (p : PortLine). IsSettledRole g (port_of (clock s) p.number) p.role) same role

-- ---- the lines of all

-- the line is that of the live station at a place
record IsLineAt (w : WorldState) (line : SystemLine) : Type 0 where
  place : ℕ
  station : Station
  here : slice_get w.stations place ≡ Some station
  live : station.live ≡ true
  is : IsStatedLine w station line

line_at : (w : WorldState) (lines : List SystemLine) (line : SystemLine) → States w lines → In line lines
    → IsLineAt w line
line_at w lines line states member =
    let of = states.stated line member in
    let (place, here) = slice_get-In of.station w.stations of.there in
    record { place = place; station = of.station; here = here; live = of.live; is = of.is }

-- it has the clock of its system
same_clock : (w : WorldState) (line : SystemLine) (station : Station) → IsStatedLine w station line
    → line.clock ≡ clock station.system
same_clock w line station (inl near) = ap (λ (l : SystemLine). l.clock) near.is
same_clock w line station (inr far) = far.clock

-- a line that isn't far is what its system says
near_is : (w : WorldState) (line : SystemLine) (station : Station) → IsStatedLine w station line → line.far ≡ false
    → line ≡ stated_line station.system
near_is w line station (inl near) other = near.is
near_is w line station (inr far) other = let is = far.far in absurd cc

-- a far one is bare
pub far_bare : (w : WorldState) (lines : List SystemLine) → States w lines → (line : SystemLine) → In line lines
    → line.far ≡ true → IsBare line
far_bare w lines states line member far = by (states.stated line member).is
  where
    by : IsStatedLine w (states.stated line member).station line → IsBare line
    by (inl near) = let is : line.far ≡ false = ap (λ (l : SystemLine). l.far) near.is in absurd cc
    by (inr is) = is.bare

-- each live system has its line, and each line its system
its_systems : (w : WorldState) (lines : List SystemLine) → HaveOwnClocks w → States w lines
    → HasItsSystems (snapshot_of w) lines
its_systems w lines own states = record {
  different = Different-rising (line_clocks lines) states.rising;
  all = all;
  no_other = no_other;
  ports = ports;
  bare = far_bare w lines states;
}
  where
    g : Snapshot
    g = snapshot_of w

    all : (s : System) → In s g.systems → (line : SystemLine) × labels.IsLineOf g lines s line
    all s member =
        let at = live_from w.stations s member in
        let there = In-slice_get at.station w.stations at.place at.here in
        let (line, stated, is) = states.all at.station there at.live in (
          line,
          record {
            live = member;
            stated = stated;
            clock = same_clock w line at.station is ∙ ap clock_in (sym at.is);
          },
        )

    no_other : (line : SystemLine) → In line lines → (s : System) × labels.IsLineOf g lines s line
    no_other line member =
        let at = line_at w lines line states member in (
          standing_system at.station,
          record {
            live = live_there w.stations at.place at.station at.here at.live;
            stated = member;
            clock = same_clock w line at.station at.is;
          },
        )

    ports : (s : System) (line : SystemLine) → labels.IsLineOf g lines s line → line.far ≡ false
        → port_numbers line ≡ range_with_len 1 s.ports
    ports s line of other =
        let lives = live_from w.stations s of.live in
        let at = line_at w lines line states of.stated in
        let clocks : clock at.station.system ≡ clock lives.station.system =
        sym (same_clock w line at.station at.is) ∙ (of.clock ∙ ap clock_in lives.is) in
        let place = own at.place lives.place at.station lives.station at.here lives.here clocks in
        let same : at.station ≡ lives.station =
        same_Some at.station lives.station (sym at.here ∙ (ap (slice_get w.stations) place ∙ lives.here)) in
        let is : line ≡ stated_line lives.station.system =
        near_is w line at.station at.is other ∙ ap (λ (x : Station). stated_line x.system) same in
        ap port_numbers is ∙ (numbers_are lives.station.system 1 (length lives.station.system.ports)
        ∙ ap (λ (x : System). range_with_len 1 x.ports) (sym lives.is))

-- ---- the line of one system of a settled world

module _ (w : WorldState) (wf : IsWellFormed (snapshot_of w)) (settled : Settled w) (bounded : IsBoundedWorld w) where
  module _ (place : ℕ) (station : Station) (here : slice_get w.stations place ≡ Some station)
      (live : station.live ≡ true) where
    stated : In (statement_of station) (statements_of w)
    stated = statement_there w.stations place station here live

    known : In (clock station.system) (clocks (snapshot_of w))
    known = stated_lives w (statement_of station) stated

    -- one that isn't far is near
    near_line : (line : SystemLine) → IsNearLine (snapshot_of w) (statements_of w) station line
        → IsSettledLine (snapshot_of w) line
    near_line line near = by (distance_exists (snapshot_of w) (clock station.system) wf known)
      where
        by : ((d : ℕ) × IsDistance (snapshot_of w) (clock station.system) d) → IsSettledLine (snapshot_of w) line
        by (d, there) = elim (dec_lt d 255) [
          | yes below ↦
              (let is = settled place station here live (d, there, below) in
              let same : station.system.steps ≡ d =
              IsDistance-unique (snapshot_of w) (clock station.system) station.system.steps d wf is.steps there in
              subst (IsSettledLine (snapshot_of w)) (sym near.is)
              (settled_line (snapshot_of w) station.system is (omega (arith, below, same))))
          | no above ↦ absurd (near.is_near
              (is_far (snapshot_of w) wf (statements_of w) bounded (statement_of station) d stated there
              (omega arith)))
        ]

    -- a far one is 255 or more steps away
    far_line : (line : SystemLine)
        → IsFarLine (snapshot_of w) (statements_of w) (statement_of station) line
        → IsSettledLine (snapshot_of w) line
    far_line line far =
        by (distance_exists (snapshot_of w) (clock station.system) wf known)
        (best_exists (snapshot_of w) (clock station.system) wf known)
      where
        g : Snapshot
        g = snapshot_of w

        by : ((d : ℕ) × IsDistance g (clock station.system) d)
            → ((best : System) × IsBest g (clock station.system) best) → IsSettledLine g line
        by (d, there) (best, is_best) =
            let above : 255 ≤ d =
            far_is g wf (statements_of w) bounded (statement_of station) d stated there far.is_far in
            let split : d ≡ d - 254 + 254 = omega arith in
            let steps : line.steps ≡ d - 254 + 254 =
            far_steps g wf (statements_of w) bounded (statement_of station) (d - 254) line.steps stated
            (subst (IsDistance g (clock station.system)) split there) far.steps in
            let root : line.root ≡ best.identity =
            lowest_root g wf (statements_of w) bounded (statement_of station) best line.root is_best far.root in
            record {
              root = (best, subst (λ v. IsBest g v best) (sym far.clock) is_best, root);
              steps = subst (λ v. IsDistance g v line.steps) (sym far.clock)
                  (subst (IsDistance g (clock station.system)) (split ∙ sym steps) there);
              near = λ other. (let is = far.far in absurd cc);
              far = λ is. omega (arith, above, steps, split);
              parent = λ other. (let is = far.far in absurd cc);
              roles = λ port member. absurd (subst (In port) far.bare.ports member);
            }

    settled_by : (line : SystemLine) → IsStatedLine w station line → IsSettledLine (snapshot_of w) line
    settled_by line (inl near) = near_line line near
    settled_by line (inr far) = far_line line far

  -- they are the settled choice
  pub settled_choice : (lines : List SystemLine) → HaveOwnClocks w → States w lines
      → IsSettledChoice (snapshot_of w) lines
  settled_choice lines own states = record {
    systems = its_systems w lines own states;
    settled = λ line member.
        let at = line_at w lines line states member in
        settled_by at.place at.station at.here at.live line at.is;
  }

-- so they are right in time
pub right_in_time : (w : WorldState) (lines : List SystemLine) → SettlingInvariant w → States w lines
    → IsRightInTime w lines
right_in_time w lines claimed states calm =
    let world = claimed.is.world in
    settled_choice w (stands_well w world.sound world.between world.encodable) (claimed_settled w claimed calm)
    (claimed_bounded w claimed calm) lines world.sound.wired.clocks states

-- ---- they stand in order

-- the numbers of a line's ports rise
ports_rise : (w : WorldState) (station : Station) (line : SystemLine) → IsStatedLine w station line
    → IsRising (port_numbers line)
ports_rise w station line (inl near) =
    subst (λ (l : SystemLine). IsRising (port_numbers l)) (sym near.is)
    (numbers_rise station.system 1 (length station.system.ports))
ports_rise w station line (inr far) =
    subst (λ (ports : List PortLine). IsRising (map (λ (port : PortLine). port.number) ports)) (sym far.bare.ports) tt

-- so the lines are those of a certificate
pub states_certificate : (w : WorldState) (lines : List SystemLine) → States w lines → IsCertificate 2 lines
states_certificate w lines states = record {
  is_version = inr refl;
  order = record {
    clocks = states.rising;
    ports = λ line member.
        let of = states.stated line member in ports_rise w of.station line of.is;
  };
  bare = far_bare w lines states;
  second = λ line member far. refl;
}
