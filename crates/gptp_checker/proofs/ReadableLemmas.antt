-- What is accepted of a network within its limits can be read from its text.
use Rattle.std.proofs.Common.{◌≡◌, ◌≤◌, ◌<◌, ◌+◌, ◌^◌, ℕ, zero, suc, Bool, true, false, List, [], ◌∷◌, ◌++◌, length, map, refl, sym, ap, subst, ◌∙◌, inl, inr, arith}
use Rattle.std.specs.Prelude.{Option, Some, None}
use Rattle.std.specs.List.{AllByRecursion, range_with_len}
use Rattle.std.proofs.lemmas.List.{length-map}
use Rattle.std.proofs.lemmas.List.FromFn.{length-range_with_len}
use Rattle.std.proofs.lemmas.Nat.{mod_below}
use Rattle.gptp_setup.specs.declared.limits.TheConstants.{MOST_PORTS}
use Rattle.gptp_lists.specs.Members.{In}
use Rattle.gptp_lists.proofs.SystemSpecLemmas.{In-map, from_map, pigeonhole}
use Rattle.gptp_graph.specs.Labelling.{PortLine, SystemLine, line_clocks}
use Rattle.gptp_graph.specs.Parent.{IsParent, ParentLink}
use Rattle.gptp_graph.specs.SettledChoice.{IsParentIfAny}
use Rattle.gptp_graph.specs.Snapshot.{IsWellFormed, Joins, PortIdentity, Snapshot, System, clocks, port_of}
use Rattle.gptp_graph.proofs.DistanceLemmas.{IsDistance-bounded}
use Rattle.gptp_graph.proofs.LinkLemmas.{Joins-sym}
use Rattle.gptp_graph.proofs.StatementLemmas.{line_clock}
use Rattle.gptp_network.specs.Snapshot.{IsWithinLimits}
use Rattle.gptp_certificate_text.specs.declared.certificate.TheConstants.{CERTIFICATE_LIMIT}
use Rattle.gptp_certificate_text.specs.Certificate.{IsVersion}
use Rattle.gptp_certificate_text.specs.CertificateText.{certificate_text}
use Rattle.gptp_certificate_text.specs.Entries.{LineKey, PortEntry, IsPortNumber, IsReadable, IsReadableChoice, IsReadableEntry, IsReadableParent, entries_of}
use Rattle.gptp_certificate_text.proofs.LengthLemmas.{certificate_length}
use Rattle.gptp_checker.specs.Faults.{IsAccepted}

in_range : (first count n : ℕ) → In n (range_with_len first count) → (first ≤ n) × (n < first + count)
in_range first zero n member = absurd member
in_range first (suc count) n (inl same) = (omega (arith, same), omega (arith, same))
in_range first (suc count) n (inr later) =
    let (least, most) = in_range (first + 1) count n later in (omega (arith, least), omega (arith, most))

-- the lines of a system's ports, and those that follow
with_ports : (version clock : ℕ) (ports : List PortLine) (rest : List LineKey) → clock < 2 ^ 64
    → ((port : PortLine) → In port ports → IsPortNumber port.number) → AllByRecursion (IsReadableEntry version) rest
    → AllByRecursion (IsReadableEntry version) (map (PortEntry clock) ports ++ rest)
with_ports version clock [] rest small each later = later
with_ports version clock (port ∷ ports) rest small each later =
    ((small, each port (inl refl)), with_ports version clock ports rest small (λ p k. each p (inr k)) later)

module _ (version : ℕ) (g : Snapshot) (lines : List SystemLine) (is_version : IsVersion version)
    (well : IsWellFormed g) (few : IsWithinLimits g) (is : IsAccepted version g lines) where
  clock_of_system : (s : System) → In s g.systems → s.clock < 2 ^ 64
  clock_of_system s live =
      subst (λ c. c < 2 ^ 64) (well.identified s live).clock (mod_below s.identity (2 ^ 64) (omega arith))

  clock_fits : (line : SystemLine) → In line lines → line.clock < 2 ^ 64
  clock_fits line member =
      let (s, of) = is.choice.systems.no_other line member in
      subst (λ c. c < 2 ^ 64) (sym of.clock) (clock_of_system s of.live)

  root_fits : (line : SystemLine) → In line lines → line.root < 2 ^ 112
  root_fits line member =
      let (best, is_best, same) = (is.choice.settled line member).root in
      subst (λ r. r < 2 ^ 112) (sym same) (well.identified best is_best.live).octets

  steps_fit : (line : SystemLine) → In line lines → line.steps ≤ 65535
  steps_fit line member =
      let below = IsDistance-bounded g line.clock line.steps well (is.choice.settled line member).steps in
      let systems = few.systems in
      omega (arith, below, systems)

  -- a link ends at a port of a system
  end_fits : (p q : PortIdentity) → Joins g p q → IsPortNumber p.port × (p.clock < 2 ^ 64)
  end_fits p q joins =
      let (s, live, port) = well.ends p q joins in
      let first = port.first in
      let last = port.last in
      let ports = few.ports s live in (
        record { least = first; most = omega (arith, last, ports) },
        subst (λ c. c < 2 ^ 64) port.clock (clock_of_system s live),
      )

  parent_fits : (line : SystemLine) → In line lines → line.far ≡ false → (parent : Option ParentLink)
      → line.parent ≡ parent → IsReadableParent parent
  parent_fits line member near None e = tt
  parent_fits line member near (Some l) e =
      let parent : IsParent g line.clock l =
      subst (IsParentIfAny g line.clock) e ((is.choice.settled line member).parent near) in
      let here = port_of line.clock l.own_port in
      let there = port_of l.clock l.port in
      let own = end_fits here there parent.nearer.joins in
      let other = end_fits there here (Joins-sym g here there parent.nearer.joins) in
      record { own_port = own.0; clock = other.1; port = other.0 }

  -- in version 1 nothing is too far, so that no line is far
  second : (line : SystemLine) → In line lines → line.far ≡ true → IsVersion version → version ≡ 2
  second line member far (inl first) =
      let above = (is.choice.settled line member).far far in
      let below = is.near first line member in
      absurd (omega (arith, above, below))
  second line member far (inr is_second) = is_second

  choice_fits : (line : SystemLine) → In line lines → (far : Bool) → line.far ≡ far
      → IsReadableChoice version far line.parent
  choice_fits line member true e = ((is.choice.systems.bare line member e).parent, second line member e is_version)
  choice_fits line member false e = parent_fits line member e line.parent refl

  -- the ports are those of the system, or none
  ports_fit : (line : SystemLine) → In line lines → (far : Bool) → line.far ≡ far
      → ((port : PortLine) → In port line.ports → IsPortNumber port.number) × (length line.ports ≤ MOST_PORTS)
  ports_fit line member true e =
      let none = (is.choice.systems.bare line member e).ports in (
        (λ port k. absurd (subst (In port) none k)),
        (let empty = ap length none in omega (arith, empty)),
      )
  ports_fit line member false e =
      let (s, of) = is.choice.systems.no_other line member in
      let numbers = is.choice.systems.ports s line of e in
      let ports = few.ports s of.live in (
        (λ port k.
            let (least, most) = in_range 1 s.ports port.number
            (subst (In port.number) numbers (In-map (λ (p : PortLine). p.number) port line.ports k)) in
            record { least = least; most = omega (arith, most, ports) }),
        (let counted = sym (length-map line.ports (λ (p : PortLine). p.number)) ∙ ap length numbers
            ∙ length-range_with_len 1 s.ports in
            omega (arith, counted, ports)),
      )

  some_read : (some : List SystemLine) → ((line : SystemLine) → In line some → In line lines)
      → AllByRecursion (IsReadableEntry version) (entries_of some)
  some_read [] among = tt
  some_read (line ∷ rest) among =
      let member = among line (inl refl) in (
        (clock_fits line member, root_fits line member, steps_fit line member, choice_fits line member line.far refl),
        with_ports version line.clock line.ports (entries_of rest) (clock_fits line member)
            (ports_fit line member line.far refl).0 (some_read rest (λ l k. among l (inr k))),
      )

  pub accepted_readable : IsReadable version lines
  accepted_readable = some_read lines (λ line k. k)

  small_version : IsVersion version → version ≤ 65535
  small_version (inl e) = omega (arith, e)
  small_version (inr e) = omega (arith, e)

  -- and its text is within the size that is read
  pub accepted_length : length (certificate_text version lines) ≤ CERTIFICATE_LIMIT
  accepted_length =
      let fits = pigeonhole (line_clocks lines) (clocks g) is.choice.systems.different
      (λ v k. let (line, member, same) = from_map (λ (l : SystemLine). l.clock) v lines k in
      subst (λ u. In u (clocks g)) same (line_clock g lines line is.choice.systems member)) in
      let some = length-map lines (λ (l : SystemLine). l.clock) in
      let all = length-map g.systems (λ (s : System). s.clock) in
      let systems = few.systems in
      certificate_length version lines (small_version is_version) accepted_readable
      (omega (arith, fits, some, all, systems)) (λ line member. (ports_fit line member line.far refl).1)
