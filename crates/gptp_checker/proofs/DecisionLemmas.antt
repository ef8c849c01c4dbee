-- Whether a certificate passes each of its tests can be decided.
use Rattle.std.proofs.Common.{◌≡◌, ◌⊎◌, ◌+◌, ◌<◌, ◌≤◌, ℕ, Bool, true, false, List, [], ◌∷◌, Option, Some, None, refl, sym, ap, subst, ◌∙◌, inl, inr}
use Rattle.std.specs.List.{range_with_len}
use native.Mathlib.Decide.{ℕ_discrete, dec_le, dec_lt}
use Rattle.gptp_lists.specs.Members.{Different, In}
use Rattle.gptp_graph.specs.Labelling.{IsBare, PortLine, SystemLine, line_clocks, port_numbers}
use Rattle.gptp_graph.specs.LocalTests.{HasStatedRole, PassesLink, PassesSystems, StatesMaster, StatesOneLess, StatesSlave}
use Rattle.gptp_graph.specs.Order.{IsLower}
use Rattle.gptp_graph.specs.Parent.{ParentLink, key}
use Rattle.gptp_graph.specs.SettledRole.{Disabled, Master, Passive, Role, RoleBy, Slave}
use Rattle.gptp_graph.specs.Snapshot.{Adjacent, IsLinked, IsWellFormed, Joins, PortIdentity, Snapshot, System, port_of}
use Rattle.gptp_graph.proofs.DecisionLemmas.{any_dec, dec_both, dec_either, dec_iff, in_dec}
use Rattle.gptp_graph.proofs.LinkDecisions.{Adjacent-dec, IsLinked-dec, Joins-dec}
use Rattle.gptp_checker.specs.declared.fault.Fault.{Fault}
use Rattle.gptp_checker.specs.declared.fault.Fault.TheVariants.{Systems, Root, Steps, Parent, Link, Identity, Tie, Role as RoleFault, TooFar}
use Rattle.gptp_checker.specs.declared.line_test.LineTest.{LineTest}
use Rattle.gptp_checker.specs.declared.line_test.LineTest.TheVariants as tests
use Rattle.gptp_checker.specs.Faults.{test_of}
use Rattle.gptp_checker.specs.LineTests.{FitsSteps, FollowsParent, FollowsNearer, HasNearer, IsNoLower, PassesEachLine, PassesLine}
use Rattle.gptp_checker.specs.Places.{IsSystemAt}
use Rattle.gptp_checker.proofs.FaultLemmas.{by_lines, found_by}

-- ---- facts

pub bool_dec : (test is : Bool) → Dec (test ≡ is)
bool_dec true true = yes refl
bool_dec true false = no (λ same. absurd cc)
bool_dec false true = no (λ same. absurd cc)
bool_dec false false = yes refl

pub implied_dec : {A B : Type 0} → Dec A → Dec B → Dec (A → B)
implied_dec (no out) rest = yes (λ here. absurd (out here))
implied_dec (yes here) (yes there) = yes (λ again. there)
implied_dec (yes here) (no out) = no (λ leads. out (leads here))

pub denied_dec : {A : Type 0} → Dec A → Dec (A → ⊥)
denied_dec (yes here) = no (λ out. out here)
denied_dec (no out) = yes out

all_three_dec : {A B C : Type 0} → Dec A → Dec B → Dec C → Dec (A × B × C)
all_three_dec a b c = dec_iff (λ h. (h.0, h.1.0, h.1.1)) (λ h. (h.0, (h.1, h.2))) (dec_both a (dec_both b c))

-- of each member of a list
each_step : {X : Type 0} (P : X → Type 0) (x : X) (xs : List X) → Dec (P x) → Dec ((y : X) → In y xs → P y)
    → Dec ((y : X) → In y (x ∷ xs) → P y)
each_step P x xs (no f) rest = no (λ all. f (all x (inl refl)))
each_step P x xs (yes p) (no f) = no (λ all. f (λ y member. all y (inr member)))
each_step P x xs (yes p) (yes rest) = yes (λ y member. elim member [
  | inl same ↦ subst P (sym same) p
  | inr later ↦ rest y later
])

pub each_dec : {X : Type 0} (P : X → Type 0) (xs : List X) → ((x : X) → Dec (P x)) → Dec ((x : X) → In x xs → P x)
each_dec P [] dec = yes (λ x member. absurd member)
each_dec P (x ∷ xs) dec = each_step P x xs (dec x) (each_dec P xs dec)

none_dec : {X : Type 0} (o : Option X) → Dec (o ≡ None)
none_dec None = yes refl
none_dec (Some x) = no (λ same. absurd cc)

-- of what is there, if anything is
if_some_dec : {X : Type 0} (P : X → Type 0) → ((x : X) → Dec (P x)) → (o : Option X)
    → Dec ((x : X) → o ≡ Some x → P x)
if_some_dec P dec None = yes (λ x same. absurd cc)
if_some_dec {X} P dec (Some x) =
    dec_iff (λ p y same. let is : x ≡ y = cc in subst P is p) (λ all. all x refl) (dec x)

pub list_dec : {X : Type 0} → ((x y : X) → Dec (x ≡ y)) → (xs ys : List X) → Dec (xs ≡ ys)
list_dec dec [] [] = yes refl
list_dec dec [] (y ∷ ys) = no (λ same. absurd cc)
list_dec dec (x ∷ xs) [] = no (λ same. absurd cc)
list_dec {X} dec (x ∷ xs) (y ∷ ys) = by (dec x y) (list_dec dec xs ys)
  where
    by : Dec (x ≡ y) → Dec (xs ≡ ys) → Dec (◌≡◌ {A = List X} (x ∷ xs) (y ∷ ys))
    by (no f) rest = no (λ same. f cc)
    by (yes first) (no f) = no (λ same. f cc)
    by (yes first) (yes rest) = yes cc

empty_dec : {X : Type 0} (xs : List X) → Dec (xs ≡ [])
empty_dec [] = yes refl
empty_dec (x ∷ xs) = no (λ same. absurd cc)

different_dec : (xs : List ℕ) → Dec (Different xs)
different_dec [] = yes tt
different_dec (x ∷ xs) = dec_both (denied_dec (in_dec x xs)) (different_dec xs)

-- whether a list of numbers is lower than another
lower_dec : (xs ys : List ℕ) → Dec (IsLower xs ys)
lower_dec [] [] = no (λ less. less)
lower_dec (x ∷ xs) [] = no (λ less. less)
lower_dec [] (y ∷ ys) = yes tt
lower_dec (x ∷ xs) (y ∷ ys) = dec_either (dec_lt x y) (dec_both (ℕ_discrete x y) (lower_dec xs ys))

module _ (g : Snapshot) (lines : List SystemLine) where
  -- ---- systems

  bare_dec : (line : SystemLine) → Dec (IsBare line)
  bare_dec line =
      dec_iff (λ h. record { parent = h.0; ports = h.1 }) (λ h. (h.parent, h.ports))
      (dec_both (none_dec line.parent) (empty_dec line.ports))

  abbrev StandsFor : System → SystemLine → Type 0
  StandsFor s line = line.clock ≡ s.clock

  abbrev HasPorts : System → SystemLine → Type 0
  HasPorts s line = line.clock ≡ s.clock → line.far ≡ false → port_numbers line ≡ range_with_len 1 s.ports

  abbrev AreSystems : Type 0
  AreSystems =
      Different (line_clocks lines)
      × (((s : System) → In s g.systems → (line : SystemLine) × In line lines × StandsFor s line)
      × (((line : SystemLine) → In line lines → (s : System) × In s g.systems × StandsFor s line)
      × (((s : System) → In s g.systems → (line : SystemLine) → In line lines → HasPorts s line)
      × ((line : SystemLine) → In line lines → line.far ≡ true → IsBare line))))

  to_systems : AreSystems → PassesSystems g lines
  to_systems (different, (all, (no_other, (ports, bare)))) = record {
    different = different;
    all = λ s live. let (line, stated, is) = all s live in
        (line, record { live = live; stated = stated; clock = is });
    no_other = λ line stated. let (s, live, is) = no_other line stated in
        (s, record { live = live; stated = stated; clock = is });
    ports = λ s line of near. ports s of.live line of.stated of.clock near;
    bare = bare;
  }

  of_systems : PassesSystems g lines → AreSystems
  of_systems h = (
    h.different,
    (
      λ s live. let (line, of) = h.all s live in (line, of.stated, of.clock),
      (
        λ line stated. let (s, of) = h.no_other line stated in (s, of.live, of.clock),
        (
          λ s live line stated is near. h.ports s line (record { live = live; stated = stated; clock = is }) near,
          h.bare,
        ),
      ),
    ),
  )

  ports_dec : (s : System) (line : SystemLine) → Dec (HasPorts s line)
  ports_dec s line =
      implied_dec (ℕ_discrete line.clock s.clock)
      (implied_dec (bool_dec line.far false)
      (list_dec ℕ_discrete (port_numbers line) (range_with_len 1 s.ports)))

  all_dec : Dec ((s : System) → In s g.systems → (line : SystemLine) × In line lines × StandsFor s line)
  all_dec =
      each_dec (λ (s : System). (line : SystemLine) × In line lines × StandsFor s line) g.systems
      (λ s. any_dec (StandsFor s) lines (λ line stated. ℕ_discrete line.clock s.clock))

  no_other_dec : Dec ((line : SystemLine) → In line lines → (s : System) × In s g.systems × StandsFor s line)
  no_other_dec =
      each_dec (λ (line : SystemLine). (s : System) × In s g.systems × StandsFor s line) lines
      (λ line. any_dec (λ (s : System). StandsFor s line) g.systems (λ s live. ℕ_discrete line.clock s.clock))

  all_ports_dec : Dec ((s : System) → In s g.systems → (line : SystemLine) → In line lines → HasPorts s line)
  all_ports_dec =
      each_dec (λ (s : System). (line : SystemLine) → In line lines → HasPorts s line) g.systems
      (λ s. each_dec (HasPorts s) lines (ports_dec s))

  all_bare_dec : Dec ((line : SystemLine) → In line lines → line.far ≡ true → IsBare line)
  all_bare_dec =
      each_dec (λ (line : SystemLine). line.far ≡ true → IsBare line) lines
      (λ line. implied_dec (bool_dec line.far true) (bare_dec line))

  pub systems_dec : Dec (PassesSystems g lines)
  systems_dec =
      dec_iff to_systems of_systems
      (dec_both (different_dec (line_clocks lines))
      (dec_both all_dec (dec_both no_other_dec (dec_both all_ports_dec all_bare_dec))))

  -- ---- what is said of a system with a clock

  of_system_dec : (v : ℕ) (P : System → Type 0) → ((s : System) → Dec (P s))
      → Dec ((s : System) → IsSystemAt g.systems v s → P s)
  of_system_dec v P dec =
      dec_iff (λ all s at. all s at.live at.has) (λ all s live has. all s (record { live = live; has = has }))
      (each_dec (λ (s : System). s.clock ≡ v → P s) g.systems (λ s. implied_dec (ℕ_discrete s.clock v) (dec s)))

  -- ---- steps that are stated

  one_less_dec : (v : ℕ) (line : SystemLine) → Dec (StatesOneLess lines v line)
  one_less_dec v line =
      dec_iff (λ (other, stated, (is, less)). (other.steps, (other, stated, is, refl), less))
      (λ (d, (other, stated, is, has), less). (other, stated, (is, ap (λ (n : ℕ). n + 1) has ∙ less)))
      (any_dec (λ (other : SystemLine). (other.clock ≡ v) × (other.steps + 1 ≡ line.steps)) lines
      (λ other stated. dec_both (ℕ_discrete other.clock v) (ℕ_discrete (other.steps + 1) line.steps)))

  -- ---- the tests of a line

  root_dec : (line : SystemLine) → Dec (PassesLine tests.Root g lines line)
  root_dec line =
      of_system_dec line.clock (λ (s : System). line.far ≡ false → line.parent ≡ None → line.root ≡ s.identity)
      (λ s. implied_dec (bool_dec line.far false) (implied_dec (none_dec line.parent)
      (ℕ_discrete line.root s.identity)))

  identity_dec : (line : SystemLine) → Dec (PassesLine tests.Identity g lines line)
  identity_dec line =
      of_system_dec line.clock (λ (s : System). line.root ≤ s.identity) (λ s. dec_le line.root s.identity)

  steps_dec : (line : SystemLine) → Dec (FitsSteps line)
  steps_dec line =
      dec_iff (λ h. record { none = h.0; some = h.1.0; near = h.1.1.0; far = h.1.1.1 })
      (λ h. (h.none, (h.some, (h.near, h.far))))
      (dec_both (implied_dec (bool_dec line.far false) (implied_dec (none_dec line.parent) (ℕ_discrete line.steps 0)))
      (dec_both (if_some_dec (λ (l : ParentLink). 0 < line.steps) (λ l. dec_lt 0 line.steps) line.parent)
      (dec_both (implied_dec (bool_dec line.far false) (dec_lt line.steps 255))
      (implied_dec (bool_dec line.far true) (dec_le 255 line.steps)))))

  follows_dec : (line : SystemLine) (l : ParentLink) → Dec (FollowsParent g lines line.clock line.steps l)
  follows_dec line l =
      dec_iff (λ h. record { joins = h.0; less = h.1 }) (λ h. (h.joins, h.less))
      (dec_both (Joins-dec g (port_of line.clock l.own_port) (port_of l.clock l.port)) (one_less_dec l.clock line))

  -- over a link of the line's system to one that states one step less
  nearer_dec : (line : SystemLine) → Dec (HasNearer g lines line)
  nearer_dec line =
      dec_iff (λ (other, stated, (near, less)). (other.clock, near, (other.steps, (other, stated, refl, refl), less)))
      (λ (w, near, (d, (other, stated, is, has), less)).
      (other, stated, (subst (Adjacent g line.clock) (sym is) near, ap (λ (n : ℕ). n + 1) has ∙ less)))
      (any_dec (λ (other : SystemLine). Adjacent g line.clock other.clock × (other.steps + 1 ≡ line.steps)) lines
      (λ other stated. dec_both (Adjacent-dec g line.clock other.clock) (ℕ_discrete (other.steps + 1) line.steps)))

  parent_dec : (line : SystemLine) → Dec (FollowsNearer g lines line)
  parent_dec line =
      dec_iff (λ h. record { near = h.0; far = h.1 }) (λ h. (h.near, h.far))
      (dec_both (if_some_dec (λ (l : ParentLink). FollowsParent g lines line.clock line.steps l) (follows_dec line)
      line.parent)
      (implied_dec (bool_dec line.far true) (nearer_dec line)))

  module _ (wf : IsWellFormed g) where
    -- a way over the link at a port
    pub no_lower_dec : (line : SystemLine) (l : ParentLink) (n : ℕ) → Dec (IsNoLower g lines line l n)
    no_lower_dec line l n = by (IsLinked-dec g (port_of line.clock n))
      where
        by : Dec (IsLinked g (port_of line.clock n)) → Dec (IsNoLower g lines line l n)
        by (no out) = yes (λ other d joins states less lower. out (other, joins))
        by (yes (q, joins)) =
            dec_iff
            (λ free other d over states less lower.
            let same : other ≡ q = wf.one_link (port_of line.clock n) other q over joins in
            free (
              subst (λ (r : PortIdentity). StatesOneLess lines r.clock line) same (d, states, less),
              subst (λ (r : PortIdentity). IsLower (r.clock ∷ r.port ∷ n ∷ []) (key l)) same lower,
            ))
            (λ all ((d, states, less), lower). all q d joins states less lower)
            (denied_dec (dec_both (one_less_dec q.clock line)
            (lower_dec (q.clock ∷ q.port ∷ n ∷ []) (key l))))

    tie_dec : (line : SystemLine) → Dec (PassesLine tests.Tie g lines line)
    tie_dec line =
        if_some_dec (λ (l : ParentLink). (port : PortLine) → In port line.ports
        → IsNoLower g lines line l port.number)
        (λ l. each_dec (λ (port : PortLine). IsNoLower g lines line l port.number) line.ports
        (λ port. no_lower_dec line l port.number)) line.parent

    -- ---- roles

    slave_dec : (line : SystemLine) (n : ℕ) → Dec (StatesSlave line n)
    slave_dec line n = by line.parent refl
      where
        by : (parent : Option ParentLink) → line.parent ≡ parent → Dec (StatesSlave line n)
        by None is = no (λ (l, some, own). absurd (let clash = sym is ∙ some in cc))
        by (Some l) is =
            dec_iff (λ own. (l, is, own))
            (λ (k, some, own). let same : l ≡ k = (let both = sym is ∙ some in cc) in
            ap (λ (x : ParentLink). x.own_port) same ∙ own)
            (ℕ_discrete l.own_port n)

    abbrev IsNearerThan : SystemLine → PortIdentity → SystemLine → Type 0
    IsNearerThan line q other =
        (other.clock ≡ q.clock) × ((line.steps < other.steps) ⊎ ((line.steps ≡ other.steps) × (line.clock < q.clock)))

    master_dec : (line : SystemLine) (n : ℕ) → Dec (StatesMaster g lines line n)
    master_dec line n = by (IsLinked-dec g (port_of line.clock n))
      where
        over : (q : PortIdentity) → Joins g (port_of line.clock n) q
            → ((other : SystemLine) × In other lines × IsNearerThan line q other) → StatesMaster g lines line n
        over q joins (other, stated, (is, nearer)) = record {
          other = q;
          joins = joins;
          there = other.steps;
          is_there = (other, stated, is, refl);
          nearer = nearer;
        }

        back : (q : PortIdentity) → Joins g (port_of line.clock n) q → StatesMaster g lines line n
            → (other : SystemLine) × In other lines × IsNearerThan line q other
        back q joins h =
            let same : h.other ≡ q = wf.one_link (port_of line.clock n) h.other q h.joins joins in
            let (other, stated, is, has) = h.is_there in (
              other,
              stated,
              (
                is ∙ ap (λ (r : PortIdentity). r.clock) same,
                subst (λ (r : PortIdentity). (line.steps < other.steps)
                    ⊎ ((line.steps ≡ other.steps) × (line.clock < r.clock))) same
                    (subst (λ (d : ℕ). (line.steps < d) ⊎ ((line.steps ≡ d) × (line.clock < h.other.clock))) (sym has)
                    h.nearer),
              ),
            )

        by : Dec (IsLinked g (port_of line.clock n)) → Dec (StatesMaster g lines line n)
        by (no out) = no (λ h. out (h.other, h.joins))
        by (yes (q, joins)) =
            dec_iff (over q joins) (back q joins)
            (any_dec (IsNearerThan line q) lines
            (λ other stated. dec_both (ℕ_discrete other.clock q.clock)
            (dec_either (dec_lt line.steps other.steps)
            (dec_both (ℕ_discrete line.steps other.steps) (dec_lt line.clock q.clock)))))

    role_by_dec : {L S M : Type 0} → Dec L → Dec S → Dec M → (role : Role) → Dec (RoleBy L S M role)
    role_by_dec l s m Disabled = denied_dec l
    role_by_dec l s m Slave = dec_both l s
    role_by_dec l s m Master = all_three_dec l (denied_dec s) m
    role_by_dec l s m Passive = all_three_dec l (denied_dec s) (denied_dec m)

    pub port_role_dec : (line : SystemLine) (port : PortLine)
        → Dec (HasStatedRole g lines line port.number port.role)
    port_role_dec line port =
        role_by_dec (IsLinked-dec g (port_of line.clock port.number)) (slave_dec line port.number)
        (master_dec line port.number) port.role

    role_dec : (line : SystemLine) → Dec (PassesLine tests.Role g lines line)
    role_dec line =
        each_dec (λ (port : PortLine). HasStatedRole g lines line port.number port.role) line.ports
        (port_role_dec line)

    pub line_dec : (test : LineTest) (line : SystemLine) → Dec (PassesLine test g lines line)
    line_dec tests.TooFar line = dec_lt line.steps 255
    line_dec tests.Root line = root_dec line
    line_dec tests.Steps line = steps_dec line
    line_dec tests.Parent line = parent_dec line
    line_dec tests.Identity line = identity_dec line
    line_dec tests.Tie line = tie_dec line
    line_dec tests.Role line = role_dec line

    -- ---- links

    link_dec : Dec (PassesLink g lines)
    link_dec =
        dec_iff (λ all one other is also near. all one is other also near)
        (λ all one is other also near. all one other is also near)
        (each_dec (λ (one : SystemLine). (other : SystemLine) → In other lines → Adjacent g one.clock other.clock
        → (one.root ≡ other.root) × (one.steps ≤ other.steps + 1) × (other.steps ≤ one.steps + 1)) lines
        (λ one. each_dec (λ (other : SystemLine). Adjacent g one.clock other.clock
        → (one.root ≡ other.root) × (one.steps ≤ other.steps + 1) × (other.steps ≤ one.steps + 1)) lines
        (λ other. implied_dec (Adjacent-dec g one.clock other.clock)
        (all_three_dec (ℕ_discrete one.root other.root) (dec_le one.steps (other.steps + 1))
        (dec_le other.steps (one.steps + 1))))))

    -- ---- each fault

    each_line_dec : (test : LineTest) → Dec (PassesEachLine test g lines)
    each_line_dec test = each_dec (PassesLine test g lines) lines (line_dec test)

    module _ (version : ℕ) (right : PassesSystems g lines) where
      by_lines_dec : (test : LineTest) → (test ≡ tests.TooFar → version ≡ 1)
          → Dec (test_of (found_by test) version g lines)
      by_lines_dec test first =
          let same = by_lines version g lines test wf right first in
          dec_iff same.0 same.1 (each_line_dec test)

      too_far_dec : Dec (version ≡ 1) → Dec (test_of TooFar version g lines)
      too_far_dec (no other) = yes (λ first. absurd (other first))
      too_far_dec (yes first) = by_lines_dec tests.TooFar (λ same. first)

      pub fault_dec : (fault : Fault) → Dec (test_of fault version g lines)
      fault_dec Systems = yes right
      fault_dec Root = by_lines_dec tests.Root (λ same. absurd cc)
      fault_dec Steps = by_lines_dec tests.Steps (λ same. absurd cc)
      fault_dec Parent = by_lines_dec tests.Parent (λ same. absurd cc)
      fault_dec Link = link_dec
      fault_dec Identity = by_lines_dec tests.Identity (λ same. absurd cc)
      fault_dec Tie = by_lines_dec tests.Tie (λ same. absurd cc)
      fault_dec RoleFault = by_lines_dec tests.Role (λ same. absurd cc)
      fault_dec TooFar = too_far_dec (ℕ_discrete version 1)
