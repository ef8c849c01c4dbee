-- The first of those that fail: in rising order what stands before a place is all that is lower.
use Rattle.std.proofs.Common.{◌≡◌, ◌≢◌, ◌<◌, ◌↔◌, ℕ, zero, suc, Bool, IsTrue, true, false, not, is_some, Option, Some, None, IfSome, IfNone, List, [], ◌∷◌, map, option_map, slice_get, refl, sym, ap, subst, ◌∙◌, inl, inr, arith}
use Rattle.std.specs.List.{range_with_len}
use Rattle.gptp_lists.specs.Members.{In}
use Rattle.gptp_lists.proofs.MappedLemmas.{mapped_there, same_there, some_same}
use Rattle.gptp_lists.proofs.SystemSpecLemmas.{In-map, In-slice_get, from_map, same_image, slice_get-In}
use Rattle.gptp_graph.specs.Order.{IsRising}
use Rattle.gptp_graph.specs.Labelling.{PortLine, SystemLine, HasItsSystems, IsBare, line_clocks, port_numbers}
use Rattle.gptp_graph.specs.LocalTests.{PassesSystems}
use Rattle.gptp_graph.specs.Snapshot.{IsWellFormed, System, Snapshot, clocks}
use Rattle.gptp_graph.proofs.RisingLemmas.{Different-rising}
use Rattle.gptp_checker.specs.Faults.{test_of}
use Rattle.gptp_checker.specs.LineTests.{PassesEachLine, PassesLine}
use Rattle.gptp_checker.specs.Located.{LinesAreKnown, AreStated, DiffersAt, HasAllPorts, IsFirstLine, IsFirstPort, IsKnownLine, IsLeastSuch, IsMissing, IsStrange}
use Rattle.gptp_checker.specs.Places.{IsSystemAt}
use Rattle.gptp_checker.specs.declared.fault.Fault.{Fault}
use Rattle.gptp_checker.specs.declared.fault.Fault.TheVariants.{Systems}
use Rattle.gptp_checker.specs.declared.line_test.LineTest.{LineTest}
use Rattle.gptp_checker.specs.declared.line_test.LineTest.TheVariants.{TooFar, Root, Steps, Parent, Identity, Tie, Role}
use Rattle.gptp_checker.specs.declared.location.Location.{Location}
use Rattle.gptp_checker.proofs.EachLemmas.{HoldBefore}
use Rattle.gptp_checker.proofs.FaultLemmas.{absent_by_lines, found_by}

-- in a rising list what stands earlier is lower
rising_places : (xs : List ℕ) → IsRising xs → (i j m n : ℕ) → slice_get xs i ≡ Some m → slice_get xs j ≡ Some n → i < j
    → m < n
rising_places [] h i j m n a b below = absurd cc
rising_places (x ∷ xs) h i zero m n a b below = absurd (omega arith)
rising_places (x ∷ xs) h zero (suc j) m n a b below =
    subst (λ k. k < n) (some_same x m a) (h.0 n (In-slice_get n xs j b))
rising_places (x ∷ xs) h (suc i) (suc j) m n a b below = rising_places xs h.1 i j m n a b (omega arith)

-- what holds of those before a place holds of those with a lower key
pub lower_hold : {X : Type 0} (key : X → ℕ) (P : X → Type 0) (xs : List X) (i : ℕ) (x : X) → IsRising (map key xs)
    → HoldBefore P xs i → slice_get xs i ≡ Some x → (y : X) → In y xs → key y < key x → P y
lower_hold {X} key P xs i x rising h at y k below = here (slice_get-In y xs k)
  where
    behind : (j : ℕ) → slice_get xs j ≡ Some y → i < j → ⊥
    behind j there over =
        let more = rising_places (map key xs) rising i j (key x) (key y) (mapped_there key xs i x at)
        (mapped_there key xs j y there) over in
        omega arith

    same : (j : ℕ) → slice_get xs j ≡ Some y → j ≡ i → ⊥
    same j there e =
        let one : x ≡ y = same_there xs i x y at (subst (λ k. slice_get xs k ≡ Some y) e there) in
        let keys : key x ≡ key y = ap key one in
        omega arith

    here : (j : ℕ) × (slice_get xs j ≡ Some y) → P y
    here (j, there) = elim (native.Mathlib.Decide.dec_lt j i) [
      | yes before ↦ h.each j y before there
      | no over ↦ elim (native.Mathlib.Decide.dec_lt i j) [
        | yes later ↦ absurd (behind j there later)
        | no neither ↦ absurd (same j there (omega arith))
      ]
    ]

-- an option by its image
pub some_by_image : {X Y : Type 0} (f : X → Y) (P : Y → Type 0) (o : Option X) → IfSome (option_map f o) P
    → IfSome o (λ x. P (f x))
some_by_image f P None h = tt
some_by_image f P (Some x) h = h

pub some_weaker : {X : Type 0} (P Q : X → Type 0) (o : Option X) → ((x : X) → P x → Q x) → IfSome o P → IfSome o Q
some_weaker P Q None f h = tt
some_weaker P Q (Some x) f h = f x h

pub none_weaker : {X : Type 0} (Q R : Type 0) (o : Option X) → (Q → R) → IfNone o Q → IfNone o R
none_weaker Q R None f h = f h
none_weaker Q R (Some x) f h = tt

-- nothing is found exactly where all pass
pub none_by : {X : Type 0} (P : X → Type 0) (Q : Type 0) (o : Option X) (b : Bool) → is_some o ≡ not b → IfSome o P
    → IfNone o Q → ((x : X) → P x → Q → ⊥) → IsTrue b ↔ Q
none_by P Q None true e s n f = ((λ t. n), (λ q. refl))
none_by P Q None false e s n f = absurd cc
none_by P Q (Some x) true e s n f = absurd cc
none_by P Q (Some x) false e s n f = ((λ t. absurd cc), (λ q. absurd (f x s q)))

-- the line at the first place at which a test fails
module _ (test : LineTest) (g : Snapshot) (lines : List SystemLine) (i : ℕ) (rising : IsRising (line_clocks lines))
    (before : HoldBefore (PassesLine test g lines) lines i)
    (fails : ((line : SystemLine) → slice_get lines i ≡ Some line → PassesLine test g lines line) → ⊥) where
  first_line : (line : SystemLine) → slice_get lines i ≡ Some line → IsFirstLine test g lines line
  first_line line at = record {
    stated = In-slice_get line lines i at;
    fails = λ passes. fails (λ other there.
        subst (PassesLine test g lines) (same_there lines i line other at there) passes);
    first = lower_hold (λ (l : SystemLine). l.clock) (PassesLine test g lines) lines i line rising before at;
  }

  pub is_first_line : (o : Option SystemLine) → o ≡ slice_get lines i → IfSome o (IsFirstLine test g lines)
  is_first_line None at = tt
  is_first_line (Some line) at = first_line line (sym at)

-- of a line's ports the one at the first place that fails
pub first_port : (P : PortLine → Type 0) (line : SystemLine) (i : ℕ) (port : PortLine) → IsRising (port_numbers line)
    → HoldBefore P line.ports i → slice_get line.ports i ≡ Some port → (P port → ⊥) → IsFirstPort P line port
first_port P line i port rising before at fails = record {
  stated = In-slice_get port line.ports i at;
  fails = fails;
  first = lower_hold (λ (p : PortLine). p.number) P line.ports i port rising before at;
}

-- ---- systems

-- the line at the first place that is strange
pub first_strange : (g : Snapshot) (lines : List SystemLine) (i v : ℕ) → IsRising (line_clocks lines)
    → HoldBefore (IsKnownLine g) lines i
    → (line : SystemLine) × (slice_get lines i ≡ Some line) × (line.clock ≡ v) × (IsKnownLine g line → ⊥)
    → IsLeastSuch (IsStrange g lines) v
first_strange g lines i v rising before (line, at, has, strange) = (
  (line, record { stated = In-slice_get line lines i at; has = has }, strange),
  (λ m below (other, there, is). is (lower_hold (λ (l : SystemLine). l.clock) (IsKnownLine g) lines i line rising before
      at other there.stated (let e = there.has in let f = has in omega arith))),
)

-- the system at the first place that is missing
pub first_missing : (g : Snapshot) (lines : List SystemLine) (i v : ℕ) → IsRising (clocks g)
    → HoldBefore (λ (s : System). In s.clock (line_clocks lines)) g.systems i
    → (s : System) × (slice_get g.systems i ≡ Some s) × (s.clock ≡ v) × (In s.clock (line_clocks lines) → ⊥)
    → IsLeastSuch (IsMissing g lines) v
first_missing g lines i v rising before (s, at, has, missing) = (
  (
    subst (λ w. In w (clocks g)) has (In-map (λ (t : System). t.clock) s g.systems (In-slice_get s g.systems i at)),
    subst (λ w. In w (line_clocks lines) → ⊥) has missing,
  ),
  (λ m below (live, absent).
      let (other, there, is) = from_map (λ (t : System). t.clock) m g.systems live in
      absent (subst (λ w. In w (line_clocks lines)) is
      (lower_hold (λ (t : System). t.clock) (λ (t : System). In t.clock (line_clocks lines)) g.systems i s rising before
      at other there (let f = has in let e = is in omega arith)))),
)

-- the least that differs
pub least_of_strange : (g : Snapshot) (lines : List SystemLine) (v : ℕ) → IsLeastSuch (IsStrange g lines) v
    → ((m : ℕ) → m < v → IsMissing g lines m → ⊥) → IsLeastSuch (DiffersAt g lines) v
least_of_strange g lines v (is, least) none = (inl is, below)
  where
    below : (m : ℕ) → m < v → DiffersAt g lines m → ⊥
    below m b (inl strange) = least m b strange
    below m b (inr missing) = none m b missing

pub least_of_missing : (g : Snapshot) (lines : List SystemLine) (v : ℕ) → IsLeastSuch (IsMissing g lines) v
    → ((m : ℕ) → m < v → IsStrange g lines m → ⊥) → IsLeastSuch (DiffersAt g lines) v
least_of_missing g lines v (is, least) none = (inr is, below)
  where
    below : (m : ℕ) → m < v → DiffersAt g lines m → ⊥
    below m b (inl strange) = none m b strange
    below m b (inr missing) = least m b missing

-- none is strange, and none is missing
pub none_strange : (g : Snapshot) (lines : List SystemLine) → LinesAreKnown g lines → (m : ℕ) → IsStrange g lines m → ⊥
none_strange g lines known m (line, at, strange) = strange (known line at.stated)

pub none_missing : (g : Snapshot) (lines : List SystemLine) → AreStated g lines → (m : ℕ) → IsMissing g lines m → ⊥
none_missing g lines stated m (live, missing) = missing (stated m live)

-- a line by the system of its clock
pub known_by : (g : Snapshot) (line : SystemLine) (s : System) (b : Bool) → IsRising (clocks g)
    → IsSystemAt g.systems line.clock s → (IsTrue b ↔ HasAllPorts s.ports line) → IsTrue b ↔ IsKnownLine g line
known_by g line s b rising at test = (
  (λ t. (s, at, test.0 t)),
  (λ (other, there, ports).
      let same : other ≡ s = same_image (λ (u : System). u.clock) other s g.systems (Different-rising (clocks g) rising)
      there.live at.live (there.has ∙ sym at.has) in
      test.1 (subst (λ (u : System). HasAllPorts u.ports line) same ports)),
)

-- then the systems are right
pub systems_right : (g : Snapshot) (lines : List SystemLine) → IsRising (clocks g) → IsRising (line_clocks lines)
    → ((line : SystemLine) → In line lines → line.far ≡ true → IsBare line) → LinesAreKnown g lines → AreStated g lines
    → HasItsSystems g lines
systems_right g lines rising lines_rising bare known stated = record {
  different = Different-rising (line_clocks lines) lines_rising;
  all = λ s live.
      let (line, is, clock) = from_map (λ (l : SystemLine). l.clock) s.clock lines
      (stated s.clock (In-map (λ (t : System). t.clock) s g.systems live)) in
      (line, record { live = live; stated = is; clock = clock });
  no_other = λ line is.
      let (s, at, ports) = known line is in
      (s, record { live = at.live; stated = is; clock = sym at.has });
  ports = λ s line of.
      let (t, at, ports) = known line of.stated in
      let same : t ≡ s = same_image (λ (u : System). u.clock) t s g.systems (Different-rising (clocks g) rising) at.live
      of.live (at.has ∙ of.clock) in
      subst (λ u. line.far ≡ false → port_numbers line ≡ range_with_len 1 u.ports) same ports;
  bare = bare;
}

-- ---- the place of a fault

-- another fault is looked for where the systems are right
pub right_for : (g : Snapshot) (lines : List SystemLine) (fault : Fault) (test : LineTest)
    → (fault ≢ Systems → PassesSystems g lines) → fault ≡ found_by test → PassesSystems g lines
right_for g lines fault test right e = right (λ s. other test (sym e ∙ s))
  where
    other : (t : LineTest) → found_by t ≡ Systems → ⊥
    other TooFar s = absurd cc
    other Root s = absurd cc
    other Steps s = absurd cc
    other Parent s = absurd cc
    other Identity s = absurd cc
    other Tie s = absurd cc
    other Role s = absurd cc

-- none is found where each line passes the test of a fault
pub absent_by : (version : ℕ) (g : Snapshot) (lines : List SystemLine) (fault : Fault) (test : LineTest)
    (o : Option Location) → IsWellFormed g → (fault ≢ Systems → PassesSystems g lines) → fault ≡ found_by test
    → IfNone o (PassesEachLine test g lines) → IfNone o (test_of fault version g lines)
absent_by version g lines fault test o wf right e h =
    subst (λ f. IfNone o (test_of f version g lines)) (sym e)
    (none_weaker (PassesEachLine test g lines) (test_of (found_by test) version g lines) o
    (absent_by_lines version g lines test wf (right_for g lines fault test right e)) h)
