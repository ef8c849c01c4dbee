-- The table of the lanes that begin at each port.
use Rattle.std.proofs.Common.{◌≡◌, ℕ, ◌+◌, ◌*◌, ◌<◌, ◌≤◌, Bool, true, false, nat_eq, nat_lt, List, length, Option, Some, None, IfSome, slice_get, slice_index_or, slice_set, refl, sym, ap, subst, ◌∙◌, arith}
use Rattle.std.proofs.lemmas.Bool.Decides.{nat_tests}
use Rattle.std.proofs.lemmas.Grind.{get_or-set_at}
use Rattle.std.proofs.lemmas.List.{length-set, get_or-set_other}
use Rattle.std.proofs.lemmas.Option.{slice_get_within, slice_get_read, get_or_from_slice_get}
use Rattle.gptp_setup.specs.declared.limits.TheConstants.{MOST_PORTS}
use Rattle.gptp_vector.specs.declared.port.PortId.{PortId}
use Rattle.gptp_links.specs.declared.link.Direction.{Direction}
use Rattle.gptp_links.specs.declared.link.Direction.TheVariants.{FromA, FromB}
use Rattle.gptp_world.specs.declared.directory.TheConstants.{PORT_SPAN}
use Rattle.gptp_traffic.specs.declared.joined_link.Lane.{Lane}
use Rattle.gptp_world.specs.declared.directory.Ends.{Ends}
use Rattle.gptp_world.specs.Directory.{Join, direction_start, direction_number, lane_number, lanes_entered, BeginsAt, IsPlan, IsOut, AreOuts}
use Rattle.gptp_lists.proofs.MappedLemmas.{same_there}

abbrev pub port_id : ℕ → ℕ → PortId
port_id clock port = record { clock = clock; port = port }

abbrev made : ℕ → Direction → Lane
made link direction = record { link = link; direction = direction }

-- a lane has its number alone
same_parts : (a b : ℕ) (d e : Direction) → 2 * a + direction_number d ≡ 2 * b + direction_number e → (a ≡ b) × (d ≡ e)
same_parts a b FromA FromA h = (omega arith, refl)
same_parts a b FromB FromB h = (omega arith, refl)
same_parts a b FromA FromB h = absurd (omega arith)
same_parts a b FromB FromA h = absurd (omega arith)

same_lane : (k l : Lane) → lane_number k ≡ lane_number l → k ≡ l
same_lane k l h =
    let e = same_parts k.link l.link k.direction l.direction h in
    ap (λ v. made v k.direction) e.0 ∙ ap (λ v. made l.link v) e.1

-- a lane begins at one port
begins_once : (joins : List Join) (p q : PortId) (l : Lane) → BeginsAt joins p l → BeginsAt joins q l → p ≡ q
begins_once joins p q l x y =
    sym x.begins ∙ ap (direction_start l.direction) (same_there joins l.link x.join y.join x.there y.there) ∙ y.begins

-- one more lane, which begins elsewhere
unless_here : (k : ℕ) (joins : List Join) (p : PortId) (l : Lane) → lane_number l ≡ k → (BeginsAt joins p l → ⊥)
    → (o : Option Lane) → IsOut k joins p o → IsOut (k + 1) joins p o
unless_here k joins p l e h (Some m) x = (let b = x.0 in omega arith, x.1)
unless_here k joins p l e h None x = λ m below begins. tested m below begins (nat_lt (lane_number m) k) refl where
  tested : (m : Lane) → lane_number m < k + 1 → BeginsAt joins p m → (t : Bool) → nat_lt (lane_number m) k ≡ t → ⊥
  tested m below begins true f = x m (grind (arith, nat_tests)) begins
  tested m below begins false f =
      let same : lane_number m ≡ lane_number l = grind (arith, nat_tests) in
      h (subst (BeginsAt joins p) (same_lane m l same) begins)

-- at another port nothing changes
at_other : (k : ℕ) (clocks : List ℕ) (joins : List Join) (outs : List (Option Lane)) (l : Lane) (x c q : ℕ)
    → ((i j clock : ℕ) → slice_get clocks i ≡ Some clock → slice_get clocks j ≡ Some clock → i ≡ j)
    → AreOuts k clocks joins outs → lane_number l ≡ k → slice_get clocks x ≡ Some c → BeginsAt joins (port_id c q) l
    → (place port clock : ℕ) → slice_get clocks place ≡ Some clock → port ≤ MOST_PORTS
    → (PORT_SPAN * place + port ≡ PORT_SPAN * x + q → ⊥)
    → IsOut (k + 1) joins (port_id clock port) (slice_index_or outs (PORT_SPAN * place + port) None)
at_other k clocks joins outs l x c q differ h e there begins place port clock at few apart =
    unless_here k joins (port_id clock port) l e
    (λ b.
    let same = begins_once joins (port_id clock port) (port_id c q) l b begins in
    let clocks_same : clock ≡ c = ap (λ (p : PortId). p.clock) same in
    let ports_same : port ≡ q = ap (λ (p : PortId). p.port) same in
    let places_same : place ≡ x = differ place x clock at (there ∙ ap Some (sym clocks_same)) in
    apart (omega arith))
    (slice_index_or outs (PORT_SPAN * place + port) None)
    (h.each place port clock at few)

at_own : (k : ℕ) (clocks : List ℕ) (joins : List Join) (l : Lane) (x c q : ℕ)
    → lane_number l ≡ k → slice_get clocks x ≡ Some c → q ≤ MOST_PORTS → BeginsAt joins (port_id c q) l
    → (place port clock : ℕ) → slice_get clocks place ≡ Some clock → port ≤ MOST_PORTS
    → PORT_SPAN * place + port ≡ PORT_SPAN * x + q
    → IsOut (k + 1) joins (port_id clock port) (Some l)
at_own k clocks joins l x c q e there small begins place port clock at few here =
    let places_same : place ≡ x = omega arith in
    let ports_same : port ≡ q = omega arith in
    let clocks_same : clock ≡ c = same_there clocks x clock c (ap (slice_get clocks) (sym places_same) ∙ at) there in (
      omega arith,
      subst (λ p. BeginsAt joins p l)
          (ap (λ v. port_id v q) (sym clocks_same) ∙ ap (λ v. port_id clock v) (sym ports_same)) begins,
    )

-- one more lane is entered
pub one_entered : (k : ℕ) (clocks : List ℕ) (joins : List Join) (outs : List (Option Lane)) (l : Lane) (x c q : ℕ)
    → ((i j clock : ℕ) → slice_get clocks i ≡ Some clock → slice_get clocks j ≡ Some clock → i ≡ j)
    → AreOuts k clocks joins outs → lane_number l ≡ k → slice_get clocks x ≡ Some c → q ≤ MOST_PORTS
    → BeginsAt joins (port_id c q) l
    → AreOuts (k + 1) clocks joins (slice_set outs (PORT_SPAN * x + q) (Some l))
one_entered k clocks joins outs l x c q differ h e there small begins = record {
  count = length-set outs (PORT_SPAN * x + q) (Some l) ∙ h.count;
  each = λ place port clock at few.
      tested place port clock at few (nat_eq (PORT_SPAN * place + port) (PORT_SPAN * x + q)) refl;
} where
  within : PORT_SPAN * x + q < length outs
  within = let b = slice_get_within clocks x c there in let n = h.count in omega arith

  tested : (place port clock : ℕ) → slice_get clocks place ≡ Some clock → port ≤ MOST_PORTS → (t : Bool)
      → nat_eq (PORT_SPAN * place + port) (PORT_SPAN * x + q) ≡ t
      → IsOut (k + 1) joins (port_id clock port)
      (slice_index_or (slice_set outs (PORT_SPAN * x + q) (Some l)) (PORT_SPAN * place + port) None)
  tested place port clock at few true f =
      let here : PORT_SPAN * place + port ≡ PORT_SPAN * x + q = grind (arith, nat_tests) in
      subst (IsOut (k + 1) joins (port_id clock port))
      (sym (get_or-set_at outs (PORT_SPAN * x + q) (PORT_SPAN * place + port) (Some l) None here within))
      (at_own k clocks joins l x c q e there small begins place port clock at few here)
  tested place port clock at few false f =
      let apart : PORT_SPAN * place + port ≡ PORT_SPAN * x + q → ⊥ = λ s. grind (arith, nat_tests) in
      subst (IsOut (k + 1) joins (port_id clock port))
      (sym (get_or-set_other outs (PORT_SPAN * x + q) (PORT_SPAN * place + port) (Some l) None apart))
      (at_other k clocks joins outs l x c q differ h e there begins place port clock at few apart)

-- both lanes of a link are entered
pub both_entered : (i : ℕ) (clocks : List ℕ) (joins : List Join) (outs : List (Option Lane)) (join : Join) (ends : Ends)
    → IsPlan clocks joins → AreOuts (2 * i) clocks joins outs → slice_get joins i ≡ Some join
    → slice_get clocks ends.a ≡ Some join.a.clock → slice_get clocks ends.b ≡ Some join.b.clock
    → AreOuts (2 * (i + 1)) clocks joins (lanes_entered i join ends outs)
both_entered i clocks joins outs join ends plan h at at_a at_b =
    let one = one_entered (2 * i) clocks joins outs (made i FromA) ends.a join.a.clock join.a.port plan.differ h
    (omega arith) at_a (plan.placed_a i join at).last (record { join = join; there = at; begins = refl }) in
    let two = one_entered (2 * i + 1) clocks joins _ (made i FromB) ends.b join.b.clock join.b.port plan.differ one
    (omega arith) at_b (plan.placed_b i join at).last (record { join = join; there = at; begins = refl }) in
    let e : 2 * i + 1 + 1 ≡ 2 * (i + 1) = omega arith in
    subst (λ k. AreOuts k clocks joins (lanes_entered i join ends outs)) e two

-- ---- reading the table

pub at_port : (clocks : List ℕ) (joins : List Join) (outs : List (Option Lane)) (place port clock : ℕ) (o : Option Lane)
    → AreOuts (2 * length joins) clocks joins outs → slice_get clocks place ≡ Some clock → port ≤ MOST_PORTS
    → o ≡ slice_index_or outs (PORT_SPAN * place + port) o → IsOut (2 * length joins) joins (port_id clock port) o
at_port clocks joins outs place port clock o h e few is =
    let within : PORT_SPAN * place + port < length outs =
    let l = slice_get_within clocks place clock e in let n = h.count in omega arith in
    let there : slice_get outs (PORT_SPAN * place + port) ≡ Some o = slice_get_read outs (length outs)
    (PORT_SPAN * place + port) o refl within is in
    subst (IsOut (2 * length joins) joins (port_id clock port))
    (get_or_from_slice_get outs (PORT_SPAN * place + port) o None there) (h.each place port clock e few)

pub begins : (k : ℕ) (joins : List Join) (p : PortId) (o : Option Lane) → IsOut k joins p o
    → IfSome o (BeginsAt joins p)
begins k joins p None h = tt
begins k joins p (Some l) h = h.1

few_directions : (d : Direction) → direction_number d < 2
few_directions FromA = omega arith
few_directions FromB = omega arith

pub only_lane : (clocks : List ℕ) (joins : List Join) (p : PortId) (o : Option Lane) (l : Lane) → IsPlan clocks joins
    → IsOut (2 * length joins) joins p o → BeginsAt joins p l → o ≡ Some l
only_lane clocks joins p (Some m) l plan h b = ap Some (plan.one_lane p m l h.1 b)
only_lane clocks joins p None l plan h b =
    let there = slice_get_within joins l.link b.join b.there in
    let few = few_directions l.direction in
    absurd (h l (omega arith) b)

pub small_port : (clocks : List ℕ) (joins : List Join) (p : PortId) (link : ℕ) (d : Direction) (join : Join)
    → IsPlan clocks joins
    → slice_get joins link ≡ Some join → direction_start d join ≡ p → p.port ≤ MOST_PORTS
small_port clocks joins p link FromA join plan e b = subst (λ (q : PortId). q.port ≤ MOST_PORTS) b
    (plan.placed_a link join e).last
small_port clocks joins p link FromB join plan e b = subst (λ (q : PortId). q.port ≤ MOST_PORTS) b
    (plan.placed_b link join e).last
