-- What the systems of a world state of themselves has the lines of a certificate.
use Rattle.std.proofs.Common.{◌≡◌, ◌+◌, ◌<◌, ◌≤◌, ℕ, zero, suc, Bool, true, false, List, [], ◌∷◌, length, map, Some, None, slice_get, refl, sym, ap, subst, ◌∙◌, inl, inr, arith}
use native.Mathlib.Decide.{ℕ_discrete, dec_le, dec_lt}
use Rattle.gptp_lists.specs.Members.{In}
use Rattle.gptp_lists.proofs.MappedLemmas.{same_there}
use Rattle.gptp_lists.proofs.SystemSpecLemmas.{In-map, In-slice_get, from_map, slice_get-In}
use Rattle.gptp_graph.specs.Distance.{IsDistanceFrom}
use Rattle.gptp_graph.specs.Labelling.{SystemLine, line_clocks}
use Rattle.gptp_graph.specs.Marking.{AreFarSteps, IsFar, IsLowestRoot, IsStatedBeside, LeadsToNear, Statement}
use Rattle.gptp_graph.specs.Order.{IsRising}
use Rattle.gptp_graph.specs.Path.{Reaches}
use Rattle.gptp_graph.specs.Snapshot.{IsWellFormed, Snapshot, clocks}
use Rattle.gptp_graph.proofs.DecisionLemmas.{any_dec, dec_both, dec_either, dec_iff, least_number}
use Rattle.gptp_graph.proofs.DistanceLemmas.{IsDistanceFrom-unique, least_route}
use Rattle.gptp_graph.proofs.ExistenceLemmas.{Reaches-dec, distance_from_exists}
use Rattle.gptp_graph.proofs.PathLemmas.{Reaches-route, Reaches-self}
use Rattle.gptp_system.specs.State.{clock}
use Rattle.gptp_model.specs.declared.station.Station.{Station}
use Rattle.gptp_model.specs.Acts.{AnySystem, AtSystem}
use Rattle.gptp_model.specs.Sound.{HaveOwnClocks}
use Rattle.gptp_model.specs.Views.{rising_clocks}
use Rattle.gptp_model.specs.World.{WorldState}
use Rattle.gptp_model.proofs.RisingLemmas.{rising_clocks-at}
use Rattle.gptp_invariants.specs.WorldBounded.{statement_of, statements_of}
use Rattle.gptp_invariants.specs.WorldSettlingInvariant.{SettlingInvariant}
use Rattle.gptp_invariants.specs.WorldStanding.{snapshot_of}
use Rattle.gptp_invariants.proofs.WorldBoundedLemmas.{statement_there, stated_lives}
use Rattle.gptp_invariants.proofs.WorldNameLemmas.{clock_of_station, clocks_rise, In-rising}
use Rattle.gptp_invariants.proofs.WorldStandsLemmas.{stands_well}
use Rattle.gptp_certificate.specs.Stated.{IsStatedLine, IsStated, States, stated_line}

-- ---- far systems

not_dec : {A : Type 0} → Dec A → Dec (A → ⊥)
not_dec (yes here) = no (λ out. out here)
not_dec (no out) = yes out

module _ (g : Snapshot) (wf : IsWellFormed g) where
  -- whether a system has this distance from another
  distance_dec : (b v k : ℕ) → In b (clocks g) → Dec (IsDistanceFrom g b v k)
  distance_dec b v k here = by (Reaches-dec g b v wf here)
    where
      by : Dec (Reaches g b v) → Dec (IsDistanceFrom g b v k)
      by (no out) = no (λ h. out (h.path.0, h.path.1))
      by (yes reached) =
          let (d, is) = distance_from_exists g b v wf reached in
          dec_iff (λ same. subst (IsDistanceFrom g b v) same is) (λ h. IsDistanceFrom-unique g b v d k is h)
          (ℕ_discrete d k)

  module _ (all : List Statement) (known : (one : Statement) → In one all → In one.clock (clocks g)) (one : Statement)
      (stated : In one all) where
    -- whether something that can be told is stated in the component of a system
    beside_dec : (P : Statement → Type 0) → ((other : Statement) → In other all → Dec (P other))
        → Dec ((other : Statement) × IsStatedBeside g all one other × P other)
    beside_dec P decided =
        dec_iff over back (any_dec (λ (other : Statement). Reaches g one.clock other.clock × P other) all
        (λ other member. dec_both (Reaches-dec g one.clock other.clock wf (known one stated))
        (decided other member)))
      where
        over : ((other : Statement) × In other all × (Reaches g one.clock other.clock × P other))
            → (other : Statement) × IsStatedBeside g all one other × P other
        over (other, member, (reached, so)) = (other, record { stated = member; reached = reached }, so)

        back : ((other : Statement) × IsStatedBeside g all one other × P other)
            → (other : Statement) × In other all × (Reaches g one.clock other.clock × P other)
        back (other, beside, so) = (other, beside.stated, (beside.reached, so))

    far_dec : Dec (IsFar g all one)
    far_dec =
        dec_either (dec_le 255 one.steps)
        (beside_dec (λ (other : Statement). other.root < one.root) (λ other member. dec_lt other.root one.root))

    -- a root is stated in its component
    abbrev IsStatedRoot : ℕ → Type 0
    IsStatedRoot root = (other : Statement) × IsStatedBeside g all one other × (other.root ≡ root)

    lowest_exists : (root : ℕ) × IsLowestRoot g all one root
    lowest_exists =
        let self : IsStatedRoot one.root = (
          one,
          record { stated = stated; reached = Reaches-self g one.clock (known one stated) },
          refl,
        ) in
        let decided = λ (r : ℕ).
        beside_dec (λ (other : Statement). other.root ≡ r) (λ other member. ℕ_discrete other.root r) in
        let (root, is, least) = least_number IsStatedRoot decided one.root self in
        (root, record { stated = is; least = λ other beside. least other.root (other, beside, refl) })

  module _ (all : List Statement) (known : (one : Statement) → In one all → In one.clock (clocks g)) (one : Statement)
      (stated : In one all) where
    -- a system that isn't far
    abbrev IsNearOne : Statement → Type 0
    IsNearOne other = IsFar g all other → ⊥

    near_dec : (other : Statement) → In other all → Dec (IsNearOne other)
    near_dec other member = not_dec (far_dec all known other member)

    -- one is stated in the component, at this distance
    abbrev IsNearAt : ℕ → Statement → Type 0
    IsNearAt k other = IsNearOne other × IsDistanceFrom g one.clock other.clock k

    abbrev NearIsAt : ℕ → Type 0
    NearIsAt k = (other : Statement) × IsStatedBeside g all one other × IsNearAt k other

    near_at_dec : (k : ℕ) → Dec (NearIsAt k)
    near_at_dec k =
        beside_dec all known one stated (IsNearAt k)
        (λ other member. dec_both (near_dec other member) (distance_dec one.clock other.clock k (known one stated)))

    -- the end of a route to one that isn't far is stated in the component
    led_beside : (us : List ℕ) (leads : LeadsToNear g all one us) → IsStatedBeside g all one leads.near
    led_beside us leads = record {
      stated = leads.stated;
      reached = Reaches-route g one.clock leads.near.clock us (known one stated) leads.route;
    }

    -- and no nearer than the nearest
    led_later : (k : ℕ) → ((m : ℕ) → NearIsAt m → k ≤ m) → (us : List ℕ) → LeadsToNear g all one us → k ≤ length us
    led_later k least us leads =
        let beside = led_beside us leads in
        let (d, is) = distance_from_exists g one.clock leads.near.clock wf beside.reached in
        let first = least d (leads.near, beside, (leads.is_near, is)) in
        let short = least_route g one.clock leads.near.clock d us is leads.route in
        omega (arith, first, short)

    far_steps_exist : (n : ℕ) × AreFarSteps g all one n
    far_steps_exist = by (beside_dec all known one stated IsNearOne near_dec)
      where
        by : Dec ((other : Statement) × IsStatedBeside g all one other × IsNearOne other)
            → (n : ℕ) × AreFarSteps g all one n
        by (no none) = (65535, inr ((λ us leads. none (leads.near, led_beside us leads, leads.is_near)), refl))
        by (yes (other, beside, is_near)) =
            let (d, is) = distance_from_exists g one.clock other.clock wf beside.reached in
            let (k, (near, there, (so, distance)), least) =
            least_number NearIsAt near_at_dec d (other, beside, (is_near, is)) in
            let (us, path, long) = distance.path in (
              254 + length us,
              inl (
                us,
                record { near = near; stated = there.stated; is_near = so; route = path.route },
                refl,
                λ ts leads. let later = led_later k least ts leads in omega (arith, later, long),
              ),
            )

-- ---- the line of one system

module _ (w : WorldState) (wf : IsWellFormed (snapshot_of w)) where
  -- a system has a line, with its clock
  record HasLine (station : Station) : Type 0 where
    line : SystemLine
    is : IsStatedLine w station line
    named : line.clock ≡ clock station.system

  line_exists : (station : Station) → In (statement_of station) (statements_of w) → HasLine station
  line_exists station stated =
      by (far_dec (snapshot_of w) wf (statements_of w) (stated_lives w) (statement_of station) stated)
    where
      by : Dec (IsFar (snapshot_of w) (statements_of w) (statement_of station)) → HasLine station
      by (no near) = record {
        line = stated_line station.system;
        is = inl (record { is_near = near; is = refl });
        named = refl;
      }
      by (yes far) =
          let (root, lowest) =
          lowest_exists (snapshot_of w) wf (statements_of w) (stated_lives w) (statement_of station) stated in
          let (steps, are) =
          far_steps_exist (snapshot_of w) wf (statements_of w) (stated_lives w) (statement_of station) stated in
          record {
            line = record {
              clock = clock station.system;
              root = root;
              steps = steps;
              far = true;
              parent = None;
              ports = [];
            };
            is = inr (record {
              is_far = far;
              clock = refl;
              far = refl;
              root = lowest;
              steps = are;
              bare = record { parent = refl; ports = refl };
            });
            named = refl;
          }

  -- ---- the lines of all

  module _ (own : HaveOwnClocks w) where
    -- the lines of the live systems with these clocks, which rise
    record HaveLines (names : List ℕ) : Type 0 where
      lines : List SystemLine
      rising : IsRising (line_clocks lines)
      among : (line : SystemLine) → In line lines → In line.clock names
      stated : (line : SystemLine) → In line lines → IsStated w line
      all : (station : Station) → In station w.stations → In (clock station.system) names → station.live ≡ true
          → (line : SystemLine) × In line lines × IsStatedLine w station line

    -- the system with the clock of another is that
    one_system : (place : ℕ) (one other : Station) → slice_get w.stations place ≡ Some one → In other w.stations
        → clock other.system ≡ clock one.system → other ≡ one
    one_system place one other here there same =
        let (at, is) = slice_get-In other w.stations there in
        let places : at ≡ place = own at place other one is here same in
        same_there w.stations place other one (ap (slice_get w.stations) (sym places) ∙ is) here

    -- a system that has failed adds none
    add_failed : (name : ℕ) (names : List ℕ) (at : AtSystem name w AnySystem) → at.station.live ≡ false
        → HaveLines names → HaveLines (name ∷ names)
    add_failed name names at failed rest = record {
      lines = rest.lines;
      rising = rest.rising;
      among = λ line member. inr (rest.among line member);
      stated = rest.stated;
      all = all;
    }
      where
        all : (station : Station) → In station w.stations → In (clock station.system) (name ∷ names)
            → station.live ≡ true → (line : SystemLine) × In line rest.lines × IsStatedLine w station line
        all station there (inl first) live =
            let same = one_system at.place at.station station at.is.here there (first ∙ sym at.is.named) in
            let lives : at.station.live ≡ true = ap (λ (s : Station). s.live) (sym same) ∙ live in absurd cc
        all station there (inr later) live = rest.all station there later live

    -- a live one adds its line
    add_live : (name : ℕ) (names : List ℕ) (at : AtSystem name w AnySystem) → at.station.live ≡ true
        → ((y : ℕ) → In y names → name < y) → HaveLines names → HaveLines (name ∷ names)
    add_live name names at live below rest = record {
      lines = first.line ∷ rest.lines;
      rising = (later, rest.rising);
      among = among;
      stated = stated;
      all = all;
    }
      where
        first : HasLine at.station
        first = line_exists at.station (statement_there w.stations at.place at.station at.is.here live)

        named : first.line.clock ≡ name
        named = first.named ∙ at.is.named

        later : (c : ℕ) → In c (line_clocks rest.lines) → first.line.clock < c
        later c member =
            let (line, there, is) = from_map (λ (l : SystemLine). l.clock) c rest.lines member in
            let up : name < line.clock = below line.clock (rest.among line there) in
            omega (arith, up, named, is)

        among : (line : SystemLine) → In line (first.line ∷ rest.lines) → In line.clock (name ∷ names)
        among line (inl same) = inl (ap (λ (l : SystemLine). l.clock) same ∙ named)
        among line (inr more) = inr (rest.among line more)

        stated : (line : SystemLine) → In line (first.line ∷ rest.lines) → IsStated w line
        stated line (inl same) = record {
          station = at.station;
          there = In-slice_get at.station w.stations at.place at.is.here;
          live = live;
          is = subst (IsStatedLine w at.station) (sym same) first.is;
        }
        stated line (inr more) = rest.stated line more

        all : (station : Station) → In station w.stations → In (clock station.system) (name ∷ names)
            → station.live ≡ true
            → (line : SystemLine) × In line (first.line ∷ rest.lines) × IsStatedLine w station line
        all station there (inl is) lives =
            let same = one_system at.place at.station station at.is.here there (is ∙ sym at.is.named) in
            (first.line, inl refl, subst (λ (s : Station). IsStatedLine w s first.line) (sym same) first.is)
        all station there (inr more) lives =
            let (line, member, is) = rest.all station there more lives in (line, inr member, is)

    lines_exist : (names : List ℕ) → IsRising names
        → ((place name : ℕ) → slice_get names place ≡ Some name → AtSystem name w AnySystem) → HaveLines names
    lines_exist [] up each = record {
      lines = [];
      rising = tt;
      among = λ line member. absurd member;
      stated = λ line member. absurd member;
      all = λ station there member live. absurd member;
    }
    lines_exist (name ∷ names) up each =
        by (each zero name refl) (lines_exist names up.1 (λ place. each (suc place)))
      where
        by_life : (at : AtSystem name w AnySystem) (live : Bool) → at.station.live ≡ live → HaveLines names
            → HaveLines (name ∷ names)
        by_life at true is rest = add_live name names at is up.0 rest
        by_life at false is rest = add_failed name names at is rest

        by : AtSystem name w AnySystem → HaveLines names → HaveLines (name ∷ names)
        by at rest = by_life at at.station.live refl rest

-- a world that keeps what every world keeps has a certificate
pub states_exist : (w : WorldState) → SettlingInvariant w → (lines : List SystemLine) × States w lines
states_exist w claimed =
    let world = claimed.is.world in
    let wf = stands_well w world.sound world.between world.encodable in
    let own = world.sound.wired.clocks in
    let whole = lines_exist w wf own (rising_clocks w) (clocks_rise w own) (rising_clocks-at w) in (
      whole.lines,
      record {
        rising = whole.rising;
        stated = whole.stated;
        all = λ station there live.
            whole.all station there
            (In-rising (clock station.system) (map clock_of_station w.stations)
            (In-map clock_of_station station w.stations there)) live;
      },
    )
