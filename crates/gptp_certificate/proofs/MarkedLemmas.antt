-- Lines that are marked by the least values that come over the links are those of the rule.
use Rattle.std.proofs.Common.{◌≡◌, ◌<◌, ◌≤◌, ◌+◌, ◌*◌, ℕ, zero, suc, Bool, true, false, List, [], ◌∷◌, length, Some, slice_get, refl, sym, ap, subst, ◌∙◌, inl, inr, arith}
use Rattle.std.proofs.lemmas.List.{length-map}
use Rattle.std.proofs.lemmas.Option.{same_Some, slice_get_within}
use native.Mathlib.Decide.{dec_lt}
use Rattle.gptp_lists.specs.Members.{Different, In}
use Rattle.gptp_lists.proofs.MappedLemmas.{mapped, mapped_there}
use Rattle.gptp_lists.proofs.SystemSpecLemmas.{In-map, In-slice_get, from_map, slice_get-In}
use Rattle.gptp_lists.proofs.PlaceLemmas.{member_there, read}
use Rattle.gptp_graph.specs.Labelling.{SystemLine, line_clocks}
use Rattle.gptp_graph.specs.Marking.{AreFarSteps, IsFar, IsLowestRoot, IsStatedBeside, LeadsToNear, Statement}
use Rattle.gptp_graph.specs.Order.{IsRising}
use Rattle.gptp_graph.specs.Path.{Route}
use Rattle.gptp_graph.specs.Snapshot.{IsWellFormed, Snapshot, clocks}
use Rattle.gptp_graph.proofs.PathLemmas.{Reaches-route, path_bounded, path_of}
use Rattle.gptp_graph.proofs.RisingLemmas.{Different-rising}
use Rattle.gptp_system.specs.State.{clock}
use Rattle.gptp_model.specs.World.{WorldState}
use Rattle.gptp_model.specs.declared.station.Station.{Station}
use Rattle.gptp_invariants.specs.WorldBounded.{statement_of, statements_of}
use Rattle.gptp_invariants.specs.WorldStanding.{live_stations, snapshot_of}
use Rattle.gptp_invariants.proofs.WorldBoundedLemmas.{statement_from, statement_there, stated_lives}
use Rattle.gptp_invariants.proofs.WorldSystemLemmas.{clock_in, live_from}
use Rattle.gptp_certificate.specs.Marking.{LinesAreMarked, ArePairs, AreStarts, IsFarBy, IsStart, Marks, line_roots}
use Rattle.gptp_certificate.specs.Rounds.{AreLeast, LinksAreWithin, value}
use Rattle.gptp_certificate.specs.Stated.{IsStatedLine, States, stated_line}
use Rattle.gptp_certificate.specs.Stating.{AreSaid}
use Rattle.gptp_certificate.proofs.RouteLemmas.{leads_of, one_place, route_of, within}

-- ---- lists

-- lists with the same members at all places are one
same_lists : (xs ys : List ℕ) → length xs ≡ length ys
    → ((i x : ℕ) → slice_get xs i ≡ Some x → slice_get ys i ≡ Some x) → xs ≡ ys
same_lists [] [] long same = refl
same_lists [] (y ∷ ys) long same = absurd (omega arith)
same_lists (x ∷ xs) [] long same = absurd (omega arith)
same_lists (x ∷ xs) (y ∷ ys) long same =
    let first : y ≡ x = same_Some y x (same 0 x refl) in
    let rest : xs ≡ ys = same_lists xs ys (omega arith) (λ i z at. same (suc i) z at) in
    ap (λ z. z ∷ xs) (sym first) ∙ ap (λ zs. y ∷ zs) rest

value_past : (xs : List ℕ) (i : ℕ) → length xs ≤ i → value xs i ≡ 0
value_past [] i past = refl
value_past (x ∷ xs) zero past = absurd (omega arith)
value_past (x ∷ xs) (suc i) past = value_past xs i (omega arith)

-- no more systems live than there are
live_few : (stations : List Station) → length (live_stations stations) ≤ length stations
live_few [] = omega arith
live_few (first ∷ stations) = by first.live refl (live_few stations)
  where
    by : (live : Bool) → first.live ≡ live → length (live_stations stations) ≤ length stations
        → length (live_stations (first ∷ stations)) ≤ length (first ∷ stations)
    by true is few = rw is (omega arith)
    by false is few = rw is (omega arith)

-- each live system has said something
pub said_all : (w : WorldState) (own : List SystemLine) → AreSaid w own → (v : ℕ) → In v (clocks (snapshot_of w))
    → In v (line_clocks own)
said_all w own said v known =
    let (s, live, same) = from_map clock_in v (live_stations w.stations) known in
    let at = live_from w.stations s live in
    let line = stated_line at.station.system in
    let member = (said.each line).1 (record {
      station = at.station;
      there = In-slice_get at.station w.stations at.place at.here;
      live = at.live;
      is = refl;
    }) in
    subst (λ c. In c (line_clocks own)) (ap clock_in (sym at.is) ∙ same)
    (In-map (λ (l : SystemLine). l.clock) line own member)

-- the pairs of links join lines
pub pairs_within : (g : Snapshot) (own : List SystemLine) (pairs others : List (ℕ × ℕ)) (n : ℕ)
    → IsRising (line_clocks own) → ArePairs (line_clocks own) g.links pairs → length own ≡ n → pairs ≡ others
    → LinksAreWithin n others
pairs_within g own pairs others n rising are long same =
    subst (LinksAreWithin n) same
    (subst (λ m. LinksAreWithin m pairs) (length-map own (λ (line : SystemLine). line.clock) ∙ long)
    (within g (line_clocks own) pairs are (Different-rising (line_clocks own) rising)))

-- ---- numbers that begin a count are no greater than what none leads to

pub starts_few : (lowest : List ℕ) (lines : List SystemLine) (starts : List ℕ) → AreStarts lowest lines starts → (i : ℕ)
    → value starts i ≤ 65281
starts_few lowest lines starts are i = elim (dec_lt i (length lines)) [
  | yes within ↦
      (let (line, here) = member_there lines i within in
      elim (are.each i line here) [
        | inl (far, is) ↦ omega arith
        | inr (near, is) ↦ omega arith
      ])
  | no past ↦ (let long = are.long in let none = value_past starts i (omega arith) in omega arith)
]

module _ (w : WorldState) (own : List SystemLine) (said : AreSaid w own) (wf : IsWellFormed (snapshot_of w))
    (pairs : List (ℕ × ℕ)) (are : ArePairs (line_clocks own) (snapshot_of w).links pairs) (systems : ℕ)
    (count : systems ≡ length w.stations) (few : systems ≤ 512) where
  abbrev g : Snapshot
  g = snapshot_of w

  abbrev all : List Statement
  all = statements_of w

  differ : Different (line_clocks own)
  differ = Different-rising (line_clocks own) said.rising

  -- ---- the systems of the lines

  -- what a live system says stands at a place
  pub record IsLineAt (i : ℕ) (station : Station) : Type 0 where
    pub here : slice_get own i ≡ Some (stated_line station.system)
    pub there : In station w.stations
    pub live : station.live ≡ true

  pub at_place : (i : ℕ) (line : SystemLine) → slice_get own i ≡ Some line
      → (station : Station) × IsLineAt i station × (line ≡ stated_line station.system)
  at_place i line here =
      let of = (said.each line).0 (In-slice_get line own i here) in
      (of.station, record { here = here ∙ ap Some of.is; there = of.there; live = of.live }, of.is)

  pub at_station : (station : Station) → In station w.stations → station.live ≡ true → (i : ℕ) × IsLineAt i station
  at_station station there live =
      let member = (said.each (stated_line station.system)).1
      (record { station = station; there = there; live = live; is = refl }) in
      let (i, here) = slice_get-In (stated_line station.system) own member in
      (i, record { here = here; there = there; live = live })

  at_statement : (one : Statement) → In one all
      → (i : ℕ) × (station : Station) × IsLineAt i station × (one ≡ statement_of station)
  at_statement one member =
      let at = statement_from w.stations one member in
      let (i, line) = at_station at.station (In-slice_get at.station w.stations at.place at.here) at.live in
      (i, at.station, line, at.is)

  stated : (i : ℕ) (station : Station) → IsLineAt i station → In (statement_of station) all
  stated i station at =
      let (place, here) = slice_get-In station w.stations at.there in
      statement_there w.stations place station here at.live

  known : (i : ℕ) (station : Station) → IsLineAt i station → In (clock station.system) (clocks g)
  known i station at = stated_lives w (statement_of station) (stated i station at)

  clock_here : (i : ℕ) (station : Station) → IsLineAt i station
      → slice_get (line_clocks own) i ≡ Some (clock station.system)
  clock_here i station at =
      mapped_there (λ (line : SystemLine). line.clock) own i (stated_line station.system) at.here

  root_here : (i : ℕ) (station : Station) → IsLineAt i station → value (line_roots own) i ≡ station.system.root
  root_here i station at =
      read (line_roots own) i station.system.root 0
      (mapped_there (λ (line : SystemLine). line.root) own i (stated_line station.system) at.here)

  -- ---- what comes over the links

  module _ (step : ℕ) (starts xs : List ℕ) (least : AreLeast step pairs systems starts xs)
      (long : length starts ≡ length own) where
    -- a value comes from a system to which a route leads
    record Comes (i : ℕ) (station : Station) : Type 0 where
      place : ℕ
      from : Station
      at : IsLineAt place from
      us : List ℕ
      route : Route g (clock station.system) (clock from.system) us
      is : value xs i ≡ value starts place + length us * step

    comes : (i : ℕ) (station : Station) → IsLineAt i station → Comes i station
    comes i station at =
        let within : i < length starts =
        subst (λ n. i < n) (sym long) (slice_get_within own i (stated_line station.system) at.here) in
        let (j, k, below, leads, is) = least.came.from i within in
        let (v, there, (us, route, links)) =
        route_of g (line_clocks own) pairs are differ k i j (clock station.system) leads (clock_here i station at) in
        let (line, line_there) = member_there own j (subst (λ n. j < n) long below) in
        let (from, at_j, same) = at_place j line line_there in
        let named : v ≡ clock from.system =
        same_Some v (clock from.system) (sym there ∙ clock_here j from at_j) in
        record {
          place = j;
          from = from;
          at = at_j;
          us = us;
          route = subst (λ c. Route g (clock station.system) c us) named route;
          is = is ∙ ap (λ n. value starts j + n * step) (sym links);
        }

    -- and no greater one is left than what comes over a route, or over a shorter one
    record IsBelow (i j : ℕ) (us : List ℕ) : Type 0 where
      links : ℕ
      shorter : links ≤ length us
      fewer : links < systems
      is : value xs i ≤ value starts j + links * step

    is_below : (i j : ℕ) (station other : Station) (us : List ℕ) → IsLineAt i station → IsLineAt j other
        → Route g (clock station.system) (clock other.system) us → IsBelow i j us
    is_below i j station other us at at_j route =
        let (ts, path, shorter) = path_of g (clock station.system) (clock other.system) us (known i station at) route
        in
        let bounded = path_bounded g (clock station.system) (clock other.system) ts wf path in
        let live = live_few w.stations in
        let (m, there, leads) = leads_of g (line_clocks own) pairs are differ ts i (clock station.system)
        (clock other.system) path.route (clock_here i station at) in
        let same : m ≡ j =
        one_place (line_clocks own) m j (clock other.system) differ there (clock_here j other at_j) in
        record {
          links = length ts;
          shorter = shorter;
          fewer = omega (arith, bounded, live, count);
          is = subst (λ p. value xs i ≤ value starts p + length ts * step) same
              (least.all i m (length ts) (omega (arith, bounded, live, count)) leads);
        }

  -- ---- the lowest root of a component

  module _ (lowest : List ℕ) (low : AreLeast 0 pairs systems (line_roots own) lowest) where
    roots_long : length (line_roots own) ≡ length own
    roots_long = length-map own (λ (line : SystemLine). line.root)

    is_lowest : (i : ℕ) (station : Station) → IsLineAt i station
        → IsLowestRoot g all (statement_of station) (value lowest i)
    is_lowest i station at = record {
      stated = by (comes 0 (line_roots own) lowest low roots_long i station at);
      least = least;
    }
      where
        by : Comes 0 (line_roots own) lowest low roots_long i station
            → (other : Statement) × IsStatedBeside g all (statement_of station) other
            × (other.root ≡ value lowest i)
        by from =
            let root = root_here from.place from.from from.at in
            let is = from.is in (
              statement_of from.from,
              record {
                stated = stated from.place from.from from.at;
                reached = Reaches-route g (clock station.system) (clock from.from.system) from.us
                    (known i station at) from.route;
              },
              omega arith,
            )

        least : (other : Statement) → IsStatedBeside g all (statement_of station) other → value lowest i ≤ other.root
        least other beside =
            let (j, of, at_j, same) = at_statement other beside.stated in
            let (us, path) = beside.reached in
            let route = subst (λ (x : Statement). Route g (clock station.system) x.clock us) same path.route in
            let below = is_below 0 (line_roots own) lowest low roots_long i j station of us at at_j route in
            let is = below.is in
            let root = root_here j of at_j in
            let own_root : other.root ≡ of.system.root = ap (λ (x : Statement). x.root) same in
            omega arith

    -- so by it a system is far by the rule
    far_of : (i : ℕ) (station : Station) → IsLineAt i station → IsFarBy (stated_line station.system) (value lowest i)
        → IsFar g all (statement_of station)
    far_of i station at (inl many) = inl many
    far_of i station at (inr below) =
        let (other, beside, root) = (is_lowest i station at).stated in
        inr (other, beside, omega arith)

    of_far : (i : ℕ) (station : Station) → IsLineAt i station → IsFar g all (statement_of station)
        → IsFarBy (stated_line station.system) (value lowest i)
    of_far i station at (inl many) = inl many
    of_far i station at (inr (other, beside, lower)) =
        let least = (is_lowest i station at).least other beside in inr (omega arith)

    -- ---- the steps of a far system

    module _ (starts numbers : List ℕ) (begun : AreStarts lowest own starts)
        (least : AreLeast 1 pairs systems starts numbers) where
      starts_at : (i : ℕ) (station : Station) → IsLineAt i station
          → IsStart (stated_line station.system) (value lowest i) (value starts i)
      starts_at i station at = begun.each i (stated_line station.system) at.here

      -- over what leads to a system that isn't far no greater number is left
      near_below : (i : ℕ) (station : Station) → IsLineAt i station → (ts : List ℕ)
          → LeadsToNear g all (statement_of station) ts → (value numbers i ≤ length ts) × (value numbers i < 512)
      near_below i station at ts leads = by (starts_at j of at_j)
        where
          found : (i : ℕ) × (station : Station) × IsLineAt i station × (leads.near ≡ statement_of station)
          found = at_statement leads.near leads.stated

          j : ℕ
          j = found.0

          of : Station
          of = found.1

          at_j : IsLineAt j of
          at_j = found.2

          same : leads.near ≡ statement_of of
          same = found.3

          route : Route g (clock station.system) (clock of.system) ts
          route = subst (λ (x : Statement). Route g (clock station.system) x.clock ts) same leads.route

          by : IsStart (stated_line of.system) (value lowest j) (value starts j)
              → (value numbers i ≤ length ts) × (value numbers i < 512)
          by (inl (far, is)) =
              absurd (leads.is_near (subst (IsFar g all) (sym same) (far_of j of at_j far)))
          by (inr (near, is)) =
              let below = is_below 1 starts numbers least begun.long i j station of ts at at_j route in
              let at_most = below.is in let shorter = below.shorter in let fewer = below.fewer in
              (omega arith, omega arith)

      far_steps : (i : ℕ) (station : Station) → IsLineAt i station
          → AreFarSteps g all (statement_of station) (254 + value numbers i)
      far_steps i station at = elim (dec_lt (value numbers i) 65281) [
        | yes below ↦ by (comes 1 starts numbers least begun.long i station at) below
        | no above ↦ inr (
          (λ ts leads. (let few = (near_below i station at ts leads).1 in omega arith)),
          (let most = least.all i i 0 (omega arith) refl in
              let first = starts_few lowest own starts begun i in
              omega arith),
        )
      ]
        where
          by : Comes 1 starts numbers least begun.long i station → value numbers i < 65281
              → AreFarSteps g all (statement_of station) (254 + value numbers i)
          by from below = go (starts_at from.place from.from from.at)
            where
              go : IsStart (stated_line from.from.system) (value lowest from.place) (value starts from.place)
                  → AreFarSteps g all (statement_of station) (254 + value numbers i)
              go (inl (far, is)) = let sum = from.is in absurd (omega arith)
              go (inr (near, is)) =
                  let sum = from.is in
                  inl (
                    from.us,
                    record {
                      near = statement_of from.from;
                      stated = stated from.place from.from from.at;
                      is_near = λ far. near (of_far from.place from.from from.at far);
                      route = from.route;
                    },
                    omega arith,
                    λ ts leads. (let least' = (near_below i station at ts leads).0 in omega arith),
                  )

      -- ---- the lines

      module _ (lines : List SystemLine) (marked : LinesAreMarked (length own) lowest numbers own lines) where
        line_is : (i : ℕ) (station : Station) (new : SystemLine) → IsLineAt i station
            → Marks (value lowest i) (value numbers i) (stated_line station.system) new → IsStatedLine w station new
        line_is i station new at (inl (far, is)) =
            subst (IsStatedLine w station) (sym is)
            (inr (record {
              is_far = far_of i station at far;
              clock = refl;
              far = refl;
              root = is_lowest i station at;
              steps = far_steps i station at;
              bare = record { parent = refl; ports = refl };
            }))
        line_is i station new at (inr (near, is)) =
            inl (record { is_near = λ far. near (of_far i station at far); is = is })

        -- where a line stands, one stood before
        record IsMarkedAt (i : ℕ) (new : SystemLine) : Type 0 where
          station : Station
          at : IsLineAt i station
          marks : Marks (value lowest i) (value numbers i) (stated_line station.system) new

        marked_at : (i : ℕ) (new : SystemLine) → slice_get lines i ≡ Some new → IsMarkedAt i new
        marked_at i new there =
            let within = slice_get_within lines i new there in
            let long = marked.long in
            let (line, here) = member_there own i (omega arith) in
            let (station, at, is) = at_place i line here in
            let (x, at_x, marks) = marked.marked i (stated_line station.system) (omega arith) at.here in
            record {
              station = station;
              at = at;
              marks = subst (Marks (value lowest i) (value numbers i) (stated_line station.system))
                  (same_Some x new (sym at_x ∙ there)) marks;
            }

        clock_kept : (i : ℕ) (station : Station) (new : SystemLine)
            → Marks (value lowest i) (value numbers i) (stated_line station.system) new
            → new.clock ≡ clock station.system
        clock_kept i station new (inl (far, is)) = ap (λ (l : SystemLine). l.clock) is
        clock_kept i station new (inr (near, is)) = ap (λ (l : SystemLine). l.clock) is

        same_clocks : line_clocks lines ≡ line_clocks own
        same_clocks =
            same_lists (line_clocks lines) (line_clocks own) long
            (λ i x there.
            let (new, at_new, is) = mapped (λ (l : SystemLine). l.clock) lines i x there in
            let was = marked_at i new at_new in
            clock_here i was.station was.at
            ∙ ap Some (sym (clock_kept i was.station new was.marks) ∙ is))
          where
            long : length (line_clocks lines) ≡ length (line_clocks own)
            long =
                length-map lines (λ (l : SystemLine). l.clock) ∙ marked.long
                ∙ sym (length-map own (λ (l : SystemLine). l.clock))

        pub marked_states : States w lines
        marked_states = record {
          rising = subst IsRising (sym same_clocks) said.rising;
          stated = λ line member.
              let (i, there) = slice_get-In line lines member in
              let was = marked_at i line there in
              record {
                station = was.station;
                there = was.at.there;
                live = was.at.live;
                is = line_is i was.station line was.at was.marks;
              };
          all = λ station there live.
              let (i, at) = at_station station there live in
              let (new, at_new, marks) = marked.marked i (stated_line station.system)
              (slice_get_within own i (stated_line station.system) at.here) at.here in
              (new, In-slice_get new lines i at_new, line_is i station new at marks);
        }
