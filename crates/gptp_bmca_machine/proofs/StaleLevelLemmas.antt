-- A tree with one or two tops that lost what was above it settles: once the root of before is told no more its systems
-- choose their best by their new distances, from its best on.
use Rattle.std.proofs.Common.{◌≡◌, ◌⊎◌, ◌<◌, ◌≤◌, ◌+◌, ℕ, zero, suc, pred, true, Some, slice_get, refl, sym, ap, subst, ◌∙◌, inl, inr, arith}
use native.Mathlib.Decide.{dec_le, dec_lt}
use Rattle.gptp_graph.specs.Best.{IsBest}
use Rattle.gptp_graph.specs.Distance.{IsDistance}
use Rattle.gptp_graph.specs.Snapshot.{Adjacent, Joins, System, port_of}
use Rattle.gptp_graph.proofs.BestLemmas.{IsBest-unique}
use Rattle.gptp_graph.proofs.DistanceLemmas.{nearer_neighbour}
use Rattle.gptp_graph.proofs.LinkLemmas.{Joins-sym}
use Rattle.gptp_graph.proofs.PathBoundLemmas.{IsDistance-within}
use Rattle.gptp_bmca_machine.specs.Acts.{MachineSteps}
use Rattle.gptp_bmca_machine.specs.Clean.{CameFits}
use Rattle.gptp_bmca_machine.specs.Facts.{station_system}
use Rattle.gptp_bmca_machine.specs.Frame.{Spelling}
use Rattle.gptp_bmca_machine.specs.Levels.{LeadsFarther}
use Rattle.gptp_bmca_machine.specs.Link.{LinkSettles}
use Rattle.gptp_bmca_machine.specs.Network.{Network}
use Rattle.gptp_bmca_machine.specs.Station.{HoldsAt, MachineState, Port, Reception, Station}
use Rattle.gptp_bmca_machine.specs.TwoTops.{Side, First, IsTreeOfTops}
use Rattle.gptp_bmca_machine.proofs.FallLemmas.{IsFreeAt, falls_by}
use Rattle.gptp_bmca_machine.proofs.LevelLemmas.{places_of}
use Rattle.gptp_bmca_machine.proofs.LinkEndsLemmas.{telling}
use Rattle.gptp_bmca_machine.proofs.LinkLemmas.{link_settled}
use Rattle.gptp_bmca_machine.proofs.LinkStepLemmas.{AtLink, lives_at}
use Rattle.gptp_bmca_machine.proofs.LinkTellsLemmas.{ends_so}
use Rattle.gptp_bmca_machine.proofs.NearestLemmas.{came_fits, equal_within}
use Rattle.gptp_bmca_machine.proofs.RestLemmas.{Chooses, IsClear, bounded, suc_settles, was_itself, zero_settles}
use Rattle.gptp_bmca_machine.proofs.StaleEndLemmas.{IsLimit, IsStaleState, free_then, tells_in_time}
use Rattle.gptp_bmca_machine.proofs.StaleLemmas.{HeldBare, HeldOver, held_over, whole_worse}
use Rattle.gptp_bmca_machine.proofs.StaleOrderLemmas.{AllStrong}
use Rattle.gptp_bmca_machine.proofs.StaleSettleLemmas.{HasTime, IsHeardState, SettlesOrHears, settles_on, shows_new}
use Rattle.gptp_bmca_machine.proofs.StaleStepLemmas.{IsTelling}
use Rattle.gptp_bmca_machine.proofs.StaleTellLemmas.{AllTell, heard_so, two_less, two_more}
use Rattle.gptp_bmca_machine.proofs.StaleToldLemmas.{StaleComes, over_all}
use Rattle.gptp_bmca_machine.proofs.StandsLemmas.{port_on, port_stands, stands_there}
use Rattle.gptp_bmca_machine.proofs.StillEndLemmas.{Follows, Hears, there}
use Rattle.gptp_bmca_machine.proofs.TwoTopsLemmas.{Tree, beside}

two_cover : (r : ℕ) → r ≤ suc (suc (pred (pred r)))
two_cover zero = omega arith
two_cover (suc zero) = omega arith
two_cover (suc (suc r)) = omega arith

module _ (says : Spelling) (n : Network) (next : System) (top : Side → ℕ) (depth : Side → ℕ → ℕ)
    (t : IsTreeOfTops n next top depth) (old base : ℕ) (worse : old < next.identity)
    (near : (side : Side) (v : ℕ) → Tree n next top depth t v → base + depth side v < 255)
    (start over long : ℕ) (begun : start ≤ over) (room : over + n.most < long)
    (reached : (d : ℕ) → suc (suc d) ≤ n.reach → falls_by n start (suc d) ≤ over) (before : ℕ → ℕ)
    (soon : (e : ℕ) → over + n.most < before e) (grows : (e : ℕ) → before e + n.most ≤ before (suc e)) where
  pub delay : (e : ℕ) → n.most ≤ before e
  delay e = let more = soon e in omega (arith, more)

  -- links from systems at one distance are at their stages, or what is stale is on its way to them
  abbrev pub LevelFalls : ℕ → MachineState → Type 0
  LevelFalls f w = (v p u q : ℕ) → f < 255 → Tree n next top depth t v → LeadsFarther n.graph f next v p u q
      → SettlesOrHears says n next top depth t old base worse near before f v p u q w

  -- What is known of each state since: where what is stale is told, and heard, and that each link is at its stage
  -- besides.
  pub record FallsFromTops (w : MachineState) : Type 0 where
    pub stale : IsStaleState says n next top depth t old base worse start w
    pub strong : AllStrong says n next top depth t old base worse near start w
    pub tells : AllTell says n next top depth t old base worse near start over long room reached w
    pub settles : (f : ℕ) → LevelFalls f w

  module _ (w : MachineState) (stale : IsStaleState says n next top depth t old base worse start w)
      (strong : AllStrong says n next top depth t old base worse near start w)
      (tells : AllTell says n next top depth t old base worse near start over long room reached w) (bound : ℕ)
      (settles : (f : ℕ) → f < bound → LevelFalls f w) where
    heard : IsHeardState says n next top depth t old base worse near before w
    heard = record {
      kept = stale.kept;
      dark = stale.dark;
      mixed = stale.mixed;
      heard = heard_so says n next top depth t old base worse near start over long room reached w stale strong
          tells;
    }

    -- ---- once the time is over

    module _ (past : over < w.time) where
      -- a link of the tree has two ends
      two_ends : (v p u q : ℕ) → Tree n next top depth t v → Joins n.graph (port_of v (suc p)) (port_of u (suc q))
          → suc (suc (pred (pred n.reach))) ≤ n.reach
      two_ends v p u q in_v joins =
          let deep_v = t.deep First v in_v in
          let deep_u = t.deep First u (beside n next top depth t v u in_v (suc p, suc q, joins)) in
          elim (t.steps First v u in_v (suc p, suc q, joins)) [
            | inl down ↦ two_more n.reach (depth First v) (omega (arith, deep_u, down))
            | inr up ↦ two_more n.reach (depth First u) (omega (arith, deep_v, up))
          ]

      past_links : (v p u q : ℕ) → Tree n next top depth t v → Joins n.graph (port_of v (suc p)) (port_of u (suc q))
          → falls_by n start (suc (pred (pred n.reach))) < w.time
      past_links v p u q in_v joins =
          let most = reached (pred (pred n.reach)) (two_ends v p u q in_v joins) in omega (arith, most, past)

      -- each link carries what is of what is left alone
      pub free_now : (v p u q : ℕ) → Tree n next top depth t v → Joins n.graph (port_of v (suc p)) (port_of u (suc q))
          → IsFreeAt says n.graph n v p u q w
      free_now v p u q in_v joins =
          free_then says n next top depth t old base worse start w stale (pred (pred n.reach)) (two_cover n.reach)
          (past_links v p u q in_v joins) v p u q in_v joins

      -- nobody tells what is stale
      none_tells : (v p u q : ℕ) → Tree n next top depth t v → Joins n.graph (port_of v (suc p)) (port_of u (suc q))
          → IsTelling says n next top depth t old base worse v p w → ⊥
      none_tells v p u q in_v joins tells =
          let by = tells_in_time says n next top depth t old base worse start w stale (pred (pred n.reach)) v p u q in_v
          joins limit tells in
          let late = past_links v p u q in_v joins in
          omega (arith, by, late)
        where
          limit : IsLimit says n next top depth t old base worse start v u (pred (pred n.reach))
          limit x down =
              let deep = t.deep x u (beside n next top depth t v u in_v (suc p, suc q, joins)) in
              two_less n.reach (depth x v) (omega (arith, deep, down))

      -- all that is held fits what is left
      pub fits_now : (v : ℕ) → Tree n next top depth t v → (s : Station) → slice_get w.stations (n.place v) ≡ Some s
          → (i : ℕ) (r : Reception) → HoldsAt s i r → CameFits n.graph s.clock (suc i) r
      fits_now v in_v s at i r holds =
          by (held_over says n next top depth t old base worse w stale.kept stale.dark v in_v
          (λ a b k. over_all says n next top depth t old base worse near w stale.mixed v a b k in_v) s at i r holds)
        where
          by : HeldOver says n next top depth t old base worse v i r
              ⊎ HeldBare says n next top depth t old base worse v i r → CameFits n.graph s.clock (suc i) r
          by (inr bare) = absurd (stale.gone (omega (arith, begun, past)) v s i r in_v at holds bare.bare)
          by (inl h) =
              let has = stale.kept.calm.lanes (port_of h.v (suc h.p)) (port_of v (suc i)) h.joins in
              let free = free_now h.v h.p v i h.in_v h.joins in
              let (live, clock) = lives_at n w stale.kept.calm v in_v.reached.1.begins s at in
              came_fits n.graph s.clock (suc i) r t.well (record {
                from = port_of h.v (suc h.p);
                joins = subst (λ c. Joins n.graph (port_of h.v (suc h.p)) (port_of c (suc i))) (sym clock) h.joins;
                source = h.source;
                sound = inr ((free s holds.0 has.lane at holds.1 has.there).hears r holds.2);
              })

      pub clear_now : (v : ℕ) → Tree n next top depth t v → (s : Station) → slice_get w.stations (n.place v) ≡ Some s
          → IsClear n.graph s
      clear_now v in_v s at =
          let (live, clock) = lives_at n w stale.kept.calm v in_v.reached.1.begins s at in
          record {
            rest = (stale.kept.calm.stations (n.place v) s at live).at_rest;
            known = was_itself n.graph (station_system s) (stale.kept.calm.facts.stations (n.place v) s at live).known;
            held = λ i r holds. bounded n.graph s.clock (suc i) r (fits_now v in_v s at i r holds);
          }

      -- each link that leads farther is at its stage
      pub settles_now : (f v p u q : ℕ) → f < bound → f < 255 → Tree n next top depth t v →
          LeadsFarther n.graph f next v p u q
          → LinkSettles says (telling n (before f) f next v p u q) w
      settles_now f v p u q known close in_v leads = elim (settles f known v p u q close in_v leads) [
        | inl link ↦ link
        | inr comes ↦ absurd (none comes (stands_there n t.well w stale.kept v in_v.reached.1.begins))
      ]
        where
          in_u : Tree n next top depth t u
          in_u = beside n next top depth t v u in_v (suc p, suc q, leads.joins)

          back : Joins n.graph (port_of u (suc q)) (port_of v (suc p))
          back = Joins-sym n.graph (port_of v (suc p)) (port_of u (suc q)) leads.joins

          none : AtLink says n u q v p (λ held fs. StaleComes says n next top depth t old base worse near u v fs) w
              → ((s : Station) × (slice_get w.stations (n.place v) ≡ Some s)) → ⊥
          none comes (s, at) =
              let (pv, there_p) = port_stands n t.well w stale.kept v p (port_of u (suc q)) s at leads.joins in
              let has = stale.kept.calm.lanes (port_of u (suc q)) (port_of v (suc p)) back in
              let (g, among, (a, said), stale) = comes s pv has.lane at there_p has.there in
              let is_stale = stale a said in
              elim ((free_now u q v p in_u back s pv has.lane at there_p has.there).flight g a among said) [
                | inl whole ↦
                    let more = whole_worse says n next top depth t old base worse u a in_u whole in
                    let root = is_stale.root in
                    omega (arith, more, root)
                | inr names ↦
                    let few = is_stale.names v in_v names in
                    let deep = is_stale.deeper in
                    omega (arith, few, deep)
              ]

      -- the systems of the tree at a distance choose by it
      abbrev pub TreeChooses : ℕ → Type 0
      TreeChooses e = (v : ℕ) (s : Station) → slice_get w.stations (n.place v) ≡ Some s → Tree n next top depth t v
          → IsDistance n.graph v e → Chooses s next e

      -- what one of them tells is held by those that it tells
      pub told_level : (e : ℕ) → e < bound → TreeChooses e → before e ≤ w.time → (v p u q : ℕ) → e < 255
          → Tree n next top depth t v → LeadsFarther n.graph e next v p u q → (s : Station)
          → slice_get w.stations (n.place u) ≡ Some s
          → (r : Reception) × HoldsAt s q r × (r.said.root ≡ next.identity) × (r.said.steps ≡ e)
          × (r.said.source ≡ port_of v (suc p))
      told_level e known choose late v p u q close in_v leads s at =
          by (stands_there n t.well w stale.kept v in_v.reached.1.begins)
          (port_stands n t.well w stale.kept u q (port_of v (suc p)) s at back)
        where
          in_u : Tree n next top depth t u
          in_u = beside n next top depth t v u in_v (suc p, suc q, leads.joins)

          back : Joins n.graph (port_of u (suc q)) (port_of v (suc p))
          back = Joins-sym n.graph (port_of v (suc p)) (port_of u (suc q)) leads.joins

          by : ((sv : Station) × (slice_get w.stations (n.place v) ≡ Some sv))
              → ((pu : Port) × (slice_get s.ports q ≡ Some pu))
              → (r : Reception) × HoldsAt s q r × (r.said.root ≡ next.identity) × (r.said.steps ≡ e)
              × (r.said.source ≡ port_of v (suc p))
          by (sv, at_v) (pu, there_u) = by_port (port_stands n t.well w stale.kept v p (port_of u (suc q)) sv at_v
              leads.joins)
            where
              by_port : ((pv : Port) × (slice_get sv.ports p ≡ Some pv))
                  → (r : Reception) × HoldsAt s q r × (r.said.root ≡ next.identity) × (r.said.steps ≡ e)
                  × (r.said.source ≡ port_of v (suc p))
              by_port (pv, there_v) =
                  let has = stale.kept.calm.lanes (port_of v (suc p)) (port_of u (suc q)) leads.joins in
                  let (r, holds, final) = link_settled says (telling n (before e) e next v p u q) w pv pu has.lane
                  (ends_so says n t.well (before e) e next v p u q leads.joins (delay e) w
                  (shows_new says n next top depth t old base worse near before e v p u q close in_v leads (delay e) w
                  heard (none_tells u q v p in_u back) (λ s2 pv2 at2 there2 not.
                  let chose = choose v s2 at2 in_v leads.here in
                  absurd (not (
                    (chose.root, chose.steps),
                    port_on n t.well w stale.kept v p (port_of u (suc q)) s2 pv2 at2 there2 leads.joins,
                  ))))) (settles_now e v p u q known close in_v leads)
                  (record {
                    v = sv;
                    u = s;
                    teller = at_v;
                    teller_port = there_v;
                    hearer = at;
                    hearer_port = there_u;
                    lane = has.there;
                  })
                  (let chose = choose v sv at_v in_v leads.here in (
                    (chose.root, chose.steps),
                    port_on n t.well w stale.kept v p (port_of u (suc q)) sv pv at_v there_v leads.joins,
                  )) late in
                  (r, (pu, there_u, holds), final.root, final.steps, final.source)

      -- the best of the tree does
      pub choose_zero : TreeChooses 0
      choose_zero v s at in_v here =
          let (live, clock) = lives_at n w stale.kept.calm v in_v.reached.1.begins s at in
          zero_settles n.graph t.well s (clear_now v in_v s at) next
          (subst (λ c. IsBest n.graph c next) (sym clock) in_v)
          (stale.kept.calm.facts.stations (n.place v) s at live).known
          (subst (λ c. IsDistance n.graph c 0) (sym clock) here)

      choose_next : (e : ℕ) → e < bound → before e ≤ w.time → TreeChooses e → TreeChooses (suc e)
      choose_next e known late sooner v s at in_v here = by_neighbour (nearer_neighbour n.graph v e t.well here)
        where
          clock : s.clock ≡ v
          clock = (lives_at n w stale.kept.calm v in_v.reached.1.begins s at).1

          by_neighbour : ((x : ℕ) × Adjacent n.graph v x × IsDistance n.graph x e) → Chooses s next (suc e)
          by_neighbour (x, (i, j, joins), there_x) = by (places_of n.graph v i x j t.well joins)
            where
              by : ((q : ℕ) × (p : ℕ) × (i ≡ suc q) × (j ≡ suc p)) → Chooses s next (suc e)
              by (q, p, is_q, is_p) = heard_over over_link
                where
                  over_link : Joins n.graph (port_of v (suc q)) (port_of x (suc p))
                  over_link =
                      subst (λ a. Joins n.graph (port_of v (suc q)) (port_of x a)) is_p
                      (subst (λ a. Joins n.graph (port_of v a) (port_of x j)) is_q joins)

                  heard_over : Joins n.graph (port_of v (suc q)) (port_of x (suc p)) → Chooses s next (suc e)
                  heard_over link =
                      let in_x = beside n next top depth t v x in_v (suc q, suc p, link) in
                      let within = IsDistance-within n.graph n.reach v (suc e) t.paths here in
                      let few = t.few in
                      let leads : LeadsFarther n.graph e next x p v q =
                      record {
                        is_best = in_x;
                        here = there_x;
                        joins = Joins-sym n.graph (port_of v (suc q)) (port_of x (suc p)) link;
                        far = suc e;
                        there = here;
                        farther = inl (omega arith);
                      } in
                      let (r, holds, root, steps, source) = told_level e known sooner late x p v q
                      (omega (arith, within, few)) in_x leads s at in
                      suc_settles n.graph t.well s (clear_now v in_v s at) next
                      (subst (λ c. IsBest n.graph c next) (sym clock) in_v) e q r
                      (subst (λ c. IsDistance n.graph c (suc e)) (sym clock) here) holds root steps

      -- so by then they do
      pub choose_by : (e : ℕ) → e < bound → before e ≤ w.time → TreeChooses (suc e)
      choose_by zero known late = choose_next zero known late choose_zero
      choose_by (suc e) known late =
          choose_next (suc e) known late
          (choose_by e (omega (arith, known)) (let more = grows e in omega (arith, more, late)))

    -- who hasn't settled yet has the time
    pub has_time : (f v p u q : ℕ) (least : f ≤ bound) (close : f < 255) (in_v : Tree n next top depth t v)
        (leads : LeadsFarther n.graph f next v p u q)
        → HasTime says n next top depth t old base worse near before f v p u q close in_v leads (delay f) w
    has_time f v p u q least close in_v leads s pv at there_p not = elim (dec_lt over w.time) [
      | no early ↦ let more = soon f in omega (arith, early, more)
      | yes past ↦ by f refl past
    ]
      where
        on : (e : ℕ) → IsDistance n.graph v e → f ≡ e → Chooses s next e → ⊥
        on e here same chose = not (
          (chose.root, chose.steps ∙ sym same),
          port_on n t.well w stale.kept v p (port_of u (suc q)) s pv at there_p leads.joins,
        )

        by : (e : ℕ) → f ≡ e → over < w.time → w.time + n.most < before f
        by zero same past =
            let here = subst (IsDistance n.graph v) same leads.here in
            absurd (on zero here same (choose_zero past v s at in_v here))
        by (suc e) same past = elim (dec_le (before e) w.time) [
          | no early ↦
              let more = grows e in
              let is_f = ap before same in
              omega (arith, early, more, is_f)
          | yes late ↦
              let here = subst (IsDistance n.graph v) same leads.here in
              absurd (on (suc e) here same (choose_by past e (omega (arith, least, same)) late v s at in_v here))
        ]

    -- ---- in the end

    module _ (all : n.reach ≤ bound) (late : (e : ℕ) → suc (suc e) ≤ n.reach → before e ≤ w.time)
        (past : over < w.time) where
      -- a system that tells another is as near as that leaves room for
      in_time : (e v p u q : ℕ) (b : System) → LeadsFarther n.graph e b v p u q → before e ≤ w.time
      in_time e v p u q b leads = late e (elim leads.farther [
        | inl less ↦
            let within = IsDistance-within n.graph n.reach u leads.far t.paths leads.there in
            omega (arith, less, within)
        | inr (same, lower) ↦
            equal_within n.graph n.reach v u e t.well t.paths (suc p, suc q, leads.joins)
            (t.well.apart (port_of v (suc p)) (port_of u (suc q)) leads.joins) leads.here
            (subst (IsDistance n.graph u) (sym same) leads.there)
      ])

      choose : (e : ℕ) → e < n.reach → TreeChooses past e
      choose zero close = choose_zero past
      choose (suc e) close = choose_by past e (omega (arith, close, all)) (late e close)

      module _ (i : ℕ) (s : Station) (at : slice_get w.stations i ≡ Some s) (live : s.live ≡ true) (d : ℕ)
          (here : IsDistance n.graph s.clock d) (close : d < 255) (in_s : Tree n next top depth t s.clock) where
        at_place : slice_get w.stations (n.place s.clock) ≡ Some s
        at_place = there n t.well w stale.kept i s at live d here close

        one : next ≡ here.best
        one = IsBest-unique n.graph s.clock next here.best t.well in_s here.is_best

        hears : Hears n.graph s d here
        hears e p q u close_e leads told_e =
            let of_next : LeadsFarther n.graph e next u q s.clock p =
            subst (λ b. LeadsFarther n.graph e b u q s.clock p) (sym one) leads in
            let in_u = beside n next top depth t s.clock u in_s (
              suc p,
              suc q,
              Joins-sym n.graph (port_of u (suc q)) (port_of s.clock (suc p)) leads.joins,
            ) in
            let within = IsDistance-within n.graph n.reach u e t.paths leads.here in
            let (r, holds, root, steps, source) = told_level past e (omega (arith, within, all))
            (choose e within) (in_time e u q s.clock p here.best leads)
            u q s.clock p close_e in_u of_next s at_place in
            (r, holds, root ∙ ap (λ (b : System). b.identity) one, steps, source)

        -- each system of the tree follows its best
        pub falls_follows : Follows n.graph s d here
        falls_follows = record {
          clear = clear_now past s.clock in_s s at_place;
          chosen = subst (λ b. Chooses s b d) one
              (choose d (IsDistance-within n.graph n.reach s.clock d t.paths here) s.clock s at_place in_s here);
          hears = hears;
        }

  -- ---- every step keeps it

  module _ (w w' : MachineState) (is : FallsFromTops w)
      (stale' : IsStaleState says n next top depth t old base worse start w')
      (strong' : AllStrong says n next top depth t old base worse near start w')
      (tells' : AllTell says n next top depth t old base worse near start over long room reached w')
      (step : MachineSteps says w w') where
    level_on : (f : ℕ) → ((e : ℕ) → e < f → LevelFalls e w') → LevelFalls f w'
    level_on f below v p u q close in_v leads =
        settles_on says n next top depth t old base worse near before f v p u q close in_v leads (delay f) w w'
        (heard w is.stale is.strong is.tells f (λ e less. is.settles e)) (heard w' stale' strong' tells' f below) step
        (has_time w is.stale is.strong is.tells f (λ e less. is.settles e) f v p u q (omega arith) close in_v leads)
        (has_time w' stale' strong' tells' f below f v p u q (omega arith) close in_v leads)
        (is.settles f v p u q close in_v leads)

    levels_below : (f e : ℕ) → e < f → LevelFalls e w'
    levels_below zero e none = absurd (omega (arith, none))
    levels_below (suc f) e less = elim (dec_lt e f) [
      | yes below ↦ levels_below f e below
      | no not_below ↦ level_on e (λ e2 sooner. levels_below f e2 (omega (arith, sooner, less)))
    ]

    pub levels_on : (f : ℕ) → LevelFalls f w'
    levels_on f = levels_below (suc f) f (omega arith)
