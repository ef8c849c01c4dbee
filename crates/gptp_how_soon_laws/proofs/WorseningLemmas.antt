-- Events by which systems only get worse, and links stay: who lives, what is in use and what reaches whom is as it was.
use Rattle.std.proofs.Common.{◌≡◌, ◌<◌, ◌≤◌, ◌⊎◌, inl, inr, ◌+◌, ◌*◌, ◌^◌, ◌%◌, ℕ, Bool, true, false, cond, List, [], ◌∷◌, ◌++◌, Some, slice_get, refl, sym, ap, ap₂, subst, ◌∙◌, append-nil, append_assoc, arith}
use Rattle.std.specs.Prelude.{◌==◌, ◌&&◌}
use Rattle.std.specs.List.{list_all}
use Rattle.std.proofs.lemmas.Bool.{and_parts, eq-eqb, eqb-true, or_cases}
use Rattle.gptp_lists.specs.Members.{In}
use Rattle.gptp_lists.proofs.MappedLemmas.{same_there}
use Rattle.gptp_lists.proofs.SystemSpecLemmas.{from_map, slice_get-In}
use Rattle.gptp_graph.specs.Path.{Reaches}
use Rattle.gptp_graph.specs.Snapshot.{IsWellFormed, Joins, Link, PortIdentity, Snapshot, System, clocks}
use Rattle.gptp_graph.proofs.SystemLemmas.{In-clocks}
use Rattle.gptp_roles.specs.Selection.{clock_of}
use Rattle.gptp_scenario.specs.Change.{standing, system_acted, system_after, with_live, with_priority1}
use Rattle.gptp_scenario.specs.InUse.{lives}
use Rattle.gptp_scenario.specs.Network.{IsNetwork, NetworkState}
use Rattle.gptp_scenario.specs.declared.change.Act.{Act}
use Rattle.gptp_scenario.specs.declared.change.Act.TheVariants as acts
use Rattle.gptp_scenario.specs.declared.change.Change.TheVariants as changes
use Rattle.gptp_scenario.specs.declared.change.Timed.{Timed}
use Rattle.gptp_scenario.specs.declared.network.SystemSpec.{SystemSpec}
use Rattle.gptp_network.specs.Snapshot.{StandsAfter, has_clock}
use Rattle.gptp_network.specs.Snapshot as snapshots
use Rattle.gptp_network.proofs.InUseLemmas.{live_there, runs, there_live}
use Rattle.gptp_network.proofs.PassLemmas.{passes, passes_at}
use Rattle.gptp_network.proofs.SnapshotLemmas.{clock_after, member_there, with_clock}
use Rattle.gptp_theorem.proofs.EventLemmas.{system_behind}
use Rattle.gptp_how_soon.specs.Kinds.{is_idle, is_loss, is_priority1, is_unused, leaves_links, makes_nothing}
use Rattle.gptp_how_soon.specs.Times.{told_at, told_of}
use Rattle.gptp_how_soon.proofs.ChosenLemmas.{link_stands, used_then}
use Rattle.gptp_settling_time.specs.Gains.{ChangesNothing}
use Rattle.gptp_settling_time.specs.HowSoon.{TurnsUnused}
use Rattle.gptp_settling_time.proofs.SameBestLemmas.{route_over}
use Rattle.gptp_settling_time.proofs.SamePathsLemmas.{StandAlike, idle_alike, lives_same, priority_alike, turned_alike}
use Rattle.gptp_how_soon_laws.proofs.ToldLemmas.{Worsens, idle_changes, loss_worsens, unused_turns}

-- ---- systems that get worse alone

-- after more events the same systems live, the same links are in use, and no live system is better
pub record OnlyWorsen (n : NetworkState) (events more : List Timed) : Type 0 where
  pub alike : StandAlike n events more
  pub rises : (m : SystemSpec) → In m n.systems → (system_after events m).live ≡ true
      → (system_after events m).identity ≤ (system_after more m).identity

pub worsen_none : (n : NetworkState) (events : List Timed) → OnlyWorsen n events events
worsen_none n events = record {
  alike = record {
    systems = λ m member. refl;
    used = λ v member. refl;
    bounds = λ v member. refl;
  };
  rises = λ m member live. omega arith;
}

pub worsen_both : (n : NetworkState) (events more all : List Timed) → OnlyWorsen n events more → OnlyWorsen n more all
    → OnlyWorsen n events all
worsen_both n events more all a b = record {
  alike = record {
    systems = λ m member. b.alike.systems m member ∙ a.alike.systems m member;
    used = λ v member. b.alike.used v member ∙ a.alike.used v member;
    bounds = λ v member. b.alike.bounds v member ∙ a.alike.bounds v member;
  };
  rises = λ m member live.
      let first = a.rises m member live in
      let then = b.rises m member (a.alike.systems m member ∙ live) in
      omega (arith, first, then);
}

pub alike_back : (n : NetworkState) (events more : List Timed) → StandAlike n events more → StandAlike n more events
alike_back n events more a = record {
  systems = λ m member. sym (a.systems m member);
  used = λ v member. sym (a.used v member);
  bounds = λ v member. sym (a.bounds v member);
}

-- a system that fails or recovers keeps its identity
sets_other : (test live : Bool) (s : _) → (cond test (with_live live s) s).identity ≡ s.identity
sets_other true live s = refl
sets_other false live s = refl

-- a priority1 that makes no identity lower makes no system better
sets_higher : (made : List Timed) (m : SystemSpec) (number value : ℕ)
    → (number ≡ clock_of m.identity
    → (system_after made m).identity ≤ value * 2 ^ 104 + (system_after made m).identity % 2 ^ 104)
    → (system_after made m).identity
    ≤ (system_acted (acts.Change (changes.Priority1 number value)) (clock_of m.identity) (system_after made m)).identity
sets_higher made m number value higher = by (number == clock_of m.identity) refl
  where
    by : (test : Bool) → (number == clock_of m.identity) ≡ test
        → (system_after made m).identity
        ≤ (cond test (with_priority1 value (system_after made m)) (system_after made m)).identity
    by true is = higher (eqb-true number (clock_of m.identity) is)
    by false is = omega arith

module _ (n : NetworkState) (network : IsNetwork n) (made : List Timed) (event : Timed) where
  abbrev pub more : List Timed
  more = made ++ event ∷ []

  identity_behind : (m : SystemSpec)
      → (system_after more m).identity ≡ (system_acted event.act (clock_of m.identity) (system_after made m)).identity
  identity_behind m = ap (λ s. s.identity) (system_behind made event (clock_of m.identity) (standing m))

  rises_by : ((m : SystemSpec) → In m n.systems → (system_after made m).live ≡ true
      → (system_after made m).identity ≤ (system_acted event.act (clock_of m.identity) (system_after made m)).identity)
      → (m : SystemSpec) → In m n.systems → (system_after made m).live ≡ true
      → (system_after made m).identity ≤ (system_after more m).identity
  rises_by higher m member live =
      subst (λ i. (system_after made m).identity ≤ i) (sym (identity_behind m)) (higher m member live)

  -- by what changes nothing
  idle_rises : (act : Act) → ChangesNothing n made act → (m : SystemSpec) → In m n.systems
      → (system_after made m).live ≡ true
      → (system_after made m).identity ≤ (system_acted act (clock_of m.identity) (system_after made m)).identity
  idle_rises (acts.Change (changes.Priority1 number value)) idle m member live =
      let (place, there) = slice_get-In m n.systems member in
      sets_higher made m number value (λ clock.
      elim (idle place m there (sym clock)) [
        | inl failed ↦ let no : true ≡ false = sym live ∙ failed in absurd cc
        | inr same ↦ omega (arith, same)
      ])
  idle_rises (acts.Deliver link direction) idle m member live = absurd idle
  idle_rises (acts.Expire clock timer) idle m member live = absurd idle
  idle_rises (acts.Change (changes.LinkDown clock port)) idle m member live = omega arith
  idle_rises (acts.Change (changes.LinkUp clock port)) idle m member live = omega arith
  idle_rises (acts.Change (changes.LinkSet clock port least greatest loss)) idle m member live = absurd idle
  idle_rises (acts.Change (changes.Fail clock)) idle m member live =
      let same = sets_other (clock == clock_of m.identity) false (system_after made m) in omega (arith, same)
  idle_rises (acts.Change (changes.Recover clock)) idle m member live =
      let same = sets_other (clock == clock_of m.identity) true (system_after made m) in omega (arith, same)
  idle_rises (acts.Change (changes.Inject clock port octets)) idle m member live = omega arith

  -- by a link that isn't used
  turn_rises : (act : Act) → TurnsUnused n made act → (m : SystemSpec)
      → (system_after made m).identity ≤ (system_acted act (clock_of m.identity) (system_after made m)).identity
  turn_rises (acts.Change (changes.LinkDown clock port)) turns m = omega arith
  turn_rises (acts.Change (changes.LinkUp clock port)) turns m = omega arith
  turn_rises (acts.Change (changes.LinkSet clock port least greatest loss)) turns m = absurd turns
  turn_rises (acts.Change (changes.Fail clock)) turns m = absurd turns
  turn_rises (acts.Change (changes.Recover clock)) turns m = absurd turns
  turn_rises (acts.Change (changes.Priority1 number value)) turns m = absurd turns
  turn_rises (acts.Change (changes.Inject clock port octets)) turns m = absurd turns
  turn_rises (acts.Deliver link direction) turns m = absurd turns
  turn_rises (acts.Expire clock timer) turns m = absurd turns

  -- by a priority1 that makes a live system worse
  pub record IsWorsening : Type 0 where
    pub number : ℕ
    pub value : ℕ
    pub act : event.act ≡ acts.Change (changes.Priority1 number value)
    pub worsens : Worsens n network made number value

  worse_rises : (x : IsWorsening) → (m : SystemSpec) → In m n.systems
      → (system_after made m).identity ≤ (system_acted event.act (clock_of m.identity) (system_after made m)).identity
  worse_rises x m member =
      let w = x.worsens in
      let (place, there) = slice_get-In m n.systems member in
      subst (λ act. (system_after made m).identity
      ≤ (system_acted act (clock_of m.identity) (system_after made m)).identity) (sym x.act)
      (sets_higher made m x.number x.value (λ clock.
      let same = w.only place m there (sym clock) in
      let worse = subst (λ (o : SystemSpec). (system_after made o).identity
      < x.value * 2 ^ 104 + (system_after made o).identity % 2 ^ 104) (sym same) w.worse in
      omega (arith, worse)))

  not_priority : (act : Act) → is_priority1 (told_at n made act) ≡ false
      → (is_loss (told_at n made act) && is_priority1 (told_at n made act)) ≡ true → ⊥
  not_priority act other is =
      let (loss, priority) = and_parts (is_loss (told_at n made act)) (is_priority1 (told_at n made act)) is in
      let no : true ≡ false = sym priority ∙ other in cc

  pub worsening_so : (act : Act) → event.act ≡ act
      → (is_loss (told_at n made act) && is_priority1 (told_at n made act)) ≡ true → IsWorsening
  worsening_so (acts.Change (changes.Priority1 number value)) same is =
      let act = acts.Change (changes.Priority1 number value) in
      record {
        number = number;
        value = value;
        act = same;
        worsens = loss_worsens n network made number value
            (and_parts (is_loss (told_at n made act)) (is_priority1 (told_at n made act)) is).0;
      }
  worsening_so (acts.Deliver link direction) same is = absurd (not_priority (acts.Deliver link direction) refl is)
  worsening_so (acts.Expire clock timer) same is = absurd (not_priority (acts.Expire clock timer) refl is)
  worsening_so (acts.Change (changes.LinkDown clock port)) same is =
      absurd (not_priority (acts.Change (changes.LinkDown clock port)) refl is)
  worsening_so (acts.Change (changes.LinkUp clock port)) same is =
      absurd (not_priority (acts.Change (changes.LinkUp clock port)) refl is)
  worsening_so (acts.Change (changes.LinkSet clock port least greatest loss)) same is =
      absurd (not_priority (acts.Change (changes.LinkSet clock port least greatest loss)) refl is)
  worsening_so (acts.Change (changes.Fail clock)) same is =
      absurd (not_priority (acts.Change (changes.Fail clock)) refl is)
  worsening_so (acts.Change (changes.Recover clock)) same is =
      absurd (not_priority (acts.Change (changes.Recover clock)) refl is)
  worsening_so (acts.Change (changes.Inject clock port octets)) same is =
      absurd (not_priority (acts.Change (changes.Inject clock port octets)) refl is)

  -- such an event
  abbrev pub IsKind : Type 0
  IsKind = ChangesNothing n made event.act ⊎ (TurnsUnused n made event.act ⊎ IsWorsening)

  pub kind_is : leaves_links (told_at n made event.act) ≡ true → IsKind
  kind_is leaves =
      let e = told_at n made event.act in
      elim (or_cases (makes_nothing e) (is_loss e && is_priority1 e) leaves) [
        | inl nothing ↦ elim (or_cases (is_idle e) (is_unused e) nothing) [
          | inl idle ↦ inl (idle_changes n network made event.act idle)
          | inr unused ↦ inr (inl (unused_turns n network made event.act unused))
        ]
        | inr loss ↦ inr (inr (worsening_so event.act refl loss))
      ]

  pub worsen_one : IsKind → OnlyWorsen n made more
  worsen_one (inl idle) = record {
    alike = idle_alike n network made event idle;
    rises = rises_by (idle_rises event.act idle);
  }
  worsen_one (inr (inl turns)) = record {
    alike = turned_alike n made event turns;
    rises = rises_by (λ m member live. turn_rises event.act turns m);
  }
  worsen_one (inr (inr x)) = record {
    alike = priority_alike n made event x.number x.value x.act;
    rises = rises_by (λ m member live. worse_rises x m member);
  }

-- they only make systems worse
pub worsen_all : (n : NetworkState) (network : IsNetwork n) (made left : List Timed)
    → list_all leaves_links (told_of n made left) ≡ true → OnlyWorsen n made (made ++ left)
worsen_all n network made [] leaves = subst (OnlyWorsen n made) (sym (append-nil made)) (worsen_none n made)
worsen_all n network made (event ∷ left) leaves =
    let (one, rest) =
    and_parts (leaves_links (told_at n made event.act)) (list_all leaves_links (told_of n (made ++ event ∷ []) left))
    leaves in
    worsen_both n made (made ++ event ∷ []) (made ++ event ∷ left)
    (worsen_one n network made event (kind_is n network made event one))
    (subst (OnlyWorsen n (made ++ event ∷ [])) (append_assoc made (event ∷ []) left)
    (worsen_all n network (made ++ event ∷ []) left rest))

-- ---- snapshots

-- the same systems stand
pub clock_over : (n : NetworkState) (network : IsNetwork n) (events more : List Timed)
    → ((m : SystemSpec) → In m n.systems → (system_after more m).live ≡ (system_after events m).live)
    → (g h : Snapshot) → StandsAfter n events g → StandsAfter n more h → (v : ℕ) → In v (clocks g) → In v (clocks h)
clock_over n network events more systems g h stands stands' v known =
    let (s, live, same) = from_map (λ (t : System). t.clock) v g.systems known in
    let has : has_clock g.systems v ≡ true =
    passes_at (λ (t : System). t.clock == v) g.systems s live (eq-eqb s.clock v same) in
    let then : lives n.systems more v ≡ true =
    lives_same n events more systems v ∙ there_live n network events g stands v has in
    let (t, there, is) = with_clock h.systems v (live_there n network more h stands' v then) in
    subst (λ c. In c (clocks h)) is (In-clocks h t there)

-- and the same links
module _ (n : NetworkState) (network : IsNetwork n) (events more : List Timed) (alike : StandAlike n events more)
    (g h : Snapshot) (stands : StandsAfter n events g) (stands' : StandsAfter n more h) (well' : IsWellFormed h) where
  link_over : (l : Link) → In l g.links → In l h.links
  link_over l member =
      let r = runs n network events g stands l member in
      let used = alike.used r.wire r.member ∙ r.used in
      subst (λ k. In k h.links) r.is
      (link_stands n network more h stands' well' r.wire r.member
      (used_then n network more h stands' well' r.wire used))

  pub joins_over : (p q : PortIdentity) → Joins g p q → Joins h p q
  joins_over p q (inl member) = inl (link_over (record { a = p; b = q }) member)
  joins_over p q (inr member) = inr (link_over (record { a = q; b = p }) member)

-- a system of a snapshot lives
pub lives_of : (n : NetworkState) (network : IsNetwork n) (events : List Timed) (g : Snapshot) → StandsAfter n events g
    → (s : System) → In s g.systems → (i : ℕ) (m : SystemSpec) → slice_get n.systems i ≡ Some m
    → clock_of m.identity ≡ s.clock → (system_after events m).live ≡ true
lives_of n network events g stands s live i m there clock =
    let has : has_clock g.systems s.clock ≡ true =
    passes_at (λ (t : System). t.clock == s.clock) g.systems s live (eq-eqb s.clock s.clock refl) in
    let (k, among, both) =
    passes (λ (k : SystemSpec). (clock_of k.identity == s.clock) && (system_after events k).live) n.systems
    (there_live n network events g stands s.clock has) in
    let (named, lives) = and_parts (clock_of k.identity == s.clock) (system_after events k).live both in
    let (j, here) = slice_get-In k n.systems among in
    let place = network.clocks j i k m here there (eqb-true (clock_of k.identity) s.clock named ∙ sym clock) in
    let one = same_there n.systems i k m (subst (λ p. slice_get n.systems p ≡ Some k) place here) there in
    subst (λ (x : SystemSpec). (system_after events x).live ≡ true) one lives

-- it is no better after more events
pub rises_over : (n : NetworkState) (network : IsNetwork n) (events more : List Timed) (g h : Snapshot)
    → StandsAfter n events g → StandsAfter n more h → OnlyWorsen n events more
    → (s t : System) → In s g.systems → In t h.systems → s.clock ≡ t.clock → s.identity ≤ t.identity
rises_over n network events more g h stands stands' worsens s t live there clock =
    let (m, among, is) = member_there n network events g stands s live in
    let (k, known, is') = member_there n network more h stands' t there in
    let (i, at) = slice_get-In m n.systems among in
    let (j, here) = slice_get-In k n.systems known in
    let name : clock_of m.identity ≡ s.clock = sym (clock_after events m) ∙ ap (λ (x : System). x.clock) is in
    let name' : clock_of k.identity ≡ t.clock = sym (clock_after more k) ∙ ap (λ (x : System). x.clock) is' in
    let place = network.clocks i j m k at here (name ∙ clock ∙ sym name') in
    let one : m ≡ k = same_there n.systems j m k (subst (λ p. slice_get n.systems p ≡ Some m) place at) here in
    let higher = worsens.rises m among (lives_of n network events g stands s live i m at name) in
    let first_is = ap (λ (x : System). x.identity) is in
    let last_is : (system_after more m).identity ≡ t.identity =
    ap (λ (x : SystemSpec). (system_after more x).identity) one ∙ ap (λ (x : System). x.identity) is' in
    omega (arith, higher, first_is, last_is)

-- what reaches over links that another snapshot has reaches there
pub reach_over : (g h : Snapshot) → ((v : ℕ) → In v (clocks g) → In v (clocks h))
    → ((p q : PortIdentity) → Joins g p q → Joins h p q) → (v w : ℕ) → Reaches g v w → Reaches h v w
reach_over g h systems links v w (us, path) = (
  us,
  record {
    begins = systems v path.begins;
    route = route_over g h links v w us path.route;
    different = path.different;
  },
)

-- a system of two snapshots with one identity is one
pub same_system : (n : NetworkState) (network : IsNetwork n) (events more : List Timed) (g h : Snapshot)
    → StandsAfter n events g → StandsAfter n more h → (s t : System) → In s g.systems → In t h.systems
    → s.identity ≡ t.identity → s ≡ t
same_system n network events more g h stands stands' s t live there same =
    let (m, among, is) = member_there n network events g stands s live in
    let (k, known, is') = member_there n network more h stands' t there in
    let identity : (system_after events m).identity ≡ (system_after more k).identity =
    ap (λ (x : System). x.identity) is ∙ same ∙ sym (ap (λ (x : System). x.identity) is') in
    let (i, at) = slice_get-In m n.systems among in
    let (j, here) = slice_get-In k n.systems known in
    let place = network.clocks i j m k at here
    (sym (clock_after events m) ∙ ap clock_of identity ∙ clock_after more k) in
    let one : m ≡ k = same_there n.systems j m k (subst (λ p. slice_get n.systems p ≡ Some m) place at) here in
    sym is
    ∙ ap₂ (λ x y. snapshots.system_of (x, y)) identity (ap (λ (x : SystemSpec). x.ports) one)
    ∙ is'
