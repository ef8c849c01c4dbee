-- A port goes down, and another holds as much, or the system follows itself, or no other takes part: what others hold
-- stays, and the system sends nothing.
use Rattle.std.proofs.Common.{◌≡◌, ◌≢◌, ◌<◌, ◌≤◌, ◌+◌, ℕ, zero, suc, Bool, true, false, List, [], ◌∷◌, Option, Some, None, slice_get, refl, sym, ap, subst, ◌∙◌, inl, inr, arith}
use Rattle.std.specs.Prelude.{◌==◌, if◌then◌else◌}
use native.Mathlib.Decide.{dec_lt, ℕ_discrete}
use Rattle.std.specs.List.{AllByRecursion}
use Rattle.std.specs.Option.{option_map_or}
use Rattle.std.proofs.lemmas.Bool.{ne_eqb}
use Rattle.std.proofs.lemmas.Option.{same_Some}
use Rattle.gptp_receipt.specs.Held.{received}
use Rattle.gptp_receipt.specs.declared.held.Held.{Held}
use Rattle.gptp_receipt.specs.declared.held.Held.TheVariants as helds
use Rattle.gptp_receipt.specs.declared.held.Reception.{Reception}
use Rattle.gptp_roles.specs.Choice.{ArePlaced, IsIn, path_vectors, slave_port}
use Rattle.gptp_roles.specs.Role.{each_from, held_after_selection, is_master}
use Rattle.gptp_roles.specs.declared.role.Role.TheVariants as roles
use Rattle.gptp_roles.proofs.ChoiceLemmas.{from_port}
use Rattle.gptp_system.specs.Facts.{AreHeld, IsAtRest}
use Rattle.gptp_system.specs.Measuring.{GoesDown, down}
use Rattle.gptp_system.specs.Selection.{choosing}
use Rattle.gptp_system.specs.State.{SystemState, change_at, clock}
use Rattle.gptp_system.specs.declared.sending.Sending.{Sending}
use Rattle.gptp_system.proofs.FactLemmas.{are_placed}
use Rattle.gptp_system.proofs.RestLemmas.{selects_again}
use Rattle.gptp_system.proofs.TimersChangedLemmas.{down_touches}
use Rattle.gptp_vector.specs.Vector.{lower, master_of, path_of, system_vector}
use Rattle.gptp_vector.specs.declared.vector.Vector.{Vector}
use Rattle.gptp_invariants.proofs.WorldOrderLemmas.{parts_lower}

-- what ports hold with that at place i disabled
abbrev pub without : ℕ → List Held → List Held
without i held = change_at (λ h. helds.Disabled) i held

-- the path vector of a port, if it received one, before others
abbrev with_path : Option Reception → List Vector → List Vector
with_path o others = option_map_or (λ (r : Reception). path_of r.vector ∷ others) o others

-- ---- what another port received is there still

module _ (v : Vector) where
  among_more : (o : Option Reception) (others : List Vector) → IsIn v others → IsIn v (with_path o others)
  among_more None others member = member
  among_more (Some r) others member = inr member

  among_here : (o : Option Reception) (others : List Vector) (r : Reception) → o ≡ Some r → v ≡ path_of r.vector
      → IsIn v (with_path o others)
  among_here None others r got is = absurd cc
  among_here (Some q) others r got is =
      let same : q ≡ r = cc in inl (is ∙ ap (λ (x : Reception). path_of x.vector) (sym same))

  among_still : (i port : ℕ) (hs : List Held) → ArePlaced port hs → v.receiver ≢ port + i → IsIn v (path_vectors hs)
      → IsIn v (path_vectors (without i hs))
  among_still i port [] placed other member = absurd member
  among_still zero port (h ∷ hs) placed other member = elim (from_port v h hs member) [
    | inl (r, got, is) ↦
        let at : r.vector.receiver ≡ port = (placed.0 r got).receiver in
        let receiver : v.receiver ≡ r.vector.receiver = ap (λ (x : Vector). x.receiver) is in
        absurd (other (omega (arith, at, receiver)))
    | inr more ↦ more
  ]
  among_still (suc i) port (h ∷ hs) placed other member = elim (from_port v h hs member) [
    | inl (r, got, is) ↦ among_here (received h) (path_vectors (without i hs)) r got is
    | inr more ↦ among_more (received h) (path_vectors (without i hs))
        (among_still i (port + 1) hs placed.1 (λ e. other (omega (arith, e))) more)
  ]

module _ (P : Vector → Type 0) where
  all_less : (o : Option Reception) (others : List Vector) → AllByRecursion P (with_path o others)
      → AllByRecursion P others
  all_less None others all = all
  all_less (Some r) others all = all.1

  all_more : (o : Option Reception) (others fewer : List Vector) → AllByRecursion P fewer
      → AllByRecursion P (with_path o others) → AllByRecursion P (with_path o fewer)
  all_more None others fewer rest all = rest
  all_more (Some r) others fewer rest all = (all.0, rest)

  all_still : (i : ℕ) (hs : List Held) → AllByRecursion P (path_vectors hs)
      → AllByRecursion P (path_vectors (without i hs))
  all_still i [] all = all
  all_still zero (h ∷ hs) all = all_less (received h) (path_vectors hs) all
  all_still (suc i) (h ∷ hs) all =
      all_more (received h) (path_vectors hs) (path_vectors (without i hs))
      (all_still i hs (all_less (received h) (path_vectors hs) all)) all

-- each port keeps what its role asks for
stays_still : (v : Vector) (c i port : ℕ) (hs : List Held) → hs ≡ each_from (held_after_selection v c) port hs
    → without i hs ≡ each_from (held_after_selection v c) port (without i hs)
stays_still v c i port [] same = same
stays_still v c zero port (h ∷ hs) same =
    let rest : hs ≡ each_from (held_after_selection v c) (port + 1) hs = cc in ap (λ hs. helds.Disabled ∷ hs) rest
stays_still v c (suc i) port (h ∷ hs) same =
    let first : h ≡ held_after_selection v c port h = cc in
    let rest : hs ≡ each_from (held_after_selection v c) (port + 1) hs = cc in
    let still = stays_still v c i (port + 1) hs rest in
    λ j. first j ∷ still j

-- ---- what remains to choose from

among_before : (v : Vector) (i : ℕ) (hs : List Held) → IsIn v (path_vectors (without i hs)) → IsIn v (path_vectors hs)
among_before v i [] member = absurd member
among_before v zero (h ∷ hs) member = among_more v (received h) (path_vectors hs) member
among_before v (suc i) (h ∷ hs) member = elim (from_port v h (without i hs) member) [
  | inl (r, got, is) ↦ among_here v (received h) (path_vectors hs) r got is
  | inr more ↦ among_more v (received h) (path_vectors hs) (among_before v i hs more)
]

-- what a port received
held_here : (j : ℕ) (hs : List Held) (r : Reception) → slice_get hs j ≡ Some (helds.Received r)
    → IsIn (path_of r.vector) (path_vectors hs)
held_here j [] r there = absurd cc
held_here zero (h ∷ hs) r there =
    let is : received h ≡ Some r = ap received (same_Some h (helds.Received r) there) in
    among_here (path_of r.vector) (received h) (path_vectors hs) r is refl
held_here (suc j) (h ∷ hs) r there =
    among_more (path_of r.vector) (received h) (path_vectors hs) (held_here j hs r there)

-- and what another did
pub held_among : (i j : ℕ) (hs : List Held) (r : Reception) → slice_get hs j ≡ Some (helds.Received r) → j ≢ i
    → IsIn (path_of r.vector) (path_vectors (without i hs))
held_among i j [] r there other = absurd cc
held_among zero zero (h ∷ hs) r there other = absurd (other refl)
held_among zero (suc j) (h ∷ hs) r there other = held_here j hs r there
held_among (suc i) zero (h ∷ hs) r there other =
    let is : received h ≡ Some r = ap received (same_Some h (helds.Received r) there) in
    among_here (path_of r.vector) (received h) (path_vectors (without i hs)) r is refl
held_among (suc i) (suc j) (h ∷ hs) r there other =
    among_more (path_of r.vector) (received h) (path_vectors (without i hs))
    (held_among i j hs r there (λ same. other (ap suc same)))

-- ---- the vector that is chosen then

of_all : (P : Vector → Type 0) (vs : List Vector) (v : Vector) → AllByRecursion P vs → IsIn v vs → P v
of_all P [] v all member = absurd member
of_all P (w ∷ vs) v all (inl same) = subst P (sym same) all.0
of_all P (w ∷ vs) v all (inr more) = of_all P vs v all.1 more

no_lower_root : (v u : Vector) → lower v u ≡ false → u.root ≤ v.root
no_lower_root v u none = elim (dec_lt v.root u.root) [
  | yes less ↦ absurd (let both : true ≡ false = sym (parts_lower v u (inl less)) ∙ none in cc)
  | no not_less ↦ omega (arith, not_less)
]

no_fewer_steps : (v u : Vector) → lower v u ≡ false → v.root ≡ u.root → u.steps ≤ v.steps
no_fewer_steps v u none same = elim (dec_lt v.steps u.steps) [
  | yes less ↦ absurd (let both : true ≡ false = sym (parts_lower v u (inr (same, inl less))) ∙ none in cc)
  | no not_less ↦ omega (arith, not_less)
]

-- between two vectors of one root and as many steps there are no others
between : (v w u : Vector) → lower w v ≡ false → lower u w ≡ false → u.root ≡ v.root → u.steps ≡ v.steps
    → (w.root ≡ v.root) × (w.steps ≡ v.steps)
between v w u no_lower no_higher root steps =
    let least = no_lower_root w v no_lower in
    let most = no_lower_root u w no_higher in
    let same : w.root ≡ v.root = omega (arith, least, most, root) in
    let few = no_fewer_steps w v no_lower same in
    let many = no_fewer_steps u w no_higher (root ∙ sym same) in
    (same, omega (arith, few, many, steps))

-- ---- roles

-- what a port holds that received this, whether it is the Slave, and whether its master vector is lower
abbrev holding : Bool → Bool → Held → Held → Held
holding slave low mine h =
    if is_master (if slave then roles.Slave else if low then roles.Master else roles.Passive) then mine else h

not_master : (slave : Bool) (mine h : Held) → holding slave false mine h ≡ h
not_master true mine h = refl
not_master false mine h = refl

module _ (v w : Vector) (c : ℕ) (root : w.root ≡ v.root) (steps : w.steps ≡ v.steps) where
  -- a port that isn't the Slave holds what it held, if another vector of that root and those steps is chosen
  port_still : (port : ℕ) (h : Held) → v.receiver ≢ port → h ≡ held_after_selection v c port h
      → h ≡ held_after_selection w c port h
  port_still port helds.Disabled other stays = refl
  port_still port helds.Aged other stays = absurd cc
  port_still port (helds.Mine r s) other stays = stays ∙ (λ j. helds.Mine (sym root j) (sym steps j))
  port_still port (helds.Received r) other stays =
      let mine : Held = helds.Mine w.root w.steps in
      let low : lower (master_of w.root w.steps c port) r.vector ≡ false =
      (λ j. lower (master_of (root j) (steps j) c port) r.vector)
      ∙ by (lower (master_of v.root v.steps c port) r.vector) refl in
      sym (ap (λ b. holding (w.receiver == port) b mine (helds.Received r)) low
      ∙ not_master (w.receiver == port) mine (helds.Received r))
    where
      held_so : helds.Received r
          ≡ holding false (lower (master_of v.root v.steps c port) r.vector) (helds.Mine v.root v.steps)
          (helds.Received r)
      held_so =
          stays
          ∙ ap (λ slave. holding slave (lower (master_of v.root v.steps c port) r.vector) (helds.Mine v.root v.steps)
          (helds.Received r)) (ne_eqb v.receiver port other)

      by : (b : Bool) → lower (master_of v.root v.steps c port) r.vector ≡ b
          → lower (master_of v.root v.steps c port) r.vector ≡ false
      by false is = is
      by true is =
          let no : helds.Received r ≡ helds.Mine v.root v.steps =
          held_so ∙ ap (λ b. holding false b (helds.Mine v.root v.steps) (helds.Received r)) is in
          absurd cc

  -- so do all of which none is the Slave
  ports_still : (port : ℕ) (hs : List Held) → v.receiver < port → hs ≡ each_from (held_after_selection v c) port hs
      → hs ≡ each_from (held_after_selection w c) port hs
  ports_still port [] before stays = refl
  ports_still port (h ∷ hs) before stays =
      let first : h ≡ held_after_selection v c port h = cc in
      let rest : hs ≡ each_from (held_after_selection v c) (port + 1) hs = cc in
      let one = port_still port h (λ same. omega (arith, before, same)) first in
      let others = ports_still (port + 1) hs (omega (arith, before)) rest in
      λ j. one j ∷ others j

  -- and those without the Slave
  others_still : (i port : ℕ) (hs : List Held) → v.receiver ≡ port + i
      → hs ≡ each_from (held_after_selection v c) port hs
      → without i hs ≡ each_from (held_after_selection w c) port (without i hs)
  others_still i port [] at stays = refl
  others_still zero port (h ∷ hs) at stays =
      let rest : hs ≡ each_from (held_after_selection v c) (port + 1) hs = cc in
      let others = ports_still (port + 1) hs (omega (arith, at)) rest in
      λ j. helds.Disabled ∷ others j
  others_still (suc i) port (h ∷ hs) at stays =
      let first : h ≡ held_after_selection v c port h = cc in
      let rest : hs ≡ each_from (held_after_selection v c) (port + 1) hs = cc in
      let one = port_still port h (λ same. omega (arith, at, same)) first in
      let others = others_still i (port + 1) hs (omega (arith, at)) rest in
      λ j. one j ∷ others j

-- ---- no other port takes part

-- each of these is disabled
abbrev pub AreDisabled : List Held → Type 0
AreDisabled hs = (j : ℕ) (h : Held) → slice_get hs j ≡ Some h → h ≡ helds.Disabled

-- so it is without one, where each other is
pub others_disabled : (i : ℕ) (hs : List Held)
    → ((j : ℕ) (h : Held) → slice_get hs j ≡ Some h → j ≢ i → h ≡ helds.Disabled) → AreDisabled (without i hs)
others_disabled i [] off j h at = absurd cc
others_disabled zero (x ∷ hs) off zero h at = sym (same_Some helds.Disabled h at)
others_disabled zero (x ∷ hs) off (suc j) h at = off (suc j) h at (λ e. absurd (omega (arith, e)))
others_disabled (suc i) (x ∷ hs) off zero h at = off zero h at (λ e. absurd (omega (arith, e)))
others_disabled (suc i) (x ∷ hs) off (suc j) h at =
    others_disabled i hs (λ k y there apart. off (suc k) y there (λ e. apart (omega (arith, e)))) j h at

-- whatever is chosen
disabled_stay : (v : Vector) (c port : ℕ) (hs : List Held) → AreDisabled hs
    → hs ≡ each_from (held_after_selection v c) port hs
disabled_stay v c port [] off = refl
disabled_stay v c port (h ∷ hs) off =
    let rest = disabled_stay v c (port + 1) hs (λ j x at. off (suc j) x at) in one h (off zero h refl) rest
  where
    one : (h : Held) → h ≡ helds.Disabled → hs ≡ each_from (held_after_selection v c) (port + 1) hs
        → h ∷ hs ≡ held_after_selection v c port h ∷ each_from (held_after_selection v c) (port + 1) hs
    one helds.Disabled is rest = λ j. helds.Disabled ∷ rest j
    one helds.Aged is rest = absurd cc
    one (helds.Mine root steps) is rest = absurd cc
    one (helds.Received r) is rest = absurd cc

-- ---- the port goes down

module _ (now i : ℕ) (s s' : SystemState) (sends : List Sending) (held : AreHeld s) (rest : IsAtRest s)
    (other : rest.vector.receiver ≢ suc i) (k : GoesDown (suc i) now s s' sends) where
  abbrev t : SystemState
  t = down (suc i) s

  rest_then : IsAtRest t
  rest_then = record {
    vector = rest.vector;
    is_chosen = record {
      member = elim rest.is_chosen.member [
        | inl own ↦ inl own
        | inr among ↦ inr (among_still rest.vector i 1 s.held (are_placed s held) (λ e. other (omega (arith, e))) among)
      ];
      least = (rest.is_chosen.least.0, all_still _ i s.held rest.is_chosen.least.1);
    };
    stays = stays_still rest.vector (clock s) i 1 s.held rest.stays;
    root = rest.root;
    steps = rest.steps;
    slave = rest.slave;
  }

  goes_down_unheard : (s' ≡ t) × (sends ≡ [])
  goes_down_unheard = selects_again now t s' sends ((down_touches (suc i) s).held held) rest_then k

-- the port at place i goes down, and what others hold stays
pub record GoesDownQuietly (i : ℕ) (s s' : SystemState) (sends : List Sending) : Type 0 where
  pub identity : s'.identity ≡ s.identity
  pub params : s'.params ≡ s.params
  pub largest : s'.largest ≡ s.largest
  pub held : s'.held ≡ without i s.held
  pub ports : s'.ports ≡ (down (suc i) s).ports
  pub silent : sends ≡ []

module _ (now i : ℕ) (s s' : SystemState) (sends : List Sending) (held : AreHeld s)
    (k : GoesDown (suc i) now s s' sends) where
  -- each port holds by the vector that is chosen then what it holds
  module _ (stays : without i s.held ≡ each_from (held_after_selection k.vector (clock s)) 1 (without i s.held)) where
    abbrev turned : SystemState
    turned = record (down (suc i) s) { root = k.vector.root; steps = k.vector.steps; slave = slave_port k.vector }

    rest_turned : IsAtRest turned
    rest_turned = record {
      vector = k.vector;
      is_chosen = k.is_chosen;
      stays = stays;
      root = refl;
      steps = refl;
      slave = refl;
    }

    again : (choosing k.vector now turned ≡ turned) × (sends ≡ [])
    again =
        selects_again now turned (choosing k.vector now turned) sends ((down_touches (suc i) s).held held) rest_turned
        (record { vector = k.vector; is_chosen = k.is_chosen; state = refl; sends_are = k.sends_are })

    turns : GoesDownQuietly i s s' sends
    turns = record {
      identity = ap (λ (x : SystemState). x.identity) k.state;
      params = ap (λ (x : SystemState). x.params) k.state;
      largest = ap (λ (x : SystemState). x.largest) k.state;
      held = ap (λ (x : SystemState). x.held) k.state ∙ ap (λ (x : SystemState). x.held) again.0;
      ports = ap (λ (x : SystemState). x.ports) k.state ∙ ap (λ (x : SystemState). x.ports) again.0;
      silent = again.1;
    }

  -- so it is where no other port takes part
  pub goes_down_alone : AreDisabled (without i s.held) → GoesDownQuietly i s s' sends
  goes_down_alone off = turns (disabled_stay k.vector (clock s) 1 (without i s.held) off)

module _ (now i : ℕ) (s s' : SystemState) (sends : List Sending) (held : AreHeld s) (rest : IsAtRest s)
    (k : GoesDown (suc i) now s s' sends) where
  -- something of that root and those steps is left, at another port or the system's own
  module _ (u : Vector) (among : IsIn u (system_vector s.identity ∷ path_vectors (without i s.held)))
      (root : u.root ≡ s.root) (steps : u.steps ≡ s.steps) where
    chosen_among : IsIn k.vector (system_vector s.identity ∷ path_vectors s.held)
    chosen_among = elim k.is_chosen.member [
      | inl own ↦ inl own
      | inr more ↦ inr (among_before k.vector i s.held more)
    ]

    same_choice : (k.vector.root ≡ rest.vector.root) × (k.vector.steps ≡ rest.vector.steps)
    same_choice =
        between rest.vector k.vector u
        (of_all (λ x. lower x rest.vector ≡ false) (system_vector s.identity ∷ path_vectors s.held) k.vector
        rest.is_chosen.least chosen_among)
        (of_all (λ x. lower x k.vector ≡ false) (system_vector s.identity ∷ path_vectors (without i s.held)) u
        k.is_chosen.least among) (root ∙ rest.root) (steps ∙ rest.steps)

    pub goes_down_quietly : GoesDownQuietly i s s' sends
    goes_down_quietly = elim (ℕ_discrete rest.vector.receiver (suc i)) [
      | yes was ↦ turns now i s s' sends held k
          (others_still rest.vector k.vector (clock s) same_choice.0 same_choice.1 i 1 s.held (omega (arith, was))
          rest.stays)
      | no other ↦
          let (is, silent) = goes_down_unheard now i s s' sends held rest other k in
          record {
            identity = ap (λ (x : SystemState). x.identity) is;
            params = ap (λ (x : SystemState). x.params) is;
            largest = ap (λ (x : SystemState). x.largest) is;
            held = ap (λ (x : SystemState). x.held) is;
            ports = ap (λ (x : SystemState). x.ports) is;
            silent = silent;
          }
    ]
