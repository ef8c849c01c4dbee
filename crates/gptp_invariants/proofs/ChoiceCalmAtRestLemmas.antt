-- A system that is at rest is seen at rest.
use Rattle.std.proofs.Common.{◌≡◌, ◌⊎◌, ◌+◌, ℕ, zero, suc, ℤ, Bool, false, List, [], ◌∷◌, Option, Some, None, slice_get, refl, sym, ap, subst, ◌∙◌, inl, inr, arith}
use Rattle.std.specs.Prelude.{◌==◌}
use Rattle.std.specs.List.{AllByRecursion}
use Rattle.std.specs.Option.{option_map_or}
use Rattle.std.proofs.lemmas.Bool.{both_ways}
use Rattle.std.proofs.lemmas.Bool.Decides.{nat_tests}
use Rattle.std.proofs.lemmas.Option.{none-some, same_Some}
use Rattle.gptp_graph.specs.Order.{IsLower}
use Rattle.gptp_vector.specs.declared.vector.Vector.{Vector}
use Rattle.gptp_vector.specs.Vector.{lower, master_of, parts, path_of, system_vector}
use Rattle.gptp_receipt.specs.declared.held.Held.{Held}
use Rattle.gptp_receipt.specs.declared.held.Reception.{Reception}
use Rattle.gptp_receipt.specs.Held.{received}
use Rattle.gptp_roles.specs.Choice.{IsIn, path_vectors, slave_port}
use Rattle.gptp_roles.proofs.ChoiceLemmas.{from_port}
use Rattle.gptp_system.specs.Facts.{AreHeld, AreShown, IsAtRest}
use Rattle.gptp_system.specs.State.{SystemState, clock}
use Rattle.gptp_bmca_machine.specs.AtRest.{ChoosesItself, ChoosesPort, StationIsAtRest as SeenAtRest}
use Rattle.gptp_bmca_machine.specs.Station.{Reception as SeenReception, Port as SeenPort, HoldsAt}
use Rattle.gptp_bmca_machine.specs.Vectors.{master, message, path_vector}
use Rattle.gptp_invariants.specs.ChoiceAtRest.{IsPortAtRest}
use Rattle.gptp_invariants.proofs.ChoiceKnownAtRestLemmas.{port_at_rest}
use Rattle.gptp_invariants.specs.ChoiceView.{reception_view, span_at, system_view}
use Rattle.gptp_invariants.proofs.ChoiceMidLemmas.{parts_of}
use Rattle.gptp_invariants.proofs.WorldOrderLemmas.{parts_lower}
use Rattle.gptp_invariants.proofs.ChoicePlaceLemmas.{port_from}
use Rattle.gptp_invariants.proofs.ChoicePortLemmas.{IsHeldAt, aged_back, held_from, holds_there, mine_back}

-- ---- path vectors

-- a path vector is that of what the port at a place received
record IsPathAt (hs : List Held) (v : Vector) : Type 0 where
  pub place : ℕ
  pub held : Held
  pub reception : Reception
  pub stands : slice_get hs place ≡ Some held
  pub got : received held ≡ Some reception
  pub is : v ≡ path_of reception.vector

path_at : (hs : List Held) (v : Vector) → IsIn v (path_vectors hs) → IsPathAt hs v
path_at [] v member = absurd member
path_at (h ∷ hs) v member = by (from_port v h hs member) (path_at hs v)
  where
    by : ((r : Reception) × (received h ≡ Some r) × (v ≡ path_of r.vector)) ⊎ IsIn v (path_vectors hs)
        → (IsIn v (path_vectors hs) → IsPathAt hs v) → IsPathAt (h ∷ hs) v
    by (inl (r, got, is)) later =
        record { place = zero; held = h; reception = r; stands = refl; got = got; is = is }
    by (inr behind) later =
        let at = later behind in
        record {
          place = suc at.place;
          held = at.held;
          reception = at.reception;
          stands = at.stands;
          got = at.got;
          is = at.is;
        }

-- what is true of all path vectors is true of that of each port
of_path : (P : Vector → Type 0) (hs : List Held) → AllByRecursion P (path_vectors hs) → (i : ℕ) (h : Held)
    (r : Reception) → slice_get hs i ≡ Some h → received h ≡ Some r → P (path_of r.vector)
of_path P [] all i h r stands got = absurd (none-some h stands)
of_path P (first ∷ hs) all zero h r stands got =
    let gets = ap received (same_Some first h stands) ∙ got in
    (subst (λ o. AllByRecursion P (option_map_or (λ (x : Reception). path_of x.vector ∷ path_vectors hs) o
    (path_vectors hs))) gets all).0
of_path P (first ∷ hs) all (suc i) h r stands got =
    of_path P hs (by (received first) all) i h r stands got
  where
    by : (o : Option Reception)
        → AllByRecursion P (option_map_or (λ (x : Reception). path_of x.vector ∷ path_vectors hs) o (path_vectors hs))
        → AllByRecursion P (path_vectors hs)
    by None rest = rest
    by (Some x) rest = rest.1

-- the parts of the path vector of what was received, as the machine lists them
path_parts : (n : ℕ) (keep : ℤ → ℕ) (r : Reception) → r.vector.receiver ≡ n
    → parts (path_of r.vector) ≡ path_vector (reception_view keep r).said n
path_parts n keep r here =
    let more : r.vector.steps + 1 ≡ suc r.vector.steps = omega arith in
    let source = r.vector.source in
    ap (λ steps. r.vector.root ∷ steps ∷ source.clock ∷ source.port ∷ r.vector.receiver ∷ []) more
    ∙ ap (λ port. r.vector.root ∷ suc r.vector.steps ∷ source.clock ∷ source.port ∷ port ∷ []) here

-- a vector that isn't lower has no lower parts
not_lower : (v w : Vector) → lower v w ≡ false → IsLower (parts v) (parts w) → ⊥
not_lower v w not less = both_ways (lower v w) not (parts_lower v w less)

-- ---- a system

module _ (live : Bool) (s : SystemState) (shown : AreShown s) (held : AreHeld s) (rest : IsAtRest s) where
  abbrev v : Vector
  v = rest.vector

  -- what it is compared by after the root and the steps
  abbrev source : List ℕ
  source = v.source.clock ∷ v.source.port ∷ v.receiver ∷ []

  slave_is : (i : ℕ) → v.receiver ≡ suc i → s.slave ≡ Some (suc i)
  slave_is i here =
      let some : (v.receiver == 0) ≡ false = grind (arith, nat_tests) in rest.slave ∙ (rw some (ap (λ n. Some n) here))

  chosen_seen : ChoosesItself (system_view live s) (parts v) ⊎ ChoosesPort (system_view live s) (parts v)
  chosen_seen = by rest.is_chosen.member
    where
      by : (v ≡ system_vector s.identity) ⊎ IsIn v (path_vectors s.held)
          → ChoosesItself (system_view live s) (parts v) ⊎ ChoosesPort (system_view live s) (parts v)
      by (inl own) = inl (ap parts own, rest.slave ∙ ap slave_port own)
      by (inr path) =
          let at = path_at s.held v path in
          let came = held at.place at.held at.stands at.reception at.got in
          let holds = holds_there live s shown at.place at.held at.reception at.stands at.got in
          let receiver : v.receiver ≡ suc at.place = ap (λ (x : Vector). x.receiver) at.is ∙ came.receiver in
          inr (
            at.place,
            reception_view (span_at s) at.reception,
            holds,
            ap parts at.is ∙ path_parts (suc at.place) (span_at s) at.reception came.receiver,
            slave_is at.place receiver,
          )

  -- what a port is seen to have received was received there
  at_of : (i : ℕ) (seen : SeenReception) → (at : IsHeldAt s i seen) → at.reception.vector.receiver ≡ suc i
  at_of i seen at = (held i at.held at.stands at.reception at.got).receiver

  held_not_lower : (i : ℕ) (seen : SeenReception) → HoldsAt (system_view live s) i seen
      → IsLower (path_vector seen.said (suc i)) (parts v) → ⊥
  held_not_lower i seen holds less =
      let at = held_from live s i seen holds in
      let is : path_vector seen.said (suc i) ≡ parts (path_of at.reception.vector) =
      ap (λ (x : SeenReception). path_vector x.said (suc i)) at.is
      ∙ sym (path_parts (suc i) (span_at s) at.reception (at_of i seen at)) in
      not_lower (path_of at.reception.vector) v
      (of_path (λ x. lower x v ≡ false) s.held rest.is_chosen.least.1 i at.held at.reception at.stands at.got)
      (subst (λ xs. IsLower xs (parts v)) is less)

  port_rests : (i : ℕ) (h : Held) → slice_get s.held i ≡ Some h → IsPortAtRest s (suc i) h
  port_rests = port_at_rest s held rest

  passive_seen : (i : ℕ) (seen : SeenReception) → HoldsAt (system_view live s) i seen
      → (s.slave ≡ Some (suc i))
      ⊎ (IsLower (master s.root s.steps (clock s) (suc i)) (message seen.said (suc i)) → ⊥)
  passive_seen i seen holds = by ((port_rests i at.held at.stands).passive at.reception at.got)
    where
      at : IsHeldAt s i seen
      at = held_from live s i seen holds

      own : Vector
      own = master_of s.root s.steps (clock s) (suc i)

      is : message seen.said (suc i) ≡ parts at.reception.vector
      is =
          ap (λ (x : SeenReception). message x.said (suc i)) at.is
          ∙ sym (parts_of (suc i) (span_at s) at.reception (at_of i seen at))

      by : (s.slave ≡ Some (suc i)) ⊎ (lower own at.reception.vector ≡ false)
          → (s.slave ≡ Some (suc i))
          ⊎ (IsLower (master s.root s.steps (clock s) (suc i)) (message seen.said (suc i)) → ⊥)
      by (inl slave) = inl slave
      by (inr not) =
          inr (λ less. not_lower own at.reception.vector not (subst (λ xs. IsLower (parts own) xs) is less))

  pub rest_seen : SeenAtRest (system_view live s)
  rest_seen = record {
    vector = parts v;
    chosen = chosen_seen;
    own_not_lower = not_lower (system_vector s.identity) v rest.is_chosen.least.0;
    held_not_lower = held_not_lower;
    source = source;
    is = ap (λ root. root ∷ v.steps ∷ source) (sym rest.root) ∙ ap (λ steps. s.root ∷ steps ∷ source) (sym rest.steps);
    fresh = λ i q there aged.
        let at = port_from (span_at s) s.held s.ports i q there in
        (port_rests i at.held at.held_there).fresh
        (aged_back (span_at s) at.held (ap (λ (x : SeenPort). x.held) (sym at.is) ∙ aged));
    mine = λ i q root steps there mine.
        let at = port_from (span_at s) s.held s.ports i q there in
        (port_rests i at.held at.held_there).mine root steps
        (mine_back (span_at s) at.held root steps (ap (λ (x : SeenPort). x.held) (sym at.is) ∙ mine));
    passive = passive_seen;
  }
