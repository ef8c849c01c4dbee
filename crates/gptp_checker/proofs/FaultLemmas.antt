-- The first fault, and the choice that has none.
use Rattle.std.proofs.Common.{Bool, IsTrue, ◌≡◌, ◌↔◌, ℕ, suc, List, [], ◌∷◌, ◌++◌, Some, slice_get, take, drop, refl, sym, ap, subst, inl, inr}
use Rattle.gptp_lists.specs.Members.{In}
use Rattle.gptp_graph.specs.Snapshot.{Snapshot, IsWellFormed}
use Rattle.gptp_graph.specs.Labelling.{SystemLine}
use Rattle.gptp_graph.specs.LocalTests.{PassesSystems, PassesLocalTests}
use Rattle.gptp_graph.proofs.SoundLemmas.{sound}
use Rattle.gptp_graph.proofs.CompleteLemmas.{complete}
use Rattle.gptp_checker.specs.Faults.{test_of, faults_in_order, later_faults, IsAccepted, IsFirstFault}
use Rattle.gptp_checker.specs.declared.fault.Fault.{Fault}
use Rattle.gptp_checker.specs.declared.fault.Fault.TheVariants.{Systems, Root, Steps, Parent, Link, Identity, Tie, Role, TooFar}
use Rattle.gptp_checker.specs.declared.line_test.LineTest.{LineTest}
use Rattle.gptp_checker.specs.declared.line_test.LineTest.TheVariants as tests
use Rattle.gptp_checker.specs.LineTests.{PassesEachLine}
use Rattle.gptp_checker.proofs.LineTestLemmas.{too_far_by_line, root_by_line, steps_by_line, parent_by_line, identity_by_line, tie_by_line, role_by_line}
use Rattle.gptp_checker.proofs.EachLemmas.{HoldBefore, around, hold_before}

-- the fault that this test finds
abbrev pub found_by : LineTest → Fault
found_by tests.TooFar = TooFar
found_by tests.Root = Root
found_by tests.Steps = Steps
found_by tests.Parent = Parent
found_by tests.Identity = Identity
found_by tests.Tie = Tie
found_by tests.Role = Role

module _ (version : ℕ) (g : Snapshot) (lines : List SystemLine) where
  -- it is found line by line
  pub by_lines : (test : LineTest) → IsWellFormed g → PassesSystems g lines → (test ≡ tests.TooFar → version ≡ 1)
      → PassesEachLine test g lines ↔ test_of (found_by test) version g lines
  by_lines tests.TooFar wf right first =
      let each = too_far_by_line g lines in ((λ h e. each.0 h), (λ h. each.1 (h (first refl))))
  by_lines tests.Root wf right first = root_by_line g lines
  by_lines tests.Steps wf right first = steps_by_line g lines
  by_lines tests.Parent wf right first = parent_by_line g lines
  by_lines tests.Identity wf right first = identity_by_line g lines
  by_lines tests.Tie wf right first = tie_by_line g lines wf right
  by_lines tests.Role wf right first = role_by_line g lines

  pub found_by_lines : (fault : Fault) (test : LineTest) (b : Bool) → IsWellFormed g → PassesSystems g lines
      → (test ≡ tests.TooFar → version ≡ 1) → fault ≡ found_by test → (IsTrue b ↔ PassesEachLine test g lines)
      → IsTrue b ↔ test_of fault version g lines
  found_by_lines fault test b wf right first e h =
      let each = by_lines test wf right first in
      subst (λ f. IsTrue b ↔ test_of f version g lines) (sym e) ((λ t. each.0 (h.0 t)), (λ p. h.1 (each.1 p)))

  -- it is absent where each line passes
  pub absent_by_lines : (test : LineTest) → IsWellFormed g → PassesSystems g lines → PassesEachLine test g lines
      → test_of (found_by test) version g lines
  absent_by_lines tests.TooFar wf right h = λ first. (too_far_by_line g lines).0 h
  absent_by_lines tests.Root wf right h = (root_by_line g lines).0 h
  absent_by_lines tests.Steps wf right h = (steps_by_line g lines).0 h
  absent_by_lines tests.Parent wf right h = (parent_by_line g lines).0 h
  absent_by_lines tests.Identity wf right h = (identity_by_line g lines).0 h
  absent_by_lines tests.Tie wf right h = (tie_by_line g lines wf right).0 h
  absent_by_lines tests.Role wf right h = (role_by_line g lines).0 h

  -- this fault's test passes
  abbrev pub IsAbsent : Fault → Type 0
  IsAbsent fault = test_of fault version g lines

  -- where systems are wrong, that is the first fault
  pub systems_first : (PassesSystems g lines → ⊥) → IsFirstFault version g lines Systems
  systems_first f =
      record { before = []; after = later_faults; order = refl; passes = λ earlier k. absurd k; fails = f }

  -- where they are right and the faults before a place are absent, it is the one at the place
  pub later_first : (i : ℕ) (fault : Fault) → slice_get later_faults i ≡ Some fault → PassesSystems g lines
      → HoldBefore IsAbsent later_faults i → (test_of fault version g lines → ⊥) → IsFirstFault version g lines fault
  later_first i fault at right h f = record {
    before = Systems ∷ take i later_faults;
    after = drop (suc i) later_faults;
    order = ap (λ faults. Systems ∷ faults) (around later_faults i fault at);
    passes = passes;
    fails = f;
  }
    where
      passes : (earlier : Fault) → In earlier (Systems ∷ take i later_faults) → test_of earlier version g lines
      passes earlier (inl e) = subst IsAbsent (sym e) right
      passes earlier (inr k) = hold_before IsAbsent later_faults i h earlier k

  -- where another fault is the first, the systems are right
  pub systems_before : (fault : Fault) → IsFirstFault version g lines fault → (fault ≡ Systems → ⊥)
      → PassesSystems g lines
  systems_before fault first other = by_front first.before first.order first.passes
    where
      by_front : (before : List Fault) → before ++ fault ∷ first.after ≡ faults_in_order
          → ((earlier : Fault) → In earlier before → test_of earlier version g lines) → PassesSystems g lines
      by_front [] e passes = absurd (other cc)
      by_front (b ∷ bs) e passes = let same : b ≡ Systems = cc in subst IsAbsent same (passes b (inl refl))

  -- where all are absent, all local tests pass
  all_absent : PassesSystems g lines → ((fault : Fault) → In fault later_faults → test_of fault version g lines)
      → PassesLocalTests g lines
  all_absent right h = record {
    systems = right;
    root = h Root (inr (inl refl));
    steps = h Steps (inr (inr (inl refl)));
    parent = h Parent (inr (inr (inr (inl refl))));
    link = h Link (inr (inr (inr (inr (inl refl)))));
    identity = h Identity (inr (inr (inr (inr (inr (inl refl))))));
    tie = h Tie (inr (inr (inr (inr (inr (inr (inl refl)))))));
    role = h Role (inr (inr (inr (inr (inr (inr (inr (inl refl))))))));
  }

  -- and the lines are accepted
  pub settled : IsWellFormed g → PassesSystems g lines
      → ((fault : Fault) → In fault later_faults → test_of fault version g lines)
      → IsAccepted version g lines
  settled wf right h = record { choice = sound g lines wf (all_absent right h); near = h TooFar (inl refl) }

  -- what is accepted has no fault
  pub no_fault : (fault : Fault) → IsWellFormed g → IsAccepted version g lines → test_of fault version g lines
  no_fault fault wf is = one fault (complete g lines wf is.choice)
    where
      one : (fault : Fault) → PassesLocalTests g lines → test_of fault version g lines
      one Systems h = h.systems
      one Root h = h.root
      one Steps h = h.steps
      one Parent h = h.parent
      one Link h = h.link
      one Identity h = h.identity
      one Tie h = h.tie
      one Role h = h.role
      one TooFar h = is.near
