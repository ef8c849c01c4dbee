-- The faults of a certificate, and the test that finds each (profile).
use Rattle.std.specs.Prelude.{◌≡◌, ℕ, codes, List, [], ◌∷◌, ◌++◌}
use Rattle.gptp_lists.specs.Members.{In}
use Rattle.gptp_graph.specs.Snapshot.{Snapshot}
use Rattle.gptp_graph.specs.Labelling.{SystemLine}
use Rattle.gptp_graph.specs.LocalTests.{PassesSystems, PassesTooFar, PassesRoot, PassesSteps, PassesParent, PassesLink, PassesIdentity, PassesTie, PassesRole}
use Rattle.gptp_graph.specs.SettledChoice.{IsSettledChoice}
use Rattle.gptp_checker.specs.declared.fault.Fault.{Fault}
use Rattle.gptp_checker.specs.declared.fault.Fault.TheVariants.{Systems, Root, Steps, Parent, Link, Identity, Tie, Role, TooFar}

-- the test that finds this fault where it fails, in a certificate of this version: TooFar is looked for in version 1
-- alone, which can't state far systems
abbrev pub test_of : Fault → ℕ → Snapshot → List SystemLine → Type 0
test_of Systems version g lines = PassesSystems g lines
test_of Root version g lines = PassesRoot g lines
test_of Steps version g lines = PassesSteps lines
test_of Parent version g lines = PassesParent g lines
test_of Link version g lines = PassesLink g lines
test_of Identity version g lines = PassesIdentity g lines
test_of Tie version g lines = PassesTie g lines
test_of Role version g lines = PassesRole g lines
test_of TooFar version g lines = version ≡ 1 → PassesTooFar lines

-- the faults that are looked for where the systems are right, in this order
abbrev pub later_faults : List Fault
later_faults = TooFar ∷ Root ∷ Steps ∷ Parent ∷ Link ∷ Identity ∷ Tie ∷ Role ∷ []

-- all faults in the order in which they are looked for
abbrev pub faults_in_order : List Fault
faults_in_order = Systems ∷ later_faults

-- what is accepted of a network: its settled choice, in version 1 with nothing too far
pub record IsAccepted (version : ℕ) (g : Snapshot) (lines : List SystemLine) : Type 0 where
  pub choice : IsSettledChoice g lines
  pub near : version ≡ 1 → PassesTooFar lines

-- the tests of all faults before this one pass, and its own test doesn't
pub record IsFirstFault (version : ℕ) (g : Snapshot) (lines : List SystemLine) (fault : Fault) : Type 0 where
  pub before : List Fault
  pub after : List Fault
  pub order : before ++ fault ∷ after ≡ faults_in_order
  pub passes : (earlier : Fault) → In earlier before → test_of earlier version g lines
  pub fails : test_of fault version g lines → ⊥

-- a fault as its number and its name
abbrev pub check_fault_text : Fault → List ℕ
check_fault_text Systems = codes "1 Systems"
check_fault_text Root = codes "2 Root"
check_fault_text Steps = codes "3 Steps"
check_fault_text Parent = codes "4 Parent"
check_fault_text Link = codes "5 Link"
check_fault_text Identity = codes "6 Identity"
check_fault_text Tie = codes "7 Tie"
check_fault_text Role = codes "8 Role"
check_fault_text TooFar = codes "9 TooFar"
