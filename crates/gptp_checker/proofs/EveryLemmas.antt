-- Each certificate is accepted of a network, or has a first fault.
use Rattle.std.proofs.Common.{◌≡◌, ◌⊎◌, ℕ, List, [], ◌∷◌, ◌++◌, append_assoc, append-nil, refl, sym, subst, ◌∙◌, inl, inr}
use Rattle.gptp_lists.specs.Members.{In}
use Rattle.gptp_lists.proofs.SystemSpecLemmas.{In-parts}
use Rattle.gptp_graph.specs.Labelling.{SystemLine}
use Rattle.gptp_graph.specs.LocalTests.{PassesSystems}
use Rattle.gptp_graph.specs.Snapshot.{IsWellFormed, Snapshot}
use Rattle.gptp_checker.specs.declared.fault.Fault.{Fault}
use Rattle.gptp_checker.specs.declared.fault.Fault.TheVariants.{Systems}
use Rattle.gptp_checker.specs.Faults.{IsAccepted, IsFirstFault, faults_in_order, test_of}
use Rattle.gptp_checker.proofs.DecisionLemmas.{fault_dec, systems_dec}
use Rattle.gptp_checker.proofs.FaultLemmas.{settled, systems_first}

module _ (version : ℕ) (g : Snapshot) (lines : List SystemLine) where
  abbrev AllPass : Type 0
  AllPass = (fault : Fault) → In fault faults_in_order → test_of fault version g lines

  abbrev HasFault : Type 0
  HasFault = (fault : Fault) × IsFirstFault version g lines fault

  module _ (dec : (fault : Fault) → Dec (test_of fault version g lines)) where
    -- one more test, where those before it pass
    step : (before rest : List Fault) (fault : Fault) → before ++ fault ∷ rest ≡ faults_in_order
        → ((earlier : Fault) → In earlier before → test_of earlier version g lines)
        → Dec (test_of fault version g lines)
        → (((earlier : Fault) → In earlier (before ++ fault ∷ []) → test_of earlier version g lines)
        → AllPass ⊎ HasFault)
        → AllPass ⊎ HasFault
    step before rest fault order passes (no fails) later = inr (
      fault,
      record {
        before = before;
        after = rest;
        order = order;
        passes = passes;
        fails = fails;
      },
    )
    step before rest fault order passes (yes passed) later =
        later (λ earlier member. elim (In-parts earlier before (fault ∷ []) member) [
          | inl there ↦ passes earlier there
          | inr last ↦ elim last [
            | inl same ↦ subst (λ (f : Fault). test_of f version g lines) (sym same) passed
            | inr none ↦ absurd none
          ]
        ])

    each_in_order : (before rest : List Fault) → before ++ rest ≡ faults_in_order
        → ((earlier : Fault) → In earlier before → test_of earlier version g lines) → AllPass ⊎ HasFault
    each_in_order before [] order passes =
        inl (λ fault member. passes fault (subst (In fault) (sym order ∙ append-nil before) member))
    each_in_order before (fault ∷ rest) order passes =
        step before rest fault order passes (dec fault)
        (each_in_order (before ++ fault ∷ []) rest (append_assoc before (fault ∷ []) rest ∙ order))

  verdict : IsWellFormed g → Dec (PassesSystems g lines) → IsAccepted version g lines ⊎ HasFault
  verdict wf (no wrong) = inr (Systems, systems_first version g lines wrong)
  verdict wf (yes right) =
      by (each_in_order (fault_dec g lines wf version right) [] faults_in_order refl (λ earlier none. absurd none))
    where
      by : AllPass ⊎ HasFault → IsAccepted version g lines ⊎ HasFault
      by (inl all) = inl (settled version g lines wf right (λ fault member. all fault (inr member)))
      by (inr found) = inr found

  pub accepted_or_faulty : IsWellFormed g
      → IsAccepted version g lines ⊎ ((fault : Fault) × IsFirstFault version g lines fault)
  accepted_or_faulty wf = verdict wf (systems_dec g lines)
