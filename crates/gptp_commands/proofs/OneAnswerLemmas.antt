-- An input has one answer, where a document has.
use Rattle.std.proofs.Common.{ℕ, Bool, true, false, nat_le, List, length, refl, subst, inl, inr}
use Rattle.std.specs.Bool.{MatchBool}
use Rattle.gptp_network.specs.Document.{DocumentState, Means}
use Rattle.gptp_network.specs.declared.fault.DocumentFault.TheVariants.{TooMany}
use Rattle.gptp_network.proofs.LawLemmas as network_laws
use Rattle.gptp_commands.specs.declared.failure.Status.{Status}
use Rattle.gptp_commands.specs.Documents.{document_limit, Answers, AnswersInput, RefusesFault}
use Rattle.gptp_commands.proofs.VerdictLemmas.{same_refusal, AreSame}

module _ (Tells : DocumentState → List (List ℕ) → Status → Type 0) (input : List ℕ)
    (once : (d : DocumentState) (a b : List (List ℕ)) (s t : Status) → Means input d → Tells d a s → Tells d b t
    → AreSame a s b t)
    (a b : List (List ℕ)) (s t : Status) where
  answers_once : Answers Tells input a s → Answers Tells input b t → AreSame a s b t
  answers_once (inl (d, d-means, k)) (inl (e, e-means, l)) =
      let same = network_laws.one_meaning input e d e-means d-means in
      once d a b s t d-means k (subst (λ (x : DocumentState). Tells x b t) same l)
  answers_once (inl (d, means, _)) (inr (fault, fails, _)) =
      absurd (network_laws.never_both input d fault means fails)
  answers_once (inr (fault, fails, _)) (inl (d, means, _)) =
      absurd (network_laws.never_both input d fault means fails)
  answers_once (inr (f, f-fails, k)) (inr (g, g-fails, l)) =
      same_refusal f g a b s t (network_laws.one_fault input f g f-fails g-fails) k l

  by_size : (fits : Bool) → MatchBool fits (Answers Tells input a s) (RefusesFault TooMany a s)
      → MatchBool fits (Answers Tells input b t) (RefusesFault TooMany b t) → AreSame a s b t
  by_size true k l = answers_once k l
  by_size false k l = same_refusal TooMany TooMany a b s t refl k l

  pub one_answer : AnswersInput Tells input a s → AnswersInput Tells input b t → AreSame a s b t
  one_answer k l = by_size (nat_le (length input) document_limit) k l
