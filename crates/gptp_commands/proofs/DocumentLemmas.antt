-- The text that is told of a document line by line, part after part.
use Rattle.std.proofs.Common.{◌≡◌, ◌≤◌, ℕ, nat_le, true, List, length, Option, inl, inr}
use Rattle.std.proofs.lemmas.Bool.{le-leb}
use Rattle.gptp_network.specs.Document.{DocumentState, Means}
use Rattle.gptp_sink.specs.Sink.{AppendsSome}
use Rattle.gptp_words.specs.Lines.{text_of}
use Rattle.gptp_commands.specs.declared.failure.Status.{Status}
use Rattle.gptp_commands.specs.Documents.{Answers, AnswersInput, AnswersSoFar, BeginsInput, document_limit, SomeOf}

module _ (Tells : DocumentState → List (List ℕ) → Status → Type 0) (TellsSoFar : DocumentState → List (List ℕ) → Type 0)
    (octets : List ℕ) where
  -- as far as a document within its size is told of
  pub answers_some : (d : DocumentState) → Means octets d → (old new : Option (List ℕ))
      → (lines : List (List ℕ)) × SomeOf (TellsSoFar d) (Tells d) lines × AppendsSome old new (text_of lines)
      → (lines : List (List ℕ)) × SomeOf (AnswersSoFar TellsSoFar octets) (Answers Tells octets) lines
      × AppendsSome old new (text_of lines)
  answers_some d means old new (lines, inl none, some) = (lines, inl none, some)
  answers_some d means old new (lines, inr (inl so_far), some) = (lines, inr (inl (d, means, so_far)), some)
  answers_some d means old new (lines, inr (inr (status, told)), some) =
      (lines, inr (inr (status, inl (d, means, told))), some)

  -- as far as an input within its size is
  pub begins_within : length octets ≤ document_limit → (old new : Option (List ℕ))
      → (lines : List (List ℕ)) × SomeOf (AnswersSoFar TellsSoFar octets) (Answers Tells octets) lines
      × AppendsSome old new (text_of lines)
      → (lines : List (List ℕ)) × BeginsInput Tells TellsSoFar octets lines × AppendsSome old new (text_of lines)
  begins_within within old new (lines, inl none, some) = (lines, inl none, some)
  begins_within within old new (lines, inr (inl so_far), some) = (lines, inr (inl (within, so_far)), some)
  begins_within within old new (lines, inr (inr (status, answers)), some) =
      let fits : nat_le (length octets) document_limit ≡ true = le-leb (length octets) document_limit within in
      let text : AnswersInput Tells octets lines status = rw fits answers in
      (lines, inr (inr (status, text)), some)
