use Rattle.std.proofs.Common.{◌≡◌, ◌≢◌, ◌⊎◌, ℕ, List, [], Option, Result, IfOk, Ok, Err, inl, inr, refl, string_bytes}
use Rattle.gptp_network.specs.declared.fault.DocumentFault.{DocumentFault}
use Rattle.gptp_network.specs.declared.fault.DocumentFault.TheVariants.{OutOfMemory}
use Rattle.gptp_network.specs.Document.{Fails}
use Rattle.gptp_words.specs.Lines.{text_of}
use Rattle.gptp_commands.specs.WhereText.{LocatesDocument}
use Rattle.gptp_commands.proofs.place.place_for_document.Goals as goal

-- nothing is told where the document is refused
told : {X E : Type 0} (bytes : X → List ℕ) (until : Option ℕ) (certificate document : List ℕ) (fault : DocumentFault)
    (r : Result X E) → (fault ≡ OutOfMemory) ⊎ Fails document fault → IfOk r (λ text. fault ≢ OutOfMemory)
    → IfOk r (λ text. bytes text ≡ [])
    → IfOk r (λ text. (lines : List (List ℕ)) × LocatesDocument until certificate document lines
    × (bytes text ≡ text_of lines))
told bytes until certificate document fault (Err e) refused other nothing = tt
told bytes until certificate document fault (Ok text) (inl memory) other nothing = absurd (other memory)
told bytes until certificate document fault (Ok text) (inr fails) other nothing =
    ([], inr (fault, fails, refl), nothing)

pub returns-in-Err-clause-locates : goal.returns-in-Err-clause-locates
returns-in-Err-clause-locates c =
    told string_bytes c.args.until c.args.certificate.now c.args.document.now c.in-Err.fault
    c.place_without_document.result c.in-Err.ensures.refused c.place_without_document.ensures.refused
    c.place_without_document.ensures.nothing
