-- What several reads take, together.
use Rattle.std.proofs.Common.{◌≡◌, ℕ, ◌+◌, ◌≤◌, List, ◌++◌, length, Option, Some, None, arith, append_assoc, length-append}
use Rattle.std.specs.Io.KnownBytes.{Consumes}
use Rattle.gptp_commands.specs.Source.{TakesAtMost}

-- what two reads took, the second after the first, is no more than both together
pub takes_both : (most : ℕ) (old between new : Option (List ℕ)) (first second : List ℕ) → Consumes old between first
    → Consumes between new second
    → length first + length second ≤ most → TakesAtMost most old new
takes_both most None between new first second one two few = (first, tt, omega arith)
takes_both most (Some xs) None new first second one two few = absurd one
takes_both most (Some xs) (Some ys) None first second one two few = absurd two
takes_both most (Some xs) (Some ys) (Some zs) first second one two few =
    let e : xs ≡ (first ++ second) ++ zs = rw append_assoc (cc) in
    (first ++ second, e, simp length-append few)
