-- What several writes append, together.
use Rattle.std.proofs.Common.{◌≡◌, ◌+◌, ℕ, List, [], ◌++◌, length, take, Option, Some, None, Result, Ok, Err, sym, append_assoc, append-nil, length-append, arith}
use Rattle.std.proofs.Math.Seq.{take-append-add, take-length}
use Rattle.std.proofs.lemmas.List.{take-append-le}
use Rattle.std.specs.Prelude.{OnErr}
use Rattle.std.specs.Io.KnownBytes.{Appends}
use Rattle.gptp_sink.specs.Sink.{AppendsFront, AppendsSome}

-- what is so is so after an error
pub after_error : {X E : Type 0} {P : Type 0} (result : Result X E) → P → OnErr result P
after_error (Ok x) so = tt
after_error (Err e) so = so

-- where nothing was written, nothing is appended
pub appends_none : (known : Option (List ℕ)) → Appends known known []
appends_none None = tt
appends_none (Some octets) = sym (append-nil octets)

-- two fronts written one after the other are one front
pub appends_both : (old between new : Option (List ℕ)) (first second : List ℕ) → Appends old between first
    → Appends between new second
    → Appends old new (first ++ second)
appends_both None between new first second one two = tt
appends_both (Some xs) None new first second one two = absurd one
appends_both (Some xs) (Some ys) None first second one two = absurd two
appends_both (Some xs) (Some ys) (Some zs) first second one two =
    let e : zs ≡ xs ++ (first ++ second) = rw (← append_assoc) (cc) in e

-- where nothing was written, that is a front of every text
pub none_of : (known : Option (List ℕ)) (text : List ℕ) → AppendsSome known known text
none_of known text = record { count = 0; most = omega arith; written = appends_none known }

-- a whole text is a front of itself
pub all_of : (old new : Option (List ℕ)) (text : List ℕ) → Appends old new text → AppendsSome old new text
all_of old new text whole = record { count = length text; most = omega arith; written = rw take-length whole }

-- some of a text after a whole one is some of both
pub some_behind : (old between new : Option (List ℕ)) (first second : List ℕ) → Appends old between first
    → AppendsSome between new second → AppendsSome old new (first ++ second)
some_behind old between new first second whole some = record {
  count = length first + some.count;
  most = let most = some.most in omega (arith, most, length-append first second);
  written = rw take-append-add (appends_both old between new first (take some.count second) whole some.written);
}

-- a front that isn't the whole
pub front_of : (old new : Option (List ℕ)) (text : List ℕ) → AppendsFront old new text → AppendsSome old new text
front_of old new text (count, less, written) = record { count = count; most = omega (arith, less); written = written }

-- some of a text is some of one that goes on
pub some_before : (old new : Option (List ℕ)) (first second : List ℕ) → AppendsSome old new first
    → AppendsSome old new (first ++ second)
some_before old new first second some = record {
  count = some.count;
  most = let most = some.most in omega (arith, most, length-append first second);
  written = rw (take-append-le some.count first second some.most) some.written;
}
