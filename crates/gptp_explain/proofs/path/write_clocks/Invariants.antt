use Rattle.std.proofs.Common.{◌≡◌, ◌++◌, codes, drop, string_bytes}
use Rattle.std.specs.List.{flat_map}
use Rattle.gptp_words.specs.Digits.{clock_text}
use Rattle.gptp_explain.proofs.path.write_clocks.Given as goal

-- what is written and the clocks that are left are all that should be written
abbrev pub invariant-loop-clock : goal.invariant-loop-clock
invariant-loop-clock l =
    string_bytes l.text ++ flat_map (λ clock. codes " " ++ clock_text clock) (drop l.clock-index l.clocks)
    ≡ string_bytes l.initial.text ++ flat_map (λ clock. codes " " ++ clock_text clock) l.clocks
