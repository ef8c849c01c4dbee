use Rattle.std.proofs.Common.{◌≡◌, ◌++◌, drop, string_bytes, None}
use Rattle.gptp_words.specs.Lines.{text_of}
use Rattle.gptp_explain.specs.Ranks.{rank_lines}
use Rattle.gptp_explain.proofs.ranks.write_ranked.Given as goal

-- what is written and the lines of those that are left are all that should be written
abbrev pub invariant-loop-rank : goal.invariant-loop-rank
invariant-loop-rank l =
    string_bytes l.text ++ text_of (rank_lines l.own l.rank l.before (drop l.rank l.ranked))
    ≡ string_bytes l.initial.text ++ text_of (rank_lines l.own 0 None l.ranked)
