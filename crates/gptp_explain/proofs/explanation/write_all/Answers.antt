use Rattle.std.proofs.Common.{◌++◌, ◌∷◌, [], None, ap₂, ◌∙◌, refl, string_bytes}
use Rattle.gptp_certificate_text.specs.Certificate.{line_of}
use Rattle.gptp_network.specs.Snapshot.{system_of}
use Rattle.gptp_explain.specs.Explained.{explained_system_line}
use Rattle.gptp_explain.specs.Ranks.{rank_lines}
use Rattle.gptp_explain.proofs.SettledLemmas.{best_stated, distance_stated}
use Rattle.gptp_explain.proofs.TextLemmas.{all_parts}
use Rattle.gptp_explain.proofs.explanation.write_all.Goals as goal

pub write_ranks-requires-clause-root : goal.write_ranks-requires-clause-root
write_ranks-requires-clause-root c =
    best_stated c.args.snapshot.now c.args.choice.now.lines c.requires.choice
    (system_of (c.args.own, c.args.ports)).clock
    (line_of c.args.line.now) c.requires.stated

-- the line of the system, its way, and the ranks
pub returns : goal.returns
returns c =
    let g = c.args.snapshot.now in let lines = c.args.choice.now.lines in
    let s = system_of (c.args.own, c.args.ports) in let line = line_of c.args.line.now in
    let (best, is_best, root) = best_stated g lines c.requires.choice s.clock line c.requires.stated in
    let (way, shows, second) = c.in_ok-write_way.ensures in
    let (ranked, are, third) = c.in_ok-write_ranks.ensures in
    let head = ap₂ (λ v r. string_bytes c.new-text.result
    ++ (explained_system_line v c.args.own r line.steps ++ 10 ∷ []))
    c.requires.stated.has root in (
      explained_system_line s.clock c.args.own best.identity line.steps ∷ (way ++ rank_lines c.args.own 0 None ranked),
      record {
        best = best;
        is_best = is_best;
        distance = line.steps;
        is_distance = distance_stated g lines c.requires.choice s.clock line c.requires.stated;
        way = way;
        shows_way = shows;
        ranked = ranked;
        are_ranked = are;
        are = refl;
      },
      all_parts (string_bytes c.new-text.result) (string_bytes c.write_system.new.text)
          (string_bytes c.write_way.new.text)
          (string_bytes c.write_ranks.new.text) (explained_system_line s.clock c.args.own best.identity line.steps) way
          (rank_lines c.args.own 0 None ranked) c.new-text.ensures.bytes
          (c.in_ok-write_system.ensures ∙ head) second third,
    )
