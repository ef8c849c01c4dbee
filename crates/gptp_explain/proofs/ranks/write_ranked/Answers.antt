use Rattle.std.proofs.Common.{◌≡◌, ◌+◌, ◌∷◌, ◌∙◌, ap, drop, string_bytes, sym}
use Rattle.std.proofs.lemmas.List.{drop_more}
use Rattle.gptp_explain.proofs.RankLemmas.{next_rank}
use Rattle.gptp_explain.proofs.ranks.write_ranked.Goals as goal

pub loop-rank-preserved : goal.loop-rank-preserved
loop-rank-preserved c =
    let ranked = c.args.ranked.now in let rank = c.loop-rank.rank in let id = c.index-ranked-rank.result in
    let rest = drop (rank + 1) ranked in
    let first : drop rank ranked ≡ id ∷ rest =
    drop_more ranked rank id c.loop-rank-test.true ∙ ap (λ one. one ∷ rest) (sym c.index-ranked-rank.is) in
    next_rank c.args.own rank c.loop-rank.before id (drop rank ranked) rest (string_bytes c.loop-rank.text)
    (string_bytes c.write_shown.new.text) _ first c.in_ok-write_shown.ensures c.loop-rank.invariant
