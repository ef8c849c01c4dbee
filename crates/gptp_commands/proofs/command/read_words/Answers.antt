use Rattle.std.proofs.lemmas.Result.{IfErr-weaker, IfOk-weaker, err_from_is_err_and}
use Rattle.gptp_commands.proofs.CommandLemmas.{asked, not_meant, refused, taken}
use Rattle.gptp_commands.proofs.command.read_words.Goals as goal

pub returns-in_err-matches-clause-refused : goal.returns-in_err-matches-clause-refused
returns-in_err-matches-clause-refused c =
    let passed = err_from_is_err_and c.from_residual-in_err-matches.result c.from_residual-in_err-matches.ensures.1 in
    rw passed.1 (refused _ _ _ passed.0 c.in_ok-grammar.ensures c.in_err-matches.ensures.kinds passed.2)

pub returns-in_err-matches-clause-taken : goal.returns-in_err-matches-clause-taken
returns-in_err-matches-clause-taken c =
    let passed = err_from_is_err_and c.from_residual-in_err-matches.result c.from_residual-in_err-matches.ensures.1 in
    rw passed.1 (taken _ passed.0
    (refused _ _ _ passed.0 c.in_ok-grammar.ensures c.in_err-matches.ensures.kinds passed.2))

pub returns-clause-asks : goal.returns-clause-asks
returns-clause-asks c =
    let ok = c.in_ok-matches.ensures in
    IfOk-weaker c.order_in.result _ _ (λ order. asked _ _ _ order c.in_ok-grammar.ensures ok.matches ok.kinds)
    c.order_in.ensures.asks

pub returns-clause-refused : goal.returns-clause-refused
returns-clause-refused c =
    let ok = c.in_ok-matches.ensures in
    IfErr-weaker c.order_in.result _ _ (λ e. not_meant _ _ _ e c.in_ok-grammar.ensures ok.matches ok.kinds)
    c.order_in.ensures.refused

pub returns-clause-taken : goal.returns-clause-taken
returns-clause-taken c =
    let ok = c.in_ok-matches.ensures in
    IfErr-weaker c.order_in.result _ _
    (λ e wrong. taken _ e (not_meant _ _ _ e c.in_ok-grammar.ensures ok.matches ok.kinds wrong))
    c.order_in.ensures.refused
