use Rattle.gptp_certificate_text.proofs.WordLemmas.{cut_absent, cut_first, cut_found}
use Rattle.gptp_certificate_text.proofs.words.cut.Goals as goal

pub returns-in-None-clause-absent : goal.returns-in-None-clause-absent
returns-in-None-clause-absent c =
    let front = rw c.length_before.ensures.value at c.split_at.ensures.front in
    cut_absent c.args.octet c.args.text.now _ _ front c.split_at.ensures.by_index.0 c.in-None.ensures.cases

pub returns-in-Some-clause-found : goal.returns-in-Some-clause-found
returns-in-Some-clause-found c =
    let back = rw c.length_before.ensures.value at c.split_at.ensures.back in
    cut_found c.args.octet _ c.args.text.now _ _ _ back c.split_at.ensures.by_index.0 c.in-Some.ensures.cases.0

pub returns-in-Some-clause-first : goal.returns-in-Some-clause-first
returns-in-Some-clause-first c =
    let front = rw c.length_before.ensures.value at c.split_at.ensures.front in
    cut_first c.args.octet c.args.text.now _ front
