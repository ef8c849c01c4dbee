use Rattle.gptp_faults.proofs.OneLemmas as lemmas
use Rattle.gptp_faults.proofs.laws.one_table.Goals as goal

pub returns : goal.returns
returns c = record {
  table = lemmas.table_once;
  apart = lemmas.never_refused;
  refusal = lemmas.one_refusal;
}
