use Rattle.vrx_refs.proofs.LawLemmas.{are_near, are_seen_between, are_walked, walks_back}
use Rattle.vrx_refs.proofs.laws.references_are.Goals as goal

pub returns-clause-near : goal.returns-clause-near
returns-clause-near c = are_near

pub returns-clause-walked : goal.returns-clause-walked
returns-clause-walked c = are_walked

pub returns-clause-walks : goal.returns-clause-walks
returns-clause-walks c = walks_back

pub returns-clause-seen : goal.returns-clause-seen
returns-clause-seen c = are_seen_between
