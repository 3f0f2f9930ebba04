use Rattle.rtmfp_node.proofs.serving.serve_node.Goals as goal

pub returns-clause-ends : goal.returns-clause-ends
returns-clause-ends g c = c.take_all.ensures.ends

pub returns-clause-counted : goal.returns-clause-counted
returns-clause-counted g c = c.take_all.ensures.counted

pub returns-clause-passed : goal.returns-clause-passed
returns-clause-passed g c = c.take_all.ensures.passed
