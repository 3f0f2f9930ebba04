use Rattle.rtmfp_forms.proofs.Lists.{complete_from, faults_from, exact_from}
use Rattle.rtmfp_forms.proofs.options.read_options.Goals as goal

pub returns-clause-complete : goal.returns-clause-complete
returns-clause-complete c = complete_from c.args.bytes.now c.listed.result c.listed.ensures

pub returns-clause-faults : goal.returns-clause-faults
returns-clause-faults c = faults_from c.args.bytes.now c.listed.result c.listed.ensures

pub returns-clause-exact : goal.returns-clause-exact
returns-clause-exact c = exact_from c.args.bytes.now c.listed.result c.listed.ensures
