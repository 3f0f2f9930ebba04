use Rattle.flow_send.proofs.Calling.{stands}
use Rattle.flow_send.proofs.Holding.{open_wait, rows_count}
use Rattle.flow_send.proofs.laws.calls.Goals as goal

pub returns-clause-last : goal.returns-clause-last
returns-clause-last c first cs one fits = (stands first cs one fits).last

pub returns-clause-rows : goal.returns-clause-rows
returns-clause-rows c first cs one fits = (stands first cs one fits).rows

pub returns-clause-forward : goal.returns-clause-forward
returns-clause-forward c first cs one fits = (stands first cs one fits).forward

pub returns-clause-sent : goal.returns-clause-sent
returns-clause-sent c first cs one fits = (stands first cs one fits).sent

pub returns-clause-waiting : goal.returns-clause-waiting
returns-clause-waiting c first cs one fits = open_wait first cs one fits

pub returns-clause-count : goal.returns-clause-count
returns-clause-count c first cs one fits few = rows_count first cs one fits few
