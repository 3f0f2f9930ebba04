use Rattle.std.proofs.Common.{rules}
use Rattle.rtmfp_node.proofs.Running.{sized_by}
use Rattle.rtmfp_node.proofs.serving.node_of.Goals as goal

pub returns-clause-sized : goal.returns-clause-sized
returns-clause-sized c =
    sized_by c.args.words.now c.args.block.now c.cookie_secret_of-cookie_secret.result c.secret_of-secret.result (search rules) (search rules) c.secret_of-secret.ensures.long
    c.cookie_secret_of-cookie_secret.ensures.value c.cookie_secret_of-cookie_secret.ensures.long
