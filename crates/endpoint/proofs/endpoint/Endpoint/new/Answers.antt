use Rattle.std.proofs.Common.{sym}
use Rattle.endpoint.proofs.Reaching.{reached_new}
use Rattle.endpoint.proofs.endpoint.Endpoint.new.Goals as goal

pub invariant_of-result : goal.invariant_of-result
invariant_of-result c =
    reached_new (record { config = c.args.config; cert = c.args.cert; generation = c.args.generation; secret = c.args.secret; cookie_secret = c.args.cookie_secret }) c.new.result
    (record { cert = c.bytes-form.ensures.form; secret = c.are_thirty_two.ensures; cookie_secret = c.are_thirty_two-2.ensures; sessions = c.requires }) (sym c.new.ensures)
