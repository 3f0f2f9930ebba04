use Rattle.std.proofs.Common.{◌∙◌, ap, sym, refl}
use Rattle.endpoint_model.specs.Event.{Setup}
use Rattle.log_values.specs.Events.{event_of}
use Rattle.log_verdict.specs.Told.{end_of}
use Rattle.log_audit.proofs.Keeping.{end_goes_on}
use Rattle.log_audit.proofs.auditing.judge_at.Goals as goal

pub returns-clause-goes_on : goal.returns-clause-goes_on
returns-clause-goes_on c = λ setups who earlier e is both number.
    end_goes_on c.args.secrets.now setups (record { who = who; event = event_of c.args.event.now }) earlier c.judge_event.result c.args.end.now _ c.args.all.now _ is both refl refl refl
    (c.judge_event.ensures.goes_on (end_of setups) who earlier (record {
      cert_is = ap (λ (s : Setup). s.cert) e ∙ sym c.bytes.ensures.bytes;
      own_is = is.own;
      cookies_are = is.cookies;
      peers_are = ap (λ (s : Setup). s.config.max_peers) e;
      sessions_are = ap (λ (s : Setup). s.config.max_sessions) e;
    }) is.watch both.sent both.nonces)
