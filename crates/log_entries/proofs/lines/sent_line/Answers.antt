use Rattle.std.proofs.Common.{refl, sym, subst, IfOk}
use Rattle.endpoint_model.specs.Event.{Call}
use Rattle.endpoint_laws.specs.Lawful.{OutLine}
use Rattle.log_packets.specs.Asked.{Tells}
use Rattle.log_entries.proofs.Scenes.{caused}
use Rattle.log_entries.proofs.lines.sent_line.Goals as goal

pub returns-clause-tells : goal.returns-clause-tells
returns-clause-tells c = λ setup now e before past way s h.
    subst (λ (x : Call). IfOk c.out_line.result (λ it. Tells (OutLine c.args.secrets.now setup x past c.args.datagram.now c.args.context.now) it)) (sym s.call_is)
    (c.out_line.ensures.tells setup past c.args.scene.now.nonce.now (c.sender-sender.ensures c.args.secrets.now setup now past h.watch s.party_is.cert_is s.party_is.own_is)
    (caused c.args.secrets.now setup now e before past c.args.scene.now c.args.watch.now way s h _ refl refl refl))
